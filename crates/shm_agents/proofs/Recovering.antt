-- recoverers that come behind agents that died take the turns of the script, whoever runs them
use Rattle.std.proofs.Common.{◌≡◌, ℕ, ◌+◌, ◌-◌, ◌<◌, Bool, true, false, cond, List, [], ◌∷◌, ◌++◌, length, length-append, refl, ap, ◌∙◌, subst, arith}
use Rattle.std.specs.Prelude.{Some, None}
use Rattle.shm_graph.specs.declared.{ask.Me.Me, memo.{Agent.Agent, Fate.TheVariants.Acts}}
use Rattle.shm_graph.specs.declared.{memo.Kind.TheVariants.{Client, Recoverer}, run.Account.Account}
use Rattle.shm_graph.specs.{Agents.{acts, acts_by, last_agent}, Laws.step_of}
use Rattle.shm_graph.specs.{Runs.{account_after, account_entered, fell_by}, Tells.after_all}
use Rattle.shm_graph.proofs.Memos.MemoSteps.{last-append}
use Rattle.plans.specs.{declared.or.Or.TheVariants.{First, Second}, CallsControl.{calls_control, calls_of}}
use Rattle.plans.specs.Either.{or_control}
use Rattle.shm_plain.specs.{Tracks.kind_next, Working.ready_account}
use Rattle.shm_recover.specs.{Join.join_control, Leave.Control.{leave_parts, leave_steered}}
use Rattle.shm_recover.specs.{Machines.Recovering.recover, Recover.Control.{recover_parts, recovering, recover_steered}}
use Rattle.shm_script.specs.Values.{Scripted}
use Rattle.shm_table.specs.Command.{command_control}
use Rattle.shm_agents.specs.{Taken.{HasTaken, work_next}, Turns.{agent_of, begun_last, ended_by, first_of, work_at}}
use Rattle.shm_agents.specs.Work.{RecoverCalls, Work, recover_work, work_control, work_of}
use Rattle.shm_agents.proofs.Standing.{fell_dead, fell_quiet, last_begun, later_first, later_work, within}
use Rattle.shm_agents.proofs.{Taking.took_word, Trails.{after_first, after_second}}

-- the recovery of an identity before its first word step
abbrev pub recovery : Me → RecoverCalls
recovery me = calls_of recover_steered (recovering me)

-- a recoverer acts behind others, and is within its recovery
pub record Recovers (f : Account) : Type 0 where
  pub steps : ℕ
  pub before : List Agent
  pub agents : f.memo.agents ≡ before ++ record { kind = Recoverer; steps = steps; fate = Acts } ∷ []
  pub some : 0 < length before
  pub begun : List (List (List ℕ))
  pub line : List ℕ
  pub is_begun : f.begun ≡ begun ++ (line ∷ []) ∷ []
  pub over : f.memo.over ≡ false

module _ (me : Me) (s : Scripted) (first : Account) where
  -- ---- its first word step, where the last agent died

  module _ (e : Account) (h : HasTaken me s.lines first e) (fell : fell_by (last_agent e.memo.agents) ≡ true) (some : 0 < length e.memo.agents) where
    quiet : acts e.memo ≡ false
    quiet = fell_quiet (last_agent e.memo.agents) fell

    at : agent_of e.memo ≡ length e.memo.agents
    at = ap (λ (b : Bool). cond b (length e.memo.agents - 1) (length e.memo.agents)) quiet

    next : work_next me s.lines e ≡ Some (recover_work me)
    next =
        ap (λ (b : Bool). cond b (work_at (work_of me s.lines (agent_of e.memo)) e) (cond (ended_by (last_agent e.memo.agents)) None (Some (first_of me (agent_of e.memo))))) quiet
        ∙ (ap (λ (b : Bool). cond b None (Some (first_of me (agent_of e.memo)))) (fell_dead (last_agent e.memo.agents) fell)
        ∙ ap Some (ap (first_of me) at ∙ later_first me (length e.memo.agents) some))

    ready : ready_account e ≡ account_entered Recoverer e
    ready =
        ap (λ (b : Bool). cond b e (account_entered (kind_next e.memo) e)) quiet
        ∙ ap (λ (b : Bool). account_entered (cond b Recoverer Client) e) fell

    pub recoverer_first : (n : ℕ) → HasTaken me s.lines first (account_after (account_entered Recoverer e) (step_of recover (recovery me) n))
    recoverer_first n =
        subst (λ (z : Account). HasTaken me s.lines first (account_after z (step_of recover (recovery me) n))) ready
        (took_word me s.lines first e h (recover_work me) next n)

  -- ---- and each further one

  module _ (f : Account) (h : HasTaken me s.lines first f) (is : Recovers f) (m : RecoverCalls) (course : after_all recover (recovery me) f.memo.call ≡ m) where
    abbrev it : Agent
    it = record { kind = Recoverer; steps = is.steps; fate = Acts }

    acting : acts f.memo ≡ true
    acting = ap acts_by (ap last_agent is.agents ∙ last-append is.before (record { kind = Recoverer; steps = is.steps; fate = Acts }))

    number : agent_of f.memo ≡ length is.before
    number =
        let long : length f.memo.agents ≡ length is.before + 1 = ap length is.agents ∙ length-append is.before (it ∷ []) in
        ap (λ (b : Bool). cond b (length f.memo.agents - 1) (length f.memo.agents)) acting ∙ (omega arith)

    work : work_next me s.lines f ≡ Some (First (Second m))
    work =
        let along : after_all work_control (recover_work me) f.memo.call ≡ First (Second m) =
        after_first (or_control join_control (calls_control recover_parts recover_steered)) (or_control command_control (calls_control leave_parts leave_steered)) (Second (recovery me)) f.memo.call
        ∙ ap First (after_second join_control (calls_control recover_parts recover_steered) (recovery me) f.memo.call ∙ ap Second course) in
        ap (λ (b : Bool). cond b (work_at (work_of me s.lines (agent_of f.memo)) f) (cond (ended_by (last_agent f.memo.agents)) None (Some (first_of me (agent_of f.memo))))) acting
        ∙ (ap (λ (k : ℕ). work_at (work_of me s.lines k) f) number
        ∙ (ap (λ (ws : List Work). work_at ws f) (later_work me s.lines (length is.before) is.some)
        ∙ (within_last ∙ ap Some along)))
      where
        within_last : work_at (recover_work me ∷ []) f ≡ Some (after_all work_control (recover_work me) f.memo.call)
        within_last = within me s f (recover_work me ∷ []) 0 (recover_work me) is.over (ap (λ bs. begun_last bs - 1) is.is_begun ∙ ap (λ (k : ℕ). k - 1) (last_begun is.begun (is.line ∷ []))) refl

    pub recoverer_more : (n : ℕ) → HasTaken me s.lines first (account_after f (step_of recover m n))
    recoverer_more n =
        subst (λ (z : Account). HasTaken me s.lines first (account_after z (step_of recover m n))) (ap (λ (b : Bool). cond b f (account_entered (kind_next f.memo) f)) acting)
        (took_word me s.lines first f h (First (Second m)) work n)
