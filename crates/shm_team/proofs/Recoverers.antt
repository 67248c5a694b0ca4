-- the word steps of a recoverer that comes behind a script's agents are turns of the script's agents
use Rattle.std.proofs.Common.{◌≡◌, ◌+◌, ◌<◌, ◌&&◌, Bool, true, false, cond, List, [], ◌∷◌, ◌++◌, length, refl, sym, ap, ◌∙◌, subst, arith}
use Rattle.shm_graph.specs.declared.{ask.Me.Me, memo.{Agent.Agent, Fate.TheVariants.Acts, Kind.TheVariants.Recoverer}}
use Rattle.shm_graph.specs.declared.{memo.Step.Step, run.Account.Account}
use Rattle.shm_graph.specs.{Agents.{is_gone, last_agent, stepped, with_last}, Asks.{call_before, pair}}
use Rattle.shm_graph.specs.{Changes.asked_spot, Laws.step_of, Tells.{after_all, machine_steps}}
use Rattle.shm_graph.specs.Runs.{account_after, account_entered, begun_by, fell_by}
use Rattle.shm_graph.proofs.Machines.TellsAlong.{after_all-append}
use Rattle.shm_graph.proofs.Memos.MemoSteps.{agents_after, memo_agents, memo_call, memo_over}
use Rattle.shm_recover.specs.Machines.Recovering.{recover}
use Rattle.shm_script.specs.Values.{Scripted}
use Rattle.shm_agents.specs.{Taken.HasTaken, Work.RecoverCalls}
use Rattle.shm_agents.proofs.Growing.{begun_end, with_last-end}
use Rattle.shm_agents.proofs.Recovering.{Recovers, recoverer_first, recoverer_more, recovery}
use Rattle.shm_pool.specs.Calls.{Ending, Going, Shown, accounts_by, fresh_after, pairs}

first_same : (t u : Step) (ts us : List Step) → t ∷ ts ≡ u ∷ us → t ≡ u
first_same t u ts us e = cc

rest_same : (t u : Step) (ts us : List Step) → t ∷ ts ≡ u ∷ us → ts ≡ us
rest_same t u ts us e = cc

no_end : (b d : Bool) → d ≡ false → (b && d) ≡ false
no_end true d e = e
no_end false d e = refl

-- a machine that has made a step isn't fresh
old_still : (ts : List Step) → fresh_after false ts ≡ false
old_still [] = refl
old_still (t ∷ ts) = refl

-- a step that doesn't end its machine leaves a recoverer that acts
goes_on : (f : Account) (t : Step) → t.fresh ≡ false → t.ends ≡ false → Recovers f → Recovers (account_after f t)
goes_on f t old off is =
    let it : Agent = record { kind = Recoverer; steps = is.steps; fate = Acts } in
    record {
      steps = is.steps + 1;
      before = is.before;
      agents = memo_agents f.memo t (asked_spot f.memo t)
          ∙ (ap (λ (b : Bool). agents_after b f.memo.agents) (no_end (is_gone (account_after f t).memo.status) t.ends off)
          ∙ (ap (with_last stepped) is.agents ∙ with_last-end stepped is.before it));
      some = is.some;
      begun = is.begun;
      line = is.line;
      is_begun = ap (λ (b : Bool). cond b (begun_by t.line f.begun) f.begun) old ∙ is.is_begun;
      over = memo_over f.memo t (asked_spot f.memo t) ∙ off;
    }

-- and its first one does
begins_so : (e : Account) (t : Step) → t.fresh ≡ true → t.ends ≡ false → 0 < length e.memo.agents → Recovers (account_after (account_entered Recoverer e) t)
begins_so e t new off some =
    let r : Account = account_entered Recoverer e in
    let it : Agent = record { kind = Recoverer; steps = 0; fate = Acts } in
    record {
      steps = 1;
      before = e.memo.agents;
      agents = memo_agents r.memo t (asked_spot r.memo t)
          ∙ (ap (λ (b : Bool). agents_after b r.memo.agents) (no_end (is_gone (account_after r t).memo.status) t.ends off) ∙ with_last-end stepped e.memo.agents it);
      some = some;
      begun = e.begun;
      line = t.line;
      is_begun = ap (λ (b : Bool). cond b (begun_by t.line r.begun) r.begun) new ∙ begun_end t.line e.begun [];
      over = memo_over r.memo t (asked_spot r.memo t) ∙ off;
    }

module _ (me : Me) (s : Scripted) (first : Account) where
  -- the machine is where its call has led it
  abbrev IsAt : Account → RecoverCalls → Type 0
  IsAt f m = after_all recover (recovery me) f.memo.call ≡ m

  at_next : (f : Account) (m : RecoverCalls) (t : Step) → t.fresh ≡ false → IsAt f m → IsAt (account_after f t) (recover.after m t.seen)
  at_next f m t old at =
      ap (after_all recover (recovery me)) (memo_call f.memo t (asked_spot f.memo t) ∙ ap (λ (b : Bool). call_before b f.memo.call ++ pair t.ask t.seen ∷ []) old)
      ∙ (after_all-append recover (recovery me) f.memo.call (pair t.ask t.seen) ∙ ap (λ (k : RecoverCalls). recover.after k t.seen) at)

  -- further steps, and the last one of them that may end it
  pub steps_on : (q : Shown) (ts last : List Step) (f : Account) (m : RecoverCalls) → HasTaken me s.lines first f → Recovers f → IsAt f m → Going q false ts → (over : Bool) → Ending q (fresh_after false ts) over last → ts ++ last ≡ machine_steps recover m (pairs (ts ++ last)) → HasTaken me s.lines first (accounts_by f (ts ++ last))
  steps_on q [] [] f m h is at goes over ends steps = h
  steps_on q [] (t ∷ []) f m h is at goes over ends steps =
      subst (λ (z : Step). HasTaken me s.lines first (account_after f z)) (sym (first_same t (step_of recover m t.seen) [] (machine_steps recover (recover.after m t.seen) []) steps)) (recoverer_more me s first f h is m at t.seen)
  steps_on q [] (t ∷ u ∷ us) f m h is at goes true ends steps = absurd ends
  steps_on q [] (t ∷ u ∷ us) f m h is at goes false ends steps = absurd ends
  steps_on q (t ∷ ts) last f m h is at goes over ends steps =
      let rest : List Step = machine_steps recover (recover.after m t.seen) (pairs (ts ++ last)) in
      let one = subst (λ (z : Step). HasTaken me s.lines first (account_after f z)) (sym (first_same t (step_of recover m t.seen) (ts ++ last) rest steps)) (recoverer_more me s first f h is m at t.seen) in
      steps_on q ts last (account_after f t) (recover.after m t.seen) one (goes_on f t goes.0.first goes.1 is) (at_next f m t goes.0.first at) goes.2 over (subst (λ (z : Bool). Ending q z over last) (sym (old_still ts)) ends) (rest_same t (step_of recover m t.seen) (ts ++ last) rest steps)

  -- all of a recovery behind the account e, of which the last agent died
  module _ (e : Account) (h : HasTaken me s.lines first e) (fell : fell_by (last_agent e.memo.agents) ≡ true) (some : 0 < length e.memo.agents) where
    start_by : (t : Step) → t ≡ step_of recover (recovery me) t.seen → HasTaken me s.lines first (account_after (account_entered Recoverer e) t)
    start_by t is = subst (λ (z : Step). HasTaken me s.lines first (account_after (account_entered Recoverer e) z)) (sym is) (recoverer_first me s first e h fell some t.seen)

    at_first : (t : Step) → t.fresh ≡ true → IsAt (account_after (account_entered Recoverer e) t) (recover.after (recovery me) t.seen)
    at_first t new =
        let r : Account = account_entered Recoverer e in
        ap (after_all recover (recovery me)) (memo_call r.memo t (asked_spot r.memo t) ∙ ap (λ (b : Bool). call_before b r.memo.call ++ pair t.ask t.seen ∷ []) new)

    pub recovery_taken : (q : Shown) (ts last : List Step) → 0 < length (ts ++ last) → Going q true ts → (over : Bool) → Ending q (fresh_after true ts) over last → ts ++ last ≡ machine_steps recover (recovery me) (pairs (ts ++ last)) → HasTaken me s.lines first (accounts_by (account_entered Recoverer e) (ts ++ last))
    recovery_taken q [] [] long goes over ends steps = absurd (omega arith)
    recovery_taken q [] (t ∷ []) long goes over ends steps = start_by t (first_same t (step_of recover (recovery me) t.seen) [] (machine_steps recover (recover.after (recovery me) t.seen) []) steps)
    recovery_taken q [] (t ∷ u ∷ us) long goes true ends steps = absurd ends
    recovery_taken q [] (t ∷ u ∷ us) long goes false ends steps = absurd ends
    recovery_taken q (t ∷ ts) last long goes over ends steps =
        let rest : List Step = machine_steps recover (recover.after (recovery me) t.seen) (pairs (ts ++ last)) in
        let one = start_by t (first_same t (step_of recover (recovery me) t.seen) (ts ++ last) rest steps) in
        steps_on q ts last (account_after (account_entered Recoverer e) t) (recover.after (recovery me) t.seen) one (begins_so e t goes.0.first goes.1 some) (at_first t goes.0.first) goes.2 over (subst (λ (z : Bool). Ending q z over last) (sym (old_still ts)) ends) (rest_same t (step_of recover (recovery me) t.seen) (ts ++ last) rest steps)
