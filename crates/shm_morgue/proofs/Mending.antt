-- a recovery of a dead agent's identity, word step by word step
use Rattle.std.proofs.Common.{◌≡◌, ℕ, ◌+◌, ◌<◌, ◌&&◌, Bool, true, false, cond, List, [], ◌∷◌, ◌++◌, length, inl, inr, refl, sym, ap, ◌∙◌, subst, arith}
use Rattle.std.proofs.lemmas.Bool.{cases_lt}
use Rattle.std.specs.Prelude.{Ok}
use Rattle.shm_graph.specs.declared.{ask.{Me.Me, Turn.{Turn, TheVariants.{More, Done}}}, memo.{Agent.Agent, Fate.Fate}}
use Rattle.shm_graph.specs.declared.memo.{Fate.TheVariants.{Acts, Ended}, Kind.TheVariants.{Client, Recoverer}}
use Rattle.shm_graph.specs.declared.{memo.{Memo.Memo, Status.TheVariants.Gone, Step.Step}, run.Account.Account}
use Rattle.shm_graph.specs.declared.run.LoggedLine.{LoggedLine}
use Rattle.shm_graph.specs.Agents.{acts, acts_by, ended, fallen, is_gone, last_agent, stepped, with_last}
use Rattle.shm_graph.specs.{Asks.{Trail, call_after, call_before, pair}, Changes.asked_spot, Held.is_loose}
use Rattle.shm_graph.specs.Laws.{Stays, is_some, step_of}
use Rattle.shm_graph.specs.Runs.{account_after, account_died, account_entered, begun_by, fell_by, told_by, told_left}
use Rattle.shm_graph.specs.{Tells.after_all, Whole.{fits_now, gives_now}}
use Rattle.shm_graph.proofs.Machines.{Composing.{none_of, some_of}, TellsAlong.after_all-append}
use Rattle.shm_graph.proofs.Memos.MemoSteps.{agents_after, last-append, memo_agents, memo_call, memo_over}
use Rattle.plans.specs.{CallsControl.calls_of, CallsFit.{CallsFits, CallsGives}, Proved.CallsKeep.calls_laws}
use Rattle.kind_parts.specs.Reparting.{map_in}
use Rattle.shm_recover.specs.Machines.Recovering.{recover}
use Rattle.shm_recover.specs.Recover.{Control.{recover_line, recover_parts, recovering, recover_steered}, recover_plan}
use Rattle.shm_recover.proofs.Steady.{recover_steady}
use Rattle.shm_agents.specs.Taken.{HasTaken}
use Rattle.shm_agents.proofs.{Growing.{begun_end, with_last-end}, WorkLaws.recoveries}
use Rattle.shm_agents.proofs.{Recovering.{Recovers, recoverer_first, recoverer_more, recovery}, Taking.took_death}
use Rattle.shm_pool.specs.{Calls.ClientStepped, Endings.Answer, Rescues.{RecoverMachine, Rescuing, account_of}}
use Rattle.shm_pool.specs.Tokens.{recovering_account}
use Rattle.shm_pool.proofs.Calling.{goes_on, is_over}
use Rattle.shm_replay.specs.Closings.{SameTable}
use Rattle.shm_script.specs.Values.{Scripted}
use Rattle.shm_team.specs.Visits.{HasRun}

abbrev pub Fits : RecoverMachine → Memo → Memo → Type 0
Fits = fits_now recover (CallsFits recover_parts recover_plan)

abbrev pub Gives : RecoverMachine → Memo → Memo → Answer → Type 0
Gives = gives_now (CallsGives recover_parts recover_plan)

-- what the recoverer began before the first step of its machine, and behind it
abbrev pub lines_by : Bool → List (List ℕ)
lines_by true = []
lines_by false = recover_line ∷ []

abbrev pub recoverer : ℕ → Fate → Agent
recoverer n fate = record { kind = Recoverer; steps = n; fate = fate }

-- the account f of the recoverer of `me` after n steps of its machine m, behind the agent of the account e; where the turns until then were those of a script's agents, so are those after them
pub record IsMending (me : Me) (e : Account) (n : ℕ) (m : RecoverMachine) (f : Account) : Type 0 where
  pub line : recover.line m ≡ recover_line
  pub going : recover.finished m ≡ false
  pub fits : Fits m (recovering_account e).memo f.memo
  pub agents : f.memo.agents ≡ (account_died e).memo.agents ++ recoverer n Acts ∷ []
  pub begun : f.begun ≡ e.begun ++ lines_by (recover.fresh m) ∷ []
  pub told : told_left (recover.fresh m) f ≡ told_left true e
  pub some : 0 < n → (recover.fresh m ≡ false) × (f.running ≡ recover_line) × (f.memo.over ≡ false)
  pub new : n ≡ 0 → (f ≡ recovering_account e) × (m ≡ recovery me)
  pub course : after_all recover (recovery me) (call_before (recover.fresh m) f.memo.call) ≡ m
  pub taken : 0 < n → (s : Scripted) (first : Account) → HasTaken me s.lines first (account_died e) → HasTaken me s.lines first f

-- the next one came behind the agent of the account e, and died after n word steps
pub record HasFallen (me : Me) (e : Account) (n : ℕ) (f : Account) : Type 0 where
  pub agents : f.memo.agents ≡ (account_died e).memo.agents ++ recoverer n Acts ∷ []
  pub begun : f.begun ≡ e.begun ++ (recover_line ∷ []) ∷ []
  pub line : LoggedLine
  pub is_line : line.line ≡ recover_line
  pub told : told_left true f ≡ told_left true e ++ line ∷ []
  pub table : SameTable e.memo f.memo
  pub taken : (s : Scripted) (first : Account) → HasTaken me s.lines first (account_died e) → HasTaken me s.lines first (account_died f)

-- a rescuer whose recoverer has so many word steps left of all
pub record IsWorking (me : Me) (e : Account) (steps left : ℕ) (r : Rescuing) : Type 0 where
  pub n : ℕ
  pub made : n + left ≡ steps
  pub mending : IsMending me e n r.machine (account_of r.begun r.seat)
  pub begun : 0 < n → r.begun ≡ true

-- one whose agent acted has one that died
died_last : (xs : List Agent) → acts_by (last_agent xs) ≡ true → (fell_by (last_agent (with_last fallen xs)) ≡ true) × (0 < length (with_last fallen xs))
died_last [] e = absurd (cc)
died_last (a ∷ []) e = (refl, omega arith)
died_last (a ∷ b ∷ xs) e = let h = died_last (b ∷ xs) e in (go (with_last fallen (b ∷ xs)) h.1 h.0, omega arith)
  where
    go : (ys : List Agent) → 0 < length ys → fell_by (last_agent ys) ≡ true → fell_by (last_agent (a ∷ ys)) ≡ true
    go [] l f = absurd (omega arith)
    go (y ∷ ys) l f = f

died_fell : (e : Account) → acts e.memo ≡ true → fell_by (last_agent (account_died e).memo.agents) ≡ true
died_fell e on = (died_last e.memo.agents on).0

died_some : (e : Account) → acts e.memo ≡ true → 0 < length (account_died e).memo.agents
died_some e on = (died_last e.memo.agents on).1

module _ (e : Account) (on : acts e.memo ≡ true) where
  entered : recovering_account e ≡ account_entered Recoverer (account_died e)
  entered = ap (λ (b : Bool). account_entered Recoverer (account_died (cond b e (account_entered Client e)))) on

  -- before its first step
  pub mends_first : (me : Me) (m : RecoverMachine) → m ≡ calls_of recover_steered (recovering me) → Fits m (recovering_account e).memo (recovering_account e).memo → IsMending me e 0 m (recovering_account e)
  mends_first me m is fit =
      let fresh : recover.fresh m ≡ true = ap recover.fresh is in
      record {
        line = ap recover.line is;
        going = ap recover.finished is;
        fits = fit;
        agents = ap (λ (a : Account). a.memo.agents) entered;
        begun = ap (λ (a : Account). a.begun) entered ∙ sym (ap (λ (b : Bool). e.begun ++ lines_by b ∷ []) fresh);
        told = ap (λ (b : Bool). told_left b (recovering_account e)) fresh ∙ ap (told_left true) entered;
        some = λ l. absurd (omega arith);
        new = λ z. (refl, is);
        course = ap (λ (b : Bool). after_all recover (recovery me) (call_before b (recovering_account e).memo.call)) fresh ∙ sym is;
        taken = λ l. absurd (omega arith);
      }

  -- the map of the table is what it was
  table_by : (r : Memo) → map_in r.part ≡ map_in (recovering_account e).memo.part → is_loose r.part ≡ is_loose (recovering_account e).memo.part → SameTable e.memo r
  table_by r map loose =
      record {
        map = λ key. ap (λ h. h key) map ∙ ap (λ (a : Account). map_in a.memo.part key) entered;
        loose = loose ∙ ap (λ (a : Account). is_loose a.memo.part) entered;
      }

  module _ (me : Me) (n : ℕ) (m : RecoverMachine) (f : Account) (h : IsMending me e n m f) where
    -- what is accounted for of it once it has made a word step
    acts_on : 0 < n → Recovers f
    acts_on l =
        let (old, running, over) = h.some l in
        record {
          steps = n;
          before = (account_died e).memo.agents;
          agents = h.agents;
          some = died_some e on;
          begun = e.begun;
          line = recover_line;
          is_begun = h.begun ∙ ap (λ (b : Bool). e.begun ++ lines_by b ∷ []) old;
          over = over;
        }

    within : 0 < n → after_all recover (recovery me) f.memo.call ≡ m
    within l = ap (λ (b : Bool). after_all recover (recovery me) (call_before b f.memo.call)) (sym (h.some l).0) ∙ h.course

    -- it dies there
    pub mends_falls : 0 < n → HasFallen me e n f
    mends_falls l =
        let (old, running, over) = h.some l in
        let same = recover_steady m (recovering_account e).memo f.memo (call_before (recover.fresh m) f.memo.call) h.going h.fits in
        record {
          agents = h.agents;
          begun = h.begun ∙ ap (λ (b : Bool). e.begun ++ lines_by b ∷ []) old;
          line = record { line = recover_line; trail = f.memo.call; finished = false };
          is_line = refl;
          told = ap (λ (line : List ℕ). told_by line f.memo.call false f.told) running ∙ ap (λ (ts : List LoggedLine). told_by recover_line f.memo.call false ts) (sym (ap (λ (b : Bool). told_left b f) old) ∙ h.told);
          table = table_by f.memo same.0 same.1;
          taken = λ s first before. took_death me s.lines first f (h.taken l s first before) (ap (λ (xs : List Agent). acts_by (last_agent xs)) h.agents ∙ ap acts_by (last-append (account_died e).memo.agents (recoverer n Acts)));
        }

    -- one more step
    module _ (f2 : Account) (t : Turn Answer) (m2 : RecoverMachine) (x : ClientStepped recover Fits Gives m f f2 t m2) where
      abbrev u : Step
      u = step_of recover m x.seen

      st : Stays recover m x.seen
      st = (calls_laws recover_parts recover_plan recoveries).steady m x.seen h.going

      begun_after : f2.begun ≡ e.begun ++ (recover_line ∷ []) ∷ []
      begun_after = ap (λ (a : Account). a.begun) x.account ∙ go (recover.fresh m) h.begun
        where
          go : (b : Bool) → f.begun ≡ e.begun ++ lines_by b ∷ [] → cond b (begun_by (recover.line m) f.begun) f.begun ≡ e.begun ++ (recover_line ∷ []) ∷ []
          go true is = ap (begun_by (recover.line m)) is ∙ (begun_end (recover.line m) e.begun [] ∙ ap (λ (line : List ℕ). e.begun ++ (line ∷ []) ∷ []) h.line)
          go false is = is

      agents_by : (b : Bool) → (is_gone (account_after f u).memo.status && u.ends) ≡ b → f2.memo.agents ≡ agents_after b ((account_died e).memo.agents ++ recoverer n Acts ∷ [])
      agents_by b is =
          ap (λ (a : Account). a.memo.agents) x.account
          ∙ (memo_agents f.memo u (asked_spot f.memo u)
          ∙ (ap (λ (z : Bool). agents_after z f.memo.agents) is ∙ ap (agents_after b) h.agents))

      no_end : (b d : Bool) → d ≡ false → (b && d) ≡ false
      no_end true d is = is
      no_end false d is = refl

      both : (b d : Bool) → b ≡ true → d ≡ true → (b && d) ≡ true
      both true d is on = on
      both false d is on = is

      told_after : (b : Bool) → u.ends ≡ b → f2.told ≡ cond b (told_by recover_line (call_after u.fresh f.memo.call u.ask u.seen) true (told_left true e)) (told_left true e)
      told_after b is =
          ap (λ (a : Account). a.told) x.account
          ∙ (ap (λ (z : Bool). cond z (told_by u.line (call_after u.fresh f.memo.call u.ask u.seen) true (told_left u.fresh f)) (told_left u.fresh f)) is
          ∙ (ap (λ (ts : List LoggedLine). cond b (told_by u.line (call_after u.fresh f.memo.call u.ask u.seen) true ts) ts) h.told
          ∙ ap (λ (line : List ℕ). cond b (told_by line (call_after u.fresh f.memo.call u.ask u.seen) true (told_left true e)) (told_left true e)) h.line))

      running_after : (b : Bool) → u.ends ≡ b → f2.running ≡ cond b [] recover_line
      running_after b is = ap (λ (a : Account). a.running) x.account ∙ (ap (λ (z : Bool). cond z [] u.line) is ∙ ap (λ (line : List ℕ). cond b [] line) h.line)

      -- which is the one of a script's recoverer
      pub taken_on : (s : Scripted) (first : Account) → HasTaken me s.lines first (account_died e) → HasTaken me s.lines first f2
      taken_on s first before =
          subst (HasTaken me s.lines first) (sym x.account)
          (elim (cases_lt 0 n) [
            | inl l ↦ recoverer_more me s first f (h.taken l s first before) (acts_on l) m (within l) x.seen
            | inr z ↦ (
                let (here, new) = h.new (omega arith) in
                let at : f ≡ account_entered Recoverer (account_died e) = here ∙ entered in
                subst (λ (a : Account). HasTaken me s.lines first (account_after a (step_of recover m x.seen))) (sym at)
                (subst (λ (k : RecoverMachine). HasTaken me s.lines first (account_after (account_entered Recoverer (account_died e)) (step_of recover k x.seen))) (sym new)
                (recoverer_first me s first (account_died e) before (died_fell e on) (died_some e on) x.seen))
                )
          ])

      course_on : recover.fresh m2 ≡ false → after_all recover (recovery me) (call_before (recover.fresh m2) f2.memo.call) ≡ m2
      course_on old =
          let tr : Trail = call_before (recover.fresh m) f.memo.call in
          let call : f2.memo.call ≡ tr ++ pair u.ask u.seen ∷ [] = ap (λ (a : Account). a.memo.call) x.account ∙ memo_call f.memo u (asked_spot f.memo u) in
          ap (λ (b : Bool). after_all recover (recovery me) (call_before b f2.memo.call)) old
          ∙ (ap (after_all recover (recovery me)) call
          ∙ (after_all-append recover (recovery me) tr (pair u.ask u.seen)
          ∙ (ap (λ (k : RecoverMachine). recover.after k x.seen) h.course ∙ sym x.next)))

      -- after which it goes on
      pub mends_more : t ≡ More → IsMending me e (n + 1) m2 f2
      mends_more is =
          let none = none_of (recover.turns m x.seen) (sym x.turn ∙ is) in
          let off : u.ends ≡ false = st.ends ∙ ap is_some none in
          let old : recover.fresh m2 ≡ false = ap recover.fresh x.next ∙ st.started in
          record {
            line = ap recover.line x.next ∙ (st.same_line ∙ h.line);
            going = ap recover.finished x.next ∙ off;
            fits = goes_on recover Fits Gives m f f2 t m2 (recovering_account e).memo h.fits x none;
            agents = agents_by false (no_end (is_gone (account_after f u).memo.status) u.ends off) ∙ with_last-end stepped (account_died e).memo.agents (recoverer n Acts);
            begun = begun_after ∙ sym (ap (λ (b : Bool). e.begun ++ lines_by b ∷ []) old);
            told = ap (λ (b : Bool). told_left b f2) old ∙ told_after false off;
            some = λ l. (old, running_after false off, ap (λ (a : Account). a.memo.over) x.account ∙ (memo_over f.memo u (asked_spot f.memo u) ∙ off));
            new = λ z. absurd (omega arith);
            course = course_on old;
            taken = λ l s first before. taken_on s first before;
          }

      -- which is the last one: the identity is gone
      gave : t ≡ Done (Ok tt) → Gives m (recovering_account e).memo f2.memo (Ok tt)
      gave is = is_over recover Fits Gives m f f2 t m2 (recovering_account e).memo (Ok tt) h.fits x (some_of (recover.turns m x.seen) (Ok tt) (sym x.turn ∙ is))

      pub mends_gone : t ≡ Done (Ok tt) → f2.memo.status ≡ Gone
      mends_gone is = (gave is).leaves.status

      abbrev whole : LoggedLine
      whole = record { line = recover_line; trail = call_after u.fresh f.memo.call u.ask u.seen; finished = true }

      pub mends_ends : t ≡ Done (Ok tt) → (r : HasRun Recoverer (recover_line ∷ []) Ended (account_died e) f2) × (r.steps ≡ n + 1)
      mends_ends is =
          let some = some_of (recover.turns m x.seen) (Ok tt) (sym x.turn ∙ is) in
          let over : u.ends ≡ true = st.ends ∙ ap is_some some in
          let gone : is_gone (account_after f u).memo.status ≡ true = ap (λ (a : Account). is_gone a.memo.status) (sym x.account) ∙ ap is_gone (mends_gone is) in
          let left = (gave is).leaves in (
            record {
              steps = n + 1;
              agents = agents_by true (both (is_gone (account_after f u).memo.status) u.ends gone over)
                  ∙ (ap (with_last ended) (with_last-end stepped (account_died e).memo.agents (recoverer n Acts)) ∙ with_last-end ended (account_died e).memo.agents (recoverer (n + 1) Acts));
              begun = begun_after;
              more = whole ∷ [];
              told = told_after true over;
              aside = (inr (inr (inr refl)), tt);
              rests = running_after true over;
              table = (let same = table_by f2.memo left.map left.loose in record { map = same.map; loose = same.loose });
            },
            refl,
          )

-- before its first step
pub works_first : (e : Account) (me : Me) (steps left : ℕ) (r : Rescuing) → acts e.memo ≡ true → left ≡ steps → r.begun ≡ false → r.seat ≡ e → r.machine ≡ calls_of recover_steered (recovering me) → Fits r.machine (recovering_account e).memo (recovering_account e).memo → IsWorking me e steps left r
works_first e me steps left r on all fresh seat is fit =
    record {
      n = 0;
      made = omega arith;
      mending = subst (IsMending me e 0 r.machine) (λ i. account_of (sym fresh i) (sym seat i)) (mends_first e on me r.machine is fit);
      begun = λ one. absurd (omega arith);
    }
