-- word steps of a recoverer: its first one, one after which it goes on, and its last one
use Rattle.std.proofs.Common.{◌≡◌, ℕ, suc, ◌+◌, ◌^◌, ◌<◌, ◌≤◌, ◌&&◌, Bool, true, false, cond, List, [], ◌∷◌, ◌++◌, length, take, append-nil, refl, sym, ap, ◌∙◌, subst, arith, inl, inr, Result}
use Rattle.std.proofs.lemmas.List.Sums.{sum_by-append, sum_by-cons, sum_by-take-le}
use Rattle.std.specs.Prelude.{Some, None, Ok, Err, drop, slice_get, sum}
use Rattle.shm_words.specs.{declared.geometry.Geometry.Geometry, Layout.GeometryFits}
use Rattle.shm_graph.specs.declared.{ask.{Life.Life, Me.Me}, memo.{Agent.Agent, Fate.Fate, Kind.TheVariants.Recoverer}}
use Rattle.shm_graph.specs.declared.{memo.{Memo.Memo, Status.Status as AStatus, Step.Step}, run.Account.Account}
use Rattle.shm_graph.specs.declared.{run.{LoggedLine.LoggedLine, Start.Start}, spot.Spot.TheVariants.Era}
use Rattle.shm_graph.specs.Agents.{ended, is_gone, stepped, steps_made, steps_of, with_last}
use Rattle.shm_graph.specs.{Asks.{Trail, call_before, pair}, Laws.{Stays, is_some, step_of}}
use Rattle.shm_graph.specs.{Runs.{account_after, account_entered, begun_by, told_by, told_left}, Tells.after_all}
use Rattle.shm_graph.specs.{Views.own_word, Whole.{fits_now, gives_now}}
use Rattle.shm_graph.specs.declared.memo.Fate.TheVariants as fate
use Rattle.shm_graph.proofs.{Machines.TellsAlong.after_all-append, Memos.MemoSteps.{agents_after, recovers-entered}}
use Rattle.plans.specs.{declared.or.Or.TheVariants.{First, Second}, CallsControl.{calls_control, calls_of}}
use Rattle.plans.specs.{Proved.CallsKeep.calls_begin, Either.or_control}
use Rattle.shm_count.specs.{declared.answer.EraSpent.EraSpent, Steady.SameMap}
use Rattle.shm_recover.specs.{Join.join_control, Leave.Control.{leave_parts, leave_steered}}
use Rattle.shm_recover.specs.Machines.Recovering.{RecoverGives}
use Rattle.shm_recover.specs.Recover.{Control.{recover_line, recover_parts, recovering, recover_steered}, recover_plan}
use Rattle.shm_recover.specs.Proved.Recover.Laws.{recover_begin}
use Rattle.shm_recover.proofs.Steady.{recover_steady}
use Rattle.shm_script.specs.Values.{Scripted}
use Rattle.shm_table.specs.Command.{command_control}
use Rattle.shm_agents.specs.declared.agents.Standing.TheVariants.{AtWork, Dead, Gone}
use Rattle.shm_agents.specs.Agents.{IsFallen, IsMended, IsMending, IsSettled, MayPlay, Playing, logged}
use Rattle.shm_agents.specs.Courses.{AreAgents, AreCommandsTold, AreScriptAgents}
use Rattle.shm_agents.specs.{Logs.{BeganWith, begun_first, steps_first}, Turns.lives_of}
use Rattle.shm_agents.specs.Work.{RecoverCalls, Work, WorkAnswer, WorkFits, WorkGives, recover_work, work_control}
use Rattle.shm_agents.proofs.Courses.{agents_more, around, told_aside}
use Rattle.shm_agents.proofs.Growing.{began_last, began_more, begun_end, first_more, first_steps, log_on, steps_of-end, sum_more, with_last-end}
use Rattle.shm_agents.proofs.{Trails.{after_first, after_second}, WorkLaws.{recoveries, work_laws}}

never : (b : Bool) → (b && false) ≡ false
never true = refl
never false = refl

-- ---- the map while a recovery runs

module _ (me : Me) (tr : Trail) (w : Work) (course : after_all work_control (recover_work me) tr ≡ w) (going : work_control.finished w ≡ false) where
  abbrev call : RecoverCalls
  call = after_all (calls_control recover_parts recover_steered) (calls_of recover_steered (recovering me)) tr

  is_call : w ≡ First (Second call)
  is_call =
      sym course
      ∙ (after_first (or_control join_control (calls_control recover_parts recover_steered)) (or_control command_control (calls_control leave_parts leave_steered)) (Second (calls_of recover_steered (recovering me))) tr
      ∙ ap First (after_second join_control (calls_control recover_parts recover_steered) (calls_of recover_steered (recovering me)) tr))

  mending_table : (r0 r : Memo) (t : Trail) → WorkFits w r0 r t → SameMap r0 r
  mending_table r0 r t fit = recover_steady call r0 r t (ap (λ (z : Work). work_control.finished z) (sym is_call) ∙ going) (subst (λ (z : Work). WorkFits z r0 r t) is_call fit)

-- ---- a recoverer begins

module _ (start : Start) (s : Scripted) (x : Playing) (e : Account) (may : MayPlay start s x) (h : IsFallen s x e) (here : x.standing ≡ AtWork) where
  -- the account once it has begun
  abbrev pub e1 : Account
  e1 = account_entered Recoverer e

  -- it has this life, and its work is a recovery
  comes : (slice_get (lives_of s.life) x.agent ≡ Some x.life.left) × (x.work ≡ recover_work x.me)
  comes =
      elim h.next [
        | inl d ↦ absurd (let z : AtWork ≡ Dead = sym here ∙ d.0 in cc)
        | inr c ↦ (c.1, c.2)
      ]

  geometry : GeometryFits x.me.geometry
  geometry = subst GeometryFits (sym may.me) may.geometry

  who : x.me.who < x.me.geometry.clients
  who = subst (λ (g : Geometry). x.me.who < g.clients) (sym may.me) may.who

  -- its recovery fits its memo
  pub mend_fits : fits_now work_control WorkFits x.work e1.memo e1.memo
  mend_fits =
      subst (λ (z : Work). fits_now work_control WorkFits z e1.memo e1.memo) (sym comes.1)
      (calls_begin recover_parts recover_plan recoveries (recovering x.me) e1.memo refl refl (recover_begin x.me e1.memo (record { geometry = geometry; who = who; recoverer = recovers-entered Recoverer e.memo })))

  -- and isn't over with its first word step
  pub mend_starts : (n : ℕ) → work_control.turns x.work n ≡ None
  mend_starts n = ap (λ (z : Work). work_control.turns z n) comes.1

  -- that step was made
  module _ (n : ℕ) (life : Life) (spent : life.left + 1 ≡ x.life.left) where
    abbrev t : Step
    t = step_of work_control x.work n

    abbrev e_first : Account
    e_first = account_after e1 t

    abbrev first_work : Work
    first_work = work_control.after x.work n

    first_going : work_control.finished x.work ≡ false
    first_going = ap (λ (z : Work). work_control.finished z) comes.1

    new : t.fresh ≡ true
    new = ap (λ (z : Work). work_control.fresh z) comes.1

    first_stays : Stays work_control x.work n
    first_stays = work_laws.steady x.work n first_going

    first_line : t.line ≡ recover_line
    first_line = ap (λ (z : Work). work_control.line z) comes.1

    first_goes : t.ends ≡ false
    first_goes = first_stays.ends ∙ ap is_some (mend_starts n)

    first_told : e_first.told ≡ told_left true e
    first_told = ap (λ (b : Bool). cond b (told_by t.line e_first.memo.call true (told_left t.fresh e1)) (told_left t.fresh e1)) first_goes ∙ ap (λ (b : Bool). told_left b e1) new

    first_lines : e_first.begun ≡ e.begun ++ (t.line ∷ []) ∷ []
    first_lines = ap (λ (b : Bool). cond b (begun_by t.line e1.begun) e1.begun) new ∙ begun_end t.line e.begun []

    agents_first : e_first.memo.agents ≡ e.memo.agents ++ record { kind = Recoverer; steps = 1; fate = fate.Acts } ∷ []
    agents_first =
        ap (λ (b : Bool). agents_after b e1.memo.agents) (ap (λ (b : Bool). is_gone e_first.memo.status && b) first_goes ∙ never (is_gone e_first.memo.status))
        ∙ with_last-end stepped e.memo.agents (record { kind = Recoverer; steps = 0; fate = fate.Acts })

    -- the client's word steps stay
    first_made : steps_first e_first.memo.agents ≡ steps_first e.memo.agents
    first_made = ap steps_first agents_first ∙ first_steps e.memo.agents (record { kind = Recoverer; steps = 1; fate = fate.Acts } ∷ []) (let m = h.many in let o = h.some in omega arith)

    first_course : after_all work_control (recover_work x.me) e_first.memo.call ≡ first_work
    first_course =
        ap (λ (b : Bool). after_all work_control (recover_work x.me) (call_before b e1.memo.call ++ pair t.ask n ∷ [])) new
        ∙ ap (λ (z : Work). work_control.after z n) (sym comes.1)

    module _ (fit : fits_now work_control WorkFits first_work e1.memo e_first.memo) where
      first_same : SameMap e1.memo e_first.memo
      first_same = mending_table x.me e_first.memo.call first_work first_course first_goes e1.memo e_first.memo (call_before (work_control.fresh first_work) e_first.memo.call) fit

      pub first_settled : IsSettled s x e (told_left true e) → IsSettled s (record x { work = first_work; life = life }) e_first e_first.told
      first_settled l =
          record {
            end = l.end;
            ended = l.ended;
            log = log_on x.me s (steps_first e.memo.agents) (steps_first e_first.memo.agents) first_made e.memo.agents e_first.memo.agents e.begun e_first.begun (told_left true e) e_first.told (logged x)
                (λ n f b. subst (λ (xs : List Agent). BeganWith xs n f) (sym agents_first) (began_more e.memo.agents (record { kind = Recoverer; steps = 1; fate = fate.Acts } ∷ []) n f b))
                (λ k some is. subst (λ (bs : List (List (List ℕ))). begun_first bs ≡ k) (sym first_lines) (first_more e.begun ((t.line ∷ []) ∷ []) k some is))
                [] (first_told ∙ sym (append-nil (told_left true e))) l.log;
            only = subst (λ (ts : List LoggedLine). AreCommandsTold x.me ts x.entries) (sym first_told) l.only;
            unspent = l.unspent;
            fold = λ key. ap (λ f. f key) first_same.0 ∙ l.fold key;
            table = first_same.1 ∙ l.table;
          }

      pub mend_first : IsMending s (record x { work = first_work; life = life }) e_first
      mend_first =
          record {
            here = here;
            lived = first_made ∙ h.lived;
            before = e.memo.agents;
            steps = 1;
            stepped = omega arith;
            agents = agents_first;
            many = h.many;
            some = h.some;
            life = comes.0 ∙ ap (λ (k : ℕ). Some k) (sym spent);
            made = h.made;
            start = e1.memo;
            recoverer = recovers-entered Recoverer e.memo;
            me = first_stays.same_me ∙ ap (λ (z : Work). work_control.me z) comes.1;
            going = first_goes;
            old = first_stays.started;
            fits = fit;
            gave = λ r tr a g. subst (λ (z : Work). WorkGives z e1.memo r tr a) comes.1 (work_laws.back x.work n first_going (mend_starts n) e1.memo r tr a g);
            line = first_stays.same_line ∙ ap (λ (z : Work). work_control.line z) comes.1;
            course = first_course;
            over = first_goes;
            begun = e.begun;
            is_begun = first_lines ∙ ap (λ (line : List ℕ). e.begun ++ (line ∷ []) ∷ []) first_line;
            died = h.died;
            running = ap (λ (b : Bool). cond b [] t.line) first_goes ∙ first_line;
          }

-- ---- a further word step of it

-- the lives of all agents of a script are 2^41 at most
pub few_lives : (life : List ℕ) → sum life ≤ 2 ^ 40 → sum (lives_of life) ≤ 2 ^ 41
few_lives [] few = omega arith
few_lives (n ∷ life) few =
    let a : sum (n ∷ life) ≡ n + sum life = sum_by-cons (λ (k : ℕ). k) n life in
    let b : sum (n ∷ life ++ 2 ^ 40 ∷ []) ≡ n + sum (life ++ 2 ^ 40 ∷ []) = sum_by-cons (λ (k : ℕ). k) n (life ++ 2 ^ 40 ∷ []) in
    let c : sum (life ++ 2 ^ 40 ∷ []) ≡ sum life + sum (2 ^ 40 ∷ []) = sum_by-append (λ (k : ℕ). k) life (2 ^ 40 ∷ []) in
    let d : sum (2 ^ 40 ∷ []) ≡ 2 ^ 40 = refl in
    omega arith

module _ (s : Scripted) (x : Playing) (e : Account) (h : IsMending s x e) (n : ℕ) (life : Life) (spent : life.left + 1 ≡ x.life.left) where
  abbrev again : Step
  again = step_of work_control x.work n

  abbrev pub next : Work
  next = work_control.after x.work n

  -- the account after it
  abbrev pub e2 : Account
  e2 = account_after e again

  stays : Stays work_control x.work n
  stays = work_laws.steady x.work n h.going

  abbrev it : Agent
  it = record { kind = Recoverer; steps = h.steps; fate = fate.Acts }

  is_line : again.line ≡ recover_line
  is_line = h.line

  told_before : told_left again.fresh e ≡ e.told
  told_before = ap (λ (b : Bool). told_left b e) h.old

  begun : e2.begun ≡ e.begun
  begun = ap (λ (b : Bool). cond b (begun_by again.line e.begun) e.begun) h.old

  stepped_agents : with_last stepped e.memo.agents ≡ h.before ++ stepped it ∷ []
  stepped_agents = ap (with_last stepped) h.agents ∙ with_last-end stepped h.before it

  -- the client stays the first one
  first_agent : (b : Agent) → e2.memo.agents ≡ h.before ++ b ∷ [] → (k : ℕ) (f : Fate) → BeganWith e.memo.agents k f → BeganWith e2.memo.agents k f
  first_agent b is k f began =
      subst (λ (xs : List Agent). BeganWith xs k f) (sym is)
      (began_last h.before it b k f (let m = h.many in let o = h.some in omega arith) (subst (λ (xs : List Agent). BeganWith xs k f) h.agents began))

  -- and its word steps
  first_made_by : (b : Agent) → e2.memo.agents ≡ h.before ++ b ∷ [] → steps_first e2.memo.agents ≡ steps_first e.memo.agents
  first_made_by b is =
      let some : 0 < length h.before = (let m = h.many in let o = h.some in omega arith) in
      ap steps_first is ∙ (first_steps h.before (b ∷ []) some ∙ sym (ap steps_first h.agents ∙ first_steps h.before (it ∷ []) some))

  begun_first_same : (k : ℕ) → 0 < k → begun_first e.begun ≡ k → begun_first e2.begun ≡ k
  begun_first_same k some is = ap begun_first begun ∙ is

  course : after_all work_control (recover_work x.me) e2.memo.call ≡ next
  course =
      ap (λ (b : Bool). after_all work_control (recover_work x.me) (call_before b e.memo.call ++ pair again.ask n ∷ [])) h.old
      ∙ (after_all-append work_control (recover_work x.me) e.memo.call (pair again.ask n) ∙ ap (λ (z : Work). work_control.after z n) h.course)

  -- the map is as it was where it began its recovery
  same_here : SameMap h.start e.memo
  same_here = mending_table x.me e.memo.call x.work h.course h.going h.start e.memo (call_before (work_control.fresh x.work) e.memo.call) h.fits

  -- ---- it goes on

  module _ (none : work_control.turns x.work n ≡ None) (fit : fits_now work_control WorkFits next h.start e2.memo) where
    goes : again.ends ≡ false
    goes = stays.ends ∙ ap is_some none

    agents : e2.memo.agents ≡ h.before ++ stepped it ∷ []
    agents = ap (λ (b : Bool). agents_after b e.memo.agents) (ap (λ (b : Bool). is_gone e2.memo.status && b) goes ∙ never (is_gone e2.memo.status)) ∙ stepped_agents

    told : e2.told ≡ e.told
    told = ap (λ (b : Bool). cond b (told_by again.line e2.memo.call true (told_left again.fresh e)) (told_left again.fresh e)) goes ∙ told_before

    same : SameMap h.start e2.memo
    same = mending_table x.me e2.memo.call next course goes h.start e2.memo (call_before (work_control.fresh next) e2.memo.call) fit

    pub more_settled : IsSettled s x e e.told → IsSettled s (record x { work = next; life = life }) e2 e2.told
    more_settled l =
        record {
          end = l.end;
          ended = l.ended;
          log = log_on x.me s (steps_first e.memo.agents) (steps_first e2.memo.agents) (first_made_by (stepped it) agents) e.memo.agents e2.memo.agents e.begun e2.begun e.told e2.told (logged x) (first_agent (stepped it) agents) begun_first_same [] (told ∙ sym (append-nil e.told)) l.log;
          only = subst (λ (ts : List LoggedLine). AreCommandsTold x.me ts x.entries) (sym told) l.only;
          unspent = l.unspent;
          fold = λ key. ap (λ f. f key) same.0 ∙ (ap (λ f. f key) (sym same_here.0) ∙ l.fold key);
          table = same.1 ∙ (sym same_here.1 ∙ l.table);
        }

    pub mend_more : IsMending s (record x { work = next; life = life }) e2
    mend_more =
        record {
          here = h.here;
          lived = first_made_by (stepped it) agents ∙ h.lived;
          before = h.before;
          steps = h.steps + 1;
          stepped = omega arith;
          agents = agents;
          many = h.many;
          some = h.some;
          life = h.life ∙ ap (λ (k : ℕ). Some k) (omega arith);
          made = h.made;
          start = h.start;
          recoverer = h.recoverer;
          me = stays.same_me ∙ h.me;
          going = goes;
          old = stays.started;
          fits = fit;
          gave = λ r tr a g. h.gave r tr a (work_laws.back x.work n h.going none h.start r tr a g);
          line = stays.same_line ∙ h.line;
          course = course;
          over = goes;
          begun = h.begun;
          is_begun = begun ∙ h.is_begun;
          died = h.died;
          running = ap (λ (b : Bool). cond b [] again.line) goes ∙ is_line;
        }

  -- ---- it has recovered the identity

  module _ (start : Start) (may : MayPlay start s x) (era : own_word e2.memo.own (Era x.me.who x.me.who) ≤ 2 ^ 46 + steps_made e2.memo) where
    made : steps_made e2.memo ≡ steps_of h.before + (h.steps + 1)
    made = go (is_gone e2.memo.status && again.ends) refl
      where
        go : (b : Bool) → (is_gone e2.memo.status && again.ends) ≡ b → steps_made e2.memo ≡ steps_of h.before + (h.steps + 1)
        go true is =
            ap (λ (b : Bool). steps_of (agents_after b e.memo.agents)) is
            ∙ (ap (λ (xs : List Agent). steps_of (with_last ended xs)) stepped_agents
            ∙ (ap steps_of (with_last-end ended h.before (stepped it)) ∙ steps_of-end h.before (ended (stepped it))))
        go false is = ap (λ (b : Bool). steps_of (agents_after b e.memo.agents)) is ∙ (ap steps_of stepped_agents ∙ steps_of-end h.before (stepped it))

    -- no more than its life and those before it
    few : steps_made e2.memo ≤ sum (lives_of s.life)
    few =
        let a = made in
        let b = h.made in
        let c = sum_more (lives_of s.life) x.agent _ h.life in
        let d : sum (take (x.agent + 1) (lives_of s.life)) ≤ sum (lives_of s.life) = sum_by-take-le (λ (k : ℕ). k) (lives_of s.life) (x.agent + 1) in
        let l = spent in
        omega arith

    module _ (a : WorkAnswer) (some : work_control.turns x.work n ≡ Some a) (gives : gives_now WorkGives x.work h.start e2.memo a) where
      over : again.ends ≡ true
      over = stays.ends ∙ ap is_some some

      -- what it gave, as the recovery that it was
      recovered : (r : Result (Unit {0}) EraSpent) × (a ≡ First (Second r)) × RecoverGives x.me h.start e2.memo e2.memo.call r
      recovered = go a (h.gave e2.memo e2.memo.call a gives)
        where
          go : (b : WorkAnswer) → WorkGives (recover_work x.me) h.start e2.memo e2.memo.call b → (r : Result (Unit {0}) EraSpent) × (b ≡ First (Second r)) × RecoverGives x.me h.start e2.memo e2.memo.call r
          go (First (First u)) g = absurd g
          go (First (Second r)) g = (r, refl, g)
          go (Second b) g = absurd g

      -- it had room for each step down
      is_done : recovered.0 ≡ Ok tt
      is_done = go recovered.0 recovered.2
        where
          go : (r : Result (Unit {0}) EraSpent) → RecoverGives x.me h.start e2.memo e2.memo.call r → r ≡ Ok tt
          go (Ok u) g = refl
          go (Err y) g = absurd (let high = g.leaves.spent in let low = g.leaves.most in let f = few in let l = few_lives s.life may.script.sum in let o = era in omega arith)

      left : RecoverGives x.me h.start e2.memo e2.memo.call (Ok tt)
      left = subst (λ (r : Result (Unit {0}) EraSpent). RecoverGives x.me h.start e2.memo e2.memo.call r) is_done recovered.2

      last_agents : e2.memo.agents ≡ h.before ++ ended (stepped it) ∷ []
      last_agents =
          ap (λ (b : Bool). agents_after b e.memo.agents) (ap (λ (y : AStatus). is_gone y && again.ends) left.leaves.status ∙ over)
          ∙ (ap (with_last ended) stepped_agents ∙ with_last-end ended h.before (stepped it))

      -- what is told of its recovery
      abbrev tells : LoggedLine
      tells = record { line = recover_line; trail = e2.memo.call; finished = true }

      told_last : e2.told ≡ e.told ++ tells ∷ []
      told_last =
          ap (λ (b : Bool). cond b (told_by again.line e2.memo.call true (told_left again.fresh e)) (told_left again.fresh e)) over
          ∙ (ap (λ (line : List ℕ). told_by line e2.memo.call true (told_left again.fresh e)) is_line ∙ ap (λ (ts : List LoggedLine). told_by recover_line e2.memo.call true ts) told_before)

      all_last : AreScriptAgents s e2.memo.agents e2.begun false
      all_last =
          subst (λ (ls : List ℕ). AreAgents s.lines ls e2.memo.agents e2.begun false) (around (lives_of s.life) x.agent _ h.life)
          (subst (λ (xs : List Agent). AreAgents s.lines lives xs e2.begun false) (sym last_agents)
          (subst (λ (bs : List (List (List ℕ))). AreAgents s.lines lives (h.before ++ ended (stepped it) ∷ []) bs false) (sym (begun ∙ h.is_begun))
          (agents_more s.lines (take x.agent (lives_of s.life)) ((x.life.left + h.steps) ∷ drop (suc x.agent) (lives_of s.life)) h.before (ended (stepped it) ∷ []) h.begun ((recover_line ∷ []) ∷ []) false h.died
          (refl, inr (refl, (let l = spent in let most : h.steps + 1 ≤ x.life.left + h.steps = omega arith in most)), refl, refl))))
        where
          lives : List ℕ
          lives = take x.agent (lives_of s.life) ++ (x.life.left + h.steps) ∷ drop (suc x.agent) (lives_of s.life)

      pub mend_done : (a ≡ First (Second (Ok tt))) × ((w : Work) → IsMended s (record x { work = w; life = life; standing = Gone }) e2)
      mend_done = (
        recovered.1 ∙ ap (λ (r : Result (Unit {0}) EraSpent). First (Second r)) is_done,
        λ w. record {
          recovered = refl;
          lived = first_made_by (ended (stepped it)) last_agents ∙ h.lived;
          before = h.before;
          steps = h.steps + 1;
          agents = last_agents;
          all = all_last;
          few = few;
          status = left.leaves.status;
          gone = left.leaves.left;
          done = over;
        },
      )

      pub done_settled : (w : Work) → IsSettled s x e e.told → IsSettled s (record x { work = w; life = life; standing = Gone }) e2 e2.told
      done_settled w l =
          record {
            end = l.end;
            ended = l.ended;
            log = log_on x.me s (steps_first e.memo.agents) (steps_first e2.memo.agents) (first_made_by (ended (stepped it)) last_agents) e.memo.agents e2.memo.agents e.begun e2.begun e.told e2.told (logged x) (first_agent (ended (stepped it)) last_agents) begun_first_same (tells ∷ []) told_last l.log;
            only = subst (λ (ts : List LoggedLine). AreCommandsTold x.me ts x.entries) (sym told_last) (told_aside x.me e.told (tells ∷ []) x.entries l.only (inl (inr (inr (inr refl))), refl));
            unspent = l.unspent;
            fold = λ key. ap (λ f. f key) left.leaves.map ∙ (ap (λ f. f key) (sym same_here.0) ∙ l.fold key);
            table = left.leaves.loose ∙ (sym same_here.1 ∙ l.table);
          }
