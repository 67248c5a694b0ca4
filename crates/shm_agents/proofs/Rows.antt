-- turns of the agents that stand in a pool in a vector, one after the other
use Rattle.std.proofs.Common.{◌≡◌, ℕ, zero, suc, ◌<◌, true, false, length, refl, sym, ap, ◌∙◌, subst, arith}
use Rattle.std.proofs.lemmas.Bool.{true≢false}
use Rattle.std.specs.Prelude.{Option, Some, None}
use Rattle.shm_graph.specs.declared.{ask.{Life.Life, Me.Me, Turn.TheVariants.Done}, memo.{Memo.Memo, Step.Step}}
use Rattle.shm_graph.specs.{declared.run.Account.Account, Agents.acts, Laws.{is_died, turn_of}, ManySteps.Stop}
use Rattle.shm_graph.specs.{Runs.account_at, Whole.{Learns, WholeKeeps, fits_now, gives_now}}
use Rattle.shm_graph.proofs.Machines.Wholes.{whole_keeps}
use Rattle.shm_plain.specs.Pools.{IsOf, IsRun, Pool, memo_of, readied, turn_on, turned}
use Rattle.shm_plain.specs.{ManySteps.{answer_in, stop_of}, Proved.Standing.{named_in, stood_in}, Working.Worked}
use Rattle.shm_plain.proofs.{ManySteps.in_cases, PlaceTurning.{may_step, ready_is, turned_is}}
use Rattle.shm_plain.proofs.Turning.{learned, ready_run, turned_run}
use Rattle.shm_script.specs.Values.{Scripted}
use Rattle.shm_agents.specs.{declared.agents.Standing.TheVariants.AtWork, Agents.{AgentsStand, Playing}}
use Rattle.shm_agents.specs.{Proved.WorkLaws.work_laws, Rows.{AreTurns, OneTurn}}
use Rattle.shm_agents.specs.Work.{Work, WorkAnswer, WorkFits, WorkGives, work_control}
use Rattle.shm_agents.proofs.Turns as turns

-- one more turn
pub are_more : (s : Scripted) (n : ℕ) (p : Pool) (x : Playing) (q : Pool) (y : Playing) (r : Pool) (z : Playing) → AreTurns s n p x q y → OneTurn s q y r z → AreTurns s (suc n) p x r z
are_more s zero p x q y r z h one =
    (r, z, subst (λ (u : Playing). OneTurn s p u r z) h.1 (subst (λ (v : Pool). OneTurn s v y r z) h.0 one), (refl, refl))
are_more s (suc n) p x q y r z h one = (h.0, h.1, h.2, are_more s n h.0 h.1 q y r z h.3 one)

-- a machine never tells that it died
alive : {A : Type 0} (o : Option A) → is_died (turn_of o) ≡ false
alive None = refl
alive (Some a) = refl

dead : {A : Type 0} (o : Option A) → is_died (turn_of o) ≡ true → ⊥
dead o e = true≢false (sym e ∙ alive o)

-- the law of what agents run, of the whole
work_keeps : WholeKeeps work_control (fits_now work_control WorkFits) (gives_now WorkGives)
work_keeps = whole_keeps work_control WorkFits WorkGives work_laws

module _ (s : Scripted) (x : Playing) (here : x.standing ≡ AtWork) where
  -- they are at this work, with so many word steps left
  abbrev pub with_left : Work → ℕ → Playing
  with_left m n = record x { work = m; life = record { left = n } }

  -- and stand so in the pool
  pub record AreAt (p : Pool) (m : Work) (n : ℕ) : Type 0 where
    pub run : IsRun p
    pub who : x.me.who < p.start.geometry.clients
    pub stands : AgentsStand p.start s (with_left m n) (account_at p.accounts x.me.who)

  -- a word step, where one is left
  module _ (p : Pool) (m : Work) (n : ℕ) (h : AreAt p m (suc n)) where
    abbrev c : ℕ
    c = x.me.who

    abbrev e : Account
    e = account_at p.accounts c

    abbrev t : Step
    t = turn_on (readied p c) work_control m

    abbrev q : Pool
    q = turned (readied p c) t

    abbrev e2 : Account
    e2 = account_at q.accounts c

    abbrev m' : Work
    m' = work_control.after m t.seen

    pub was : turns.Before p.start s (with_left m (suc n)) (with_left m (suc n)) e
    was = record { stood = stood_in p h.run c h.who; named = named_in p h.run c h.who; is = refl; stands = h.stands; here = here }

    long : c < length p.accounts
    long = subst (λ (i : ℕ). c < i) (sym h.run.held.accounts) h.who

    pub of_them : IsOf p c work_control m
    of_them = turns.step_of was

    pub fits : (r0 : Memo) × fits_now work_control WorkFits m r0 (memo_of (readied p c) c)
    fits = let f = turns.step_fits was in (f.0, subst (λ (z : Account). fits_now work_control WorkFits m f.0 z.memo) (sym (ready_is p c long)) f.1)

    ready : IsRun (readied p c) × (acts (memo_of (readied p c) c) ≡ true)
    ready = ready_run p c h.run h.who (may_step p c (turns.step_may was))

    ran : IsRun q
    ran = turned_run work_control (fits_now work_control WorkFits) (gives_now WorkGives) work_keeps (readied p c) c m fits.0 ready.0 ready.1 of_them fits.1

    worked : Worked work_control (fits_now work_control WorkFits) (gives_now WorkGives) m e e2 (turn_of (work_control.turns m t.seen)) m'
    worked =
        record {
          seen = t.seen;
          account = turned_is p c long t (ap (λ (z : Me). z.who) of_them.0);
          next = refl;
          turn = refl;
          learns = subst (λ (z : Account). Learns work_control (fits_now work_control WorkFits) (gives_now WorkGives) m t.seen z.memo e2.memo) (ready_is p c long)
              (learned work_control (fits_now work_control WorkFits) (gives_now WorkGives) work_keeps (readied p c) c m ready.0 of_them);
        }

    abbrev life' : Life
    life' = record { left = n }

    is : turns.After p.start (with_left m (suc n)) e e2 m' life' (turn_of (work_control.turns m t.seen))
    is =
        record {
          died = λ d. absurd (dead (work_control.turns m t.seen) d);
          some = λ z. absurd (omega (arith, z));
          stays = λ d. absurd (dead (work_control.turns m t.seen) d);
          turn = λ some. (omega arith, worked);
          stood = stood_in q ran c h.who;
          named = named_in q ran c h.who;
        }

    -- it is a turn of theirs
    one : (y : Playing) → y.me ≡ x.me → y.script ≡ x.script → AgentsStand p.start s y e2 → OneTurn s p (with_left m (suc n)) q y
    one y me script stands =
        record {
          here = here;
          start = refl;
          run = ran;
          stepped = λ some. (t.seen, (ap (λ (i : ℕ). turned (readied p i) t) (sym (ap (λ (z : Me). z.who) of_them.0)), refl));
          fell = λ none. absurd (omega (arith, none));
          me = me;
          script = script;
          stands = stands;
        }

    on : work_control.turns m t.seen ≡ None → AreAt q m' n
    on none = record { run = ran; who = h.who; stands = turns.more was is (alive (work_control.turns m t.seen)) (ap (λ (o : Option WorkAnswer). turn_of o) none) }

  -- ---- many word steps

  -- by the last word step the work has answered v, in the pool q with y word steps left
  pub record HasAnswered (p : Pool) (m : Work) (n : ℕ) (q : Pool) (w : Work) (y : ℕ) (v : WorkAnswer) : Type 0 where
    pub many : ℕ
    pub last : Pool
    pub work : Work
    pub row : AreTurns s many p (with_left m n) last (with_left work (suc y))
    pub at : AreAt last work (suc y)
    pub after : turns.After last.start (with_left work (suc y)) (account_at last.accounts x.me.who) (account_at q.accounts x.me.who) w (record { left = y }) (Done v)
    pub turn : (z : Playing) → z.me ≡ x.me → z.script ≡ x.script → AgentsStand last.start s z (account_at q.accounts x.me.who) → OneTurn s last (with_left work (suc y)) q z
    pub less : y < n

  -- or it goes on, and no word step is left
  abbrev pub RowEnds : Pool → Work → ℕ → Pool → Work → ℕ → Option WorkAnswer → Type 0
  RowEnds p m n q w y None = (k : ℕ) × AreTurns s k p (with_left m n) q (with_left w y) × (y ≡ 0)
  RowEnds p m n q w y (Some v) = HasAnswered p m n q w y v

  abbrev pub RowEndsAt : Pool → Work → ℕ → Stop Work Pool WorkAnswer → Type 0
  RowEndsAt p m n z = RowEnds p m n z.words z.machine z.left (answer_in z.turn)

  one_before : (p : Pool) (m : Work) (n : ℕ) (h : AreAt p m (suc n)) (none : work_control.turns m (turn_on (readied p x.me.who) work_control m).seen ≡ None) (q : Pool) (w : Work) (y : ℕ) (o : Option WorkAnswer)
      → (let t : Step = turn_on (readied p x.me.who) work_control m in RowEnds (turned (readied p x.me.who) t) (work_control.after m t.seen) n q w y o) → RowEnds p m (suc n) q w y o
  one_before p m n h none q w y None r =
      let t : Step = turn_on (readied p x.me.who) work_control m in
      (suc r.0, (turned (readied p x.me.who) t, with_left (work_control.after m t.seen) n, one p m n h (with_left (work_control.after m t.seen) n) refl refl (on p m n h none).stands, r.1), r.2)
  one_before p m n h none q w y (Some v) r =
      let t : Step = turn_on (readied p x.me.who) work_control m in
      record {
        many = suc r.many;
        last = r.last;
        work = r.work;
        row = (turned (readied p x.me.who) t, with_left (work_control.after m t.seen) n, one p m n h (with_left (work_control.after m t.seen) n) refl refl (on p m n h none).stands, r.row);
        at = r.at;
        after = r.after;
        turn = r.turn;
        less = let l = r.less in omega arith;
      }

  pub row_ends : (n : ℕ) (m : Work) (p : Pool) → AreAt p m n → RowEndsAt p m n (stop_of work_control x.me.who n m p)
  row_ends zero m p h = (0, (refl, refl), refl)
  row_ends (suc n) m p h =
      let t : Step = turn_on (readied p x.me.who) work_control m in
      let q : Pool = turned (readied p x.me.who) t in
      let w : Work = work_control.after m t.seen in
      let z : Stop Work Pool WorkAnswer = stop_of work_control x.me.who n w q in
      in_cases (RowEndsAt p m (suc n)) (work_control.turns m t.seen) z (λ v. record { left = n; machine = w; words = q; turn = Done v })
      (λ none. one_before p m n h none z.words z.machine z.left (answer_in z.turn) (row_ends n w q (on p m n h none)))
      (λ v some. record {
        many = 0;
        last = p;
        work = m;
        row = (refl, refl);
        at = h;
        after = subst (λ (o : Option WorkAnswer). turns.After p.start (with_left m (suc n)) (account_at p.accounts x.me.who) (account_at q.accounts x.me.who) w (record { left = n }) (turn_of o)) some (is p m n h);
        turn = one p m n h;
        less = omega arith;
      })
