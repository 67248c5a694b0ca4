-- word steps of a recovery that is polled
use Rattle.std.proofs.Common.{◌≡◌, ℕ, zero, suc, ◌+◌, ◌<◌, ◌≤◌, ◌⊎◌, Bool, true, false, Option, [], inl, inr, refl, sym, ap, ◌∙◌, subst, arith, true≢false, Result}
use Rattle.std.specs.Prelude.{None, Some, Ok, Err}
use Rattle.plans.specs.{CallsFit.{CallsFits, CallsGives}, Proved.CallsKeep.calls_laws}
use Rattle.shm_count.specs.{declared.answer.EraSpent.EraSpent, Steady.SameMap}
use Rattle.shm_graph.specs.declared.{ask.{Life.Life, Me.Me, Turn.{Turn, TheVariants.{More, Done}}}, memo.Memo.Memo}
use Rattle.shm_graph.specs.declared.{memo.{Status.TheVariants.Gone, Step.Step}, run.Account.Account}
use Rattle.shm_graph.specs.{declared.spot.Spot.TheVariants.Era, Agents.{acts, steps_made}, Asks.call_before}
use Rattle.shm_graph.specs.{Changes.asked_spot, Laws.{Laws, Stays, is_died, step_of}, Runs.{account_after, account_at}}
use Rattle.shm_graph.specs.{Views.own_word, Whole.{fits_now, gives_now}}
use Rattle.shm_graph.proofs.{Machines.Composing.{none_of, some_of}, Memos.MemoSteps.steps_on}
use Rattle.shm_ref.specs.Proved.DropRoots.Laws.{roots_laws}
use Rattle.shm_recover.specs.Proved.{FinishTakes.Laws.finish_laws, GiveUp.Laws.give_laws, Mend.Laws.mend_laws}
use Rattle.shm_recover.specs.Proved.{Recover.Laws.recover_laws, Scan.Laws.scan_laws, TakeBack.Laws.back_laws}
use Rattle.shm_recover.specs.{Machines.Recovering.recover, Recover.{Control.recover_parts, recover_plan}}
use Rattle.shm_recover.proofs.Steady.{recover_steady}
use Rattle.shm_replay.specs.Closings.{SameTable}
use Rattle.shm_pool.specs.{Calls.{ClientStepped, Drives, IsDriven, Ongoing, shown}, Endings.Answer}
use Rattle.shm_pool.specs.declared.token.{Cause.Cause, Stopped.Stopped}
use Rattle.shm_pool.specs.{Rescues.{RecoverMachine, Rescuing, account_of}, Tokens.{Its, Token}}
use Rattle.shm_pool.proofs.{Calling.{goes_on, is_over}, Driving.{driven_none, more, whole}, Rescuing.account_who}
use Rattle.shm_async.specs.declared.recovery.Over.{Over, TheVariants.{Recovered, Stopped as StoppedBy}}
use Rattle.shm_async.specs.Rescued.{CallsOn, EndsAs, GoesOn, HasMade, HasRescued, HasSpent, HasStepped, IsOver, MadeBy, StopsBy, account_by, answered_by, has_answered, is_answer, made_steps, rescue_of}
use Rattle.shm_async.proofs.Ongoing.{Driven, calls_then, driven_both}

recovery_laws : Laws recover (CallsFits recover_parts recover_plan) (CallsGives recover_parts recover_plan)
recovery_laws = calls_laws recover_parts recover_plan (recover_laws mend_laws roots_laws back_laws finish_laws scan_laws give_laws)

-- ---- before the first of them

abbrev none_yet : (u : Rescuing) (left : ℕ) → CallsOn false u u left left
none_yet u left = record { steps = []; going = tt; account = refl; life = omega arith; me = refl; line = refl; first = refl }

none_driven : (u : Rescuing) → Driven u u []
none_driven u = driven_none recover (CallsFits recover_parts recover_plan) (CallsGives recover_parts recover_plan) recovery_laws u.machine (account_by u)

pub none_stepped : (u : Rescuing) (l : Life) → HasStepped false 0 u u l l
none_stepped u l =
    record {
      of = refl;
      who = refl;
      life = omega arith;
      steps = omega arith;
      begun = λ h. elim h [ inl is ↦ is | inr some ↦ absurd (omega arith) ];
      call = none_yet u l.left;
      driven = none_driven u;
      table = record { map = λ key. refl; loose = refl };
    }

-- more of them
pub stepped_then : (over : Bool) (n m : ℕ) (u v w : Rescuing) (a b c : Life) → HasStepped false n u v a b → HasStepped over m v w b c → HasStepped over (n + m) u w a c
stepped_then over n m u v w a b c h k =
    record {
      of = k.of ∙ h.of;
      who = k.who ∙ h.who;
      life = (let x = h.life in let y = k.life in omega arith);
      steps = (let x = h.steps in let y = k.steps in omega arith);
      begun = λ z. k.begun (begun_then n m z (h.begun));
      call = calls_then over u v w a.left b.left c.left h.call k.call;
      driven = driven_both u v w a.left b.left c.left h.call h.driven over k.call k.driven;
      table = record { map = λ key. k.table.map key ∙ h.table.map key; loose = k.table.loose ∙ h.table.loose };
    }
  where
    begun_then : (i j : ℕ) → (u.begun ≡ true) ⊎ (0 < i + j) → ((u.begun ≡ true) ⊎ (0 < i) → v.begun ≡ true) → (v.begun ≡ true) ⊎ (0 < j)
    begun_then i j (inl is) f = inl (f (inl is))
    begun_then zero j (inr some) f = inr (omega arith)
    begun_then (suc i) j (inr some) f = inl (f (inr (omega arith)))

pub not_true : (b : Bool) (P : Type 0) → (b ≡ true → P) → (P → ⊥) → b ≡ false
not_true true P f n = absurd (n (f refl))
not_true false P f n = refl

pub begun_account : (b : Bool) (e : Account) → b ≡ true → account_of b e ≡ e
begun_account true e h = refl
begun_account false e h = absurd (true≢false (sym h))

-- one more, of the recovery v that goes on, which leaves v2 and answers t
module _ (p : Its) (v v2 : Rescuing) (l l2 : Life) (t : Turn Answer) (g : GoesOn p v) (same : (v2.of ≡ v.of) × (v2.seat.who ≡ v.seat.who)) (life : l2.left + 1 ≡ l.left) (begun : v2.begun ≡ true)
    (x : ClientStepped recover (fits_now recover (CallsFits recover_parts recover_plan)) (gives_now (CallsGives recover_parts recover_plan)) v.machine (account_by v) v2.seat t v2.machine) where
  who : (recover.me v.machine).who ≡ (account_by v).who
  who = ap (λ (m : Me). m.who) g.me ∙ sym (account_who v.begun v.seat)

  below : (recover.me v.machine).who < (recover.me v.machine).geometry.clients
  below = subst (λ (c : ℕ). c < (recover.me v.machine).geometry.clients) (sym who) (subst (λ (n : ℕ). (account_by v).who < n) x.made.held.accounts x.made.here.0)

  acting : acts (account_by v).memo ≡ true
  acting =
      let here = subst (λ (c : ℕ). acts (account_at x.made.accounts c).memo ≡ true) who x.made.move.1 in
      subst (λ (e : Account). acts e.memo ≡ true) x.made.here.1 here

  -- the step
  abbrev its : Step
  its = step_of recover v.machine x.seen

  stays : Stays recover v.machine x.seen
  stays = recovery_laws.steady v.machine x.seen g.going

  seat : account_by v2 ≡ v2.seat
  seat = begun_account v2.begun v2.seat begun

  account : account_by v2 ≡ account_after (account_by v) its
  account = seat ∙ x.account

  steps : steps_made (account_by v2).memo ≡ steps_made (account_by v).memo + 1
  steps = ap (λ (e : Account). steps_made e.memo) account ∙ steps_on (account_by v).memo its (asked_spot (account_by v).memo its) acting

  stepped_by : (over : Bool) (call : CallsOn over v v2 l.left l2.left) → Driven v v2 (made_steps over v v2 l.left l2.left call) → SameTable (account_by v).memo (account_by v2).memo → HasStepped over 1 v v2 l l2
  stepped_by over call driven table =
      record {
        of = same.0;
        who = same.1;
        life = sym life;
        steps = steps;
        begun = λ h. begun;
        call = call;
        driven = driven;
        table = table;
      }

  abbrev Fits : RecoverMachine → Memo → Memo → Type 0
  Fits = fits_now recover (CallsFits recover_parts recover_plan)

  abbrev Gives : RecoverMachine → Memo → Memo → Answer → Type 0
  Gives = gives_now (CallsGives recover_parts recover_plan)

  none_by : t ≡ More → recover.turns v.machine x.seen ≡ None
  none_by is = none_of (recover.turns v.machine x.seen) (sym x.turn ∙ is)

  some_by : (a : Answer) → t ≡ Done a → recover.turns v.machine x.seen ≡ Some a
  some_by a is = some_of (recover.turns v.machine x.seen) a (sym x.turn ∙ is)

  fits_on : t ≡ More → Fits v2.machine g.start (account_by v2).memo
  fits_on is =
      subst (λ (e : Account). Fits v2.machine g.start e.memo) (sym seat)
      (goes_on recover Fits Gives v.machine (account_by v) v2.seat t v2.machine g.start g.fits x (none_by is))

  -- the map of the table is what it was where the call began, and so what it was before the step
  table_here : SameMap g.start (account_by v).memo
  table_here = recover_steady v.machine g.start (account_by v).memo (call_before (recover.fresh v.machine) (account_by v).memo.call) g.going g.fits

  table_by : SameMap g.start (account_by v2).memo → SameTable (account_by v).memo (account_by v2).memo
  table_by now = record { map = λ key. ap (λ f. f key) (now.0 ∙ sym table_here.0); loose = now.1 ∙ sym table_here.1 }

  -- ---- it goes on

  module _ (is : t ≡ More) (undone : v2.done ≡ false) (going : recover.finished v2.machine ≡ false) where
    pub goes : GoesOn p v2
    goes =
        record {
          of = same.0 ∙ g.of;
          undone = undone;
          going = going;
          me = ap recover.me x.next ∙ (stays.same_me ∙ (g.me ∙ (λ i. record { geometry = (sym same.0 i).start.geometry; who = sym same.1 i })));
          start = g.start;
          fits = fits_on is;
        }

    more_by : (o : CallsOn false v v2 l.left l2.left) × Driven v v2 o.steps
    more_by =
        subst (λ (e : Account). (o : Ongoing (shown recover v.machine) (account_by v) (shown recover v2.machine) e l.left l2.left) × IsDriven recover (CallsFits recover_parts recover_plan) v.machine v2.machine (account_by v) e o.steps) (sym seat)
        (more recover (CallsFits recover_parts recover_plan) (CallsGives recover_parts recover_plan) recovery_laws v.machine v.machine v2.machine (account_by v) (account_by v) v2.seat t g.start l.left l.left l2.left who below g.going g.fits (none_yet v l.left) (none_driven v) x (none_by is) life)

    pub goes_stepped : HasStepped false 1 v v2 l l2
    goes_stepped =
        stepped_by false more_by.0 more_by.1 (table_by (recover_steady v2.machine g.start (account_by v2).memo (call_before (recover.fresh v2.machine) (account_by v2).memo.call) going (fits_on is)))

  -- ---- its machine has answered

  module _ (a : Answer) (is : t ≡ Done a) where
    gave : Gives v.machine g.start v2.seat.memo a
    gave = is_over recover Fits Gives v.machine (account_by v) v2.seat t v2.machine g.start a g.fits x (some_by a is)

    over_by : Drives recover (CallsFits recover_parts recover_plan) v.machine v2.machine (account_by v) (account_by v2) true l.left l2.left
    over_by =
        subst (λ (e : Account). Drives recover (CallsFits recover_parts recover_plan) v.machine v2.machine (account_by v) e true l.left l2.left) (sym seat)
        (whole recover (CallsFits recover_parts recover_plan) (CallsGives recover_parts recover_plan) recovery_laws v.machine v.machine v2.machine (account_by v) (account_by v) v2.seat t g.start l.left l.left l2.left a who below g.going g.fits (none_yet v l.left) (none_driven v) x (some_by a is) life)

    pub over_stepped : HasStepped true 1 v v2 l l2
    over_stepped = stepped_by true over_by.call over_by.driven (table_by (subst (λ (e : Account). SameMap g.start e.memo) (sym seat) (table_left a gave)))
      where
        table_left : (b : Answer) → Gives v.machine g.start v2.seat.memo b → SameMap g.start v2.seat.memo
        table_left (Ok u) h = (h.leaves.map, h.leaves.loose)
        table_left (Err n) h = (h.leaves.map, h.leaves.loose)

  pub ends_gone : t ≡ Done (Ok tt) → v2.seat.memo.status ≡ Gone
  ends_gone is = (gave (Ok tt) is).leaves.status

  pub ends_spent : (n : EraSpent) → t ≡ Done (Err n) → HasSpent v2.seat n.era
  ends_spent n is =
      let left = (gave (Err n) is).leaves in
      let same_who : (recover.me v.machine).who ≡ v2.seat.who = ap (λ (m : Me). m.who) g.me ∙ sym same.1 in
      record {
        machine = v.machine;
        start = g.start;
        gave = gave (Err n) is;
        high = left.spent;
        own = subst (λ (c : ℕ). n.era ≤ own_word v2.seat.memo.own (Era c c)) same_who left.most;
      }

-- a word step was left where the answer wasn't that none is
pub some_left : (t : Turn Answer) (n : ℕ) → (n ≡ 0 → is_died t ≡ true) → is_died t ≡ false → 0 < n
some_left t zero died alive = absurd (true≢false (sym (died refl) ∙ alive))
some_left t (suc n) died alive = omega arith

-- ---- the poll in which it comes to its end

module _ (p : Its) (q : ℕ) (u v : Rescuing) (before left : Life) where
  ended_as : (n : ℕ) (o : Over) (x : Result Token Stopped) → HasStepped (has_answered (Some o)) n u v before left → MadeBy q p n (Some o) v left → EndsAs v o x → HasStepped (answered_by x) n u v before left × IsOver q n v left x
  ended_as n Recovered (Ok t) stepped by ends = (stepped, (by.0, ends, ap (λ (k : Token). k.account.memo.status) ends ∙ by.2))
  ended_as n Recovered (Err s) stepped by ends = absurd ends
  ended_as n (StoppedBy c) (Ok t) stepped by ends = absurd ends
  ended_as n (StoppedBy c) (Err s) stepped by ends = (subst (λ (y : Cause). HasStepped (is_answer y) n u v before left) (sym ends.1) stepped, (ends.0, subst (λ (y : Cause). StopsBy y q n v left) (sym ends.1) by.1))

  pub rescued_over : (o : Over) (x : Result Token Stopped) (b : Option Rescuing) → HasMade q p u before (Some o) v left → EndsAs v o x → b ≡ None → HasRescued (rescue_of p q before (Some u)) (Some x) (rescue_of p q left b)
  rescued_over o x b made ends none =
      let (stepped, over) = ended_as made.n o x made.stepped made.by ends in
      record { pool = refl; quota = refl; polled = (none, (made.n, v, stepped, over)) }
