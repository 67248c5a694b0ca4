-- blocks that are taken back, working alone: how many word steps come behind a call, and that they are paid for: what is proved of it
use Rattle.std.proofs.Common.{ℕ, ◌+◌, ◌*◌, ◌-◌, ◌%◌, ◌<◌, ◌≤◌, arith, Bool, true, false, List}
use Rattle.std.specs.Prelude.{◌==◌, if◌then◌else◌, nat_lt, Some, None, Option, Result, Ok, Err}
use Rattle.shm_words.specs.Layout.{address_limit}
use Rattle.shm_graph.specs.{declared.{memo.Memo.Memo, spot.Spot.Spot}, Asks.Trail, Events.Event, Laws.Outcome}
use Rattle.shm_graph.specs.declared.spot.Spot.TheVariants as spot
use Rattle.plans.specs.{declared.or.Or.TheVariants.{First, Second}, CallsControl.calls_does, CallsFit.CallsFits}
use Rattle.shm_count.specs.declared.answer.EraSpent.{EraSpent}
use Rattle.shm_recover.specs.declared.take_back.BackPoint.{BackPoint, TheVariants.{Tail, Head, Slot, Lower, Tear}}
use Rattle.shm_recover.specs.declared.take_back.BackState.{BackState}
use Rattle.shm_recover.specs.TakeBack.Control.{BackAnswer, back_after, back_call_at, back_turns, is_last, passed, passed_answer, back_parts, is_first, to_of}
use Rattle.shm_recover.specs.{TakeBack.{BackKnows, back_part, back_plan}, Proved.TakeBack.Laws.back_laws}
use Rattle.shm_recover.specs.Machines.Recovering.{take_back}
use Rattle.shm_alone.specs.{Alone.EndsAlone, GiveEnds.none_over, Proved.{Lifting.plain_calls_end, RootsEnd.part_ends}}
use Rattle.shm_alone.specs.{Proved.StepEnds.redo_few, RootsEnd.{part_alone, part_left, part_saved}}
use Rattle.shm_alone.specs.BackEnds.{back_rest_at, back_rest, back_alone, back_left}

-- the call that comes next is paid for
abbrev IsPaidOff : BackState → ℕ → Option (Result (Unit {0}) EraSpent) → Type 0
IsPaidOff m z o = Outcome o (part_left (back_call_at m m.point) + back_rest m ≤ z) (λ a. 0 ≤ z)

-- the next queue is paid by the steps of this one
passed_paid : (m : BackState) (z : ℕ) → m.passed + 1 < m.me.geometry.clients → 200 * (m.me.geometry.clients - m.passed) - 100 ≤ z → IsPaidOff (passed m) z (passed_answer m)
passed_paid m z low most = go (is_last m)
  where
    go : (q : Bool) → IsPaidOff (if q then m else record m { passed = m.passed + 1; point = Tail }) z (if q then Some (Ok tt) else None)
    go true = omega arith
    go false = omega arith

-- what a call has over pays for the next one
back_paid : (m : BackState) (y : BackPoint) (a : BackAnswer) (r0 rs r : Memo) (tr t : Trail) (es ds : List Event) → BackKnows m y r0 rs tr es → (back_part m y).leaves (back_call_at m y) rs r t ds a
    → IsPaidOff (back_after (record m { point = y }) a) (back_rest_at m y + part_saved a) (back_turns (record m { point = y }) a)
back_paid m Tail (First n) r0 rs r tr t es ds h g = let l = h.low in omega arith
back_paid m Head (First n) r0 rs r tr t es ds h g = go (nat_lt (m.at - n) 8)
  where
    p : BackState
    p = record m { point = Head }

    go : (q : Bool) → IsPaidOff (if q then record m { point = Slot } else passed p) (back_rest_at m Head + 0) (if q then None else passed_answer p)
    go true = let l = h.0.low in omega arith
    go false = passed_paid p (back_rest_at m Head + 0) h.0.low (omega arith)
back_paid m Slot (First n) r0 rs r tr t es ds h g = go (n % address_limit == 0)
  where
    p : BackState
    p = record m { point = Slot }

    go : (q : Bool) → IsPaidOff (if q then passed p else record m { block = n % address_limit; point = Lower }) (back_rest_at m Slot + 0) (if q then passed_answer p else None)
    go true = passed_paid p (back_rest_at m Slot + 0) h.0.low (omega arith)
    go false = let l = h.0.low in let few = redo_few m.me.geometry.wide in omega arith
back_paid m Lower (Second (First (Ok true))) r0 rs r tr t es ds h g = let l = h.0.low in omega arith
back_paid m Lower (Second (First (Ok false))) r0 rs r tr t es ds h g = passed_paid (record m { point = Lower }) (back_rest_at m Lower + 200) h.0.low (omega arith)
back_paid m Lower (Second (First (Err e))) r0 rs r tr t es ds h g = omega arith
back_paid m Tear (Second (Second (Ok u))) r0 rs r tr t es ds h g = passed_paid (record m { point = Tear }) (back_rest_at m Tear + 100) h.low (omega arith)
back_paid m Tear (Second (Second (Err e))) r0 rs r tr t es ds h g = omega arith
back_paid m Tail (Second a) r0 rs r tr t es ds h g = absurd g
back_paid m Head (Second a) r0 rs r tr t es ds h g = absurd g
back_paid m Slot (Second a) r0 rs r tr t es ds h g = absurd g
back_paid m Lower (First n) r0 rs r tr t es ds h g = absurd g
back_paid m Lower (Second (Second a)) r0 rs r tr t es ds h g = absurd g
back_paid m Tear (First n) r0 rs r tr t es ds h g = absurd g
back_paid m Tear (Second (First a)) r0 rs r tr t es ds h g = absurd g

-- a call begins with what it knows of the words
begins : (m : BackState) (y : BackPoint) (w : Spot → ℕ) → part_alone (back_call_at m y) w
begins m Tail w = tt
begins m Head w = tt
begins m Slot w = tt
begins m Lower w = tt
begins m Tear w = tt

-- taking blocks back alone ends
pub back_ends : EndsAlone take_back (calls_does back_parts back_plan) back_alone back_left none_over (CallsFits back_parts back_plan)
back_ends =
    plain_calls_end back_parts back_plan part_alone part_left part_saved back_rest none_over back_laws
    (record { parts = λ m. part_ends (is_first m) (spot.Slot m.me.who (to_of m) (m.at % 8)); begins = λ m. begins m m.point; pays = λ m r0 rs r tr t es ds a h g held agent. back_paid m m.point a r0 rs r tr t es ds h g })
