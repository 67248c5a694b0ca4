-- takes that are finished, working alone: how many word steps come behind one, and that they are paid for: what is proved of it
use Rattle.std.proofs.Common.{ℕ, ◌+◌, ◌*◌, ◌-◌, ◌<◌, ◌≤◌, arith, Bool, true, false, List}
use Rattle.std.specs.Prelude.{◌==◌, if◌then◌else◌, nat_lt, Some, None, Option}
use Rattle.shm_graph.specs.{declared.memo.Memo.Memo, Asks.Trail, Events.Event, Laws.Outcome}
use Rattle.plans.specs.{CallsControl.calls_does, CallsFit.CallsFits, Words.word_control}
use Rattle.shm_recover.specs.declared.finish_takes.FinishPoint.{FinishPoint, TheVariants.{Head, Tail, Slot, Store}}
use Rattle.shm_recover.specs.declared.finish_takes.FinishState.{FinishState}
use Rattle.shm_recover.specs.FinishTakes.Control.{after_word, is_first, is_last, passed, passed_answer, turns_word}
use Rattle.shm_recover.specs.{FinishTakes.{FinishKnows, finish_plan}, Proved.FinishTakes.Laws.finish_laws}
use Rattle.shm_recover.specs.Machines.Recovering.{finish_takes}
use Rattle.shm_alone.specs.{Alone.EndsAlone, GiveEnds.none_over, Lifting.{anything, word_left, word_saved}}
use Rattle.shm_alone.specs.Proved.Lifting.{plain_calls_end, word_ends}
use Rattle.shm_alone.specs.TakesEnds.{finish_rest_at, finish_rest, finish_alone, finish_left}

-- where the next word step is paid for
abbrev IsPaidOff : FinishState → ℕ → Option (Unit {0}) → Type 0
IsPaidOff m z o = Outcome o (1 + finish_rest m ≤ z) (λ u. 0 ≤ z)

-- the next queue is paid by the steps of this one
passed_paid : (m : FinishState) (z : ℕ) → m.passed + 1 < m.me.geometry.clients → 4 * (m.me.geometry.clients - m.passed) - 3 ≤ z → IsPaidOff (passed m) z (passed_answer m)
passed_paid m z low most = go (is_last m)
  where
    go : (q : Bool) → IsPaidOff (if q then m else record m { passed = m.passed + 1; point = Head }) z (if q then Some tt else None)
    go true = omega arith
    go false = omega arith

-- a word step pays for the next one
finish_paid : (m : FinishState) (y : FinishPoint) (r0 r : Memo) (tr : Trail) (es : List Event) (n : ℕ) → FinishKnows m y r0 r tr es → IsPaidOff (after_word m y n) (finish_rest_at m y + 0) (turns_word m y n)
finish_paid m Head r0 r tr es n h = let l = h.low in omega arith
finish_paid m Tail r0 r tr es n h = go (nat_lt m.at n)
  where
    go : (q : Bool) → IsPaidOff (if q then record m { point = Slot } else passed m) (finish_rest_at m Tail + 0) (if q then None else passed_answer m)
    go true = let l = h.0.low in omega arith
    go false = passed_paid m (finish_rest_at m Tail + 0) h.0.low (omega arith)
finish_paid m Slot r0 r tr es n h = go (n == 0)
  where
    go : (q : Bool) → IsPaidOff (if q then record m { point = Store } else passed m) (finish_rest_at m Slot + 0) (if q then None else passed_answer m)
    go true = let l = h.0.low in omega arith
    go false = passed_paid m (finish_rest_at m Slot + 0) h.0.low (omega arith)
finish_paid m Store r0 r tr es n h = passed_paid m (finish_rest_at m Store + 0) h.0.low (omega arith)

-- finishing takes alone ends
pub finish_ends : EndsAlone finish_takes (calls_does word_control finish_plan) finish_alone finish_left none_over (CallsFits word_control finish_plan)
finish_ends =
    plain_calls_end word_control finish_plan anything word_left word_saved finish_rest none_over finish_laws
    (record { parts = λ m. word_ends (is_first m); begins = λ m w. tt; pays = λ m r0 rs r tr t es ds n h g held agent. finish_paid m m.point r0 rs tr es n h })
