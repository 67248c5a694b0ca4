-- segments that are given up, working alone: how many word steps come behind one, and that each is paid for: what is proved of it
use Rattle.std.proofs.Common.{◌≡◌, ◌≢◌, ℕ, ◌+◌, ◌*◌, ◌-◌, ◌<◌, ◌≤◌, refl, arith, Bool, true, false}
use Rattle.std.proofs.lemmas.Bool.{eqb-false}
use Rattle.std.specs.Prelude.{◌==◌, if◌then◌else◌, List}
use Rattle.shm_graph.specs.{declared.memo.Memo.Memo, Asks.Trail, Events.Event, Laws.Outcome}
use Rattle.plans.specs.{CallsControl.calls_does, CallsFit.CallsFits, Words.word_control}
use Rattle.shm_recover.specs.declared.give_up.GivePoint.{GivePoint, TheVariants.{Look, Give, Status}}
use Rattle.shm_recover.specs.declared.give_up.GiveState.{GiveState}
use Rattle.shm_recover.specs.GiveUp.{Control.{after_word, is_first, next_segment, turns_word}, GiveKnows, give_plan}
use Rattle.shm_recover.specs.{Proved.GiveUp.Laws.give_laws, Machines.Recovering.give_up}
use Rattle.shm_alone.specs.{Alone.EndsAlone, Lifting.{anything, word_left, word_saved}}
use Rattle.shm_alone.specs.Proved.Lifting.{plain_calls_end, word_ends}
use Rattle.shm_alone.specs.GiveEnds.{none_over, give_rest_at, give_rest, give_alone, give_left}

-- the next segment, or the status, is paid by the steps of this one
next_paid : (m : GiveState) (z : ℕ) → m.segment < m.me.geometry.segments → 2 * (m.me.geometry.segments - m.segment) - 1 ≤ z → 1 + give_rest (next_segment m) ≤ z
next_paid m z low most = go (m.segment + 1 == m.me.geometry.segments) (eqb-false (m.segment + 1) m.me.geometry.segments)
  where
    go : (q : Bool) → (q ≡ false → m.segment + 1 ≢ m.me.geometry.segments) → 1 + give_rest (if q then record m { point = Status } else record m { segment = m.segment + 1; point = Look }) ≤ z
    go true other = omega arith
    go false other = let n = other refl in omega arith

-- a word step pays for the next one
give_paid : (m : GiveState) (y : GivePoint) (r0 r : Memo) (tr : Trail) (es : List Event) (n : ℕ) → GiveKnows m y r0 r tr es → Outcome (turns_word y) (1 + give_rest (after_word m y n) ≤ give_rest_at m y + 0) (λ u. 0 ≤ give_rest_at m y + 0)
give_paid m Look r0 r tr es n h = go (n == m.me.who + 1)
  where
    go : (q : Bool) → 1 + give_rest (if q then record m { point = Give } else next_segment m) ≤ give_rest_at m Look + 0
    go true = let l = h.2 in omega arith
    go false = let l = h.2 in next_paid m (give_rest_at m Look + 0) l (omega arith)
give_paid m Give r0 r tr es n h = next_paid m (give_rest_at m Give + 0) h.2 (omega arith)
give_paid m Status r0 r tr es n h = omega arith

-- giving segments up alone ends
pub give_ends : EndsAlone give_up (calls_does word_control give_plan) give_alone give_left none_over (CallsFits word_control give_plan)
give_ends =
    plain_calls_end word_control give_plan anything word_left word_saved give_rest none_over give_laws
    (record { parts = λ m. word_ends (is_first m); begins = λ m w. tt; pays = λ m r0 rs r tr t es ds n h g held agent. give_paid m m.point r0 rs tr es n h })
