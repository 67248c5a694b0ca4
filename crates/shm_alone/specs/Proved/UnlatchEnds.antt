-- giving a latch back, as a recoverer that works alone does, ends: how many word steps come behind one, and that each is paid for: what is proved of it
use Rattle.std.proofs.Common.{ℕ, ◌+◌, ◌-◌, ◌%◌, ◌≤◌, arith, Bool, true, false}
use Rattle.std.specs.Prelude.{◌==◌, if◌then◌else◌, Some, None}
use Rattle.shm_graph.specs.Laws.{Outcome}
use Rattle.plans.specs.{CallsControl.{calls_control, calls_does}, CallsFit.CallsFits, Words.word_control}
use Rattle.shm_recover.specs.declared.mend_unlatch.MendUnlatchPoint.{MendUnlatchPoint}
use Rattle.shm_recover.specs.declared.mend_unlatch.MendUnlatchPoint.TheVariants.{Whose, Look, Give, Back}
use Rattle.shm_recover.specs.declared.mend_unlatch.MendUnlatchState.{MendUnlatchState}
use Rattle.shm_recover.specs.MendUnlatch.Control.{is_whose, unlatching_after, unlatching_turns, unlatching_steered}
use Rattle.shm_recover.specs.MendUnlatch.{unlatching_plan}
use Rattle.shm_alone.specs.{Alone.EndsAlone, GiveEnds.none_over, Lifting.{anything, word_left, word_saved}}
use Rattle.shm_alone.specs.Proved.Lifting.{bare_calls_end, word_ends}
use Rattle.shm_alone.specs.UnlatchEnds.{unlatch_rest_at, unlatch_rest, unlatch_alone, unlatch_left}

-- a word step pays for the next one
unlatch_paid : (m : MendUnlatchState) (y : MendUnlatchPoint) (n : ℕ) → Outcome (unlatching_turns y n) (1 + unlatch_rest (unlatching_after m y n) ≤ unlatch_rest_at y + 0) (λ u. 0 ≤ unlatch_rest_at y + 0)
unlatch_paid m Whose n = go (n == 0)
  where
    go : (q : Bool) → Outcome {A = Unit {0}} (if q then Some tt else None) (1 + unlatch_rest (if q then m else record m { author = (n - 1) % m.me.geometry.clients; point = Look }) ≤ 3) (λ u. 0 ≤ 3)
    go true = omega arith
    go false = omega arith
unlatch_paid m Look n = go (n == m.me.who + 1)
  where
    go : (q : Bool) → 1 + unlatch_rest_at (if q then Give else Back) ≤ 2
    go true = omega arith
    go false = omega arith
unlatch_paid m Give n = omega arith
unlatch_paid m Back n = omega arith

-- giving a latch back alone ends
pub unlatch_ends : EndsAlone (calls_control word_control unlatching_steered) (calls_does word_control unlatching_plan) unlatch_alone unlatch_left none_over (CallsFits word_control unlatching_plan)
unlatch_ends =
    bare_calls_end word_control unlatching_plan anything word_left word_saved unlatch_rest none_over
    (record { parts = λ m. word_ends (is_whose m.point); begins = λ m w. tt; pays = λ m n. unlatch_paid m m.point n })
