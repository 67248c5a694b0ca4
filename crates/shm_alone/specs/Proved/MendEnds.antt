-- a mending that works alone ends: how many word steps come behind a call, and that they are paid for: what is proved of it
use Rattle.std.proofs.Common.{ℕ, ◌+◌, ◌%◌, ◌^◌, ◌≤◌, arith, Bool, true, false, List}
use Rattle.std.specs.Prelude.{if◌then◌else◌, Option, Some, None}
use Rattle.shm_words.specs.{declared.redo.Redo.Redo as ARedo, Redos.redo_of}
use Rattle.shm_words.specs.declared.redo.Redo.TheVariants as redos
use Rattle.shm_graph.specs.{declared.{memo.Memo.Memo, spot.Spot.Spot}, Asks.Trail, Bounds.redo_steps, Events.Event}
use Rattle.shm_graph.specs.Laws.{Outcome}
use Rattle.plans.specs.{declared.or.Or.TheVariants.{First, Second}, CallsControl.{calls_control, calls_does}}
use Rattle.plans.specs.{CallsFit.CallsFits, Either.{OrFits, or_control, or_does}}
use Rattle.plans.specs.Words.{WordFits, word_control, word_does}
use Rattle.shm_count.specs.declared.commit_test.Commit.{Commit, TheVariants.{Committed, NotCommitted}}
use Rattle.shm_count.specs.CommitTest.{testing_plan, Control.testing_steered}
use Rattle.shm_recover.specs.declared.mend.MendPoint.{MendPoint}
use Rattle.shm_recover.specs.declared.mend.MendPoint.TheVariants.{Dead, Era, Redo, More, Test, Slot, Close, Lower, Unlatch}
use Rattle.shm_recover.specs.declared.mend.MendState.{MendState}
use Rattle.shm_recover.specs.Mend.Control.{MendAnswer, found, found_by, is_dead, is_first, is_second, mend_after, mend_call, mend_parts, mend_turns, tested_at}
use Rattle.shm_recover.specs.{Mend.{Machines.mend, mend_part, mend_plan}, Proved.Mend.Laws.mend_laws}
use Rattle.shm_recover.specs.{MendLower.{lowering_plan, Control.lowering_steered}, MendUnlatch.unlatching_plan}
use Rattle.shm_recover.specs.MendUnlatch.Control.{unlatching_steered}
use Rattle.shm_alone.specs.{Alone.EndsAlone, GiveEnds.none_over}
use Rattle.shm_alone.specs.Lifting.{anything, calls_alone, calls_left, or_alone, or_left, or_saved, word_left, word_saved}
use Rattle.shm_alone.specs.Proved.{Lifting.{or_ends, plain_calls_end, word_ends}, LowerEnds.lower_ends}
use Rattle.shm_alone.specs.{Proved.{TestEnds.test_ends, UnlatchEnds.unlatch_ends}, LowerEnds.{lower_alone, lower_left}}
use Rattle.shm_alone.specs.{TestEnds.{test_rest, test_saved}, UnlatchEnds.{unlatch_alone, unlatch_left}}
use Rattle.shm_alone.specs.MendEnds.{mend_rest_at, mend_rest, mend_call_alone, mend_call_left, mend_call_saved, mend_alone, mend_left}

-- what is left before the next call
abbrev mend_due : MendState → ℕ
mend_due m = mend_call_left (mend_call m m.point) + mend_rest m

-- by the redo record that was found
found_paid : (m : MendState) (o : Option ARedo) → mend_due (found_by m o) ≤ m.me.geometry.clients + 13
found_paid m None = omega arith
found_paid m (Some redos.Idle) = omega arith
found_paid m (Some (redos.Up p b)) = omega arith
found_paid m (Some (redos.Down p b)) = omega arith
found_paid m (Some (redos.Change parity p a b)) = omega arith

-- by its first word, which in format 2 leads to the second one
first_paid : (m : MendState) (q : Bool) (n : ℕ) → mend_due (if q then record m { first = n; point = More } else found m n 0) ≤ m.me.geometry.clients + 12 + redo_steps q
first_paid m true n = omega arith
first_paid m false n = let k = found_paid m (redo_of m.me.geometry.wide n 0) in omega arith

-- by the commit test
tested_paid : (m : MendState) (x : Commit) (q : Bool) → mend_due (record m { point = tested_at x q }) ≤ 11
tested_paid m (Committed by) true = omega arith
tested_paid m (Committed by) false = omega arith
tested_paid m NotCommitted true = omega arith
tested_paid m NotCommitted false = omega arith

-- once the own era is stored
closed_paid : (m : MendState) (q : Bool) → mend_due (if q then record m { era = (m.era + 1) % 2 ^ 47; point = Lower } else record m { point = Unlatch }) ≤ 9
closed_paid m true = omega arith
closed_paid m false = omega arith

-- what a call has over pays for the next one
mend_paid : (m : MendState) (y : MendPoint) (a : MendAnswer) (rs r : Memo) (t : Trail) (ds : List Event) → (mend_part m y).leaves (mend_call m y) rs r t ds a
    → Outcome (mend_turns (record m { point = y }) a) (mend_due (mend_after (record m { point = y }) a) ≤ mend_rest_at m y + mend_call_saved a) (λ u. 0 ≤ mend_rest_at m y + mend_call_saved a)
mend_paid m Dead (First n) rs r t ds g = omega arith
mend_paid m Era (First n) rs r t ds g = omega arith
mend_paid m Redo (First n) rs r t ds g = let k = first_paid (record m { point = Redo }) m.me.geometry.wide n in omega arith
mend_paid m More (First n) rs r t ds g = let k = found_paid (record m { point = More }) (redo_of m.me.geometry.wide m.first n) in omega arith
mend_paid m Slot (First n) rs r t ds g = omega arith
mend_paid m Close (First n) rs r t ds g = let k = closed_paid (record m { point = Close }) (is_first m.redo m.era) in omega arith
mend_paid m Test (Second (First x)) rs r t ds g = let k = tested_paid (record m { point = Test }) x (is_second m.redo m.era) in omega arith
mend_paid m Lower (Second (Second (First u))) rs r t ds g = omega arith
mend_paid m Unlatch (Second (Second (Second u))) rs r t ds g = omega arith
mend_paid m Dead (Second a) rs r t ds g = absurd g
mend_paid m Era (Second a) rs r t ds g = absurd g
mend_paid m Redo (Second a) rs r t ds g = absurd g
mend_paid m More (Second a) rs r t ds g = absurd g
mend_paid m Slot (Second a) rs r t ds g = absurd g
mend_paid m Close (Second a) rs r t ds g = absurd g
mend_paid m Test (First n) rs r t ds g = absurd g
mend_paid m Test (Second (Second a)) rs r t ds g = absurd g
mend_paid m Lower (First n) rs r t ds g = absurd g
mend_paid m Lower (Second (First a)) rs r t ds g = absurd g
mend_paid m Lower (Second (Second (Second a))) rs r t ds g = absurd g
mend_paid m Unlatch (First n) rs r t ds g = absurd g
mend_paid m Unlatch (Second (First a)) rs r t ds g = absurd g
mend_paid m Unlatch (Second (Second (First a))) rs r t ds g = absurd g

-- its calls end alone
mend_part_ends : (m : MendState) → EndsAlone mend_parts (mend_part m m.point).does mend_call_alone mend_call_left mend_call_saved (mend_part m m.point).fits
mend_part_ends m =
    or_ends word_control (or_control (calls_control word_control testing_steered) (or_control (calls_control word_control lowering_steered) (calls_control word_control unlatching_steered)))
    (WordFits (is_dead m.point)) (OrFits (CallsFits word_control testing_plan) (OrFits (CallsFits word_control lowering_plan) (CallsFits word_control unlatching_plan)))
    word_does (or_does (calls_does word_control testing_plan) (or_does (calls_does word_control lowering_plan) (calls_does word_control unlatching_plan)))
    anything (or_alone (calls_alone anything anything) (or_alone lower_alone unlatch_alone)) word_left (or_left (calls_left word_left test_rest) (or_left lower_left unlatch_left)) word_saved (or_saved test_saved (or_saved none_over none_over))
    (word_ends (is_dead m.point))
    (or_ends (calls_control word_control testing_steered) (or_control (calls_control word_control lowering_steered) (calls_control word_control unlatching_steered))
    (CallsFits word_control testing_plan) (OrFits (CallsFits word_control lowering_plan) (CallsFits word_control unlatching_plan))
    (calls_does word_control testing_plan) (or_does (calls_does word_control lowering_plan) (calls_does word_control unlatching_plan))
    (calls_alone anything anything) (or_alone lower_alone unlatch_alone) (calls_left word_left test_rest) (or_left lower_left unlatch_left) test_saved (or_saved none_over none_over)
    test_ends
    (or_ends (calls_control word_control lowering_steered) (calls_control word_control unlatching_steered) (CallsFits word_control lowering_plan) (CallsFits word_control unlatching_plan)
    (calls_does word_control lowering_plan) (calls_does word_control unlatching_plan) lower_alone unlatch_alone lower_left unlatch_left none_over none_over lower_ends unlatch_ends))

-- a call begins with what it knows of the words
begins : (m : MendState) (y : MendPoint) (w : Spot → ℕ) → mend_call_alone (mend_call m y) w
begins m Dead w = tt
begins m Era w = tt
begins m Redo w = tt
begins m More w = tt
begins m Test w = (tt, tt)
begins m Slot w = tt
begins m Close w = tt
begins m Lower w = (tt, tt)
begins m Unlatch w = (tt, tt)

-- a mending that works alone ends
pub mend_ends : EndsAlone mend (calls_does mend_parts mend_plan) mend_alone mend_left none_over (CallsFits mend_parts mend_plan)
mend_ends =
    plain_calls_end mend_parts mend_plan mend_call_alone mend_call_left mend_call_saved mend_rest none_over mend_laws
    (record { parts = mend_part_ends; begins = λ m. begins m m.point; pays = λ m r0 rs r tr t es ds a h g held agent. mend_paid m m.point a rs r t ds g })
