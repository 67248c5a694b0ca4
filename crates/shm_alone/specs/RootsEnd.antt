-- drops of roots that work alone end: a step down and a tear-down pay for themselves, and a root for its load
use Rattle.std.proofs.Common.{ℕ, ◌-◌, ◌*◌, Bool, true}
use Rattle.std.specs.Prelude.{Result, Ok}
use Rattle.shm_graph.specs.declared.spot.Spot.{Spot}
use Rattle.plans.specs.declared.calls.Calls.{Calls}
use Rattle.shm_count.specs.declared.answer.EraSpent.{EraSpent}
use Rattle.shm_ref.specs.declared.drop_root.{DropPoint.{DropPoint, TheVariants.Load}, DropState.DropState}
use Rattle.shm_ref.specs.{declared.drop_roots.RootsState.RootsState, DropRoot.Control.{DropAnswer, DropCall}}
use Rattle.shm_ref.specs.DropRoots.Control.{RootsCall}
use Rattle.shm_alone.specs.Lifting.{anything, calls_alone, calls_left, or_alone, or_left, or_saved, word_left, word_saved}
use Rattle.shm_alone.specs.{StepEnds.{step_alone, step_left, step_saved}, TearEnds.{tear_alone, tear_left, tear_saved}}

-- ---- a word, a step down or a tear-down

-- what each knows of the words
abbrev pub part_alone : DropCall → (Spot → ℕ) → Type 0
part_alone = or_alone anything (or_alone step_alone tear_alone)

-- what each has left, and what its answer has over
abbrev pub part_left : DropCall → ℕ
part_left = or_left word_left (or_left step_left tear_left)

abbrev pub part_saved : DropAnswer → ℕ
part_saved = or_saved word_saved (or_saved step_saved tear_saved)

-- ---- a drop of a root

-- what comes after the call that is next: after the load a step down, for which nothing pays before its event
abbrev pub drop_rest : DropPoint → ℕ
drop_rest Load = 10
drop_rest y = 0

abbrev pub drop_plan_rest : DropState → ℕ
drop_plan_rest m = drop_rest m.point

-- what a drop has over: a reference was lost, or nothing was
abbrev pub drop_saved : Result Bool EraSpent → ℕ
drop_saved (Ok true) = 100
drop_saved a = 0

-- what it knows of the words, and what it has left
abbrev pub drop_alone : RootsCall → (Spot → ℕ) → Type 0
drop_alone = calls_alone part_alone anything

abbrev pub drop_left : RootsCall → ℕ
drop_left = calls_left part_left drop_plan_rest

-- ---- a drop of all roots

-- what comes after the drop of the next root: the drops of those behind it
abbrev pub roots_rest : RootsState → ℕ
roots_rest m = 11 * (15 - m.root)

-- its answer has nothing over
abbrev pub roots_saved : Result (Unit {0}) EraSpent → ℕ
roots_saved a = 0

-- what it knows of the words, and what it has left
abbrev pub roots_alone : Calls RootsState RootsCall → (Spot → ℕ) → Type 0
roots_alone = calls_alone drop_alone anything

abbrev pub roots_left : Calls RootsState RootsCall → ℕ
roots_left = calls_left drop_left roots_rest
