-- a step down that works alone ends: no exchange of it fails, and the reference that is lost pays for what is left of it, and leaves 200 word steps over
use Rattle.std.proofs.Common.{◌≡◌, ℕ, ◌+◌, ◌*◌, ◌<◌, Bool}
use Rattle.std.specs.Prelude.{Result, Ok, Err}
use Rattle.shm_graph.specs.{declared.{ask.Me.Me, spot.Spot.{Spot, TheVariants.Head}}, Bounds.redo_steps}
use Rattle.shm_count.specs.declared.{answer.EraSpent.EraSpent, point.{Aim.Aim, StepPoint.StepPoint}}
use Rattle.shm_count.specs.declared.point.{StepState.StepState, StepNext.{StepNext, TheVariants.{Point, Answer}}}
use Rattle.shm_count.specs.Step.{Control.{block_at, step_next_at}, Events.step_event_at, Machines.down_answer}
use Rattle.shm_count.specs.declared.point.StepPoint.TheVariants as point
use Rattle.shm_alone.specs.Alone.{pay, IsLoss, weight}

-- ---- what is known, and what is left

-- the header that was read is still in the header word of its block
abbrev pub point_alone : Aim → StepPoint → (Spot → ℕ) → Type 0
point_alone x (point.Row e h k) w = w (Head (block_at x h)) ≡ k
point_alone x (point.Show e h k) w = w (Head (block_at x h)) ≡ k
point_alone x (point.Exchange e h k) w = w (Head (block_at x h)) ≡ k
point_alone x y w = Unit {0}

abbrev pub step_alone : StepState → (Spot → ℕ) → Type 0
step_alone m w = point_alone m.aim m.point w

-- the word steps before the event at most; behind it, those that are left and 200 that the event pays for what comes after the step
abbrev pub point_left : Bool → StepPoint → ℕ
point_left wide point.Era = 7 + redo_steps wide
point_left wide (point.More e) = 8
point_left wide (point.Redo e) = 7
point_left wide (point.Load e h) = 6
point_left wide (point.Row e h k) = 5
point_left wide (point.Show e h k) = 4
point_left wide (point.Exchange e h k) = 3
point_left wide (point.Slot e z) = 202
point_left wide (point.Close e h z) = 201
point_left wide point.Over = 0

abbrev pub step_left : StepState → ℕ
step_left m = point_left m.me.geometry.wide m.point

-- what a step down has left over: its reference is lost, or nothing is
abbrev pub step_saved : Result Bool EraSpent → ℕ
step_saved (Ok z) = 200
step_saved (Err e) = 0

-- ---- where it goes

-- a step leads on, to a point that knows what it has to and has less than n left, or to an answer that has less than n over
abbrev pub StepGoes : Bool → Aim → (Spot → ℕ) → ℕ → StepNext → Type 0
StepGoes wide x w n (Point y) = point_alone x y w × (point_left wide y < n)
StepGoes wide x w n (Answer a) = step_saved (down_answer a) < n

-- what the word step at a point owes that found n, and left these words: its event is a loss, or none, and it leads on
pub record StepOwes (me : Me) (x : Aim) (p : Spot) (y : StepPoint) (n : ℕ) (w : Spot → ℕ) : Type 0 where
  pub loss : IsLoss (step_event_at me x p y n)
  pub goes : StepGoes me.geometry.wide x w (point_left me.geometry.wide y + pay * weight (step_event_at me x p y n)) (step_next_at me x y n)
