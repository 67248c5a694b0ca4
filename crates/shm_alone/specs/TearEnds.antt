-- a tear-down that works alone ends: the loss of each reference and the freeing of each block pay for what comes before the next of them
use Rattle.std.proofs.Common.{ℕ, ◌+◌, ◌-◌, ◌*◌, ◌<◌, Bool}
use Rattle.std.specs.Prelude.{Result, Ok, Err}
use Rattle.shm_graph.specs.declared.{ask.Me.Me, spot.Spot.Spot}
use Rattle.shm_count.specs.declared.{answer.EraSpent.EraSpent, tear_point.{TearPoint.TearPoint, TearState.TearState}}
use Rattle.shm_count.specs.declared.tear_point.TearNext.{TearNext, TheVariants.{Go, Answer}}
use Rattle.shm_count.specs.Tear.{Control.tear_next_at, Events.tear_event_at}
use Rattle.shm_count.specs.declared.point.Aim.TheVariants as aims
use Rattle.shm_count.specs.declared.tear_point.TearPoint.TheVariants as point
use Rattle.shm_alone.specs.{Alone.{pay, IsLoss, weight}, StepEnds.{point_alone, point_left}}

-- ---- what is known, and what is left

-- what the step down of a reference word knows
abbrev pub tear_point_alone : TearPoint → (Spot → ℕ) → Type 0
tear_point_alone (point.Down g i t y) w = point_alone (aims.Down t) y w
tear_point_alone y w = Unit {0}

abbrev pub tear_alone : TearState → (Spot → ℕ) → Type 0
tear_alone m w = tear_point_alone m.point w

-- the word steps before the next event at most, and behind the event of a step down what that has left: a reference word and those after it are loaded, or a step down begins, or the block is freed
abbrev pub tear_point_left : Bool → TearPoint → ℕ
tear_point_left wide point.Begin = 28
tear_point_left wide (point.Enter l) = 28
tear_point_left wide (point.Link g) = 27
tear_point_left wide (point.Word g i) = 26 - i
tear_point_left wide (point.Down g i t y) = point_left wide y
tear_point_left wide (point.Free g) = 1
tear_point_left wide point.Return = 27
tear_point_left wide point.Over = 0

abbrev pub tear_left : TearState → ℕ
tear_left m = tear_point_left m.me.geometry.wide m.point

-- what a tear-down has left over: a block was freed, or it was stopped
abbrev pub tear_saved : Result (Unit {0}) EraSpent → ℕ
tear_saved (Ok done) = 100
tear_saved (Err e) = 0

-- ---- where it goes

-- a step leads on, to a point that knows what it has to and has less than n left, or to an answer that has less than n over
abbrev pub TearGoes : Bool → (Spot → ℕ) → ℕ → TearNext → Type 0
TearGoes wide w n (Go d y) = tear_point_alone y w × (tear_point_left wide y < n)
TearGoes wide w n (Answer a) = tear_saved a < n

-- what the word step at a point owes that found n, and left these words: its event is a loss, or none, and it leads on
pub record TearOwes (me : Me) (b : ℕ) (y : TearPoint) (n : ℕ) (w : Spot → ℕ) : Type 0 where
  pub loss : IsLoss (tear_event_at me b y n)
  pub goes : TearGoes me.geometry.wide w (tear_point_left me.geometry.wide y + pay * weight (tear_event_at me b y n)) (tear_next_at me b y n)
