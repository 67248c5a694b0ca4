-- whether the exchange of a count step was made: by its control alone
use Rattle.std.specs.Prelude.{ℕ, Bool, true, false, ◌==◌}
use Rattle.shm_count.specs.declared.point.{Aim.{Aim, TheVariants.Change}, Half.{Half, TheVariants.Second}}
use Rattle.shm_count.specs.declared.point.{StepPoint.StepPoint, StepState.StepState}
use Rattle.shm_count.specs.declared.point.StepPoint.TheVariants as point

-- whether the half is the second one of a change
abbrev pub is_second : Aim → Half → Bool
is_second (Change a b) Second = true
is_second x h = false

-- whether the exchange of a count step was made, of a change that of its first half
abbrev pub exchanged_at : Aim → StepPoint → Bool
exchanged_at x (point.Load e h) = is_second x h
exchanged_at x (point.Row e h w) = is_second x h
exchanged_at x (point.Show e h w) = is_second x h
exchanged_at x (point.Exchange e h w) = is_second x h
exchanged_at x (point.Slot e z) = true
exchanged_at x (point.Close e h z) = true
exchanged_at x y = false

abbrev pub step_exchanged : StepState → Bool
step_exchanged m = exchanged_at m.aim m.point

-- whether the step that finds n is an exchange that finds the header that it names
abbrev pub exchanging_at : StepPoint → ℕ → Bool
exchanging_at (point.Exchange e h w) n = n == w
exchanging_at y n = false

abbrev pub step_exchanging : StepState → ℕ → Bool
step_exchanging m n = exchanging_at m.point n
