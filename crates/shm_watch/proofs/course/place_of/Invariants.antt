use Rattle.std.proofs.Common.{◌≡◌, ◌≢◌, ℕ, ◌<◌}
use Rattle.std.specs.Prelude.{Some, slice_get}
use Rattle.shm_watch.specs.Columns.{Laned}
use Rattle.shm_watch.proofs.course.place_of.Given as goal

abbrev pub invariant-loop-at : goal.invariant-loop-at
invariant-loop-at g l = record { before : (j : ℕ) (r : Laned) → j < l.at → slice_get l.lanes j ≡ Some r → r.me.who ≢ l.who }
