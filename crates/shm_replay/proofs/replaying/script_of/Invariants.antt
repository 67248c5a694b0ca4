use Rattle.std.proofs.Common.{◌≡◌, ◌≢◌, ℕ, ◌<◌}
use Rattle.std.specs.Prelude.{Some, slice_get}
use Rattle.shm_script.specs.Values.{Scripted}
use Rattle.shm_replay.proofs.replaying.script_of.Given as goal

abbrev pub invariant-loop-at : goal.invariant-loop-at
invariant-loop-at l = record { before : (j : ℕ) (r : Scripted) → j < l.at → slice_get l.scripts j ≡ Some r → r.client ≢ l.who }
