use Rattle.std.proofs.Common.{◌≡◌, ◌≢◌, ℕ, ◌<◌}
use Rattle.std.specs.Prelude.{Some, slice_get}
use Rattle.shm_script.specs.Values.{Scripted}
use Rattle.shm_morgue.proofs.rescue.script_of.Given as goal

abbrev pub invariant-loop-script : goal.invariant-loop-script
invariant-loop-script l = record { before : (j : ℕ) (r : Scripted) → j < l.script-index → slice_get l.scripts j ≡ Some r → r.client ≢ l.client }
