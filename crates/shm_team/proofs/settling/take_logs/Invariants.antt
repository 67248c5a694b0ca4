use Rattle.std.proofs.Common.{◌≡◌, ◌≢◌, ℕ, ◌<◌, length, take}
use Rattle.std.specs.Prelude.{None, Some, slice_get, slice_index_or}
use Rattle.shm_script.specs.Values.{Scripted}
use Rattle.shm_team.specs.Dones.{logs_in}
use Rattle.shm_team.proofs.settling.take_logs.Given as goal

abbrev pub invariant-loop-script : goal.invariant-loop-script
invariant-loop-script l = record {
  many : length l.logs ≡ length l.fn.logs;
  logs : l.ordered.items ≡ logs_in (take l.script-index l.trace.scripts) l.fn.logs;
  left : (c : ℕ) → ((j : ℕ) (r : Scripted) → j < l.script-index → slice_get l.trace.scripts j ≡ Some r → r.client ≢ c) → slice_index_or l.logs c None ≡ slice_index_or l.fn.logs c None;
}
