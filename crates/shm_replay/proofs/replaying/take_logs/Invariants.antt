use Rattle.std.proofs.Common.{◌≡◌, ◌≢◌, ℕ, ◌<◌, ◌≤◌, length, take, vec_capacity, vec_len}
use Rattle.std.specs.Prelude.{None, Some, slice_get, slice_index_or}
use Rattle.shm_script.specs.Values.{Scripted}
use Rattle.shm_replay.specs.Gathered.{logs_by}
use Rattle.shm_replay.proofs.replaying.take_logs.Given as goal

abbrev pub invariant-loop-script : goal.invariant-loop-script
invariant-loop-script g l = record {
  many : length l.agents ≡ length l.fn.agents;
  logs : l.logs.items ≡ logs_by (take l.script-index l.trace.scripts) l.fn.agents;
  few : vec_len l.logs ≤ l.script-index;
  room : vec_capacity l.logs ≡ vec_capacity l.fn.logs;
  left : (c : ℕ) → ((j : ℕ) (r : Scripted) → j < l.script-index → slice_get l.trace.scripts j ≡ Some r → r.client ≢ c) → slice_index_or l.agents c None ≡ slice_index_or l.fn.agents c None;
}
