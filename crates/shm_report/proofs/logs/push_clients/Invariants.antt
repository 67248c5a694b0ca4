use Rattle.std.proofs.Common.{◌≡◌, ◌++◌, take}
use Rattle.std.specs.List.{flat_map}
use Rattle.shm_report.specs.Logs.{client_line}
use Rattle.shm_report.proofs.logs.push_clients.Given as goal

abbrev pub invariant-loop-log : goal.invariant-loop-log
invariant-loop-log l = l.text.items ≡ l.initial.text.items ++ flat_map client_line (take l.log-index l.logs)
