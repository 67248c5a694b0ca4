use Rattle.std.proofs.Common.{◌≡◌, ◌-◌, ◌++◌}
use Rattle.shm_script.specs.Drawing.{drawn_scripts, first}
use Rattle.shm_script.proofs.draw.generate.Given as goal

abbrev pub invariant-loop-client : goal.invariant-loop-client
invariant-loop-client l = l.scripts.items ++ drawn_scripts l.size l.client (4 - l.client) l.draw ≡ drawn_scripts l.size 0 4 (first l.start)
