use Rattle.std.proofs.Common.{◌≡◌, ◌-◌}
use Rattle.shm_script.specs.Drawing.{drawn_lines}
use Rattle.shm_script.proofs.Drawn.{with_front}
use Rattle.shm_script.proofs.draw.Draw.lines.Given as goal

abbrev pub invariant-loop : goal.invariant-loop
invariant-loop l = with_front l.lines.items (drawn_lines l.client (l.size - l.counter) l.self) ≡ drawn_lines l.client l.size l.fn.self
