-- the line of a command
use Rattle.std.proofs.Common.{◌≡◌, refl}
use Rattle.shm_graph.specs.declared.ask.Me.{Me}
use Rattle.shm_script.specs.{declared.line.Line.Line, Text.line_spelled}
use Rattle.shm_script.specs.declared.line.Line.TheVariants as line
use Rattle.shm_table.specs.Command.{command_control, command_of}

-- it is its text
pub command_line : (me : Me) (l : Line) → command_control.line (command_of me l) ≡ line_spelled l
command_line me (line.Put key n) = refl
command_line me (line.Copy key a other) = refl
command_line me (line.Del key) = refl
command_line me (line.Get a key) = refl
command_line me (line.Send i key) = refl
command_line me (line.Recv s key) = refl
