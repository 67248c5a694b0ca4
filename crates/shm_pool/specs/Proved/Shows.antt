-- a command shows what it is going to answer
use Rattle.std.proofs.Common.{◌≡◌, refl}
use Rattle.shm_graph.specs.declared.ask.Me.{Me}
use Rattle.shm_script.specs.declared.line.Line.{Line}
use Rattle.shm_script.specs.declared.line.Line.TheVariants as line
use Rattle.shm_table.specs.Command.{command_control, command_of, Operates.CommandMay}
use Rattle.shm_table.specs.Proved.Command.Operates.{command_may}
use Rattle.shm_pool.specs.Shows.{ShowsLaws}

-- the command of a line is of the identity that it was made for
me_of_command : (me : Me) (l : Line) → command_control.me (command_of me l) ≡ me
me_of_command me (line.Put key n) = refl
me_of_command me (line.Copy key a other) = refl
me_of_command me (line.Del key) = refl
me_of_command me (line.Get a key) = refl
me_of_command me (line.Send to key) = refl
me_of_command me (line.Recv from key) = refl

pub command_shows : ShowsLaws command_control CommandMay (λ m a. Unit {0}) command_of
command_shows = record { me = me_of_command; begins = command_may; rested = λ m a. tt }
