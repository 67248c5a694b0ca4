use Rattle.std.proofs.Common.{◌∙◌, sym}
use Rattle.shm_script.proofs.NextCommands.{command_taken}
use Rattle.shm_script.proofs.parsing.Draft.take_command.Goals as goal

pub returns-clause-read : goal.returns-clause-read
returns-clause-read c at =
    let on = sym c.takes_commands.ensures ∙ c.if-not-takes_commands.false in
    command_taken _ c.args.self.now c.add_command.new.self at c.args.text.now c.in-Some.rest.now c.in-Some.line c.self.view_is c.next_command.ensures.few on c.in-Some.ensures.next c.in_ok-add_command.ensures
