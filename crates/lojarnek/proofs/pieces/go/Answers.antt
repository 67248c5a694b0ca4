use Rattle.shm_table.specs.Command.{command_of}
use Rattle.shm_pool.specs.Tokens.{me_of}
use Rattle.lojarnek.proofs.Piecewise.{gone_on}
use Rattle.lojarnek.proofs.pieces.go.Goals as goal

pub go_on-requires-clause-amid : goal.go_on-requires-clause-amid
go_on-requires-clause-amid c = let h = c.requires.amid in (command_of (me_of h.1.token.of h.1.token.account) h.0, h.1, h.2)

pub returns-clause-gone : goal.returns-clause-gone
returns-clause-gone c = λ l x amid ready tables.
    gone_on c.command_maps.ensures.going c.command_sends.ensures.going l c.args.command.now c.go_on.new.operation x c.args.token.now c.go_on.new.token c.args.life.now.left c.go_on.new.life.left amid ready tables c.go_on.result
    (c.go_on.ensures.gone (command_of (me_of x.token.of x.token.account) l) x amid)
