use Rattle.std.proofs.Common.{sym, ap, ◌∙◌, subst}
use Rattle.shm_graph.specs.declared.ask.Me.{Me}
use Rattle.shm_table.specs.Command.{CommandCall, CommandFits, CommandGives, LineMayStand, Operates.CommandMay}
use Rattle.shm_table.specs.{Command.{command_control, command_of}, TableTasks.LineMay}
use Rattle.shm_pool.specs.{Proved.Shows.command_shows, Tokens.me_of}
use Rattle.shm_pool.proofs.Commanded.{stands}
use Rattle.lojarnek.specs.{Amid.IsAmid, Standing.acts_of}
use Rattle.lojarnek.proofs.Ready.{may_run}
use Rattle.lojarnek.proofs.pieces.begin.Goals as goal

pub new-command-requires-clause-line : goal.new-command-requires-clause-line
new-command-requires-clause-line c =
    let t = c.args.token.now in
    let may : LineMay (me_of t.of t.account) c.args.line.now t.account.memo = may_run t c.args.line.now c.requires.ready c.me.ensures.stood c.me.ensures.kind c.requires.tables c.requires.fits c.requires.alive in
    subst (λ (z : Me). LineMayStand z c.args.line.now) (sym c.me.ensures.is) (stands (me_of t.of t.account) c.args.line.now t.account.memo may)

pub begun-requires-clause-between : goal.begun-requires-clause-between
begun-requires-clause-between c = c.requires.ready.rests.between c.requires.alive

pub begun-requires-clause-me : goal.begun-requires-clause-me
begun-requires-clause-me c =
    let t = c.args.token.now in
    ap command_control.me (c.new-command.ensures.command ∙ ap (λ (x : Me). command_of x c.args.line.now) c.me.ensures.is) ∙ command_shows.me (me_of t.of t.account) c.args.line.now

pub begun-requires-clause-may : goal.begun-requires-clause-may
begun-requires-clause-may c =
    let t = c.args.token.now in
    let may : LineMay (me_of t.of t.account) c.args.line.now t.account.memo = may_run t c.args.line.now c.requires.ready c.me.ensures.stood c.me.ensures.kind c.requires.tables c.requires.fits c.requires.alive in
    subst (λ (m : CommandCall). CommandMay m t.account.memo) (sym (c.new-command.ensures.command ∙ ap (λ (x : Me). command_of x c.args.line.now) c.me.ensures.is)) (command_shows.begins (me_of t.of t.account) c.args.line.now t.account.memo may)

pub returns : goal.returns
returns c = λ left.
    let t = c.args.token.now in
    subst (λ (n : CommandCall). IsAmid command_control CommandFits CommandGives CommandMay n c.new-command.result (acts_of t left) (acts_of t left)) (c.new-command.ensures.command ∙ ap (λ (x : Me). command_of x c.args.line.now) c.me.ensures.is) (c.begun.ensures left)
