use Rattle.std.proofs.Common.{rules}
use Rattle.run_view.proofs.Tabling.{table_more}
use Rattle.run_view.proofs.steps.StepsListener.tell.Goals as goal

pub returns : goal.returns
returns g c before h = table_more g.B.Begun.sink g.B.Begun.window c.args.self.now.window c.args.self.now.turns _ before (c.args._shown, c.args.span) (search rules) h c.heads_at.ensures c.span.ensures
