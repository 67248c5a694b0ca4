use Rattle.run_view.proofs.Tabling.{table_end}
use Rattle.run_view.proofs.steps.Steps.end.Goals as goal

pub returns : goal.returns
returns g c rows h = table_end g.B.Begun.sink g.B.Begun.window c.args.self.window c.args.self.turns rows h c.heads_at.ensures c.turns.ensures c.end.ensures.ends
