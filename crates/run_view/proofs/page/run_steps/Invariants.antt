use Rattle.std.specs.Prelude.{Some}
use Rattle.run_view.proofs.page.run_steps.Given as goal

abbrev pub ghosts-steps_by : goal.ghosts-steps_by
ghosts-steps_by g a = record { sink = Some a.writer.sink; window = a.window }
