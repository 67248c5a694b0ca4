use Rattle.shm_graph.specs.Spots.{see}
use Rattle.shm_report.specs.Report.{table_text}
use Rattle.shm_program.proofs.laws.replay_writes_log.Goals as goal

pub returns : goal.returns
returns c = λ t finished text told. let r = told.0 in let g = r.run.closed.start.geometry in (table_text g (see g r.run.closed.words) r.replay.table, told.1)
