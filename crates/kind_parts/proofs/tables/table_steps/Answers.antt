use Rattle.kind_parts.proofs.Partitions.Laws.{begun_reparted, begun_mapped}
use Rattle.kind_parts.proofs.tables.table_steps.Goals as goal

pub returns : goal.returns
returns c = record { part = begun_reparted; map = begun_mapped }
