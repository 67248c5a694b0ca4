use Rattle.kind_parts.proofs.Partitions.Walked.{walk_nowhere, walk_first, walk_key, walk_next, walk_end}
use Rattle.kind_parts.proofs.tables.table_walks.Goals as goal

pub returns : goal.returns
returns c = record { nowhere = walk_nowhere; first = walk_first; key = walk_key; next = walk_next; end = walk_end }
