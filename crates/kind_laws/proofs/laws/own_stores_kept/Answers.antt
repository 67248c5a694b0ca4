use Rattle.kind_laws.proofs.{RedoAndRows.{begin_kept, row_stored}, CloseOp.close_kept, QueueTails.tail_kept}
use Rattle.kind_laws.proofs.{QueueHeads.head_kept, MoreStore.more_kept}
use Rattle.kind_laws.proofs.laws.own_stores_kept.Goals as goal

pub returns-clause-redo : goal.returns-clause-redo
returns-clause-redo c = begin_kept

pub returns-clause-more : goal.returns-clause-more
returns-clause-more c = more_kept

pub returns-clause-row : goal.returns-clause-row
returns-clause-row c = row_stored

pub returns-clause-era : goal.returns-clause-era
returns-clause-era c = close_kept

pub returns-clause-tail : goal.returns-clause-tail
returns-clause-tail c = tail_kept

pub returns-clause-head : goal.returns-clause-head
returns-clause-head c = head_kept
