use Rattle.kind_laws.proofs.Quiet.{begin_quiet, row_quiet, close_quiet, tail_quiet, head_quiet, root_quiet, body_quiet, class_quiet, back_quiet, latch_quiet}
use Rattle.kind_laws.proofs.MoreStore.{more_quiet}
use Rattle.kind_laws.proofs.laws.stores_are_quiet.Goals as goal

pub returns-clause-redo : goal.returns-clause-redo
returns-clause-redo c = begin_quiet

pub returns-clause-more : goal.returns-clause-more
returns-clause-more c = more_quiet

pub returns-clause-row : goal.returns-clause-row
returns-clause-row c = row_quiet

pub returns-clause-era : goal.returns-clause-era
returns-clause-era c = close_quiet

pub returns-clause-tail : goal.returns-clause-tail
returns-clause-tail c = tail_quiet

pub returns-clause-head : goal.returns-clause-head
returns-clause-head c = head_quiet

pub returns-clause-root : goal.returns-clause-root
returns-clause-root c = root_quiet

pub returns-clause-body : goal.returns-clause-body
returns-clause-body c = body_quiet

pub returns-clause-class : goal.returns-clause-class
returns-clause-class c = class_quiet

pub returns-clause-back : goal.returns-clause-back
returns-clause-back c = back_quiet

pub returns-clause-latch : goal.returns-clause-latch
returns-clause-latch c = latch_quiet
