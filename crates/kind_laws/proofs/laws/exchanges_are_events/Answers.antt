use Rattle.kind_laws.proofs.{AllocBlock.alloc_event, UpBlock.up_event, LowerBlock.lower_event}
use Rattle.kind_laws.proofs.laws.exchanges_are_events.Goals as goal

pub returns-clause-alloc : goal.returns-clause-alloc
returns-clause-alloc c = alloc_event

pub returns-clause-up : goal.returns-clause-up
returns-clause-up c = up_event

pub returns-clause-down : goal.returns-clause-down
returns-clause-down c = lower_event
