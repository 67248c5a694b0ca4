use Rattle.kind_laws.proofs.{ChangeFirst.change_event, SecondHalf.second_event, FreeBlock.free_event}
use Rattle.kind_laws.proofs.laws.changes_are_events.Goals as goal

pub returns-clause-first : goal.returns-clause-first
returns-clause-first c = change_event

pub returns-clause-second : goal.returns-clause-second
returns-clause-second c = second_event

pub returns-clause-free : goal.returns-clause-free
returns-clause-free c = free_event
