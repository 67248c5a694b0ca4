use Rattle.kind_parts.proofs.BeginSlots.{change_begins_root}
use Rattle.kind_parts.proofs.beginning.changes_begin.Goals as goal

pub returns : goal.returns
returns c = record { root = change_begins_root }
