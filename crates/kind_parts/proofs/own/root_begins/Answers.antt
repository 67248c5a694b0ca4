use Rattle.kind_parts.proofs.OwnStoresRedo.{root_begins_up, root_begins_down}
use Rattle.kind_parts.proofs.own.root_begins.Goals as goal

pub returns : goal.returns
returns c = record { up = root_begins_up; down = root_begins_down }
