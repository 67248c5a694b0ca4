use Rattle.kind_parts.proofs.BeginSlots.{up_begins_home, up_begins_send, down_begins_take, down_begins_unsend}
use Rattle.kind_parts.proofs.beginning.slots_begin.Goals as goal

pub returns : goal.returns
returns c = record { home = up_begins_home; send = up_begins_send; take = down_begins_take; unsend = down_begins_unsend }
