use Rattle.kind_parts.proofs.SlotStores.{root_stored, home_stored, queue_stored, body_stored, may_write}
use Rattle.kind_parts.proofs.writing.slot_stores.Goals as goal

pub returns : goal.returns
returns c = record { root = root_stored; home = home_stored; queue = queue_stored; body = body_stored; committed = may_write }
