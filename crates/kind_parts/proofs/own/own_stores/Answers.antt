use Rattle.kind_parts.proofs.{OwnStores.{row_stored, hold_stored}, OwnStoresEra.era_closed}
use Rattle.kind_parts.proofs.{OwnStoresLanes.{tail_stored, head_stored}, OwnStoresRedo.{more_stored, redo_stored}}
use Rattle.kind_parts.proofs.own.own_stores.Goals as goal

pub returns : goal.returns
returns c = record { row = row_stored; hold = hold_stored; tail = tail_stored; head = head_stored; era = era_closed; more = more_stored; redo = redo_stored }
