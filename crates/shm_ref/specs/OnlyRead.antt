-- what homes, reference words and plain words that were read leave of a memo: reading may go on
use Rattle.std.proofs.Common.{◌≡◌, List, [], ◌++◌}
use Rattle.std.specs.List.{filter}
use Rattle.shm_graph.specs.declared.memo.{Look.Look, Memo.Memo}
use Rattle.shm_count.specs.Tear.Memos.{is_slot_word}

-- only words were read: the status, the own words, the step in progress, the block that is prepared, the latch and the known head slots are what they were, and the looks have grown
pub record OnlyRead (m r : Memo) : Type 0 where
  pub status : r.status ≡ m.status
  pub own : r.own ≡ m.own
  pub op : r.op ≡ m.op
  pub making : r.making ≡ m.making
  pub latch : r.latch ≡ m.latch
  pub slots : filter is_slot_word r.known ≡ filter is_slot_word m.known
  pub more : List Look
  pub looks : r.looks ≡ m.looks ++ more
