-- what a mending leaves as it was
use Rattle.std.specs.Prelude.{Bool, true, false, [], None}
use Rattle.shm_graph.specs.declared.{spot.Spot.{Spot, TheVariants.{Era, Hold}}, memo.Memo.Memo}
use Rattle.shm_graph.specs.{declared.memo.Op.TheVariants.Nothing, Core.core}

-- the memo but its own words, the step in progress, the latch, the zero-count blocks, and what it knows and has read: the status, the segments, the queues, the partition and the block that is prepared are left
abbrev pub bare : Memo → Memo
bare m = core (record m { own = []; op = Nothing; latch = None; looks = []; dying = []; known = []; values = [] })

-- the words of rows, and the hold words
abbrev pub is_row : Spot → Bool
is_row (Era i j) = true
is_row p = false

abbrev pub is_hold : Spot → Bool
is_hold (Hold c) = true
is_hold p = false
