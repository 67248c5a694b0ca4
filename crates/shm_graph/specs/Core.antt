-- the memo as larger machines speak of it
use Rattle.std.specs.Prelude.{[], None, false}
use Rattle.shm_graph.specs.declared.memo.Memo.{Memo}

-- the memo but what it has of its call and of its agents
abbrev pub core : Memo → Memo
core m = record m { facts = []; zeros = []; test = None; made = []; call = []; over = false; agents = [] }
