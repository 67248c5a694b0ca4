-- the fields of a recovery in single steps
use Rattle.shm_graph.specs.{declared.memo.Memo.Memo, Asks.Trail, Laws.Control}
use Rattle.shm_pool.specs.{declared.rescue.Rescue.Rescue, Endings.Answer, Rescues.{IsRescuing, RescuingBy, rescuing_of}}
use Rattle.shm_pool.specs.{Rules.alone, Tokens.IsSeated}

-- as contracts see them
abbrev pub rescuing_by : {M : Type 0} → Rescue M → RescuingBy M
rescuing_by t = rescuing_of t.start t.place t.begun t.machine t.done

-- they are of one seat, and of a machine that recovers its identity
abbrev pub IsRescue : {M : Type 0} → Control M Answer → (M → Memo → Memo → Trail → Type 0) → (M → Memo → Memo → Trail → Answer → Type 0) → Rescue M → Type 0
IsRescue k fits gives t = IsSeated t.start t.who t.place × IsRescuing k fits gives t.start t.fell t.begun t.done (alone t.place) t.machine
