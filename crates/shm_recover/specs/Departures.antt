-- what a leaving and a recovery have in common: the identity is gone, or the own era left no room
use Rattle.std.specs.Prelude.{◌⊎◌, Ok, Err, List}
use Rattle.shm_graph.specs.{declared.{ask.Me.Me, memo.Memo.Memo}, Asks.Trail, Events.Event}
use Rattle.shm_count.specs.declared.answer.EraSpent.{EraSpent}
use Rattle.shm_recover.specs.{Leave.{Control.leaving, LeaveLeaves}, Recover.{Control.recovering, RecoverLeaves}}

-- a leaving or a recovery that is done left this
abbrev pub LeftOrRecovered : Me → Memo → Memo → Trail → List Event → Type 0
LeftOrRecovered me r0 r tr es = LeaveLeaves (leaving me) r0 r tr es (Ok tt) ⊎ RecoverLeaves (recovering me) r0 r tr es (Ok tt)

-- a leaving or a recovery that was refused as spent left this
abbrev pub WasSpent : Me → Memo → Memo → Trail → List Event → EraSpent → Type 0
WasSpent me r0 r tr es e = LeaveLeaves (leaving me) r0 r tr es (Err e) ⊎ RecoverLeaves (recovering me) r0 r tr es (Err e)
