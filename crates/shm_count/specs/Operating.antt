-- a tear-down as an operation: when it may begin between two calls
use Rattle.std.proofs.Common.{◌≡◌, ℕ, List}
use Rattle.std.specs.{Prelude.Result, List.Contains}
use Rattle.shm_graph.specs.{declared.{ask.Me.Me, memo.Memo.Memo}, Asks.Trail, Events.Event}
use Rattle.shm_count.specs.declared.{answer.EraSpent.EraSpent, tear_point.TearPoint.TheVariants.Begin}
use Rattle.shm_count.specs.{declared.tear_point.TearState.TearState, Tear.TearLeaves}

-- a tear-down of block b, before its first word step
abbrev pub tearing : Me → ℕ → TearState
tearing me b = record { me = me; first = b; block = b; point = Begin }

-- a zero-count block may be torn down
abbrev pub TearMay : TearState → Memo → Type 0
TearMay m r = (m ≡ tearing m.me m.first) × Contains r.dying m.first

-- what is left of the block that it was made for
abbrev pub TearDownLeaves : TearState → Memo → Memo → Trail → List Event → Result (Unit {0}) EraSpent → Type 0
TearDownLeaves m r0 r tr es a = TearLeaves m.me m.first r0 r es tr a
