-- blocks that are taken back, working alone: how many word steps come behind a call, and that they are paid for
use Rattle.std.proofs.Common.{ℕ, ◌*◌, ◌-◌}
use Rattle.shm_graph.specs.declared.spot.Spot.{Spot}
use Rattle.plans.specs.declared.calls.Calls.{Calls}
use Rattle.shm_recover.specs.declared.take_back.BackPoint.{BackPoint, TheVariants.{Tail, Head, Slot}}
use Rattle.shm_recover.specs.{declared.take_back.BackState.BackState, TakeBack.Control.{BackCall, passed}}
use Rattle.shm_alone.specs.{Lifting.{anything, calls_alone, calls_left}, RootsEnd.{part_alone, part_left}}

-- how many word steps come behind the call at a point at most, but for those that events pay: 200 for each queue
abbrev pub back_rest_at : BackState → BackPoint → ℕ
back_rest_at m Tail = 200 * (m.me.geometry.clients - m.passed)
back_rest_at m Head = 200 * (m.me.geometry.clients - m.passed) - 1
back_rest_at m Slot = 200 * (m.me.geometry.clients - m.passed) - 2
back_rest_at m y = 200 * (m.me.geometry.clients - m.passed) - 100

abbrev pub back_rest : BackState → ℕ
back_rest m = back_rest_at m m.point

-- what it knows of the words, and how many word steps it has left
abbrev pub back_alone : Calls BackState BackCall → (Spot → ℕ) → Type 0
back_alone = calls_alone part_alone anything

abbrev pub back_left : Calls BackState BackCall → ℕ
back_left = calls_left part_left back_rest
