-- a leaving that works alone ends: how many word steps come behind a call, and that they are paid for
use Rattle.std.proofs.Common.{ℕ, ◌+◌, ◌*◌, ◌-◌}
use Rattle.shm_graph.specs.declared.spot.Spot.{Spot}
use Rattle.plans.specs.declared.calls.Calls.{Calls}
use Rattle.shm_recover.specs.declared.leave.LeavePoint.{LeavePoint, TheVariants.{Roots, Look, Give, Status}}
use Rattle.shm_recover.specs.{declared.leave.LeaveState.LeaveState, Leave.Control.{LeaveAnswer, LeaveCall}}
use Rattle.shm_alone.specs.Lifting.{anything, calls_alone, calls_left, or_alone, or_left, or_saved, word_left, word_saved}
use Rattle.shm_alone.specs.RootsEnd.{roots_alone, roots_left, roots_saved}

-- how many word steps come behind the call at a point at most: two for each segment
abbrev pub leave_rest_at : LeaveState → LeavePoint → ℕ
leave_rest_at m Roots = 2 * (m.me.geometry.segments - m.segment) + 1
leave_rest_at m Look = 2 * (m.me.geometry.segments - m.segment)
leave_rest_at m Give = 2 * (m.me.geometry.segments - m.segment) - 1
leave_rest_at m Status = 0

abbrev pub leave_rest : LeaveState → ℕ
leave_rest m = leave_rest_at m m.point

-- what its calls know of the words, have left, and have over
abbrev pub leave_call_alone : LeaveCall → (Spot → ℕ) → Type 0
leave_call_alone = or_alone roots_alone anything

abbrev pub leave_call_left : LeaveCall → ℕ
leave_call_left = or_left roots_left word_left

abbrev pub leave_call_saved : LeaveAnswer → ℕ
leave_call_saved = or_saved roots_saved word_saved

-- what it knows of the words, and how many word steps it has left
abbrev pub leave_alone : Calls LeaveState LeaveCall → (Spot → ℕ) → Type 0
leave_alone = calls_alone leave_call_alone anything

abbrev pub leave_left : Calls LeaveState LeaveCall → ℕ
leave_left = calls_left leave_call_left leave_rest
