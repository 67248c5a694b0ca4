-- takes and drains that work alone end: the reference that a take loses pays for the next take, and the queues that are left for the empty ones
use Rattle.std.proofs.Common.{ℕ, ◌+◌, ◌-◌, ◌*◌}
use Rattle.std.specs.Prelude.{Result, Ok, Err}
use Rattle.shm_graph.specs.declared.spot.Spot.{Spot}
use Rattle.plans.specs.declared.calls.Calls.{Calls}
use Rattle.shm_count.specs.declared.answer.EraSpent.{EraSpent}
use Rattle.shm_queue.specs.declared.{answer.TakeFault.TakeFault, drain.DrainPoint.DrainPoint}
use Rattle.shm_queue.specs.declared.drain.{DrainPoint.TheVariants.{Status, Item}, DrainState.DrainState}
use Rattle.shm_queue.specs.declared.take.TakePoint.{TakePoint, TheVariants.{Head, Tail, Slot, Lower, Store, Tear}}
use Rattle.shm_queue.specs.{declared.take.TakeState.TakeState, Drain.Control.{DrainAnswer, DrainCall, TakeCalls}}
use Rattle.shm_alone.specs.Lifting.{anything, calls_alone, calls_left, or_alone, or_left, or_saved, word_left, word_saved}
use Rattle.shm_alone.specs.RootsEnd.{part_alone, part_left}

-- ---- a take

-- what comes after the call that is next, before an event pays for it: three loads and a step down, and after the store of the head a tear-down
abbrev pub take_rest : TakePoint → ℕ
take_rest Head = 12
take_rest Tail = 11
take_rest Slot = 10
take_rest Lower = 0
take_rest Store = 100
take_rest Tear = 0

abbrev pub take_plan_rest : TakeState → ℕ
take_plan_rest m = take_rest m.point

-- what a take has over: a reference was lost, or nothing was
abbrev pub take_saved : Result (Unit {0}) TakeFault → ℕ
take_saved (Ok done) = 100
take_saved (Err f) = 0

-- what it knows of the words, and what it has left
abbrev pub take_alone : TakeCalls → (Spot → ℕ) → Type 0
take_alone = calls_alone part_alone anything

abbrev pub take_left : TakeCalls → ℕ
take_left = calls_left part_left take_plan_rest

-- ---- a drain

-- what comes after the call that is next, but for the items: a take from each sender that is left
abbrev pub drain_rest : DrainState → DrainPoint → ℕ
drain_rest m Status = 13 * m.me.geometry.clients + 13
drain_rest m Item = 13 * (m.me.geometry.clients - m.from)

abbrev pub drain_plan_rest : DrainState → ℕ
drain_plan_rest m = drain_rest m m.point

-- its answer has nothing over
abbrev pub drain_saved : Result ℕ EraSpent → ℕ
drain_saved a = 0

-- what its calls know of the words, and have left, and what their answers have over
abbrev pub drain_call_alone : DrainCall → (Spot → ℕ) → Type 0
drain_call_alone = or_alone anything take_alone

abbrev pub drain_call_left : DrainCall → ℕ
drain_call_left = or_left word_left take_left

abbrev pub drain_call_saved : DrainAnswer → ℕ
drain_call_saved = or_saved word_saved take_saved

-- what it knows of the words, and what it has left
abbrev pub drain_alone : Calls DrainState DrainCall → (Spot → ℕ) → Type 0
drain_alone = calls_alone drain_call_alone anything

abbrev pub drain_left : Calls DrainState DrainCall → ℕ
drain_left = calls_left drain_call_left drain_plan_rest
