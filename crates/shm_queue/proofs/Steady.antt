-- a take and a drain leave the map of the table as it was, at each point on their way
use Rattle.std.proofs.Common.{◌%◌, true, false, ap, ◌∙◌, List}
use Rattle.shm_graph.specs.{declared.memo.Memo.Memo, Asks.Trail, Events.Event}
use Rattle.shm_graph.specs.declared.spot.Spot.TheVariants as spot
use Rattle.plans.specs.{CallsControl.calls_control, CallsPart.calls_part, Either.{or_control, or_part}}
use Rattle.plans.specs.Words.{word_control, word_part}
use Rattle.shm_count.specs.{CountParts.tear_part, Steady.{IsSteady, SameMap}, Step.Machines.down_control}
use Rattle.shm_count.specs.Tear.Control.{tear_control}
use Rattle.shm_count.proofs.Steady.{calls_steady, grown_steady, or_steady, table_of, word_steady}
use Rattle.shm_count.proofs.Steady.{Steps.{down_steady, lost_part}, Tears.tear_steady}
use Rattle.shm_queue.specs.declared.drain.{DrainPoint.{DrainPoint, TheVariants.{Status, Item}}, DrainState.DrainState}
use Rattle.shm_queue.specs.declared.take.TakePoint.{TakePoint, TheVariants.{Head, Tail, Slot, Lower, Store, Tear}}
use Rattle.shm_queue.specs.declared.take.TakeState.{TakeState}
use Rattle.shm_queue.specs.Drain.Control.{drain_ask, drain_parts, drain_steered, is_status, take_control}
use Rattle.shm_queue.specs.{Drain.{DrainKnows, drain_plan}, Proved.QueueSteps.spare_part, Refusals.lower_part}
use Rattle.shm_queue.specs.Take.Control.{is_head, take_parts, take_steered}
use Rattle.shm_queue.specs.Take.{TakeFound, TakeKnows, slot_memo, take_ask, take_plan, taken_memo}
use Rattle.kind_parts.specs.{Reparting.sight, WordParts.StatusLoaded}

-- ---- a take

take_known : (m : TakeState) (y : TakePoint) (r0 r : Memo) (tr : Trail) (es : List Event) → TakeKnows m y r0 r tr es → SameMap r0 r
take_known m Head r0 r tr es h = table_of r0 r (ap (λ (x : Memo). x.part) h.1)
take_known m Tail r0 r tr es h = table_of r0 r (ap (λ (x : Memo). x.part) h.same)
take_known m Slot r0 r tr es h = table_of r0 r (ap (λ (x : Memo). x.part) h.0.same)
take_known m Lower r0 r tr es h = table_of r0 r (ap (λ (x : Memo). x.part) h.left)
take_known m Store r0 r tr es h = table_of r0 r (lost_part m.me.who (spot.Slot m.from m.me.who (m.at % 8)) true m.block 0 m.last (slot_memo m.me.who m.from m.at m.block r0) r tt h.lost)
take_known m Tear r0 r tr es h =
    let taken : Memo = taken_memo m.me.who m.from m.at m.block r0 in
    table_of r0 r (ap (λ (x : Memo). x.part) h.lost.took.rest ∙ spare_part m.me.who (sight m.me.who taken) 0)

take_calls : (m : TakeState) → IsSteady take_parts (take_plan.part m)
take_calls m =
    let slot = spot.Slot m.from m.me.who (m.at % 8) in
    let word = word_part (is_head m.point) m.me (take_ask m m.point) (TakeFound m m.point) in
    grown_steady (is_head m.point) take_parts (or_part word (or_part (lower_part slot) tear_part))
    (or_steady word_control (or_control down_control tear_control) word (or_part (lower_part slot) tear_part)
    (word_steady (is_head m.point) m.me (take_ask m m.point) (TakeFound m m.point))
    (or_steady down_control tear_control (lower_part slot) tear_part (down_steady slot tt) tear_steady))

pub take_steady : IsSteady (calls_control take_parts take_steered) (calls_part take_parts take_plan)
take_steady = calls_steady take_parts take_plan (λ m. take_known m m.point) take_calls

-- ---- a drain

drain_known : (m : DrainState) (y : DrainPoint) (r0 r : Memo) (tr : Trail) (es : List Event) → DrainKnows m y r0 r tr es → SameMap r0 r
drain_known m Status r0 r tr es h = table_of r0 r (ap (λ (x : Memo). x.part) h.2)
drain_known m Item r0 r tr es h = table_of r0 r (ap (λ (x : Memo). x.part) h.drained.rest)

drain_calls : (m : DrainState) → IsSteady drain_parts (drain_plan.part m)
drain_calls m =
    let word = word_part (is_status m.point) m.me (drain_ask m) StatusLoaded in
    grown_steady (is_status m.point) drain_parts (or_part word (calls_part take_parts take_plan))
    (or_steady word_control take_control word (calls_part take_parts take_plan) (word_steady (is_status m.point) m.me (drain_ask m) StatusLoaded) take_steady)

pub drain_steady : IsSteady (calls_control drain_parts drain_steered) (calls_part drain_parts drain_plan)
drain_steady = calls_steady drain_parts drain_plan (λ m. drain_known m m.point) drain_calls
