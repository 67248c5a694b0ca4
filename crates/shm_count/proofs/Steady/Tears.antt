-- the partition on the way of a tear-down: it stays, since none is read from words of zero-count blocks
use Rattle.std.proofs.Common.{◌≡◌, ℕ, sym, ap, ◌∙◌, false, List, inl, inr}
use Rattle.shm_graph.specs.declared.{ask.Me.Me, spot.Spot.TheVariants.{Home, Body}, memo.{Memo.Memo, Op.Op}}
use Rattle.shm_graph.specs.{declared.memo.Op.TheVariants.Nothing, Asks.Trail, Chains.part_set, Events.Event}
use Rattle.shm_graph.specs.{Ops.{cover, cover_of}, Tells.happens_along, Views.own_word}
use Rattle.kind_parts.specs.Reparting.{sight}
use Rattle.shm_count.specs.declared.point.{Aim.TheVariants.Down as DownAim, StepPoint.StepPoint}
use Rattle.shm_count.specs.{declared.tear_point.{TearPoint.TearPoint, TearState.TearState}, CountParts.tear_part}
use Rattle.shm_count.specs.Step.{PointHolds, Control.is_over, Parts.part_after}
use Rattle.shm_count.specs.Tear.{Control.{tear_control, word_address}, Events.{tear_event, tear_start}}
use Rattle.shm_count.specs.Tear.{Memos.{IsFound, TearStays}, TearFits, TearHolds}
use Rattle.shm_count.specs.{Proved.Tear.Laws.{IsRunning, fit_runs}, Steady.IsSteady}
use Rattle.shm_count.specs.declared.tear_point.TearPoint.TheVariants as point
use Rattle.shm_count.proofs.Steady.{table_of, Steps.point_part}

-- between its steps down nothing of the partition changed
stays_part : (c : ℕ) (m r : Memo) → TearStays c m r → r.part ≡ m.part
stays_part c m r h = ap (λ (y : Memo). y.part) h.rest

-- a step down that takes the reference to t out of word i of the zero-count block b leads to the same partition
found_after : (me : Me) (m : Memo) (b i t : ℕ) → m.op ≡ Nothing → IsFound me m b i t → part_after me.who (sight me.who m) (Body b i) 0 ≡ m.part
found_after me m b i t idle found =
    ap (λ (o : Op). part_set m.known me.who (cover (cover_of o) (Home me.who) (own_word m.own (Home me.who))) (Body b i) 0 m.part) (sym idle) ∙ found.part

down_part : (me : Me) (m r : Memo) (b i t : ℕ) (y : StepPoint) → is_over y ≡ false → m.op ≡ Nothing → IsFound me m b i t → PointHolds me (word_address b i) (DownAim t) (Body b i) m r y → r.part ≡ m.part
down_part me m r b i t y going idle found h =
    elim (point_part me (word_address b i) (DownAim t) (Body b i) m r y going h.has) [
      | inl e ↦ e
      | inr e ↦ e ∙ found_after me m b i t idle found
    ]

-- at each point
held_part : (me : Me) (first : ℕ) (r0 r : Memo) (b : ℕ) (y : TearPoint) (es : List Event) (tr : Trail) → r0.op ≡ Nothing → IsRunning y → TearHolds me first r0 b y r es tr → r.part ≡ r0.part
held_part me first r0 r b (point.Down g i t y) es tr idle runs (k, vs, m, before, at, told, can, holds) =
    let stays = stays_part me.who r0 m at.settled.stays in
    let found = at.shows.4 in
    down_part me m r b i t y runs can.idle found holds ∙ stays
held_part me first r0 r b point.Begin es tr idle runs (k, vs, at) = stays_part me.who r0 r at.settled.stays
held_part me first r0 r b (point.Enter l) es tr idle runs (k, vs, at) = stays_part me.who r0 r at.settled.stays
held_part me first r0 r b (point.Link g) es tr idle runs (k, vs, at) = stays_part me.who r0 r at.settled.stays
held_part me first r0 r b (point.Word g i) es tr idle runs (k, vs, at) = stays_part me.who r0 r at.settled.stays
held_part me first r0 r b (point.Free g) es tr idle runs (k, vs, at) = stays_part me.who r0 r at.settled.stays
held_part me first r0 r b point.Return es tr idle runs (k, vs, at) = stays_part me.who r0 r at.settled.stays
held_part me first r0 r b point.Over es tr idle runs (k, vs, at) = stays_part me.who r0 r at.settled.stays

-- of the whole tear-down
pub tear_stays : (m : TearState) (r0 r : Memo) (tr : Trail) → TearFits m r0 r tr → r.part ≡ r0.part
tear_stays m r0 r tr fit =
    held_part m.me m.first r0 r m.block m.point (happens_along tear_control tear_event (tear_start m) tr) tr fit.can.idle (fit_runs m r0 r tr fit) fit.holds

pub tear_steady : IsSteady tear_control tear_part
tear_steady m r0 r tr going fit = table_of r0 r (tear_stays m r0 r tr fit)
