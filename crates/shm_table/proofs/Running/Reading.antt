-- the machines that leave the own map and send nothing while they run: latches, searches, readings, roots that are given and dropped, sends, and the parts of receives
use Rattle.std.proofs.Common.{◌%◌, refl, sym, ap, ◌∙◌, Bool, true, false, cond, List}
use Rattle.shm_graph.specs.{declared.memo.Memo.Memo, Asks.Trail, Events.Event}
use Rattle.shm_graph.specs.declared.spot.Spot.TheVariants as spot
use Rattle.plans.specs.{CallsControl.calls_control, CallsFit.CallsFits, Either.or_control, Words.word_control}
use Rattle.kind_parts.specs.Reparting.{sight}
use Rattle.shm_count.specs.Step.{Control.first_point, Machines.{down_control, up_control}, PointHas}
use Rattle.shm_count.specs.{Proved.Step.BeforeExchange.ready_part, declared.up_root.RootingPoint.RootingPoint}
use Rattle.shm_count.specs.{declared.up_root.RootingState.RootingState, StepsAt.DownFitsAt, StepsFrom.FitsFrom}
use Rattle.shm_count.specs.{Tear.{Control.tear_control, TearFits}, UpRoot.{AsPart.up_root, Control.rooting_parts}}
use Rattle.shm_count.specs.UpRoot.{RootingKnows, rooting_part, rooting_plan}
use Rattle.shm_count.specs.declared.point.StepPoint.TheVariants as point
use Rattle.shm_count.specs.declared.up_root.RootingPoint.TheVariants as rooting
use Rattle.shm_ref.specs.declared.{drop_root.{DropPoint.DropPoint, DropState.DropState}, hold.HoldPoint.HoldPoint}
use Rattle.shm_ref.specs.{declared.hold.HoldState.HoldState, DropRoot.{Control.drop_parts, DropKnows, drop_plan}}
use Rattle.shm_ref.specs.{DropRoots.Control.drop_root, Hold.{HoldKnows, hold_plan, Control.hold_steered}}
use Rattle.shm_ref.specs.declared.drop_root.DropPoint.TheVariants as dropping
use Rattle.shm_ref.specs.declared.hold.HoldPoint.TheVariants as holding
use Rattle.shm_queue.specs.{declared.send.{SendPoint.SendPoint, SendState.SendState}, Machines.send}
use Rattle.shm_queue.specs.Send.{Control.send_parts, SendKnows, send_plan}
use Rattle.shm_queue.specs.declared.send.SendPoint.TheVariants as sending
use Rattle.shm_table.specs.declared.{find.{FindPoint.FindPoint, FindState.FindState}, locate.LocatePoint.LocatePoint}
use Rattle.shm_table.specs.declared.{locate.LocateState.LocateState, take_head.TakeHeadPoint.TakeHeadPoint}
use Rattle.shm_table.specs.declared.{take_head.TakeHeadState.TakeHeadState, unlatch.UnlatchPoint.UnlatchPoint}
use Rattle.shm_table.specs.{declared.unlatch.UnlatchState.UnlatchState, Find.{FindKnows, find_plan}}
use Rattle.shm_table.specs.Locate.{Control.{find_control, locate_parts, locate_control}, LocateKnows, locate_plan}
use Rattle.shm_table.specs.{RecvKey.Control.take_head_control, Proved.Staying.Laws.same_map}
use Rattle.shm_table.specs.TakeHead.{Control.take_head_parts, TakeHeadKnows, take_head_plan}
use Rattle.shm_table.specs.Unlatch.{UnlatchKnows, unlatch_plan, Control.unlatch_control}
use Rattle.shm_table.specs.declared.find.FindPoint.TheVariants as finding
use Rattle.shm_table.specs.declared.locate.LocatePoint.TheVariants as locating
use Rattle.shm_table.specs.declared.take_head.TakeHeadPoint.TheVariants as taking
use Rattle.shm_table.specs.declared.unlatch.UnlatchPoint.TheVariants as giving
use Rattle.shm_table.proofs.Running.Steps.{lane_after, root_after, root_from}
use Rattle.shm_table.proofs.Running.Quiet.{IsQuiet, Quiet, calls_quiet, kept, lane_down_quiet, lane_up_quiet, or_quiet, quiet_by, quiet_now, root_down_quiet, root_up_quiet, tear_quiet, word_quiet}
use Rattle.shm_table.proofs.Running.SentSteps.{SentSame, point_sent}

-- ---- latches

pub hold_quiet : IsQuiet (calls_control word_control hold_steered) (CallsFits word_control hold_plan)
hold_quiet = calls_quiet word_control hold_plan (λ m. known m m.point) (λ m. word_quiet _)
  where
    known : (m : HoldState) (y : HoldPoint) (r0 r : Memo) (tr : Trail) (es : List Event) → HoldKnows m y r0 r tr es → Quiet r0 r
    known m holding.Want r0 r tr es (may, same, none, quiet) = quiet_now r0 r same
    known m holding.Take r0 r tr es (h, asked) = quiet_by r0 r (ap kept h.same)
    known m holding.Back r0 r tr es (h, low, asked) = quiet_by r0 r (ap kept h.same)

pub unlatch_quiet : IsQuiet unlatch_control (CallsFits word_control unlatch_plan)
unlatch_quiet = calls_quiet word_control unlatch_plan (λ m. known m m.point) (λ m. word_quiet _)
  where
    known : (m : UnlatchState) (y : UnlatchPoint) (r0 r : Memo) (tr : Trail) (es : List Event) → UnlatchKnows m y r0 r tr es → Quiet r0 r
    known m giving.Give r0 r tr es (may, same, none, quiet) = quiet_now r0 r same
    known m giving.Back r0 r tr es h = quiet_by r0 r (ap kept h.same)

-- ---- searches

pub find_quiet : IsQuiet find_control (CallsFits word_control find_plan)
find_quiet = calls_quiet word_control find_plan (λ m. known m m.point) (λ m. word_quiet _)
  where
    known : (m : FindState) (y : FindPoint) (r0 r : Memo) (tr : Trail) (es : List Event) → FindKnows m y r0 r tr es → Quiet r0 r
    known m finding.Home r0 r tr es (may, same, none, quiet) = quiet_now r0 r same
    known m finding.Bucket r0 r tr es h = quiet_by r0 r (ap kept h.reads.memo)
    known m finding.Key r0 r tr es h = quiet_by r0 r (ap kept h.1.reads.memo)
    known m finding.Next r0 r tr es h = quiet_by r0 r (ap kept h.2.reads.memo)

pub locate_quiet : IsQuiet locate_control (CallsFits locate_parts locate_plan)
locate_quiet =
    calls_quiet locate_parts locate_plan (λ m. known m m.point)
    (λ m. or_quiet (calls_control word_control hold_steered) find_control (CallsFits word_control hold_plan) (CallsFits word_control find_plan) hold_quiet find_quiet)
  where
    known : (m : LocateState) (y : LocatePoint) (r0 r : Memo) (tr : Trail) (es : List Event) → LocateKnows m y r0 r tr es → Quiet r0 r
    known m locating.Search r0 r tr es h = quiet_by r0 r (ap kept h.took.memo)
    known m _ r0 r tr es h = quiet_by r0 r (ap kept h.memo)

-- ---- roots

pub drop_quiet : IsQuiet drop_root (CallsFits drop_parts drop_plan)
drop_quiet =
    calls_quiet drop_parts drop_plan (λ m. known m m.point)
    (λ m. or_quiet word_control (or_control down_control tear_control) _ _ (word_quiet _) (or_quiet down_control tear_control (DownFitsAt (spot.Root m.me.who m.root)) TearFits (root_down_quiet m.me.who m.root) tear_quiet))
  where
    known : (m : DropState) (y : DropPoint) (r0 r : Memo) (tr : Trail) (es : List Event) → DropKnows m y r0 r tr es → Quiet r0 r
    known m dropping.Load r0 r tr es (may, low, same, none, quiet) = quiet_now r0 r same
    known m dropping.Lower r0 r tr es h = quiet_by r0 r (ap kept h.same)
    known m dropping.Tear r0 r tr es h = (same_map r0 r (ap (λ (x : Memo). x.part) h.lost.took.rest ∙ root_after m.me.who (sight m.me.who r0) m.me.who m.root 0), ap (λ (x : Memo). x.sent) h.lost.took.rest)

pub rooting_quiet : IsQuiet up_root (CallsFits rooting_parts rooting_plan)
rooting_quiet = calls_quiet rooting_parts rooting_plan (λ m. known m m.point) (λ m. keeps m m.point)
  where
    known : (m : RootingState) (y : RootingPoint) (r0 r : Memo) (tr : Trail) (es : List Event) → RootingKnows m y r0 r tr es → Quiet r0 r
    known m rooting.Era r0 r tr es (may, first, same, none, quiet) = quiet_now r0 r same
    known m rooting.Look r0 r tr es h = quiet_by r0 r (ap kept h.same)
    known m rooting.Step r0 r tr es (h, empty) = quiet_by r0 r (ap kept h.same)

    taken : (m : RootingState) → IsQuiet up_control (FitsFrom (spot.Root m.me.who m.root) (first_point m.me m.era))
    taken m s rs r t going fit =
        let now : SentSame fit.r0 r = point_sent s.me s.slot s.aim (spot.Root m.me.who m.root) fit.r0 tt r s.point going fit.holds.has in
        (same_map rs r (root_from m.me.geometry.wide m.me.who m.root m.era s rs r t going fit), now ∙ sym (came m.me.geometry.wide fit.came.holds.has))
      where
        came : (z : Bool) → PointHas s.me s.slot s.aim (spot.Root m.me.who m.root) fit.r0 rs (cond z (point.More m.era) (point.Redo m.era)) → SentSame fit.r0 rs
        came true h = ap (λ (x : Memo). x.sent) h.0
        came false h = ap (λ (x : Memo). x.sent) h.0 ∙ ready_part (λ (x : Memo). x.sent) s.me s.slot s.aim m.era fit.r0 refl

    keeps : (m : RootingState) (y : RootingPoint) → IsQuiet rooting_parts (rooting_part m y).fits
    keeps m rooting.Era = or_quiet word_control up_control _ _ (word_quiet _) (root_up_quiet m.me.who m.root)
    keeps m _ = or_quiet word_control up_control _ _ (word_quiet _) (taken m)

-- ---- queues

pub send_quiet : IsQuiet send (CallsFits send_parts send_plan)
send_quiet =
    calls_quiet send_parts send_plan (λ m. known m m.point) (λ m. or_quiet word_control up_control _ _ (word_quiet _) (lane_up_quiet m.me.who m.to (m.tail % 8)))
  where
    known : (m : SendState) (y : SendPoint) (r0 r : Memo) (tr : Trail) (es : List Event) → SendKnows m y r0 r tr es → Quiet r0 r
    known m sending.Tail r0 r tr es (may, same, none, quiet) = quiet_now r0 r same
    known m sending.Head r0 r tr es h = quiet_by r0 r (ap kept h.same)
    known m sending.Up r0 r tr es (h, may) = quiet_by r0 r (ap kept h.same)
    known m sending.Store r0 r tr es h = (same_map r0 r (ap (λ (x : Memo). x.part) h.filled.rest ∙ lane_after m.me.who (sight m.me.who r0) m.me.who m.to (m.tail % 8) m.block), ap (λ (x : Memo). x.sent) h.filled.rest)

pub take_head_quiet : IsQuiet take_head_control (CallsFits take_head_parts take_head_plan)
take_head_quiet =
    calls_quiet take_head_parts take_head_plan (λ m. known m m.point) (λ m. or_quiet word_control down_control _ _ (word_quiet _) (lane_down_quiet m.from m.me.who (m.at % 8)))
  where
    known : (m : TakeHeadState) (y : TakeHeadPoint) (r0 r : Memo) (tr : Trail) (es : List Event) → TakeHeadKnows m y r0 r tr es → Quiet r0 r
    known m taking.Lower r0 r tr es (may, same, none, quiet) = quiet_now r0 r same
    known m taking.Store r0 r tr es h = (same_map r0 r (ap (λ (x : Memo). x.part) h.lost.took.rest ∙ lane_after m.me.who (sight m.me.who r0) m.from m.me.who (m.at % 8) 0), ap (λ (x : Memo). x.sent) h.lost.took.rest)
