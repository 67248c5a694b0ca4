-- what a recovery does after mending leaves the map of the table as it was, at each point on its way: blocks that are taken back, takes that are finished, the scan, and segments that are given up
use Rattle.std.proofs.Common.{ℕ, ◌%◌, true, false, ap, ◌∙◌, List}
use Rattle.shm_graph.specs.{declared.{ask.Me.Me, memo.Memo.Memo}, Asks.Trail, Events.Event}
use Rattle.shm_graph.specs.declared.spot.Spot.TheVariants as spot
use Rattle.plans.specs.{CallsControl.calls_control, CallsPart.calls_part, Either.{or_control, or_part}}
use Rattle.plans.specs.Words.{word_control, word_part}
use Rattle.shm_count.specs.{CountParts.tear_part, Slots.Parts.down_slot_part, Steady.{IsSteady, SameMap}}
use Rattle.shm_count.specs.{Step.Machines.down_control, Tear.Control.tear_control}
use Rattle.shm_count.proofs.Steady.{calls_steady, grown_steady, or_steady, table_of, word_steady}
use Rattle.shm_count.proofs.Steady.{Steps.{down_steady, lost_part}, Tears.tear_steady}
use Rattle.shm_recover.specs.declared.finish_takes.{FinishPoint.FinishPoint, FinishState.FinishState}
use Rattle.shm_recover.specs.declared.{give_up.{GivePoint.GivePoint, GiveState.GiveState}, scan.ScanPoint.ScanPoint}
use Rattle.shm_recover.specs.declared.{scan.ScanState.ScanState, take_back.{BackPoint.BackPoint, BackState.BackState}}
use Rattle.shm_recover.specs.FinishTakes.Control.{finish_ask, finish_steered}
use Rattle.shm_recover.specs.FinishTakes.{FinishFound, FinishKnows, IsFinishing, finish_plan}
use Rattle.shm_recover.specs.GiveUp.{Control.{give_ask, give_steered}, GiveFound, GiveKnows, IsGiving, give_plan}
use Rattle.shm_recover.specs.{Others.other_at, Scan.Control.{scan_ask, scan_parts, scan_steered}}
use Rattle.shm_recover.specs.Scan.{IsScanning, ScanFound, ScanKnows, scan_plan}
use Rattle.shm_recover.specs.TakeBack.Control.{back_ask, back_parts, to_of, back_steered}
use Rattle.shm_recover.specs.TakeBack.{BackFound, BackKnows, IsBacking, IsOut, back_plan}
use Rattle.shm_recover.specs.declared.finish_takes.FinishPoint.TheVariants as finish
use Rattle.shm_recover.specs.declared.give_up.GivePoint.TheVariants as give
use Rattle.shm_recover.specs.declared.scan.ScanPoint.TheVariants as scan
use Rattle.shm_recover.specs.declared.take_back.BackPoint.TheVariants as back
use Rattle.shm_recover.specs.FinishTakes.Control as finishing
use Rattle.shm_recover.specs.GiveUp.Control as giving
use Rattle.shm_recover.specs.Scan.Control as scanning
use Rattle.shm_recover.specs.TakeBack.Control as backing

-- ---- blocks that are taken back

backing_table : (me : Me) (p k : ℕ) (r0 r : Memo) (tr : Trail) (es : List Event) → IsBacking me p k r0 r tr es → SameMap r0 r
backing_table me p k r0 r tr es h = table_of r0 r (ap (λ (x : Memo). x.part) h.taken.back.rest)

out_table : (me : Me) (p at b : ℕ) (r0 r : Memo) (tr : Trail) (es : List Event) → IsOut me p at b r0 r tr es → SameMap r0 r
out_table me p at b r0 r tr es h =
    table_of r0 r (lost_part me.who (spot.Slot me.who (other_at me.who p) (at % 8)) false b 0 true h.q r tt h.lost ∙ ap (λ (x : Memo). x.part) h.taken.back.rest)

back_known : (m : BackState) (y : BackPoint) (r0 r : Memo) (tr : Trail) (es : List Event) → BackKnows m y r0 r tr es → SameMap r0 r
back_known m back.Tail r0 r tr es h = backing_table m.me m.passed 0 r0 r tr es h
back_known m back.Head r0 r tr es h = backing_table m.me m.passed 1 r0 r tr es h.0
back_known m back.Slot r0 r tr es h = backing_table m.me m.passed 2 r0 r tr es h.0
back_known m back.Lower r0 r tr es h = backing_table m.me m.passed 3 r0 r tr es h.0
back_known m back.Tear r0 r tr es h = out_table m.me m.passed m.at m.block r0 r tr es h

back_calls : (m : BackState) → IsSteady back_parts (back_plan.part m)
back_calls m =
    let slot = spot.Slot m.me.who (to_of m) (m.at % 8) in
    or_steady word_control (or_control down_control tear_control) (word_part (backing.is_first m) m.me (back_ask m m.point) (BackFound m m.point)) (or_part (down_slot_part slot false) tear_part)
    (word_steady (backing.is_first m) m.me (back_ask m m.point) (BackFound m m.point))
    (or_steady down_control tear_control (down_slot_part slot false) tear_part (down_steady slot tt) tear_steady)

pub back_steady : IsSteady (calls_control back_parts back_steered) (calls_part back_parts back_plan)
back_steady = calls_steady back_parts back_plan (λ m. back_known m m.point) back_calls

-- ---- takes that are finished

finishing_table : (me : Me) (p k : ℕ) (r0 r : Memo) (tr : Trail) (es : List Event) → IsFinishing me p k r0 r tr es → SameMap r0 r
finishing_table me p k r0 r tr es h = table_of r0 r (ap (λ (x : Memo). x.part) h.finished.heads.rest)

finish_known : (m : FinishState) (y : FinishPoint) (r0 r : Memo) (tr : Trail) (es : List Event) → FinishKnows m y r0 r tr es → SameMap r0 r
finish_known m finish.Head r0 r tr es h = finishing_table m.me m.passed 0 r0 r tr es h
finish_known m finish.Tail r0 r tr es h = finishing_table m.me m.passed 1 r0 r tr es h.0
finish_known m finish.Slot r0 r tr es h = finishing_table m.me m.passed 2 r0 r tr es h.0
finish_known m finish.Store r0 r tr es h = finishing_table m.me m.passed 3 r0 r tr es h.0

pub finish_steady : IsSteady (calls_control word_control finish_steered) (calls_part word_control finish_plan)
finish_steady =
    calls_steady word_control finish_plan (λ m. finish_known m m.point) (λ m. word_steady (finishing.is_first m) m.me (finish_ask m m.point) (FinishFound m m.point))

-- ---- the scan

scanning_table : (me : Me) (s q i n k : ℕ) (r0 r : Memo) (tr : Trail) (es : List Event) → IsScanning me s q i n k r0 r tr es → SameMap r0 r
scanning_table me s q i n k r0 r tr es h = table_of r0 r (ap (λ (x : Memo). x.part) h.scanned.rest)

scan_known : (m : ScanState) (y : ScanPoint) (r0 r : Memo) (tr : Trail) (es : List Event) → ScanKnows m y r0 r tr es → SameMap r0 r
scan_known m scan.Page r0 r tr es h = scanning_table m.me m.segment m.page 0 m.found _ r0 r tr es h
scan_known m scan.Header r0 r tr es h = scanning_table m.me m.segment m.page m.offset m.found _ r0 r tr es h.0
scan_known m scan.Tear r0 r tr es ((n, next, h), into, can) = scanning_table m.me m.segment m.page m.offset n _ r0 r tr es h

scan_calls : (m : ScanState) → IsSteady scan_parts (scan_plan.part m)
scan_calls m =
    let word = word_part (scanning.is_first m) m.me (scan_ask m m.point) (ScanFound m m.point) in
    grown_steady (scanning.is_first m) scan_parts (or_part word tear_part)
    (or_steady word_control tear_control word tear_part (word_steady (scanning.is_first m) m.me (scan_ask m m.point) (ScanFound m m.point)) tear_steady)

pub scan_steady : IsSteady (calls_control scan_parts scan_steered) (calls_part scan_parts scan_plan)
scan_steady = calls_steady scan_parts scan_plan (λ m. scan_known m m.point) scan_calls

-- ---- segments that are given up

giving_table : (me : Me) (k : ℕ) (r0 r : Memo) (tr : Trail) (es : List Event) → IsGiving me k r0 r tr es → SameMap r0 r
giving_table me k r0 r tr es h = table_of r0 r (ap (λ (x : Memo). x.part) h.rest)

give_known : (m : GiveState) (y : GivePoint) (r0 r : Memo) (tr : Trail) (es : List Event) → GiveKnows m y r0 r tr es → SameMap r0 r
give_known m give.Look r0 r tr es h = giving_table m.me _ r0 r tr es h.0
give_known m _ r0 r tr es h = giving_table m.me _ r0 r tr es h.0

pub give_steady : IsSteady (calls_control word_control give_steered) (calls_part word_control give_plan)
give_steady = calls_steady word_control give_plan (λ m. give_known m m.point) (λ m. word_steady (giving.is_first m) m.me (give_ask m m.point) (GiveFound m m.point))
