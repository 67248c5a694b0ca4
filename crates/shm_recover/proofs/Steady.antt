-- a recovery and a leaving leave the map of the table as it was, at each point on their way
pub mod Mending
pub mod Queues
use Rattle.std.proofs.Common.{◌≡◌, ℕ, Bool, refl, ap, List}
use Rattle.std.specs.Prelude.{Result}
use Rattle.shm_graph.specs.{declared.{memo.Memo.Memo, ask.Me.Me}, Asks.Trail, Events.Event, Held.is_loose}
use Rattle.kind_parts.specs.Reparting.{map_in}
use Rattle.plans.specs.{CallsControl.calls_control, CallsPart.calls_part, Either.{or_control, or_part}}
use Rattle.plans.specs.Words.{word_control, word_part}
use Rattle.shm_count.specs.Steady.{IsSteady, SameMap}
use Rattle.shm_count.proofs.Steady.{calls_steady, or_steady, table_of, table_then, word_steady}
use Rattle.shm_ref.specs.DropRoots.{Control.drop_root, roots_plan}
use Rattle.shm_ref.proofs.Steady.{roots_steady}
use Rattle.shm_recover.specs.declared.leave.{LeavePoint.LeavePoint, LeaveState.LeaveState}
use Rattle.shm_recover.specs.declared.recover.{RecoverPoint.RecoverPoint, RecoverState.RecoverState}
use Rattle.shm_recover.specs.{FinishTakes.finish_plan, GiveUp.give_plan}
use Rattle.shm_recover.specs.Leave.Control.{is_roots, leave_ask, leave_parts, leave_steered}
use Rattle.shm_recover.specs.{Leave.{HasLeft, LeaveFound, LeaveKnows, leave_plan}, Mend.{Control.mend_parts, mend_plan}}
use Rattle.shm_recover.specs.Recover.Control.{back_control, finish_control, give_control, mend_control, recover_parts, roots_control, scan_control, recover_steered}
use Rattle.shm_recover.specs.{Recover.{IsRecovering, RecoverKnows, recover_part, recover_plan}, Scan.Control.scan_parts}
use Rattle.shm_recover.specs.{Scan.scan_plan, TakeBack.{Control.back_parts, back_plan}}
use Rattle.shm_recover.specs.declared.leave.LeavePoint.TheVariants as leave
use Rattle.shm_recover.specs.declared.recover.RecoverPoint.TheVariants as recover
use Rattle.shm_recover.proofs.Steady.Mending.{mend_steady}
use Rattle.shm_recover.proofs.Steady.Queues.{back_steady, finish_steady, give_steady, scan_steady}

-- ---- a recovery

-- once it is mended
recovering_table : (me : Me) (k : ℕ) (r0 r : Memo) (tr : Trail) (es : List Event) → IsRecovering me k r0 r tr es → SameMap r0 r
recovering_table me k r0 r tr es h =
    let q : Memo = h.q in
    table_then r0 q r (h.mended.mended.map, h.mended.mended.loose) (ap (λ (x : Memo). map_in x.part) h.mended.same, ap (λ (x : Memo). is_loose x.part) h.mended.same)

recover_known : (m : RecoverState) (y : RecoverPoint) (r0 r : Memo) (tr : Trail) (es : List Event) → RecoverKnows m y r0 r tr es → SameMap r0 r
recover_known m recover.Mend r0 r tr es (may, same, none, quiet) = table_of r0 r (ap (λ (x : Memo). x.part) same)
recover_known m _ r0 r tr es h = recovering_table m.me _ r0 r tr es h.0

-- each of its calls
recover_calls : IsSteady recover_parts recover_part
recover_calls =
    let mend = calls_part mend_parts mend_plan in
    let roots = calls_part drop_root roots_plan in
    let back = calls_part back_parts back_plan in
    let takes = calls_part word_control finish_plan in
    let scan = calls_part scan_parts scan_plan in
    let give = calls_part word_control give_plan in
    or_steady mend_control (or_control roots_control (or_control back_control (or_control finish_control (or_control scan_control give_control)))) mend (or_part roots (or_part back (or_part takes (or_part scan give)))) mend_steady
    (or_steady roots_control (or_control back_control (or_control finish_control (or_control scan_control give_control))) roots (or_part back (or_part takes (or_part scan give))) roots_steady
    (or_steady back_control (or_control finish_control (or_control scan_control give_control)) back (or_part takes (or_part scan give)) back_steady
    (or_steady finish_control (or_control scan_control give_control) takes (or_part scan give) finish_steady
    (or_steady scan_control give_control scan give scan_steady give_steady))))

pub recover_steady : IsSteady (calls_control recover_parts recover_steered) (calls_part recover_parts recover_plan)
recover_steady = calls_steady recover_parts recover_plan (λ m. recover_known m m.point) (λ m. recover_calls)

-- ---- a leaving

left_table : (me : Me) (n : ℕ) (r0 r : Memo) (tr : Trail) (es : List Event) → HasLeft me n r0 r tr es → SameMap r0 r
left_table me n r0 r tr es h = table_of r0 r h.part

leave_known : (m : LeaveState) (y : LeavePoint) (r0 r : Memo) (tr : Trail) (es : List Event) → LeaveKnows m y r0 r tr es → SameMap r0 r
leave_known m leave.Roots r0 r tr es (may, same, none, quiet, at) = table_of r0 r (ap (λ (x : Memo). x.part) same)
leave_known m leave.Look r0 r tr es h = left_table m.me _ r0 r tr es h.2
leave_known m leave.Give r0 r tr es h = left_table m.me _ r0 r tr es h.3
leave_known m leave.Status r0 r tr es h = left_table m.me _ r0 r tr es h.1

leave_calls : (m : LeaveState) → IsSteady leave_parts (leave_plan.part m)
leave_calls m =
    or_steady roots_control word_control (calls_part drop_root roots_plan) (word_part (is_roots m.point) m.me (leave_ask m m.point) (LeaveFound m m.point)) roots_steady
    (word_steady (is_roots m.point) m.me (leave_ask m m.point) (LeaveFound m m.point))

pub leave_steady : IsSteady (calls_control leave_parts leave_steered) (calls_part leave_parts leave_plan)
leave_steady = calls_steady leave_parts leave_plan (λ m. leave_known m m.point) leave_calls
