-- a recovery that works alone ends: how many word steps come behind a call, and that they are paid for: what is proved of it
use Rattle.std.proofs.Common.{ℕ, ◌+◌, ◌*◌, ◌≤◌, arith, Bool, true, false, List}
use Rattle.std.specs.Prelude.{◌==◌, if◌then◌else◌, Ok, Err}
use Rattle.shm_words.specs.Layout.{GeometryFits, segments_most}
use Rattle.shm_graph.specs.{declared.{ask.Me.Me, memo.Memo.Memo, spot.Spot.Spot}, Asks.Trail, Bounds.redo_steps}
use Rattle.shm_graph.specs.{Events.Event, Laws.Outcome}
use Rattle.plans.specs.{declared.or.Or.TheVariants.{First, Second}, CallsControl.{calls_does, calls_of}}
use Rattle.plans.specs.{CallsFit.CallsFits, Either.{OrFits, or_control, or_does}, Words.word_control}
use Rattle.shm_ref.specs.{DropRoots.{Control.drop_root, roots_plan}, Proved.DropRoots.Laws.roots_laws}
use Rattle.shm_recover.specs.declared.recover.RecoverPoint.{RecoverPoint}
use Rattle.shm_recover.specs.declared.recover.RecoverPoint.TheVariants.{Mend, Roots, Back, Takes, Scan, Give}
use Rattle.shm_recover.specs.{declared.recover.RecoverState.RecoverState, Proved.FinishTakes.Laws.finish_laws}
use Rattle.shm_recover.specs.Proved.{GiveUp.Laws.give_laws, Mend.Laws.mend_laws, Recover.Laws.recover_laws}
use Rattle.shm_recover.specs.{Proved.{Scan.Laws.scan_laws, TakeBack.Laws.back_laws}, FinishTakes.finish_plan}
use Rattle.shm_recover.specs.{GiveUp.give_plan, Mend.{Control.mend_parts, mend_plan}, Machines.Recovering.recover}
use Rattle.shm_recover.specs.Recover.Control.{RecoverAnswer, back_control, finish_control, give_control, mend_control, recover_after, recover_call_at, recover_parts, recover_turns, recovering, roots_control, scan_control, recover_steered}
use Rattle.shm_recover.specs.{Recover.{recover_part, recover_plan}, Scan.{Control.scan_parts, scan_plan}}
use Rattle.shm_recover.specs.TakeBack.{Control.back_parts, back_plan}
use Rattle.shm_alone.specs.{Alone.{EndsAlone, left_limit}, BackEnds.{back_alone, back_left}, Proved.BackEnds.back_ends}
use Rattle.shm_alone.specs.Proved.{GiveEnds.give_ends, Lifting.{or_ends, plain_calls_end}, MendEnds.mend_ends}
use Rattle.shm_alone.specs.Proved.{RootsEnd.roots_end, ScanEnds.scan_ends, TakesEnds.finish_ends}
use Rattle.shm_alone.specs.{GiveEnds.{give_alone, give_left, none_over}, Lifting.{or_alone, or_left, or_saved}}
use Rattle.shm_alone.specs.{MendEnds.{mend_alone, mend_left}, RootsEnd.{roots_alone, roots_left, roots_saved}}
use Rattle.shm_alone.specs.{ScanEnds.{scan_alone, scan_left}, TakesEnds.{finish_alone, finish_left}}
use Rattle.shm_alone.specs.RecoverEnds.{recover_rest_at, recover_rest, recover_call_alone, recover_call_left, recover_call_saved, recover_alone, recover_left}

-- what is left before the next call
abbrev recover_due : RecoverState → ℕ
recover_due m = recover_call_left (recover_call_at m m.point) + recover_rest m

-- on to the queues, or to the scan
queues_paid : (m : RecoverState) (q : Bool) (y : RecoverPoint) (z : ℕ) → 320002 * m.me.geometry.segments + 2 ≤ z → recover_due (record m { point = y }) ≤ z → recover_due (if q then record m { point = Scan } else record m { point = y }) ≤ z
queues_paid m true y z scan queue = omega arith
queues_paid m false y z scan queue = queue

-- what a call has over pays for the next one
recover_paid : (m : RecoverState) (y : RecoverPoint) (a : RecoverAnswer) (rs r : Memo) (t : Trail) (ds : List Event) → recover_part.leaves (recover_call_at m y) rs r t ds a
    → Outcome (recover_turns a) (recover_due (recover_after (record m { point = y }) a) ≤ recover_rest_at m.me y + recover_call_saved a) (λ u. 0 ≤ recover_rest_at m.me y + recover_call_saved a)
recover_paid m Mend (First u) rs r t ds g = omega arith
recover_paid m Roots (Second (First (Ok u))) rs r t ds g = queues_paid (record m { point = Roots }) (m.me.geometry.clients == 1) Back (recover_rest_at m.me Roots + 0) (omega arith) (omega arith)
recover_paid m Roots (Second (First (Err e))) rs r t ds g = omega arith
recover_paid m Back (Second (Second (First (Ok u)))) rs r t ds g = queues_paid (record m { point = Back }) (m.me.geometry.clients == 1) Takes (recover_rest_at m.me Back + 0) (omega arith) (omega arith)
recover_paid m Back (Second (Second (First (Err e)))) rs r t ds g = omega arith
recover_paid m Takes (Second (Second (Second (First u)))) rs r t ds g = omega arith
recover_paid m Scan (Second (Second (Second (Second (First (Ok n)))))) rs r t ds g = omega arith
recover_paid m Scan (Second (Second (Second (Second (First (Err e)))))) rs r t ds g = omega arith
recover_paid m Give (Second (Second (Second (Second (Second u))))) rs r t ds g = omega arith
recover_paid m Mend (Second a) rs r t ds g = absurd g
recover_paid m Roots (First a) rs r t ds g = absurd g
recover_paid m Roots (Second (Second a)) rs r t ds g = absurd g
recover_paid m Back (First a) rs r t ds g = absurd g
recover_paid m Back (Second (First a)) rs r t ds g = absurd g
recover_paid m Back (Second (Second (Second a))) rs r t ds g = absurd g
recover_paid m Takes (First a) rs r t ds g = absurd g
recover_paid m Takes (Second (First a)) rs r t ds g = absurd g
recover_paid m Takes (Second (Second (First a))) rs r t ds g = absurd g
recover_paid m Takes (Second (Second (Second (Second a)))) rs r t ds g = absurd g
recover_paid m Scan (First a) rs r t ds g = absurd g
recover_paid m Scan (Second (First a)) rs r t ds g = absurd g
recover_paid m Scan (Second (Second (First a))) rs r t ds g = absurd g
recover_paid m Scan (Second (Second (Second (First a)))) rs r t ds g = absurd g
recover_paid m Scan (Second (Second (Second (Second (Second a))))) rs r t ds g = absurd g
recover_paid m Give (First a) rs r t ds g = absurd g
recover_paid m Give (Second (First a)) rs r t ds g = absurd g
recover_paid m Give (Second (Second (First a))) rs r t ds g = absurd g
recover_paid m Give (Second (Second (Second (First a)))) rs r t ds g = absurd g
recover_paid m Give (Second (Second (Second (Second (First a))))) rs r t ds g = absurd g

-- its calls end alone
recover_part_ends : EndsAlone recover_parts recover_part.does recover_call_alone recover_call_left recover_call_saved recover_part.fits
recover_part_ends =
    or_ends mend_control (or_control roots_control (or_control back_control (or_control finish_control (or_control scan_control give_control))))
    (CallsFits mend_parts mend_plan) (OrFits (CallsFits drop_root roots_plan) (OrFits (CallsFits back_parts back_plan) (OrFits (CallsFits word_control finish_plan) (OrFits (CallsFits scan_parts scan_plan) (CallsFits word_control give_plan)))))
    (calls_does mend_parts mend_plan) (or_does (calls_does drop_root roots_plan) (or_does (calls_does back_parts back_plan) (or_does (calls_does word_control finish_plan) (or_does (calls_does scan_parts scan_plan) (calls_does word_control give_plan)))))
    mend_alone (or_alone roots_alone (or_alone back_alone (or_alone finish_alone (or_alone scan_alone give_alone))))
    mend_left (or_left roots_left (or_left back_left (or_left finish_left (or_left scan_left give_left))))
    none_over (or_saved roots_saved (or_saved none_over (or_saved none_over (or_saved none_over none_over))))
    mend_ends
    (or_ends roots_control (or_control back_control (or_control finish_control (or_control scan_control give_control)))
    (CallsFits drop_root roots_plan) (OrFits (CallsFits back_parts back_plan) (OrFits (CallsFits word_control finish_plan) (OrFits (CallsFits scan_parts scan_plan) (CallsFits word_control give_plan))))
    (calls_does drop_root roots_plan) (or_does (calls_does back_parts back_plan) (or_does (calls_does word_control finish_plan) (or_does (calls_does scan_parts scan_plan) (calls_does word_control give_plan))))
    roots_alone (or_alone back_alone (or_alone finish_alone (or_alone scan_alone give_alone)))
    roots_left (or_left back_left (or_left finish_left (or_left scan_left give_left)))
    roots_saved (or_saved none_over (or_saved none_over (or_saved none_over none_over)))
    roots_end
    (or_ends back_control (or_control finish_control (or_control scan_control give_control))
    (CallsFits back_parts back_plan) (OrFits (CallsFits word_control finish_plan) (OrFits (CallsFits scan_parts scan_plan) (CallsFits word_control give_plan)))
    (calls_does back_parts back_plan) (or_does (calls_does word_control finish_plan) (or_does (calls_does scan_parts scan_plan) (calls_does word_control give_plan)))
    back_alone (or_alone finish_alone (or_alone scan_alone give_alone))
    back_left (or_left finish_left (or_left scan_left give_left))
    none_over (or_saved none_over (or_saved none_over none_over))
    back_ends
    (or_ends finish_control (or_control scan_control give_control)
    (CallsFits word_control finish_plan) (OrFits (CallsFits scan_parts scan_plan) (CallsFits word_control give_plan))
    (calls_does word_control finish_plan) (or_does (calls_does scan_parts scan_plan) (calls_does word_control give_plan))
    finish_alone (or_alone scan_alone give_alone)
    finish_left (or_left scan_left give_left)
    none_over (or_saved none_over none_over)
    finish_ends
    (or_ends scan_control give_control
    (CallsFits scan_parts scan_plan) (CallsFits word_control give_plan)
    (calls_does scan_parts scan_plan) (calls_does word_control give_plan)
    scan_alone give_alone
    scan_left give_left
    none_over none_over
    scan_ends
    give_ends))))

-- a call begins with what it knows of the words
begins : (m : RecoverState) (y : RecoverPoint) (w : Spot → ℕ) → recover_call_alone (recover_call_at m y) w
begins m Mend w = (tt, tt)
begins m Roots w = ((tt, tt), tt)
begins m Back w = (tt, tt)
begins m Takes w = (tt, tt)
begins m Scan w = (tt, tt)
begins m Give w = (tt, tt)

-- a recovery that works alone ends
pub recover_ends : EndsAlone recover (calls_does recover_parts recover_plan) recover_alone recover_left none_over (CallsFits recover_parts recover_plan)
recover_ends =
    plain_calls_end recover_parts recover_plan recover_call_alone recover_call_left recover_call_saved recover_rest none_over (recover_laws mend_laws roots_laws back_laws finish_laws scan_laws give_laws)
    (record {
      parts = λ m. recover_part_ends;
      begins = λ m. begins m m.point;
      pays = λ m r0 rs r tr t es ds a h g held agent. recover_paid m m.point a rs r t ds g;
    })

-- the numbers of a pool of n clients and g segments
few : (wide : Bool) (n g : ℕ) → n ≤ 16 → g ≤ segments_most wide → 205 * n + 320002 * g + 195 + redo_steps wide ≤ left_limit wide
few false n g c s = omega arith
few true n g c s = omega arith

-- before its first word step it has few left
pub recover_few : (me : Me) → GeometryFits me.geometry → recover_left (calls_of recover_steered (recovering me)) ≤ left_limit me.geometry.wide
recover_few me f = let n = few me.geometry.wide me.geometry.clients me.geometry.segments f.clients f.segments in omega arith
