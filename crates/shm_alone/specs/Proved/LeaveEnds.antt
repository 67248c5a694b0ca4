-- a leaving that works alone ends: how many word steps come behind a call, and that they are paid for: what is proved of it
use Rattle.std.proofs.Common.{◌≡◌, ◌≢◌, ℕ, ◌+◌, ◌*◌, ◌-◌, ◌^◌, ◌<◌, ◌≤◌, refl, arith, Bool, true, false, List}
use Rattle.std.proofs.lemmas.Bool.{eqb-false}
use Rattle.std.specs.Prelude.{◌==◌, if◌then◌else◌, Ok, Err}
use Rattle.shm_words.specs.Layout.{GeometryFits}
use Rattle.shm_words.proofs.Placing.{segments_few}
use Rattle.shm_graph.specs.{declared.{ask.Me.Me, memo.Memo.Memo, spot.Spot.Spot}, Asks.Trail, Events.Event}
use Rattle.shm_graph.specs.Laws.{Outcome}
use Rattle.plans.specs.{declared.or.Or.TheVariants.{First, Second}, CallsControl.{calls_control, calls_does, calls_of}}
use Rattle.plans.specs.{CallsFit.CallsFits, Words.{WordFits, word_control, word_does}}
use Rattle.shm_ref.specs.DropRoots.{Control.{drop_root, roots_steered}, roots_plan}
use Rattle.shm_recover.specs.declared.leave.LeavePoint.{LeavePoint, TheVariants.{Roots, Look, Give, Status}}
use Rattle.shm_recover.specs.declared.leave.LeaveState.{LeaveState}
use Rattle.shm_recover.specs.Leave.Control.{LeaveAnswer, is_roots, leave_after, leave_call_at, leave_next, leave_parts, leave_turns, leaving, leave_steered}
use Rattle.shm_recover.specs.{Leave.{LeaveKnows, leave_plan}, Proved.Leave.Laws.leave_laws, Machines.leave}
use Rattle.shm_alone.specs.{Alone.EndsAlone, GiveEnds.none_over, Lifting.{anything, word_left, word_saved}}
use Rattle.shm_alone.specs.Proved.{Lifting.{or_ends, plain_calls_end, word_ends}, RootsEnd.roots_end}
use Rattle.shm_alone.specs.RootsEnd.{roots_alone, roots_left, roots_saved}
use Rattle.shm_alone.specs.LeaveEnds.{leave_rest_at, leave_rest, leave_call_alone, leave_call_left, leave_call_saved, leave_alone, leave_left}

-- the next segment, or the status, is paid by the steps of this one
next_paid : (m : LeaveState) (z : ℕ) → m.segment < m.me.geometry.segments → 2 * (m.me.geometry.segments - m.segment) - 1 ≤ z → leave_call_left (leave_call_at (leave_next m) (leave_next m).point) + leave_rest (leave_next m) ≤ z
next_paid m z low most = go (m.segment + 1 == m.me.geometry.segments) (eqb-false (m.segment + 1) m.me.geometry.segments)
  where
    go : (q : Bool) → (q ≡ false → m.segment + 1 ≢ m.me.geometry.segments)
        → let x : LeaveState = if q then record m { point = Status } else record m { segment = m.segment + 1; point = Look } in leave_call_left (leave_call_at x x.point) + leave_rest x ≤ z
    go true other = omega arith
    go false other = let n = other refl in omega arith

-- what a call has over pays for the next one
leave_paid : (m : LeaveState) (y : LeavePoint) (a : LeaveAnswer) (r0 rs r : Memo) (tr t : Trail) (es ds : List Event) → LeaveKnows m y r0 rs tr es → (leave_plan.part (record m { point = y })).leaves (leave_call_at m y) rs r t ds a
    → let x = leave_after (record m { point = y }) a in Outcome (leave_turns (record m { point = y }) a) (leave_call_left (leave_call_at x x.point) + leave_rest x ≤ leave_rest_at m y + leave_call_saved a) (λ b. 0 ≤ leave_rest_at m y + leave_call_saved a)
leave_paid m Roots (First (Ok u)) r0 rs r tr t es ds h g = omega arith
leave_paid m Roots (First (Err e)) r0 rs r tr t es ds h g = omega arith
leave_paid m Look (Second n) r0 rs r tr t es ds h g = go (n == m.me.who + 1)
  where
    p : LeaveState
    p = record m { point = Look }

    go : (q : Bool) → let x : LeaveState = if q then record m { point = Give } else leave_next p in leave_call_left (leave_call_at x x.point) + leave_rest x ≤ leave_rest_at m Look + 0
    go true = let l = h.1 in omega arith
    go false = next_paid p (leave_rest_at m Look + 0) h.1 (omega arith)
leave_paid m Give (Second n) r0 rs r tr t es ds h g = next_paid (record m { point = Give }) (leave_rest_at m Give + 0) h.1 (omega arith)
leave_paid m Status (Second n) r0 rs r tr t es ds h g = omega arith
leave_paid m Roots (Second n) r0 rs r tr t es ds h g = absurd g
leave_paid m Look (First a) r0 rs r tr t es ds h g = absurd g
leave_paid m Give (First a) r0 rs r tr t es ds h g = absurd g
leave_paid m Status (First a) r0 rs r tr t es ds h g = absurd g

-- a call begins with what it knows of the words
begins : (m : LeaveState) (y : LeavePoint) (w : Spot → ℕ) → leave_call_alone (leave_call_at m y) w
begins m Roots w = ((tt, tt), tt)
begins m Look w = tt
begins m Give w = tt
begins m Status w = tt

-- a leaving that works alone ends
pub leave_ends : EndsAlone leave (calls_does leave_parts leave_plan) leave_alone leave_left none_over (CallsFits leave_parts leave_plan)
leave_ends =
    plain_calls_end leave_parts leave_plan leave_call_alone leave_call_left leave_call_saved leave_rest none_over leave_laws
    (record {
      parts = λ m.
          or_ends (calls_control drop_root roots_steered) word_control (CallsFits drop_root roots_plan) (WordFits (is_roots m.point)) (calls_does drop_root roots_plan) word_does roots_alone anything roots_left word_left roots_saved word_saved roots_end (word_ends (is_roots m.point));
      begins = λ m. begins m m.point;
      pays = λ m r0 rs r tr t es ds a h g held agent. leave_paid m m.point a r0 rs r tr t es ds h g;
    })

-- before its first word step it has few left
pub leave_few : (me : Me) → GeometryFits me.geometry → leave_left (calls_of leave_steered (leaving me)) ≤ 2 ^ 30
leave_few me f = let s = segments_few me.geometry f in omega arith
