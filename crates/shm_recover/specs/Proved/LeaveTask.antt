-- a leaving as an operation: when it may begin between two calls, and where it ends there
use Rattle.std.proofs.{Common.{◌≡◌, ℕ, List, [], nat_lt, refl, sym, subst}, lemmas.Bool.true≢false}
use Rattle.std.specs.Prelude.{IsErr, None, Result, Ok, Err, slice_index}
use Rattle.shm_graph.specs.{declared.memo.Memo.Memo, Asks.Trail, Events.Event, Idle.IsIdle}
use Rattle.plans.specs.Tasks.{IsNew, TaskLaws}
use Rattle.shm_count.specs.declared.answer.EraSpent.{EraSpent}
use Rattle.shm_ref.specs.Proved.RootTasks.{left_idle}
use Rattle.shm_recover.specs.{declared.leave.LeaveState.LeaveState, Leave.Control.{leave_parts, leaving}}
use Rattle.shm_recover.specs.{Leave.{LeaveKnows, LeaveLeaves, leave_plan}, Proved.Leave.Gone.idle_may_leave}
use Rattle.shm_recover.specs.Proved.Leave.Laws.{leave_begin}

-- an identity may leave that holds no latch and has no zero-count block, and for which no block waits at a tail and no item for a head
abbrev pub LeaveMay : LeaveState → Memo → Type 0
LeaveMay m r = (m ≡ leaving m.me) × (r.latch ≡ None) × (r.dying ≡ []) × ((i : ℕ) → slice_index r.unsent i ≡ 0) × ((i : ℕ) → slice_index r.untaken i ≡ 0)

-- it is between two calls where it was refused; otherwise it is gone
abbrev pub LeaveRests : LeaveState → Result (Unit {0}) EraSpent → Type 0
LeaveRests m a = IsErr a

leave_rests : (m : LeaveState) (r0 r : Memo) (tr : Trail) (es : List Event) (a : Result (Unit {0}) EraSpent) → IsIdle m.me.who r0 → LeaveLeaves m r0 r tr es a → LeaveRests m a → IsIdle m.me.who r
leave_rests m r0 r tr es (Ok done) idle h e = absurd (true≢false (sym e))
leave_rests m r0 r tr es (Err spent) idle h e = left_idle m.me.who (λ j. nat_lt j 16) r0 r h.1.left idle

pub leave_task : TaskLaws leave_parts leave_plan LeaveMay LeaveRests
leave_task =
    record {
      new = λ m r h. subst (IsNew leave_parts leave_plan) (sym h.0) (record { first = refl; start = refl; fresh = refl });
      begins = λ m r ready h. subst (λ (x : LeaveState). LeaveKnows x x.point r r [] []) (sym h.0)
          (leave_begin m.me r (idle_may_leave m.me r (record { geometry = ready.geometry; who = ready.who }) ready.idle h.1 h.2 h.3 h.4));
      rests = λ m r0 r tr es a ready h l e. leave_rests m r0 r tr es a ready.idle l e;
    }
