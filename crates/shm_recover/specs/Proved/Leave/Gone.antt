-- once it has answered Ok, a leaving left nothing of the identity in the words; and an identity between two calls may leave
use Rattle.std.proofs.Common.{◌≡◌, ℕ, ◌<◌, sym, ap, ◌∙◌}
use Rattle.std.specs.Prelude.{slice_index, None, Ok, List, []}
use Rattle.shm_graph.specs.declared.{ask.Me.Me, memo.{Memo.Memo, Status.Status as AStatus}}
use Rattle.shm_graph.specs.{declared.{memo.Status.TheVariants.{New, Live, Gone}, spot.Spot.Spot}, Asks.Trail}
use Rattle.shm_graph.specs.{Events.Event, Held.HeldAt, Idle.{IsIdle, hold_word}, Sound.IsGone, Views.view}
use Rattle.shm_graph.proofs.States.HeldSound.{gone_left}
use Rattle.shm_recover.specs.{Join.IsMember, Leave.{Control.leaving, LeaveLeaves, MayLeave}}

-- in each held state with the memo that it gave the identity is gone
pub leave_gone : (me : Me) (r0 : Memo) (tr : Trail) (es : List Event) (w : Spot → ℕ) (r : ℕ → Memo) → me.who < me.geometry.clients → HeldAt me.geometry w (view r) → LeaveLeaves (leaving me) r0 (r me.who) tr es (Ok tt) → IsGone me.geometry w (view r) me.who
leave_gone me r0 tr es w r l held g = gone_left me.geometry w (view r) held me.who l g.status

not_new : (s : AStatus) → s ≡ Live → s ≡ New → ⊥
not_new s live e = let z : Live ≡ New = sym live ∙ e in cc

not_gone : (s : AStatus) → s ≡ Live → s ≡ Gone → ⊥
not_gone s live e = let z : Live ≡ Gone = sym live ∙ e in cc

-- an identity of the pool that is live and between two calls may leave where it holds no latch, has no zero-count block, and no queue waits for its tail or head
pub idle_may_leave : (me : Me) (m : Memo) → IsMember me → IsIdle me.who m → m.latch ≡ None → m.dying ≡ [] → ((i : ℕ) → slice_index m.unsent i ≡ 0) → ((i : ℕ) → slice_index m.untaken i ≡ 0) → MayLeave me m
idle_may_leave me m k idle latch dying sends takes =
    record {
      may = record { geometry = k.geometry; who = k.who; here = record { joined = not_new m.status idle.live; stays = not_gone m.status idle.live }; idle = idle.op };
      hold = idle.hold ∙ ap hold_word latch;
      latch = latch;
      making = idle.making;
      dying = dying;
      sends = sends;
      takes = takes;
    }
