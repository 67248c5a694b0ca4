-- a share as an operation: when it may begin between two calls
use Rattle.std.proofs.Common.{◌≡◌, ℕ, true, false, List, [], refl, sym, subst}
use Rattle.std.specs.Prelude.{Result, Ok, Err}
use Rattle.shm_graph.specs.{declared.{ask.Me.Me, memo.Memo.Memo, spot.Spot.TheVariants.Root}, Agents.recovers}
use Rattle.shm_graph.specs.{Asks.Trail, Events.Event, Idle.IsIdle, Reach.is_reached}
use Rattle.shm_graph.proofs.Idles.{idle_core}
use Rattle.plans.specs.Tasks.{IsNew, TaskLaws}
use Rattle.shm_count.specs.declared.answer.ShareFault.{ShareFault, TheVariants.{EraSpent, RootsFull, CountFull}}
use Rattle.shm_count.specs.{declared.up_root.RootingState.RootingState, UpRoot.Control.{rooting, rooting_parts}}
use Rattle.shm_count.specs.UpRoot.{RootingKnows, UpRootLeaves, rooting_plan}
use Rattle.shm_count.specs.Proved.Idles.{filled_idle, untouched_idle, is_here}

-- a client may share a block in reach
abbrev pub ShareMay : RootingState → Memo → Type 0
ShareMay m r = (m ≡ rooting m.me m.block) × (recovers r ≡ false) × (is_reached m.me.who r m.block ≡ true)

pub share_rests : (me : Me) (b : ℕ) (r0 r : Memo) (tr : Trail) (es : List Event) (a : Result ℕ ShareFault) → IsIdle me.who r0 → UpRootLeaves me b r0 r tr es a → IsIdle me.who r
share_rests me b r0 r tr es (Ok k) idle h = filled_idle me.who (Root me.who k) b r0 r h.filled idle
share_rests me b r0 r tr es (Err (EraSpent e)) idle h = idle_core me.who r0 r h.same idle
share_rests me b r0 r tr es (Err RootsFull) idle h = idle_core me.who r0 r h.same idle
share_rests me b r0 r tr es (Err (CountFull d n)) idle h = untouched_idle me.who r0 r h.untouched idle

pub share_task : TaskLaws rooting_parts rooting_plan ShareMay (λ m a. Unit {0})
share_task =
    record {
      new = λ m r h. subst (IsNew rooting_parts rooting_plan) (sym h.0) (record { first = refl; start = refl; fresh = refl });
      begins = λ m r ready h. subst (λ (x : RootingState). RootingKnows x x.point r r [] []) (sym h.0)
          (record { geometry = ready.geometry; who = ready.who; here = is_here m.me.who r ready.idle; idle = ready.idle.op; client = h.1; reach = h.2 }, refl, refl, refl, refl);
      rests = λ m r0 r tr es a ready h l e. share_rests m.me m.block r0 r tr es a ready.idle l;
    }
