-- Calls none of whose word steps makes a block or a home name a block.
use Rattle.std.proofs.Common.{ℕ, ◌<◌, Bool, true}
use Rattle.shm_graph.specs.{declared.{spot.Spot.TheVariants.Root, ask.Me.Me}, Tells.happens_along}
use Rattle.plans.specs.{declared.{calls.Calls.Calls, or.Or.TheVariants.{First, Second}}, CallsControl.calls_does}
use Rattle.shm_plain.specs.{Calls.{Did, Ran}, Pools.{Pool, memo_of}}
use Rattle.shm_alloc.specs.declared.point.{AllocPoint.{AllocPoint, TheVariants.Commit}, AllocState.AllocState}
use Rattle.shm_alloc.specs.Alloc.{Control.alloc_control, Events.{alloc_event, alloc_event_at}}
use Rattle.shm_count.specs.declared.{point.Aim.{Aim, TheVariants.{Up, Down, Change}}, up_root.RootingPoint.RootingPoint}
use Rattle.shm_count.specs.{declared.up_root.RootingState.RootingState, UpRoot.Control.{RootingCall, rooting_parts}}
use Rattle.shm_count.specs.UpRoot.{rooting_part, rooting_plan}
use Rattle.shm_count.specs.declared.up_root.RootingPoint.TheVariants as rooting
use Rattle.shm_ref.specs.{declared.drop_root.DropState.DropState, DropRoot.{Control.{DropCall, drop_parts}, drop_plan}}
use Rattle.shm_tree.specs.{Falling.AreFalling, Working.IsWorking}
use Rattle.shm_tree.proofs.{Anytime.{AimsAt, only_along, step_only, tear_only, told_falls}, Falls.{IsLower, OnlyFalls}}

module _ (r : ℕ → ℕ) (n : ℕ) where
  root_aims : (c k : ℕ) (x : Aim) → AimsAt (IsLower r n) (Root c k) x
  root_aims c k (Up b) = tt
  root_aims c k (Down b) = tt
  root_aims c k (Change a b) = tt

  -- ---- a further root

  share_at : (s : RootingState) (y : RootingPoint) (c : RootingCall) (i : ℕ) → OnlyFalls r n ((rooting_part s y).does c i)
  share_at s rooting.Era (First w) i = tt
  share_at s rooting.Era (Second x) i = step_only (IsLower r n) x.me x.aim (Root s.me.who s.root) x.point i (root_aims s.me.who s.root x.aim)
  share_at s y (First w) i = tt
  share_at s y (Second x) i = step_only (IsLower r n) x.me x.aim (Root s.me.who s.root) x.point i (root_aims s.me.who s.root x.aim)

  pub share_keeps : (m : Calls RootingState RootingCall) (i : ℕ) → OnlyFalls r n (calls_does rooting_parts rooting_plan m i)
  share_keeps m i = share_at m.plan m.plan.point m.call i

  -- ---- a drop of a root

  drop_at : (s : DropState) (c : DropCall) (i : ℕ) → OnlyFalls r n ((drop_plan.part s).does c i)
  drop_at s (First w) i = tt
  drop_at s (Second (First x)) i = step_only (IsLower r n) x.me x.aim (Root s.me.who s.root) x.point i (root_aims s.me.who s.root x.aim)
  drop_at s (Second (Second x)) i = tear_only (IsLower r n) x.me x.block x.point i

  pub drop_keeps : (m : Calls DropState DropCall) (i : ℕ) → OnlyFalls r n (calls_does drop_parts drop_plan m i)
  drop_keeps m i = drop_at m.plan m.call i

  -- ---- an allocation

  alloc_at : (me : Me) (y : AllocPoint) (i : ℕ) → OnlyFalls r n (alloc_event_at me y i)
  alloc_at me (Commit g b) i = tt
  alloc_at me _ i = tt

pub alloc_falls : (Is : AllocState → Type 0) (answered : Bool) (p q : Pool) (x y : ℕ) → IsWorking p → Ran 0 true answered p q x y → (0 < x → (m : AllocState) × Is m × Did 0 p q (happens_along alloc_control alloc_event m (memo_of q 0).call)) → AreFalling p → AreFalling q
alloc_falls Is answered p q x y w ran told h =
    told_falls answered p q x y w ran h
    (λ l. let t = told l in (_, t.2, only_along alloc_control alloc_event (λ (s : AllocState). Unit {0}) (OnlyFalls h.rank h.most) (λ s i u. tt) (λ s i u. alloc_at h.rank h.most s.me s.point i) t.0 (memo_of q 0).call tt))
