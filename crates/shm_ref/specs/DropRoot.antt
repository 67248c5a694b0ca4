-- a drop of a root as a plan: what is known before each call, and what is left
pub mod Control
use Rattle.std.specs.Prelude.{◌≡◌, ◌≢◌, ℕ, ◌+◌, ◌^◌, ◌<◌, ◌≤◌, Bool, true, false, not, ◌==◌, Result, Ok, Err, List, [], ◌∷◌, length}
use Rattle.std.specs.List.{Contains}
use Rattle.shm_graph.specs.{Bounds.{redo_steps, tear_steps}, declared.spot.Spot.TheVariants.{Era, Root}}
use Rattle.shm_graph.specs.{declared.memo.Memo.Memo, Asks.{Trail, IsWithin}, Events.Event, Views.own_word, Core.core}
use Rattle.shm_graph.specs.Events as event
use Rattle.shm_words.specs.Layout.{total_of}
use Rattle.plans.specs.{Either.or_part, Parts.IsHeld, Plans.Planned}
use Rattle.shm_count.specs.{declared.answer.EraSpent.EraSpent, CountParts.tear_part, Roots.root_word}
use Rattle.shm_count.specs.{Slots.{Lost, Took, Untouched, Parts.down_slot_part}, Step.Control.IsInside}
use Rattle.shm_count.specs.Tear.{Events.{Visit, Walks, frees}, CanTear, Memos.Remains}
use Rattle.shm_ref.specs.declared.drop_root.DropPoint.{DropPoint, TheVariants.{Load, Lower, Tear}}
use Rattle.shm_ref.specs.declared.drop_root.DropState.{DropState}
use Rattle.shm_ref.specs.DropRoot.Control.{DropCall, DropAnswer, is_load, drop_steered}
use Rattle.shm_ref.specs.{Lefts.{Left, MayDrop, RootEvents, Stopped}, RootParts.load_part}

-- ---- on the way

-- the root is known to name the block, a counted one of the pool, and nothing was done yet
pub record IsLoaded (m : DropState) (r0 r : Memo) (tr : Trail) (es : List Event) : Type 0 where
  pub may : MayDrop m.me r0
  pub low : m.root < 16
  pub same : core r ≡ core r0
  pub names : root_word m.me.who r0 m.root ≡ m.block
  pub some : m.block ≢ 0
  pub inside : IsInside m.me m.block
  pub room : m.block + 2 ≤ total_of m.me.geometry
  pub counted : Contains r0.dying m.block → ⊥
  pub era : own_word r.own (Era m.me.who m.me.who) + 1 < 2 ^ 47
  pub none : es ≡ []
  pub bound : IsWithin 1 tr

-- the root is empty, and the block's count came to 0
pub record IsLowered (m : DropState) (r0 r : Memo) (tr : Trail) (es : List Event) : Type 0 where
  pub names : root_word m.me.who r0 m.root ≡ m.block
  pub some : m.block ≢ 0
  pub counted : Contains r0.dying m.block → ⊥
  pub lost : Lost m.me.who (Root m.me.who m.root) false m.block 0 true r0 r
  pub holds : IsHeld m.me r
  pub can : CanTear m.me m.block r
  pub told : es ≡ event.Down m.me.who (Root m.me.who m.root) m.block ∷ []
  pub bound : IsWithin (8 + redo_steps m.me.geometry.wide) tr

abbrev pub DropKnows : DropState → DropPoint → Memo → Memo → Trail → List Event → Type 0
DropKnows m Load r0 r tr es = MayDrop m.me r0 × (m.root < 16) × (r ≡ r0) × (tr ≡ []) × (es ≡ [])
DropKnows m Lower r0 r tr es = IsLoaded m r0 r tr es
DropKnows m Tear r0 r tr es = IsLowered m r0 r tr es

-- ---- what it leaves

-- the root is empty, and it says whether it was so before; the zero-count blocks are those before
pub record Dropped (m : DropState) (r0 r : Memo) (tr : Trail) (es : List Event) (z : Bool) : Type 0 where
  pub left : Left m.me.who (λ j. m.root == j) r0 r
  pub remains : Remains m.me.who r0 r
  pub root : root_word m.me.who r m.root ≡ 0
  pub dying : r.dying ≡ r0.dying
  pub named : z ≡ not (root_word m.me.who r0 m.root == 0)
  pub events : RootEvents m.me.who m.root (root_word m.me.who r0 m.root) es
  pub bound : IsWithin (8 + redo_steps m.me.geometry.wide + tear_steps m.me.geometry.wide (frees es)) tr

-- the own era was spent at a root that names a block: at the step down, and nothing was done; or at a step down of the tear-down: the root is empty, the loss of its reference comes first, and these blocks are left as zero-count blocks
pub data DropSpent (c k : ℕ) (r0 r : Memo) (es : List Event) (e : ℕ) (vs : List Visit) : Type 0 where
  AtStep : (some : root_word c r0 k ≢ 0) (memo : Untouched c r0 r) (cause : e ≡ own_word r0.own (Era c c)) (none : es ≡ []) (all : vs ≡ []) → DropSpent c k r0 r es e vs
  AtTear : (some : root_word c r0 k ≢ 0) (took : Took c (Root c k) false (root_word c r0 k) 0 false r0 r) (torn : List Event) (told : es ≡ event.Down c (Root c k) (root_word c r0 k) ∷ torn) (walk : Walks c (root_word c r0 k) torn vs) → DropSpent c k r0 r es e vs

-- the own era left no room for a step down, and is at least the one that was read
pub record DropStopped (m : DropState) (r0 r : Memo) (tr : Trail) (es : List Event) (era : ℕ) (vs : List Visit) : Type 0 where
  pub at : DropSpent m.me.who m.root r0 r es era vs
  pub left : Left m.me.who (λ j. m.root == j) r0 r
  pub remains : Remains m.me.who r0 r
  pub stopped : Stopped m.me r0 r era vs
  pub most : era ≤ own_word r.own (Era m.me.who m.me.who)
  pub bound : IsWithin (8 + redo_steps m.me.geometry.wide + tear_steps m.me.geometry.wide (frees es + length vs)) tr

abbrev pub DropLeaves : DropState → Memo → Memo → Trail → List Event → Result Bool EraSpent → Type 0
DropLeaves m r0 r tr es (Ok z) = Dropped m r0 r tr es z
DropLeaves m r0 r tr es (Err e) = (vs : List Visit) × DropStopped m r0 r tr es e.era vs

-- ---- the plan

abbrev pub drop_plan : Planned DropState DropCall DropAnswer (Result Bool EraSpent)
drop_plan =
    record {
      steered = drop_steered;
      part = λ m. or_part (load_part m.me m.root (is_load m.point)) (or_part (down_slot_part (Root m.me.who m.root) false) tear_part);
      knows = λ m. DropKnows m m.point;
      leaves = DropLeaves;
    }
