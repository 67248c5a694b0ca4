-- steps that are no event on the graph: it stays
use Rattle.std.proofs.Common.{◌≡◌, ℕ, ◌+◌, refl, ap, List}
use Rattle.shm_words.specs.declared.geometry.Geometry.{Geometry}
use Rattle.shm_graph.specs.declared.spot.Spot.{Spot}
use Rattle.shm_graph.specs.declared.spot.Spot.TheVariants.{Redo, Latch, Era, Root, Tail, QueueHead, Page, Head, Tag, Body}
use Rattle.shm_graph.specs.{declared.memo.{Op.Op, Stored.Stored}, Spots.upd, Views.{View, targets, held_overs}}
use Rattle.shm_graph.specs.{Events.{Nothing, graph_of, Happens}, Held.HeldAt}
use Rattle.kind_laws.proofs.{RedoAndRows.{begin_targets, begin_held_overs}, CloseOp.{close_targets, close_held_overs}}
use Rattle.kind_laws.proofs.Writing.{targets_same, held_over_same}
use Rattle.kind_laws.specs.OwnWords.{BeginNeeds, begin_view, RowNeeds, row_store_view, CloseNeeds, close_view, TailNeeds, tail_view, QueueHeadNeeds, head_view}
use Rattle.kind_laws.specs.{Slotting.{RootNeeds, root_view, BodyNeeds, body_view}, Segments.{ClassNeeds, class_view}}
use Rattle.kind_laws.specs.Latches.{BackNeeds, back_view, LatchNeeds, latch_view}

-- no header and no tag changed, and targets and blocks held over stay
pub quiet : (g : Geometry) (w w' : Spot → ℕ) (v v' : View) → ((b : ℕ) → w' (Head b) ≡ w (Head b)) → ((b : ℕ) → w' (Tag b) ≡ w (Tag b)) → targets g w' v' ≡ targets g w v → held_overs v' ≡ held_overs v
    → Happens g w Nothing (graph_of g w v) (graph_of g w' v')
quiet g w w' v v' heads tags path held_over =
    record {
      lives = λ b. rw (heads b) refl;
      shapes = λ b. rw (heads b, tags b) refl;
      targets = λ p. ap (λ (f : Spot → ℕ). f p) path;
      held_overs = λ c. ap (λ (f : ℕ → ℕ). f c) held_over;
    }

-- ---- own words

-- the store of a redo word, which begins an op that covers nothing and holds nothing over
pub begin_quiet : (g : Geometry) (w : Spot → ℕ) (v : View) (c x : ℕ) (o : Op) → HeldAt g w v → BeginNeeds g w v c x o → Happens g w Nothing (graph_of g w v) (graph_of g (upd w (Redo c) x) (begin_view v c x o))
begin_quiet g w v c x o h a = quiet g w (upd w (Redo c) x) v (begin_view v c x o) (λ b. refl) (λ b. refl) (begin_targets g w v c x o a) (begin_held_overs g w v c x o a)

-- the store of a row
pub row_quiet : (g : Geometry) (w : Spot → ℕ) (v : View) (c j x : ℕ) → HeldAt g w v → RowNeeds g w v c j x → Happens g w Nothing (graph_of g w v) (graph_of g (upd w (Era c j) x) (row_store_view v c j x))
row_quiet g w v c j x h a = quiet g w (upd w (Era c j) x) v (row_store_view v c j x) (λ b. refl) (λ b. refl) refl refl

-- the store of the own era: what the op covered is in its slot, and a change holds over what it held
pub close_quiet : (g : Geometry) (w : Spot → ℕ) (v : View) (c : ℕ) (o : Op) → HeldAt g w v → CloseNeeds g v c o
    → Happens g w Nothing (graph_of g w v) (graph_of g (upd w (Era c c) (w (Era c c) + 1)) (close_view v c (w (Era c c) + 1) o))
close_quiet g w v c o h a = quiet g w (upd w (Era c c) (w (Era c c) + 1)) v (close_view v c (w (Era c c) + 1) o) (λ b. refl) (λ b. refl) (close_targets g w v c o h a) (close_held_overs g w v c o h a)

-- the store of a tail
pub tail_quiet : (g : Geometry) (w : Spot → ℕ) (v : View) (c r : ℕ) → HeldAt g w v → TailNeeds g w v c r
    → Happens g w Nothing (graph_of g w v) (graph_of g (upd w (Tail c r) (w (Tail c r) + 1)) (tail_view v c r (w (Tail c r) + 1)))
tail_quiet g w v c r h a = quiet g w (upd w (Tail c r) (w (Tail c r) + 1)) v (tail_view v c r (w (Tail c r) + 1)) (λ b. refl) (λ b. refl) refl refl

-- the store of a head
pub head_quiet : (g : Geometry) (w : Spot → ℕ) (v : View) (c s : ℕ) → HeldAt g w v → QueueHeadNeeds g w v c s
    → Happens g w Nothing (graph_of g w v) (graph_of g (upd w (QueueHead s c) (w (QueueHead s c) + 1)) (head_view v c s (w (QueueHead s c) + 1)))
head_quiet g w v c s h a = quiet g w (upd w (QueueHead s c) (w (QueueHead s c) + 1)) v (head_view v c s (w (QueueHead s c) + 1)) (λ b. refl) (λ b. refl) refl refl

-- ---- the slot of a committed step, which had its new value as its target

-- a root
pub root_quiet : (g : Geometry) (w : Spot → ℕ) (v : View) (c k x : ℕ) (o : Op) → HeldAt g w v → RootNeeds g w v c k x o → Happens g w Nothing (graph_of g w v) (graph_of g (upd w (Root c k) x) (root_view v c k x o))
root_quiet g w v c k x o h a = quiet g w (upd w (Root c k) x) v (root_view v c k x o) (λ b. refl) (λ b. refl)
    (targets_same g w v h c x o (Root c k) a.inside a.slot a.op (λ b. refl)) (held_over_same g w v h c x o (Root c k) a.inside a.slot a.op)

-- a reference word of a block
pub body_quiet : (g : Geometry) (w : Spot → ℕ) (v : View) (c b i x : ℕ) (o : Op) → HeldAt g w v → BodyNeeds g v c b i x o → Happens g w Nothing (graph_of g w v) (graph_of g (upd w (Body b i) x) (body_view v c b i x o))
body_quiet g w v c b i x o h a = quiet g w (upd w (Body b i) x) v (body_view v c b i x o) (λ b. refl) (λ b. refl)
    (targets_same g w v h c x o (Body b i) a.inside a.slot a.op (λ b. refl)) (held_over_same g w v h c x o (Body b i) a.inside a.slot a.op)

-- ---- a class, and a latch

-- the store of a page's class: live bits, tags and targets are read by spots, and a page's spot is none of theirs
pub class_quiet : (g : Geometry) (w : Spot → ℕ) (v : View) (c s q k : ℕ) → HeldAt g w v → ClassNeeds g w v c s q k → Happens g w Nothing (graph_of g w v) (graph_of g (upd w (Page s q) k) (class_view v c s q k))
class_quiet g w v c s q k h a = quiet g w (upd w (Page s q) k) v (class_view v c s q k) (λ b. refl) (λ b. refl) refl refl

-- the latch is given back
pub back_quiet : (g : Geometry) (w : Spot → ℕ) (v : View) (c a : ℕ) (kept : List Stored) (values : List ℕ) → HeldAt g w v → BackNeeds g w v c a kept values
    → Happens g w Nothing (graph_of g w v) (graph_of g (upd w (Latch a) 0) (back_view v c kept values))
back_quiet g w v c a kept values h b = quiet g w (upd w (Latch a) 0) v (back_view v c kept values) (λ b. refl) (λ b. refl) refl refl

-- the latch is taken
pub latch_quiet : (g : Geometry) (w : Spot → ℕ) (v : View) (c a : ℕ) → HeldAt g w v → LatchNeeds g w v c a → Happens g w Nothing (graph_of g w v) (graph_of g (upd w (Latch a) (c + 1)) (latch_view v c a))
latch_quiet g w v c a h b = quiet g w (upd w (Latch a) (c + 1)) v (latch_view v c a) (λ b. refl) (λ b. refl) refl refl
