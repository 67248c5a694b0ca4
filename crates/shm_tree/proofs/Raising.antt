-- The call that makes a node again, with another tree on the side of a key: by what it makes once the node was read.
use Rattle.std.proofs.Common.{◌≡◌, ◌≢◌, ℕ, Bool, true, false, cond, ◌+◌, lit≤, nat_lt, refl, sym, ap, ◌∙◌, subst, arith}
use Rattle.std.specs.Prelude.{IfSome, Option, None, Some}
use Rattle.shm_graph.specs.declared.spot.Spot.TheVariants.{Body}
use Rattle.shm_plain.specs.Pools.{IsRun, Pool}
use Rattle.shm_count.specs.declared.answer.Made.{Made}
use Rattle.shm_tree.specs.declared.node.{Content.Content, Side.{Side, TheVariants.{Left, Right}}}
use Rattle.shm_tree.specs.Building.{IsCheap, IsHeld, IsRebuilt, StandsOf, joined_by, root_block}
use Rattle.shm_tree.specs.Keeping.{IsStill, KeepsTrees, child_of, node_by, other_side}
use Rattle.shm_tree.specs.Raising.{IsCheapAt, IsOverAt, StandsAgain, WeighsAgain, content_or, side_of}
use Rattle.shm_tree.specs.{Sharing.{CountsTop, IsOver, WeighsJoined}, Standing.{TreeStands, weight, word_of}}
use Rattle.shm_tree.specs.Trees.{Tree, Empty, Node}
use Rattle.shm_tree.proofs.{Building.{made_more, tree_still}, Nodes.made_then}
use Rattle.shm_tree.proofs.{Rotations.{child_kept, content_is, node_of, parts}, Sharings.{some_high, top_kept}}
use Rattle.shm_tree.proofs.Weights.{weight_nodes}

-- ---- after calls that look

pub held_kept : {p q : Pool} {w : Made} → IsStill p q → IsHeld p w → IsHeld q w
held_kept {w = w} s h = record { low = h.low; some = h.some; names = s.roots w.root ∙ h.names; tree = tree_still w.block s h.tree }

pub some_held : {p q : Pool} (o : Option Made) → IsStill p q → IfSome o (IsHeld p) → IfSome o (IsHeld q)
some_held None s h = tt
some_held (Some m) s h = held_kept s h

pub rebuilt_after : {n : ℕ} {m : Made} {p q r : Pool} (o : Option Made) → IsRun p → IsRun q → q.start ≡ p.start → IsStill p q → IsRebuilt n o m q r → IsRebuilt n o m p r
rebuilt_after {n = n} {p = p} {q = q} {r = r} o hp hq start a b =
    record {
      low = b.low;
      some = b.some;
      empty = sym (a.roots _) ∙ b.empty;
      names = b.names;
      left = b.left;
      others = λ j h i. b.others j h i ∙ a.roots j;
      trees = λ j t low i s. subst (λ (k : ℕ). TreeStands r k t) (a.roots j) (b.trees j t low i (subst (λ (k : ℕ). TreeStands q k t) (sym (a.roots j)) (a.trees (root_block p j) t s)));
      blocks =
          λ f j t low i s.
          (let there : TreeStands q (root_block q j) t = subst (λ (d : ℕ). TreeStands q d t) (sym (a.roots j)) (a.trees (root_block p j) t s) in
          subst (λ (d : ℕ). weight f r d t ≡ weight f q d t) (a.roots j) (b.blocks f j t low i there) ∙ weight_nodes f p q a.nodes (root_block p j) t s);
      made = made_more (0 + n) n p r (made_then 0 n p q r hp hq start a.made b.made) (omega arith);
    }

-- ---- by the node's content and the side that were read

sided : (b : Bool) (k n : ℕ) (l r : Tree) → Node k n l r ≡ node_by (cond b Left Right) (record { key = k; number = n }) (cond b l r) (cond b r l)
sided true k n l r = refl
sided false k n l r = refl

-- the tree on the other side
other_stands : {p q : Pool} (x node k n : ℕ) (l w : Tree) (s : Side) → s ≡ side_of x k → KeepsTrees p q → TreeStands p node (Node k n l w) → TreeStands q (child_of q node (other_side s)) (cond (nat_lt x k) w l)
other_stands {p = p} {q = q} x node k n l w s is keeps sn =
    let d : Content = record { key = k; number = n } in
    let near : Tree = cond (nat_lt x k) l w in
    let far : Tree = cond (nat_lt x k) w l in
    let here : TreeStands q node (node_by s d near far) = subst (λ (e : Side). TreeStands q node (node_by e d near far)) (sym is) (subst (TreeStands q node) (sided (nat_lt x k) k n l w) (keeps node (Node k n l w) sn)) in
    (parts q node s d near far here).far

pub again_up : {p q : Pool} (r : Pool) (x node below m : ℕ) (o : Option Content) (own c : Content) (s : Side) → node ≢ 0 → c ≡ content_or o own → s ≡ side_of x own.key → own.key ≡ word_of p (Body node 2) → own.number ≡ word_of p (Body node 3) → KeepsTrees p q
    → StandsOf (joined_by s c) (record { near = below; far = child_of q node (other_side s) }) m q r → StandsAgain x o node below m p r
again_up r x node below m o own c s some told side key number keeps b Empty u sn su = absurd (some sn)
again_up r x node below m o own c s some told side key number keeps b (Node k n l w) u sn su =
    let is : own ≡ record { key = k; number = n } = content_is (key ∙ sn.0.key) (number ∙ sn.0.number) in
    let i : s ≡ side_of x k = side ∙ ap (λ (e : Content). side_of x e.key) is in
    let far : Tree = cond (nat_lt x k) w l in
    let made = b u far (keeps below u su) (other_stands x node k n l w s i keeps sn) in
    subst (λ (e : Content). TreeStands r m (joined_by (side_of x k) e u far)) (told ∙ ap (content_or o) is) (subst (λ (e : Side). TreeStands r m (joined_by e c u far)) i made)

-- few blocks were made for it
pub cheap_up : {p q r : Pool} (x node below : ℕ) (own : Content) (s : Side) → IsRun p → IsRun q → q.start ≡ p.start → s ≡ side_of x own.key → own.key ≡ word_of p (Body node 2) → IsStill p q → IsCheap (record { near = below; far = child_of q node (other_side s) }) q r → IsCheapAt x node below p r
cheap_up {p = p} {q = q} {r = r} x node below own s hp hq start side key still b k n l w u sn su flat =
    let one = b u (cond (nat_lt x k) w l) (still.trees below u su) (other_stands x node k n l w s (side ∙ ap (side_of x) (key ∙ sn.0.key)) still.trees sn) flat in
    made_more (0 + 1) 1 p r (made_then 0 1 p q r hp hq start still.made one) (lit≤ tt)

pub weighs_up : (p q r : Pool) (x node below m : ℕ) (o : Option Content) (own c : Content) (s : Side) → c ≡ content_or o own → s ≡ side_of x own.key → own.key ≡ word_of p (Body node 2) → own.number ≡ word_of p (Body node 3) → IsStill p q → node ≢ 0
    → WeighsJoined c s (record { near = below; far = child_of q node (other_side s) }) m q r → WeighsAgain x o node below m p r
weighs_up p q r x node below m o own c s told side key number still some b f k n l w u count sn su down up =
    let d : Content = record { key = k; number = n } in
    let is : own ≡ d = content_is (key ∙ sn.0.key) (number ∙ sn.0.number) in
    let i : s ≡ side_of x k = side ∙ ap (λ (e : Content). side_of x e.key) is in
    let far : Tree = cond (nat_lt x k) w l in
    let one =
    b f u far count (λ lt. absurd (omega (arith, lt, up)))
    (λ lt. top_kept f p q (other_side s) below u (some_high p below u su (omega (arith, lt))) su still (subst (λ (e : Side). CountsTop f p (other_side e) below) (sym i) (down lt)))
    (still.trees below u su) (other_stands x node k n l w s i still.trees sn) in
    let a = weight_nodes f p q still.nodes below u su in
    let same : child_of q node (other_side s) ≡ child_of p node (other_side (side_of x k)) = child_kept p q node (other_side s) still.nodes (node_of p node some (Node k n l w, sn)) ∙ ap (λ (e : Side). child_of p node (other_side e)) i in
    let e : weight f q (child_of q node (other_side s)) far ≡ weight f p (child_of p node (other_side (side_of x k))) far =
    ap (λ (z : ℕ). weight f q z far) same ∙ weight_nodes f p q still.nodes (child_of p node (other_side (side_of x k))) far (other_stands x node k n l w (side_of x k) refl (λ j t h. h) sn) in
    let j : weight f r m (joined_by s c u far) ≡ weight f r m (joined_by (side_of x k) (content_or o d) u far) =
    ap (λ (z : Side). weight f r m (joined_by z c u far)) i ∙ ap (λ (z : Content). weight f r m (joined_by (side_of x k) z u far)) (told ∙ ap (content_or o) is) in
    omega (arith, one, a, e, j)

pub over_up : (p q r : Pool) (x node below m : ℕ) (own : Content) (s : Side) → s ≡ side_of x own.key → own.key ≡ word_of p (Body node 2) → IsStill p q → IsOver (record { near = below; far = child_of q node (other_side s) }) s m q r → IsOverAt x node below m p r
over_up p q r x node below m own s side key still b k n l w u sn su flat =
    let i : s ≡ side_of x k = side ∙ ap (side_of x) (key ∙ sn.0.key) in
    ap (λ (e : Side). child_of r m e) (sym i) ∙ b u (cond (nat_lt x k) w l) (still.trees below u su) (other_stands x node k n l w s i still.trees sn) flat
