-- How many blocks of a tree that was balanced again are others than those of the trees of which it was built.
use Rattle.std.proofs.Common.{◌≡◌, ◌≢◌, ℕ, ◌+◌, ◌<◌, ◌≤◌, sym, ap, ◌∙◌, subst, arith, Result, Ok, Err}
use Rattle.std.specs.Prelude.{IfOk}
use Rattle.shm_graph.specs.declared.spot.Spot.TheVariants.{Body}
use Rattle.shm_plain.specs.Pools.{Pool}
use Rattle.shm_count.specs.declared.answer.Made.{Made}
use Rattle.shm_tree.specs.declared.node.{Content.Content, Pair.Pair, Side.{Side, TheVariants.{Left, Right}}}
use Rattle.shm_tree.specs.declared.stop.Stop.{Stop}
use Rattle.shm_tree.specs.Building.{IsBuilt, IsHeld, StandsOf, from_far, joined_by, root_block}
use Rattle.shm_tree.specs.Keeping.{IsDropped, IsLinked, IsStill, KeepsNode, child_of, node_by, other_side}
use Rattle.shm_tree.specs.Sharing.{CountsTop, IsFresh, IsOver, WeighsCrowned, WeighsFar, WeighsJoined, WeighsRaised, WeighsTurned, WeighsTurnedTwice}
use Rattle.shm_tree.specs.{Standing.{TreeStands, weight, word_of}, Trees.{Tree, height}, Working.{IsEmptied, IsWorking}}
use Rattle.shm_tree.proofs.Answering.{height_none}
use Rattle.shm_tree.proofs.Rotations.{child_kept, content_is, far_double, far_single, joined_far, joined_flat, joined_near, node_of, node_other, parts, shaped}
use Rattle.shm_tree.proofs.{Ways.stands_one, Weights.{node_root, weigh_link, weigh_sides, weight_nodes, weight_root}}

pub weighs_once : (p q r : Pool) (s : Side) (c : Content) (trees : Pair) (m : ℕ) → trees.far ≢ 0 → IsStill p q → ((y z : Tree) → TreeStands p (child_of p trees.far s) y → TreeStands p (child_of p trees.far (other_side s)) z → height y ≤ height z) → WeighsTurned c s trees m q r → WeighsFar c s trees m p r
weighs_once p q r s c trees m some still low b f x t count top sx st =
    let h = shaped p trees.far s t some st in
    let y : Tree = h.near in
    let z : Tree = h.far in
    let st' : TreeStands p trees.far (node_by s h.content y z) = subst (TreeStands p trees.far) h.is st in
    let w = parts p trees.far s h.content y z st' in
    let is : from_far s c x t ≡ node_by s h.content (node_by s c x y) z = ap (from_far s c x) h.is ∙ far_single s c h.content x y z (low y z w.near w.far) in
    let one = b f x y z h.content count (still.trees trees.near x sx) (still.trees trees.far (node_by s h.content y z) st') in
    let a = weight_nodes f p q still.nodes trees.near x sx in
    let d = weight_nodes f p q still.nodes trees.far (node_by s h.content y z) st' in
    let i : weight f r m (from_far s c x t) ≡ weight f r m (node_by s h.content (node_by s c x y) z) = ap (λ (u : Tree). weight f r m u) is in
    let j : weight f p trees.far t ≡ weight f p trees.far (node_by s h.content y z) = ap (λ (u : Tree). weight f p trees.far u) h.is in
    let k = top.top in
    omega (arith, one, a, d, i, j, k)

pub weighs_twice : (p q r : Pool) (s : Side) (c : Content) (trees : Pair) (m : ℕ) → trees.far ≢ 0 → child_of p trees.far s ≢ 0 → IsStill p q → ((y z : Tree) → TreeStands p (child_of p trees.far s) y → TreeStands p (child_of p trees.far (other_side s)) z → height z < height y) → WeighsTurnedTwice c s trees m q r → WeighsFar c s trees m p r
weighs_twice p q r s c trees m some deep still high b f x t count top sx st =
    let h = shaped p trees.far s t some st in
    let z : Tree = h.far in
    let w = parts p trees.far s h.content h.near z (subst (TreeStands p trees.far) h.is st) in
    let g = shaped p (child_of p trees.far s) s h.near deep w.near in
    let is : t ≡ node_by s h.content (node_by s g.content g.near g.far) z = h.is ∙ ap (λ (o : Tree). node_by s h.content o z) g.is in
    let st' : TreeStands p trees.far (node_by s h.content (node_by s g.content g.near g.far) z) = subst (TreeStands p trees.far) is st in
    let taller : height z < height (node_by s g.content g.near g.far) = subst (λ (o : Tree). height z < height o) g.is (high h.near z w.near w.far) in
    let e : from_far s c x t ≡ node_by s g.content (node_by s c x g.near) (node_by s h.content g.far z) = ap (from_far s c x) is ∙ far_double s c h.content g.content x g.near g.far z taller in
    let one = b f x g.near g.far z h.content g.content count (still.trees trees.near x sx) (still.trees trees.far _ st') in
    let a = weight_nodes f p q still.nodes trees.near x sx in
    let d = weight_nodes f p q still.nodes trees.far (node_by s h.content (node_by s g.content g.near g.far) z) st' in
    let i : weight f r m (from_far s c x t) ≡ weight f r m (node_by s g.content (node_by s c x g.near) (node_by s h.content g.far z)) = ap (λ (u : Tree). weight f r m u) e in
    let j : weight f p trees.far t ≡ weight f p trees.far (node_by s h.content (node_by s g.content g.near g.far) z) = ap (λ (u : Tree). weight f p trees.far u) is in
    let k = top.top in
    let l = top.high h.near z w.near w.far (high h.near z w.near w.far) in
    let o : f (child_of q trees.far s) ≡ f (child_of p trees.far s) = ap f (child_kept p q trees.far s still.nodes (node_of p trees.far some (t, st))) in
    omega (arith, one, a, d, i, j, k, l, o)

-- after calls that read
pub top_kept : (f : ℕ → ℕ) (p q : Pool) (s : Side) (b : ℕ) (t : Tree) → b ≢ 0 → TreeStands p b t → IsStill p q → CountsTop f p s b → CountsTop f q s b
top_kept f p q s b t some st still top =
    let h = shaped p b s t some st in
    let w = parts p b s h.content h.near h.far (subst (TreeStands p b) h.is st) in
    let node = node_of p b some (t, st) in
    let near : child_of q b s ≡ child_of p b s = child_kept p q b s still.nodes node in
    let far : child_of q b (other_side s) ≡ child_of p b (other_side s) = child_kept p q b (other_side s) still.nodes node in
    record {
      top = top.top;
      high =
          λ y z sy sz lt.
          (let ys : h.near ≡ y = stands_one q (child_of p b s) h.near y (still.trees _ h.near w.near) (subst (λ (k : ℕ). TreeStands q k y) near sy) in
          let zs : h.far ≡ z = stands_one q (child_of p b (other_side s)) h.far z (still.trees _ h.far w.far) (subst (λ (k : ℕ). TreeStands q k z) far sz) in
          let i : height h.near ≡ height y = ap height ys in
          let j : height h.far ≡ height z = ap height zs in
          ap f near ∙ top.high h.near h.far w.near w.far (omega (arith, i, j, lt)));
    }

-- ---- by the heights of two trees

pub some_high : (p : Pool) (b : ℕ) (t : Tree) → TreeStands p b t → 0 < height t → b ≢ 0
some_high p b t s tall e = absurd (let none = height_none p b t e s in omega (arith, none, tall))

pub weighs_far : (p q r : Pool) (s : Side) (c : Content) (trees : Pair) (m : ℕ) → IsStill p q → ((x y : Tree) → TreeStands p trees.near x → TreeStands p trees.far y → height x + 1 < height y) → WeighsFar c s trees m q r → WeighsJoined c s trees m p r
weighs_far p q r s c trees m still high b f x y count up down sx sy =
    let lt : height x + 1 < height y = high x y sx sy in
    let top = top_kept f p q s trees.far y (some_high p trees.far y sy (omega (arith, lt))) sy still (up lt) in
    let one = b f x y count top (still.trees trees.near x sx) (still.trees trees.far y sy) in
    let a = weight_nodes f p q still.nodes trees.near x sx in
    let d = weight_nodes f p q still.nodes trees.far y sy in
    let i : weight f r m (joined_by s c x y) ≡ weight f r m (from_far s c x y) = ap (λ (u : Tree). weight f r m u) (joined_far s c x y lt) in
    omega (arith, one, a, d, i)

pub weighs_near : (p q r : Pool) (s : Side) (c : Content) (trees : Pair) (m : ℕ) → IsStill p q → ((x y : Tree) → TreeStands p trees.near x → TreeStands p trees.far y → height y + 1 < height x) → WeighsFar c (other_side s) (record { near = trees.far; far = trees.near }) m q r → WeighsJoined c s trees m p r
weighs_near p q r s c trees m still high b f x y count up down sx sy =
    let lt : height y + 1 < height x = high x y sx sy in
    let top = top_kept f p q (other_side s) trees.near x (some_high p trees.near x sx (omega (arith, lt))) sx still (down lt) in
    let one = b f y x count top (still.trees trees.far y sy) (still.trees trees.near x sx) in
    let a = weight_nodes f p q still.nodes trees.near x sx in
    let d = weight_nodes f p q still.nodes trees.far y sy in
    let i : weight f r m (joined_by s c x y) ≡ weight f r m (from_far (other_side s) c y x) = ap (λ (u : Tree). weight f r m u) (joined_near s c x y lt) in
    omega (arith, one, a, d, i)

pub weighs_flat : (p q r : Pool) (s : Side) (c : Content) (trees : Pair) (m : Made) → IsStill p q → ((x y : Tree) → TreeStands p trees.near x → TreeStands p trees.far y → (height x ≤ height y + 1) × (height y ≤ height x + 1)) → IsLinked c s trees m q r → WeighsJoined c s trees m.block p r
weighs_flat p q r s c trees m still flat b f x y count up down sx sy =
    let h = flat x y sx sy in
    let one = weigh_link f x y b (still.trees trees.near x sx) (still.trees trees.far y sy) in
    let a = weight_nodes f p q still.nodes trees.near x sx in
    let d = weight_nodes f p q still.nodes trees.far y sy in
    let n = count m.block in
    let i : weight f r m.block (joined_by s c x y) ≡ weight f r m.block (node_by s c x y) = ap (λ (u : Tree). weight f r m.block u) (joined_flat s c x y h.0 h.1) in
    omega (arith, one, a, d, i, n)

-- ---- what single and double turns read before they build

pub fresh_read : {p q : Pool} (o : Result Made Stop) → IsStill p q → IfOk o (IsFresh q) → IfOk o (IsFresh p)
fresh_read (Ok m) still h = sym (still.lives m.block) ∙ h
fresh_read (Err e) still h = tt

pub weighs_single : (p q r : Pool) (s : Side) (c top : Content) (trees grand : Pair) (m : ℕ) → IsStill p q → top.key ≡ word_of p (Body trees.far 2) → top.number ≡ word_of p (Body trees.far 3) → grand.near ≡ child_of p trees.far s → grand.far ≡ child_of p trees.far (other_side s)
    → WeighsRaised top s (record { content = c; trees = record { near = trees.near; far = grand.near } }) grand.far m q r → WeighsTurned c s trees m p r
weighs_single p q r s c top trees grand m still key number near_is far_is b f x y z d count sx sn =
    let w = parts p trees.far s d y z sn in
    let is : top ≡ d = content_is (key ∙ w.key) (number ∙ w.number) in
    let sy : TreeStands p grand.near y = subst (λ (k : ℕ). TreeStands p k y) (sym near_is) w.near in
    let sz : TreeStands p grand.far z = subst (λ (k : ℕ). TreeStands p k z) (sym far_is) w.far in
    let one = b f x y z count (still.trees trees.near x sx) (still.trees grand.near y sy) (still.trees grand.far z sz) in
    let a = weight_nodes f p q still.nodes trees.near x sx in
    let e = weight_nodes f p q still.nodes grand.near y sy in
    let g = weight_nodes f p q still.nodes grand.far z sz in
    let h = weigh_sides f p trees.far s d y z in
    let i : weight f p grand.near y ≡ weight f p (child_of p trees.far s) y = ap (λ (k : ℕ). weight f p k y) near_is in
    let j : weight f p grand.far z ≡ weight f p (child_of p trees.far (other_side s)) z = ap (λ (k : ℕ). weight f p k z) far_is in
    let k : weight f r m (node_by s top (node_by s c x y) z) ≡ weight f r m (node_by s d (node_by s c x y) z) = ap (λ (o : Content). weight f r m (node_by s o (node_by s c x y) z)) is in
    omega (arith, one, a, e, g, h, i, j, k)

pub weighs_double : (p t u v r : Pool) (s : Side) (c top outer : Content) (trees grand pair : Pair) (m : ℕ) → IsStill p t → IsStill t u → IsStill p v → grand.near ≢ 0 → top.key ≡ word_of p (Body grand.near 2) → top.number ≡ word_of p (Body grand.near 3) → pair.near ≡ child_of t grand.near s → pair.far ≡ child_of t grand.near (other_side s)
    → outer.key ≡ word_of u (Body trees.far 2) → outer.number ≡ word_of u (Body trees.far 3) → grand.near ≡ child_of p trees.far s → grand.far ≡ child_of p trees.far (other_side s)
    → WeighsCrowned top s (record { content = c; trees = record { near = trees.near; far = pair.near } }) (record { content = outer; trees = record { near = grand.far; far = pair.far } }) m v r → WeighsTurnedTwice c s trees m p r
weighs_double p t u v r s c top outer trees grand pair m pt tu pv some key number near far okey onumber near_is far_is b f x y z w d e count sx sn =
    let up = parts p trees.far s d (node_by s e y z) w sn in
    let sg : TreeStands p grand.near (node_by s e y z) = subst (λ (k : ℕ). TreeStands p k (node_by s e y z)) (sym near_is) up.near in
    let sw : TreeStands p grand.far w = subst (λ (k : ℕ). TreeStands p k w) (sym far_is) up.far in
    let here = parts p grand.near s e y z sg in
    let top_is : top ≡ e = content_is (key ∙ here.key) (number ∙ here.number) in
    let node = node_of p grand.near some (node_by s e y z, sg) in
    let near_p : pair.near ≡ child_of p grand.near s = near ∙ child_kept p t grand.near s pt.nodes node in
    let far_p : pair.far ≡ child_of p grand.near (other_side s) = far ∙ child_kept p t grand.near (other_side s) pt.nodes node in
    let sy : TreeStands p pair.near y = subst (λ (k : ℕ). TreeStands p k y) (sym near_p) here.near in
    let sz : TreeStands p pair.far z = subst (λ (k : ℕ). TreeStands p k z) (sym far_p) here.far in
    let out = parts u trees.far s d (node_by s e y z) w (tu.trees trees.far _ (pt.trees trees.far _ sn)) in
    let outer_is : outer ≡ d = content_is (okey ∙ out.key) (onumber ∙ out.number) in
    let one = b f x y w z count (pv.trees trees.near x sx) (pv.trees pair.near y sy) (pv.trees grand.far w sw) (pv.trees pair.far z sz) in
    let a = weight_nodes f p v pv.nodes trees.near x sx in
    let a' = weight_nodes f p v pv.nodes pair.near y sy in
    let a'' = weight_nodes f p v pv.nodes grand.far w sw in
    let a''' = weight_nodes f p v pv.nodes pair.far z sz in
    let h = weigh_sides f p trees.far s d (node_by s e y z) w in
    let h' = weigh_sides f p (child_of p trees.far s) s e y z in
    let i : weight f p pair.near y ≡ weight f p (child_of p (child_of p trees.far s) s) y = ap (λ (k : ℕ). weight f p k y) (near_p ∙ ap (λ (k : ℕ). child_of p k s) near_is) in
    let i' : weight f p pair.far z ≡ weight f p (child_of p (child_of p trees.far s) (other_side s)) z = ap (λ (k : ℕ). weight f p k z) (far_p ∙ ap (λ (k : ℕ). child_of p k (other_side s)) near_is) in
    let i'' : weight f p grand.far w ≡ weight f p (child_of p trees.far (other_side s)) w = ap (λ (k : ℕ). weight f p k w) far_is in
    let tree : node_by s top (node_by s c x y) (node_by (other_side s) outer w z) ≡ node_by s e (node_by s c x y) (node_by s d z w) =
    ap (λ (o : Tree). node_by s top (node_by s c x y) o) (node_other s outer w z)
    ∙ (ap (λ (o : Content). node_by s top (node_by s c x y) (node_by s o z w)) outer_is ∙ ap (λ (o : Content). node_by s o (node_by s c x y) (node_by s d z w)) top_is) in
    let k : weight f r m (node_by s top (node_by s c x y) (node_by (other_side s) outer w z)) ≡ weight f r m (node_by s e (node_by s c x y) (node_by s d z w)) = ap (λ (o : Tree). weight f r m o) tree in
    omega (arith, one, a, a', a'', a''', h, h', i, i', i'', k)

-- ---- a node made again, whose lower tree's root was dropped

pub weighs_after : (p q r : Pool) (s : Side) (c : Content) (trees others : Pair) (m : ℕ) → IsStill p q → others.near ≡ trees.near → others.far ≡ trees.far → WeighsJoined c s others m q r → WeighsJoined c s trees m p r
weighs_after p q r s c trees others m still near far b f x y count up down sx sy =
    let qx : TreeStands q others.near x = subst (λ (k : ℕ). TreeStands q k x) (sym near) (still.trees trees.near x sx) in
    let qy : TreeStands q others.far y = subst (λ (k : ℕ). TreeStands q k y) (sym far) (still.trees trees.far y sy) in
    let one =
    b f x y count
    (λ lt. subst (CountsTop f q s) (sym far) (top_kept f p q s trees.far y (some_high p trees.far y sy (omega (arith, lt))) sy still (up lt)))
    (λ lt. subst (CountsTop f q (other_side s)) (sym near) (top_kept f p q (other_side s) trees.near x (some_high p trees.near x sx (omega (arith, lt))) sx still (down lt)))
    qx qy in
    let a : weight f q others.near x ≡ weight f p trees.near x = ap (λ (k : ℕ). weight f q k x) near ∙ weight_nodes f p q still.nodes trees.near x sx in
    let d : weight f q others.far y ≡ weight f p trees.far y = ap (λ (k : ℕ). weight f q k y) far ∙ weight_nodes f p q still.nodes trees.far y sy in
    omega (arith, one, a, d)

pub over_after : (p q r : Pool) (s : Side) (trees others : Pair) (m : ℕ) → IsStill p q → others.near ≡ trees.near → others.far ≡ trees.far → IsOver others s m q r → IsOver trees s m p r
over_after p q r s trees others m still near far b x y sx sy n =
    b x y (subst (λ (k : ℕ). TreeStands q k x) (sym near) (still.trees trees.near x sx)) (subst (λ (k : ℕ). TreeStands q k y) (sym far) (still.trees trees.far y sy)) n ∙ near

side_kept : {p q : Pool} {b k n h : ℕ} (s : Side) → KeepsNode p q b k n h → child_of q b s ≡ child_of p b s
side_kept Left y = y.left
side_kept Right y = y.right

module _ (p q r : Pool) (n : ℕ) (w m : Made) (held : IsHeld p w) (b : IsBuilt n m p q) (gone : IsEmptied w.root q r) (left : IsDropped w.root q r) (work : IsWorking r) where
  ne : m.root ≢ w.root
  ne e = held.some (sym held.names ∙ (ap (root_block p) (sym e) ∙ b.rooted.empty))

  named : root_block r m.root ≡ m.block
  named = gone.others m.root ne ∙ b.rooted.names

  module _ (s : Side) (c : Content) (trees : Pair) (stands : StandsOf (joined_by s c) trees m.block p q) where
    pub renewed_weighs : WeighsJoined c s trees m.block p q → WeighsJoined c s trees m.block p r
    renewed_weighs a f x y count up down sx sy =
        let one = a f x y count up down sx sy in
        let top = weight_root w.root q r work left f (joined_by s c x y) m.root m.block named (stands x y sx sy) in
        omega (arith, one, top)

    pub renewed_top : IsOver trees s m.block p q → IsOver trees s m.block p r
    renewed_top a x y sx sy near =
        let node = node_of q m.block b.some (joined_by s c x y, stands x y sx sy) in
        let kept = node_root w.root q r work left m.root m.block node.0 node.1 node.2 named node.3 in
        side_kept s kept ∙ a x y sx sy near
