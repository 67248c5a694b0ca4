-- What calls keep of the blocks of trees, and how many blocks of a tree that was built are others.
use Rattle.std.proofs.Common.{◌≡◌, ◌≢◌, ℕ, ◌+◌, false, refl, sym, ap, ◌∙◌, subst, arith, inl, inr, true≢false}
use Rattle.std.proofs.lemmas.Bool.{cases_eq}
use Rattle.shm_graph.specs.declared.spot.Spot.{Spot, TheVariants.{Body, Root}}
use Rattle.shm_graph.proofs.States.Holders.{target_counted}
use Rattle.shm_plain.specs.Pools.{Pool}
use Rattle.shm_count.specs.declared.answer.Made.{Made}
use Rattle.shm_tree.specs.declared.node.{Content.Content, Pair.Pair, Side.{Side, TheVariants.{Left, Right}}}
use Rattle.shm_tree.specs.Building.{IsCut, KeepsBlocks, root_block}
use Rattle.shm_tree.specs.Keeping.{IsBorn, IsDropped, IsLinked, KeepsNode, KeepsNodes, child_of, is_live, node_by, other_side}
use Rattle.shm_tree.specs.{Standing.{IsNode, TreeStands, weight, word_of}, Trees.{Tree, Empty, Node}}
use Rattle.shm_tree.specs.Working.{IsEmptied, IsWorking}
use Rattle.shm_tree.proofs.Nodes.{IsCalm, body_names, calm_first, calm_held, names, root_is, root_names, working_calm}

-- ---- trees whose nodes are as they were

pub weight_nodes : (f : ℕ → ℕ) (p q : Pool) → KeepsNodes p q → (b : ℕ) (t : Tree) → TreeStands p b t → weight f q b t ≡ weight f p b t
weight_nodes f p q keep b Empty s = refl
weight_nodes f p q keep b (Node k n l r) s =
    let y = keep b k n _ s.0 in
    let left : weight f q (word_of q (Body b 0)) l ≡ weight f p (word_of p (Body b 0)) l = ap (λ (z : ℕ). weight f q z l) y.left ∙ weight_nodes f p q keep (word_of p (Body b 0)) l s.1 in
    let right : weight f q (word_of q (Body b 1)) r ≡ weight f p (word_of p (Body b 1)) r = ap (λ (z : ℕ). weight f q z r) y.right ∙ weight_nodes f p q keep (word_of p (Body b 1)) r s.2 in
    omega (arith, left, right)

pub weight_none : (f : ℕ → ℕ) (p q : Pool) (b : ℕ) (t : Tree) → b ≡ 0 → TreeStands p b t → weight f q b t ≡ weight f p b t
weight_none f p q b Empty e s = refl
weight_none f p q b (Node k n l r) e s = absurd (s.0.some e)

pub blocks_nodes : {p q : Pool} → KeepsNodes p q → KeepsBlocks p q
blocks_nodes {p = p} {q = q} keep f j t low st = weight_nodes f p q keep (root_block p j) t st

-- ---- what a dropped root leaves

module _ (k : ℕ) (p q : Pool) (work : IsWorking q) (d : IsDropped k p q) where
  calm : IsCalm q
  calm = working_calm q work

  -- a node that a word names
  pub node_left : (b i n h : ℕ) (s : Spot) → names q s ≡ b → IsNode p b i n h → KeepsNode p q b i n h
  node_left b i n h s e y =
      let held = calm_held q calm in
      let c = target_counted q.start.geometry _ _ held s b y.some e in
      d.nodes b i n h c.0 (λ x. c.1 ((held.dying 0 (calm_first q calm)).listed b x).1) y

  weight_left : (f : ℕ → ℕ) (t : Tree) (b : ℕ) (s : Spot) → names q s ≡ b → TreeStands p b t → weight f q b t ≡ weight f p b t
  weight_left f Empty b s e y = refl
  weight_left f (Node i n l r) b s e y =
      let kept = node_left b i n _ s e y.0 in
      let two = kept.node.refs in
      let left : weight f q (word_of q (Body b 0)) l ≡ weight f p (word_of p (Body b 0)) l =
      weight_left f l (word_of q (Body b 0)) (Body b 0) (body_names q calm b 0 kept.node.live (omega (arith, two))) (subst (λ (z : ℕ). TreeStands p z l) (sym kept.left) y.1) ∙ ap (λ (z : ℕ). weight f p z l) kept.left in
      let right : weight f q (word_of q (Body b 1)) r ≡ weight f p (word_of p (Body b 1)) r =
      weight_left f r (word_of q (Body b 1)) (Body b 1) (body_names q calm b 1 kept.node.live (omega (arith, two))) (subst (λ (z : ℕ). TreeStands p z r) (sym kept.right) y.2) ∙ ap (λ (z : ℕ). weight f p z r) kept.right in
      omega (arith, left, right)

  spot_names : (j b : ℕ) → root_block q j ≡ b → names q (Root 0 j) ≡ b
  spot_names j b e = root_names q calm j ∙ (sym (root_is q calm j) ∙ e)

  -- a tree that a root names
  pub weight_root : (f : ℕ → ℕ) (t : Tree) (j b : ℕ) → root_block q j ≡ b → TreeStands p b t → weight f q b t ≡ weight f p b t
  weight_root f t j b e y = weight_left f t b (Root 0 j) (spot_names j b e) y

  pub node_root : (j b i n h : ℕ) → root_block q j ≡ b → IsNode p b i n h → KeepsNode p q b i n h
  node_root j b i n h e y = node_left b i n h (Root 0 j) (spot_names j b e) y

-- ---- one call after another

pub blocks_then : {n : ℕ} {p q : Pool} (r : Pool) → IsCut n p q → KeepsBlocks q r → KeepsBlocks p r
blocks_then {p = p} {q = q} r cut b f j t low st = elim (cases_eq (root_block p j) 0) [
  | inl e ↦ weight_none f p r (root_block p j) t e st
  | inr ne ↦
      let same : root_block q j ≡ root_block p j = cut.roots j ne in
      let there : TreeStands q (root_block q j) t = subst (λ (d : ℕ). TreeStands q d t) (sym same) (cut.trees j t low st) in
      subst (λ (d : ℕ). weight f r d t ≡ weight f q d t) same (b f j t low there) ∙ cut.blocks f j t low st
]

pub blocks_dropped : {n k : ℕ} {p q r : Pool} → root_block p k ≡ 0 → IsCut n p q → IsEmptied k q r → IsDropped k q r → IsWorking r → KeepsBlocks p r
blocks_dropped {k = k} {p = p} {q = q} {r = r} none cut gone left work f j t low st = elim (cases_eq (root_block p j) 0) [
  | inl e ↦ weight_none f p r (root_block p j) t e st
  | inr some ↦
      let ne : j ≢ k = λ e. some (ap (root_block p) e ∙ none) in
      let root : root_block r j ≡ root_block p j = gone.others j ne ∙ cut.roots j some in
      weight_root k q r work left f t j (root_block p j) root (cut.trees j t low st) ∙ cut.blocks f j t low st
]

-- a block that wasn't live once another was made wasn't so before
pub fresh_under : {low : Made} {p q : Pool} (b : ℕ) → IsBorn low p q → is_live q b ≡ false → is_live p b ≡ false
fresh_under {low = low} {q = q} b h e = sym (h.lives b (λ is. true≢false (sym h.live ∙ (ap (is_live q) (sym is) ∙ e)))) ∙ e

-- ---- nodes by sides

pub weigh_sides : (f : ℕ → ℕ) (p : Pool) (b : ℕ) (s : Side) (c : Content) (x y : Tree) → weight f p b (node_by s c x y) ≡ f b + weight f p (child_of p b s) x + weight f p (child_of p b (other_side s)) y
weigh_sides f p b Left c x y = refl
weigh_sides f p b Right c x y = omega arith

-- a node that was linked
pub weigh_link : {c : Content} {s : Side} {trees : Pair} {m : Made} {p q : Pool} (f : ℕ → ℕ) (x y : Tree) → IsLinked c s trees m p q → TreeStands p trees.near x → TreeStands p trees.far y → weight f q m.block (node_by s c x y) ≡ f m.block + weight f p trees.near x + weight f p trees.far y
weigh_link {c = c} {s = s} {trees = trees} {m = m} {p = p} {q = q} f x y l sx sy =
    let all = weigh_sides f q m.block s c x y in
    let near : weight f q (child_of q m.block s) x ≡ weight f p trees.near x = ap (λ (z : ℕ). weight f q z x) l.near ∙ weight_nodes f p q l.born.nodes trees.near x sx in
    let far : weight f q (child_of q m.block (other_side s)) y ≡ weight f p trees.far y = ap (λ (z : ℕ). weight f q z y) l.far ∙ weight_nodes f p q l.born.nodes trees.far y sy in
    omega (arith, all, near, far)
