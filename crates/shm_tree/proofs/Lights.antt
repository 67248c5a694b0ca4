-- How few blocks of a tree in which a number is set are others, level by level from the key's place up.
use Rattle.std.proofs.Common.{◌≡◌, ◌==◌, ℕ, ◌+◌, ◌<◌, ◌≤◌, ◌||◌, not, nat_lt, cond, Bool, true, false, refl, sym, ap, ◌∙◌, subst, arith, inl, inr, ◌⊎◌, true≢false}
use Rattle.std.proofs.lemmas.Bool.{cases_Bool, cases_eq, eq-eqb, ne_eqb}
use Rattle.std.specs.Prelude.{None}
use Rattle.shm_graph.specs.{References.one_if, declared.spot.Spot.TheVariants.Body}
use Rattle.shm_plain.specs.Pools.{Pool}
use Rattle.shm_tree.specs.declared.node.{Content.Content, Side.{Side, TheVariants.{Left, Right}}}
use Rattle.shm_tree.specs.Building.{KeepsBlocks, joined_by}
use Rattle.shm_tree.specs.Inserting.{IsRegistered, is_part, left_of, outside, right_of}
use Rattle.shm_tree.specs.{Keeping.{child_of, is_live, node_by, other_side}, Raising.{IsOverAt, WeighsAgain, side_of}}
use Rattle.shm_tree.specs.{Sharing.{CountsTop, IsCount}, Standing.{TreeStands, weight, word_of}}
use Rattle.shm_tree.specs.Trees.{Tree, Empty, Node, IsBalanced, IsSearch, height, inserted}
use Rattle.shm_tree.specs.Ways.{IsEnd, IsOther, toward}
use Rattle.shm_tree.proofs.{Answering.height_none, Costs.away, Growing.{end_grew, grew_level, level_heights}}
use Rattle.shm_tree.proofs.{Inserting.inserted_up, Rotations.{joined_flat, other_twice, parts}, Ways.stands_one}
use Rattle.shm_tree.proofs.Weights.{weight_none}

-- ---- the blocks of a tree that stood

pub or_true : (a b : Bool) → b ≡ true → (a || b) ≡ true
or_true true b e = refl
or_true false b e = e

pub or_first : (a b : Bool) → a ≡ true → (a || b) ≡ true
or_first true b e = refl
or_first false b e = absurd (true≢false (sym e))

none_inside : (f : ℕ → ℕ) (p : Pool) (b : ℕ) (t : Tree) → ((z : ℕ) → is_part p z b t ≡ true → f z ≡ 0) → weight f p b t ≡ 0
none_inside f p b Empty h = refl
none_inside f p b (Node k n l r) h =
    let here = h b (or_first (b == b) (is_part p b (word_of p (Body b 0)) l || is_part p b (word_of p (Body b 1)) r) (eq-eqb b b refl)) in
    let left = none_inside f p (word_of p (Body b 0)) l (λ z e. h z (or_true (z == b) (is_part p z (word_of p (Body b 0)) l || is_part p z (word_of p (Body b 1)) r) (or_first (is_part p z (word_of p (Body b 0)) l) (is_part p z (word_of p (Body b 1)) r) e))) in
    let right = none_inside f p (word_of p (Body b 1)) r (λ z e. h z (or_true (z == b) (is_part p z (word_of p (Body b 0)) l || is_part p z (word_of p (Body b 1)) r) (or_true (is_part p z (word_of p (Body b 0)) l) (is_part p z (word_of p (Body b 1)) r) e))) in
    omega (arith, here, left, right)

pub outside_none : (p : Pool) (b : ℕ) (t : Tree) → weight (outside p b t) p b t ≡ 0
outside_none p b t = none_inside (outside p b t) p b t (λ z e. ap (λ (c : Bool). one_if (not c)) e)

one_most : (c : Bool) → one_if c ≤ 1
one_most true = omega arith
one_most false = omega arith

pub outside_count : (p : Pool) (b : ℕ) (t : Tree) → IsCount (outside p b t)
outside_count p b t z = one_most (not (is_part p z b t))

-- how often a block is a node of it
abbrev pub once : ℕ → ℕ → ℕ
once z b = one_if (z == b)

pub either : (a b : Bool) → (a || b) ≡ true → (a ≡ true) ⊎ (b ≡ true)
either true b e = inl refl
either false b e = inr e

pub part_weighs : (p : Pool) (z b : ℕ) (t : Tree) → is_part p z b t ≡ true → 0 < weight (once z) p b t
part_weighs p z b Empty e = absurd (true≢false (sym e))
part_weighs p z b (Node k n l r) e =
    elim (either (z == b) (is_part p z (word_of p (Body b 0)) l || is_part p z (word_of p (Body b 1)) r) e) [
      | inl y ↦ (let one : once z b ≡ 1 = ap one_if y in omega (arith, one))
      | inr y ↦ elim (either (is_part p z (word_of p (Body b 0)) l) (is_part p z (word_of p (Body b 1)) r) y) [
        | inl x ↦ (let i = part_weighs p z (word_of p (Body b 0)) l x in omega (arith, i))
        | inr x ↦ (let i = part_weighs p z (word_of p (Body b 1)) r x in omega (arith, i))
      ]
    ]

pub weighs_live : (q : Pool) (z b : ℕ) (t : Tree) → TreeStands q b t → 0 < weight (once z) q b t → is_live q z ≡ true
weighs_live q z b Empty s h = absurd (omega (arith, h))
weighs_live q z b (Node k n l r) s h =
    elim (cases_eq z b) [
      | inl e ↦ ap (is_live q) e ∙ s.0.live
      | inr ne ↦ elim (cases_eq (weight (once z) q (word_of q (Body b 0)) l) 0) [
        | inr some ↦ weighs_live q z (word_of q (Body b 0)) l s.1 (omega (arith, some))
        | inl none ↦ (let zero_here : once z b ≡ 0 = ap one_if (ne_eqb z b ne) in weighs_live q z (word_of q (Body b 1)) r s.2 (omega (arith, h, none, zero_here)))
      ]
    ]

-- a block that isn't live once the tree's blocks are as they were is none of them
pub outside_new : (p q : Pool) (z b : ℕ) (t : Tree) → ((f : ℕ → ℕ) → weight f q b t ≡ weight f p b t) → TreeStands q b t → is_live q z ≡ false → outside p b t z ≡ 1
outside_new p q z b t same s dead =
    elim (cases_Bool (is_part p z b t)) [
      | inr e ↦ ap (λ (c : Bool). one_if (not c)) e
      | inl e ↦ absurd (true≢false (sym (weighs_live q z b t s (let i = part_weighs p z b t e in let j = same (once z) in omega (arith, i, j))) ∙ dead))
    ]

-- the blocks of a tree that a root names, once another was built
pub registered_same : {p : Pool} {b : ℕ} (q : Pool) (t : Tree) → IsRegistered p b → KeepsBlocks p q → TreeStands p b t → (f : ℕ → ℕ) → weight f q b t ≡ weight f p b t
registered_same {p = p} {b = b} q t g h s f =
    elim (cases_eq b 0) [
      | inl e ↦ weight_none f p q b t e s
      | inr d ↦ (let k = g.named d in subst (λ (d : ℕ). weight f q d t ≡ weight f p d t) k.2 (h f k.0 t k.1 (subst (λ (d : ℕ). TreeStands p d t) (sym k.2) s)))
    ]

-- ---- one level

by_light : (f : ℕ → ℕ) (w : Pool) (node k n : ℕ) (l r : Tree) (b : Bool) → weight f w (child_of w node (other_side (cond b Left Right))) (cond b r l) ≤ weight f w node (Node k n l r)
by_light f w node k n l r true = omega arith
by_light f w node k n l r false = omega arith

pub level_few : {w : Pool} (v : Pool) (f : ℕ → ℕ) (x y node low m i : ℕ) (t : Tree) → IsCount f → IsOther x t → IsSearch t → IsBalanced t → TreeStands w node t → TreeStands w low (inserted x y (toward x t)) → weight f w node t ≡ 0 → weight f w low (inserted x y (toward x t)) ≤ i
    → (height (inserted x y (toward x t)) ≡ height (toward x t) + 1 → (s : Side) → CountsTop f w s low) → WeighsAgain x None node low m w v → weight f v m (inserted x y t) ≤ 1 + i
level_few v f x y node low m i Empty count o s h here under none few tops b = absurd o
level_few {w = w} v f x y node low m i (Node k n l r) count o s h here under none few tops b =
    let t : Tree = Node k n l r in
    let u : Tree = inserted x y (toward x t) in
    let hs = level_heights x y t o s h in
    let one = b f k n l r u count here under (λ lt. tops (hs.1 lt) (other_side (side_of x k))) hs.0 in
    let is : weight f v m (inserted x y t) ≡ weight f v m (joined_by (side_of x k) (record { key = k; number = n }) u (cond (nat_lt x k) r l)) = ap (λ (a : Tree). weight f v m a) (inserted_up x y k n l r o) in
    let light = by_light f w node k n l r (nat_lt x k) in
    omega (arith, one, is, light, none, few)

same_side : (a b : Side) → (a ≡ b) ⊎ (a ≡ other_side b)
same_side Left Left = inl refl
same_side Left Right = inr refl
same_side Right Left = inr refl
same_side Right Right = inl refl

pub level_tops : {w v : Pool} (f : ℕ → ℕ) (x y node low m : ℕ) (t : Tree) → IsOther x t → IsSearch t → IsBalanced t → TreeStands w node t → TreeStands w low (inserted x y (toward x t)) → f low ≡ 1 → f m ≡ 1 → TreeStands v m (inserted x y t) → IsOverAt x node low m w v → height (inserted x y t) ≡ height t + 1 → (s : Side) → CountsTop f v s m
level_tops f x y node low m Empty o se h here under one new st over grew side = absurd o
level_tops {w = w} {v = v} f x y node low m (Node k n l r) o se h here under one new st over grew side =
    let t : Tree = Node k n l r in
    let u : Tree = inserted x y (toward x t) in
    let other : Tree = away x t in
    let s : Side = side_of x k in
    let c : Content = record { key = k; number = n } in
    let g = grew_level x y t o se h grew in
    let higher = g.1 in
    let child : child_of v m s ≡ low = over k n l r u here under g.2 in
    let is : inserted x y t ≡ node_by s c u other = inserted_up x y k n l r o ∙ joined_flat s c u other g.2.left g.2.right in
    let w' = parts v m s c u other (subst (TreeStands v m) is st) in
    record {
      top = new;
      high =
          λ a b sa sb lt. elim (same_side side s) [
            | inl e ↦ ap (λ (o : Side). f (child_of v m o)) e ∙ (ap f child ∙ one)
            | inr e ↦
                (let far : a ≡ other = stands_one v (child_of v m (other_side s)) a other (subst (λ (o : Side). TreeStands v (child_of v m o) a) e sa) w'.far in
                let near : b ≡ u = stands_one v (child_of v m s) b u (subst (λ (o : Side). TreeStands v (child_of v m o) b) (ap other_side e ∙ other_twice s) sb) w'.near in
                let i : height a ≡ height other = ap height far in
                let j : height b ≡ height u = ap height near in
                absurd (omega (arith, i, j, lt, higher)))
          ];
    }

-- ---- the lowest level

pub trees_light : (f : ℕ → ℕ) (p : Pool) (node near far : ℕ) (t : Tree) → near ≡ child_of p node Left → far ≡ child_of p node Right → weight f p near (left_of t) + weight f p far (right_of t) ≤ weight f p node t
trees_light f p node near far Empty e d = omega arith
trees_light f p node near far (Node k n l r) e d =
    let a : weight f p near l ≡ weight f p (word_of p (Body node 0)) l = ap (λ (z : ℕ). weight f p z l) e in
    let b : weight f p far r ≡ weight f p (word_of p (Body node 1)) r = ap (λ (z : ℕ). weight f p z r) d in
    omega (arith, a, b)

pub none_light : (f : ℕ → ℕ) (p : Pool) (node : ℕ) (t : Tree) → node ≡ 0 → TreeStands p node t → weight f p 0 (left_of t) + weight f p 0 (right_of t) ≤ weight f p node t
none_light f p node Empty e s = omega arith
none_light f p node (Node k n l r) e s = absurd (s.0.some e)

leaf_tops : (f : ℕ → ℕ) (q : Pool) (x y m : ℕ) → f m ≡ 1 → TreeStands q m (Node x y Empty Empty) → (s : Side) → CountsTop f q s m
leaf_tops f q x y m new st Left = record { top = new; high = λ a b sa sb lt. absurd (let none = height_none q (child_of q m Left) a st.1 sa in omega (arith, none, lt)) }
leaf_tops f q x y m new st Right = record { top = new; high = λ a b sa sb lt. absurd (let none = height_none q (child_of q m Right) a st.2 sa in omega (arith, none, lt)) }

pub lowest_tops : (f : ℕ → ℕ) (q : Pool) (x y m : ℕ) (t : Tree) → IsEnd x t → f m ≡ 1 → TreeStands q m (inserted x y t) → height (inserted x y t) ≡ height t + 1 → (s : Side) → CountsTop f q s m
lowest_tops f q x y m t end new st grew s = leaf_tops f q x y m new (subst (λ (u : Tree). TreeStands q m (inserted x y u)) (end_grew x y t end grew) st) s
