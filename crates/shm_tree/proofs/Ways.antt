-- Ways down a tree that stands in the words of a pool.
use Rattle.std.proofs.Common.{◌≡◌, ◌≢◌, ℕ, zero, suc, ◌+◌, ◌<◌, ◌≤◌, max, Bool, true, false, cond, Some, None, nat_lt, ◌==◌, if◌then◌else◌, refl, sym, ap, subst, ◌∙◌, arith}
use Rattle.std.proofs.lemmas.Bool.{eq-eqb, ne_eqb}
use Rattle.shm_graph.specs.declared.spot.Spot.TheVariants.{Body}
use Rattle.shm_plain.specs.Pools.{Pool}
use Rattle.shm_tree.specs.{declared.node.Side.TheVariants.{Left, Right}, Keeping.{HasNode, child_of}}
use Rattle.shm_tree.specs.{Standing.{IsTree, TreeStands, weight, word_of}, Trees.{Tree, Empty, Node, found, height}}
use Rattle.shm_tree.specs.Ways.{IsDeep, IsEnd, IsOther, IsSome, down, toward}

-- what stands at a block is one tree
pub stands_one : (p : Pool) (b : ℕ) (t u : Tree) → TreeStands p b t → TreeStands p b u → t ≡ u
stands_one p b Empty Empty h k = refl
stands_one p b Empty (Node i n l r) h (m, kl, kr) = absurd (m.some h)
stands_one p b (Node i n l r) Empty (m, hl, hr) k = absurd (m.some k)
stands_one p b (Node i n l r) (Node i' n' l' r') (m, hl, hr) (m', kl, kr) =
    let ei : i ≡ i' = sym m.key ∙ m'.key in
    let en : n ≡ n' = sym m.number ∙ m'.number in
    let el : l ≡ l' = stands_one p (word_of p (Body b 0)) l l' hl kl in
    let er : r ≡ r' = stands_one p (word_of p (Body b 1)) r r' hr kr in
    λ j. Node (ei j) (en j) (el j) (er j)

-- and so what is known of it
pub tree_is : (p : Pool) (b : ℕ) (t u : Tree) → IsTree p b t → TreeStands p b u → IsTree p b u
tree_is p b t u h s = subst (IsTree p b) (stands_one p b t u h.stands s) h

-- a node stands at a block
pub other_block : (p : Pool) (b x : ℕ) (t : Tree) → IsOther x t → TreeStands p b t → b ≢ 0
other_block p b x Empty o s = absurd o
other_block p b x (Node k n l r) o s = s.0.some

-- where a block is one a node is there
pub stands_node : (p : Pool) (b : ℕ) (t : Tree) → TreeStands p b t → b ≢ 0 → (HasNode p b) × IsSome t
stands_node p b Empty h some = absurd (some h)
stands_node p b (Node k n l r) (m, hl, hr) some = ((k, n, height (Node k n l r), m), tt)

pub some_node : (p : Pool) (b : ℕ) (t : Tree) → TreeStands p b t → IsSome t → HasNode p b
some_node p b Empty h some = absurd some
some_node p b (Node k n l r) (m, hl, hr) some = (k, n, height (Node k n l r), m)

pub stands_none : (p : Pool) (b : ℕ) (t : Tree) → TreeStands p b t → b ≡ 0 → t ≡ Empty
stands_none p b Empty h none = refl
stands_none p b (Node k n l r) (m, hl, hr) none = absurd (m.some none)

-- ---- one node further down

child_by : (p : Pool) (b : ℕ) (c : Bool) (l r : Tree) → TreeStands p (word_of p (Body b 0)) l → TreeStands p (word_of p (Body b 1)) r → TreeStands p (child_of p b (cond c Left Right)) (cond c l r)
child_by p b true l r hl hr = hl
child_by p b false l r hl hr = hr

pub toward_stands : (p : Pool) (b x k : ℕ) (t : Tree) → TreeStands p b t → IsSome t → k ≡ word_of p (Body b 2) → TreeStands p (child_of p b (cond (nat_lt x k) Left Right)) (toward x t)
toward_stands p b x k Empty h some e = absurd some
toward_stands p b x k (Node i n l r) (m, hl, hr) some e =
    let same : k ≡ i = e ∙ m.key in
    let P : ℕ → Type 0 = λ j. TreeStands p (child_of p b (cond (nat_lt x j) Left Right)) (toward x (Node i n l r)) in
    subst P (sym same) (child_by p b (nat_lt x i) l r hl hr)

by_light : (f : ℕ → ℕ) (p : Pool) (b k n : ℕ) (c : Bool) (l r : Tree) → weight f p (child_of p b (cond c Left Right)) (cond c l r) ≤ weight f p b (Node k n l r)
by_light f p b k n true l r = omega arith
by_light f p b k n false l r = omega arith

-- it has no other blocks
pub toward_light : (f : ℕ → ℕ) (p : Pool) (b x k : ℕ) (t : Tree) → TreeStands p b t → IsSome t → k ≡ word_of p (Body b 2) → weight f p (child_of p b (cond (nat_lt x k) Left Right)) (toward x t) ≤ weight f p b t
toward_light f p b x k Empty h some e = absurd some
toward_light f p b x k (Node i n l r) (m, hl, hr) some e =
    let same : k ≡ i = e ∙ m.key in
    let P : ℕ → Type 0 = λ j. weight f p (child_of p b (cond (nat_lt x j) Left Right)) (toward x (Node i n l r)) ≤ weight f p b (Node i n l r) in
    subst P (sym same) (by_light f p b i n (nat_lt x i) l r)

pub other_some : (x : ℕ) (t : Tree) → IsOther x t → IsSome t
other_some x Empty h = h
other_some x (Node k n l r) h = tt

-- the key that is read of the node of a tree is another one, or this one
pub key_other : (p : Pool) (b x k : ℕ) (t : Tree) → TreeStands p b t → IsSome t → k ≡ word_of p (Body b 2) → k ≢ x → IsOther x t
key_other p b x k Empty h some e ne = some
key_other p b x k (Node i n l r) (m, hl, hr) some e ne = λ same. ne (e ∙ m.key ∙ sym same)

pub key_end : (p : Pool) (b x k : ℕ) (t : Tree) → TreeStands p b t → k ≡ word_of p (Body b 2) → k ≡ x → IsEnd x t
key_end p b x k Empty h e same = tt
key_end p b x k (Node i n l r) (m, hl, hr) e same = sym same ∙ e ∙ m.key

-- ---- heights

either_height : (c : Bool) (l r : Tree) → height (cond c l r) ≤ max (height l) (height r)
either_height true l r = omega arith
either_height false l r = omega arith

pub toward_lower : (x : ℕ) (t : Tree) → IsSome t → height (toward x t) < height t
toward_lower x Empty some = absurd some
toward_lower x (Node k n l r) some = omega (arith, either_height (nat_lt x k) l r)

-- each node on the way takes from the height
pub down_lower : (x : ℕ) (t : Tree) (d : ℕ) → IsDeep x t d → d + height (down x t d) ≤ height t
down_lower x t zero deep = omega arith
down_lower x t (suc d) deep =
    let i = down_lower x t d (λ j lt. deep j (omega (arith, lt))) in
    let j = toward_lower x (down x t d) (deep d (omega arith)) in
    omega (arith, i, j)

-- the height that a word tells, or 0 where there is no node
abbrev pub height_at : Pool → ℕ → ℕ
height_at p b = if b == 0 then 0 else word_of p (Body b 4)

pub height_at_is : (p : Pool) (b : ℕ) (t : Tree) → TreeStands p b t → height_at p b ≡ height t
height_at_is p b Empty h = ap (height_at p) h
height_at_is p b (Node k n l r) (m, hl, hr) = rw (ne_eqb b 0 m.some) m.height

-- ---- what is found

either_found : (x : ℕ) (c : Bool) (l r : Tree) → cond c (found x l) (found x r) ≡ found x (cond c l r)
either_found x true l r = refl
either_found x false l r = refl

toward_found : (x : ℕ) (t : Tree) → IsOther x t → found x t ≡ found x (toward x t)
toward_found x Empty h = absurd h
toward_found x (Node k n l r) h = rw (ne_eqb x k h) (either_found x (nat_lt x k) l r)

-- what is found of a key is found further down on the way to it
pub down_found : (x : ℕ) (t : Tree) (d : ℕ) → ((i : ℕ) → i < d → IsOther x (down x t i)) → found x t ≡ found x (down x t d)
down_found x t zero on = refl
down_found x t (suc d) on = down_found x t d (λ i lt. on i (omega (arith, lt))) ∙ toward_found x (down x t d) (on d (omega arith))

-- where the way ends with no node nothing is found, and otherwise the number of the node
pub end_none : (p : Pool) (b x : ℕ) (t : Tree) → TreeStands p b t → b ≡ 0 → None ≡ found x t
end_none p b x t h none = ap (found x) (sym (stands_none p b t h none))

pub end_some : (p : Pool) (b x v : ℕ) (t : Tree) → TreeStands p b t → IsEnd x t → b ≢ 0 → v ≡ word_of p (Body b 3) → Some v ≡ found x t
end_some p b x v Empty h end some e = absurd (some h)
end_some p b x v (Node k n l r) (m, hl, hr) end some e = rw (eq-eqb x k end) (ap Some (e ∙ m.number))
