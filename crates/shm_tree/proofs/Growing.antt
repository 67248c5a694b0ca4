-- Where an insertion makes a tree higher: level by level, the tree that grew is then the higher one of its node.
use Rattle.std.proofs.Common.{◌≡◌, ℕ, zero, suc, ◌+◌, ◌<◌, ◌≤◌, ◌==◌, inl, inr, refl, sym, ap, ◌∙◌, nat_lt, cond, Bool, true, false, arith}
use Rattle.std.proofs.lemmas.Bool.{cases_lt, cond-false, cond-true, eq-eqb, ne_eqb}
use Rattle.shm_tree.specs.Trees.{Tree, Empty, Node, AreNear, IsBalanced, IsSearch, height, inserted, joined}
use Rattle.shm_tree.specs.Ways.{IsEnd, IsOther, down, toward}
use Rattle.shm_tree.proofs.{Costs.{Outcome, away, comes, cost, joined_left, joined_right}, Heights.joined_height}
use Rattle.shm_tree.proofs.Insertions.{inserts_well}

-- of two trees the one that was inserted in grew, is higher than the other, and not by 2
abbrev Grew : (i : ℕ) (u o : Tree) → Type 0
Grew i u o = (height u ≡ i + 1) × (height o < height u) × AreNear (height u) (height o)

grew_left : (k n c : ℕ) (l r u : Tree) → AreNear (height l) (height r) → IsBalanced u → Outcome (height l) c u → height (joined k n u r) ≡ height (Node k n l r) + 1 → Grew (height l) u r
grew_left k n c l r u h hu (inl o) g =
    let e = o.0 in
    let j = joined_height k n u r (record { left = omega (arith, e, h.left); right = omega (arith, e, h.right) }) in
    absurd (omega (arith, e, j, g))
grew_left k n c l r u h hu (inr o) g = elim (cases_lt (height r + 1) (height u)) [
  | inl lt ↦
      let e = o.0 in
      let j = joined_left k n u r hu o.2 (omega (arith, e, lt, h.left)) in
      absurd (omega (arith, e, j, g, lt, h.left))
  | inr le ↦
      let e = o.0 in
      let near : AreNear (height u) (height r) = record { left = le; right = omega (arith, e, h.right) } in
      let j = joined_height k n u r near in
      (e, omega (arith, e, j, g, h.left, h.right), near)
]

grew_right : (k n c : ℕ) (l r u : Tree) → AreNear (height l) (height r) → IsBalanced u → Outcome (height r) c u → height (joined k n l u) ≡ height (Node k n l r) + 1 → Grew (height r) u l
grew_right k n c l r u h hu (inl o) g =
    let e = o.0 in
    let j = joined_height k n l u (record { left = omega (arith, e, h.left); right = omega (arith, e, h.right) }) in
    absurd (omega (arith, e, j, g))
grew_right k n c l r u h hu (inr o) g = elim (cases_lt (height l + 1) (height u)) [
  | inl lt ↦
      let e = o.0 in
      let j = joined_right k n l u hu o.2 (omega (arith, e, lt, h.right)) in
      absurd (omega (arith, e, j, g, lt, h.right))
  | inr le ↦
      let e = o.0 in
      let j = joined_height k n l u (record { left = omega (arith, e, h.left); right = le }) in
      (e, omega (arith, e, j, g, h.left, h.right), record { left = le; right = omega (arith, e, h.left) })
]

by_grew : (x y k n : ℕ) (l r : Tree) (b : Bool) → IsSearch (Node k n l r) → IsBalanced (Node k n l r) → height (cond b (joined k n (inserted x y l) r) (joined k n l (inserted x y r))) ≡ height (Node k n l r) + 1 → Grew (height (cond b l r)) (inserted x y (cond b l r)) (cond b r l)
by_grew x y k n l r true s h g = grew_left k n (cost x y l) l r (inserted x y l) h.0 (inserts_well x y l s.2 h.1).0.balanced (comes x y l s.2 h.1) g
by_grew x y k n l r false s h g = grew_right k n (cost x y r) l r (inserted x y r) h.0 (inserts_well x y r s.3 h.2).0.balanced (comes x y r s.3 h.2) g

pub grew_level : (x y : ℕ) (t : Tree) → IsOther x t → IsSearch t → IsBalanced t → height (inserted x y t) ≡ height t + 1 → Grew (height (toward x t)) (inserted x y (toward x t)) (away x t)
grew_level x y Empty o s h g = absurd o
grew_level x y (Node k n l r) o s h g =
    by_grew x y k n l r (nat_lt x k) s h
    (sym (ap height (cond-false (x == k) (Node x y l r) (cond (nat_lt x k) (joined k n (inserted x y l) r) (joined k n l (inserted x y r))) (ne_eqb x k o))) ∙ g)

-- the tree on the side of the key, before and after
by_heights : (x y k n : ℕ) (l r : Tree) (b : Bool) → IsSearch (Node k n l r) → IsBalanced (Node k n l r) → (height (cond b r l) ≤ height (inserted x y (cond b l r)) + 1) × (height (cond b r l) + 1 < height (inserted x y (cond b l r)) → height (inserted x y (cond b l r)) ≡ height (cond b l r) + 1)
by_heights x y k n l r true s h =
    let w = inserts_well x y l s.2 h.1 in
    let i = w.1 in
    let j = w.2 in
    let near = h.0 in
    (omega (arith, i, near.right), λ lt. omega (arith, i, j, lt, near.left))
by_heights x y k n l r false s h =
    let w = inserts_well x y r s.3 h.2 in
    let i = w.1 in
    let j = w.2 in
    let near = h.0 in
    (omega (arith, i, near.left), λ lt. omega (arith, i, j, lt, near.right))

pub level_heights : (x y : ℕ) (t : Tree) → IsOther x t → IsSearch t → IsBalanced t → (height (away x t) ≤ height (inserted x y (toward x t)) + 1) × (height (away x t) + 1 < height (inserted x y (toward x t)) → height (inserted x y (toward x t)) ≡ height (toward x t) + 1)
level_heights x y Empty o s h = absurd o
level_heights x y (Node k n l r) o s h = by_heights x y k n l r (nat_lt x k) s h

-- ---- the trees on a way

by_side : (k n : ℕ) (l r : Tree) (b : Bool) → IsSearch (Node k n l r) → IsBalanced (Node k n l r) → IsSearch (cond b l r) × IsBalanced (cond b l r)
by_side k n l r true s h = (s.2, h.1)
by_side k n l r false s h = (s.3, h.2)

toward_tree : (x : ℕ) (t : Tree) → IsSearch t → IsBalanced t → IsSearch (toward x t) × IsBalanced (toward x t)
toward_tree x Empty s h = (tt, tt)
toward_tree x (Node k n l r) s h = by_side k n l r (nat_lt x k) s h

pub down_tree : (x : ℕ) (t : Tree) (d : ℕ) → IsSearch t → IsBalanced t → IsSearch (down x t d) × IsBalanced (down x t d)
down_tree x t zero s h = (s, h)
down_tree x t (suc d) s h = let i = down_tree x t d s h in toward_tree x (down x t d) i.0 i.1

-- where the way ends a tree grows only where it was empty
pub end_grew : (x y : ℕ) (t : Tree) → IsEnd x t → height (inserted x y t) ≡ height t + 1 → t ≡ Empty
end_grew x y Empty e g = refl
end_grew x y (Node k n l r) e g =
    let is = ap height (cond-true (x == k) (Node x y l r) (cond (nat_lt x k) (joined k n (inserted x y l) r) (joined k n l (inserted x y r))) (eq-eqb x k e)) in
    absurd (omega (arith, is, g))
