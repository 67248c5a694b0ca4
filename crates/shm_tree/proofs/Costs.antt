-- How many nodes an insertion makes: one for each level of the way and for the key's place, and two more at the one level that is balanced again.
use Rattle.std.proofs.Common.{◌≡◌, ◌≢◌, ℕ, zero, suc, ◌+◌, ◌<◌, ◌≤◌, ◌==◌, max, inl, inr, ◌⊎◌, refl, nat_lt, if◌then◌else◌, cond, Bool, true, false, arith}
use Rattle.std.proofs.lemmas.Bool.{cases_eq, cases_lt, eq-eqb, le-ltb, lt-ltb, ne_eqb}
use Rattle.shm_tree.specs.Trees.{Tree, Empty, Node, AreNear, IsBalanced, IsSearch, double_left, double_right, from_left, from_right, height, inserted, joined}
use Rattle.shm_tree.specs.Ways.{IsEnd, IsOther, down, toward}
use Rattle.shm_tree.proofs.{Heights.joined_height, Insertions.inserts_well}

-- how many nodes are made for a node of two trees at most
abbrev pub work : Tree → Tree → ℕ
work a b = if nat_lt (height b + 1) (height a) then 3 else if nat_lt (height a + 1) (height b) then 3 else 1

-- how many are made for the number at the key x
abbrev pub cost : (x y : ℕ) → Tree → ℕ
cost x y Empty = 1
cost x y (Node k n l r) = if x == k then 1 else if nat_lt x k then cost x y l + work (inserted x y l) r else cost x y r + work (inserted x y r) l

-- the two trees of its node differ in height, or it is a leaf
abbrev pub IsLeaning : Tree → Type 0
IsLeaning Empty = ⊥
IsLeaning (Node k n l r) = (height l ≢ height r) ⊎ (max (height l) (height r) ≡ 0)

-- of a tree of the height i came u, and c nodes were made: where it grew no level was balanced again
abbrev pub Outcome : (i c : ℕ) → Tree → Type 0
Outcome i c u = ((height u ≡ i) × (c ≤ i + 3)) ⊎ ((height u ≡ i + 1) × (c ≤ i + 1) × IsLeaning u)

-- ---- a level that is balanced again is as high as the tree that grew

double_left_height : (k n k' n' : ℕ) (a b r : Tree) → IsBalanced b → height b ≡ height r + 1 → height a ≡ height r → height (double_left k n k' n' a b r) ≡ 1 + max (height a) (height b)
double_left_height k n k' n' a Empty r hb eb ea = absurd (omega (arith, eb))
double_left_height k n k' n' a (Node m p c d) r (h, hc, hd) eb ea = omega (arith, eb, ea, h.left, h.right)

from_left_height : (k n : ℕ) (l r : Tree) → IsBalanced l → IsLeaning l → height l ≡ height r + 2 → height (from_left k n l r) ≡ height l
from_left_height k n Empty r hl lean e = absurd (omega (arith, e))
from_left_height k n (Node k' n' a b) r (h, ha, hb) lean e = elim (cases_lt (height a) (height b)) [
  | inl lt ↦ rw (lt-ltb _ _ lt) (double_left_height k n k' n' a b r hb (omega (arith, e, lt, h.left, h.right)) (omega (arith, e, lt, h.left, h.right)))
  | inr le ↦ rw (le-ltb _ _ le) (elim lean [
    | inl ne ↦ elim (cases_eq (height a) (height b)) [ inl s ↦ absurd (ne s) | inr d ↦ omega (arith, e, le, d, h.left, h.right) ]
    | inr none ↦ absurd (omega (arith, e, le, none))
  ])
]

double_right_height : (k n k' n' : ℕ) (l a b : Tree) → IsBalanced a → height a ≡ height l + 1 → height b ≡ height l → height (double_right k n k' n' l a b) ≡ 1 + max (height a) (height b)
double_right_height k n k' n' l Empty b ha ea eb = absurd (omega (arith, ea))
double_right_height k n k' n' l (Node m p c d) b (h, hc, hd) ea eb = omega (arith, eb, ea, h.left, h.right)

from_right_height : (k n : ℕ) (l r : Tree) → IsBalanced r → IsLeaning r → height r ≡ height l + 2 → height (from_right k n l r) ≡ height r
from_right_height k n l Empty hr lean e = absurd (omega (arith, e))
from_right_height k n l (Node k' n' a b) (h, ha, hb) lean e = elim (cases_lt (height b) (height a)) [
  | inl lt ↦ rw (lt-ltb _ _ lt) (double_right_height k n k' n' l a b ha (omega (arith, e, lt, h.left, h.right)) (omega (arith, e, lt, h.left, h.right)))
  | inr le ↦ rw (le-ltb _ _ le) (elim lean [
    | inl ne ↦ elim (cases_eq (height a) (height b)) [ inl s ↦ absurd (ne s) | inr d ↦ omega (arith, e, le, d, h.left, h.right) ]
    | inr none ↦ absurd (omega (arith, e, le, none, h.left, h.right))
  ])
]

pub joined_left : (k n : ℕ) (l r : Tree) → IsBalanced l → IsLeaning l → height l ≡ height r + 2 → height (joined k n l r) ≡ height l
unfolding joined
joined_left k n l r hl lean e = rw (lt-ltb (height r + 1) (height l) (omega (arith, e))) (from_left_height k n l r hl lean e)

pub joined_right : (k n : ℕ) (l r : Tree) → IsBalanced r → IsLeaning r → height r ≡ height l + 2 → height (joined k n l r) ≡ height r
unfolding joined
joined_right k n l r hr lean e = rw (le-ltb (height r + 1) (height l) (omega (arith, e)), lt-ltb (height l + 1) (height r) (omega (arith, e))) (from_right_height k n l r hr lean e)

joined_flat : (k n : ℕ) (l r : Tree) → AreNear (height l) (height r) → joined k n l r ≡ Node k n l r
unfolding joined
joined_flat k n l r h = rw (le-ltb (height r + 1) (height l) h.left, le-ltb (height l + 1) (height r) h.right) refl

pub work_near : (a b : Tree) → AreNear (height a) (height b) → work a b ≡ 1
work_near a b h = rw (le-ltb (height b + 1) (height a) h.left, le-ltb (height a + 1) (height b) h.right) refl

pub work_far : (a b : Tree) → height b + 1 < height a → work a b ≡ 3
work_far a b h = rw (lt-ltb (height b + 1) (height a) h) refl

pub work_high : (a b : Tree) → height a + 1 < height b → work a b ≡ 3
work_high a b h = rw (le-ltb (height b + 1) (height a) (omega (arith, h)), lt-ltb (height a + 1) (height b) h) refl

work_most : (a b : Tree) → work a b ≤ 3
work_most a b = by (nat_lt (height b + 1) (height a)) (nat_lt (height a + 1) (height b))
  where
    by : (c d : Bool) → cond c 3 (cond d 3 1) ≤ 3
    by true d = omega arith
    by false true = omega arith
    by false false = omega arith

leans_flat : (k n : ℕ) (l r : Tree) → AreNear (height l) (height r) → height l ≢ height r → IsLeaning (joined k n l r)
leans_flat k n l r h ne = rw (joined_flat k n l r h) (inl ne)

-- ---- one level

on_left : (k n c : ℕ) (l r u : Tree) → AreNear (height l) (height r) → IsBalanced u → Outcome (height l) c u → Outcome (height (Node k n l r)) (c + work u r) (joined k n u r)
on_left k n c l r u h hu (inl o) =
    let e = o.0 in
    let few = o.1 in
    let w = work_near u r (record { left = omega (arith, e, h.left); right = omega (arith, e, h.right) }) in
    let j = joined_height k n u r (record { left = omega (arith, e, h.left); right = omega (arith, e, h.right) }) in
    inl (omega (arith, e, j), omega (arith, few, w))
on_left k n c l r u h hu (inr o) = elim (cases_lt (height r + 1) (height u)) [
  | inl lt ↦
      let e = o.0 in
      let few = o.1 in
      let j = joined_left k n u r hu o.2 (omega (arith, e, lt, h.left)) in
      let w = work_most u r in
      inl (omega (arith, e, j, lt, h.left), omega (arith, few, w, lt, e))
  | inr le ↦
      let e = o.0 in
      let few = o.1 in
      let near : AreNear (height u) (height r) = record { left = le; right = omega (arith, e, h.right) } in
      let w = work_near u r near in
      let j = joined_height k n u r near in
      elim (cases_lt (height l) (height r)) [
        | inl lt ↦ inl (omega (arith, e, j, lt, h.right), omega (arith, few, w))
        | inr ge ↦ inr (omega (arith, e, j, ge, le), omega (arith, few, w), leans_flat k n u r near (λ same. omega (arith, e, same, ge, le)))
      ]
]

on_right : (k n c : ℕ) (l r u : Tree) → AreNear (height l) (height r) → IsBalanced u → Outcome (height r) c u → Outcome (height (Node k n l r)) (c + work u l) (joined k n l u)
on_right k n c l r u h hu (inl o) =
    let e = o.0 in
    let few = o.1 in
    let w = work_near u l (record { left = omega (arith, e, h.right); right = omega (arith, e, h.left) }) in
    let j = joined_height k n l u (record { left = omega (arith, e, h.left); right = omega (arith, e, h.right) }) in
    inl (omega (arith, e, j), omega (arith, few, w))
on_right k n c l r u h hu (inr o) = elim (cases_lt (height l + 1) (height u)) [
  | inl lt ↦
      let e = o.0 in
      let few = o.1 in
      let j = joined_right k n l u hu o.2 (omega (arith, e, lt, h.right)) in
      let w = work_most u l in
      inl (omega (arith, e, j, lt, h.right), omega (arith, few, w, lt, e))
  | inr le ↦
      let e = o.0 in
      let few = o.1 in
      let near : AreNear (height l) (height u) = record { left = omega (arith, e, h.left); right = le } in
      let w = work_near u l (record { left = le; right = omega (arith, e, h.left) }) in
      let j = joined_height k n l u near in
      elim (cases_lt (height r) (height l)) [
        | inl lt ↦ inl (omega (arith, e, j, lt, h.left), omega (arith, few, w))
        | inr ge ↦ inr (omega (arith, e, j, ge, le), omega (arith, few, w), leans_flat k n l u near (λ same. omega (arith, e, same, ge, le)))
      ]
]

-- ---- all levels

pub comes : (x y : ℕ) (t : Tree) → IsSearch t → IsBalanced t → Outcome (height t) (cost x y t) (inserted x y t)
comes x y Empty s h = inr (omega arith, omega arith, inr (omega arith))
comes x y (Node k n l r) s h = elim (cases_eq x k) [
  | inl e ↦ rw (eq-eqb x k e) (inl (refl, omega arith))
  | inr d ↦ elim (cases_lt x k) [
    | inl lt ↦ rw (ne_eqb x k d, lt-ltb x k lt) (on_left k n (cost x y l) l r (inserted x y l) h.0 (inserts_well x y l s.2 h.1).0.balanced (comes x y l s.2 h.1))
    | inr le ↦ rw (ne_eqb x k d, le-ltb x k le) (on_right k n (cost x y r) l r (inserted x y r) h.0 (inserts_well x y r s.3 h.2).0.balanced (comes x y r s.3 h.2))
  ]
]

most : (i c : ℕ) (u : Tree) → Outcome i c u → c ≤ i + 3
most i c u (inl o) = o.1
most i c u (inr o) = let few = o.1 in omega (arith, few)

pub cost_low : (x y : ℕ) (t : Tree) → IsSearch t → IsBalanced t → cost x y t ≤ height t + 3
cost_low x y t s h = most (height t) (cost x y t) (inserted x y t) (comes x y t s h)

-- ---- the levels of a way

-- the tree of a node on the side where a key doesn't stand
abbrev pub away : ℕ → Tree → Tree
away x Empty = Empty
away x (Node k n l r) = if nat_lt x k then r else l

by_level : (c : Bool) (x y : ℕ) (l r : Tree) → cond c (cost x y l + work (inserted x y l) r) (cost x y r + work (inserted x y r) l) ≡ cost x y (cond c l r) + work (inserted x y (cond c l r)) (cond c r l)
by_level true x y l r = refl
by_level false x y l r = refl

pub cost_level : (x y : ℕ) (t : Tree) → IsOther x t → cost x y t ≡ cost x y (toward x t) + work (inserted x y (toward x t)) (away x t)
cost_level x y Empty o = absurd o
cost_level x y (Node k n l r) o = rw (ne_eqb x k o) (by_level (nat_lt x k) x y l r)

pub cost_end : (x y : ℕ) (t : Tree) → IsEnd x t → cost x y t ≡ 1
cost_end x y Empty e = refl
cost_end x y (Node k n l r) e = rw (eq-eqb x k e) refl

pub cost_down : (x y : ℕ) (t : Tree) (d : ℕ) → ((i : ℕ) → i < d → IsOther x (down x t i)) → cost x y (down x t d) ≤ cost x y t
cost_down x y t zero on = omega arith
cost_down x y t (suc d) on =
    let a = cost_down x y t d (λ i lt. on i (omega (arith, lt))) in
    let b = cost_level x y (down x t d) (on d (omega arith)) in
    omega (arith, a, b)
