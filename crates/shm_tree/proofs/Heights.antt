-- Heights of trees that are balanced again, and of balanced trees by how many keys they have.
use Rattle.std.proofs.{Common.{◌≡◌, ℕ, ◌+◌, ◌≤◌, max, inl, inr, refl, arith}, lemmas.Bool.{cases_lt, le-ltb, lt-ltb}}
use Rattle.shm_tree.specs.Trees.{Tree, Empty, Node, height, AreNear, IsBalanced, double_left, double_right, from_left, from_right, joined}

-- t is a balanced tree, as high as the higher one of two trees of the heights a and b, or higher by 1
pub record IsJoined (a b : ℕ) (t : Tree) : Type 0 where
  pub balanced : IsBalanced t
  pub low : max a b ≤ height t
  pub high : height t ≤ max a b + 1

near : {a b : ℕ} → a ≤ b + 1 → b ≤ a + 1 → AreNear a b
near l r = record { left = l; right = r }

-- ---- a tree that is too high by 2

left_double : (k n k' n' : ℕ) (a b r : Tree) → IsBalanced a → IsBalanced b → IsBalanced r → height b ≡ height r + 1 → height a ≡ height r → IsJoined (1 + max (height a) (height b)) (height r) (double_left k n k' n' a b r)
left_double k n k' n' a Empty r ha hb hr eb ea = absurd (omega (arith, eb))
left_double k n k' n' a (Node m p c d) r ha (h, hc, hd) hr eb ea =
    record {
      balanced = (
        near (omega (arith, eb, ea, h.left, h.right)) (omega (arith, eb, ea, h.left, h.right)),
        (near (omega (arith, eb, ea, h.left, h.right)) (omega (arith, eb, ea, h.left, h.right)), ha, hc),
        (near (omega (arith, eb, ea, h.left, h.right)) (omega (arith, eb, ea, h.left, h.right)), hd, hr),
      );
      low = omega (arith, eb, ea, h.left, h.right);
      high = omega (arith, eb, ea, h.left, h.right);
    }

left_single : (k n k' n' : ℕ) (a b r : Tree) → IsBalanced a → IsBalanced b → IsBalanced r → AreNear (height a) (height b) → height a ≡ height r + 1 → height b ≤ height a → IsJoined (1 + max (height a) (height b)) (height r) (Node k' n' a (Node k n b r))
left_single k n k' n' a b r ha hb hr h ea le =
    record {
      balanced = (near (omega (arith, ea, le, h.left)) (omega (arith, ea, le, h.left)), ha, (near (omega (arith, ea, le, h.left)) (omega (arith, ea, le, h.left)), hb, hr));
      low = omega (arith, ea, le, h.left);
      high = omega (arith, ea, le, h.left);
    }

left_again : (k n : ℕ) (l r : Tree) → IsBalanced l → IsBalanced r → height l ≡ height r + 2 → IsJoined (height l) (height r) (from_left k n l r)
left_again k n Empty r hl hr e = absurd (omega (arith, e))
left_again k n (Node k' n' a b) r (h, ha, hb) hr e = elim (cases_lt (height a) (height b)) [
  | inl lt ↦ rw (lt-ltb _ _ lt) (left_double k n k' n' a b r ha hb hr (omega (arith, e, lt, h.left, h.right)) (omega (arith, e, lt, h.left, h.right)))
  | inr le ↦ rw (le-ltb _ _ le) (left_single k n k' n' a b r ha hb hr h (omega (arith, e, le)) le)
]

right_double : (k n k' n' : ℕ) (l a b : Tree) → IsBalanced l → IsBalanced a → IsBalanced b → height a ≡ height l + 1 → height b ≡ height l → IsJoined (height l) (1 + max (height a) (height b)) (double_right k n k' n' l a b)
right_double k n k' n' l Empty b hl ha hb ea eb = absurd (omega (arith, ea))
right_double k n k' n' l (Node m p c d) b hl (h, hc, hd) hb ea eb =
    record {
      balanced = (
        near (omega (arith, eb, ea, h.left, h.right)) (omega (arith, eb, ea, h.left, h.right)),
        (near (omega (arith, eb, ea, h.left, h.right)) (omega (arith, eb, ea, h.left, h.right)), hl, hc),
        (near (omega (arith, eb, ea, h.left, h.right)) (omega (arith, eb, ea, h.left, h.right)), hd, hb),
      );
      low = omega (arith, eb, ea, h.left, h.right);
      high = omega (arith, eb, ea, h.left, h.right);
    }

right_single : (k n k' n' : ℕ) (l a b : Tree) → IsBalanced l → IsBalanced a → IsBalanced b → AreNear (height a) (height b) → height b ≡ height l + 1 → height a ≤ height b → IsJoined (height l) (1 + max (height a) (height b)) (Node k' n' (Node k n l a) b)
right_single k n k' n' l a b hl ha hb h eb le =
    record {
      balanced = (near (omega (arith, eb, le, h.right)) (omega (arith, eb, le, h.right)), (near (omega (arith, eb, le, h.right)) (omega (arith, eb, le, h.right)), hl, ha), hb);
      low = omega (arith, eb, le, h.right);
      high = omega (arith, eb, le, h.right);
    }

right_again : (k n : ℕ) (l r : Tree) → IsBalanced l → IsBalanced r → height r ≡ height l + 2 → IsJoined (height l) (height r) (from_right k n l r)
right_again k n l Empty hl hr e = absurd (omega (arith, e))
right_again k n l (Node k' n' a b) hl (h, ha, hb) e = elim (cases_lt (height b) (height a)) [
  | inl lt ↦ rw (lt-ltb _ _ lt) (right_double k n k' n' l a b hl ha hb (omega (arith, e, lt, h.left, h.right)) (omega (arith, e, lt, h.left, h.right)))
  | inr le ↦ rw (le-ltb _ _ le) (right_single k n k' n' l a b hl ha hb h (omega (arith, e, le)) le)
]

-- two balanced trees whose heights differ by at most 2 are joined to a balanced one; where they differ by at most 1 it is higher by 1
pub joined_again : (k n : ℕ) (l r : Tree) → IsBalanced l → IsBalanced r → height l ≤ height r + 2 → height r ≤ height l + 2 → IsJoined (height l) (height r) (joined k n l r)
unfolding joined
joined_again k n l r hl hr a b = elim (cases_lt (height r + 1) (height l)) [
  | inl lt ↦ rw (lt-ltb _ _ lt) (left_again k n l r hl hr (omega (arith, lt, a)))
  | inr le ↦ rw (le-ltb _ _ le) (elim (cases_lt (height l + 1) (height r)) [
    | inl lt' ↦ rw (lt-ltb _ _ lt') (right_again k n l r hl hr (omega (arith, lt', b)))
    | inr le' ↦ rw (le-ltb _ _ le') (record { balanced = (near le le', hl, hr); low = omega arith; high = omega arith })
  ])
]

pub joined_height : (k n : ℕ) (l r : Tree) → AreNear (height l) (height r) → height (joined k n l r) ≡ 1 + max (height l) (height r)
unfolding joined
joined_height k n l r h = rw (le-ltb (height r + 1) (height l) h.left, le-ltb (height l + 1) (height r) h.right) refl

-- ---- one of two trees is another one, whose height differs by at most 1

-- a height grows, or falls, by at most 1
pub record IsGrown (i j : ℕ) : Type 0 where
  pub low : i ≤ j
  pub high : j ≤ i + 1

pub left_grown : (k n : ℕ) (l r : Tree) (i : ℕ) → IsBalanced l → IsBalanced r → AreNear i (height r) → IsGrown i (height l) → IsGrown (1 + max i (height r)) (height (joined k n l r))
left_grown k n l r i hl hr h g = elim (cases_lt (height r + 1) (height l)) [
  | inl lt ↦
      let j = joined_again k n l r hl hr (omega (arith, g.high, h.left)) (omega (arith, g.low, h.right)) in
      record { low = omega (arith, j.low, j.high, g.high, g.low, h.left, h.right, lt); high = omega (arith, j.low, j.high, g.high, g.low, h.left, h.right, lt) }
  | inr le ↦ rw (joined_height k n l r (near le (omega (arith, g.low, h.right)))) (record { low = omega (arith, g.low); high = omega (arith, g.high) })
]

pub right_grown : (k n : ℕ) (l r : Tree) (i : ℕ) → IsBalanced l → IsBalanced r → AreNear (height l) i → IsGrown i (height r) → IsGrown (1 + max (height l) i) (height (joined k n l r))
right_grown k n l r i hl hr h g = elim (cases_lt (height l + 1) (height r)) [
  | inl lt ↦
      let j = joined_again k n l r hl hr (omega (arith, g.low, h.left)) (omega (arith, g.high, h.right)) in
      record { low = omega (arith, j.low, j.high, g.high, g.low, h.left, h.right, lt); high = omega (arith, j.low, j.high, g.high, g.low, h.left, h.right, lt) }
  | inr le ↦ rw (joined_height k n l r (near (omega (arith, g.low, h.left)) le)) (record { low = omega (arith, g.low); high = omega (arith, g.high) })
]

pub left_fallen : (k n : ℕ) (l r : Tree) (i : ℕ) → IsBalanced l → IsBalanced r → AreNear i (height r) → IsGrown (height l) i → IsGrown (height (joined k n l r)) (1 + max i (height r))
left_fallen k n l r i hl hr h g = elim (cases_lt (height l + 1) (height r)) [
  | inl lt ↦
      let j = joined_again k n l r hl hr (omega (arith, g.low, h.left)) (omega (arith, g.high, h.right)) in
      record { low = omega (arith, j.low, j.high, g.high, g.low, h.left, h.right, lt); high = omega (arith, j.low, j.high, g.high, g.low, h.left, h.right, lt) }
  | inr le ↦ rw (joined_height k n l r (near (omega (arith, g.low, h.left)) le)) (record { low = omega (arith, g.low); high = omega (arith, g.high) })
]

pub right_fallen : (k n : ℕ) (l r : Tree) (i : ℕ) → IsBalanced l → IsBalanced r → AreNear (height l) i → IsGrown (height r) i → IsGrown (height (joined k n l r)) (1 + max (height l) i)
right_fallen k n l r i hl hr h g = elim (cases_lt (height r + 1) (height l)) [
  | inl lt ↦
      let j = joined_again k n l r hl hr (omega (arith, g.high, h.left)) (omega (arith, g.low, h.right)) in
      record { low = omega (arith, j.low, j.high, g.high, g.low, h.left, h.right, lt); high = omega (arith, j.low, j.high, g.high, g.low, h.left, h.right, lt) }
  | inr le ↦ rw (joined_height k n l r (near le (omega (arith, g.low, h.right)))) (record { low = omega (arith, g.low); high = omega (arith, g.high) })
]
