-- Search trees that are balanced again.
use Rattle.std.proofs.{Common.{◌≡◌, ℕ, ◌+◌, ◌≤◌, None, inl, inr, refl, arith}, lemmas.Bool.{cases_lt, le-ltb, lt-ltb}}
use Rattle.std.proofs.lemmas.Bool.Decides.{nat_tests}
use Rattle.shm_tree.specs.Trees.{Tree, Empty, Node, height, found, AreBelow, AreAbove, IsSearch, double_left, double_right, from_left, from_right, joined}

pub below_more : (i j : ℕ) (t : Tree) → i ≤ j → AreBelow i t → AreBelow j t
below_more i j Empty le h = tt
below_more i j (Node k n l r) le (lt, hl, hr) = (omega (arith, lt, le), below_more i j l le hl, below_more i j r le hr)

pub above_less : (i j : ℕ) (t : Tree) → j ≤ i → AreAbove i t → AreAbove j t
above_less i j Empty le h = tt
above_less i j (Node k n l r) le (lt, hl, hr) = (omega (arith, lt, le), above_less i j l le hl, above_less i j r le hr)

-- a key that isn't below what all keys are below isn't there
pub not_below : (z k : ℕ) (t : Tree) → k ≤ z → AreBelow k t → found z t ≡ None
not_below z k Empty le h = refl
not_below z k (Node j n l r) le (lt, hl, hr) = grind (arith, nat_tests, le, lt, not_below z k l le hl, not_below z k r le hr)

pub not_above : (z k : ℕ) (t : Tree) → z ≤ k → AreAbove k t → found z t ≡ None
not_above z k Empty le h = refl
not_above z k (Node j n l r) le (lt, hl, hr) = grind (arith, nat_tests, le, lt, not_above z k l le hl, not_above z k r le hr)

-- t is a search tree with the map of u, and with its bounds
pub record Keeps (u t : Tree) : Type 0 where
  pub search : IsSearch t
  pub map : (z : ℕ) → found z t ≡ found z u
  pub below : (j : ℕ) → AreBelow j u → AreBelow j t
  pub above : (j : ℕ) → AreAbove j u → AreAbove j t

pub same_keeps : (t : Tree) → IsSearch t → Keeps t t
same_keeps t h = record { search = h; map = λ z. refl; below = λ j b. b; above = λ j a. a }

left_single : (k n k' n' : ℕ) (a b r : Tree) → IsSearch (Node k n (Node k' n' a b) r) → Keeps (Node k n (Node k' n' a b) r) (Node k' n' a (Node k n b r))
left_single k n k' n' a b r ((lt, ka, kb), kr, (la, lb, sa, sb), sr) =
    record {
      search = (la, (lt, lb, above_less k k' r (omega (arith, lt)) kr), sa, (kb, kr, sb, sr));
      map = λ z. grind (arith, nat_tests, lt);
      below = λ j (jk, (jk', ja, jb), jr). (jk', ja, (jk, jb, jr));
      above = λ j (jk, (jk', ja, jb), jr). (jk', ja, (jk, jb, jr));
    }

left_double : (k n k' n' : ℕ) (a b r : Tree) → IsSearch (Node k n (Node k' n' a b) r) → Keeps (Node k n (Node k' n' a b) r) (double_left k n k' n' a b r)
left_double k n k' n' a Empty r h = left_single k n k' n' a Empty r h
left_double k n k' n' a (Node m p c d) r ((lt, ka, (mk, kc, kd)), kr, (la, (lm, lc, ld), sa, (mc, md, sc, sd)), sr) =
    record {
      search = ((lm, below_more k' m a (omega (arith, lm)) la, mc), (mk, md, above_less k m r (omega (arith, mk)) kr), (la, lc, sa, sc), (kd, kr, sd, sr));
      map = λ z. grind (arith, nat_tests, lt, lm, mk);
      below = λ j (jk, (jk', ja, (jm, jc, jd)), jr). (jm, (jk', ja, jc), (jk, jd, jr));
      above = λ j (jk, (jk', ja, (jm, jc, jd)), jr). (jm, (jk', ja, jc), (jk, jd, jr));
    }

left_keeps : (k n : ℕ) (l r : Tree) → IsSearch (Node k n l r) → Keeps (Node k n l r) (from_left k n l r)
left_keeps k n Empty r h = same_keeps (Node k n Empty r) h
left_keeps k n (Node k' n' a b) r h = elim (cases_lt (height a) (height b)) [
  | inl lt ↦ rw (lt-ltb _ _ lt) (left_double k n k' n' a b r h)
  | inr le ↦ rw (le-ltb _ _ le) (left_single k n k' n' a b r h)
]

right_single : (k n k' n' : ℕ) (l a b : Tree) → IsSearch (Node k n l (Node k' n' a b)) → Keeps (Node k n l (Node k' n' a b)) (Node k' n' (Node k n l a) b)
right_single k n k' n' l a b (kl, (lt, ka, kb), sl, (ra, rb, sa, sb)) =
    record {
      search = ((lt, below_more k k' l (omega (arith, lt)) kl, ra), rb, (kl, ka, sl, sa), sb);
      map = λ z. grind (arith, nat_tests, lt);
      below = λ j (jk, jl, (jk', ja, jb)). (jk', (jk, jl, ja), jb);
      above = λ j (jk, jl, (jk', ja, jb)). (jk', (jk, jl, ja), jb);
    }

right_double : (k n k' n' : ℕ) (l a b : Tree) → IsSearch (Node k n l (Node k' n' a b)) → Keeps (Node k n l (Node k' n' a b)) (double_right k n k' n' l a b)
right_double k n k' n' l Empty b h = right_single k n k' n' l Empty b h
right_double k n k' n' l (Node m p c d) b (kl, (lt, (km, kc, kd), kb), sl, ((mk, rc, rd), rb, (mc, md, sc, sd), sb)) =
    record {
      search = ((km, below_more k m l (omega (arith, km)) kl, mc), (mk, md, above_less k' m b (omega (arith, mk)) rb), (kl, kc, sl, sc), (rd, rb, sd, sb));
      map = λ z. grind (arith, nat_tests, lt, km, mk);
      below = λ j (jk, jl, (jk', (jm, jc, jd), jb)). (jm, (jk, jl, jc), (jk', jd, jb));
      above = λ j (jk, jl, (jk', (jm, jc, jd), jb)). (jm, (jk, jl, jc), (jk', jd, jb));
    }

right_keeps : (k n : ℕ) (l r : Tree) → IsSearch (Node k n l r) → Keeps (Node k n l r) (from_right k n l r)
right_keeps k n l Empty h = same_keeps (Node k n l Empty) h
right_keeps k n l (Node k' n' a b) h = elim (cases_lt (height b) (height a)) [
  | inl lt ↦ rw (lt-ltb _ _ lt) (right_double k n k' n' l a b h)
  | inr le ↦ rw (le-ltb _ _ le) (right_single k n k' n' l a b h)
]

-- two trees that are joined have the map of the node
pub joined_keeps : (k n : ℕ) (l r : Tree) → IsSearch (Node k n l r) → Keeps (Node k n l r) (joined k n l r)
unfolding joined
joined_keeps k n l r h = elim (cases_lt (height r + 1) (height l)) [
  | inl lt ↦ rw (lt-ltb _ _ lt) (left_keeps k n l r h)
  | inr le ↦ rw (le-ltb _ _ le) (elim (cases_lt (height l + 1) (height r)) [
    | inl lt' ↦ rw (lt-ltb _ _ lt') (right_keeps k n l r h)
    | inr le' ↦ rw (le-ltb _ _ le') (same_keeps (Node k n l r) h)
  ])
]
