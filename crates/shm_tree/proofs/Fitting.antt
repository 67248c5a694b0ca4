-- A search tree that stands in the words of a pool has fewer nodes than the pool has words: no two of its nodes have one key.
use Rattle.std.proofs.Common.{◌≡◌, ℕ, zero, suc, ◌+◌, ◌<◌, ◌≤◌, ◌^◌, max, Bool, true, false, nat_lt, inl, inr, ap, arith}
use Rattle.std.proofs.lemmas.Bool.{cases_eq, cases_lt, le-ltb, lt-ltb}
use Rattle.shm_words.specs.Layout.{GeometryFits, total_of}
use Rattle.shm_words.proofs.Placing.{total_most_wide}
use Rattle.shm_graph.specs.{declared.spot.Spot.TheVariants.Body, References.{one_if, sum_below}}
use Rattle.shm_graph.proofs.States.Reading.{live_below}
use Rattle.shm_plain.specs.Pools.{Pool}
use Rattle.shm_tree.specs.Standing.{TreeStands, word_of}
use Rattle.shm_tree.specs.Trees.{Tree, Empty, Node, AreAbove, AreBelow, IsSearch, size}
use Rattle.shm_tree.proofs.Searching.{below_more}

-- ---- sums

sum_most : (n : ℕ) (f h : ℕ → ℕ) → ((a : ℕ) → f a ≤ h a) → sum_below n f ≤ sum_below n h
sum_most zero f h e = omega arith
sum_most (suc n) f h e = let i = sum_most n f h e in let j = e n in omega arith

sum_less : (n : ℕ) (f h : ℕ → ℕ) (x : ℕ) → x < n → ((a : ℕ) → f a ≤ h a) → f x < h x → sum_below n f < sum_below n h
sum_less zero f h x l e u = absurd (omega arith)
sum_less (suc n) f h x l e u = elim (cases_eq n x) [
  | inl d ↦
      let i = sum_most n f h e in
      let f' : f n ≡ f x = ap f d in
      let h' : h n ≡ h x = ap h d in
      omega arith
  | inr d ↦ (let i = sum_less n f h x (omega arith) e u in let j = e n in omega arith)
]

sum_few : (n : ℕ) (f : ℕ → Bool) → sum_below n (λ a. one_if (f a)) ≤ n
sum_few zero f = omega arith
sum_few (suc n) f = let one : (b : Bool) → one_if b ≤ 1 = elim [ true ↦ omega arith | false ↦ omega arith ] in omega (arith, sum_few n f, one (f n))

-- ---- bounds of keys

-- each key is at least lo
abbrev pub AreFrom : ℕ → Tree → Type 0
AreFrom lo Empty = Unit {0}
AreFrom lo (Node k n l r) = (lo ≤ k) × AreFrom lo l × AreFrom lo r

from_zero : (t : Tree) → AreFrom 0 t
from_zero Empty = tt
from_zero (Node k n l r) = (omega arith, from_zero l, from_zero r)

from_above : (k : ℕ) (t : Tree) → AreAbove k t → AreFrom (k + 1) t
from_above k Empty h = tt
from_above k (Node i n l r) (lt, hl, hr) = (omega (arith, lt), from_above k l hl, from_above k r hr)

-- some number is above all keys
some_above : (t : Tree) → (h : ℕ) × AreBelow h t
some_above Empty = (0, tt)
some_above (Node k n l r) =
    let a = some_above l in
    let b = some_above r in
    let h : ℕ = 1 + max k (max a.0 b.0) in
    (h, (omega arith, below_more a.0 h l (omega arith) a.1, below_more b.0 h r (omega arith) b.1))

-- ---- the blocks of a tree, by their keys

module _ (p : Pool) where
  -- how many addresses have a key word below k
  abbrev keys_below : ℕ → ℕ
  keys_below k = sum_below (total_of p.start.geometry) (λ b. one_if (nat_lt (word_of p (Body b 2)) k))

  one_more : (x i j : ℕ) → i ≤ j → one_if (nat_lt x i) ≤ one_if (nat_lt x j)
  one_more x i j le = elim (cases_lt x i) [
    | inl lt ↦ rw (lt-ltb x i lt) (rw (lt-ltb x j (omega arith)) (omega arith))
    | inr ge ↦ rw (le-ltb x i ge) (omega arith)
  ]

  one_here : (x k : ℕ) → x ≡ k → one_if (nat_lt x k) < one_if (nat_lt x (k + 1))
  one_here x k e = rw (le-ltb x k (omega (arith, e))) (rw (lt-ltb x (k + 1) (omega (arith, e))) (omega arith))

  keys_more : (i j : ℕ) → i ≤ j → keys_below i ≤ keys_below j
  keys_more i j le = sum_most (total_of p.start.geometry) _ _ (λ b. one_more (word_of p (Body b 2)) i j le)

  size_between : (b lo hi : ℕ) (t : Tree) → lo ≤ hi → TreeStands p b t → IsSearch t → AreFrom lo t → AreBelow hi t → size t + keys_below lo ≤ keys_below hi
  size_between b lo hi Empty le st se from to = omega (arith, keys_more lo hi le)
  size_between b lo hi (Node k n l r) le (m, hl, hr) (lk, kr, sl, sr) (lo_k, fl, fr) (k_hi, tl, tr) =
      let left = size_between (word_of p (Body b 0)) lo k l lo_k hl sl fl lk in
      let right = size_between (word_of p (Body b 1)) (k + 1) hi r (omega (arith, k_hi)) hr sr (from_above k r kr) tr in
      let below = (live_below p.start.geometry p.words b m.live).1 in
      let here = sum_less (total_of p.start.geometry) (λ d. one_if (nat_lt (word_of p (Body d 2)) k)) (λ d. one_if (nat_lt (word_of p (Body d 2)) (k + 1))) b below (λ d. one_more (word_of p (Body d 2)) k (k + 1) (omega arith)) (one_here (word_of p (Body b 2)) k m.key) in
      omega (arith, left, right, here)

-- no more nodes than words
pub size_fits : (p : Pool) (b : ℕ) (t : Tree) → TreeStands p b t → IsSearch t → size t ≤ total_of p.start.geometry
size_fits p b t st se =
    let above = some_above t in
    let between = size_between p b 0 above.0 t (omega arith) st se (from_zero t) above.1 in
    omega (arith, between, sum_few (total_of p.start.geometry) (λ d. nat_lt (word_of p (Body d 2)) above.0))

pub size_small : (p : Pool) (b : ℕ) (t : Tree) → GeometryFits p.start.geometry → TreeStands p b t → IsSearch t → size t < 2 ^ 24
size_small p b t fits st se = omega (arith, size_fits p b t st se, total_most_wide p.start.geometry fits)
