-- Trees without a key.
use Rattle.std.proofs.Common.{◌≡◌, ℕ, ◌<◌, None, Some, inl, inr, ◌∙◌, arith}
use Rattle.std.proofs.lemmas.Bool.{cases_lt, eq-eqb, ne_eqb, le-ltb, lt-ltb, Decides.nat_tests}
use Rattle.shm_tree.specs.Trees.{Tree, Empty, Node, height, found, found_with, AreBelow, AreAbove, IsSearch, IsBalanced, RemovesWell, joined, least_key, least_number, without_least, merged, removed}
use Rattle.shm_tree.proofs.Heights.{IsGrown, joined_again, left_fallen, right_fallen}
use Rattle.shm_tree.proofs.Searching.{above_less, below_more, joined_keeps, not_above, not_below}

-- u is the tree t without its least key m, whose number is q
record Leaves (m q : ℕ) (t u : Tree) : Type 0 where
  search : IsSearch u
  balanced : IsBalanced u
  over : AreAbove m u
  map : (z : ℕ) → found z u ≡ found_with m None t z
  at : found m t ≡ Some q
  none : (z : ℕ) → z < m → found z t ≡ None
  below : (j : ℕ) → AreBelow j t → (m < j) × AreBelow j u
  above : (j : ℕ) → AreAbove j t → (j < m) × AreAbove j u
  grown : IsGrown (height u) (height t)

first : (k n : ℕ) (b : Tree) → IsSearch (Node k n Empty b) → IsBalanced (Node k n Empty b) → Leaves k n (Node k n Empty b) b
first k n b (ka, kb, sa, sb) (h, ha, hb) =
    record {
      search = sb;
      balanced = hb;
      over = kb;
      map = λ z. elim (cases_lt k z) [
        | inl lt ↦ grind (arith, nat_tests, lt)
        | inr le ↦ grind (arith, nat_tests, le, not_above z k b le kb)
      ];
      at = grind (arith, nat_tests);
      none = λ z lt. grind (arith, nat_tests, lt);
      below = λ j (jk, ja, jb). (jk, jb);
      above = λ j (jk, ja, jb). (jk, jb);
      grown = record { low = omega arith; high = omega (arith, h.right) };
    }

further : (k n m q : ℕ) (a b u : Tree) → IsSearch (Node k n a b) → IsBalanced (Node k n a b) → Leaves m q a u → Leaves m q (Node k n a b) (joined k n u b)
further k n m q a b u (ka, kb, sa, sb) (h, ha, hb) i =
    let low = i.below k ka in
    let lt : m < k = low.0 in
    let s : IsSearch (Node k n u b) = (low.1, kb, i.search, sb) in
    let same = joined_keeps k n u b s in
    record {
      search = same.search;
      balanced = (joined_again k n u b i.balanced hb (omega (arith, i.grown.low, h.left)) (omega (arith, i.grown.high, h.right))).balanced;
      over = same.above m (lt, i.over, above_less k m b (omega (arith, lt)) kb);
      map = λ z. same.map z ∙ grind (arith, nat_tests, lt, i.map z);
      at = grind (arith, nat_tests, lt, i.at);
      none = λ z lt'. grind (arith, nat_tests, lt, lt', i.none z lt');
      below = λ j (jk, ja, jb). ((i.below j ja).0, same.below j (jk, (i.below j ja).1, jb));
      above = λ j (jk, ja, jb). ((i.above j ja).0, same.above j (jk, (i.above j ja).1, jb));
      grown = left_fallen k n u b (height a) i.balanced hb h i.grown;
    }

leaves : (k n : ℕ) (a b : Tree) → IsSearch (Node k n a b) → IsBalanced (Node k n a b) → Leaves (least_key k n a) (least_number k n a) (Node k n a b) (without_least k n a b)
leaves k n Empty b s h = first k n b s h
leaves k n (Node j p c d) b s h = further k n (least_key j p c) (least_number j p c) (Node j p c d) b (without_least j p c d) s h (leaves j p c d s.2 h.1)

-- u is the tree t without x
record Removes (x : ℕ) (t u : Tree) : Type 0 where
  search : IsSearch u
  balanced : IsBalanced u
  map : (z : ℕ) → found z u ≡ found_with x None t z
  below : (j : ℕ) → AreBelow j t → AreBelow j u
  above : (j : ℕ) → AreAbove j t → AreAbove j u
  grown : IsGrown (height u) (height t)

-- the key of a node with nothing on its right
alone : (x n : ℕ) (l : Tree) → IsSearch (Node x n l Empty) → IsBalanced (Node x n l Empty) → Removes x (Node x n l Empty) l
alone x n l (kl, kr, sl, sr) (h, hl, hr) =
    record {
      search = sl;
      balanced = hl;
      map = λ z. elim (cases_lt z x) [
        | inl lt ↦ grind (arith, nat_tests, lt)
        | inr le ↦ grind (arith, nat_tests, le, not_below z x l le kl)
      ];
      below = λ j (jk, jl, jr). jl;
      above = λ j (jk, jl, jr). jl;
      grown = record { low = omega arith; high = omega (arith, h.left) };
    }

-- the map where the next greater key m comes to stand in place of x
next_map : (x n m q : ℕ) (l r u : Tree) → IsSearch (Node x n l r) → Leaves m q r u → (z : ℕ) → found z (Node m q l u) ≡ found_with x None (Node x n l r) z
next_map x n m q l r u (kl, kr, sl, sr) i z =
    let lt : x < m = (i.above x kr).0 in
    elim (cases_lt z x) [
      | inl below ↦ grind (arith, nat_tests, lt, below)
      | inr le ↦ elim (cases_lt z m) [
        | inl between ↦ grind (arith, nat_tests, lt, le, between, not_below z x l le kl, i.none z between)
        | inr ge ↦ grind (arith, nat_tests, lt, ge, i.map z, i.at)
      ]
    ]

next : (x n m q : ℕ) (l r u : Tree) → IsSearch (Node x n l r) → IsBalanced (Node x n l r) → Leaves m q r u → Removes x (Node x n l r) (joined m q l u)
next x n m q l r u (kl, kr, sl, sr) (h, hl, hr) i =
    let lt : x < m = (i.above x kr).0 in
    let s : IsSearch (Node m q l u) = (below_more x m l (omega (arith, lt)) kl, i.over, sl, i.search) in
    let same = joined_keeps m q l u s in
    record {
      search = same.search;
      balanced = (joined_again m q l u hl i.balanced (omega (arith, i.grown.high, h.left)) (omega (arith, i.grown.low, h.right))).balanced;
      map = λ z. same.map z ∙ next_map x n m q l r u (kl, kr, sl, sr) i z;
      below = λ j (jk, jl, jr). same.below j ((i.below j jr).0, jl, (i.below j jr).1);
      above = λ j (jk, jl, jr). same.above j ((i.above j jr).0, jl, (i.above j jr).1);
      grown = right_fallen m q l u (height r) hl i.balanced h i.grown;
    }

merges : (x n : ℕ) (l r : Tree) → IsSearch (Node x n l r) → IsBalanced (Node x n l r) → Removes x (Node x n l r) (merged l r)
merges x n l Empty s h = alone x n l s h
merges x n l (Node k p a b) s h = next x n (least_key k p a) (least_number k p a) l (Node k p a b) (without_least k p a b) s h (leaves k p a b s.3 h.2)

on_left : (x k n : ℕ) (l r u : Tree) → x < k → IsSearch (Node k n l r) → IsBalanced (Node k n l r) → Removes x l u → Removes x (Node k n l r) (joined k n u r)
on_left x k n l r u lt (kl, kr, sl, sr) (h, hl, hr) i =
    let s : IsSearch (Node k n u r) = (i.below k kl, kr, i.search, sr) in
    let same = joined_keeps k n u r s in
    record {
      search = same.search;
      balanced = (joined_again k n u r i.balanced hr (omega (arith, i.grown.low, h.left)) (omega (arith, i.grown.high, h.right))).balanced;
      map = λ z. same.map z ∙ grind (arith, nat_tests, lt, i.map z);
      below = λ j (jk, jl, jr). same.below j (jk, i.below j jl, jr);
      above = λ j (jk, jl, jr). same.above j (jk, i.above j jl, jr);
      grown = left_fallen k n u r (height l) i.balanced hr h i.grown;
    }

on_right : (x k n : ℕ) (l r u : Tree) → k < x → IsSearch (Node k n l r) → IsBalanced (Node k n l r) → Removes x r u → Removes x (Node k n l r) (joined k n l u)
on_right x k n l r u lt (kl, kr, sl, sr) (h, hl, hr) i =
    let s : IsSearch (Node k n l u) = (kl, i.above k kr, sl, i.search) in
    let same = joined_keeps k n l u s in
    record {
      search = same.search;
      balanced = (joined_again k n l u hl i.balanced (omega (arith, i.grown.high, h.left)) (omega (arith, i.grown.low, h.right))).balanced;
      map = λ z. same.map z ∙ grind (arith, nat_tests, lt, i.map z);
      below = λ j (jk, jl, jr). same.below j (jk, jl, i.below j jr);
      above = λ j (jk, jl, jr). same.above j (jk, jl, i.above j jr);
      grown = right_fallen k n l u (height r) hl i.balanced h i.grown;
    }

removes_empty : (x : ℕ) → Removes x Empty Empty
removes_empty x =
    record {
      search = tt;
      balanced = tt;
      map = λ z. grind (arith, nat_tests);
      below = λ j h. tt;
      above = λ j h. tt;
      grown = record { low = omega arith; high = omega arith };
    }

removes : (x : ℕ) (t : Tree) → IsSearch t → IsBalanced t → Removes x t (removed x t)
removes x Empty s h = removes_empty x
removes x (Node k n l r) s h = elim (cases_lt x k) [
  | inl lt ↦ rw (ne_eqb x k (λ e. omega (arith, e, lt)), lt-ltb x k lt) (on_left x k n l r (removed x l) lt s h (removes x l s.2 h.1))
  | inr le ↦ elim (cases_lt k x) [
    | inl lt ↦ rw (ne_eqb x k (λ e. omega (arith, e, lt)), le-ltb x k le) (on_right x k n l r (removed x r) lt s h (removes x r s.3 h.2))
    | inr ge ↦
        let e : x ≡ k = omega (arith, le, ge) in
        rw (eq-eqb x k e, e) (merges k n l r s h)
  ]
]

pub removes_well : RemovesWell
removes_well x t s h =
    let i = removes x t s h in
    (record { search = i.search; balanced = i.balanced; map = i.map }, i.grown.low, i.grown.high)
