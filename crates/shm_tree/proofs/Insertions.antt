-- Trees with a number put at a key.
use Rattle.std.proofs.Common.{◌≡◌, ℕ, ◌<◌, Some, inl, inr, ◌∙◌, arith}
use Rattle.std.proofs.lemmas.Bool.{cases_lt, eq-eqb, ne_eqb, le-ltb, lt-ltb, Decides.nat_tests}
use Rattle.shm_tree.specs.Trees.{Tree, Empty, Node, height, found, found_with, AreBelow, AreAbove, IsSearch, IsBalanced, InsertsWell, inserted, joined}
use Rattle.shm_tree.proofs.{Heights.{IsGrown, joined_again, left_grown, right_grown}, Searching.joined_keeps}

-- u is the tree t with y at x
record Inserts (x y : ℕ) (t u : Tree) : Type 0 where
  search : IsSearch u
  balanced : IsBalanced u
  map : (z : ℕ) → found z u ≡ found_with x (Some y) t z
  below : (j : ℕ) → x < j → AreBelow j t → AreBelow j u
  above : (j : ℕ) → j < x → AreAbove j t → AreAbove j u
  grown : IsGrown (height t) (height u)

new_node : (x y : ℕ) → Inserts x y Empty (Node x y Empty Empty)
new_node x y =
    record {
      search = (tt, tt, tt, tt);
      balanced = (record { left = omega arith; right = omega arith }, tt, tt);
      map = λ z. grind (arith, nat_tests);
      below = λ j lt h. (lt, tt, tt);
      above = λ j lt h. (lt, tt, tt);
      grown = record { low = omega arith; high = omega arith };
    }

same_node : (x y k n : ℕ) (l r : Tree) → x ≡ k → IsSearch (Node k n l r) → IsBalanced (Node k n l r) → Inserts x y (Node k n l r) (Node x y l r)
same_node x y k n l r e (kl, kr, sl, sr) (h, hl, hr) =
    record {
      search = (rw e kl, rw e kr, sl, sr);
      balanced = (h, hl, hr);
      map = λ z. grind (arith, nat_tests, e);
      below = λ j lt (jk, jl, jr). (lt, jl, jr);
      above = λ j lt (jk, jl, jr). (lt, jl, jr);
      grown = record { low = omega arith; high = omega arith };
    }

on_left : (x y k n : ℕ) (l r u : Tree) → x < k → IsSearch (Node k n l r) → IsBalanced (Node k n l r) → Inserts x y l u → Inserts x y (Node k n l r) (joined k n u r)
on_left x y k n l r u lt (kl, kr, sl, sr) (h, hl, hr) i =
    let s : IsSearch (Node k n u r) = (i.below k lt kl, kr, i.search, sr) in
    let same = joined_keeps k n u r s in
    record {
      search = same.search;
      balanced = (joined_again k n u r i.balanced hr (omega (arith, i.grown.high, h.left)) (omega (arith, i.grown.low, h.right))).balanced;
      map = λ z. same.map z ∙ grind (arith, nat_tests, lt, i.map z);
      below = λ j below (jk, jl, jr). same.below j (jk, i.below j below jl, jr);
      above = λ j above (jk, jl, jr). same.above j (jk, i.above j above jl, jr);
      grown = left_grown k n u r (height l) i.balanced hr h i.grown;
    }

on_right : (x y k n : ℕ) (l r u : Tree) → k < x → IsSearch (Node k n l r) → IsBalanced (Node k n l r) → Inserts x y r u → Inserts x y (Node k n l r) (joined k n l u)
on_right x y k n l r u lt (kl, kr, sl, sr) (h, hl, hr) i =
    let s : IsSearch (Node k n l u) = (kl, i.above k lt kr, sl, i.search) in
    let same = joined_keeps k n l u s in
    record {
      search = same.search;
      balanced = (joined_again k n l u hl i.balanced (omega (arith, i.grown.low, h.left)) (omega (arith, i.grown.high, h.right))).balanced;
      map = λ z. same.map z ∙ grind (arith, nat_tests, lt, i.map z);
      below = λ j below (jk, jl, jr). same.below j (jk, jl, i.below j below jr);
      above = λ j above (jk, jl, jr). same.above j (jk, jl, i.above j above jr);
      grown = right_grown k n l u (height r) hl i.balanced h i.grown;
    }

inserts : (x y : ℕ) (t : Tree) → IsSearch t → IsBalanced t → Inserts x y t (inserted x y t)
inserts x y Empty s h = new_node x y
inserts x y (Node k n l r) s h = elim (cases_lt x k) [
  | inl lt ↦ rw (ne_eqb x k (λ e. omega (arith, e, lt)), lt-ltb x k lt) (on_left x y k n l r (inserted x y l) lt s h (inserts x y l s.2 h.1))
  | inr le ↦ elim (cases_lt k x) [
    | inl lt ↦ rw (ne_eqb x k (λ e. omega (arith, e, lt)), le-ltb x k le) (on_right x y k n l r (inserted x y r) lt s h (inserts x y r s.3 h.2))
    | inr ge ↦
        let e : x ≡ k = omega (arith, le, ge) in
        rw (eq-eqb x k e) (same_node x y k n l r e s h)
  ]
]

pub inserts_well : InsertsWell
inserts_well x y t s h =
    let i = inserts x y t s h in
    (record { search = i.search; balanced = i.balanced; map = i.map }, i.grown.low, i.grown.high)
