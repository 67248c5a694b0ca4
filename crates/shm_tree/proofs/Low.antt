-- How high a balanced tree of n keys may be.
use Rattle.std.proofs.{Common.{◌≡◌, ℕ, suc, ◌+◌, ◌*◌, ◌^◌, ◌≤◌, max, inl, inr, refl, arith}, lemmas.Bool.cases_lt}
use Rattle.std.proofs.{lemmas.Nat.mul-le, Math.Nat.{add-mul, mul-add, pow-suc}}
use Rattle.shm_tree.specs.Trees.{Empty, Node, height, size, AreNear, IsLow}

square_of_sum : (a b : ℕ) → (a + b) * (a + b) ≡ (a * a + a * b) + (b * a + b * b)
square_of_sum a b = rw (add-mul a b (a + b), mul-add a a b, mul-add b a b) refl

-- of two numbers the square of the sum, where one square is at least 2 x and the other at least x
square_sum : (x a b : ℕ) → x * 2 ≤ a * a → x ≤ b * b → x * 2 * 2 ≤ (a + b) * (a + b)
square_sum x a b ha hb = rw (square_of_sum a b) (elim (cases_lt a b) [
  | inl lt ↦ omega (arith, ha, hb, mul-le a a a b (omega arith) (omega (arith, lt)), mul-le a a b a (omega (arith, lt)) (omega arith))
  | inr le ↦ omega (arith, ha, hb, mul-le b b a b le (omega arith), mul-le b b b a (omega arith) le)
])

-- and where both are at least x
square_twice : (x a b : ℕ) → x ≤ a * a → x ≤ b * b → x * 2 ≤ (a + b) * (a + b)
square_twice x a b ha hb = rw (square_of_sum a b) (omega (arith, ha, hb))

low_node : (i j a b : ℕ) → AreNear i j → 2 ^ i ≤ a * a → 2 ^ j ≤ b * b → 2 ^ (1 + max i j) ≤ (a + b) * (a + b)
low_node i j a b h ha hb = elim (cases_lt i j) [
  | inl lt ↦
      let e : j ≡ suc i = omega (arith, lt, h.right) in
      let m : 1 + max i j ≡ suc (suc i) = omega (arith, e) in
      let t : a + b ≡ b + a = omega arith in
      rw (m, t, pow-suc 2 (suc i), pow-suc 2 i) (square_sum (2 ^ i) b a (rw (e, pow-suc 2 i) at hb) ha)
  | inr le ↦ elim (cases_lt j i) [
    | inl lt ↦
        let e : i ≡ suc j = omega (arith, lt, h.left) in
        let m : 1 + max i j ≡ suc (suc j) = omega (arith, e) in
        rw (m, pow-suc 2 (suc j), pow-suc 2 j) (square_sum (2 ^ j) a b (rw (e, pow-suc 2 j) at ha) hb)
    | inr le' ↦
        let e : j ≡ i = omega (arith, le, le') in
        let m : 1 + max i j ≡ suc i = omega (arith, e) in
        rw (m, pow-suc 2 i) (square_twice (2 ^ i) a b ha (rw e at hb))
  ]
]

pub low : IsLow
low Empty h = omega arith
low (Node k n l r) (h, hl, hr) =
    let e : 1 + size l + size r + 1 ≡ (size l + 1) + (size r + 1) = omega arith in
    rw e (low_node (height l) (height r) (size l + 1) (size r + 1) h (low l hl) (low r hr))
