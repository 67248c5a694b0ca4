-- the other identities of a pool, one after the other: what is proved of it
use Rattle.std.proofs.Common.{◌≡◌, ◌≢◌, ℕ, ◌+◌, ◌<◌, ◌≤◌, ◌⊎◌, refl, arith, Bool, true, false, inl, inr}
use Rattle.std.proofs.lemmas.Bool.{cases_eq, ltb-false, ltb-true}
use Rattle.std.specs.Prelude.{nat_lt, if◌then◌else◌}
use Rattle.shm_recover.specs.Others.{other_at}

-- by whether it comes before c
by_place : (c k : ℕ) (P : ℕ → Type 0) → (k < c → P k) → (c ≤ k → P (k + 1)) → P (other_at c k)
by_place c k P below above = go (nat_lt k c) (ltb-true k c) (ltb-false k c)
  where
    go : (q : Bool) → (q ≡ true → k < c) → (q ≡ false → c ≤ k) → P (if q then k else k + 1)
    go true low far = below (low refl)
    go false low far = above (far refl)

-- it is another one, of the pool where there are so many
pub other_not : (c k : ℕ) → other_at c k ≢ c
other_not c k = by_place c k (λ x. x ≢ c) (λ l e. absurd (omega arith)) (λ l e. absurd (omega arith))

pub other_low : (c k n : ℕ) → c < n → k + 1 < n → other_at c k < n
other_low c k n lc lk = by_place c k (λ x. x < n) (λ l. omega arith) (λ l. omega arith)

-- nobody else comes before the first one
pub none_before : (c j : ℕ) → j < other_at c 0 → j ≢ c → ⊥
none_before c j l other = by_place c 0 (λ x. j < x → ⊥) (λ b s. absurd (omega arith)) (λ b s. other (omega arith)) l

-- those before the next one come before this one, or are it
pub before_next : (c k j : ℕ) → j < other_at c (k + 1) → j ≢ c → (j < other_at c k) ⊎ (j ≡ other_at c k)
before_next c k j l other =
    by_place c (k + 1) (λ y. j < y → (j < other_at c k) ⊎ (j ≡ other_at c k))
    (λ b s. by_place c k (λ x. (j < x) ⊎ (j ≡ x)) (λ d. or_it k (omega arith)) (λ d. absurd (omega arith)))
    (λ b s. by_place c k (λ x. (j < x) ⊎ (j ≡ x)) (λ d. or_it k (omega arith)) (λ d. or_it (k + 1) (omega arith)))
    l
  where
    or_it : (x : ℕ) → j ≤ x → (j < x) ⊎ (j ≡ x)
    or_it x le = elim (cases_eq j x) [ inl e ↦ inr e | inr n ↦ inl (omega arith) ]

-- and this one before the next
pub rises : (c k : ℕ) → other_at c k < other_at c (k + 1)
rises c k = by_place c k (λ x. x < other_at c (k + 1)) (λ l. by_place c (k + 1) (λ y. k < y) (λ m. omega arith) (λ m. omega arith)) (λ l. by_place c (k + 1) (λ y. k + 1 < y) (λ m. absurd (omega arith)) (λ m. omega arith))

-- where it is the last one of n, all others come before it or are it
pub before_last : (c k n j : ℕ) → c < n → k + 2 ≡ n → j < n → j ≢ c → (j < other_at c k) ⊎ (j ≡ other_at c k)
before_last c k n j lc last l other = before_next c k j (by_place c (k + 1) (λ y. j < y) (λ b. absurd (omega arith)) (λ b. omega arith)) other
