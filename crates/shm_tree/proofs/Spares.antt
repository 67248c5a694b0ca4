-- Of sixteen roots at most twelve are those of registers.
use Rattle.std.proofs.Common.{◌≡◌, ◌≢◌, ◌==◌, ℕ, zero, suc, ◌+◌, ◌<◌, ◌≤◌, Bool, true, false, cond, List, [], ◌∷◌, length, lit≤, refl, sym, ap, ◌∙◌, arith, inl, inr, ◌⊎◌, true≢false}
use Rattle.std.proofs.lemmas.Bool.{cases_Bool, cases_eq, cond-false, cond-true, eq-eqb, ne_eqb}
use Rattle.std.specs.Prelude.{slice_index}
use Rattle.shm_graph.specs.References.{one_if, sum_below}
use Rattle.shm_plain.specs.Pools.{Pool}
use Rattle.shm_tree.specs.{declared.registers.Registers.Registers, Building.{root_block, rooms}}
use Rattle.shm_tree.specs.Forests.{IsFree, IsTidy}

abbrev among : List ℕ → ℕ → Bool
among [] k = false
among (x ∷ xs) k = cond (k == x) true (among xs k)

-- how many numbers below n are among these
abbrev used : List ℕ → ℕ → ℕ
used xs n = sum_below n (λ k. one_if (among xs k))

counted_most : (c : Bool) → one_if c ≤ 1
counted_most true = lit≤ tt
counted_most false = lit≤ tt

used_none : (n : ℕ) → used [] n ≡ 0
used_none zero = refl
used_none (suc n) = let a = used_none n in omega arith

among_other : (x k : ℕ) (xs : List ℕ) → k ≢ x → among (x ∷ xs) k ≡ among xs k
among_other x k xs ne = cond-false (k == x) true (among xs k) (ne_eqb k x ne)

used_before : (x : ℕ) (xs : List ℕ) (n : ℕ) → n ≤ x → used (x ∷ xs) n ≡ used xs n
used_before x xs zero le = refl
used_before x xs (suc n) le =
    let a = used_before x xs n (omega arith) in
    let e : one_if (among (x ∷ xs) n) ≡ one_if (among xs n) = ap one_if (among_other x n xs (omega arith)) in
    omega arith

used_more : (x : ℕ) (xs : List ℕ) (n : ℕ) → used (x ∷ xs) n ≤ used xs n + 1
used_more x xs zero = lit≤ tt
used_more x xs (suc n) =
    elim (cases_eq n x) [
      | inl e ↦ (let a = used_before x xs n (omega arith) in let o = counted_most (among (x ∷ xs) n) in omega arith)
      | inr d ↦ (let a = used_more x xs n in let e : one_if (among (x ∷ xs) n) ≡ one_if (among xs n) = ap one_if (among_other x n xs d) in omega arith)
    ]

used_few : (xs : List ℕ) (n : ℕ) → used xs n ≤ length xs
used_few [] n = let e = used_none n in omega arith
used_few (x ∷ xs) n = let a = used_few xs n in let b = used_more x xs n in omega arith

-- what isn't among these is at none of their places
none_at : (xs : List ℕ) (k : ℕ) → among xs k ≡ false → (r : ℕ) → r < length xs → slice_index xs r ≢ k
none_at [] k e r lt is = absurd (omega arith)
none_at (x ∷ xs) k e zero lt is = true≢false (sym (cond-true (k == x) true (among xs k) (eq-eqb k x (sym is))) ∙ e)
none_at (x ∷ xs) k e (suc r) lt is =
    elim (cases_eq k x) [
      | inl eq ↦ true≢false (sym (cond-true (k == x) true (among xs k) (eq-eqb k x eq)) ∙ e)
      | inr ne ↦ none_at xs k (sym (among_other x k xs ne) ∙ e) r (omega arith) is
    ]

-- and what is among these is at one
some_at : (xs : List ℕ) (k : ℕ) → among xs k ≡ true → (r : ℕ) × (r < length xs) × (slice_index xs r ≡ k)
some_at [] k e = absurd (true≢false (sym e))
some_at (x ∷ xs) k e =
    elim (cases_eq k x) [
      | inl is ↦ (0, omega arith, sym is)
      | inr ne ↦ (let s = some_at xs k (sym (among_other x k xs ne) ∙ e) in let l = s.1 in (suc s.0, omega (arith, l), s.2))
    ]

-- a root is a register's, or no register has it
pub owner : (xs : List ℕ) (k : ℕ) → length xs ≡ 12 → ((r : ℕ) × (r < 12) × (slice_index xs r ≡ k)) ⊎ IsFree xs k
owner xs k long =
    elim (cases_Bool (among xs k)) [
      | inl e ↦ (let s = some_at xs k e in let l = s.1 in inl (s.0, omega (arith, l, long), s.2))
      | inr e ↦ inr (λ r lt. none_at xs k e r (omega (arith, lt, long)))
    ]

empty_or_used : (p : Pool) (xs : List ℕ) → length xs ≡ 12 → ((k : ℕ) → k < 16 → IsFree xs k → root_block p k ≡ 0) → (k : ℕ) → k < 16 → 1 ≤ one_if (root_block p k == 0) + one_if (among xs k)
empty_or_used p xs long tidy k lt = by (among xs k) refl
  where
    by : (b : Bool) → among xs k ≡ b → 1 ≤ one_if (root_block p k == 0) + one_if b
    by true e = omega arith
    by false e =
        let none = tidy k lt (λ r lr. none_at xs k e r (omega arith)) in
        let one : one_if (root_block p k == 0) ≡ 1 = ap one_if (eq-eqb (root_block p k) 0 none) in
        omega arith

all_counted : (p : Pool) (xs : List ℕ) → length xs ≡ 12 → ((k : ℕ) → k < 16 → IsFree xs k → root_block p k ≡ 0) → (n : ℕ) → n ≤ 16 → n ≤ sum_below n (λ k. one_if (root_block p k == 0)) + used xs n
all_counted p xs long tidy zero le = lit≤ tt
all_counted p xs long tidy (suc n) le = let a = all_counted p xs long tidy n (omega arith) in let b = empty_or_used p xs long tidy n (omega arith) in omega arith

-- where all roots beside those of registers are empty, four are
pub rooms_tidy : (f : Registers) → length f.roots ≡ 12 → IsTidy f → 4 ≤ rooms f.pool
unfolding rooms
rooms_tidy f long tidy =
    let a = all_counted f.pool f.roots long tidy 16 (lit≤ tt) in
    let b = used_few f.roots 16 in
    omega arith
