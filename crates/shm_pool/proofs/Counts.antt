-- which identities stand in which views
use Rattle.std.proofs.Common.{◌≡◌, ◌≢◌, ℕ, zero, suc, ◌+◌, ◌<◌, ◌≤◌, ◌==◌, Bool, List, [], ◌∷◌, ◌++◌, length, set, sym, ap, ◌∙◌, subst, eq-eqb, ne_eqb, arith, length-set}
use Rattle.std.proofs.lemmas.List.{get_or-set_same, get_or-set_other}
use Rattle.std.specs.Prelude.{if◌then◌else◌}
use mathlib.Core.Option.{some, some-injective, some-ne-none}
use mathlib.Core.Logic.{dite}
use native.Mathlib.Decide.{ℕ_discrete}
use lib.ListN.{get_elem?}
use Rattle.shm_graph.specs.{declared.run.Account.Account, Runs.{account_at, IsAmong}}
use Rattle.shm_pool.specs.Rules.{count_in, count_by, ViewKnows, AllKnow, no_account}

abbrev one_if : Bool → ℕ
one_if b = if b then 1 else 0

pub count_here : (c w : ℕ) → w ≡ c → ◌≡◌ {A = ℕ} (if w == c then 1 else 0) 1
count_here c w e = ap one_if (eq-eqb w c e)

pub count_else : (c w : ℕ) → w ≢ c → ◌≡◌ {A = ℕ} (if w == c then 1 else 0) 0
count_else c w ne = ap one_if (ne_eqb w c ne)

pub count_append : (c : ℕ) (v w : List Account) → count_in c (v ++ w) ≡ count_in c v + count_in c w
count_append c [] w = omega arith
count_append c (r ∷ v) w = let ih = count_append c v w in omega (arith, ih)

pub count_set : (c : ℕ) (vs : List (List Account)) (i : ℕ) (v w : List Account) → get_elem? vs i ≡ some v → count_by c (set vs i w) + count_in c v ≡ count_by c vs + count_in c w
count_set c [] i v w e = absurd (some-ne-none v (sym e))
count_set c (x ∷ vs) zero v w e = let is : count_in c x ≡ count_in c v = ap (count_in c) (some-injective x v e) in omega (arith, is)
count_set c (x ∷ vs) (suc i) v w e = let ih = count_set c vs i v w e in omega (arith, ih)

pub count_push : (c : ℕ) (vs : List (List Account)) (w : List Account) → count_by c (vs ++ w ∷ []) ≡ count_by c vs + count_in c w
count_push c [] w = omega arith
count_push c (x ∷ vs) w = let ih = count_push c vs w in omega (arith, ih)

-- a view's count is part of all
pub count_at : (c : ℕ) (vs : List (List Account)) (i : ℕ) (v : List Account) → get_elem? vs i ≡ some v → count_in c v ≤ count_by c vs
count_at c [] i v e = absurd (some-ne-none v (sym e))
count_at c (x ∷ vs) zero v e = let is : count_in c x ≡ count_in c v = ap (count_in c) (some-injective x v e) in omega (arith, is)
count_at c (x ∷ vs) (suc i) v e = let ih = count_at c vs i v e in omega (arith, ih)

pub knows_at : (rs : List Account) (vs : List (List Account)) (i : ℕ) (v : List Account) → AllKnow rs vs → get_elem? vs i ≡ some v → ViewKnows rs v
knows_at rs [] i v k e = absurd (some-ne-none v (sym e))
knows_at rs (x ∷ vs) zero v k e = subst (ViewKnows rs) (some-injective x v e) k.0
knows_at rs (x ∷ vs) (suc i) v k e = knows_at rs vs i v k.1 e

pub knows_append : (rs v w : List Account) → ViewKnows rs v → ViewKnows rs w → ViewKnows rs (v ++ w)
knows_append rs [] w k l = l
knows_append rs (r ∷ v) w k l = (k.0, knows_append rs v w k.1 l)

pub known_set : (rs : List Account) (vs : List (List Account)) (i : ℕ) (w : List Account) → AllKnow rs vs → ViewKnows rs w → AllKnow rs (set vs i w)
known_set rs [] i w k l = tt
known_set rs (x ∷ vs) zero w k l = (l, k.1)
known_set rs (x ∷ vs) (suc i) w k l = (k.0, known_set rs vs i w k.1 l)

pub known_push : (rs : List Account) (vs : List (List Account)) (w : List Account) → AllKnow rs vs → ViewKnows rs w → AllKnow rs (vs ++ w ∷ [])
known_push rs [] w k l = (l, tt)
known_push rs (x ∷ vs) w k l = (k.0, known_push rs vs w k.1 l)

-- the account of an identity that does not stand here may change
pub knows_off : (rs : List Account) (c : ℕ) (r' : Account) (v : List Account) → count_in c v ≡ 0 → ViewKnows rs v → ViewKnows (set rs c r') v
knows_off rs c r' [] none k = tt
knows_off rs c r' (r ∷ v) none k = dite (ℕ_discrete r.who c)
    (λ e. let one = count_here c r.who e in absurd (omega arith))
    (λ ne. ((subst (λ (n : ℕ). r.who < n) (sym (length-set rs c r')) k.0.0, get_or-set_other rs c r.who r' (no_account) ne ∙ k.0.1), knows_off rs c r' v (omega arith) k.1))

pub known_off : (rs : List Account) (c : ℕ) (r' : Account) (vs : List (List Account)) → count_by c vs ≡ 0 → AllKnow rs vs → AllKnow (set rs c r') vs
known_off rs c r' [] none k = tt
known_off rs c r' (v ∷ vs) none k = (knows_off rs c r' v (omega arith) k.0, known_off rs c r' vs (omega arith) k.1)

-- an account that was put in its place
pub among_set : (rs : List Account) (c : ℕ) (r : Account) → r.who ≡ c → c < length rs → IsAmong (set rs c r) r
among_set rs c r is l = (
  subst (λ (n : ℕ). n < length (set rs c r)) (sym is) (subst (λ (n : ℕ). c < n) (sym (length-set rs c r)) l),
  ap (account_at (set rs c r)) is ∙ get_or-set_same rs c r no_account l,
)

-- one identity's account changes, in the view where it stands alone
pub known_step : (rs : List Account) (c : ℕ) (e r' : Account) (vs : List (List Account)) (i : ℕ) → AllKnow rs vs → get_elem? vs i ≡ some (e ∷ []) → e.who ≡ c → r'.who ≡ c → c < length rs → count_by c vs ≡ 1 → AllKnow (set rs c r') (set vs i (r' ∷ []))
known_step rs c e r' [] i k at is is' l one = absurd (some-ne-none (e ∷ []) (sym at))
known_step rs c e r' (v ∷ vs) zero k at is is' l one = let same : count_in c v ≡ count_in c (e ∷ []) = ap (count_in c) (some-injective v (e ∷ []) at) in let here = count_here c e.who is in
    ((among_set rs c r' is' l, tt), known_off rs c r' vs (omega arith) k.1)
known_step rs c e r' (v ∷ vs) (suc i) k at is is' l one = let some_there = count_at c vs i (e ∷ []) at in let here = count_here c e.who is in
    (knows_off rs c r' v (omega arith) k.0, known_step rs c e r' vs i k.1 at is is' l (omega arith))
