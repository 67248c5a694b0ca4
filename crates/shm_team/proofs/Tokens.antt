-- tokens in the order of their identities
use Rattle.std.proofs.Common.{◌≡◌, ℕ, zero, suc, ◌+◌, ◌<◌, ◌≤◌, eqb, cond, List, [], ◌∷◌, length, ap, ◌∙◌, subst, arith}
use Rattle.std.proofs.lemmas.Bool.{cond-false, cond-true, eq-eqb, ne_eqb}
use Rattle.std.specs.Prelude.{slice_index_or}
use Rattle.shm_graph.specs.{declared.run.Account.Account, Runs.account_at}
use Rattle.shm_pool.specs.Rules.{count_in}
use Rattle.shm_pool.specs.Tokens.{AllOf, Its, Token, accounts_of, by_who, find, first_tokens, token_first}
use Rattle.shm_team.specs.Jobs.{AreTokens}

pub first_at : (p : Its) (b n i : ℕ) (d : Token) → i < n → slice_index_or (first_tokens p b n) i d ≡ token_first p (b + i)
first_at p b zero i d l = absurd (omega arith)
first_at p b (suc n) zero d l = let e : b ≡ b + 0 = omega arith in ap (token_first p) e
first_at p b (suc n) (suc i) d l = let e : suc b + i ≡ b + suc i = omega arith in first_at p (suc b) n i d (omega arith) ∙ ap (token_first p) e

-- tokens of the identities from b on
abbrev From : ℕ → List Token → Type 0
From b ts = (i : ℕ) (t : Token) → i < length ts → (slice_index_or ts i t).account.who ≡ b + i

rest_from : (b : ℕ) (t : Token) (ts : List Token) → From b (t ∷ ts) → From (suc b) ts
rest_from b t ts h i d l = h (suc i) d (omega arith) ∙ (let e : b + suc i ≡ suc b + i = omega arith in e)

find_from : (b : ℕ) (ts : List Token) (i : ℕ) (d : Token) → From b ts → i < length ts → find (b + i) (accounts_of ts) ≡ (slice_index_or ts i d).account
find_from b [] i d h l = absurd (omega arith)
find_from b (t ∷ ts) zero d h l = cond-true (eqb t.account.who (b + 0)) t.account (find (b + 0) (accounts_of ts)) (eq-eqb t.account.who (b + 0) (h 0 d (omega arith)))
find_from b (t ∷ ts) (suc i) d h l =
    let w = h 0 d (omega arith) in
    cond-false (eqb t.account.who (b + suc i)) t.account (find (b + suc i) (accounts_of ts)) (ne_eqb t.account.who (b + suc i) (λ e. absurd (omega arith)))
    ∙ (let e : b + suc i ≡ suc b + i = omega arith in ap (λ (n : ℕ). find n (accounts_of ts)) e ∙ find_from (suc b) ts i d (rest_from b t ts h) (omega arith))

one_first : (k n : ℕ) → k ≡ 1 → 1 ≤ k + n
one_first k n e = omega (arith, e)

one_behind : (k n : ℕ) → 1 ≤ n → 1 ≤ k + n
one_behind k n l = omega (arith, l)

count_from : (b : ℕ) (ts : List Token) (i : ℕ) → From b ts → i < length ts → 1 ≤ count_in (b + i) (accounts_of ts)
count_from b [] i h l = absurd (omega arith)
count_from b (t ∷ ts) zero h l =
    one_first (cond (eqb t.account.who (b + 0)) 1 0) (count_in (b + 0) (accounts_of ts)) (cond-true (eqb t.account.who (b + 0)) 1 0 (eq-eqb t.account.who (b + 0) (h 0 t (omega arith))))
count_from b (t ∷ ts) (suc i) h l =
    let more = count_from (suc b) ts i (rest_from b t ts h) (omega arith) in
    let e : suc b + i ≡ b + suc i = omega arith in
    one_behind (cond (eqb t.account.who (b + suc i)) 1 0) (count_in (b + suc i) (accounts_of ts)) (subst (λ (n : ℕ). 1 ≤ count_in n (accounts_of ts)) e more)

at_who : (b n i : ℕ) (rs : List Account) → i < n → account_at (by_who b n rs) i ≡ find (b + i) rs
at_who b zero i rs l = absurd (omega arith)
at_who b (suc n) zero rs l = let e : b ≡ b + 0 = omega arith in ap (λ (z : ℕ). find z rs) e
at_who b (suc n) (suc i) rs l = let e : suc b + i ≡ b + suc i = omega arith in at_who (suc b) n i rs (omega arith) ∙ ap (λ (z : ℕ). find z rs) e

module _ (p : Its) (ts : List Token) (h : AreTokens p ts) where
  from : From 0 ts
  from i d l = h.who i d l ∙ (let e : i ≡ 0 + i = omega arith in e)

  -- none is missing
  pub none_missing : (c : ℕ) → c < p.start.geometry.clients → count_in c (accounts_of ts) ≡ 0 → ⊥
  none_missing c l none =
      let many = h.many in
      let some = count_from 0 ts c from (omega arith) in
      let e : 0 + c ≡ c = omega arith in
      let there : 1 ≤ count_in c (accounts_of ts) = subst (λ (n : ℕ). 1 ≤ count_in n (accounts_of ts)) e some in
      omega arith

  -- the accounts are in their order
  pub account_in : (c : ℕ) (d : Token) → c < p.start.geometry.clients → account_at (by_who 0 p.start.geometry.clients (accounts_of ts)) c ≡ (slice_index_or ts c d).account
  account_in c d l = at_who 0 p.start.geometry.clients c (accounts_of ts) l ∙ find_from 0 ts c d from (let many = h.many in omega arith)

-- all of them are of the pool
pub all_of : (p : Its) (ts : List Token) → ((i : ℕ) (t : Token) → i < length ts → (slice_index_or ts i t).of ≡ p) → AllOf p ts
all_of p [] h = tt
all_of p (t ∷ ts) h = (h 0 t (omega arith), all_of p ts (λ i d l. h (suc i) d (omega arith)))
