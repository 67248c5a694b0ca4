-- the accounts of a closed pool
use Rattle.std.proofs.Common.{◌≡◌, ◌≢◌, ℕ, zero, suc, ◌+◌, ◌<◌, ◌≤◌, Bool, List, [], ◌∷◌, ◌++◌, length, get_or, refl, sym, ap, ◌∙◌, subst, eq-eqb, ne_eqb, arith}
use Rattle.std.proofs.lemmas.List.{ext_get_or}
use Rattle.std.specs.Prelude.{if◌then◌else◌}
use mathlib.Core.Logic.{dite}
use native.Mathlib.Decide.{ℕ_discrete}
use mathlib.Core.Option.{some}
use lib.ListN.{get_elem?}
use Rattle.shm_graph.specs.{declared.run.{Start.Start, Account.Account}, Runs.{account_at, memos_of}}
use Rattle.shm_graph.proofs.States.StillClean.{still_state_clean}
use Rattle.shm_pool.specs.Rules.{count_in, ViewKnows, Rule, no_account}
use Rattle.shm_pool.specs.Tokens.{Its, Token, first_tokens, AllOf, accounts_of, AllStill, IsStill, find, by_who, IsClosedRun}
use Rattle.shm_pool.proofs.Counts.{count_else, knows_at}

pub accounts_append : (xs ys : List Token) → accounts_of (xs ++ ys) ≡ accounts_of xs ++ accounts_of ys
accounts_append [] ys = refl
accounts_append (x ∷ xs) ys = ap (λ (l : List Account). x.account ∷ l) (accounts_append xs ys)

pub of_front : (p : Its) (xs ys : List Token) → AllOf p (xs ++ ys) → AllOf p xs
of_front p [] ys a = tt
of_front p (x ∷ xs) ys a = (a.0, of_front p xs ys a.1)

pub of_last : (p : Its) (xs : List Token) (y : Token) → AllOf p (xs ++ y ∷ []) → y.of ≡ p
of_last p [] y a = a.0
of_last p (x ∷ xs) y a = of_last p xs y a.1

pub find_here : (c : ℕ) (r : Account) (rs : List Account) → r.who ≡ c → find c (r ∷ rs) ≡ r
find_here c r rs e = ap (λ (b : Bool). if b then r else find c rs) (eq-eqb r.who c e)

pub find_else : (c : ℕ) (r : Account) (rs : List Account) → r.who ≢ c → find c (r ∷ rs) ≡ find c rs
find_else c r rs ne = ap (λ (b : Bool). if b then r else find c rs) (ne_eqb r.who c ne)

pub found : (rs v : List Account) (c : ℕ) → ViewKnows rs v → 1 ≤ count_in c v → find c v ≡ account_at rs c
found rs [] c k h = absurd (omega arith)
found rs (r ∷ v) c k h = dite (ℕ_discrete r.who c)
    (λ e. find_here c r v e ∙ (sym k.0.1 ∙ ap (account_at rs) e))
    (λ ne. let z = count_else c r.who ne in find_else c r v ne ∙ found rs v c k.1 (omega arith))

pub still_found : (v : List Account) (c : ℕ) → AllStill v → 1 ≤ count_in c v → IsStill (find c v).memo
still_found [] c a h = absurd (omega arith)
still_found (r ∷ v) c a h = dite (ℕ_discrete r.who c)
    (λ e. subst (λ (z : Account). IsStill z.memo) (sym (find_here c r v e)) a.0)
    (λ ne. let z = count_else c r.who ne in subst (λ (z : Account). IsStill z.memo) (sym (find_else c r v ne)) (still_found v c a.1 (omega arith)))

length-by_who : (b n : ℕ) (v : List Account) → length (by_who b n v) ≡ n
length-by_who b zero v = refl
length-by_who b (suc n) v = ap suc (length-by_who (suc b) n v)

at-by_who : (b n i : ℕ) (v : List Account) (d : Account) → i < n → get_or (by_who b n v) i d ≡ find (b + i) v
at-by_who b zero i v d h = absurd (omega arith)
at-by_who b (suc n) zero v d h = let e : b ≡ b + 0 = omega arith in ap (λ (z : ℕ). find z v) e
at-by_who b (suc n) (suc i) v d h = let e : suc b + i ≡ b + suc i = omega arith in at-by_who (suc b) n i v d (omega arith) ∙ ap (λ (z : ℕ). find z v) e

pub sorted : (rs v : List Account) (n : ℕ) → length rs ≡ n → ViewKnows rs v → ((c : ℕ) → c < n → 1 ≤ count_in c v) → rs ≡ by_who 0 n v
sorted rs v n long k all = ext_get_or (no_account) rs (by_who 0 n v) (long ∙ sym (length-by_who 0 n v))
    (λ i h. let l : i < n = subst (λ (z : ℕ). i < z) long h in let e : i ≡ 0 + i = omega arith in sym (found rs v i k (all i l)) ∙ (ap (λ (z : ℕ). find z v) e ∙ sym (at-by_who 0 n i v (no_account) l)))

-- the state in which a seat answers for all
pub ends : (g : Start) (ws : List ℕ) (views : List (List Account)) (id : ℕ) (v : List Account) → Rule g ws views → get_elem? views id ≡ some v → AllStill v → ((c : ℕ) → c < g.geometry.clients → 1 ≤ count_in c v) → IsClosedRun g ws (by_who 0 g.geometry.clients v)
ends g ws views id v r at still all =
    let k = knows_at r.accounts views id v r.known at in
    let same : r.accounts ≡ by_who 0 g.geometry.clients v = sorted r.accounts v g.geometry.clients r.held.accounts k all in
    let each : (c : ℕ) → c < g.geometry.clients → IsStill (memos_of r.accounts c) = λ c l. subst (λ (z : Account). IsStill z.memo) (found r.accounts v c k (all c l)) (still_found v c still (all c l)) in
    subst (λ (rs : List Account). IsClosedRun g ws rs) same (record {
      turns = r.turns;
      held = r.held;
      leads = r.leads;
      still = each;
      clean = still_state_clean g.geometry ws r.accounts r.held (λ c l. (each c l).0);
    })

pub of_first : (p : Its) (c n : ℕ) → AllOf p (first_tokens p c n)
of_first p c zero = tt
of_first p c (suc n) = (refl, of_first p (suc c) n)
