-- the rule at the start, and where a view is cut or taken in
use Rattle.std.proofs.Common.{◌≡◌, ◌≢◌, ℕ, zero, suc, ◌+◌, ◌-◌, take, drop, ◌<◌, ◌≤◌, List, [], ◌∷◌, ◌++◌, set, refl, sym, ap, ◌∙◌, subst, arith}
use mathlib.Core.Option.{some}
use mathlib.Core.Logic.{dite}
use native.Mathlib.Decide.{ℕ_discrete}
use lib.ListN.{get_elem?}
use Rattle.atomic_table.proofs.Lists.{set_else}
use Rattle.atomic_table.specs.Table.{Splits, Joins}
use Rattle.shm_words.specs.Layout.{GeometryFits}
use Rattle.shm_graph.specs.declared.run.{Start.Start, Account.Account}
use Rattle.shm_graph.specs.Runs.{first_account, first_words, accounts_from, EraFits, Stood, IsAmong}
use Rattle.shm_graph.proofs.States.FirstHeld.{first_held, at-accounts_from, length-accounts_from}
use Rattle.shm_pool.specs.{Rules.{count_in, ViewKnows, Rule, no_account}, Tokens.{Its, token_first, first_tokens}}
use Rattle.shm_pool.proofs.Counts.{count_here, count_else, count_append, count_set, count_push, knows_at, knows_append, known_set, known_push}

count_below : (s : Start) (c b n : ℕ) → c < b → count_in c (accounts_from s b n) ≡ 0
count_below s c b zero l = refl
count_below s c b (suc n) l = let z = count_else c b (λ e. omega arith) in let ih = count_below s c (suc b) n (omega arith) in omega (arith, z, ih)

count_first : (s : Start) (c b n : ℕ) → b ≤ c → c < b + n → count_in c (accounts_from s b n) ≡ 1
count_first s c b zero low high = absurd (omega arith)
count_first s c b (suc n) low high =
    dite (ℕ_discrete b c)
    (λ e. let one = count_here c b e in let rest = count_below s c (suc b) n (omega arith) in omega (arith, one, rest))
    (λ ne. let z = count_else c b ne in let ih = count_first s c (suc b) n (omega arith) (omega arith) in omega (arith, z, ih))

first_among : (s : Start) (n c : ℕ) → c < n → IsAmong (accounts_from s 0 n) (first_account s c)
first_among s n c l = let e : 0 + c ≡ c = omega arith in (subst (λ (z : ℕ). c < z) (sym (length-accounts_from s 0 n)) l, at-accounts_from s 0 n c no_account l ∙ ap (first_account s) e)

knows_from : (s : Start) (n c k : ℕ) → c + k ≤ n → ViewKnows (accounts_from s 0 n) (accounts_from s c k)
knows_from s n c zero l = tt
knows_from s n c (suc k) l = (first_among s n c (omega arith), knows_from s n (suc c) k (omega arith))

pub opens : (s : Start) → GeometryFits s.geometry → EraFits s.first_era → Rule s (first_words s) (accounts_from s 0 s.geometry.clients ∷ [])
opens s fits era =
    let n : ℕ = s.geometry.clients in
    record {
      accounts = accounts_from s 0 n;
      turns = [];
      held = first_held s fits era;
      leads = refl;
      known = (knows_from s n 0 n (omega arith), tt);
      stands = λ c l. let one = count_first s c 0 n (omega arith) (omega arith) in omega (arith, one);
    }

-- the account that nobody has joined yet is one of a state that holds
pub first_stood : (s : Start) (c : ℕ) → GeometryFits s.geometry → EraFits s.first_era → c < s.geometry.clients → Stood s (first_account s c)
first_stood s c fits era l = record { words = first_words s; accounts = accounts_from s 0 s.geometry.clients; turns = []; held = first_held s fits era; leads = refl; here = first_among s s.geometry.clients c l }

module _ (g : Start) (ws : List ℕ) (views : List (List Account)) (r : Rule g ws views) where
  -- a view is cut in two
  pub cuts : (id : ℕ) (v left right : List Account) → get_elem? views id ≡ some v → ViewKnows r.accounts left → ViewKnows r.accounts right → ((c : ℕ) → count_in c left + count_in c right ≡ count_in c v) → Rule g ws (set views id left ++ right ∷ [])
  cuts id v left right at kl kr counts = record {
    accounts = r.accounts;
    turns = r.turns;
    held = r.held;
    leads = r.leads;
    known = known_push r.accounts (set views id left) right (known_set r.accounts views id left r.known kl) kr;
    stands = λ c l. let a = count_push c (set views id left) right in let b = count_set c views id v left at in let d = counts c in let was = r.stands c l in omega (arith, a, b, d, was);
  }

  -- a view takes in another
  pub joins : (id : ℕ) (v : List Account) (other : ℕ) (w : List Account) → get_elem? views id ≡ some v → other ≢ id → get_elem? (set views id (w ++ v)) other ≡ some w → Rule g ws (set (set views id (w ++ v)) other [])
  joins id v other w at apart there = let was : get_elem? views other ≡ some w = sym (set_else views id other (w ++ v) apart) ∙ there in record {
    accounts = r.accounts;
    turns = r.turns;
    held = r.held;
    leads = r.leads;
    known = known_set r.accounts (set views id (w ++ v)) other [] (known_set r.accounts views id (w ++ v) r.known (knows_append r.accounts w v (knows_at r.accounts views other w r.known was) (knows_at r.accounts views id v r.known at))) tt;
    stands = λ c l. let a = count_set c (set views id (w ++ v)) other w [] there in let b = count_set c views id v (w ++ v) at in let d = count_append c w v in let n = r.stands c l in omega (arith, a, b, d, n);
  }

  -- a new seat that answers for nobody
  pub enters : Rule g ws (views ++ [] ∷ [])
  enters = record {
    accounts = r.accounts;
    turns = r.turns;
    held = r.held;
    leads = r.leads;
    known = known_push r.accounts views [] r.known tt;
    stands = λ c l. let a = count_push c views [] in let n = r.stands c l in omega (arith, a, n);
  }

-- what the table asks where the first identity of a view is cut off
pub cut_as : (g : Start) (id : ℕ) (v : List Account) (e : Account) (w : List Account) → v ≡ e ∷ w → Splits {S = Unit {0}} (λ s. Rule g s.words s.views) id v (drop 1 v) (take 1 v)
cut_as g id v e w is = subst (λ (z : List Account). Splits {S = Unit {0}} (λ s. Rule g s.words s.views) id z (drop 1 z) (take 1 z)) (sym is)
    (λ s r at. let k = knows_at r.accounts s.views id (e ∷ w) r.known at in cuts g s.words s.views r id (e ∷ w) w (e ∷ []) at k.1 (k.0, tt) (λ c. omega arith))

-- what it asks where a view takes in another
pub glue_as : (g : Start) (id : ℕ) (v : List Account) (other : ℕ) (w : List Account) → Joins {S = Unit {0}} (λ s. Rule g s.words s.views) id v other w (w ++ v) []
glue_as g id v other w s r at apart there = joins g s.words s.views r id v other w at apart there

pub first_cut : (s : Start) (n c : ℕ) → c < n → accounts_from s c (n - c) ≡ first_account s c ∷ accounts_from s (c + 1) (n - (c + 1))
first_cut s n c l = let e : n - c ≡ suc (n - (c + 1)) = omega arith in let f : suc c ≡ c + 1 = omega arith in ap (accounts_from s c) e ∙ (λ i. first_account s c ∷ accounts_from s (f i) (n - (c + 1)))

pub first_tokens_more : (p : Its) (c n : ℕ) → first_tokens p c (n + 1) ≡ first_tokens p c n ++ token_first p (c + n) ∷ []
first_tokens_more p c zero = let e : c ≡ c + 0 = omega arith in λ i. token_first p (e i) ∷ []
first_tokens_more p c (suc n) = let e : suc n + 1 ≡ suc (n + 1) = omega arith in let f : suc c + n ≡ c + suc n = omega arith in
    ap (first_tokens p c) e ∙ (λ i. token_first p c ∷ (first_tokens_more p (suc c) n ∙ ap (λ (z : ℕ). first_tokens p (suc c) n ++ token_first p z ∷ []) f) i)
