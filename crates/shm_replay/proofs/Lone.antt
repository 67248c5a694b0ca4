-- rounds in which the agents of one identity alone have anything to do
use Rattle.std.proofs.Common.{◌≡◌, ◌≢◌, ℕ, zero, suc, ◌+◌, ◌-◌, ◌<◌, ◌≤◌, false, List, [], ◌∷◌, ◌++◌, length, append_assoc, zero-add, refl, sym, ap, ◌∙◌, arith, inl, inr}
use Rattle.std.proofs.lemmas.Bool.{cases_lt}
use Rattle.std.specs.{Prelude.{Option, Some, None, slice_index_or}, List.AllByRecursion, Option.is_some}
use Rattle.shm_graph.specs.{declared.run.Start.Start, Runs.account_at}
use Rattle.shm_count.specs.Roots.{member}
use Rattle.shm_plain.specs.Pools.{Pool}
use Rattle.shm_script.specs.{Ranges.ScriptFits, Values.{Scripted, Traced}}
use Rattle.shm_agents.specs.{Agents.Playing, Turns.{next_by, script_in}}
use Rattle.shm_replay.specs.{Orders.{from_on, rounds_of}, AtWork.has_work, Seats.{AreSeated, Seat}}
use Rattle.shm_replay.specs.Turns.{given, in_a_row, is_busy, next_work}
use Rattle.shm_replay.proofs.{Gathering.script_beyond, Giving.{given-append, idle_row}}
use Rattle.shm_replay.proofs.Seating.{no_script_busy, none_busy, seat_busy}

-- what an identity has to do stays where its account does
same_work : (p q : Pool) (d : ℕ) (o : Option Scripted) → q.start ≡ p.start → account_at q.accounts d ≡ account_at p.accounts d → next_work q d o ≡ next_work p d o
same_work p q d None start same = refl
same_work p q d (Some s) start same = ap (λ (x : Start). next_by (member x.geometry d) s (account_at q.accounts d)) start ∙ ap (next_by (member p.start.geometry d) s) same

pub same_busy : (t : Traced) (p q : Pool) (d : ℕ) → q.start ≡ p.start → account_at q.accounts d ≡ account_at p.accounts d → is_busy t q d ≡ is_busy t p d
same_busy t p q d start same = ap is_some (same_work p q d (script_in t.scripts d) start same)

-- an identity has something to do where its agents have
pub seat_work : (t : Traced) (p : Pool) (c : ℕ) (o : Option Playing) → Seat t p c o → is_busy t p c ≡ has_work o
seat_work t p c None h = none_busy t p c h
seat_work t p c (Some x) h = seat_busy t p c x h

-- so in all seats, and past them
pub work_idle : (t : Traced) (p : Pool) (xs : List (Option Playing)) → AreSeated t p xs → AllByRecursion (ScriptFits t.clients) t.scripts → (d : ℕ) → has_work (slice_index_or xs d None) ≡ false → is_busy t p d ≡ false
work_idle t p xs h fits d none = elim (cases_lt d t.clients) [
  | inl few ↦ seat_work t p d (slice_index_or xs d None) (h.seats d few) ∙ none
  | inr far ↦ no_script_busy t p d (script_beyond t.clients t.scripts d fits far)
]

-- past its end a list has what is taken for none
pub beyond : {A : Type 0} (xs : List A) (i : ℕ) (d : A) → length xs ≤ i → slice_index_or xs i d ≡ d
beyond [] i d l = refl
beyond (x ∷ xs) zero d l = absurd (omega arith)
beyond (x ∷ xs) (suc i) d l = beyond xs i d (omega arith)

-- the identities behind k of them
from_split : (c k m n j : ℕ) → n ≡ k + suc m → j ≡ c + k → from_on c n ≡ from_on c k ++ j ∷ from_on (suc j) m
from_split c zero m n j e f =
    ap (from_on c) (let g : n ≡ suc m = omega arith in g) ∙ ap (λ i. i ∷ from_on (suc i) m) (let g : c ≡ j = omega arith in g)
from_split c (suc k) m n j e f =
    ap (from_on c) (let g : n ≡ suc (k + suc m) = omega arith in g) ∙ ap (λ xs. c ∷ xs) (from_split (suc c) k m (k + suc m) j refl (omega arith))

-- rounds and then more
rounds_then : (clients n m : ℕ) → rounds_of clients (n + m) ≡ rounds_of clients n ++ rounds_of clients m
rounds_then clients zero m = ap (rounds_of clients) (zero-add m)
rounds_then clients (suc n) m =
    ap (rounds_of clients) (let e : suc n + m ≡ suc (n + m) = omega arith in e)
    ∙ (ap (λ xs. from_on 0 clients ++ xs) (rounds_then clients n m) ∙ sym (append_assoc (from_on 0 clients) (rounds_of clients n) (rounds_of clients m)))

module _ (t : Traced) where
  -- turns of identities that have nothing to do change nothing
  idle_from : (p : Pool) (c n : ℕ) → ((d : ℕ) → c ≤ d → d < c + n → is_busy t p d ≡ false) → given t p (from_on c n) ≡ p
  idle_from p c zero h = refl
  idle_from p c (suc n) h =
      ap (λ (x : Pool). given t x (from_on (suc c) n)) (idle_row t p c 1 (h c (omega arith) (omega arith)))
      ∙ idle_from p (suc c) n (λ d a b. h d (omega arith) (omega arith))

  -- a round is a turn of the one that has something to do
  pub lone_round : (p q : Pool) (c : ℕ) → c < t.clients → q ≡ in_a_row t p c 1 → ((d : ℕ) → d ≢ c → is_busy t p d ≡ false) → ((d : ℕ) → d ≢ c → is_busy t q d ≡ false) → q ≡ given t p (from_on 0 t.clients)
  lone_round p q c l is before after =
      let m : ℕ = t.clients - suc c in
      let split = from_split 0 c m t.clients c (omega arith) (sym (zero-add c)) in
      sym
      (ap (given t p) split
      ∙ (given-append t p (from_on 0 c) (c ∷ from_on (suc c) m)
      ∙ (ap (λ (x : Pool). given t x (c ∷ from_on (suc c) m)) (idle_from p 0 c (λ d a b. before d (omega arith)))
      ∙ (ap (λ (x : Pool). given t x (from_on (suc c) m)) (sym is)
      ∙ idle_from q (suc c) m (λ d a b. after d (omega arith))))))

  pub rounds_on : (p q r : Pool) (n m : ℕ) → q ≡ given t p (rounds_of t.clients n) → r ≡ given t q (rounds_of t.clients m) → r ≡ given t p (rounds_of t.clients (n + m))
  rounds_on p q r n m e f =
      f ∙ (ap (λ (x : Pool). given t x (rounds_of t.clients m)) e
      ∙ (sym (given-append t p (rounds_of t.clients n) (rounds_of t.clients m)) ∙ ap (given t p) (sym (rounds_then t.clients n m))))
