-- the queue is emptied by a pass that answers for all porters and medics: what is left stands behind the first list
use Rattle.std.proofs.Common.{◌≡◌, ℕ, ◌+◌, ◌<◌, ◌≤◌, List, [], ◌∷◌, ◌++◌, length, sym, refl, ap, ◌∙◌, subst, append_assoc, append-nil, arith, length-append}
use Rattle.std.proofs.lemmas.List.Elements.{All-nil, All-push, All-weaker}
use Rattle.std.proofs.lemmas.List.Sorted.{IsPermutation-trans, IsPermutation-append_right, IsPermutation-append_comm, length_permutation}
use Rattle.std.specs.List.{All, Sorted.IsPermutation}
use Rattle.crossbeam_queue.specs.Fifo.{Held, Pops}
use Rattle.shm_pool.specs.Tokens.{Its}
use Rattle.shm_morgue.specs.{declared.rule.{Desk.Desk, Hands.Hands, Taken.Taken}, Closing.IsEmptied}
use Rattle.shm_morgue.specs.{Entries.{IsInOrder, IsOf, Which}, Hands.{hands, take_first}}
use Rattle.shm_morgue.specs.Keeps.{MorgueHolds, MorgueKeeps, KnowsAll, TakesOne, on_desks, in_lists}
use Rattle.shm_morgue.proofs.{Moves.takes_one, Order.{Before, order_front, order_more}}
use Rattle.atomic_table.specs.Seated.{TableId}

-- what is left stands behind the first list
abbrev pub behind : List Taken → List (List Taken) → List (List Taken)
behind left [] = []
behind left (m ∷ ms) = (m ++ left) ∷ ms

-- so much of what the queue held is left
pub record Emptying (pools : List Its) (n k : ℕ) (desks : List Desk) (lists : List (List Taken)) (left : List Taken) (v : Hands) (count : ℕ) : Type 0 where
  pub view_is : v ≡ hands desks (behind left lists) n k
  pub order : All (λ (m : List Taken). IsInOrder (m ++ left)) lists
  pub of : All (IsOf pools) left
  pub many : length (on_desks desks) ≡ length (in_lists lists) + count

-- a pass of so many porters and medics that answers for all of them
pub record IsAll (n k : ℕ) (desks : List Desk) (lists : List (List Taken)) : Type 0 where
  pub some : 0 < n
  pub medics : 0 < k
  pub desks_there : n ≤ length desks
  pub lists_there : k ≤ length lists

pub is_all : (now : Which) (desks : List Desk) (lists : List (List Taken)) (clients medics : ℕ) {q : TableId} → record { queue = q; clients = clients; medics = medics } ≡ now → 0 < clients → 0 < medics → now.clients ≤ length desks → now.medics ≤ length lists
    → IsAll now.clients now.medics desks lists
is_all now desks lists clients medics is some any ds ms = record {
  some = subst (λ (w : Which). 0 < w.clients) is some;
  medics = subst (λ (w : Which). 0 < w.medics) is any;
  desks_there = ds;
  lists_there = ms;
}

behind_none : (lists : List (List Taken)) → behind [] lists ≡ lists
behind_none [] = refl
behind_none (m ∷ ms) = ap (λ (l : List Taken). l ∷ ms) (append-nil m)

behind_long : (left : List Taken) (lists : List (List Taken)) → length (behind left lists) ≡ length lists
behind_long left [] = refl
behind_long left (m ∷ ms) = refl

known : (pools : List Its) (n k : ℕ) (desks : List Desk) (lists : List (List Taken)) (left items : List Taken) (v : Hands) → IsAll n k desks lists → v ≡ hands desks (behind left lists) n k → KnowsAll pools v items → MorgueHolds pools items desks (behind left lists)
known pools n k desks lists left items v a e h =
    subst (λ (u : Hands). KnowsAll pools u items) e h a.some a.desks_there (subst (λ (x : ℕ). k ≤ x) (sym (behind_long left lists)) a.lists_there)

-- before anything is taken
pub empties : (pools : List Its) (n k : ℕ) (desks : List Desk) (lists : List (List Taken)) (v u : Hands) (count : ℕ) → IsAll n k desks lists → v ≡ hands desks lists n k → u ≡ v → Held count (KnowsAll pools v) → Emptying pools n k desks lists [] u count
empties pools n k desks lists v u count a e same held =
    let is : v ≡ hands desks (behind [] lists) n k = e ∙ ap (λ (l : List (List Taken)). hands desks l n k) (sym (behind_none lists)) in
    let h : MorgueHolds pools held.0 desks lists = subst (MorgueHolds pools held.0 desks) (behind_none lists) (known pools n k desks lists [] held.0 v a is held.2) in
    let long : length (in_lists lists ++ held.0) ≡ length (on_desks desks) = length_permutation (on_desks desks) (in_lists lists ++ held.0) h.once in record {
      view_is = same ∙ is;
      order = All-weaker (λ (m : List Taken). IsInOrder (m ++ held.0)) (λ (m : List Taken). IsInOrder (m ++ [])) (λ m o. subst IsInOrder (sym (append-nil m)) (order_front m held.0 o)) lists h.order;
      of = All-nil (IsOf pools);
      many = (let c : length held.0 ≡ count = held.1 in let l : length (in_lists lists ++ held.0) ≡ length (in_lists lists) + length held.0 = length-append (in_lists lists) held.0 in omega (arith, c, l, long));
    }

-- one more is taken
pub empties_more : (pools : List Its) (n k : ℕ) (desks : List Desk) (lists : List (List Taken)) (left : List Taken) (v u : Hands) (x : Taken) (count : ℕ) → IsAll n k desks lists → TakesOne pools v x u → Emptying pools n k desks lists left v count
    → Emptying pools n k desks lists (left ++ x ∷ []) u count
empties_more pools n k desks [] left v u x count a t h = absurd (let m = a.medics in let l = a.lists_there in omega arith)
empties_more pools n k desks (m ∷ ms) left v u x count a t h =
    let one : List Taken = x ∷ [] in record {
      view_is = t.0 ∙ ap (λ (z : Hands). record z { medics = take_first x z.medics }) h.view_is ∙ ap (λ (l : List Taken). hands desks (l ∷ ms) n k) (append_assoc m left one);
      order = order_more m ms left x (subst (λ (z : Hands). All (λ (l : List Taken). All (Before x) l) z.medics) h.view_is t.2) h.order;
      of = All-push (IsOf pools) left x h.of t.1;
      many = h.many;
    }

long_behind : (lists : List (List Taken)) (left : List Taken) → 0 < length lists → length (in_lists (behind left lists)) ≡ length (in_lists lists) + length left
long_behind [] left p = absurd (omega arith)
long_behind (m ∷ ms) left p = omega (arith, length-append (m ++ left) (in_lists ms), length-append m left, length-append m (in_lists ms))

any_list : (n k : ℕ) (desks : List Desk) (lists : List (List Taken)) → IsAll n k desks lists → 0 < length lists
any_list n k desks lists a = let m = a.medics in let l = a.lists_there in omega arith

-- how many are left, and how many the queue holds
counts : (pools : List Its) (n k : ℕ) (desks : List Desk) (lists : List (List Taken)) (left items : List Taken) (v : Hands) (count : ℕ) → IsAll n k desks lists → Emptying pools n k desks lists left v count → KnowsAll pools v items → length left + length items ≡ count
counts pools n k desks lists left items v count a h know =
    let held = known pools n k desks lists left items v a h.view_is know in
    let long : length (in_lists (behind left lists) ++ items) ≡ length (on_desks desks) = length_permutation (on_desks desks) (in_lists (behind left lists) ++ items) held.once in
    let sum : length (in_lists (behind left lists) ++ items) ≡ length (in_lists (behind left lists)) + length items = length-append (in_lists (behind left lists)) items in
    let all : length (in_lists (behind left lists)) ≡ length (in_lists lists) + length left = long_behind lists left (any_list n k desks lists a) in
    let many : length (on_desks desks) ≡ length (in_lists lists) + count = h.many in
    omega (arith, long, sum, all, many)

-- where less than all is left, the queue isn't empty
pub empties_on : (pools : List Its) (n k : ℕ) (desks : List Desk) (lists : List (List Taken)) (left : List Taken) (v : Hands) (count : ℕ) → IsAll n k desks lists → Emptying pools n k desks lists left v count → length left < count → Held 0 (KnowsAll pools v) → ⊥
empties_on pools n k desks lists left v count a h less held =
    let sum : length left + length held.0 ≡ count = counts pools n k desks lists left held.0 v count a h held.2 in
    let none : length held.0 ≡ 0 = held.1 in omega (arith, sum, none)

nothing : (xs : List Taken) → length xs ≡ 0 → xs ≡ []
nothing [] e = refl
nothing (x ∷ xs) e = absurd (omega arith)

left_last : (lists : List (List Taken)) (left : List Taken) → 0 < length lists → IsPermutation (in_lists (behind left lists)) (in_lists lists ++ left)
left_last [] left p = absurd (omega arith)
left_last (m ∷ ms) left p =
    let rest : List Taken = in_lists ms in
    subst (λ (l : List Taken). IsPermutation l ((m ++ rest) ++ left)) (sym (append_assoc m left rest))
    (subst (λ (l : List Taken). IsPermutation (m ++ (left ++ rest)) l) (sym (append_assoc m rest left)) (IsPermutation-append_right m (left ++ rest) (rest ++ left) (IsPermutation-append_comm left rest)))

-- at the end
pub emptied : (pools : List Its) (n k : ℕ) (desks : List Desk) (lists : List (List Taken)) (left items : List Taken) (v : Hands) (count : ℕ) → IsAll n k desks lists → Emptying pools n k desks lists left v count → count ≤ length left → KnowsAll pools v items → IsEmptied desks lists left
emptied pools n k desks lists left items v count a h all know =
    let sum : length left + length items ≡ count = counts pools n k desks lists left items v count a h know in
    let none : items ≡ [] = nothing items (omega (arith, sum)) in
    let held = known pools n k desks lists left items v a h.view_is know in record {
      once = IsPermutation-trans (on_desks desks) (in_lists (behind left lists)) (in_lists lists ++ left)
          (subst (IsPermutation (on_desks desks)) (append-nil (in_lists (behind left lists))) (subst (λ (l : List Taken). IsPermutation (on_desks desks) (in_lists (behind left lists) ++ l)) none held.once))
          (left_last lists left (any_list n k desks lists a));
      order = h.order;
    }

-- the pass may take
pub takes_any : (pools : List Its) (i n k : ℕ) (desks : List Desk) (lists : List (List Taken)) (left : List Taken) (v : Hands) (count : ℕ) → IsAll n k desks lists → Emptying pools n k desks lists left v count → Pops (MorgueKeeps pools) i v (TakesOne pools v)
takes_any pools i n k desks [] left v count a h = absurd (let m = a.medics in let l = a.lists_there in omega arith)
takes_any pools i n k desks (m ∷ ms) left v count a h = takes_one pools i v desks (m ++ left) ms n k h.view_is
