-- puts and takes keep what desks, lists and the queue hold
use Rattle.std.proofs.Common.{◌≡◌, ◌≢◌, ℕ, ◌+◌, ◌<◌, ◌≤◌, List, [], ◌∷◌, ◌++◌, length, sym, refl, ap, ◌∙◌, subst, append_assoc, append-nil, arith, length-append, eq-eqb, if◌then◌else◌}
use Rattle.std.proofs.lemmas.List.Elements.{All-nil, All-cons, All-head, All-tail, All-push, All-append, All-weaker}
use Rattle.std.proofs.lemmas.List.Sums.{sum_by-cons}
use Rattle.std.proofs.lemmas.List.Sorted.{IsPermutation-sym, IsPermutation-trans, IsPermutation-append_left, IsPermutation-append_right, IsPermutation-append_comm, All-permutation, sum_by-IsPermutation}
use Rattle.std.specs.List.{All, sum_by, Sorted.IsPermutation}
use Rattle.shm_pool.specs.Tokens.{Its}
use Rattle.shm_morgue.specs.{declared.rule.{Desk.Desk, Taken.Taken}, Entries.{client_of, IsBefore, IsInOrder, IsOf}}
use Rattle.shm_morgue.specs.Keeps.{MorgueHolds, IsBelow, is_desk_of, on_desks, in_lists}
use Rattle.shm_morgue.proofs.{Alike.Alike, Order.{Before, order_push, order_without, order_before}}

abbrev pub entries_on : Desk → List Taken
entries_on d = d.entries

abbrev pub entries_in : List Taken → List Taken
entries_in m = m

-- the desk with one entry more
abbrev pub grown : Desk → Taken → Desk
grown d x = record d { entries = d.entries ++ x ∷ [] }

-- what is said of a desk over lists and the queue
abbrev IsAbove : List (List Taken) → List Taken → Desk → Type 0
IsAbove ms items d = All (λ (m : List Taken). All (IsBelow d) m) ms × All (IsBelow d) items

pub holds_alike : (pools : List Its) (items : List Taken) (ds es : List Desk) (ms ns : List (List Taken)) → Alike entries_on ds es → Alike entries_in ms ns → MorgueHolds pools items ds ms → MorgueHolds pools items es ns
holds_alike pools items ds es ms ns a b h = record {
  once = IsPermutation-trans (on_desks es) (on_desks ds) (in_lists ns ++ items) (IsPermutation-sym (on_desks ds) (on_desks es) a.inner)
      (IsPermutation-trans (on_desks ds) (in_lists ms ++ items) (in_lists ns ++ items) h.once (IsPermutation-append_left items (in_lists ms) (in_lists ns) b.inner));
  single = λ c. subst (λ (n : ℕ). n ≤ 1) (sym (sum_by-IsPermutation (is_desk_of c) ds es a.items)) (h.single c);
  below = All-permutation (IsAbove ns items) ds es a.items
      (All-weaker (IsAbove ms items) (IsAbove ns items) (λ d z. (All-permutation (λ (m : List Taken). All (IsBelow d) m) ms ns b.items z.0, z.1)) ds h.below);
  order = All-permutation (λ (m : List Taken). IsInOrder (m ++ items)) ms ns b.items h.order;
  waits = h.waits;
  of = h.of;
}

pub desk_is : (c : ℕ) (d : Desk) → d.client ≡ c → is_desk_of c d ≡ 1
desk_is c d e = ap (λ b. if b then 1 else 0) (eq-eqb d.client c e)

others_apart : (c : ℕ) (ds : List Desk) → sum_by (is_desk_of c) ds ≤ 0 → All (λ (d : Desk). d.client ≢ c) ds
others_apart c [] h = All-nil (λ (d : Desk). d.client ≢ c)
others_apart c (d ∷ ds) h =
    let s : sum_by (is_desk_of c) (d ∷ ds) ≡ is_desk_of c d + sum_by (is_desk_of c) ds = sum_by-cons (is_desk_of c) d ds in
    let one : ℕ = is_desk_of c d in
    let all : ℕ = sum_by (is_desk_of c) ds in
    let z : one + all ≤ 0 = subst (λ (n : ℕ). n ≤ 0) s h in
    All-cons (λ (d : Desk). d.client ≢ c) d ds (λ e. let o : one ≡ 1 = desk_is c d e in omega arith) (others_apart c ds (omega arith))

pub alone : (d : Desk) (ds : List Desk) → sum_by (is_desk_of d.client) (d ∷ ds) ≤ 1 → All (λ (e : Desk). e.client ≢ d.client) ds
alone d ds h =
    let s : sum_by (is_desk_of d.client) (d ∷ ds) ≡ is_desk_of d.client d + sum_by (is_desk_of d.client) ds = sum_by-cons (is_desk_of d.client) d ds in
    let one : ℕ = is_desk_of d.client d in
    let all : ℕ = sum_by (is_desk_of d.client) ds in
    let o : one ≡ 1 = desk_is d.client d refl in
    let z : one + all ≤ 1 = subst (λ (n : ℕ). n ≤ 1) s h in
    others_apart d.client ds (omega arith)

-- a new last entry of the first list moves behind the others
last_moves : (e r : List Taken) (x : Taken) (ys : List Taken) → IsPermutation (((e ++ x ∷ []) ++ r) ++ ys) ((e ++ r) ++ x ∷ ys)
last_moves e r x ys =
    let one : List Taken = x ∷ [] in
    let a : IsPermutation ((e ++ one) ++ r) ((e ++ r) ++ one) =
    subst (λ (l : List Taken). IsPermutation l ((e ++ r) ++ one)) (sym (append_assoc e one r))
    (subst (λ (l : List Taken). IsPermutation (e ++ (one ++ r)) l) (sym (append_assoc e r one)) (IsPermutation-append_right e (one ++ r) (r ++ one) (IsPermutation-append_comm one r))) in
    subst (IsPermutation (((e ++ one) ++ r) ++ ys)) (append_assoc (e ++ r) one ys) (IsPermutation-append_left ys ((e ++ one) ++ r) ((e ++ r) ++ one) a)

pub holds_put : (pools : List Its) (items : List Taken) (d : Desk) (ds : List Desk) (ms : List (List Taken)) (x : Taken)
    → client_of x ≡ d.client → x.number ≡ length d.entries → IsOf pools x → MorgueHolds pools items (d ∷ ds) ms → MorgueHolds pools (items ++ x ∷ []) (grown d x ∷ ds) ms
holds_put pools items d ds ms x mine next of h =
    let one : List Taken = x ∷ [] in
    let longer : length (d.entries ++ one) ≡ length d.entries + 1 = length-append d.entries one in
    let up : (y : Taken) → IsBelow d y → IsBelow (grown d x) y = λ y b e. (let lt : y.number < length d.entries = b e in let n : ℕ = length (d.entries ++ one) in let l : n ≡ length d.entries + 1 = longer in omega arith) in
    let here : IsBelow (grown d x) x = λ e. (let n : ℕ = length (d.entries ++ one) in let l : n ≡ length d.entries + 1 = longer in omega (arith, next)) in
    let before : (y : Taken) → IsBelow d y → Before x y = λ y b e. subst (λ (n : ℕ). y.number < n) (sym next) (b (e ∙ mine)) in
    let mine_above : IsAbove ms items d = All-head (IsAbove ms items) d ds h.below in
    let apart : All (λ (e : Desk). e.client ≢ d.client) ds = alone d ds (h.single d.client) in
    record {
      once = subst (IsPermutation (on_desks (grown d x ∷ ds))) (append_assoc (in_lists ms) items one)
          (IsPermutation-trans (on_desks (grown d x ∷ ds)) (on_desks (d ∷ ds) ++ one) ((in_lists ms ++ items) ++ one)
          (subst (λ (l : List Taken). IsPermutation l (on_desks (d ∷ ds) ++ one)) (append-nil ((d.entries ++ one) ++ on_desks ds)) (last_moves d.entries (on_desks ds) x []))
          (IsPermutation-append_left one (on_desks (d ∷ ds)) (in_lists ms ++ items) h.once));
      single = h.single;
      below = All-cons (IsAbove ms (items ++ one)) (grown d x) ds (
        All-weaker (λ (m : List Taken). All (IsBelow d) m) (λ (m : List Taken). All (IsBelow (grown d x)) m) (λ m b. All-weaker (IsBelow d) (IsBelow (grown d x)) up m b) ms mine_above.0,
        All-push (IsBelow (grown d x)) items x (All-weaker (IsBelow d) (IsBelow (grown d x)) up items mine_above.1) here,
      )
          (λ k e lt. (let z = All-tail (IsAbove ms items) d ds h.below k e lt in (z.0, All-push (IsBelow _) items x z.1 (λ same. absurd (apart k e lt (sym same ∙ mine))))));
      order = λ k m lt. subst IsInOrder (append_assoc _ items one)
          (order_push (_ ++ items) x (h.order k m lt) (All-append (Before x) _ items (All-weaker (IsBelow d) (Before x) before _ (mine_above.0 k m lt)) (All-weaker (IsBelow d) (Before x) before items mine_above.1)));
      waits = order_push items x h.waits (All-weaker (IsBelow d) (Before x) before items mine_above.1);
      of = All-push (IsOf pools) items x h.of of;
    }

pub holds_take : (pools : List Its) (items : List Taken) (ds : List Desk) (m : List Taken) (ms : List (List Taken)) (x : Taken)
    → MorgueHolds pools (x ∷ items) ds (m ∷ ms) → MorgueHolds pools items ds ((m ++ x ∷ []) ∷ ms)
holds_take pools items ds m ms x h =
    let one : List Taken = x ∷ [] in record {
      once = IsPermutation-trans (on_desks ds) (in_lists (m ∷ ms) ++ x ∷ items) (in_lists ((m ++ one) ∷ ms) ++ items) h.once
          (IsPermutation-sym (in_lists ((m ++ one) ∷ ms) ++ items) (in_lists (m ∷ ms) ++ x ∷ items) (last_moves m (in_lists ms) x items));
      single = h.single;
      below = All-weaker (IsAbove (m ∷ ms) (x ∷ items)) (IsAbove ((m ++ one) ∷ ms) items)
          (λ d z. (
            All-cons (λ (l : List Taken). All (IsBelow d) l) (m ++ one) ms
                (All-push (IsBelow d) m x (All-head (λ (l : List Taken). All (IsBelow d) l) m ms z.0) (All-head (IsBelow d) x items z.1))
                (All-tail (λ (l : List Taken). All (IsBelow d) l) m ms z.0),
            All-tail (IsBelow d) x items z.1,
          ))
          ds h.below;
      order = All-cons (λ (l : List Taken). IsInOrder (l ++ items)) (m ++ one) ms
          (subst IsInOrder (sym (append_assoc m one items)) (All-head (λ (l : List Taken). IsInOrder (l ++ x ∷ items)) m ms h.order))
          (All-weaker (λ (l : List Taken). IsInOrder (l ++ x ∷ items)) (λ (l : List Taken). IsInOrder (l ++ items)) (λ l o. order_without l x items o) ms (All-tail (λ (l : List Taken). IsInOrder (l ++ x ∷ items)) m ms h.order));
      waits = h.waits.1;
      of = All-tail (IsOf pools) x items h.of;
    }

-- what is taken was put behind all that was taken of its client
pub taken_behind : (pools : List Its) (items : List Taken) (ds : List Desk) (ms : List (List Taken)) (x : Taken)
    → MorgueHolds pools (x ∷ items) ds ms → All (λ (m : List Taken). All (λ (y : Taken). IsBefore y x) m) ms
taken_behind pools items ds ms x h = All-weaker (λ (l : List Taken). IsInOrder (l ++ x ∷ items)) (λ (l : List Taken). All (Before x) l) (λ l o. order_before l x items o) ms h.order
