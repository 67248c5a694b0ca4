-- each step of a pass keeps the rule of the queue
use Rattle.std.proofs.Common.{◌≡◌, ◌≢◌, ℕ, zero, suc, ◌+◌, ◌<◌, ◌≤◌, false, true≢false, List, [], ◌∷◌, ◌++◌, length, set, take, drop, sym, refl, ap, ◌∙◌, subst, append-nil, arith, length-append, inl, inr, ne_eqb, if◌then◌else◌}
use Rattle.std.proofs.lemmas.List.Elements.{All-nil, All-cons, All-head, All-tail, All-push, All-set, All-weaker}
use Rattle.std.proofs.lemmas.List.{Sums.sum_by-cons, Sorted.{IsPermutation-refl, All-permutation, length_permutation}}
use Rattle.std.specs.List.{All, flat_map, sum_by, Sorted.IsPermutation}
use mathlib.Core.Logic.{dite}
use native.Mathlib.Decide.{ℕ_discrete}
use mathlib.Core.Option.{some, some-injective, some-ne-none}
use lib.ListN.{get_elem?}
use Rattle.crossbeam_queue.specs.Fifo.{Pushes, Pops, Forks, Merges, Learns}
use Rattle.shm_pool.specs.Tokens.{Its}
use Rattle.shm_morgue.specs.declared.rule.{Desk.Desk, Hands.Hands, Taken.Taken}
use Rattle.shm_morgue.specs.Entries.{client_of, IsBefore, IsInOrder, IsOf, MayHold}
use Rattle.shm_morgue.specs.Hands.{hands, newborn, spent, whole, desk, blank_desks, blank_lists}
use Rattle.shm_morgue.specs.Keeps.{MorgueHolds, IsBelow, IsMade, MorgueKeeps, Knows, KnowsAll, MayWait, PutsOne, TakesOne, all_desks, all_lists, is_desk_of, on_desks, in_lists}
use Rattle.shm_morgue.proofs.Alike.{Alike, parted, alike_same, alike_back, alike_on, alike_swap, alike_forked, alike_merged}
use Rattle.shm_morgue.proofs.Order.{all_front}
use Rattle.shm_morgue.proofs.Holding.{entries_on, entries_in, grown, holds_alike, holds_put, holds_take, taken_behind, desk_is}

abbrev pub desks_of : Hands → List Desk
desks_of v = v.porters

abbrev pub lists_of : Hands → List (List Taken)
lists_of v = v.medics

at_all : (P : Hands → Type 0) (vs : List Hands) (i : ℕ) (v : Hands) → All P vs → get_elem? vs i ≡ some v → P v
at_all P [] i v a e = absurd (some-ne-none v (sym e))
at_all P (u ∷ us) zero v a e = subst P (some-injective u v e) (All-head P u us a)
at_all P (u ∷ us) (suc i) v a e = at_all P us i v (All-tail P u us a) e

only : (u v : Hands) (i : ℕ) → get_elem? (u ∷ []) i ≡ some v → u ≡ v
only u v zero e = some-injective u v e
only u v (suc i) e = absurd (some-ne-none v (sym e))

-- a pass that isn't the first one tells that the morgue is made
made : (pools : List Its) (items : List Taken) (vs : List Hands) (i : ℕ) (v : Hands) → MorgueKeeps pools items vs → get_elem? vs i ≡ some v → v.fresh ≡ false → IsMade pools items vs
made pools items vs i v (inl h) e old = absurd (true≢false (ap (λ (u : Hands). u.fresh) (only newborn v i (ap (λ (l : List Hands). get_elem? l i) (sym h.1) ∙ e)) ∙ old))
made pools items vs i v (inr m) e old = m

-- desks and lists stand elsewhere
moved : (pools : List Its) (items : List Taken) (vs ws : List Hands) (m : IsMade pools items vs) → All (Knows m.clients m.doctors) ws → Alike entries_on (all_desks vs) (all_desks ws) → Alike entries_in (all_lists vs) (all_lists ws)
    → IsMade pools items ws
moved pools items vs ws m known a b = record {
  clients = m.clients;
  doctors = m.doctors;
  known = known;
  porters = length_permutation (all_desks vs) (all_desks ws) a.items ∙ m.porters;
  medics = length_permutation (all_lists vs) (all_lists ws) b.items ∙ m.medics;
  holds = holds_alike pools items (all_desks vs) (all_desks ws) (all_lists vs) (all_lists ws) a b m.holds;
}

-- what a change leaves where it was
stays : {X Y : Type 0} (f : Hands → List X) (g : X → List Y) (vs : List Hands) (i : ℕ) (v w : Hands) → get_elem? vs i ≡ some v → f w ≡ f v → Alike g (flat_map f vs) (flat_map f (set vs i w))
stays {X} f g vs i v w e same =
    let p = parted f g vs i v e in
    alike_on g (flat_map f vs) (f v ++ p.others) (flat_map f (set vs i w)) p.old
    (subst (λ (l : List X). Alike g (l ++ p.others) (flat_map f (set vs i w))) same (alike_back g (flat_map f (set vs i w)) (f w ++ p.others) (p.new w)))

pub puts : (pools : List Its) (n i : ℕ) (d : Desk) (ds : List Desk) (ms : List (List Taken)) (c k : ℕ) (x : Taken) → client_of x ≡ d.client → x.number ≡ length d.entries → IsOf pools x
    → Pushes (MorgueKeeps pools) n i (hands (d ∷ ds) ms c k) x (PutsOne (hands (d ∷ ds) ms c k) x)
puts pools n i d ds ms c k x mine next of items vs room h e =
    let v : Hands = hands (d ∷ ds) ms c k in
    let w : Hands = hands (grown d x ∷ ds) ms c k in
    let m = made pools items vs i v h e refl in
    let p = parted desks_of entries_on vs i v e in
    let q = stays lists_of entries_in vs i v w e refl in
    let front : MorgueHolds pools items (d ∷ (ds ++ p.others)) (all_lists (set vs i w)) = holds_alike pools items (all_desks vs) (d ∷ (ds ++ p.others)) (all_lists vs) (all_lists (set vs i w)) p.old q m.holds in
    let put : MorgueHolds pools (items ++ x ∷ []) (grown d x ∷ (ds ++ p.others)) (all_lists (set vs i w)) = holds_put pools items d (ds ++ p.others) (all_lists (set vs i w)) x mine next of front in
    let back : Alike entries_on (grown d x ∷ (ds ++ p.others)) (all_desks (set vs i w)) = alike_back entries_on (all_desks (set vs i w)) (grown d x ∷ (ds ++ p.others)) (p.new w) in
    let as_long : length (d ∷ (ds ++ p.others)) ≡ length (all_desks vs) = length_permutation (all_desks vs) (d ∷ (ds ++ p.others)) p.old.items in (
      w,
      inr (record {
        clients = m.clients;
        doctors = m.doctors;
        known = All-set (Knows m.clients m.doctors) vs i w (at_all (Knows m.clients m.doctors) vs i v m.known e) m.known;
        porters = length_permutation (grown d x ∷ (ds ++ p.others)) (all_desks (set vs i w)) back.items ∙ as_long ∙ m.porters;
        medics = length_permutation (all_lists vs) (all_lists (set vs i w)) q.items ∙ m.medics;
        holds = holds_alike pools (items ++ x ∷ []) (grown d x ∷ (ds ++ p.others)) (all_desks (set vs i w)) (all_lists (set vs i w)) (all_lists (set vs i w)) back (alike_same entries_in (all_lists (set vs i w))) put;
      }),
      refl,
    )

pub takes : (pools : List Its) (i : ℕ) (ds : List Desk) (l : List Taken) (ms : List (List Taken)) (c k : ℕ) → Pops (MorgueKeeps pools) i (hands ds (l ∷ ms) c k) (TakesOne pools (hands ds (l ∷ ms) c k))
takes pools i ds l ms c k x items vs h e =
    let v : Hands = hands ds (l ∷ ms) c k in
    let w : Hands = hands ds ((l ++ x ∷ []) ∷ ms) c k in
    let m = made pools (x ∷ items) vs i v h e refl in
    let p = parted lists_of entries_in vs i v e in
    let q = stays desks_of entries_on vs i v w e refl in
    let front : MorgueHolds pools (x ∷ items) (all_desks (set vs i w)) (l ∷ (ms ++ p.others)) = holds_alike pools (x ∷ items) (all_desks vs) (all_desks (set vs i w)) (all_lists vs) (l ∷ (ms ++ p.others)) q p.old m.holds in
    let taken : MorgueHolds pools items (all_desks (set vs i w)) ((l ++ x ∷ []) ∷ (ms ++ p.others)) = holds_take pools items (all_desks (set vs i w)) l (ms ++ p.others) x front in
    let back : Alike entries_in ((l ++ x ∷ []) ∷ (ms ++ p.others)) (all_lists (set vs i w)) = alike_back entries_in (all_lists (set vs i w)) ((l ++ x ∷ []) ∷ (ms ++ p.others)) (p.new w) in
    let as_long : length (l ∷ (ms ++ p.others)) ≡ length (all_lists vs) = length_permutation (all_lists vs) (l ∷ (ms ++ p.others)) p.old.items in (
      w,
      inr (record {
        clients = m.clients;
        doctors = m.doctors;
        known = All-set (Knows m.clients m.doctors) vs i w (at_all (Knows m.clients m.doctors) vs i v m.known e) m.known;
        porters = length_permutation (all_desks vs) (all_desks (set vs i w)) q.items ∙ m.porters;
        medics = length_permutation ((l ++ x ∷ []) ∷ (ms ++ p.others)) (all_lists (set vs i w)) back.items ∙ as_long ∙ m.medics;
        holds = holds_alike pools items (all_desks (set vs i w)) (all_desks (set vs i w)) ((l ++ x ∷ []) ∷ (ms ++ p.others)) (all_lists (set vs i w)) (alike_same entries_on (all_desks (set vs i w))) back taken;
      }),
      (
        refl,
        All-head (IsOf pools) x items m.holds.of,
        all_front (λ (m : List Taken). All (λ (y : Taken). IsBefore y x) m) (l ∷ ms) p.others (taken_behind pools items (all_desks (set vs i w)) (l ∷ (ms ++ p.others)) x front),
      ),
    )

-- a pass is cut in two
forks : (pools : List Its) (i : ℕ) (v l r : Hands) → v.fresh ≡ false → ((n m : ℕ) → Knows n m v → Knows n m l × Knows n m r) → Alike entries_on v.porters (l.porters ++ r.porters) → Alike entries_in v.medics (l.medics ++ r.medics)
    → Forks (MorgueKeeps pools) i v l r
forks pools i v l r old know a b items vs h e =
    let m = made pools items vs i v h e old in
    let k = know m.clients m.doctors (at_all (Knows m.clients m.doctors) vs i v m.known e) in
    inr (moved pools items vs (set vs i l ++ r ∷ []) m (All-push (Knows m.clients m.doctors) (set vs i l) r (All-set (Knows m.clients m.doctors) vs i l k.0 m.known) k.1)
    (alike_forked desks_of entries_on vs i v l r e a) (alike_forked lists_of entries_in vs i v l r e b))

swap : {X Y : Type 0} (g : X → List Y) (xs ys : List X) → Alike g (xs ++ ys) (ys ++ xs)
swap g xs ys = alike_swap g xs ys

none : {X Y : Type 0} (g : X → List Y) (xs : List X) → Alike g xs (xs ++ [])
none {X} g xs = subst (Alike g xs) (sym (append-nil xs)) (alike_same g xs)

pub cuts_porter : (pools : List Its) (i : ℕ) (d : Desk) (ds : List Desk) (ms : List (List Taken)) (c k : ℕ) → Forks (MorgueKeeps pools) i (hands (d ∷ ds) ms c k) (hands ds ms c k) (hands (d ∷ []) [] c k)
cuts_porter pools i d ds ms c k = forks pools i (hands (d ∷ ds) ms c k) (hands ds ms c k) (hands (d ∷ []) [] c k) refl (λ n m w. (w, w)) (swap entries_on (d ∷ []) ds) (none entries_in ms)

pub cuts_medic : (pools : List Its) (i : ℕ) (ds : List Desk) (l : List Taken) (ms : List (List Taken)) (c k : ℕ) → Forks (MorgueKeeps pools) i (hands ds (l ∷ ms) c k) (hands ds ms c k) (hands [] (l ∷ []) c k)
cuts_medic pools i ds l ms c k = forks pools i (hands ds (l ∷ ms) c k) (hands ds ms c k) (hands [] (l ∷ []) c k) refl (λ n m w. (w, w)) (none entries_on ds) (swap entries_in (l ∷ []) ms)

pub gathers : (pools : List Its) (i : ℕ) (v : Hands) (j : ℕ) (w : Hands) → v.fresh ≡ false
    → Merges (MorgueKeeps pools) i v j w (record v { porters = w.porters ++ v.porters; medics = w.medics ++ v.medics }) spent
gathers pools i v j w old items vs h e apart e' =
    let both : Hands = record v { porters = w.porters ++ v.porters; medics = w.medics ++ v.medics } in
    let m = made pools items vs i v h e old in
    let K : Hands → Type 0 = Knows m.clients m.doctors in
    inr (moved pools items vs (set (set vs i both) j spent) m
    (All-set K (set vs i both) j spent (refl, λ p. absurd (omega arith)) (All-set K vs i both (at_all K vs i v m.known e) m.known))
    (alike_merged desks_of entries_on vs i j v w both spent e apart e' refl refl)
    (alike_merged lists_of entries_in vs i j v w both spent e apart e' refl refl))

none_on : (a n : ℕ) → on_desks (blank_desks a n) ≡ []
none_on a zero = refl
none_on a (suc n) = none_on (suc a) n

none_in : (n : ℕ) → in_lists (blank_lists n) ≡ []
none_in zero = refl
none_in (suc n) = none_in n

desks_long : (a n : ℕ) → length (blank_desks a n) ≡ n
desks_long a zero = refl
desks_long a (suc n) = ap suc (desks_long (suc a) n)

lists_long : (n : ℕ) → length (blank_lists n) ≡ n
lists_long zero = refl
lists_long (suc n) = ap suc (lists_long n)

no_desk : (c d : ℕ) → d ≢ c → is_desk_of c (desk d []) ≡ 0
no_desk c d n = ap (λ b. if b then 1 else 0) (ne_eqb d c n)

none_of : (c a n : ℕ) → c < a → sum_by (is_desk_of c) (blank_desks a n) ≡ 0
none_of c a zero lt = refl
none_of c a (suc n) lt = let s = sum_by-cons (is_desk_of c) (desk a []) (blank_desks (suc a) n) in s ∙ (λ i. no_desk c a (λ e. omega arith) i + none_of c (suc a) n (omega arith) i)

one_of : (c a n : ℕ) → sum_by (is_desk_of c) (blank_desks a n) ≤ 1
one_of c a zero = omega arith
one_of c a (suc n) =
    let s : sum_by (is_desk_of c) (blank_desks a (suc n)) ≡ is_desk_of c (desk a []) + sum_by (is_desk_of c) (blank_desks (suc a) n) = sum_by-cons (is_desk_of c) (desk a []) (blank_desks (suc a) n) in
    subst (λ (k : ℕ). k ≤ 1) (sym s) (dite (ℕ_discrete a c)
    (λ e. subst (λ (k : ℕ). k ≤ 1) (sym (λ i. desk_is c (desk a []) e i + none_of c (suc a) n (let e' : a ≡ c = e in omega arith) i)) (omega arith))
    (λ ne. subst (λ (k : ℕ). k + sum_by (is_desk_of c) (blank_desks (suc a) n) ≤ 1) (sym (no_desk c a ne)) (let h = one_of c (suc a) n in omega arith)))

all_blank : (P : List Taken → Type 0) → P [] → (n : ℕ) → All P (blank_lists n)
all_blank P p zero = All-nil P
all_blank P p (suc n) = All-cons P [] (blank_lists n) p (all_blank P p n)

all_clear : (P : Desk → Type 0) → ((c : ℕ) → P (desk c [])) → (a n : ℕ) → All P (blank_desks a n)
all_clear P p a zero = All-nil P
all_clear P p a (suc n) = All-cons P (desk a []) (blank_desks (suc a) n) (p a) (all_clear P p (suc a) n)

-- nothing is put or taken in a morgue that is made
new_holds : (pools : List Its) (c k : ℕ) → MorgueHolds pools [] (blank_desks 0 c) (blank_lists k)
new_holds pools c k = record {
  once = subst (λ (l : List Taken). IsPermutation l (in_lists (blank_lists k) ++ [])) (sym (none_on 0 c)) (subst (λ (l : List Taken). IsPermutation [] (l ++ [])) (sym (none_in k)) (IsPermutation-refl []));
  single = λ x. one_of x 0 c;
  below = all_clear (λ (d : Desk). All (λ (m : List Taken). All (IsBelow d) m) (blank_lists k) × All (IsBelow d) []) (λ x. (all_blank (λ (m : List Taken). All (IsBelow (desk x [])) m) (All-nil (IsBelow (desk x []))) k, All-nil (IsBelow (desk x [])))) 0 c;
  order = all_blank (λ (m : List Taken). IsInOrder (m ++ [])) tt k;
  waits = tt;
  of = All-nil (IsOf pools);
}

first_place : (c k j : ℕ) → get_elem? (newborn ∷ []) j ≡ some newborn → set (newborn ∷ []) j (whole c k) ++ spent ∷ [] ≡ whole c k ∷ spent ∷ []
first_place c k zero e = refl
first_place c k (suc j) e = absurd (some-ne-none newborn (sym e))

pub opens : (pools : List Its) (i c k : ℕ) → Forks (MorgueKeeps pools) i newborn (whole c k) spent
opens pools i c k items vs (inr m) e = absurd (true≢false (at_all (Knows m.clients m.doctors) vs i newborn m.known e).0)
opens pools i c k items vs (inl h) e =
    let two : List Hands = whole c k ∷ spent ∷ [] in
    let is : set vs i (whole c k) ++ spent ∷ [] ≡ two = ap (λ (l : List Hands). set l i (whole c k) ++ spent ∷ []) h.1 ∙ first_place c k i (ap (λ (l : List Hands). get_elem? l i) (sym h.1) ∙ e) in
    inr (subst (IsMade pools items) (sym is) (record {
      clients = c;
      doctors = k;
      known = All-cons (Knows c k) (whole c k) (spent ∷ []) (refl, λ _. (refl, refl)) (All-cons (Knows c k) spent [] (refl, λ p. absurd (omega arith)) (All-nil (Knows c k)));
      porters = ap length (append-nil (blank_desks 0 c)) ∙ desks_long 0 c;
      medics = ap length (append-nil (blank_lists k)) ∙ lists_long k;
      holds = subst (λ (l : List Taken). MorgueHolds pools l (all_desks two) (all_lists two)) (sym h.0)
          (subst (λ (l : List Desk). MorgueHolds pools [] l (all_lists two)) (sym (append-nil (blank_desks 0 c)))
          (subst (λ (l : List (List Taken)). MorgueHolds pools [] (blank_desks 0 c) l) (sym (append-nil (blank_lists k))) (new_holds pools c k)));
    }))

pub begins : (pools : List Its) → MorgueKeeps pools [] (newborn ∷ [])
begins pools = inl (refl, refl)

-- a porter knows of the queue that it may hold what it holds
pub waits : (pools : List Its) (i : ℕ) (v : Hands) → v.fresh ≡ false → Learns (MorgueKeeps pools) i v (MayWait pools v)
waits pools i v old items vs h e =
    let m = made pools items vs i v h e old in
    let p = parted desks_of entries_on vs i v e in
    let B : Desk → Type 0 = λ d. All (λ (l : List Taken). All (IsBelow d) l) (all_lists vs) × All (IsBelow d) items in
    let mine : All B v.porters = all_front B v.porters p.others (All-permutation B (all_desks vs) (v.porters ++ p.others) p.old.items m.holds.below) in
    All-weaker B (λ (d : Desk). MayHold pools d.client (length d.entries) items) (λ d b. record { of = m.holds.of; order = m.holds.waits; put = b.1 }) v.porters mine

no_others : {X : Type 0} (xs ys : List X) (n : ℕ) → length (xs ++ ys) ≡ n → n ≤ length xs → xs ++ ys ≡ xs
no_others {X} xs [] n l le = append-nil xs
no_others {X} xs (y ∷ ys) n l le = absurd (omega (arith, length-append xs (y ∷ ys)))

-- who answers for all knows all
pub knows : (pools : List Its) (i : ℕ) (v : Hands) → v.fresh ≡ false → Learns (MorgueKeeps pools) i v (KnowsAll pools v)
knows pools i v old items vs h e some_there desks_there lists_there =
    let m = made pools items vs i v h e old in
    let k = (at_all (Knows m.clients m.doctors) vs i v m.known e).1 some_there in
    let p = parted desks_of entries_on vs i v e in
    let q = parted lists_of entries_in vs i v e in
    let pl : length (v.porters ++ p.others) ≡ v.clients = length_permutation (all_desks vs) (v.porters ++ p.others) p.old.items ∙ m.porters ∙ sym k.0 in
    let ql : length (v.medics ++ q.others) ≡ v.doctors = length_permutation (all_lists vs) (v.medics ++ q.others) q.old.items ∙ m.medics ∙ sym k.1 in
    let ps : Alike entries_on (all_desks vs) v.porters = subst (Alike entries_on (all_desks vs)) (no_others v.porters p.others v.clients pl desks_there) p.old in
    let qs : Alike entries_in (all_lists vs) v.medics = subst (Alike entries_in (all_lists vs)) (no_others v.medics q.others v.doctors ql lists_there) q.old in
    holds_alike pools items (all_desks vs) v.porters (all_lists vs) v.medics ps qs m.holds

-- the same of a pass that is seen so
pub puts_one : (pools : List Its) (n i : ℕ) (v : Hands) (d : Desk) (ds : List Desk) (ms : List (List Taken)) (c k : ℕ) (x : Taken) → v ≡ hands (d ∷ ds) ms c k → client_of x ≡ d.client → x.number ≡ length d.entries → IsOf pools x
    → Pushes (MorgueKeeps pools) n i v x (PutsOne v x)
puts_one pools n i v d ds ms c k x e mine next of = subst (λ (u : Hands). Pushes (MorgueKeeps pools) n i u x (PutsOne u x)) (sym e) (puts pools n i d ds ms c k x mine next of)

pub takes_one : (pools : List Its) (i : ℕ) (v : Hands) (ds : List Desk) (l : List Taken) (ms : List (List Taken)) (c k : ℕ) → v ≡ hands ds (l ∷ ms) c k → Pops (MorgueKeeps pools) i v (TakesOne pools v)
takes_one pools i v ds l ms c k e = subst (λ (u : Hands). Pops (MorgueKeeps pools) i u (TakesOne pools u)) (sym e) (takes pools i ds l ms c k)

pub cuts_porter_one : (pools : List Its) (i : ℕ) (v : Hands) (d : Desk) (ds : List Desk) (ms : List (List Taken)) (c k : ℕ) → v ≡ hands (d ∷ ds) ms c k
    → Forks (MorgueKeeps pools) i v (record v { porters = drop 1 v.porters }) (hands (take 1 v.porters) [] v.clients v.doctors)
cuts_porter_one pools i v d ds ms c k e = subst (λ (u : Hands). Forks (MorgueKeeps pools) i u (record u { porters = drop 1 u.porters }) (hands (take 1 u.porters) [] u.clients u.doctors)) (sym e) (cuts_porter pools i d ds ms c k)

pub cuts_medic_one : (pools : List Its) (i : ℕ) (v : Hands) (ds : List Desk) (l : List Taken) (ms : List (List Taken)) (c k : ℕ) → v ≡ hands ds (l ∷ ms) c k
    → Forks (MorgueKeeps pools) i v (record v { medics = drop 1 v.medics }) (hands [] (take 1 v.medics) v.clients v.doctors)
cuts_medic_one pools i v ds l ms c k e = subst (λ (u : Hands). Forks (MorgueKeeps pools) i u (record u { medics = drop 1 u.medics }) (hands [] (take 1 u.medics) u.clients u.doctors)) (sym e) (cuts_medic pools i ds l ms c k)

pub opens_one : (pools : List Its) (i : ℕ) (v : Hands) (c k : ℕ) → v ≡ newborn → Forks (MorgueKeeps pools) i v (whole c k) spent
opens_one pools i v c k e = subst (λ (u : Hands). Forks (MorgueKeeps pools) i u (whole c k) spent) (sym e) (opens pools i c k)
