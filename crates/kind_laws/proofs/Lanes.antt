-- queues where one slot's target changes
use Rattle.std.proofs.Math.Path.{fun_ext}
use Rattle.std.proofs.Common.{◌≡◌, ◌≢◌, ℕ, ◌+◌, ◌%◌, ◌<◌, ◌≤◌, refl, sym, ap, ◌∙◌, arith, List, [], ◌∷◌, ◌++◌, length, get_or, take, length-append, true, false, eqb, ltb, ltb-true, subst, inl, inr, ◌⊎◌, ◌&&◌}
use Rattle.std.proofs.lemmas.{List.{take-append-le, Elements.All-push}, Grind.common_steps}
use Rattle.std.proofs.lemmas.Bool.{cases_lt, cases_Bool, and_parts, and_cases, eqb-true, cond-true}
use Rattle.shm_words.specs.{declared.geometry.Geometry.Geometry, Layout.GeometryFits}
use Rattle.shm_graph.specs.{declared.spot.Spot.TheVariants.Slot, Spots.IsAt, Held.LaneSound}
use Rattle.shm_graph.proofs.{Spots.SpotPlaces.at_is_in, States.Holders.apart_slots}
use Rattle.kind_laws.specs.OwnWords.{at2}

-- the block is in the slot at the tail
pub lane_up : (t t' : ℕ → ℕ) (tail queue_head : ℕ) (sent : List ℕ) (unsent b : ℕ) (received : List ℕ) (untaken : ℕ) → tail < queue_head + 8 → ((k : ℕ) → k ≢ tail % 8 → t' k ≡ t k) → t' (tail % 8) ≡ b → LaneSound t tail queue_head sent unsent received untaken → LaneSound t' tail queue_head sent b received untaken
lane_up t t' tail queue_head sent unsent b received untaken room other here l =
    let r = room in let o = l.order in
    record {
      all_sent = l.all_sent;
      all_received = l.all_received;
      order = l.order;
      room = l.room;
      prefix = l.prefix;
      some = l.some;
      items = λ n lo hi u. other (n % 8) (apart_slots n tail hi (omega arith)) ∙ l.items n lo hi u;
      later = λ n lo hi. other (n % 8) (apart_slots n tail hi (omega arith)) ∙ l.later n lo hi;
      taken = λ u. let q = l.taken u in (q.0, q.1, other (queue_head % 8) (apart_slots queue_head tail q.0 room) ∙ q.2);
      outside = λ n lo hi. other (n % 8) (λ e. apart_slots tail n lo (omega arith) (sym e)) ∙ l.outside n lo hi;
      next = λ _. here;
      full = λ e. absurd (omega arith);
    }

-- the block is taken out of the slot at the head
pub lane_taken : (t t' : ℕ → ℕ) (tail queue_head : ℕ) (sent : List ℕ) (unsent b : ℕ) (received : List ℕ) → queue_head < tail → b ≢ 0 → t (queue_head % 8) ≡ b → ((k : ℕ) → k ≢ queue_head % 8 → t' k ≡ t k) → t' (queue_head % 8) ≡ 0 → LaneSound t tail queue_head sent unsent received 0 → LaneSound t' tail queue_head sent unsent received b
lane_taken t t' tail queue_head sent unsent b received some nz holds other here l =
    let r = l.room in
    record {
      all_sent = l.all_sent;
      all_received = l.all_received;
      order = l.order;
      room = l.room;
      prefix = l.prefix;
      some = l.some;
      items = λ n lo hi u. absurd (nz u.0);
      later = λ n lo hi. other (n % 8) (λ e. apart_slots queue_head n lo (omega arith) (sym e)) ∙ l.later n lo hi;
      taken = λ u. (some, sym (l.items queue_head (omega arith) some (refl, refl)) ∙ holds, here);
      outside = λ n lo hi. other (n % 8) (λ e. apart_slots queue_head n (omega arith) hi (sym e)) ∙ l.outside n lo hi;
      next = λ room. other (tail % 8) (λ e. apart_slots queue_head tail some room (sym e)) ∙ l.next room;
      full = l.full;
    }

pub lane_same : (t t' : ℕ → ℕ) (tail queue_head : ℕ) (sent : List ℕ) (unsent : ℕ) (received : List ℕ) (untaken : ℕ) → ((k : ℕ) → t' k ≡ t k) → LaneSound t tail queue_head sent unsent received untaken → LaneSound t' tail queue_head sent unsent received untaken
lane_same t t' tail queue_head sent unsent received untaken e l = subst (λ (f : ℕ → ℕ). LaneSound f tail queue_head sent unsent received untaken) (sym (fun_ext e)) l

-- which slot it is
pub other_lane : (s r k i j l : ℕ) → (eqb s i && eqb r j) ≡ false → (eqb s i && (eqb r j && eqb k l)) ≡ false
other_lane s r k i j l e = elim (and_cases (eqb s i) (eqb r j) e) [
  | inl x ↦ rw x refl
  | inr x ↦ rw x (and_false (eqb s i))
]
  where
    and_false : (b : _) → (b && false) ≡ false
    and_false true = refl
    and_false false = refl

pub this_lane : (s r k i j l : ℕ) → (eqb s i && eqb r j) ≡ true → (eqb s i && (eqb r j && eqb k l)) ≡ eqb k l
this_lane s r k i j l e = let t = and_parts (eqb s i) (eqb r j) e in rw (t.0, t.1) refl

-- a queue that the pool has is one of two of its clients
pub lane_clients : (g : Geometry) (class : ℕ → ℕ → ℕ) (s r k : ℕ) → GeometryFits g → IsAt g class (Slot s r k) → (s < g.clients) × (r < g.clients)
lane_clients g class s r k f at =
    let e = and_parts (ltb s g.clients) (ltb r g.clients) (and_parts (ltb s g.clients && ltb r g.clients) (ltb k 8) (at_is_in g class (Slot s r k) f at)).0 in
    (ltb-true s g.clients e.0, ltb-true r g.clients e.1)

-- so it is no queue to its own sender, or to an identity beyond the clients
pub lane_to : (n s r i j : ℕ) → s ≢ r → r < n → (j ≡ i) ⊎ (n ≤ j) → (eqb s i && eqb r j) ≡ true → ⊥
lane_to n s r i j apart l y f =
    let q = and_parts (eqb s i) (eqb r j) f in
    let sender = eqb-true s i q.0 in
    let receiver = eqb-true r j q.1 in
    elim y [
      | inl e ↦ apart (sender ∙ (sym e ∙ sym receiver))
      | inr m ↦ absurd (omega arith)
    ]

-- nor one from its own receiver, or from an identity beyond the clients
pub lane_from : (n s r i j : ℕ) → s ≢ r → s < n → (i ≡ j) ⊎ (n ≤ i) → (eqb s i && eqb r j) ≡ true → ⊥
lane_from n s r i j apart l y f =
    let q = and_parts (eqb s i) (eqb r j) f in
    let sender = eqb-true s i q.0 in
    let receiver = eqb-true r j q.1 in
    elim y [
      | inl e ↦ apart (sender ∙ (e ∙ sym receiver))
      | inr m ↦ absurd (omega arith)
    ]

at_old : (xs : List ℕ) (x n : ℕ) → n < length xs → get_or (xs ++ x ∷ []) n 0 ≡ get_or xs n 0
at_old xs x n h = grind (arith, common_steps)

at_new : (xs : List ℕ) (x n : ℕ) → n ≡ length xs → get_or (xs ++ x ∷ []) n 0 ≡ x
at_new xs x n h = grind (arith, common_steps)

take_more : (xs : List ℕ) (n : ℕ) → n < length xs → take (n + 1) xs ≡ take n xs ++ get_or xs n 0 ∷ []
take_more xs n h = grind (arith, common_steps)

-- the tail is stored
pub lane_sent : (t : ℕ → ℕ) (tail queue_head : ℕ) (sent : List ℕ) (block : ℕ) (received : List ℕ) (untaken : ℕ) → block ≢ 0 → LaneSound t tail queue_head sent block received untaken → LaneSound t (tail + 1) queue_head (sent ++ block ∷ []) 0 received untaken
lane_sent t tail queue_head sent block received untaken nz h =
    let all = h.all_sent in
    let le = h.order in
    record {
      all_sent = (let l = length-append sent (block ∷ []) in omega arith);
      all_received = h.all_received;
      order = omega arith;
      room = (let r = room in omega arith);
      prefix = h.prefix ∙ (let le : queue_head ≤ length sent = omega arith in sym (take-append-le queue_head sent (block ∷ []) le));
      some = All-push (λ b. b ≢ 0) sent block h.some nz;
      items = λ n lo hi u. either n (λ below. h.items n lo below u) (cases_lt n tail) hi;
      later = λ n lo hi. either n (λ below. h.later n lo below) (cases_lt n tail) hi;
      taken = λ u. let k = h.taken u in (omega arith, at_old sent block queue_head (let l = k.0 in omega arith) ∙ k.1, k.2);
      outside = λ n lo hi. h.outside n (omega arith) hi;
      next = λ r. h.outside (tail + 1) (omega arith) r;
      full = λ _. refl;
    }
  where
    room : tail < queue_head + 8
    room = elim (cases_lt tail (queue_head + 8)) [ inl l ↦ l | inr e ↦ absurd (nz (h.full (let q = h.room in omega arith))) ]

    either : (n : ℕ) → (n < tail → t (n % 8) ≡ get_or sent n 0) → (n < tail) ⊎ (tail ≤ n) → n < tail + 1 → t (n % 8) ≡ get_or (sent ++ block ∷ []) n 0
    either n old (inl lt) hi = let a = h.all_sent in old lt ∙ sym (at_old sent block n (omega arith))
    either n old (inr ge) hi = let a = h.all_sent in let e : n ≡ tail = omega arith in ap (λ x. t (x % 8)) e ∙ (h.next room ∙ sym (at_new sent block n (omega arith)))

-- the head is stored
pub lane_received : (t : ℕ → ℕ) (tail queue_head : ℕ) (sent : List ℕ) (unsent : ℕ) (received : List ℕ) (block : ℕ) → block ≢ 0 → LaneSound t tail queue_head sent unsent received block → LaneSound t tail (queue_head + 1) sent unsent (received ++ block ∷ []) 0
lane_received t tail queue_head sent unsent received block nz h =
    let k = h.taken nz in
    let lt = k.0 in
    let all = h.all_sent in
    record {
      all_sent = h.all_sent;
      all_received = (let l = length-append received (block ∷ []) in let a = h.all_received in omega arith);
      order = omega arith;
      room = (let r = h.room in omega arith);
      prefix = ap (λ xs. xs ++ block ∷ []) h.prefix ∙ (ap (λ b. take queue_head sent ++ b ∷ []) (sym k.1) ∙ sym (take_more sent queue_head (omega arith)));
      some = h.some;
      items = λ n lo hi u. h.later n (omega arith) hi;
      later = λ n lo hi. h.later n (omega arith) hi;
      taken = λ u. absurd (u refl);
      outside = λ n lo hi. outside n lo hi (cases_lt n (queue_head + 8));
      next = λ r. next (cases_lt tail (queue_head + 8));
      full = λ e. absurd (let r = h.room in omega arith);
    }
  where
    outside : (n : ℕ) → tail < n → n < queue_head + 1 + 8 → (n < queue_head + 8) ⊎ (queue_head + 8 ≤ n) → t (n % 8) ≡ 0
    outside n lo hi (inl l) = h.outside n lo l
    outside n lo hi (inr g) = ap t (let e : n % 8 ≡ queue_head % 8 = omega arith in e) ∙ (h.taken nz).2

    next : (tail < queue_head + 8) ⊎ (queue_head + 8 ≤ tail) → t (tail % 8) ≡ unsent
    next (inl l) = h.next l
    next (inr g) = let r = h.room in let e : tail ≡ queue_head + 8 = omega arith in ap t (let q : tail % 8 ≡ queue_head % 8 = omega arith in q) ∙ ((h.taken nz).2 ∙ sym (h.full e))

-- ---- what is changed at one queue

-- a fact of the changed queue and of each other one is one of all
pub at2_all : {T : Type 0} (P : ℕ → ℕ → T → Type 0) (f : ℕ → ℕ → T) (s r : ℕ) (x : T) (i j : ℕ) → P s r x → ((eqb s i && eqb r j) ≡ false → P i j (f i j)) → P i j (at2 f s r x i j)
at2_all {T} P f s r x i j here other = elim (cases_Bool (eqb s i && eqb r j)) [
  | inl e ↦ (let q = and_parts (eqb s i) (eqb r j) e in subst (P i j) (sym (cond-true (eqb s i && eqb r j) x (f i j) e)) (subst (λ a. P a j x) (eqb-true s i q.0) (subst (λ a. P s a x) (eqb-true r j q.1) here)))
  | inr e ↦ rw e (other e)
]

-- no queue between two identities is one from an identity to itself
pub no_self : (s r d : ℕ) → s ≢ r → (eqb s d && eqb r d) ≡ false
no_self s r d n = elim (cases_Bool (eqb s d && eqb r d)) [
  | inl e ↦ (let q = and_parts (eqb s d) (eqb r d) e in absurd (n (eqb-true s d q.0 ∙ sym (eqb-true r d q.1))))
  | inr e ↦ e
]
