-- what a memo shows of reach is so: the blocks that it says its identity names or has in reach are those of the targets
use Rattle.std.proofs.Common.{◌≡◌, ◌≢◌, ℕ, zero, suc, ◌%◌, ◌<◌, refl, sym, ap, ◌∙◌, subst, true, not, ltb, ◌&&◌, inl, inr, ◌⊎◌, List, [], ◌∷◌, ◌++◌, map}
use Rattle.std.proofs.lemmas.Bool.{and_parts, eqb-true, eq-eqb, ltb-true, false≢true}
use Rattle.std.proofs.lemmas.List.Elements.{All-nil, All-cons, All-head, All-tail, All-append, All-map, All-contains, All-contains_itself, All-weaker}
use Rattle.std.proofs.lemmas.Map.Views.{Contains-from_any}
use Rattle.std.specs.List.{All, Contains, filter}
use Rattle.shm_words.specs.declared.geometry.Geometry.{Geometry}
use Rattle.shm_graph.specs.declared.spot.Spot.{Spot, TheVariants.{Home, Root, Tail, QueueHead, Slot}}
use Rattle.shm_graph.specs.{declared.memo.{Stored.Stored, Look.Look, Memo.Memo}, Blocks.classes}
use Rattle.shm_graph.specs.{Ops.{cover, cover_of, slot_of}, Views.{View, view, targets, own_word}}
use Rattle.shm_graph.specs.Held.{HeldAt, InLooks, named_by}
use Rattle.shm_graph.specs.Reach.{shown, roots_below, in_slot, in_slots, not_zero, named_blocks, reached_blocks, is_named, is_reached}
use Rattle.shm_graph.proofs.Spots.{Spotting.same_spot_not, SpotPlaces.at_is_in}
use Rattle.shm_graph.proofs.States.{Counting.{cover_slot, covered_alone}, Holders.{InReach, one_holder, step_holds}}
use Rattle.shm_graph.proofs.{States.HeadSlot.{IsHead, head_target}, Memos.KnownChange.KnownHolds}
use Rattle.shm_graph.proofs.StepKinds.Loads.{choice}

-- ---- lists

-- what holds of each element that isn't 0 holds of all that the test leaves
All-not_zero : (P : ℕ → Type 0) (xs : List ℕ) → All (λ x. x ≢ 0 → P x) xs → All P (filter not_zero xs)
All-not_zero P [] h = All-nil P
All-not_zero P (x ∷ xs) h =
    let rest = All-not_zero P xs (All-tail (λ y. y ≢ 0 → P y) x xs h) in
    choice (All P) (not_zero x) (x ∷ filter not_zero xs) (filter not_zero xs)
    (λ e. All-cons P x (filter not_zero xs) (All-head (λ y. y ≢ 0 → P y) x xs h (λ z. false≢true (sym (ap not (eq-eqb x 0 z)) ∙ e))) rest)
    (λ e. rest)

-- ---- what is named, whatever the targets

-- a known slot is the head slot of a queue to c, and names what is known of it
abbrev pub HeadNamed : (Spot → ℕ) → (ℕ → ℕ → ℕ) → (ℕ → ℕ → ℕ) → ℕ → Spot → ℕ → Type 0
HeadNamed t tail queue_head c (Slot s r k) x = (r ≡ c) × (k ≡ queue_head s c % 8) × (queue_head s c < tail s c) × (t (Slot s c k) ≡ x)
HeadNamed t tail queue_head c p x = Unit {0}

-- The memo's own reference words and its known slots name what the targets say. The targets may be those before a step or those after it
pub record Names (t : Spot → ℕ) (tail queue_head : ℕ → ℕ → ℕ) (c : ℕ) (m : Memo) : Type 0 where
  pub roots : (k : ℕ) → shown m (Root c k) ≡ t (Root c k)
  pub home : shown m (Home c) ≡ t (Home c)
  pub slots : All (λ (s : Stored). HeadNamed t tail queue_head c s.spot s.value) m.known

module _ (t : Spot → ℕ) (tail queue_head : ℕ → ℕ → ℕ) (c : ℕ) where
  -- a block that isn't 0 is named
  abbrev MayName : ℕ → Type 0
  MayName b = b ≢ 0 → named_by t tail queue_head c b

  -- each root names what it shows
  roots_named : (m : Memo) → ((k : ℕ) → shown m (Root c k) ≡ t (Root c k)) → (n : ℕ) → All MayName (roots_below c m n)
  roots_named m e zero = All-nil MayName
  roots_named m e (suc k) = All-cons MayName (shown m (Root c k)) (roots_below c m k) (λ n. (n, inl (k, sym (e k)))) (roots_named m e k)

  -- and so does each known slot
  slot_named : (p : Spot) (x : ℕ) → HeadNamed t tail queue_head c p x → All MayName (in_slot p x)
  slot_named (Slot s r k) x h = All-cons MayName x [] (λ n. (n, inr (inr (s, h.2, subst (λ j. t (Slot s c j) ≡ x) h.1 h.3)))) (All-nil MayName)
  slot_named p x h = All-nil MayName

  slots_named : (ks : List Stored) → All (λ (s : Stored). HeadNamed t tail queue_head c s.spot s.value) ks → All MayName (in_slots ks)
  slots_named [] h = All-nil MayName
  slots_named (s ∷ ks) h =
      let P = λ (u : Stored). HeadNamed t tail queue_head c u.spot u.value in
      All-append MayName (in_slot s.spot s.value) (in_slots ks) (slot_named s.spot s.value (All-head P s ks h)) (slots_named ks (All-tail P s ks h))

  -- the named blocks are named
  pub blocks_named : (m : Memo) → Names t tail queue_head c m → All (named_by t tail queue_head c) (named_blocks c m)
  blocks_named m a =
      All-not_zero (named_by t tail queue_head c) (roots_below c m 16 ++ shown m (Home c) ∷ in_slots m.known)
      (All-append MayName (roots_below c m 16) (shown m (Home c) ∷ in_slots m.known) (roots_named m a.roots 16)
      (All-cons MayName (shown m (Home c)) (in_slots m.known) (λ n. (n, inr (inl (sym a.home)))) (slots_named m.known a.slots)))

  -- a block that the memo names is named
  pub named_sound : (m : Memo) → Names t tail queue_head c m → (b : ℕ) → is_named c m b ≡ true → named_by t tail queue_head c b
  named_sound m a b e = All-contains (named_by t tail queue_head c) (named_blocks c m) b (blocks_named m a) (Contains-from_any eqb-true b (named_blocks c m) e)

  -- and so are those in reach, with the blocks of the looks
  pub blocks_reached : (m : Memo) → Names t tail queue_head c m → All (λ b. named_by t tail queue_head c b ⊎ InLooks m.looks b) (reached_blocks c m)
  blocks_reached m a =
      let P : ℕ → Type 0 = λ b. named_by t tail queue_head c b ⊎ InLooks m.looks b in
      All-append P (named_blocks c m) (map (λ (k : Look). k.block) m.looks)
      (All-weaker (named_by t tail queue_head c) P (λ b x. inl x) (named_blocks c m) (blocks_named m a))
      (All-map P (λ (k : Look). k.block) m.looks (All-weaker (Contains m.looks) (λ k. P k.block) (λ k x. inr (k, x, refl)) m.looks (All-contains_itself m.looks)))

  -- a block that the memo has in reach is in reach
  pub reached_sound : (m : Memo) → Names t tail queue_head c m → (b : ℕ) → is_reached c m b ≡ true → named_by t tail queue_head c b ⊎ InLooks m.looks b
  reached_sound m a b e = All-contains (λ x. named_by t tail queue_head c x ⊎ InLooks m.looks x) (reached_blocks c m) b (blocks_reached m a) (Contains-from_any eqb-true b (reached_blocks c m) e)

-- ---- an own reference word

-- an own root or the own home
abbrev pub IsOwnReference : ℕ → Spot → Type 0
IsOwnReference c (Root d k) = d ≡ c
IsOwnReference c (Home d) = d ≡ c
IsOwnReference c p = ⊥

module _ (g : Geometry) (w : Spot → ℕ) (v : View) (h : HeldAt g w v) (c : ℕ) (l : c < g.clients) where
  -- nobody else has a step at it
  others_leave : (p : Spot) → ((d : ℕ) → d < g.clients → slot_of (v.op d) ≡ p → c ≡ d) → (d : ℕ) → d < g.clients → d ≢ c → (y : ℕ) → cover (cover_of (v.op d)) p y ≡ y
  others_leave p mine d m n y = cover_slot (v.op d) p (same_spot_not (slot_of (v.op d)) p (λ e. n (sym (mine d m e)))) y

  -- so that it names what the own step gives it
  pub shown_target : (p : Spot) → IsOwnReference c p → targets g w v p ≡ cover (cover_of (v.op c)) p (own_word (v.own c) p)
  shown_target (Root d k) e =
      subst (λ i. targets g w v (Root i k) ≡ cover (cover_of (v.op c)) (Root i k) (own_word (v.own c) (Root i k))) (sym e)
      (covered_alone g.clients c (Root c k) (w (Root c k)) (λ i. cover_of (v.op i)) l
      (others_leave (Root c k) (λ i m s. one_holder g w v h c i (Root c k) l m refl (step_holds g w v h i (Root c k) m (λ z. cc) s)))
      ∙ ap (cover (cover_of (v.op c)) (Root c k)) (sym (h.mine c l (Root c k) (eq-eqb c c refl))))
  shown_target (Home d) e =
      subst (λ i. targets g w v (Home i) ≡ cover (cover_of (v.op c)) (Home i) (own_word (v.own c) (Home i))) (sym e)
      (covered_alone g.clients c (Home c) (w (Home c)) (λ i. cover_of (v.op i)) l
      (others_leave (Home c) (λ i m s. one_holder g w v h c i (Home c) l m refl (step_holds g w v h i (Home c) m (λ z. cc) s)))
      ∙ ap (cover (cover_of (v.op c)) (Home c)) (sym (h.mine c l (Home c) (eq-eqb c c refl))))
  shown_target _ e = absurd e

  -- ---- a known head slot

  -- the slot has a sender
  slot_sender : (s k : ℕ) → w (Slot s c k) ≢ 0 → s < g.clients
  slot_sender s k n =
      let e = at_is_in g (classes w) (Slot s c k) h.fits (h.there (Slot s c k) n) in
      ltb-true s g.clients (and_parts (ltb s g.clients) (ltb c g.clients) (and_parts (ltb s g.clients && ltb c g.clients) (ltb k 8) e).0).0

  -- what is known of a slot is of the head slot of a queue to c
  pub known_head : (s r k x : ℕ) → KnownHolds g w v c (record { spot = Slot s r k; value = x }) → IsHead g w v c s k
  known_head s r k x a =
      let some : w (Slot s c k) ≢ 0 = (λ z. a.5 (sym a.6 ∙ z)) in
      record { receiver = l; sender = slot_sender s k some; other = a.1; place = a.2; some = a.3; left = a.4; word = some }

  -- and what it names is what is known of it
  pub known_target : (s r k x : ℕ) → KnownHolds g w v c (record { spot = Slot s r k; value = x }) → targets g w v (Slot s c k) ≡ x
  known_target s r k x a = head_target g w v h c s k (known_head s r k x a) ∙ a.6

  -- what is known of slots is what they name
  known_named : (p : Spot) (x : ℕ) → KnownHolds g w v c (record { spot = p; value = x }) → HeadNamed (targets g w v) (λ s i. w (Tail s i)) (λ s i. w (QueueHead s i)) c p x
  known_named (Slot s r k) x a = (a.0, a.2, a.3, known_target s r k x a)
  known_named p x a = tt

  pub all_named : (ks : List Stored) → All (KnownHolds g w v c) ks → All (λ (k : Stored). HeadNamed (targets g w v) (λ s i. w (Tail s i)) (λ s i. w (QueueHead s i)) c k.spot k.value) ks
  all_named ks = All-weaker (KnownHolds g w v c) (λ (k : Stored). HeadNamed (targets g w v) (λ s i. w (Tail s i)) (λ s i. w (QueueHead s i)) c k.spot k.value) (λ k a. known_named k.spot k.value a) ks

-- ---- the memo of a state that holds

module _ (g : Geometry) (w : Spot → ℕ) (r : ℕ → Memo) (h : HeldAt g w (view r)) (c : ℕ) (l : c < g.clients) where
  -- the memo shows the targets
  pub names_here : Names (targets g w (view r)) (λ s i. w (Tail s i)) (λ s i. w (QueueHead s i)) c (r c)
  names_here =
      record {
        roots = λ k. sym (shown_target g w (view r) h c l (Root c k) refl);
        home = sym (shown_target g w (view r) h c l (Home c) refl);
        slots = all_named g w (view r) h c l (r c).known (h.known c l);
      }

  -- what the memo names is named, and what it has in reach is in reach
  pub named_here : (b : ℕ) → is_named c (r c) b ≡ true → named_by (targets g w (view r)) (λ s i. w (Tail s i)) (λ s i. w (QueueHead s i)) c b
  named_here b e = named_sound (targets g w (view r)) (λ s i. w (Tail s i)) (λ s i. w (QueueHead s i)) c (r c) names_here b e

  pub reached_here : (b : ℕ) → is_reached c (r c) b ≡ true → InReach w g (view r) c b
  reached_here b e = reached_sound (targets g w (view r)) (λ s i. w (Tail s i)) (λ s i. w (QueueHead s i)) c (r c) names_here b e

  -- the blocks that it has in reach
  pub all_reached : All (InReach w g (view r) c) (reached_blocks c (r c))
  all_reached = blocks_reached (targets g w (view r)) (λ s i. w (Tail s i)) (λ s i. w (QueueHead s i)) c (r c) names_here
