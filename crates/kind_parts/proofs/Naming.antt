-- what the memo names once its step is committed is what the new targets name
use Rattle.std.specs.List.{All, filter}
use Rattle.std.proofs.lemmas.List.Elements.{All-weaker, All-filter}
use Rattle.std.proofs.lemmas.Bool.{and_left, and_right, cond-false, ne_eqb, not-true, true≢false}
use Rattle.std.proofs.Common.{List, ap, cond, eq-eqb, eqb, false, refl, subst, sym, true, ℕ, ◌&&◌, ◌∙◌, ◌≡◌, ◌<◌}
use Rattle.kind_laws.proofs.Lists.{All-kept}
use Rattle.shm_words.specs.declared.geometry.Geometry.{Geometry}
use Rattle.shm_graph.proofs.{States.Reached.{HeadNamed, Names, all_named}, Memos.KnownChange.KnownHolds}
use Rattle.shm_graph.proofs.StepKinds.Loads.{choice}
use Rattle.shm_graph.specs.declared.{spot.Spot.{TheVariants.{Home, Root, Slot, QueueHead, Tail}, Spot}, memo.Memo.Memo}
use Rattle.shm_graph.specs.{declared.memo.Stored.Stored, Ops.{On, Quiet, cover, cover_of}}
use Rattle.shm_graph.specs.{Views.{View, own_word, targets}, Held.{is_slot, HeldAt}}
use Rattle.shm_graph.specs.{MemoAfterStore.{other_than, not_of}, Spots.{same_spot, upd}, Reach.shown}
use Rattle.kind_parts.proofs.MemoCommits.{known_left, known_lowered}

-- a known slot is another one than p
abbrev pub IsSpared : Spot → Spot → Type 0
IsSpared p (Slot i j k) = same_spot p (Slot i j k) ≡ false
IsSpared p q = Unit {0}

-- where p is no slot of a queue, each slot is another one
spared : (p q : Spot) → is_slot p ≡ false → IsSpared p q
spared (Slot i j k) q e = absurd (true≢false e)
spared p (Slot i j k) e = refl
spared p q e = tt

module _ (g : Geometry) (w : Spot → ℕ) (v : View) (c : ℕ) where
  -- a word that is known as it is, and that isn't the head slot that is taken
  abbrev pub StaysKnown : Spot → Stored → Type 0
  StaysKnown p s = KnownHolds g w v c s × IsSpared p s.spot

  -- a slot of a queue that isn't one to c is none that is known
  spared_other : (s i j : ℕ) → (i ≡ c → ⊥) → (q : Spot) (x : ℕ) → KnownHolds g w v c (record { spot = q; value = x }) → IsSpared (Slot s i j) q
  spared_other s i j n (Slot k d l) x a = and_right (eqb s k) (eqb i d && eqb j l) (and_left (eqb i d) (eqb j l) (ne_eqb i d (λ e. n (e ∙ a.0))))
  spared_other s i j n q x a = tt

  spared_left : (p q : Spot) → other_than p q ≡ true → IsSpared p q
  spared_left p (Slot i j k) e = not-true (same_spot p (Slot i j k)) e
  spared_left p q e = tt

  -- once the slot that is taken is forgotten, none that is known is that one
  pub all_spared : (p : Spot) (ks : List Stored) → All (KnownHolds g w v c) ks → All (StaysKnown p) (known_left c p ks)
  all_spared (Slot s i j) ks h =
      choice (All (StaysKnown (Slot s i j))) (eqb i c) (filter (λ x. other_than (Slot s i j) x.spot) ks) ks
      (λ e. All-kept (KnownHolds g w v c) (StaysKnown (Slot s i j)) (λ x. other_than (Slot s i j) x.spot) (λ x o a. (a, spared_left (Slot s i j) x.spot o)) ks h)
      (λ e. All-weaker (KnownHolds g w v c) (StaysKnown (Slot s i j)) (λ x a. (a, spared_other s i j (λ z. true≢false (sym (eq-eqb i c z) ∙ e)) x.spot x.value a)) ks h)
  all_spared p ks h = All-weaker (KnownHolds g w v c) (StaysKnown p) (λ x a. (a, spared p x.spot refl)) ks h

-- a head slot other than p names what it did
head_spared : (t : Spot → ℕ) (tail queue_head : ℕ → ℕ → ℕ) (c : ℕ) (p : Spot) (x : ℕ) (q : Spot) (y : ℕ) → HeadNamed t tail queue_head c q y → IsSpared p q → HeadNamed (upd t p x) tail queue_head c q y
head_spared t tail queue_head c p x (Slot s r k) y h o =
    (h.0, h.1, h.2, cond-false (same_spot p (Slot s c k)) x (t (Slot s c k)) (subst (λ d. same_spot p (Slot s d k) ≡ false) h.0 o) ∙ h.3)
head_spared t tail queue_head c p x q y h o = tt

-- the committed step gives its slot a new target
pub names_after : (t : Spot → ℕ) (tail queue_head : ℕ → ℕ → ℕ) (c : ℕ) (m n : Memo) (p : Spot) (x : ℕ) → Names t tail queue_head c m → cover_of m.op ≡ Quiet → cover_of n.op ≡ On p x → n.own ≡ m.own
    → All (λ (s : Stored). HeadNamed t tail queue_head c s.spot s.value × IsSpared p s.spot) n.known → Names (upd t p x) tail queue_head c n
names_after t tail queue_head c m n p x a quiet on own ks =
    record {
      roots = λ k. word (Root c k) (a.roots k);
      home = word (Home c) a.home;
      slots = All-weaker (λ (s : Stored). HeadNamed t tail queue_head c s.spot s.value × IsSpared p s.spot) (λ (s : Stored). HeadNamed (upd t p x) tail queue_head c s.spot s.value) (λ s z. head_spared t tail queue_head c p x s.spot s.value z.0 z.1) n.known ks;
    }
  where
    word : (q : Spot) → shown m q ≡ t q → shown n q ≡ upd t p x q
    word q e = ap (λ z. cover z q (own_word n.own q)) on ∙ ap (cond (same_spot p q) x) (ap (λ z. own_word z q) own ∙ (sym (ap (λ z. cover z q (own_word m.own q)) quiet) ∙ e))

-- the targets stay, and so do the memo's own words
pub names_same : (t : Spot → ℕ) (tail queue_head : ℕ → ℕ → ℕ) (c : ℕ) (m n : Memo) → Names t tail queue_head c m → cover_of n.op ≡ cover_of m.op → n.own ≡ m.own → All (λ (s : Stored). HeadNamed t tail queue_head c s.spot s.value) n.known → Names t tail queue_head c n
names_same t tail queue_head c m n a covers own ks =
    record {
      roots = λ k. word (Root c k) (a.roots k);
      home = word (Home c) a.home;
      slots = ks;
    }
  where
    word : (q : Spot) → shown m q ≡ t q → shown n q ≡ t q
    word q e = ap (λ z. cover z q (own_word n.own q)) covers ∙ (ap (λ z. cover (cover_of m.op) q (own_word z q)) own ∙ e)

-- where p is no slot of a queue, all that is known is spared
pub all_spared_apart : (g : Geometry) (w : Spot → ℕ) (v : View) (c : ℕ) (p : Spot) (ks : List Stored) → is_slot p ≡ false → All (KnownHolds g w v c) ks → All (StaysKnown g w v c p) ks
all_spared_apart g w v c p ks e h = All-weaker (KnownHolds g w v c) (StaysKnown g w v c p) (λ x a. (a, spared p x.spot e)) ks h

-- what is spared names head slots
pub spared_named : (g : Geometry) (w : Spot → ℕ) (v : View) (h : HeldAt g w v) (c : ℕ) (l : c < g.clients) (p : Spot) (ks : List Stored) → All (StaysKnown g w v c p) ks
    → All (λ (s : Stored). HeadNamed (targets g w v) (λ i j. w (Tail i j)) (λ i j. w (QueueHead i j)) c s.spot s.value × IsSpared p s.spot) ks
spared_named g w v h c l p ks a =
    let named = all_named g w v h c l ks (All-weaker (StaysKnown g w v c p) (KnownHolds g w v c) (λ s y. y.0) ks a) in
    let other = All-weaker (StaysKnown g w v c p) (λ (s : Stored). IsSpared p s.spot) (λ s y. y.1) ks a in
    λ k d lt. (named k d lt, other k d lt)

-- what holds of all that is known holds of what is left where a count became 0
pub all_lowered : (P : Stored → Type 0) (n b : ℕ) (ks : List Stored) → All P ks → All P (known_lowered n b ks)
all_lowered P n b ks h = choice (All P) (eqb n 0) (filter (not_of b) ks) ks (λ e. All-filter (not_of b) P ks h) (λ e. h)
