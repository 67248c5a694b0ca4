-- what stays known, and which value blocks stay, once the memo has dropped what binds no more
use Rattle.std.specs.List.{All, Contains, filter}
use Rattle.std.proofs.lemmas.List.Elements.{Contains-append_left}
use Rattle.std.proofs.lemmas.Bool.{and_from, and_parts, cond-false, eqb-true, false_from_ne_true, or_cases, true≢false}
use Rattle.std.proofs.Common.{List, Option, [], ap, eq-eqb, eqb, false, inl, inr, refl, subst, sym, true, ℕ, ◌%◌, ◌&&◌, ◌++◌, ◌+◌, ◌<◌, ◌∙◌, ◌∷◌, ◌≡◌, ◌⊎◌, Bool}
use Rattle.kind_laws.proofs.Lists.{All-kept}
use Rattle.kind_laws.specs.HeaderExchanges.{dying_after, untaken_after}
use Rattle.shm_graph.specs.declared.{spot.Spot.{TheVariants.{Body, QueueHead, Slot, Tag, Tail}, Spot}, memo.Memo.Memo}
use Rattle.shm_graph.specs.{declared.memo.Stored.Stored, Tables.{Contents, HasShape, contents_of}}
use Rattle.shm_graph.specs.{Held.{KnownAt, ValueAt, HeldAt, reach_of}, Views.{View, targets}}
use Rattle.shm_graph.specs.{Reach.{binds, is_dying, is_reached}, Spots.same_spot}
use Rattle.shm_graph.proofs.{States.{Holders.{Holds, InReach}, Reached.{Names, reached_sound}}, StepKinds.Loads.choice}
use Rattle.shm_words.specs.declared.geometry.Geometry.{Geometry}
use Rattle.kind_parts.proofs.Naming.{IsSpared, StaysKnown}

-- what c knows of a word after a step, where what the memo then shows in reach is in reach, and what it shows dying is dying
pub sift_known : (wide : Bool) (c : ℕ) (tag : ℕ → ℕ) (body : ℕ → ℕ → ℕ) (slot : ℕ → ℕ → ℕ → ℕ) (tail queue_head : ℕ → ℕ → ℕ) (untaken untaken' : ℕ → ℕ) (latch : Option ℕ) (reach reach' : ℕ → Type 0) (dying dying' : List ℕ) (n : Memo)
    → ((b : ℕ) → is_reached c n b ≡ true → reach' b) → ((b : ℕ) → is_dying n b ≡ true → Contains dying' b) → ((b : ℕ) → Contains dying b → Contains dying' b)
    → (q : Spot) (x : ℕ) → ((s r k : ℕ) → q ≡ Slot s r k → r ≡ c → k ≡ queue_head s c % 8 → untaken s ≡ 0 → untaken' s ≡ 0)
    → binds c n q ≡ true → KnownAt wide c tag body slot tail queue_head untaken latch reach dying q x → KnownAt wide c tag body slot tail queue_head untaken' latch reach' dying' q x
sift_known wide c tag body slot tail queue_head untaken untaken' latch reach reach' dying dying' n hr hd more (Tag b) x left e k =
    (k.0, elim (or_cases (is_reached c n b) (is_dying n b) e) [ inl u ↦ inr (hr b u) | inr u ↦ inl (hd b u) ])
sift_known wide c tag body slot tail queue_head untaken untaken' latch reach reach' dying dying' n hr hd more (Body b i) x left e k = (
  k.0,
  elim k.1 [
    | inl u ↦ inl (more b u)
    | inr u ↦ elim (or_cases (is_reached c n b) (is_dying n b) e) [ inl y ↦ inr (hr b y, u.1) | inr y ↦ inl (hd b y) ]
  ],
)
sift_known wide c tag body slot tail queue_head untaken untaken' latch reach reach' dying dying' n hr hd more (Slot s r k) x left e y =
    (y.0, y.1, y.2, y.3, left s r k refl y.0 y.2 y.4, y.5, y.6)
sift_known wide c tag body slot tail queue_head untaken untaken' latch reach reach' dying dying' n hr hd more _ x left e k = absurd k

-- value blocks keep their shape
pub sift_values : (x x' : Contents) (c : ℕ) (n : Memo) (reach reach' : ℕ → Type 0) → ((b : ℕ) → HasShape x 0 1 b → HasShape x' 0 1 b) → ((b : ℕ) → is_reached c n b ≡ true → reach' b) → (bs : List ℕ) → All (ValueAt x reach) bs → All (ValueAt x' reach') (filter (is_reached c n) bs)
sift_values x x' c n reach reach' shape hr bs h = All-kept (ValueAt x reach) (ValueAt x' reach') (is_reached c n) (λ b e y. (shape b y.0, hr b e)) bs h

-- a dying block stays one where another one joins
pub dying_more : (n b : ℕ) (bs : List ℕ) (d : ℕ) → Contains bs d → Contains (dying_after n b bs) d
dying_more n b bs d x = choice (λ ds. Contains ds d) (eqb n 0) (bs ++ b ∷ []) bs (λ e. Contains-append_left bs (b ∷ []) d x) (λ e. x)

-- no item that is known is the one that is taken
pub untaken_stays : (w : Spot → ℕ) (g : Geometry) (v : View) (c : ℕ) (p : Spot) (b : ℕ) → Holds w g v c p → (q : Spot) → IsSpared p q → (s r k : ℕ) → q ≡ Slot s r k → r ≡ c → k ≡ w (QueueHead s c) % 8 → v.untaken c s ≡ 0 → untaken_after c p b v.untaken c s ≡ 0
untaken_stays w g v c (Slot i j l) b mine q o s r k e me at left =
    cond-false _ _ _ (false_from_ne_true (eqb j c && (eqb i s && eqb j c)) (λ z. let y = and_parts (eqb j c) (eqb i s && eqb j c) z in let u = eqb-true j c y.0 in let i-s = eqb-true i s (and_parts (eqb i s) (eqb j c) y.1).0 in
    taken u i-s mine.1)) ∙ left
  where
    taken : j ≡ c → i ≡ s → ((i ≡ c) × (l ≡ w (Tail i j) % 8) × (w (Tail i j) < w (QueueHead i j) + 8)) ⊎ ((j ≡ c) × (l ≡ w (QueueHead i j) % 8) × (w (QueueHead i j) < w (Tail i j))) → ⊥
    taken u z (inl y) = mine.0 (y.0 ∙ sym u)
    taken u z (inr y) =
        let m : l ≡ k = y.1 ∙ (ap (λ n. w (QueueHead n j) % 8) z ∙ (ap (λ n. w (QueueHead s n) % 8) u ∙ sym at)) in
        let d : same_spot (Slot i j l) (Slot s r k) ≡ true = and_from _ _ (eq-eqb i s z) (and_from _ _ (eq-eqb j r (u ∙ sym me)) (eq-eqb l k m)) in
        let f : same_spot (Slot i j l) (Slot s r k) ≡ false = subst (IsSpared (Slot i j l)) e o in
        true≢false (sym d ∙ f)
untaken_stays w g v c _ b mine q o s r k e me at left = left

module _ (g : Geometry) (w : Spot → ℕ) (v : View) (h : HeldAt g w v) (c : ℕ) (l : c < g.clients) (p : Spot) (t' : Spot → ℕ) (k : Memo) (names : Names t' (λ i j. w (Tail i j)) (λ i j. w (QueueHead i j)) c k) where
  -- what is in reach by these targets and the looks of the memo
  abbrev pub InReachAfter : ℕ → Type 0
  InReachAfter = reach_of t' (λ i j. w (Tail i j)) (λ i j. w (QueueHead i j)) (λ d. k.looks) c

  reached : (b : ℕ) → is_reached c k b ≡ true → InReachAfter b
  reached b e = reached_sound t' (λ i j. w (Tail i j)) (λ i j. w (QueueHead i j)) c k names b e

  -- what the memo then knows is so
  pub known_after : (untaken' : ℕ → ℕ) (dying' : List ℕ) → ((q : Spot) → IsSpared p q → (s r j : ℕ) → q ≡ Slot s r j → r ≡ c → j ≡ w (QueueHead s c) % 8 → v.untaken c s ≡ 0 → untaken' s ≡ 0)
      → ((b : ℕ) → is_dying k b ≡ true → Contains dying' b) → ((b : ℕ) → Contains (v.dying c) b → Contains dying' b) → (ks : List Stored) → All (StaysKnown g w v c p) ks
      → All (λ (s : Stored). KnownAt g.wide c (λ i. w (Tag i)) (λ i j. w (Body i j)) (λ i j a. w (Slot i j a)) (λ i j. w (Tail i j)) (λ i j. w (QueueHead i j)) untaken' (v.latch c) InReachAfter dying' s.spot s.value) (filter (λ s. binds c k s.spot) ks)
  known_after untaken' dying' left hd more ks a =
      All-kept (StaysKnown g w v c p)
      (λ (s : Stored). KnownAt g.wide c (λ i. w (Tag i)) (λ i j. w (Body i j)) (λ i j a. w (Slot i j a)) (λ i j. w (Tail i j)) (λ i j. w (QueueHead i j)) untaken' (v.latch c) InReachAfter dying' s.spot s.value)
      (λ s. binds c k s.spot)
      (λ s e y. sift_known g.wide c (λ i. w (Tag i)) (λ i j. w (Body i j)) (λ i j a. w (Slot i j a)) (λ i j. w (Tail i j)) (λ i j. w (QueueHead i j)) (v.untaken c) untaken' (v.latch c) (InReach w g v c) InReachAfter (v.dying c) dying' k reached hd more s.spot s.value (left s.spot y.1) e y.0)
      ks a

  -- and so are its value blocks
  pub values_after : All (ValueAt (contents_of g.wide w t') InReachAfter) (filter (is_reached c k) (v.values c))
  values_after = sift_values (contents_of g.wide w (targets g w v)) (contents_of g.wide w t') c k (InReach w g v c) InReachAfter (λ b y. record { live = y.live; names = y.names; words = y.words }) reached (v.values c) (h.values c l)
