-- What stays of targets, of live blocks and of words of live blocks.
use Rattle.std.proofs.Common.{◌≡◌, ℕ, ◌<◌, ◌≤◌, ◌==◌, Bool, true, false, refl, ap, ◌∙◌, subst, arith, inl, inr, ◌⊎◌, eqb, cond}
use Rattle.std.proofs.lemmas.Bool.{cases_Bool, cond-true, cond-false, eqb-true}
use Rattle.shm_words.specs.{declared.geometry.Geometry.Geometry, Tags.{tag_plain, tag_refs}}
use Rattle.shm_words.proofs.Words.{live_not_zero}
use Rattle.shm_graph.specs.declared.{ask.Ask.{Ask, TheVariants.{Exchange, Load, Store}}, memo.Op.Op, spot.Spot.Spot}
use Rattle.shm_graph.specs.{declared.spot.Spot.TheVariants.{Body, Head, QueueHead, Root, Tag, Tail}, Asks.words_after}
use Rattle.shm_graph.specs.{Blocks.{IsLive, headers}, Controllers.{IsAllowed, IsController, IsOpen}}
use Rattle.shm_graph.specs.Events.{Event, Nothing, Alloc, Up, Down, ChangeUp, ChangeDown, Free, Graph, Happens, graph_of}
use Rattle.shm_graph.specs.{Held.{HeldAt, SlotOf, reach_of}, Ops.{is_op, slot_of}, Spots.{same_spot, upd}}
use Rattle.shm_graph.specs.Views.{View, at1, targets}
use Rattle.shm_graph.specs.declared.memo.Op.TheVariants as op
use Rattle.shm_graph.proofs.{Runs.Shapes.tag_stays, Spots.Spotting.same_spot_is}
use Rattle.shm_tree.proofs.Turns.{StepsKeep}

-- ---- events

-- what the spot names may change
abbrev pub touches : Event → Spot → Bool
touches (Alloc c k b) p = same_spot (Root c k) p
touches (Up c q b) p = same_spot q p
touches (Down c q b) p = same_spot q p
touches (ChangeUp c q a b) p = same_spot q p
touches e p = false

-- the block is made live, or freed
abbrev pub makes : Event → ℕ → Bool
makes (Alloc c k b) x = b == x
makes e x = false

abbrev pub frees : Event → ℕ → Bool
frees (Free c b) x = b == x
frees e x = false

abbrev pub UntouchedBy : Spot → Event → Type 0
UntouchedBy p e = touches e p ≡ false

abbrev pub Unfreed : ℕ → Event → Type 0
Unfreed x e = frees e x ≡ false

abbrev pub Unmade : ℕ → Event → Type 0
Unmade x e = makes e x ≡ false

-- neither
abbrev pub Unlived : ℕ → Event → Type 0
Unlived x e = (makes e x ≡ false) × (frees e x ≡ false)

module _ (g : Geometry) (w : Spot → ℕ) (a b : Graph) where
  event_target : (e : Event) (p : Spot) → Happens g w e a b → touches e p ≡ false → b.target p ≡ a.target p
  event_target Nothing p h n = h.targets p
  event_target (Alloc c k x) p h n = h.3.2.targets p ∙ cond-false (same_spot (Root c k) p) x (a.target p) n
  event_target (Up c q x) p h n = h.2.targets p ∙ cond-false (same_spot q p) x (a.target p) n
  event_target (Down c q x) p h n = h.2.targets p ∙ cond-false (same_spot q p) 0 (a.target p) n
  event_target (ChangeUp c q x y) p h n = h.4.targets p ∙ cond-false (same_spot q p) y (a.target p) n
  event_target (ChangeDown c x) p h n = h.2.targets p
  event_target (Free c x) p h n = h.4.targets p

  at_other : {T : Type 0} (f : ℕ → T) (x : ℕ) (l : T) (d : ℕ) → x == d ≡ false → at1 f x l d ≡ f d
  at_other f x l d n = cond-false (x == d) l (f d) n

  event_live : (e : Event) (x : ℕ) → Happens g w e a b → makes e x ≡ false → frees e x ≡ false → b.live x ≡ a.live x
  event_live Nothing x h m f = h.lives x
  event_live (Alloc c k y) x h m f = h.3.2.lives x ∙ at_other a.live y true x m
  event_live (Up c q y) x h m f = h.2.lives x
  event_live (Down c q y) x h m f = h.2.lives x
  event_live (ChangeUp c q y z) x h m f = h.4.lives x
  event_live (ChangeDown c y) x h m f = h.2.lives x
  event_live (Free c y) x h m f = h.4.lives x ∙ at_other a.live y false x f

  -- a live block that isn't freed is live
  event_lives : (e : Event) (x : ℕ) → Happens g w e a b → frees e x ≡ false → a.live x ≡ true → b.live x ≡ true
  event_lives (Alloc c k y) x h f l =
      h.3.2.lives x
      ∙ elim (cases_Bool (y == x)) [
        | inl e ↦ cond-true (y == x) true (a.live x) e
        | inr e ↦ cond-false (y == x) true (a.live x) e ∙ l
      ]
  event_lives Nothing x h f l = h.lives x ∙ l
  event_lives (Up c q y) x h f l = h.2.lives x ∙ l
  event_lives (Down c q y) x h f l = h.2.lives x ∙ l
  event_lives (ChangeUp c q y z) x h f l = h.4.lives x ∙ l
  event_lives (ChangeDown c y) x h f l = h.2.lives x ∙ l
  event_lives (Free c y) x h f l = h.4.lives x ∙ (at_other a.live y false x f ∙ l)

  -- and one that isn't live and isn't made isn't
  event_dead : (e : Event) (x : ℕ) → Happens g w e a b → makes e x ≡ false → a.live x ≡ false → b.live x ≡ false
  event_dead (Free c y) x h m l =
      h.4.lives x
      ∙ elim (cases_Bool (y == x)) [
        | inl e ↦ cond-true (y == x) false (a.live x) e
        | inr e ↦ cond-false (y == x) false (a.live x) e ∙ l
      ]
  event_dead (Alloc c k y) x h m l = h.3.2.lives x ∙ (at_other a.live y true x m ∙ l)
  event_dead Nothing x h m l = h.lives x ∙ l
  event_dead (Up c q y) x h m l = h.2.lives x ∙ l
  event_dead (Down c q y) x h m l = h.2.lives x ∙ l
  event_dead (ChangeUp c q y z) x h m l = h.4.lives x ∙ l
  event_dead (ChangeDown c y) x h m l = h.2.lives x ∙ l

-- ---- word steps

module _ (g : Geometry) (c : ℕ) where
  -- what a spot names
  pub target_kept : (s : Spot) (x : ℕ) → StepsKeep g c (UntouchedBy s) (λ w v. targets g w v s ≡ x)
  target_kept s x w w' v v' a p e who h step words good is = event_target g w (graph_of g w v) (graph_of g w' v') e s step.event good ∙ is

  -- whether a block is live
  pub life_kept : (b : ℕ) (l : Bool) → StepsKeep g c (Unlived b) (λ w v. (headers w b).live ≡ l)
  life_kept b l w w' v v' a p e who h step words good is = event_live g w (graph_of g w v) (graph_of g w' v') e b step.event good.0 good.1 ∙ is

  pub dead_kept : (b : ℕ) → StepsKeep g c (Unmade b) (λ w v. (headers w b).live ≡ false)
  dead_kept b w w' v v' a p e who h step words good is = event_dead g w (graph_of g w v) (graph_of g w' v') e b step.event good is

  -- the step in progress has a slot where it has one in a block
  op_slot : (o : Op) (b i : ℕ) → slot_of o ≡ Body b i → is_op o ≡ true
  op_slot op.Nothing b i e = cc
  op_slot (op.Alloc s p x n) b i e = refl
  op_slot (op.Up s p x n) b i e = refl
  op_slot (op.Down s p x n) b i e = refl
  op_slot (op.Change s p x y n) b i e = refl

  -- nobody may store a word of a live block that is no reference word
  plain_held : (w : Spot → ℕ) (v : View) (b i : ℕ) → c < g.clients → HeldAt g w v → IsLive (headers w) b → tag_refs g.wide (w (Tag b)) ≤ i → IsController g w v c (Body b i) ⊎ IsOpen w (Body b i) → ⊥
  plain_held w v b i who h live past (inl (inl free)) = live_not_zero (w (Head b)) live free.0
  plain_held w v b i who h live past (inl (inr (inl dying))) = let n = dying.1 in omega arith
  plain_held w v b i who h live past (inl (inr (inr (inl slot)))) =
      let k : SlotOf g.wide c (headers w) (λ d. w (Tag d)) (v.latch c) (λ s r. w (Tail s r)) (λ s r. w (QueueHead s r)) (reach_of (targets g w v) (λ s r. w (Tail s r)) (λ s r. w (QueueHead s r)) v.looks c) (Body b i) =
      subst (SlotOf g.wide c (headers w) (λ d. w (Tag d)) (v.latch c) (λ s r. w (Tail s r)) (λ s r. w (QueueHead s r)) (reach_of (targets g w v) (λ s r. w (Tail s r)) (λ s r. w (QueueHead s r)) v.looks c)) slot (h.slots c who (op_slot (v.op c) b i slot)) in
      let n : i < tag_refs g.wide (w (Tag b)) = k.1 in
      omega arith
  plain_held w v b i who h live past (inl (inr (inr (inr slot)))) = let n = slot.1 in omega arith
  plain_held w v b i who h live past (inr y) = y

  -- a word that isn't one's to change is left
  word_left : (w : Spot → ℕ) (v : View) (a : Ask) (q p : Spot) → IsAllowed g w v c a q → (IsController g w v c p ⊎ IsOpen w p → ⊥) → words_after w a q p ≡ w p
  word_left w v (Load at) q p may not = refl
  word_left w v (Store at x) q p may not =
      elim (cases_Bool (same_spot q p)) [
        | inl e ↦ absurd (not (inl (subst (IsController g w v c) (same_spot_is q p e) may)))
        | inr e ↦ cond-false (same_spot q p) x (w p) e
      ]
  word_left w v (Exchange at from to) q p may not =
      elim (cases_Bool (eqb (w q) from)) [
        | inr e ↦ ap (λ b. cond b (upd w q to) w p) e
        | inl e ↦ elim (cases_Bool (same_spot q p)) [
          | inl s ↦ absurd (not (subst (λ y. IsController g w v c y ⊎ IsOpen w y) (same_spot_is q p s) (may (eqb-true (w q) from e))))
          | inr s ↦ ap (λ b. cond b (upd w q to) w p) e ∙ cond-false (same_spot q p) to (w p) s
        ]
      ]

  -- a live block with so many reference words and plain words, and what its plain words hold
  pub record HasPlain (b r n : ℕ) (f : ℕ → ℕ) (w : Spot → ℕ) : Type 0 where
    pub live : IsLive (headers w) b
    pub refs : tag_refs g.wide (w (Tag b)) ≡ r
    pub plain : tag_plain g.wide (w (Tag b)) ≡ n
    pub words : (i : ℕ) → r ≤ i → w (Body b i) ≡ f i

  pub plain_kept : (b r n : ℕ) (f : ℕ → ℕ) → StepsKeep g c (Unfreed b) (λ w v. HasPlain b r n f w)
  plain_kept b r n f w w' v v' a p e who h step words good is =
      let live : IsLive (headers w') b = event_lives g w (graph_of g w v) (graph_of g w' v') e b step.event good is.live in
      let tag = tag_stays g w v w' v' e step.event b is.live live in
      record {
        live = live;
        refs = tag.0 ∙ is.refs;
        plain = tag.1 ∙ is.plain;
        words = λ i l. ap (λ (x : Spot → ℕ). x (Body b i)) words ∙ (word_left w v a p (Body b i) step.allowed (plain_held w v b i who h is.live (let m = is.refs in omega arith)) ∙ is.words i l);
      }
