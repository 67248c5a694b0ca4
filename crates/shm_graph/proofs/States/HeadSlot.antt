-- the head slot of a queue: what it names is its word
use Rattle.std.proofs.Common.{◌≡◌, ◌≢◌, ℕ, zero, suc, ◌%◌, ◌<◌, refl, sym, ap, ◌∙◌, subst, arith, false, inl, inr, ◌⊎◌}
use Rattle.std.proofs.lemmas.Bool.{cases_Bool, cond-true, cond-false, eq-eqb, true≢false, false≢true}
use Rattle.std.proofs.lemmas.List.Elements.{All-get_or}
use Rattle.shm_words.specs.declared.geometry.Geometry.{Geometry}
use Rattle.shm_graph.specs.declared.spot.Spot.{Spot, TheVariants.{Tail, QueueHead, Slot}}
use Rattle.shm_graph.specs.declared.memo.First.TheVariants.{Begun, Committed, Written}
use Rattle.shm_graph.specs.declared.memo.{ChangeStage.TheVariants.{Raising, Lowering}, Op.Op}
use Rattle.shm_graph.specs.{declared.memo.Op.TheVariants.{Nothing, Alloc, Up, Down, Change}, Spots.same_spot}
use Rattle.shm_graph.specs.{Ops.{Cover, cover, cover_of, covered, slot_of, Cover.On}, Tables.contents_of}
use Rattle.shm_graph.specs.Views.{View, targets}
use Rattle.shm_graph.specs.Held.{HeldAt, Allowed, ValueAt, is_loose, is_root, is_slot, is_slot_to}
use Rattle.shm_graph.proofs.States.{HomeTarget.cover_never, Holders.{InReach, one_holder, step_holds}}
use Rattle.shm_graph.proofs.Memos.KnownChange.{KnownHolds, ValueHolds}

-- the slot of the next item from s to c, which was sent and not taken
pub record IsHead (g : Geometry) (w : Spot → ℕ) (v : View) (c s k : ℕ) : Type 0 where
  pub receiver : c < g.clients
  pub sender : s < g.clients
  pub other : s ≢ c
  pub place : k ≡ w (QueueHead s c) % 8
  pub some : w (QueueHead s c) < w (Tail s c)
  pub left : v.untaken c s ≡ 0
  pub word : w (Slot s c k) ≢ 0

-- ---- covers

-- a cover with 0 leaves the word or makes it 0
cover_zero : (q p : Spot) (x : ℕ) → cover (On q 0) p x ≡ x ⊎ cover (On q 0) p x ≡ 0
cover_zero q p x =
    elim (cases_Bool (same_spot q p)) [
      | inl e ↦ inr (cond-true _ _ _ e)
      | inr e ↦ inl (cond-false _ _ _ e)
    ]

-- a step that covers a slot to its own identity makes it 0
slot_cover : (c s k d : ℕ) (o : Op) → Allowed d o → (slot_of o ≡ Slot s c k → c ≡ d) → (x : ℕ) → cover (cover_of o) (Slot s c k) x ≡ x ⊎ cover (cover_of o) (Slot s c k) x ≡ 0
slot_cover c s k d (Alloc f p b e) may own x = inl (cover_never f p (Slot s c k) b x (λ q. false≢true (ap is_root (sym q) ∙ may)))
slot_cover c s k d (Up f p b e) may own x = inl (cover_never f p (Slot s c k) b x (λ q. true≢false (sym (eq-eqb c d (own q)) ∙ (ap (is_slot_to d) (sym q) ∙ may))))
slot_cover c s k d (Down Committed p b e) may own x = cover_zero p (Slot s c k) x
slot_cover c s k d (Down Written p b e) may own x = cover_zero p (Slot s c k) x
slot_cover c s k d (Change (Raising f) p a b e) may own x = inl (cover_never f p (Slot s c k) b x (λ q. true≢false (ap is_slot (sym q) ∙ may.0)))
slot_cover c s k d _ may own x = inl refl

-- covers that leave a word or make it 0
covered_or_none : (ps : ℕ → Cover) (n : ℕ) (p : Spot) (x : ℕ) → ((d : ℕ) → d < n → (y : ℕ) → cover (ps d) p y ≡ y ⊎ cover (ps d) p y ≡ 0) → covered ps n p x ≡ x ⊎ covered ps n p x ≡ 0
covered_or_none ps zero p x h = inl refl
covered_or_none ps (suc n) p x h =
    elim (h n (omega arith) (covered ps n p x)) [
      | inl e ↦ elim (covered_or_none ps n p x (λ d l. h d (omega arith))) [
        | inl f ↦ inl (e ∙ f)
        | inr f ↦ inr (e ∙ f)
      ]
      | inr e ↦ inr e
    ]

module _ (g : Geometry) (w : Spot → ℕ) (v : View) (h : HeldAt g w v) (c s k : ℕ) (a : IsHead g w v c s k) where
  -- a step in progress at the slot is the receiver's
  head_owner : (d : ℕ) → d < g.clients → slot_of (v.op d) ≡ Slot s c k → c ≡ d
  head_owner d l e = one_holder g w v h c d (Slot s c k) a.receiver l (a.other, inr (refl, a.place, a.some)) (step_holds g w v h d (Slot s c k) l (λ z. cc) e)

  -- the slot names the item
  head_some : targets g w v (Slot s c k) ≢ 0
  head_some z =
      let lane = h.lanes s c a.sender a.receiver a.other in
      All-get_or (λ b. b ≢ 0) (v.sent s c) (w (QueueHead s c)) 0 (let n = lane.all_sent in let m = a.some in omega arith) lane.some
      (sym (lane.items (w (QueueHead s c)) (omega arith) a.some (a.left, refl)) ∙ subst (λ j. targets g w v (Slot s c j) ≡ 0) a.place z)

  -- which is its word
  pub head_target : targets g w v (Slot s c k) ≡ w (Slot s c k)
  head_target =
      elim (covered_or_none (λ d. cover_of (v.op d)) g.clients (Slot s c k) (w (Slot s c k)) (λ d l. slot_cover c s k d (v.op d) (h.allowed d l) (head_owner d l))) [
        | inl e ↦ e
        | inr e ↦ absurd (head_some e)
      ]

  -- ---- what the receiver notes of the item

  -- it is in reach
  pub head_reach : InReach w g v c (w (Slot s c k))
  head_reach = inl (a.word, inr (inr (s, a.some, subst (λ j. targets g w v (Slot s c j) ≡ w (Slot s c k)) a.place head_target)))

  -- and the slot is known
  pub head_known : KnownHolds g w v c (record { spot = Slot s c k; value = w (Slot s c k) })
  head_known = (refl, a.other, a.place, a.some, a.left, a.word, refl)

  -- in a pool for tables the item is a value block
  pub head_value : is_loose (v.part c) ≡ false → ValueHolds g w v c (w (Slot s c k))
  head_value e = subst (ValueAt (contents_of g.wide w (targets g w v)) (InReach w g v c)) head_target (h.queued c a.receiver e s c k head_some, subst (InReach w g v c) (sym head_target) head_reach)
