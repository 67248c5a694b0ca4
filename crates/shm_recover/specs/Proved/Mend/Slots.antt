-- the store of the slot of a committed step, wherever the slot is
use Rattle.std.proofs.Common.{◌≡◌, ℕ, ◌+◌, ◌^◌, ◌<◌, refl, sym, ap, ◌∙◌, subst, Bool, true, false, cond, inl, inr}
use Rattle.std.proofs.lemmas.Bool.{and_parts, ltb-true}
use Rattle.std.specs.Prelude.{◌⊎◌}
use Rattle.shm_words.specs.Layout.{address}
use Rattle.shm_words.specs.declared.place.Place.TheVariants as place
use Rattle.shm_graph.specs.declared.{ask.{Ask.TheVariants.Store, Me.Me}, spot.Spot.Spot}
use Rattle.shm_graph.specs.declared.memo.{First.TheVariants.{Begun, Committed, Written}, Memo.Memo, Op.Op}
use Rattle.shm_graph.specs.declared.memo.Op.TheVariants.{Alloc, Change, Down, Nothing, Up}
use Rattle.shm_graph.specs.{declared.memo.ChangeStage.TheVariants.{Lowering, Raising}, Blocks.classes, Core.core}
use Rattle.shm_graph.specs.{Held.{HeldAt, OpTie}, Ops.{cover, cover_of, is_op, slot_of}, Reach.shown}
use Rattle.shm_graph.specs.{References.words_of, Spots.{IsAt, same_spot, spot_address}, MemoAfterStore.op_written}
use Rattle.shm_graph.specs.Views.{own_word, view}
use Rattle.shm_graph.specs.declared.spot.Spot.TheVariants as spot
use Rattle.shm_graph.proofs.{Spots.{SpotPlaces.at_is_in, Spotting.in_pool}, States.Holders.Holds}
use Rattle.kind_laws.specs.Slotting.{Writes}
use Rattle.plans.specs.{Parts.IsHeld, Words.IsWord, Proved.Words.word_more}
use Rattle.kind_parts.specs.{Conditions.{IsHere, MayWrite}, WordParts.Makes}
use Rattle.kind_parts.proofs.Words.{Blocks.body_store, Own.{home_store, root_store, word_for}, Queues.slot_store}
use Rattle.shm_recover.specs.Mend.{slotted}

-- a step that writes is one
writes_step : (o : Op) (x : Op) (v : ℕ) → Writes o x v → is_op o ≡ true
writes_step (Alloc s p b e) x v h = refl
writes_step (Up s p b e) x v h = refl
writes_step (Down s p b e) x v h = refl
writes_step (Change s p a b e) x v h = refl
writes_step Nothing x v h = absurd h

-- and its slot is there
writes_at : (o x : Op) (v : ℕ) (me : Me) (w : Spot → ℕ) → Writes o x v → OpTie me.geometry (classes w) (w (spot.Redo me.who)) (w (spot.RedoMore me.who)) (w (spot.Era me.who me.who)) (words_of me.geometry.wide w) o → IsAt me.geometry (classes w) (slot_of o)
writes_at (Alloc s p b e) x v me w h tie = tie.at
writes_at (Up s p b e) x v me w h tie = tie.at
writes_at (Down s p b e) x v me w h tie = tie.at
writes_at (Change (Raising s) p a b e) x v me w h tie = tie.at
writes_at (Change (Lowering s) p a b e) x v me w h tie = absurd h
writes_at Nothing x v me w h tie = absurd h

module _ (me : Me) (m : Memo) (l : me.who < me.geometry.clients) (v : ℕ) (here : IsHere m) (writes : Writes m.op (op_written m.op) v) (small : v < 2 ^ 64) where
  abbrev Stored : ℕ → Type 0
  Stored at = IsWord false me (Store at v) (Makes (λ r. slotted r (slot_of r.op) v)) (word_for me (Store at v)) m

  may_write : (p : Spot) → slot_of m.op ≡ p → MayWrite m p v
  may_write p slot = record { here = here; slot = slot; op = writes; small = small }

  -- by the kind of the slot
  made : (at : ℕ) (F : Memo → Memo) → core (F m) ≡ core (slotted m (slot_of m.op) v) → IsWord false me (Store at v) (Makes F) (word_for me (Store at v)) m → Stored at
  made at F same = word_more false me (Store at v) (Makes F) (Makes (λ r. slotted r (slot_of r.op) v)) (word_for me (Store at v)) m (λ n x h. record { found = tt; left = h.left ∙ same; read = tt })

  at_slot : (w : Spot → ℕ) (r : ℕ → Memo) → HeldAt me.geometry w (view r) → r me.who ≡ m → (p : Spot) → slot_of m.op ≡ p → IsAt me.geometry (classes w) p → Holds w me.geometry (view r) me.who p → Stored (spot_address me.geometry p)
  unfolding spot_address
  at_slot w r h same (spot.Root d k) slot is mine =
      let low = ltb-true k 16 (and_parts _ _ (at_is_in me.geometry (classes w) (spot.Root d k) h.fits is)).1 in
      subst (λ c. Stored (address me.geometry (place.Root c k))) (sym mine)
      (made (address me.geometry (place.Root me.who k)) _ (ap (λ p. core (slotted m p v)) (sym (slot ∙ ap (λ c. spot.Root c k) mine)))
      (root_store false me m l refl k v low (may_write (spot.Root me.who k) (slot ∙ ap (λ c. spot.Root c k) mine))))
  at_slot w r h same (spot.Home d) slot is mine =
      subst (λ c. Stored (address me.geometry (place.Home c))) (sym mine)
      (made (address me.geometry (place.Home me.who)) _ (ap (λ p. core (slotted m p v)) (sym (slot ∙ ap spot.Home mine)))
      (home_store false me m l refl v (may_write (spot.Home me.who) (slot ∙ ap spot.Home mine))))
  at_slot w r h same (spot.Slot s i k) slot is mine =
      let inside = at_is_in me.geometry (classes w) (spot.Slot s i k) h.fits is in
      let parts = and_parts _ _ inside in
      let ends = and_parts _ _ parts.0 in
      made (address me.geometry (place.Slot s i k)) _ (ap (λ p. core (slotted m p v)) (sym slot))
      (slot_store false me m l refl s i k v (ltb-true _ _ ends.0) (ltb-true _ _ ends.1) (ltb-true _ _ parts.1) (may_write (spot.Slot s i k) slot))
  at_slot w r h same (spot.Body b i) slot is mine =
      made (b + 2 + i) _ (ap (λ p. core (slotted m p v)) (sym slot))
      (body_store false me m l b i (in_pool me.geometry (classes w) (b + 2 + i) (spot.Body b i) is (λ e. cc)) refl v (may_write (spot.Body b i) slot))
  at_slot w r h same spot.Spare slot is mine = absurd mine
  at_slot w r h same (spot.Status d) slot is mine = absurd mine
  at_slot w r h same (spot.Redo d) slot is mine = absurd mine
  at_slot w r h same (spot.RedoMore d) slot is mine = absurd mine
  at_slot w r h same (spot.Hold d) slot is mine = absurd mine
  at_slot w r h same (spot.Latch d) slot is mine = absurd mine
  at_slot w r h same (spot.Era i j) slot is mine = absurd mine
  at_slot w r h same (spot.Tail s i) slot is mine = absurd mine
  at_slot w r h same (spot.QueueHead s i) slot is mine = absurd mine
  at_slot w r h same (spot.Segment s) slot is mine = absurd mine
  at_slot w r h same (spot.Page s q) slot is mine = absurd mine
  at_slot w r h same (spot.Unused a) slot is mine = absurd mine
  at_slot w r h same (spot.Head b) slot is mine = absurd mine
  at_slot w r h same (spot.Tag b) slot is mine = absurd mine

  -- the new value is stored into the slot
  pub slot_word : IsHeld me m → Stored (spot_address me.geometry (slot_of m.op))
  slot_word (w, r, h, same) =
      let here_op : (r me.who).op ≡ m.op = ap (λ (x : Memo). x.op) same in
      let tie = subst (OpTie me.geometry (classes w) (w (spot.Redo me.who)) (w (spot.RedoMore me.who)) (w (spot.Era me.who me.who)) (words_of me.geometry.wide w)) here_op (h.op me.who l) in
      let holds = h.slots me.who l (ap is_op here_op ∙ writes_step m.op (op_written m.op) v writes) in
      at_slot w r h same (slot_of m.op) refl (writes_at m.op (op_written m.op) v me w writes tie) (subst (λ o. Holds w me.geometry (view r) me.who (slot_of o)) here_op holds)

-- ---- what it leaves

-- a store at a spot that is covered with the value shows what it showed
same_cover : (q : Bool) (v x y : ℕ) → (y ≡ x) ⊎ (y ≡ cond q v x) → cond q v y ≡ cond q v x
same_cover true v x y e = refl
same_cover false v x y (inl e) = e
same_cover false v x y (inr e) = e

slotted_own : (m : Memo) (slot : Spot) (v : ℕ) (p : Spot) → (own_word (slotted m slot v).own p ≡ own_word m.own p) ⊎ (own_word (slotted m slot v).own p ≡ cond (same_spot slot p) v (own_word m.own p))
slotted_own m (spot.Root c k) v p = inr refl
slotted_own m (spot.Home c) v p = inr refl
slotted_own m (spot.Body b i) v p = inl refl
slotted_own m _ v p = inl refl

slotted_op : (m : Memo) (slot : Spot) (v : ℕ) → (slotted m slot v).op ≡ op_written m.op
slotted_op m (spot.Root c k) v = refl
slotted_op m (spot.Home c) v = refl
slotted_op m (spot.Body b i) v = refl
slotted_op m _ v = refl

-- a step that writes covers its slot with the value, before and after
covers_value : (o : Op) (v : ℕ) → Writes o (op_written o) v → (p : Spot) (x : ℕ) → (cover (cover_of o) p x ≡ cond (same_spot (slot_of o) p) v x) × (cover (cover_of (op_written o)) p x ≡ cond (same_spot (slot_of o) p) v x)
covers_value (Alloc Committed q b e) v h p x = (ap (λ z. cond (same_spot q p) z x) (sym h.1), ap (λ z. cond (same_spot q p) z x) (sym h.1))
covers_value (Alloc Written q b e) v h p x = (ap (λ z. cond (same_spot q p) z x) (sym h.1), ap (λ z. cond (same_spot q p) z x) (sym h.1))
covers_value (Alloc Begun q b e) v h p x = absurd h
covers_value (Up Committed q b e) v h p x = (ap (λ z. cond (same_spot q p) z x) (sym h.1), ap (λ z. cond (same_spot q p) z x) (sym h.1))
covers_value (Up Written q b e) v h p x = (ap (λ z. cond (same_spot q p) z x) (sym h.1), ap (λ z. cond (same_spot q p) z x) (sym h.1))
covers_value (Up Begun q b e) v h p x = absurd h
covers_value (Down Committed q b e) v h p x = (ap (λ z. cond (same_spot q p) z x) (sym h.1), ap (λ z. cond (same_spot q p) z x) (sym h.1))
covers_value (Down Written q b e) v h p x = (ap (λ z. cond (same_spot q p) z x) (sym h.1), ap (λ z. cond (same_spot q p) z x) (sym h.1))
covers_value (Down Begun q b e) v h p x = absurd h
covers_value (Change (Raising Committed) q a b e) v h p x = (ap (λ z. cond (same_spot q p) z x) (sym h.1), ap (λ z. cond (same_spot q p) z x) (sym h.1))
covers_value (Change (Raising Written) q a b e) v h p x = (ap (λ z. cond (same_spot q p) z x) (sym h.1), ap (λ z. cond (same_spot q p) z x) (sym h.1))
covers_value (Change (Raising Begun) q a b e) v h p x = absurd h
covers_value (Change (Lowering s) q a b e) v h p x = absurd h
covers_value Nothing v h p x = absurd h

-- each own reference word names what it named
pub slotted_shown : (m : Memo) (v : ℕ) (p : Spot) → Writes m.op (op_written m.op) v → shown (slotted m (slot_of m.op) v) p ≡ shown m p
slotted_shown m v p writes =
    let n : Memo = slotted m (slot_of m.op) v in
    ap (λ o. cover (cover_of o) p (own_word n.own p)) (slotted_op m (slot_of m.op) v)
    ∙ ((covers_value m.op v writes p (own_word n.own p)).1
    ∙ (same_cover (same_spot (slot_of m.op) p) v (own_word m.own p) (own_word n.own p) (slotted_own m (slot_of m.op) v p) ∙ sym (covers_value m.op v writes p (own_word m.own p)).0))
