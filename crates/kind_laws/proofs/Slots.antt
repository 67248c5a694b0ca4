-- the slot of c's step: nobody else stores it, and what another identity reads is another word
use Rattle.std.proofs.Common.{◌≡◌, ◌≢◌, ℕ, ◌%◌, ◌<◌, refl, sym, ap, ◌∙◌, arith, false, ltb, lt-ltb, subst, inl, inr, [], Some}
use Rattle.std.proofs.lemmas.Bool.{true≢false, false_from_ne_true, cond-true}
use Rattle.shm_words.specs.{declared.geometry.Geometry.Geometry, Tags.tag_author}
use Rattle.shm_graph.specs.declared.spot.Spot.{Spot, TheVariants.{Spare, Home, Root, Slot, Head, Tag, Body}}
use Rattle.shm_graph.specs.{declared.memo.Op.Op, Spots.{same_spot, upd}, References.{words_of, refs_of}}
use Rattle.shm_graph.specs.{Ops.{Quiet, On, word_at, cover, cover_of, covered, target}, Blocks.headers}
use Rattle.shm_graph.specs.{Views.{View, at1, targets}, Held.{HeldAt, LooksSound, is_home, named_by}}
use Rattle.shm_graph.proofs.Spots.Spotting.{same_spot_is}
use Rattle.shm_graph.proofs.States.Holders.{Holds, InReach, apart_slots, held_live_not_zero, one_holder, one_latch, target_counted}
use Rattle.shm_graph.proofs.States.Counting.{covered_alone}
use Rattle.kind_laws.proofs.Sum.{HasTarget, commit_target, refs_target}
use Rattle.kind_laws.proofs.ExchangeFields.{apart, looks_through, named_kept, reach_target}
use Rattle.kind_laws.proofs.{References.{slot_no_home, slot_no_root}, Readings.{queue_heads, tails}}

module _ (g : Geometry) (w : Spot → ℕ) (v : View) (h : HeldAt g w v) (c : ℕ) (p : Spot) (lc : c < g.clients) (mine : Holds w g v c p) where
  abbrev t : Spot → ℕ
  t = targets g w v

  pub slot_not_spare : p ≢ Spare
  slot_not_spare z = let q : Holds w g v c Spare = subst (Holds w g v c) z mine in q

  -- no other step has this slot
  pub slot_alone : (d : ℕ) → d < g.clients → d ≢ c → (y : ℕ) → cover (cover_of (v.op d)) p y ≡ y
  slot_alone d l n y = apart g.wide d (headers w) (λ i. w (Tag i)) (v.latch d) (tails w) (queue_heads w) (InReach w g v d) (v.op d) p (h.slots d l) (λ x. n (sym (one_holder g w v h c d p lc l mine x))) y

  pub slot_target : HasTarget (words_of g.wide w).refs p
  slot_target = go p mine
    where
      go : (q : Spot) → Holds w g v c q → HasTarget (words_of g.wide w).refs q
      go (Root i j) x = tt
      go (Home i) x = tt
      go (Slot s r k) x = tt
      go (Body j i) x = subst (λ z. i < z) (sym (ap (λ z. refs_of g.wide z (w (Tag j))) x.0)) x.1
      go _ x = absurd x

  -- its target is what c's own step gives it
  pub slot_names : t p ≡ cover (cover_of (v.op c)) p (word_at (words_of g.wide w) p)
  slot_names = go p slot_target ∙ covered_alone g.clients c p (word_at (words_of g.wide w) p) (λ d. cover_of (v.op d)) lc slot_alone
    where
      go : (q : Spot) → HasTarget (words_of g.wide w).refs q → t q ≡ covered (λ d. cover_of (v.op d)) g.clients q (word_at (words_of g.wide w) q)
      go (Root i j) x = refl
      go (Home i) x = refl
      go (Slot s r k) x = refl
      go (Body j i) x = cond-true (ltb i ((words_of g.wide w).refs j)) _ 0 (lt-ltb i ((words_of g.wide w).refs j) x)
      go _ x = absurd x

  -- where the step commits with the exchange of a header, the slot has the new target and each other word keeps its own
  pub slot_committed : (b to y : ℕ) (o : Op) → cover_of (v.op c) ≡ Quiet → cover_of o ≡ On p y → ((d : ℕ) → (words_of g.wide (upd w (Head b) to)).refs d ≡ (words_of g.wide w).refs d)
      → target g.clients (words_of g.wide (upd w (Head b) to)) (λ d. cover_of (at1 v.op c o d)) ≡ upd t p y
  slot_committed b to y o quiet on refs =
      commit_target g.clients (words_of g.wide (upd w (Head b) to)) v.op c o p y lc quiet on (more p slot_target) slot_alone
      ∙ ap (λ z. upd z p y) (refs_target g.clients (words_of g.wide w) (words_of g.wide (upd w (Head b) to)).refs (λ d. cover_of (v.op d)) (λ d. inl (refs d)))
    where
      more : (q : Spot) → HasTarget (words_of g.wide w).refs q → HasTarget (words_of g.wide (upd w (Head b) to)).refs q
      more (Root i j) x = tt
      more (Home i) x = tt
      more (Slot s r k) x = tt
      more (Body j i) x = subst (λ z. i < z) (sym (refs j)) x
      more _ x = absurd x

  -- ---- another identity

  lane_apart : (d s : ℕ) → c ≢ d → queue_heads w s d < tails w s d → same_spot p (Slot s d (queue_heads w s d % 8)) ≡ false
  lane_apart d s m f = false_from_ne_true _ (λ z. let y : Holds w g v c (Slot s d (queue_heads w s d % 8)) = subst (Holds w g v c) (same_spot_is p (Slot s d (queue_heads w s d % 8)) z) mine in elim y.1 [
    | inl u ↦ apart_slots (queue_heads w s d) (tails w s d) f u.2 u.1
    | inr u ↦ m (sym u.0)
  ])

  stays : (y : ℕ) (q : Spot) (i : ℕ) → same_spot p q ≡ false → t q ≡ i → upd t p y q ≡ i
  stays y q i z x = rw z x

  -- what it names it still names
  pub slot_named : (y d : ℕ) → c ≢ d → (i : ℕ) → named_by t (tails w) (queue_heads w) d i → named_by (upd t p y) (tails w) (queue_heads w) d i
  slot_named y d m i = named_kept t (upd t p y) (tails w) (queue_heads w) d i (λ _ k x. stays y (Root d k) i (slot_no_root g w v h c d k p m mine) x) (λ _ x. stays y (Home d) i (slot_no_home g w v h c d p m mine) x) (λ _ s f x. stays y (Slot s d (queue_heads w s d % 8)) i (lane_apart d s m f) x)

  -- a word that it looks at under a latch is none that c stores
  body_apart : (y d : ℕ) → c ≢ d → d < g.clients → (i j x : ℕ) → x ≢ 0 → v.latch d ≡ Some (tag_author g.wide (w (Tag i))) → (q : Spot) × (t q ≡ i) → t (Body i j) ≡ x → upd t p y (Body i j) ≡ x
  body_apart y d m l i j x nz e r z = stays y (Body i j) x (false_from_ne_true _ (λ u. let k : Holds w g v c (Body i j) = subst (Holds w g v c) (same_spot_is p (Body i j) u) mine in elim k.2 [
    | inl f ↦ (target_counted g w v h r.0 i (held_live_not_zero g w v h i k.0) r.1).1 f.0
    | inr f ↦ m (one_latch g w v h c d c lc l f.1 (e ∙ ap Some f.0))
  ])) z

  -- and its looks stay
  pub slot_looks : (y d : ℕ) → is_home p ≡ false → c ≢ d → d < g.clients → LooksSound (λ a. upd t p y (Home a)) (λ b i. upd t p y (Body b i)) (λ b. tag_author g.wide (w (Tag b))) (v.latch d) (named_by (upd t p y) (tails w) (queue_heads w) d) [] (v.looks d)
  slot_looks y d not_home m l = looks_through t (upd t p y) (λ b. tag_author g.wide (w (Tag b))) (v.latch d) (named_by t (tails w) (queue_heads w) d) (named_by (upd t p y) (tails w) (queue_heads w) d)
      (λ i x. reach_target t (tails w) (queue_heads w) (λ b. tag_author g.wide (w (Tag b))) (v.latch d) (v.looks d) d i (h.looks d l) (inl x)) (slot_named y d m)
      (λ i x _ _ z. stays y (Home i) x (false_from_ne_true _ (λ s. true≢false (ap is_home (sym (same_spot_is p (Home i) s)) ∙ not_home))) z) (body_apart y d m l) [] (v.looks d) (λ i x. absurd (let z = x.1.1 in omega arith)) (h.looks d l)
