-- blocks that a word names: their counts, and the partitions that a step of another identity leaves
use Rattle.std.proofs.Common.{◌≡◌, ◌≢◌, ℕ, ◌<◌, ◌≤◌, refl, sym, ap, ◌∙◌, arith, Bool, true, false, eqb, inl, inr, ◌⊎◌, subst}
use Rattle.std.proofs.lemmas.{List.Elements.All-weaker, Bool.{cases_eq, eq-eqb, true≢false, ne_eqb, false_from_ne_true}}
use Rattle.std.specs.List.{All, filter}
use Rattle.shm_words.specs.{declared.{geometry.Geometry.Geometry, header.Header.Header}, Headers.header_of}
use Rattle.shm_words.specs.Tags.{tag_refs, tag_author}
use Rattle.shm_graph.specs.declared.spot.Spot.{Spot}
use Rattle.shm_graph.specs.declared.spot.Spot.TheVariants.{Spare, Home, Root, Tail, QueueHead, Slot, Page, Head, Tag, Body}
use Rattle.shm_graph.specs.{Spots.{same_spot, upd, IsAt}, MemoAfterStore.not_block, References.{one_if, words_of}}
use Rattle.shm_graph.specs.{Tables.{Contents, contents_of, HasShape}, Ops.cover_of}
use Rattle.shm_graph.specs.Views.{View, at1, targets, held_overs}
use Rattle.shm_graph.specs.Held.{HeldAt, SlotOf, PartTie, ValueAt, MadeAt, reach_of, is_loose}
use Rattle.shm_graph.proofs.{Spots.Spotting.{same_spot_is, in_pool, is_at_block}, Runs.Lists.{at1_here, at1_other}}
use Rattle.shm_graph.proofs.States.Counting.{has_place, target_not_spare, indegree_has}
use Rattle.kind_laws.proofs.{Keep.{live_block, count_of_zero}, Lists.All-kept, Sum.{degree_step, held_over_step}}
use Rattle.kind_laws.proofs.{ExchangeFields.reach_target, Parts.{PartKept, part_kept}}

-- ---- counts

module _ (g : Geometry) (w : Spot → ℕ) (v : View) (h : HeldAt g w v) where
  -- a live block isn't 0
  pub live_some : (b : ℕ) → (header_of (w (Head b))).live ≡ true → b ≢ 0
  live_some b l z = let q = in_pool g (λ s p. w (Page s p)) b (Head b) (live_block g w h.there b l) (λ z. cc) in absurd (omega arith)

  -- a word with a target is there
  pub target_at : (q : Spot) → targets g w v q ≢ 0 → IsAt g (λ s p. w (Page s p)) q
  target_at q n = has_place g w v.op h.there h.op q n

  pub target_there : (q : Spot) → targets g w v q ≢ 0 → q ≢ Spare
  target_there q n = target_not_spare g.clients (words_of g.wide w) (λ d. cover_of (v.op d)) q n

  -- a block that is named has a count
  pub named_count : (b : ℕ) (q : Spot) → targets g w v q ≡ b → (header_of (w (Head b))).live ≡ true → 1 ≤ (header_of (w (Head b))).count
  named_count b q e l =
      let n : targets g w v q ≢ 0 = λ z. live_some b l (sym e ∙ z) in
      let one = indegree_has g (λ s p. w (Page s p)) (targets g w v) (held_overs v) q b (target_at q n) (target_there q n) e in
      let k = h.count.counts b l in
      omega arith

  -- a block that two words name has a count of at least two
  pub two_names : (b : ℕ) (p q : Spot) → targets g w v p ≡ b → targets g w v q ≡ b → same_spot p q ≡ false → (header_of (w (Head b))).live ≡ true → 2 ≤ (header_of (w (Head b))).count
  two_names b p q e f apart l =
      let some = live_some b l in
      let n : targets g w v p ≢ 0 = λ z. some (sym e ∙ z) in
      let m : targets g w v q ≢ 0 = λ z. some (sym f ∙ z) in
      let s = degree_step g (λ s p. w (Page s p)) (targets g w v) (held_overs v) p 0 b (target_at p n) (target_there p n) in
      let left : upd (targets g w v) p 0 q ≡ b = rw apart f in
      let one = indegree_has g (λ s p. w (Page s p)) (upd (targets g w v) p 0) (held_overs v) q b (target_at q m) (target_there q m) left in
      let was : one_if (eqb (targets g w v p) b) ≡ 1 = ap one_if (eq-eqb (targets g w v p) b e) in
      let is : one_if (eqb 0 b) ≡ 0 = ap one_if (ne_eqb 0 b (λ z. some (sym z))) in
      let k = h.count.counts b l in
      omega arith

  -- so a block with one reference, which is a root, is none that another word names
  pub one_name : (b : ℕ) (p : Spot) → targets g w v p ≡ b → (header_of (w (Head b))).live ≡ true → (d k y : ℕ) → same_spot p (Root d k) ≡ false → (header_of (w (Head y))).count ≡ 1 → targets g w v (Root d k) ≡ y → b ≢ y
  one_name b p e live d k y apart one f z =
      let u = two_names b p (Root d k) e (f ∙ sym z) apart live in
      let r : (header_of (w (Head b))).count ≡ 1 = ap (λ i. (header_of (w (Head i))).count) z ∙ one in
      absurd (omega arith)

  -- so has a block that a word names and a change holds over
  pub name_and_held_over : (b : ℕ) (q : Spot) (c : ℕ) → c < g.clients → targets g w v q ≡ b → held_overs v c ≡ b → (header_of (w (Head b))).live ≡ true → 2 ≤ (header_of (w (Head b))).count
  name_and_held_over b q c lc f e l =
      let some = live_some b l in
      let m : targets g w v q ≢ 0 = λ z. some (sym f ∙ z) in
      let s = held_over_step g (λ s p. w (Page s p)) (targets g w v) (held_overs v) (at1 (held_overs v) c 0) c b lc (λ d n. at1_other (held_overs v) c 0 d (λ e. n (sym e))) in
      let one = indegree_has g (λ s p. w (Page s p)) (targets g w v) (at1 (held_overs v) c 0) q b (target_at q m) (target_there q m) f in
      let was : one_if (eqb (held_overs v c) b) ≡ 1 = ap one_if (eq-eqb (held_overs v c) b e) in
      let is : one_if (eqb (at1 (held_overs v) c 0 c) b) ≡ 0 = ap one_if (ap (λ z. eqb z b) (at1_here (held_overs v) c 0) ∙ ne_eqb 0 b (λ z. some (sym z))) in
      let k = h.count.counts b l in
      omega arith

pub differs : (b x : ℕ) → not_block b x ≡ true → b ≢ x
differs b x f z = let u : eqb b x ≡ true = eq-eqb b x z in let y : false ≡ true = rw u at f in true≢false (sym y)

-- c may use this slot
abbrev pub SlotAt : Geometry → (Spot → ℕ) → View → ℕ → Spot → Type 0
SlotAt g w v c p = SlotOf g.wide c (λ b. header_of (w (Head b))) (λ b. w (Tag b)) (v.latch c) (λ s r. w (Tail s r)) (λ s r. w (QueueHead s r)) (reach_of (targets g w v) (λ s r. w (Tail s r)) (λ s r. w (QueueHead s r)) v.looks c) p

-- some word names the block
abbrev pub IsNamed : (Spot → ℕ) → ℕ → Type 0
IsNamed t b = (q : Spot) × (t q ≡ b)

module _ (g : Geometry) (w : Spot → ℕ) (v : View) (h : HeldAt g w v) where
  -- a slot of c is no root or home of another identity, and no reference of a named block of another author
  pub slot_no_root : (c d k : ℕ) (p : Spot) → c ≢ d → SlotAt g w v c p → same_spot p (Root d k) ≡ false
  slot_no_root c d k p n s = false_from_ne_true _ (λ e. n (sym (subst (SlotAt g w v c) (same_spot_is p (Root d k) e) s)))

  pub slot_no_home : (c d : ℕ) (p : Spot) → c ≢ d → SlotAt g w v c p → same_spot p (Home d) ≡ false
  slot_no_home c d p n s = false_from_ne_true _ (λ e. n (sym (subst (SlotAt g w v c) (same_spot_is p (Home d) e) s)))

  pub slot_no_body : (c d b i : ℕ) (p : Spot) → c ≢ d → SlotAt g w v c p → IsNamed (targets g w v) b → (header_of (w (Head b))).live ≡ true → tag_author g.wide (w (Tag b)) ≡ d → same_spot p (Body b i) ≡ false
  slot_no_body c d b i p n s named l a = false_from_ne_true _ (λ e. go (subst (SlotAt g w v c) (same_spot_is p (Body b i) e) s))
    where
      go : SlotAt g w v c (Body b i) → ⊥
      go x = elim x.2 [
        | inl u ↦ (let k = named_count g w v h b named.0 named.1 l in let z = u.0 in absurd (omega arith))
        | inr u ↦ n (sym u.0 ∙ a)
      ]

  -- the partition of another identity stays where c's slot has another target, and named blocks stay live
  pub part_other : (c d y : ℕ) (p : Spot) (heads : ℕ → Header) → c ≢ d → d < g.clients → SlotAt g w v c p
      → ((b : ℕ) → IsNamed (targets g w v) b → (header_of (w (Head b))).live ≡ true → (heads b).live ≡ true)
      → PartTie (record { wide = g.wide; head = heads; tag = λ b. w (Tag b); refs = λ b i. upd (targets g w v) p y (Body b i); body = λ b i. w (Body b i) }) d (upd (targets g w v) p y (Home d)) (v.part d)
  part_other c d y p heads n ld s lives =
      subst (λ z. PartTie x' d z (v.part d)) (sym home) (part_kept (contents_of g.wide w (targets g w v)) x' (IsNamed (targets g w v)) d k (λ b i. (Body b i, refl)) (targets g w v (Home d)) (v.part d) (Home d, refl) (h.part d ld))
    where
      x' : Contents
      x' = record { wide = g.wide; head = heads; tag = λ b. w (Tag b); refs = λ b i. upd (targets g w v) p y (Body b i); body = λ b i. w (Body b i) }

      home : upd (targets g w v) p y (Home d) ≡ targets g w v (Home d)
      home = rw (slot_no_home c d p n s) refl

      k : PartKept (contents_of g.wide w (targets g w v)) x' (IsNamed (targets g w v)) d
      k = record {
        format = refl;
        live = lives;
        tag = λ b m l. refl;
        refs = λ b i m l a _. rw (slot_no_body c d b i p n s m l a) refl;
        body = λ b i m l _. refl;
      }

  -- each partition stays where named blocks stay live, and each home and each reference of a live block has the target that it had
  pub part_lives : (d : ℕ) (heads : ℕ → Header) (t' : Spot → ℕ) → d < g.clients
      → ((b : ℕ) → IsNamed (targets g w v) b → (header_of (w (Head b))).live ≡ true → (heads b).live ≡ true)
      → ((b i : ℕ) → IsNamed (targets g w v) b → (header_of (w (Head b))).live ≡ true → t' (Body b i) ≡ targets g w v (Body b i)) → t' (Home d) ≡ targets g w v (Home d)
      → PartTie (record { wide = g.wide; head = heads; tag = λ b. w (Tag b); refs = λ b i. t' (Body b i); body = λ b i. w (Body b i) }) d (t' (Home d)) (v.part d)
  part_lives d heads t' ld lives refs home =
      subst (λ z. PartTie x' d z (v.part d)) (sym home) (part_kept (contents_of g.wide w (targets g w v)) x' (IsNamed (targets g w v)) d k (λ b i. (Body b i, refl)) (targets g w v (Home d)) (v.part d) (Home d, refl) (h.part d ld))
    where
      x' : Contents
      x' = record { wide = g.wide; head = heads; tag = λ b. w (Tag b); refs = λ b i. t' (Body b i); body = λ b i. w (Body b i) }

      k : PartKept (contents_of g.wide w (targets g w v)) x' (IsNamed (targets g w v)) d
      k = record {
        format = refl;
        live = lives;
        tag = λ b m l. refl;
        refs = λ b i m l _ _. refs b i m l;
        body = λ b i m l _. refl;
      }

  -- each partition stays where a reference word is stored that had its target
  pub part_stored : (d b i x : ℕ) → d < g.clients → i < tag_refs g.wide (w (Tag b))
      → PartTie (record { wide = g.wide; head = λ j. header_of (w (Head j)); tag = λ j. w (Tag j); refs = λ j k. targets g w v (Body j k); body = λ j k. upd w (Body b i) x (Body j k) }) d (targets g w v (Home d)) (v.part d)
  part_stored d b i x ld li = part_kept (contents_of g.wide w (targets g w v)) x' (IsNamed (targets g w v)) d k (λ j k. (Body j k, refl)) (targets g w v (Home d)) (v.part d) (Home d, refl) (h.part d ld)
    where
      x' : Contents
      x' = record { wide = g.wide; head = λ j. header_of (w (Head j)); tag = λ j. w (Tag j); refs = λ j k. targets g w v (Body j k); body = λ j k. upd w (Body b i) x (Body j k) }

      apart : (j k : ℕ) → tag_refs g.wide (w (Tag j)) ≤ k → same_spot (Body b i) (Body j k) ≡ false
      apart j k le = false_from_ne_true _ (λ e. let q = same_spot_is (Body b i) (Body j k) e in let y : b ≡ j = cc in let z : i ≡ k = cc in let r : tag_refs g.wide (w (Tag b)) ≡ tag_refs g.wide (w (Tag j)) = ap (λ m. tag_refs g.wide (w (Tag m))) y in omega arith)

      k : PartKept (contents_of g.wide w (targets g w v)) x' (IsNamed (targets g w v)) d
      k = record {
        format = refl;
        live = λ j m l. l;
        tag = λ j m l. refl;
        refs = λ j k m l _ _. refl;
        body = λ j k m l le. rw (apart j k le) refl;
      }

  -- value blocks that were read stay where named blocks stay live
  pub values_kept : (d : ℕ) (heads : ℕ → Header) (refs body : ℕ → ℕ → ℕ) (reach : ℕ → Type 0) → d < g.clients
      → ((b : ℕ) → IsNamed (targets g w v) b → (header_of (w (Head b))).live ≡ true → (heads b).live ≡ true)
      → ((b : ℕ) → reach_of (targets g w v) (λ s r. w (Tail s r)) (λ s r. w (QueueHead s r)) v.looks d b → reach b)
      → All (ValueAt (record { wide = g.wide; head = heads; tag = λ b. w (Tag b); refs = refs; body = body }) reach) (v.values d)
  values_kept d heads refs body reach ld lives more = All-weaker _ (ValueAt (record { wide = g.wide; head = heads; tag = λ b. w (Tag b); refs = refs; body = body }) reach) go (v.values d) (h.values d ld)
    where
      go : (b : ℕ) → ValueAt (contents_of g.wide w (targets g w v)) (reach_of (targets g w v) (λ s r. w (Tail s r)) (λ s r. w (QueueHead s r)) v.looks d) b → ValueAt (record { wide = g.wide; head = heads; tag = λ b. w (Tag b); refs = refs; body = body }) reach b
      go b x = (
        record { live = lives b (reach_target (targets g w v) (λ s r. w (Tail s r)) (λ s r. w (QueueHead s r)) (λ b. tag_author g.wide (w (Tag b))) (v.latch d) (v.looks d) d b (h.looks d ld) x.1) x.0.live; names = x.0.names; words = x.0.words },
        more b x.1,
      )

  -- a made block isn't 0
  pub made_some : (b : ℕ) → (header_of (w (Head b))).count ≡ 1 → b ≢ 0
  made_some b e z = let q = ap (λ x. (header_of x).count) (none b z) ∙ count_of_zero in omega arith
    where
      none : (b : ℕ) → b ≡ 0 → w (Head b) ≡ 0
      none b z = elim (cases_eq (w (Head b)) 0) [
        | inl e ↦ e
        | inr n ↦ absurd (let q = in_pool g (λ s p. w (Page s p)) b (Head b) (is_at_block g (λ s p. w (Page s p)) b (h.there (Head b) n)) (λ z. cc) in omega arith)
      ]

  -- made blocks stay where another header is stored and another slot has another target
  pub made_kept : (d b to y : ℕ) (p : Spot) → d < g.clients
      → ((x k : ℕ) → (header_of (w (Head x))).count ≡ 1 → targets g w v (Root d k) ≡ x → (b ≢ x) × (same_spot p (Root d k) ≡ false))
      → All (MadeAt (λ i. header_of (upd w (Head b) to (Head i))) (λ k. upd (targets g w v) p y (Root d k))) (v.made d)
  made_kept d b to y p ld apart = All-weaker _ (MadeAt (λ i. header_of (upd w (Head b) to (Head i))) (λ k. upd (targets g w v) p y (Root d k))) go (v.made d) (h.made d ld)
    where
      go : (x : ℕ) → MadeAt (λ i. header_of (w (Head i))) (λ k. targets g w v (Root d k)) x → MadeAt (λ i. header_of (upd w (Head b) to (Head i))) (λ k. upd (targets g w v) p y (Root d k)) x
      go x m =
          let q = apart x m.1.0 m.0 m.1.1 in
          let e : eqb b x ≡ false = ne_eqb b x q.0 in
          (rw e m.0, (m.1.0, rw q.1 m.1.1))

  -- made blocks of c stay where its step changes the header of b and the target of p, but b and what p named
  pub made_own : (c b to y : ℕ) (p : Spot) (test : ℕ → Bool) → c < g.clients
      → ((x : ℕ) → test x ≡ true → (b ≢ x) × (x ≢ 0 → targets g w v p ≢ x))
      → All (MadeAt (λ i. header_of (upd w (Head b) to (Head i))) (λ k. upd (targets g w v) p y (Root c k))) (filter test (v.made c))
  made_own c b to y p test lc apart = All-kept _ (MadeAt (λ i. header_of (upd w (Head b) to (Head i))) (λ k. upd (targets g w v) p y (Root c k))) test go (v.made c) (h.made c lc)
    where
      go : (x : ℕ) → test x ≡ true → MadeAt (λ i. header_of (w (Head i))) (λ k. targets g w v (Root c k)) x → MadeAt (λ i. header_of (upd w (Head b) to (Head i))) (λ k. upd (targets g w v) p y (Root c k)) x
      go x e m =
          let q = apart x e in
          let n : eqb b x ≡ false = ne_eqb b x q.0 in
          let a : same_spot p (Root c m.1.0) ≡ false = false_from_ne_true _ (λ s. q.1 (made_some x m.0) (ap (targets g w v) (same_spot_is p (Root c m.1.0) s) ∙ m.1.1)) in
          (rw n m.0, (m.1.0, rw a m.1.1))

  -- queues hold value blocks where each slot has the target that it had, or none, or a value block
  pub queued_kept : (c : ℕ) (heads : ℕ → Header) (refs body : ℕ → ℕ → ℕ) (t' : Spot → ℕ) → c < g.clients
      → ((b : ℕ) → IsNamed (targets g w v) b → (header_of (w (Head b))).live ≡ true → (heads b).live ≡ true)
      → ((s r k : ℕ) → t' (Slot s r k) ≢ 0 → (t' (Slot s r k) ≡ targets g w v (Slot s r k)) ⊎ HasShape (record { wide = g.wide; head = heads; tag = λ b. w (Tag b); refs = refs; body = body }) 0 1 (t' (Slot s r k)))
      → is_loose (v.part c) ≡ false → (s r k : ℕ) → t' (Slot s r k) ≢ 0 → HasShape (record { wide = g.wide; head = heads; tag = λ b. w (Tag b); refs = refs; body = body }) 0 1 (t' (Slot s r k))
  queued_kept c heads refs body t' lc lives slots table s r k n =
      elim (slots s r k n) [
        | inl e ↦ subst (HasShape (record { wide = g.wide; head = heads; tag = λ b. w (Tag b); refs = refs; body = body }) 0 1) (sym e) (let q = h.queued c lc table s r k (λ z. n (e ∙ z)) in
            record { live = lives (targets g w v (Slot s r k)) (Slot s r k, refl) q.live; names = q.names; words = q.words })
        | inr x ↦ x
      ]
