-- the store of a page's class keeps the invariant
use Rattle.std.proofs.Common.{◌≡◌, ◌≢◌, ℕ, ◌+◌, ◌^◌, ◌<◌, refl, sym, ap, ◌∙◌, arith, true, false, Bool, cond, eqb, subst, inl, inr, ◌&&◌, List, ◌∷◌, Option, Some, None}
use Rattle.std.proofs.lemmas.List.Elements.{All-cons, All-weaker, All-contains}
use Rattle.std.proofs.lemmas.Bool.{cases_Bool, cases_eq, true≢false}
use Rattle.std.specs.List.{All, filter}
use Rattle.shm_words.specs.{Headers.header_of, declared.geometry.Geometry.Geometry, Classes.IsClass}
use Rattle.shm_graph.specs.declared.spot.Spot.{Spot}
use Rattle.shm_graph.specs.declared.spot.Spot.TheVariants.{Redo, RedoMore, Home, Era, Root, Tail, QueueHead, Slot, Segment, Page, Unused, Head, Tag, Body}
use Rattle.shm_graph.specs.declared.memo.{Making.Making, Fact.Fact}
use Rattle.shm_graph.specs.declared.memo.{Fact.TheVariants.{Header as HeaderRead, Counter, Class}, Test.Test}
use Rattle.shm_graph.specs.{Spots.{upd, IsAt, spot_address, spot_at}, Views.{View, targets, ons, held_overs}}
use Rattle.shm_graph.specs.{Blocks.{IsBlock, classes}, References.words_of, Ops.{cover_of, slot_of}}
use Rattle.shm_graph.specs.Held.{HeldAt, SlotOf, reach_of, TagSound, MakingTie, FactAt, ZeroAt, TestAt}
use Rattle.shm_graph.specs.MemoAfterStore.{other_than}
use Rattle.shm_graph.proofs.{Memos.Frames.at1_all, Spots.Spotting.{same_spot_self, alone}}
use Rattle.shm_graph.proofs.Spots.PageSpots.{same_page, page_spot, stays_at, page_of_block, is_unused}
use Rattle.shm_graph.proofs.States.Counting.{has_place, target_not_spare}
use Rattle.kind_laws.specs.Segments.{ClassNeeds, class_view}
use Rattle.kind_laws.proofs.{Owns.{mine_other, small_stored, there_stored}, Sum.degree_same}
use Rattle.kind_laws.proofs.{Keep.{live_block, op_moved, redo_moved}, Lists.All-kept}

pub class_kept : (g : Geometry) (w : Spot → ℕ) (v : View) (c s q k : ℕ) → HeldAt g w v → ClassNeeds g w v c s q k → HeldAt g (upd w (Page s q) k) (class_view v c s q k)
class_kept g w v c s q k h e =
    record {
      fits = h.fits;
      small = small_stored w (Page s q) k (2 ^ 64) (small k e.class) h.small;
      there = there;
      spare = h.spare;
      unused = h.unused;
      sizes = record { holds = h.sizes.holds; latches = h.sizes.latches; segments = h.sizes.segments; classes = λ i j. sized i j (eqb s i && eqb q j) };
      mine = mine_other w v.own g.clients (Page s q) k (λ d. refl) h.mine;
      state = h.state;
      latch = h.latch;
      segments = h.segments;
      dying = h.dying;
      making = λ d l. making d (v.making d) (h.making d l);
      blocks = record {
        plain = h.blocks.plain;
        link = h.blocks.link;
        tagged = λ b l. subst (λ z. TagSound g.wide g.clients z (w (Tag b))) (sym (page_of_block g (classes w) s q k b zero.0 (live_block g w h.there b l))) (h.blocks.tagged b l);
      };
      era = h.era;
      own = h.own;
      op = λ d l. op_moved g (classes w) class' (w (Redo d)) (w (RedoMore d)) (w (Era d d)) (words_of g.wide w) (v.op d) (λ p i o at. stays_at g (classes w) s q k (spot_address g p) p zero.0 (subst (λ z. is_unused z ≡ false) o (slot_used d (slot_of (v.op d)) (h.slots d l i))) at) block (h.op d l);
      redo = λ d l. redo_moved g (classes w) class' (w (Redo d)) (w (RedoMore d)) block (h.redo d l);
      allowed = h.allowed;
      count = record {
        counts = λ b l. h.count.counts b l ∙ sym (degree_same g (classes w) class' (targets g w v) (held_overs v) b same);
        targets = h.count.targets;
        held_overs = h.count.held_overs;
      };
      slots = h.slots;
      looks = h.looks;
      lanes = h.lanes;
      known = h.known;
      facts = λ d. at1_all (λ (i : ℕ) (x : List Fact). i < g.clients → All Facts x) v.facts c (Class s q k ∷ v.facts c) d
          (λ l. All-cons Facts (Class s q k) (v.facts c) (new_class k e.class, (let t : (eqb s s && eqb q q) ≡ true = same_spot_self (Page s q) in rw t refl)) (All-weaker _ Facts fact (v.facts c) (h.facts c l)))
          (λ m l. All-weaker _ Facts fact (v.facts d) (h.facts d l));
      zeros = λ d. at1_all (λ (i : ℕ) (x : List Spot). i < g.clients → All (Zeros i) x) v.zeros c (filter (other_than (Page s q)) (v.zeros c)) d
          (λ l. All-kept _ (Zeros c) (other_than (Page s q)) (λ p o z. zero_own p o z) (v.zeros c) (h.zeros c l))
          (λ m l. All-weaker _ (Zeros d) (λ p z. zero_other d m p z) (v.zeros d) (h.zeros d l));
      test = λ d. at1_all (λ (i : ℕ) (x : Option Test). i < g.clients → TestAt g.clients (λ i j. w (Era i j)) (ons v i) i x) v.test c None d (λ l. tt) (λ m. h.test d);
      fresh = h.fresh;
      gone = h.gone;
      self_lanes = h.self_lanes;
      no_queue = h.no_queue;
      tails = h.tails;
      parts = h.parts;
      part = h.part;
      queued = h.queued;
      values = h.values;
      made = h.made;
    }
  where
    class' : ℕ → ℕ → ℕ
    class' = λ i j. upd w (Page s q) k (Page i j)

    zero : (w (Page s q) ≡ 0) × (w (Segment s) ≡ c + 1)
    zero = All-contains (ZeroAt g (classes w) (λ i. w (Segment i)) (λ b. w (Head b)) c) (v.zeros c) (Page s q) (h.zeros c e.inside) e.read

    small : (k : ℕ) → IsClass k → k < 2 ^ 64
    small k (inl x) = omega arith
    small k (inr (inl x)) = omega arith
    small k (inr (inr (inl x))) = omega arith
    small k (inr (inr (inr x))) = omega arith

    new_class : (k : ℕ) → IsClass k → k ≢ 0
    new_class k (inl x) z = omega arith
    new_class k (inr (inl x)) z = omega arith
    new_class k (inr (inr (inl x))) z = omega arith
    new_class k (inr (inr (inr x))) z = omega arith

    used : (p : Spot) → w p ≢ 0 → is_unused p ≡ false
    used (Unused a) n = absurd (n (h.unused a))
    used _ n = refl

    moved : (p : Spot) → is_unused p ≡ false → IsAt g (classes w) p → IsAt g class' p
    moved p u at = stays_at g (classes w) s q k (spot_address g p) p zero.0 u at

    block : (b : ℕ) → IsBlock g (classes w) b → IsBlock g class' b
    block b is = stays_at g (classes w) s q k b (Head b) zero.0 refl is

    there : (p : Spot) → upd w (Page s q) k p ≢ 0 → IsAt g class' p
    there p n = there_stored (IsAt g class') w (Page s q) k (moved (Page s q) refl e.page) (λ p n. moved p (used p n) (h.there p n)) p n

    sized : (i j : ℕ) (t : Bool) → cond t k (w (Page i j)) ≢ 0 → IsClass (cond t k (w (Page i j)))
    sized i j true n = e.class
    sized i j false n = h.sizes.classes i j n

    making : (d : ℕ) (x : Option Making) → MakingTie g (classes w) (λ i. w (Segment i)) (λ b. w (Head b)) (λ b. w (Tag b)) (λ b i. w (Body b i)) d x → MakingTie g class' (λ i. w (Segment i)) (λ b. w (Head b)) (λ b. w (Tag b)) (λ b i. w (Body b i)) d x
    making d None y = tt
    making d (Some m) y = record { free = y.free; block = block m.block y.block; mine = y.mine; sized = page_of_block g (classes w) s q k m.block zero.0 y.block ∙ y.sized; stored = y.stored }

    slot_used : (d : ℕ) (p : Spot) → SlotOf g.wide d (λ b. header_of (w (Head b))) (λ b. w (Tag b)) (v.latch d) (λ i j. w (Tail i j)) (λ i j. w (QueueHead i j)) (reach_of (targets g w v) (λ i j. w (Tail i j)) (λ i j. w (QueueHead i j)) v.looks d) p → is_unused p ≡ false
    slot_used d (Root i l) x = refl
    slot_used d (Home i) x = refl
    slot_used d (Slot i j l) x = refl
    slot_used d (Body b i) x = refl
    slot_used d _ x = absurd x

    target_used : (p : Spot) → targets g w v p ≢ 0 → is_unused p ≡ false
    target_used (Home i) x = refl
    target_used (Root i l) x = refl
    target_used (Slot i j l) x = refl
    target_used (Body b i) x = refl
    target_used _ x = absurd (x refl)

    same : (a : ℕ) → targets g w v (spot_at g class' a) ≡ targets g w v (spot_at g (classes w) a)
    same a = elim (page_spot g (classes w) s q k a zero.0) [
      | inl x ↦ ap (targets g w v) x
      | inr x ↦ (elim (cases_eq (targets g w v (spot_at g class' a)) 0) [
        | inl z ↦ z ∙ sym (ap (targets g w v) x.0)
        | inr n ↦ (let p = spot_at g class' a in
            let at = has_place g w v.op h.there h.op p n in
            let u = target_used p n in
            let o : spot_address g p ≡ a = alone g class' a p refl (target_not_spare g.clients (words_of g.wide w) (λ d. cover_of (v.op d)) p n) in
            let y : spot_at g (classes w) a ≡ p = sym (ap (spot_at g (classes w)) o) ∙ at in
            absurd (n (ap (targets g w v) (sym y ∙ x.0))))
      ])
    ]

    Facts : Fact → Type 0
    Facts = FactAt g.clients (λ i j. w (Era i j)) (ons v) (λ i j. w (Tail i j)) (λ i j. w (QueueHead i j)) class'

    fact : (f : Fact) → FactAt g.clients (λ i j. w (Era i j)) (ons v) (λ i j. w (Tail i j)) (λ i j. w (QueueHead i j)) (classes w) f → Facts f
    fact (HeaderRead x) y = y
    fact (Counter p x) y = y
    fact (Class i j x) y = (
      y.0,
      elim (cases_Bool (eqb s i && eqb q j)) [
        | inl t ↦ absurd (y.0 (sym y.1 ∙ (same_page (classes w) s q i j t zero.0).0))
        | inr f ↦ rw f y.1
      ],
    )

    Zeros : ℕ → Spot → Type 0
    Zeros d = ZeroAt g class' (λ i. w (Segment i)) (λ b. w (Head b)) d

    zero_own : (p : Spot) → other_than (Page s q) p ≡ true → ZeroAt g (classes w) (λ i. w (Segment i)) (λ b. w (Head b)) c p → Zeros c p
    zero_own (Page i j) o z = elim (cases_Bool (eqb s i && eqb q j)) [
      | inl t ↦ (let b : false ≡ true = rw t at o in absurd (true≢false (sym b)))
      | inr f ↦ (rw f z.0, z.1)
    ]
    zero_own (Head b) o z = (z.0, block b z.1, z.2)
    zero_own _ o z = absurd z

    zero_other : (d : ℕ) → (c ≢ d) → (p : Spot) → ZeroAt g (classes w) (λ i. w (Segment i)) (λ b. w (Head b)) d p → Zeros d p
    zero_other d m (Page i j) z = elim (cases_Bool (eqb s i && eqb q j)) [
      | inl t ↦ (let x : c + 1 ≡ d + 1 = sym zero.1 ∙ (ap (λ y. w (Segment y)) (sym (same_page (classes w) s q i j t zero.0).1) ∙ z.1) in absurd (m (omega arith)))
      | inr f ↦ (rw f z.0, z.1)
    ]
    zero_other d m (Head b) z = (z.0, block b z.1, z.2)
    zero_other d m _ z = absurd z
