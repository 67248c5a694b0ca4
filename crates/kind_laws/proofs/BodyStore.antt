-- the store of a committed step into a reference word of a block keeps the invariant
use Rattle.std.proofs.Common.{◌≡◌, ◌≢◌, ℕ, ◌^◌, ◌<◌, ◌≤◌, refl, sym, ap, ◌∙◌, arith, true, false, not, eqb, subst, inl, inr, ◌⊎◌, List, [], ◌∷◌, Option, Some, None}
use Rattle.std.proofs.lemmas.List.Elements.{All-cons, All-weaker}
use Rattle.std.proofs.lemmas.Bool.{cases_Bool, ne_eqb, eqb-true, and_parts, cond-true}
use Rattle.std.specs.List.{All, Contains, filter}
use Rattle.shm_words.specs.{declared.geometry.Geometry.Geometry, Tags.{tag_refs, tag_author}}
use Rattle.shm_words.proofs.Words.{live_not_zero}
use Rattle.shm_graph.specs.declared.{spot.Spot.{Spot, TheVariants.{Home, Root, Slot, Tag, Body}}, memo.Op.Op}
use Rattle.shm_graph.specs.{declared.memo.{Making.Making, Stored.Stored, Test.Test}, Spots.{same_spot, upd, IsAt}}
use Rattle.shm_graph.specs.{Ops.{slot_of, is_op}, Views.{View, targets, held_overs, ons}}
use Rattle.shm_graph.specs.Tables.{contents_of, HasShape}
use Rattle.shm_graph.specs.Held.{HeldAt, CountSound, SlotOf, reach_of, named_by, MakingTie, InBlock, FactAt, TestAt, EraSound, KnownAt, LooksSound, LaneSound, IsUnusedLane, PartTie, ValueAt, MadeAt, is_loose}
use Rattle.shm_graph.specs.{Reach.not_at, Blocks.{classes, headers}}
use Rattle.shm_graph.proofs.{Spots.Spotting.same_spot_self, States.Holders.{Holds, InReach, reach_counted, one_latch}}
use Rattle.shm_graph.proofs.Memos.Frames.{at1_all}
use Rattle.kind_laws.proofs.{Lists.All-kept, Keep.others, Owns.{mine_other, small_stored, there_stored}}
use Rattle.kind_laws.proofs.References.{part_stored, values_kept, queued_kept}
use Rattle.kind_laws.proofs.Writing.{at_slot, mine_at, on_same, held_over_same, own_same, allowed_same, tails_same, slots_same, ops_same, targets_same}
use Rattle.kind_laws.proofs.Readings.{bodies, eras, head_words, queue_heads, segments, slot_words, tags, tails}
use Rattle.kind_laws.specs.Slotting.{BodyNeeds, body_view}

pub body_kept : (g : Geometry) (w : Spot → ℕ) (v : View) (c b i x : ℕ) (o : Op) → HeldAt g w v → BodyNeeds g v c b i x o → HeldAt g (upd w (Body b i) x) (body_view v c b i x o)
body_kept g w v c b i x o h a =
    record {
      fits = h.fits;
      small = small_stored w (Body b i) x (2 ^ 64) a.small h.small;
      there = there_stored (IsAt g (classes w)) w (Body b i) x (at_slot g w v h c x o (Body b i) a.inside a.slot a.op) h.there;
      spare = h.spare;
      unused = h.unused;
      sizes = h.sizes;
      mine = mine_other w v.own g.clients (Body b i) x (λ d. refl) h.mine;
      state = h.state;
      latch = h.latch;
      segments = h.segments;
      dying = h.dying;
      making = λ d l. making d (v.making d) (h.making d l);
      blocks = h.blocks;
      era = subst (λ (on : ℕ → Option ℕ). EraSound g.clients (headers w) (eras w) on) (sym on) h.era;
      own = own_same g w v h c x o (Body b i) a.inside a.slot a.op;
      op = ops_same g w v h c x o (Body b i) a.inside a.slot a.op here;
      redo = h.redo;
      allowed = allowed_same g w v h c x o (Body b i) a.inside a.slot a.op;
      count = subst (λ (t : Spot → ℕ). CountSound g (classes w) (headers w) t (held_overs v')) (sym path) (subst (λ (l : ℕ → ℕ). CountSound g (classes w) (headers w) t l) (sym (held_over_same g w v h c x o (Body b i) a.inside a.slot a.op)) h.count);
      slots = subst (λ (t : Spot → ℕ). (d : ℕ) → d < g.clients → is_op (v'.op d) ≡ true → SlotOf g.wide d (headers w) (tags w) (v.latch d) (tails w) (queue_heads w) (reach_of t (tails w) (queue_heads w) v.looks d) (slot_of (v'.op d))) (sym path) (slots_same g w v h c x o (Body b i) a.inside a.slot a.op);
      looks = subst (λ (t : Spot → ℕ). (d : ℕ) → d < g.clients → LooksSound (λ a. t (Home a)) (λ b i. t (Body b i)) (λ b. tag_author g.wide (w (Tag b))) (v.latch d) (named_by t (tails w) (queue_heads w) d) [] (v.looks d)) (sym path) h.looks;
      lanes = subst (λ (t : Spot → ℕ). (i j : ℕ) → i < g.clients → j < g.clients → i ≢ j → LaneSound (λ k. t (Slot i j k)) (tails w i j) (queue_heads w i j) (v.sent i j) (v.unsent i j) (v.received j i) (v.untaken j i)) (sym path) h.lanes;
      known = subst (λ (t : Spot → ℕ). (d : ℕ) → d < g.clients → All (λ (s : Stored). KnownAt g.wide d (tags w) bodies' (slot_words w) (tails w) (queue_heads w) (v.untaken d) (v.latch d) (reach_of t (tails w) (queue_heads w) v.looks d) (v.dying d) s.spot s.value) (v'.known d)) (sym path)
          (λ d. at1_all (λ (j : ℕ) (y : List Stored). j < g.clients → All (Known j) y) v.known c (record { spot = Body b i; value = x } ∷ filter (not_at (Body b i)) (v.known c)) d
          (λ l. All-cons (Known c) (record { spot = Body b i; value = x }) (filter (not_at (Body b i)) (v.known c)) (new_known mine) (All-kept (Old c) (Known c) (not_at (Body b i)) (λ s. known_own s.spot s.value) (v.known c) (h.known c l)))
          (λ n l. All-weaker (Old d) (Known d) (λ s. known_other d n l s.spot s.value) (v.known d) (h.known d l)));
      facts = subst (λ (on : ℕ → Option ℕ). (d : ℕ) → d < g.clients → All (FactAt g.clients (eras w) on (tails w) (queue_heads w) (classes w)) (v.facts d)) (sym on) h.facts;
      zeros = h.zeros;
      test = subst (λ (on : ℕ → Option ℕ). (d : ℕ) → d < g.clients → TestAt g.clients (eras w) (on d) d (v'.test d)) (sym on) (λ d. at1_all (λ (i : ℕ) (x : Option Test). i < g.clients → TestAt g.clients (eras w) (ons v i) i x) v.test c None d (λ l. tt) (λ m. h.test d));
      fresh = others _ _ v.status g.clients c h.fresh a.acts (λ d n x. rw (ne_eqb c d n) x);
      gone = others _ _ v.status g.clients c h.gone a.here (λ d n x. rw (ne_eqb c d n) x);
      self_lanes = subst (λ (t : Spot → ℕ). (d : ℕ) → d < g.clients → IsUnusedLane (tails w d d) (queue_heads w d d) (λ k. t (Slot d d k))) (sym path) h.self_lanes;
      no_queue = h.no_queue;
      tails = tails_same g w v h c x o (Body b i) a.inside a.slot a.op;
      parts = h.parts;
      part = subst (λ (t : Spot → ℕ). (d : ℕ) → d < g.clients → PartTie (contents_of g.wide w' t) d (t (Home d)) (v.part d)) (sym path) (λ d l. part_stored g w v h d b i x l mine.1);
      queued = subst (λ (t : Spot → ℕ). (d : ℕ) → d < g.clients → is_loose (v.part d) ≡ false → (s r k : ℕ) → t (Slot s r k) ≢ 0 → HasShape (contents_of g.wide w' t) 0 1 (t (Slot s r k))) (sym path)
          (λ d l. queued_kept g w v h d (headers w) (λ j k. t (Body j k)) bodies' t l (λ _ _ z. z) (λ s r k n. inl refl));
      values = subst (λ (t : Spot → ℕ). (d : ℕ) → d < g.clients → All (ValueAt (contents_of g.wide w' t) (reach_of t (tails w) (queue_heads w) v.looks d)) (v.values d)) (sym path)
          (λ d l. values_kept g w v h d (headers w) (λ j k. t (Body j k)) bodies' (reach_of t (tails w) (queue_heads w) v.looks d) l (λ _ _ z. z) (λ _ z. z));
      made = subst (λ (t : Spot → ℕ). (d : ℕ) → d < g.clients → All (MadeAt (headers w) (λ k. t (Root d k))) (v.made d)) (sym path) h.made;
    }
  where
    w' : Spot → ℕ
    w' = upd w (Body b i) x

    v' : View
    v' = body_view v c b i x o

    bodies' : ℕ → ℕ → ℕ
    bodies' = λ d j. upd w (Body b i) x (Body d j)

    t : Spot → ℕ
    t = targets g w v

    here : upd w (Body b i) x (Body b i) ≡ x
    here = cond-true (same_spot (Body b i) (Body b i)) x (w (Body b i)) (same_spot_self (Body b i))

    mine : Holds w g v c (Body b i)
    mine = mine_at g w v h c x o (Body b i) a.inside a.slot a.op

    on : ons v' ≡ ons v
    on = on_same g w v h c x o (Body b i) a.inside a.slot a.op

    path : targets g w' v' ≡ t
    path = targets_same g w v h c x o (Body b i) a.inside a.slot a.op (λ b. refl)

    -- a block that is prepared isn't live
    making : (d : ℕ) (y : Option Making) → MakingTie g (classes w) (segments w) (head_words w) (tags w) (bodies w) d y → MakingTie g (classes w) (segments w) (head_words w) (tags w) bodies' d y
    making d None y = tt
    making d (Some m) y = record { free = y.free; block = y.block; mine = y.mine; sized = y.sized; stored = All-weaker _ _ (λ s. stored s.spot s.value) m.words y.stored }
      where
        apart_b : b ≢ m.block
        apart_b z = live_not_zero (head_words w b) mine.0 (ap (head_words w) z ∙ y.free)

        stored : (p : Spot) (z : ℕ) → InBlock (tags w) (bodies w) m.block m.class p z → InBlock (tags w) bodies' m.block m.class p z
        stored (Tag d) z k = k
        stored (Body d j) z k = (k.0, k.1, (let n : eqb b d ≡ false = ne_eqb b d (λ u. apart_b (u ∙ k.0)) in rw n k.2))
        stored _ z k = absurd k

    Old : ℕ → Stored → Type 0
    Old d s = KnownAt g.wide d (tags w) (bodies w) (slot_words w) (tails w) (queue_heads w) (v.untaken d) (v.latch d) (reach_of t (tails w) (queue_heads w) v.looks d) (v.dying d) s.spot s.value

    Known : ℕ → Stored → Type 0
    Known d s = KnownAt g.wide d (tags w) bodies' (slot_words w) (tails w) (queue_heads w) (v.untaken d) (v.latch d) (reach_of t (tails w) (queue_heads w) v.looks d) (v.dying d) s.spot s.value

    new_known : Holds w g v c (Body b i) → KnownAt g.wide c (tags w) bodies' (slot_words w) (tails w) (queue_heads w) (v.untaken c) (v.latch c) (reach_of t (tails w) (queue_heads w) v.looks c) (v.dying c) (Body b i) x
    new_known y = (here, elim y.2 [ inl u ↦ inl ((h.dying c a.inside).all b (y.0, u.0, u.1)) | inr u ↦ inr (u.2, inr (inl u.0)) ])

    known_own : (p : Spot) (z : ℕ) → not (same_spot (Body b i) p) ≡ true → KnownAt g.wide c (tags w) (bodies w) (slot_words w) (tails w) (queue_heads w) (v.untaken c) (v.latch c) (reach_of t (tails w) (queue_heads w) v.looks c) (v.dying c) p z → KnownAt g.wide c (tags w) bodies' (slot_words w) (tails w) (queue_heads w) (v.untaken c) (v.latch c) (reach_of t (tails w) (queue_heads w) v.looks c) (v.dying c) p z
    known_own (Body d j) z q k = elim (cases_Bool (same_spot (Body b i) (Body d j))) [
      | inl y ↦ (let u : false ≡ true = rw y at q in cc)
      | inr y ↦ (rw y k.0, k.1)
    ]
    known_own (Tag d) z q k = k
    known_own (Slot s r l) z q k = k
    known_own _ z q k = absurd k

    -- no pair of another identity binds the word
    known_other : (d : ℕ) → c ≢ d → d < g.clients → (p : Spot) (z : ℕ) → KnownAt g.wide d (tags w) (bodies w) (slot_words w) (tails w) (queue_heads w) (v.untaken d) (v.latch d) (reach_of t (tails w) (queue_heads w) v.looks d) (v.dying d) p z → KnownAt g.wide d (tags w) bodies' (slot_words w) (tails w) (queue_heads w) (v.untaken d) (v.latch d) (reach_of t (tails w) (queue_heads w) v.looks d) (v.dying d) p z
    known_other d n l (Body e j) z k = elim (cases_Bool (same_spot (Body b i) (Body e j))) [
      | inr y ↦ (rw y k.0, k.1)
      | inl y ↦ absurd (let u = and_parts (eqb b e) (eqb i j) y in never (subst (λ m. Binds m i) (sym (eqb-true b e u.0)) (subst (λ m. Binds e m) (sym (eqb-true i j u.1)) k.1)))
    ]
      where
        Binds : ℕ → ℕ → Type 0
        Binds e j = Contains (v.dying d) e ⊎ (InReach w g v d e × ((tag_refs g.wide (w (Tag e)) ≤ j) ⊎ ((tag_author g.wide (w (Tag e)) ≡ d) ⊎ (v.latch d ≡ Some (tag_author g.wide (w (Tag e)))))))

        never : Binds b i → ⊥
        never (inl y) = let q = (h.dying d l).listed b y in elim mine.2 [ inl u ↦ n (sym u.1 ∙ q.2) | inr u ↦ (reach_counted g w v h c b a.inside u.2).1 q.1 ]
        never (inr y) = elim mine.2 [
          | inl u ↦ (reach_counted g w v h d b l y.0).1 u.0
          | inr u ↦ elim y.1 [
            | inl r ↦ (let s = mine.1 in absurd (omega arith))
            | inr r ↦ elim r [
              | inl f ↦ n (sym u.0 ∙ f)
              | inr f ↦ n (one_latch g w v h c d c a.inside l u.1 (f ∙ ap Some u.0))
            ]
          ]
        ]
    known_other d n l (Tag e) z k = k
    known_other d n l (Slot s r j) z k = k
    known_other d n l _ z k = absurd k
