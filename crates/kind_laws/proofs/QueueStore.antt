-- the store of a committed step into a slot of a queue, also where it was stored before, keeps the invariant, and the graph stays
use Rattle.std.proofs.Common.{◌≡◌, ◌≢◌, ℕ, ◌%◌, ◌^◌, ◌<◌, refl, sym, ap, ◌∙◌, arith, true, false, eq-eqb, subst, inl, inr, [], Option, None}
use Rattle.std.proofs.lemmas.List.Elements.{All-weaker, All-get_or}
use Rattle.std.proofs.lemmas.Bool.{ne_eqb, cond-true, cond-false, true≢false, false≢true, false_from_ne_true}
use Rattle.std.specs.List.{All}
use Rattle.shm_words.specs.{declared.geometry.Geometry.Geometry, Tags.tag_author}
use Rattle.shm_graph.specs.declared.spot.Spot.{Spot, TheVariants.{Home, Root, Slot, Tag, Body}}
use Rattle.shm_graph.specs.declared.memo.{First.TheVariants.{Committed, Written}, Op.Op}
use Rattle.shm_graph.specs.declared.memo.{Op.TheVariants.{Alloc, Up, Down, Change}, Stored.Stored, Test.Test}
use Rattle.shm_graph.specs.{Spots.{same_spot, upd, IsAt}, Ops.{On, cover, slot_of, is_op}}
use Rattle.shm_graph.specs.{Views.{View, targets, held_overs, ons}, Events.{Nothing, graph_of, Happens}}
use Rattle.shm_graph.specs.Tables.{contents_of, HasShape}
use Rattle.shm_graph.specs.Held.{HeldAt, CountSound, SlotOf, reach_of, named_by, FactAt, TestAt, EraSound, KnownAt, LooksSound, LaneSound, IsUnusedLane, PartTie, ValueAt, MadeAt, Allowed, is_loose, is_root, is_slot, is_slot_to}
use Rattle.shm_graph.specs.Blocks.{classes, headers}
use Rattle.shm_graph.proofs.{Spots.Spotting.{same_spot_self, same_spot_is}, States.Holders.{Holds, apart_slots}}
use Rattle.shm_graph.proofs.Memos.Frames.{at1_all}
use Rattle.kind_laws.proofs.{Lanes.lane_clients, Owns.{mine_other, small_stored, there_stored}, Quiet.quiet}
use Rattle.kind_laws.proofs.Slots.{slot_names}
use Rattle.kind_laws.proofs.Writing.{written, at_slot, mine_at, on_same, held_over_same, own_same, allowed_same, tails_same, slots_same, ops_same, targets_same}
use Rattle.kind_laws.proofs.{Readings.{bodies, eras, queue_heads, slot_words, tags, tails}, Keep.others}
use Rattle.kind_laws.specs.Slotting.{Writes, QueueNeeds, queue_view}

-- a step whose slot is one of a queue to its own identity takes a block out
lowers : (c : ℕ) (o o' : Op) (x : ℕ) → Writes o o' x → Allowed c o → is_slot_to c (slot_of o) ≡ true → x ≡ 0
lowers c (Down Committed p b e) o' x y a n = y.1
lowers c (Down Written p b e) o' x y a n = y.1
lowers c (Up s p b e) o' x y a n = absurd (true≢false (sym n ∙ a))
lowers c (Alloc s p b e) o' x y a n = absurd (no_root p a n)
  where
    no_root : (q : Spot) → is_root q ≡ true → is_slot_to c q ≡ true → ⊥
    no_root (Slot i j l) u m = false≢true u
    no_root (Root i j) u m = false≢true m
    no_root _ u m = cc
lowers c (Change h p a b e) o' x y z n = absurd (no_slot p z.0 n)
  where
    no_slot : (q : Spot) → is_slot q ≡ false → is_slot_to c q ≡ true → ⊥
    no_slot (Slot i j l) u m = true≢false u
    no_slot _ u m = cc
lowers c _ o' x y a n = absurd y

pub queue_kept : (g : Geometry) (w : Spot → ℕ) (v : View) (c s r k x : ℕ) (o : Op) → HeldAt g w v → QueueNeeds g w v c s r k x o → HeldAt g (upd w (Slot s r k) x) (queue_view v c o)
queue_kept g w v c s r k x o h a =
    record {
      fits = h.fits;
      small = small_stored w (Slot s r k) x (2 ^ 64) a.small h.small;
      there = there_stored (IsAt g (classes w)) w (Slot s r k) x (at_slot g w v h c x o (Slot s r k) a.inside a.slot a.op) h.there;
      spare = h.spare;
      unused = h.unused;
      sizes = h.sizes;
      mine = mine_other w v.own g.clients (Slot s r k) x (λ d. refl) h.mine;
      state = h.state;
      latch = h.latch;
      segments = h.segments;
      dying = h.dying;
      making = h.making;
      blocks = h.blocks;
      era = subst (λ (on : ℕ → Option ℕ). EraSound g.clients (headers w) (eras w) on) (sym on) h.era;
      own = own_same g w v h c x o (Slot s r k) a.inside a.slot a.op;
      op = ops_same g w v h c x o (Slot s r k) a.inside a.slot a.op (cond-true (same_spot (Slot s r k) (Slot s r k)) x (w (Slot s r k)) (same_spot_self (Slot s r k)));
      redo = h.redo;
      allowed = allowed_same g w v h c x o (Slot s r k) a.inside a.slot a.op;
      count = subst (λ (t : Spot → ℕ). CountSound g (classes w) (headers w) t (held_overs v')) (sym path) (subst (λ (l : ℕ → ℕ). CountSound g (classes w) (headers w) t l) (sym (held_over_same g w v h c x o (Slot s r k) a.inside a.slot a.op)) h.count);
      slots = subst (λ (t : Spot → ℕ). (d : ℕ) → d < g.clients → is_op (v'.op d) ≡ true → SlotOf g.wide d (headers w) (tags w) (v.latch d) (tails w) (queue_heads w) (reach_of t (tails w) (queue_heads w) v.looks d) (slot_of (v'.op d))) (sym path) (slots_same g w v h c x o (Slot s r k) a.inside a.slot a.op);
      looks = subst (λ (t : Spot → ℕ). (d : ℕ) → d < g.clients → LooksSound (λ a. t (Home a)) (λ b i. t (Body b i)) (λ b. tag_author g.wide (w (Tag b))) (v.latch d) (named_by t (tails w) (queue_heads w) d) [] (v.looks d)) (sym path) h.looks;
      lanes = subst (λ (t : Spot → ℕ). (i j : ℕ) → i < g.clients → j < g.clients → i ≢ j → LaneSound (λ k. t (Slot i j k)) (tails w i j) (queue_heads w i j) (v.sent i j) (v.unsent i j) (v.received j i) (v.untaken j i)) (sym path) h.lanes;
      known = subst (λ (t : Spot → ℕ). (d : ℕ) → d < g.clients → All (λ (z : Stored). KnownAt g.wide d (tags w) (bodies w) slot' (tails w) (queue_heads w) (v.untaken d) (v.latch d) (reach_of t (tails w) (queue_heads w) v.looks d) (v.dying d) z.spot z.value) (v.known d)) (sym path)
          (λ d l. All-weaker (Old d) (Known d) (λ z. known_kept d l z.spot z.value) (v.known d) (h.known d l));
      facts = subst (λ (on : ℕ → Option ℕ). (d : ℕ) → d < g.clients → All (FactAt g.clients (eras w) on (tails w) (queue_heads w) (classes w)) (v.facts d)) (sym on) h.facts;
      zeros = h.zeros;
      test = subst (λ (on : ℕ → Option ℕ). (d : ℕ) → d < g.clients → TestAt g.clients (eras w) (on d) d (v'.test d)) (sym on) (λ d. at1_all (λ (i : ℕ) (x : Option Test). i < g.clients → TestAt g.clients (eras w) (ons v i) i x) v.test c None d (λ l. tt) (λ m. h.test d));
      fresh = others _ _ v.status g.clients c h.fresh a.acts (λ d n x. rw (ne_eqb c d n) x);
      gone = others _ _ v.status g.clients c h.gone a.here (λ d n x. rw (ne_eqb c d n) x);
      self_lanes = subst (λ (t : Spot → ℕ). (d : ℕ) → d < g.clients → IsUnusedLane (tails w d d) (queue_heads w d d) (λ k. t (Slot d d k))) (sym path) h.self_lanes;
      no_queue = h.no_queue;
      tails = tails_same g w v h c x o (Slot s r k) a.inside a.slot a.op;
      parts = h.parts;
      part = subst (λ (t : Spot → ℕ). (d : ℕ) → d < g.clients → PartTie (contents_of g.wide w t) d (t (Home d)) (v.part d)) (sym path) h.part;
      queued = subst (λ (t : Spot → ℕ). (d : ℕ) → d < g.clients → is_loose (v.part d) ≡ false → (s r k : ℕ) → t (Slot s r k) ≢ 0 → HasShape (contents_of g.wide w t) 0 1 (t (Slot s r k))) (sym path) h.queued;
      values = subst (λ (t : Spot → ℕ). (d : ℕ) → d < g.clients → All (ValueAt (contents_of g.wide w t) (reach_of t (tails w) (queue_heads w) v.looks d)) (v.values d)) (sym path) h.values;
      made = subst (λ (t : Spot → ℕ). (d : ℕ) → d < g.clients → All (MadeAt (headers w) (λ k. t (Root d k))) (v.made d)) (sym path) h.made;
    }
  where
    v' : View
    v' = queue_view v c o

    t : Spot → ℕ
    t = targets g w v

    on : ons v' ≡ ons v
    on = on_same g w v h c x o (Slot s r k) a.inside a.slot a.op

    path : targets g (upd w (Slot s r k) x) v' ≡ t
    path = targets_same g w v h c x o (Slot s r k) a.inside a.slot a.op (λ b. refl)

    slot' : ℕ → ℕ → ℕ → ℕ
    slot' = λ i j l. upd w (Slot s r k) x (Slot i j l)

    mine : Holds w g v c (Slot s r k)
    mine = mine_at g w v h c x o (Slot s r k) a.inside a.slot a.op

    Old : ℕ → Stored → Type 0
    Old d z = KnownAt g.wide d (tags w) (bodies w) (slot_words w) (tails w) (queue_heads w) (v.untaken d) (v.latch d) (reach_of t (tails w) (queue_heads w) v.looks d) (v.dying d) z.spot z.value

    Known : ℕ → Stored → Type 0
    Known d z = KnownAt g.wide d (tags w) (bodies w) slot' (tails w) (queue_heads w) (v.untaken d) (v.latch d) (reach_of t (tails w) (queue_heads w) v.looks d) (v.dying d) z.spot z.value

    -- the slot's target is its new value
    names : t (Slot s r k) ≡ x
    names = slot_names g w v h c (Slot s r k) a.inside mine ∙ (ap (λ q. cover q (Slot s r k) (w (Slot s r k))) ((written (v.op c) o x a.op).before ∙ ap (λ q. On q x) a.slot) ∙ cond-true (same_spot (Slot s r k) (Slot s r k)) x (w (Slot s r k)) (same_spot_self (Slot s r k)))

    -- no head slot of which an identity knows a block is stored: at its tail a queue that isn't empty has another slot than at its
    -- head, and at the head the receiver stores 0, where a block that isn't taken would be the target
    never : (d i : ℕ) → d < g.clients → i ≢ d → Slot s r k ≡ Slot i d (queue_heads w i d % 8) → queue_heads w i d < tails w i d → v.untaken d i ≡ 0 → ⊥
    never d i l n e f u = let y : Holds w g v c (Slot i d (queue_heads w i d % 8)) = subst (Holds w g v c) e mine in elim y.1 [
      | inl z ↦ apart_slots (queue_heads w i d) (tails w i d) f z.2 z.1
      | inr z ↦ (let lane = h.lanes i d sender l n in
          All-get_or (λ b. b ≢ 0) (v.sent i d) (queue_heads w i d) 0 (let m = lane.all_sent in omega arith) lane.some
          (sym (lane.items (queue_heads w i d) (omega arith) f (u, refl)) ∙ (ap t (sym e) ∙ (names ∙ lowers c (v.op c) o x a.op (h.allowed c a.inside) (ap (is_slot_to c) a.slot ∙ (ap (is_slot_to c) e ∙ eq-eqb d c z.0))))))
    ]
      where
        sender : i < g.clients
        sender = (lane_clients g (classes w) i d (queue_heads w i d % 8) h.fits (subst (IsAt g (classes w)) e (at_slot g w v h c x o (Slot s r k) a.inside a.slot a.op))).0

    known_kept : (d : ℕ) → d < g.clients → (p : Spot) (z : ℕ) → KnownAt g.wide d (tags w) (bodies w) (slot_words w) (tails w) (queue_heads w) (v.untaken d) (v.latch d) (reach_of t (tails w) (queue_heads w) v.looks d) (v.dying d) p z → KnownAt g.wide d (tags w) (bodies w) slot' (tails w) (queue_heads w) (v.untaken d) (v.latch d) (reach_of t (tails w) (queue_heads w) v.looks d) (v.dying d) p z
    known_kept d l (Body e j) z y = y
    known_kept d l (Tag e) z y = y
    known_kept d l (Slot i j m) z (to, n, at, some, left, nz, holds) = (to, n, at, some, left, nz, cond-false (same_spot (Slot s r k) (Slot i d m)) x (w (Slot i d m)) apart ∙ holds)
      where
        apart : same_spot (Slot s r k) (Slot i d m) ≡ false
        apart = false_from_ne_true _ (λ y. never d i l n (same_spot_is (Slot s r k) (Slot i d m) y ∙ ap (Slot i d) at) some left)
    known_kept d l _ z y = absurd y

-- the slot had its new value as its target
pub queue_quiet : (g : Geometry) (w : Spot → ℕ) (v : View) (c s r k x : ℕ) (o : Op) → HeldAt g w v → QueueNeeds g w v c s r k x o → Happens g w Nothing (graph_of g w v) (graph_of g (upd w (Slot s r k) x) (queue_view v c o))
queue_quiet g w v c s r k x o h a = quiet g w (upd w (Slot s r k) x) v (queue_view v c o) (λ b. refl) (λ b. refl)
    (targets_same g w v h c x o (Slot s r k) a.inside a.slot a.op (λ b. refl)) (held_over_same g w v h c x o (Slot s r k) a.inside a.slot a.op)
