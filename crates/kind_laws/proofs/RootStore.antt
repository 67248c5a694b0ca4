-- the store of a committed step into a root keeps the invariant
use Rattle.std.proofs.Common.{◌≡◌, ◌≢◌, ℕ, ◌^◌, ◌<◌, refl, sym, true, false, eq-eqb, subst, [], Option, None}
use Rattle.std.proofs.lemmas.Bool.{ne_eqb, cond-true}
use Rattle.std.specs.List.{All}
use Rattle.shm_words.specs.{declared.geometry.Geometry.Geometry, Tags.tag_author}
use Rattle.shm_graph.specs.declared.{spot.Spot.{Spot, TheVariants.{Home, Root, Slot, Tag, Body}}, memo.Op.Op}
use Rattle.shm_graph.specs.{declared.memo.{Stored.Stored, Test.Test}, Spots.{same_spot, upd, IsAt}}
use Rattle.shm_graph.specs.{Ops.{slot_of, is_op}, Views.{View, targets, held_overs, ons}}
use Rattle.shm_graph.specs.Tables.{contents_of, HasShape}
use Rattle.shm_graph.specs.Held.{HeldAt, CountSound, SlotOf, reach_of, named_by, FactAt, TestAt, EraSound, KnownAt, LooksSound, LaneSound, IsUnusedLane, PartTie, ValueAt, MadeAt, is_loose}
use Rattle.shm_graph.specs.Blocks.{classes, headers}
use Rattle.shm_graph.proofs.{Spots.Spotting.same_spot_self, Memos.Frames.at1_all}
use Rattle.kind_laws.proofs.Owns.{mine_stored, small_stored, there_stored}
use Rattle.kind_laws.proofs.Writing.{at_slot, on_same, held_over_same, own_same, allowed_same, tails_same, slots_same, ops_same, targets_same}
use Rattle.kind_laws.proofs.{Readings.{bodies, eras, queue_heads, slot_words, tags, tails}, Keep.others}
use Rattle.kind_laws.specs.Slotting.{RootNeeds, root_view}

pub root_kept : (g : Geometry) (w : Spot → ℕ) (v : View) (c k x : ℕ) (o : Op) → HeldAt g w v → RootNeeds g w v c k x o → HeldAt g (upd w (Root c k) x) (root_view v c k x o)
root_kept g w v c k x o h a =
    record {
      fits = h.fits;
      small = small_stored w (Root c k) x (2 ^ 64) a.small h.small;
      there = there_stored (IsAt g (classes w)) w (Root c k) x (at_slot g w v h c x o (Root c k) a.inside a.slot a.op) h.there;
      spare = h.spare;
      unused = h.unused;
      sizes = h.sizes;
      mine = mine_stored w v.own c g.clients (Root c k) x (eq-eqb c c refl) a.inside h.mine;
      state = h.state;
      latch = h.latch;
      segments = h.segments;
      dying = h.dying;
      making = h.making;
      blocks = h.blocks;
      era = subst (λ (on : ℕ → Option ℕ). EraSound g.clients (headers w) (eras w) on) (sym on) h.era;
      own = own_same g w v h c x o (Root c k) a.inside a.slot a.op;
      op = ops_same g w v h c x o (Root c k) a.inside a.slot a.op (cond-true (same_spot (Root c k) (Root c k)) x (w (Root c k)) (same_spot_self (Root c k)));
      redo = h.redo;
      allowed = allowed_same g w v h c x o (Root c k) a.inside a.slot a.op;
      count = subst (λ (t : Spot → ℕ). CountSound g (classes w) (headers w) t (held_overs v')) (sym path) (subst (λ (l : ℕ → ℕ). CountSound g (classes w) (headers w) t l) (sym (held_over_same g w v h c x o (Root c k) a.inside a.slot a.op)) h.count);
      slots = subst (λ (t : Spot → ℕ). (d : ℕ) → d < g.clients → is_op (v'.op d) ≡ true → SlotOf g.wide d (headers w) (tags w) (v.latch d) (tails w) (queue_heads w) (reach_of t (tails w) (queue_heads w) v.looks d) (slot_of (v'.op d))) (sym path) (slots_same g w v h c x o (Root c k) a.inside a.slot a.op);
      looks = subst (λ (t : Spot → ℕ). (d : ℕ) → d < g.clients → LooksSound (λ a. t (Home a)) (λ b i. t (Body b i)) (λ b. tag_author g.wide (w (Tag b))) (v.latch d) (named_by t (tails w) (queue_heads w) d) [] (v.looks d)) (sym path) h.looks;
      lanes = subst (λ (t : Spot → ℕ). (i j : ℕ) → i < g.clients → j < g.clients → i ≢ j → LaneSound (λ k. t (Slot i j k)) (tails w i j) (queue_heads w i j) (v.sent i j) (v.unsent i j) (v.received j i) (v.untaken j i)) (sym path) h.lanes;
      known = subst (λ (t : Spot → ℕ). (d : ℕ) → d < g.clients → All (λ (s : Stored). KnownAt g.wide d (tags w) (bodies w) (slot_words w) (tails w) (queue_heads w) (v.untaken d) (v.latch d) (reach_of t (tails w) (queue_heads w) v.looks d) (v.dying d) s.spot s.value) (v.known d)) (sym path) h.known;
      facts = subst (λ (on : ℕ → Option ℕ). (d : ℕ) → d < g.clients → All (FactAt g.clients (eras w) on (tails w) (queue_heads w) (classes w)) (v.facts d)) (sym on) h.facts;
      zeros = h.zeros;
      test = subst (λ (on : ℕ → Option ℕ). (d : ℕ) → d < g.clients → TestAt g.clients (eras w) (on d) d (v'.test d)) (sym on) (λ d. at1_all (λ (i : ℕ) (x : Option Test). i < g.clients → TestAt g.clients (eras w) (ons v i) i x) v.test c None d (λ l. tt) (λ m. h.test d));
      fresh = others _ _ v.status g.clients c h.fresh a.acts (λ d n x. rw (ne_eqb c d n) x);
      gone = others _ _ v.status g.clients c h.gone a.here (λ d n x. rw (ne_eqb c d n) x);
      self_lanes = subst (λ (t : Spot → ℕ). (d : ℕ) → d < g.clients → IsUnusedLane (tails w d d) (queue_heads w d d) (λ k. t (Slot d d k))) (sym path) h.self_lanes;
      no_queue = h.no_queue;
      tails = tails_same g w v h c x o (Root c k) a.inside a.slot a.op;
      parts = h.parts;
      part = subst (λ (t : Spot → ℕ). (d : ℕ) → d < g.clients → PartTie (contents_of g.wide w t) d (t (Home d)) (v.part d)) (sym path) h.part;
      queued = subst (λ (t : Spot → ℕ). (d : ℕ) → d < g.clients → is_loose (v.part d) ≡ false → (s r k : ℕ) → t (Slot s r k) ≢ 0 → HasShape (contents_of g.wide w t) 0 1 (t (Slot s r k))) (sym path) h.queued;
      values = subst (λ (t : Spot → ℕ). (d : ℕ) → d < g.clients → All (ValueAt (contents_of g.wide w t) (reach_of t (tails w) (queue_heads w) v.looks d)) (v.values d)) (sym path) h.values;
      made = subst (λ (t : Spot → ℕ). (d : ℕ) → d < g.clients → All (MadeAt (headers w) (λ k. t (Root d k))) (v.made d)) (sym path) h.made;
    }
  where
    v' : View
    v' = root_view v c k x o

    t : Spot → ℕ
    t = targets g w v

    on : ons v' ≡ ons v
    on = on_same g w v h c x o (Root c k) a.inside a.slot a.op

    path : targets g (upd w (Root c k) x) v' ≡ t
    path = targets_same g w v h c x o (Root c k) a.inside a.slot a.op (λ b. refl)
