-- the store of a redo word begins an op, and the store of a row, and both keep the invariant
use Rattle.std.proofs.Math.Path.{fun_ext}
use Rattle.std.proofs.Common.{◌≡◌, ◌≢◌, ℕ, ◌^◌, ◌<◌, ◌≤◌, refl, sym, ap, ◌∙◌, arith, true, false, Bool, cond, eqb, eq-eqb, subst, inl, inr, ◌&&◌, [], Option, Some, None, ◌%◌}
use Rattle.std.proofs.lemmas.List.Elements.{All-weaker, All-contains}
use Rattle.std.proofs.lemmas.Bool.{cases_Bool, cases_eq, ne_eqb, eqb-true, and_parts}
use Rattle.std.specs.List.{All}
use Rattle.shm_words.specs.{declared.{header.Header.Header, geometry.Geometry.Geometry}, Headers.header_of}
use Rattle.shm_words.specs.Tags.{tag_author}
use Rattle.shm_graph.specs.declared.spot.Spot.{Spot}
use Rattle.shm_graph.specs.declared.spot.Spot.TheVariants.{Redo, RedoMore, Home, Era, Tail, QueueHead, Slot, Tag, Body, Spare, Root}
use Rattle.shm_graph.specs.declared.memo.{Op.Op, Stored.Stored, Test.Test, Fact.Fact}
use Rattle.shm_graph.specs.declared.memo.Fact.TheVariants.{Header as HeaderRead, Counter, Class}
use Rattle.shm_graph.specs.Ops.{Cover, held_over_of, on_of, target, cover_of, slot_of, up_slot, is_op}
use Rattle.shm_graph.specs.{References.words_of, Spots.{upd, IsAt}, Views.{View, at1, targets, ons, held_overs}}
use Rattle.shm_graph.specs.Held.{HeldAt, CountSound, LaneSound, EraSound, Bound, FactAt, CounterAt, OwnSound, OpTie, RedoTie, Allowed, SlotOf, reach_of, named_by, KnownAt, LooksSound, TestAt, IsUnusedLane, TailSound, PartTie, ValueAt, MadeAt, is_loose}
use Rattle.shm_graph.specs.{Tables.{HasShape, contents_of}, Blocks.{classes, headers}}
use Rattle.shm_graph.proofs.{Memos.Frames.at1_all, Runs.Lists.{at1_here, at1_other}}
use Rattle.kind_laws.proofs.Owns.{mine_stored, small_stored, there_stored}
use Rattle.kind_laws.proofs.{Readings.{bodies, eras, queue_heads, slot_words, tags, tails}, Keep.others}
use Rattle.kind_laws.specs.OwnWords.{BeginNeeds, begin_view, RowNeeds, row_store_view}

-- an op that begins covers no word and holds no reference over
pub begin_held_overs : (g : Geometry) (w : Spot → ℕ) (v : View) (c x : ℕ) (o : Op) → BeginNeeds g w v c x o → held_overs (begin_view v c x o) ≡ held_overs v
begin_held_overs g w v c x o a = fun_ext (λ d. at1_all (λ (j : ℕ) (k : Op). held_over_of k ≡ held_over_of (v.op j)) v.op c o d (a.held_over ∙ sym (ap held_over_of a.op)) (λ _. refl))

pub begin_targets : (g : Geometry) (w : Spot → ℕ) (v : View) (c x : ℕ) (o : Op) → BeginNeeds g w v c x o → targets g (upd w (Redo c) x) (begin_view v c x o) ≡ targets g w v
begin_targets g w v c x o a = ap (target g.clients (words_of g.wide w)) covers
  where
    cov : ℕ → Cover
    cov = λ d. cover_of (v.op d)

    cov' : ℕ → Cover
    cov' = λ d. cover_of (at1 v.op c o d)

    covers : cov' ≡ cov
    covers = fun_ext (λ d. at1_all (λ (j : ℕ) (k : Op). cover_of k ≡ cover_of (v.op j)) v.op c o d (a.quiet ∙ sym (ap cover_of a.op)) (λ _. refl))

pub begin_kept : (g : Geometry) (w : Spot → ℕ) (v : View) (c x : ℕ) (o : Op) → HeldAt g w v → BeginNeeds g w v c x o → HeldAt g (upd w (Redo c) x) (begin_view v c x o)
begin_kept g w v c x o h a =
    record {
      fits = h.fits;
      small = small_stored w (Redo c) x (2 ^ 64) a.small h.small;
      there = there_stored (IsAt g (classes w)) w (Redo c) x a.place h.there;
      spare = h.spare;
      unused = h.unused;
      sizes = h.sizes;
      mine = mine_stored w v.own c g.clients (Redo c) x (eq-eqb c c refl) a.inside h.mine;
      state = h.state;
      latch = h.latch;
      segments = h.segments;
      dying = h.dying;
      making = h.making;
      blocks = h.blocks;
      era = subst (λ (on : ℕ → Option ℕ). EraSound g.clients (headers w) (eras w) on) (sym on_path) h.era;
      own = λ d. at1_all (λ (i : ℕ) (k : Op). i < g.clients → OwnSound (w (Era i i)) k) v.op c o d (λ l. record { some = (h.own c l).some; room = a.room }) (λ n. h.own d);
      op = λ d l. elim (cases_eq c d) [
        | inl y ↦ subst (λ i. OpTie g (classes w) (redos i) (w (RedoMore i)) (w (Era i i)) (words_of g.wide w) (v'.op i)) y (subst (λ z. OpTie g (classes w) z (w (RedoMore c)) (w (Era c c)) (words_of g.wide w) (v'.op c)) (sym (at1_here (λ i. w (Redo i)) c x)) (subst (OpTie g (classes w) x (w (RedoMore c)) (w (Era c c)) (words_of g.wide w)) (sym (at1_here v.op c o)) a.tie))
        | inr n ↦ subst (λ z. OpTie g (classes w) z (w (RedoMore d)) (w (Era d d)) (words_of g.wide w) (v'.op d)) (sym (at1_other (λ i. w (Redo i)) c x d n)) (subst (OpTie g (classes w) (w (Redo d)) (w (RedoMore d)) (w (Era d d)) (words_of g.wide w)) (sym (at1_other v.op c o d n)) (h.op d l))
      ];
      redo = λ d. at1_all (λ (i : ℕ) (z : ℕ). i < g.clients → RedoTie g (classes w) z (w (RedoMore i))) (λ i. w (Redo i)) c x d (λ l. a.names) (λ n. h.redo d);
      allowed = λ d. at1_all (λ (i : ℕ) (k : Op). i < g.clients → Allowed i k) v.op c o d (λ l. a.allowed) (λ n. h.allowed d);
      count = subst (λ (t : Spot → ℕ). CountSound g (classes w) (headers w) t (held_overs v')) (sym path) (subst (λ (l : ℕ → ℕ). CountSound g (classes w) (headers w) t l) (sym held_over) h.count);
      slots = subst (λ (t : Spot → ℕ). (d : ℕ) → d < g.clients → is_op (v'.op d) ≡ true → SlotOf g.wide d (headers w) (tags w) (v.latch d) (tails w) (queue_heads w) (reach_of t (tails w) (queue_heads w) v.looks d) (slot_of (v'.op d))) (sym path)
          (λ d. at1_all (λ (i : ℕ) (k : Op). i < g.clients → is_op k ≡ true → SlotOf g.wide i (headers w) (tags w) (v.latch i) (tails w) (queue_heads w) (reach_of t (tails w) (queue_heads w) v.looks i) (slot_of k)) v.op c o d (λ l. a.slot) (λ n. h.slots d));
      looks = subst (λ (t : Spot → ℕ). (d : ℕ) → d < g.clients → LooksSound (λ a. t (Home a)) (λ b i. t (Body b i)) (λ b. tag_author g.wide (w (Tag b))) (v.latch d) (named_by t (tails w) (queue_heads w) d) [] (v.looks d)) (sym path) h.looks;
      lanes = subst (λ (t : Spot → ℕ). (i j : ℕ) → i < g.clients → j < g.clients → i ≢ j → LaneSound (λ k. t (Slot i j k)) (tails w i j) (queue_heads w i j) (v.sent i j) (v.unsent i j) (v.received j i) (v.untaken j i)) (sym path) h.lanes;
      known = subst (λ (t : Spot → ℕ). (d : ℕ) → d < g.clients → All (λ (s : Stored). KnownAt g.wide d (tags w) (bodies w) (slot_words w) (tails w) (queue_heads w) (v.untaken d) (v.latch d) (reach_of t (tails w) (queue_heads w) v.looks d) (v.dying d) s.spot s.value) (v.known d)) (sym path) h.known;
      facts = subst (λ (on : ℕ → Option ℕ). (d : ℕ) → d < g.clients → All (FactAt g.clients (eras w) on (tails w) (queue_heads w) (classes w)) (v.facts d)) (sym on_path) h.facts;
      zeros = h.zeros;
      test = λ d l. elim (cases_eq c d) [
        | inl x ↦ subst (λ i. TestAt g.clients (eras w) (ons v' i) i (v'.test i)) x (rw (eq-eqb c c refl) tt)
        | inr n ↦ rw (ne_eqb c d n) (h.test d l)
      ];
      fresh = others _ _ v.status g.clients c h.fresh a.acts (λ d n x. rw (ne_eqb c d n) x);
      gone = others _ _ v.status g.clients c h.gone a.here (λ d n x. rw (ne_eqb c d n) x);
      self_lanes = subst (λ (t : Spot → ℕ). (d : ℕ) → d < g.clients → IsUnusedLane (tails w d d) (queue_heads w d d) (λ k. t (Slot d d k))) (sym path) h.self_lanes;
      no_queue = h.no_queue;
      tails = λ d r l m. at1_all (λ (i : ℕ) (k : Op). i < g.clients → TailSound i r (w (Era i i)) (tails w i r) (v.unsent i r) k) v.op c o d (λ l. let q = h.tails c r l m in (q.0, λ u _. q.1 u (no_slot r (tails w c r % 8)))) (λ n l. h.tails d r l m) l;
      parts = h.parts;
      part = subst (λ (t : Spot → ℕ). (d : ℕ) → d < g.clients → PartTie (contents_of g.wide w t) d (t (Home d)) (v.part d)) (sym path) h.part;
      queued = subst (λ (t : Spot → ℕ). (d : ℕ) → d < g.clients → is_loose (v.part d) ≡ false → (s r k : ℕ) → t (Slot s r k) ≢ 0 → HasShape (contents_of g.wide w t) 0 1 (t (Slot s r k))) (sym path) h.queued;
      values = subst (λ (t : Spot → ℕ). (d : ℕ) → d < g.clients → All (ValueAt (contents_of g.wide w t) (reach_of t (tails w) (queue_heads w) v.looks d)) (v.values d)) (sym path) h.values;
      made = subst (λ (t : Spot → ℕ). (d : ℕ) → d < g.clients → All (MadeAt (headers w) (λ k. t (Root d k))) (v.made d)) (sym path) h.made;
    }
  where
    v' : View
    v' = begin_view v c x o

    t : Spot → ℕ
    t = targets g w v

    Named : ℕ → ℕ → Type 0
    Named d = named_by t (tails w) (queue_heads w) d

    no_op : is_op (v.op c) ≡ false
    no_op = ap is_op a.op

    no_slot : (r k : ℕ) → up_slot (v.op c) ≢ Slot c r k
    no_slot r k e = let q : Spare ≡ Slot c r k = sym (ap up_slot a.op) ∙ e in cc

    redos : ℕ → ℕ
    redos = λ i. upd w (Redo c) x (Redo i)

    on_path : ons v' ≡ ons v
    on_path = fun_ext (λ d. at1_all (λ (j : ℕ) (k : Op). on_of k ≡ on_of (v.op j)) v.op c o d (a.on ∙ sym (ap on_of a.op)) (λ _. refl))

    held_over : held_overs v' ≡ held_overs v
    held_over = begin_held_overs g w v c x o a

    path : targets g (upd w (Redo c) x) v' ≡ t
    path = begin_targets g w v c x o a

-- ---- rows

abbrev eras_with : (ℕ → ℕ → ℕ) → ℕ → ℕ → ℕ → ℕ → ℕ → ℕ
eras_with era c j x i d = cond (eqb c i && eqb j d) x (era i d)

own_same : (era : ℕ → ℕ → ℕ) (c j x d : ℕ) → c ≢ j → eras_with era c j x d d ≡ era d d
own_same era c j x d n = elim (cases_eq c d) [
  | inl e ↦ (let q : eqb j d ≡ false = ne_eqb j d (λ z. n (e ∙ sym z)) in rw q (and_no (eqb c d)))
  | inr m ↦ (let q : eqb c d ≡ false = ne_eqb c d m in rw q refl)
]
  where
    and_no : (b : Bool) → cond (b && false) x (era d d) ≡ era d d
    and_no true = refl
    and_no false = refl

rises : (era : ℕ → ℕ → ℕ) (c j x i d : ℕ) → era c j ≤ x → era i d ≤ eras_with era c j x i d
rises era c j x i d h = elim (cases_Bool (eqb c i && eqb j d)) [
  | inl e ↦ (let t = and_parts _ _ e in let a = eqb-true c i t.0 in let b = eqb-true j d t.1 in rw e (subst (λ k. era k d ≤ x) a (subst (λ k. era c k ≤ x) b h)))
  | inr e ↦ rw e (omega arith)
]

bound_row : (era : ℕ → ℕ → ℕ) (on : ℕ → Option ℕ) (c j x d y : ℕ) → c ≢ j → Bound era on d y → Bound (eras_with era c j x) on d y
bound_row era on c j x d y n h = record { most = rw (own_same era c j x d n) h.most; equal = λ e. h.equal (e ∙ own_same era c j x d n) }

eras_row : (n : ℕ) (head : ℕ → Header) (era : ℕ → ℕ → ℕ) (on : ℕ → Option ℕ) (c j x : ℕ) → c ≢ j → era c j ≤ x → Bound era on j x → EraSound n head era on → EraSound n head (eras_with era c j x) on
eras_row n head era on c j x ne up new h =
    record {
      client = h.client;
      age = h.age;
      header = λ b l. let t = h.header b l in record { most = rw (own_same era c j x (head b).client ne) t.most; equal = λ e. t.equal (e ∙ own_same era c j x (head b).client ne) };
      row = λ i d li ld nd. bound_row era on c j x d _ ne (row i d li ld nd (eqb c i && eqb j d) refl);
      shown = λ d b l o. elim (h.shown d b l o) [
        | inl e ↦ inl (e.0, e.1 ∙ sym (own_same era c j x d ne))
        | inr t ↦ inr (t.0, t.1, t.2, rw (own_same era c j x d ne) (let q = rises era c j x t.0 d up in let m = t.3 in omega arith))
      ];
    }
  where
    row : (i d : ℕ) → i < n → d < n → i ≢ d → (b : Bool) → (eqb c i && eqb j d) ≡ b → Bound era on d (cond b x (era i d))
    row i d li ld nd true e = subst (λ k. Bound era on k x) (eqb-true j d (and_parts _ _ e).1) new
    row i d li ld nd false e = h.row i d li ld nd

pub row_stored : (g : Geometry) (w : Spot → ℕ) (v : View) (c j x : ℕ) → HeldAt g w v → RowNeeds g w v c j x → HeldAt g (upd w (Era c j) x) (row_store_view v c j x)
row_stored g w v c j x h a =
    record {
      fits = h.fits;
      small = small_stored w (Era c j) x (2 ^ 64) (let q = bound.most in let s = h.small (Era j j) in omega arith) h.small;
      there = there_stored (IsAt g (classes w)) w (Era c j) x a.place h.there;
      spare = h.spare;
      unused = h.unused;
      sizes = h.sizes;
      mine = mine_stored w v.own c g.clients (Era c j) x (eq-eqb c c refl) a.inside h.mine;
      state = h.state;
      latch = h.latch;
      segments = h.segments;
      dying = h.dying;
      making = h.making;
      blocks = h.blocks;
      era = eras_row g.clients (headers w) (eras w) (ons v) c j x a.other a.more bound h.era;
      own = λ d l. rw (own_same (eras w) c j x d a.other) (h.own d l);
      op = λ d l. subst (λ z. OpTie g (classes w) (w (Redo d)) (w (RedoMore d)) z (words_of g.wide w) (v.op d)) (sym (own_same (eras w) c j x d a.other)) (h.op d l);
      redo = h.redo;
      allowed = h.allowed;
      count = h.count;
      slots = h.slots;
      looks = h.looks;
      lanes = h.lanes;
      known = h.known;
      facts = λ d l. All-weaker _ _ fact (v.facts d) (h.facts d l);
      zeros = h.zeros;
      test = λ d. at1_all (λ (i : ℕ) (y : Option Test). i < g.clients → TestAt g.clients eras' (ons v i) i y) v.test c None d (λ l. tt) (λ m l. test d (v.test d) (h.test d l));
      fresh = others _ _ v.status g.clients c h.fresh a.acts (λ d n x. rw (ne_eqb c d n) x);
      gone = others _ _ v.status g.clients c h.gone a.here (λ d n x. rw (ne_eqb c d n) x);
      self_lanes = h.self_lanes;
      no_queue = h.no_queue;
      tails = λ d r l m. subst (λ z. TailSound d r z (tails w d r) (v.unsent d r) (v.op d)) (sym (own_same (eras w) c j x d a.other)) (h.tails d r l m);
      parts = h.parts;
      part = h.part;
      queued = h.queued;
      values = h.values;
      made = h.made;
    }
  where
    v' : View
    v' = row_store_view v c j x

    t : Spot → ℕ
    t = targets g w v

    Named : ℕ → ℕ → Type 0
    Named d = named_by t (tails w) (queue_heads w) d

    eras' : ℕ → ℕ → ℕ
    eras' = eras_with (eras w) c j x

    bound : Bound (eras w) (ons v) j x
    bound =
        let q = All-contains (FactAt g.clients (eras w) (ons v) (tails w) (queue_heads w) (classes w)) (v.facts c) (HeaderRead a.read.0) (h.facts c a.inside) a.read.1 a.read.2 in
        let b : Bound (eras w) (ons v) j (header_of a.read.0).era = subst (λ i. Bound (eras w) (ons v) i (header_of a.read.0).era) a.read.3 q.1 in
        let l = a.read.4 in
        record { most = (let m = b.most in omega arith); equal = λ e. b.equal (let m = b.most in omega arith) }

    fact : (f : Fact) → FactAt g.clients (eras w) (ons v) (tails w) (queue_heads w) (classes w) f → FactAt g.clients eras' (ons v) (tails w) (queue_heads w) (classes w) f
    fact (HeaderRead y) k = λ l. let q = k l in (q.0, bound_row (eras w) (ons v) c j x _ _ a.other q.1)
    fact (Class i l y) k = k
    fact (Counter p y) k = counter p k
      where
        counter : (p : Spot) → CounterAt (eras w) (tails w) (queue_heads w) p y → CounterAt eras' (tails w) (queue_heads w) p y
        counter (Era i d) k = let q = rises (eras w) c j x i d a.more in omega arith
        counter (Tail i d) k = k
        counter (QueueHead i d) k = k
        counter _ k = tt

    test : (d : ℕ) (y : Option Test) → TestAt g.clients (eras w) (ons v d) d y → TestAt g.clients eras' (ons v d) d y
    test d None k = tt
    test d (Some y) k = λ e. let r = k e in (r.0, r.1, r.2, r.3, rw (own_same (eras w) c j x d a.other) (let q = rises (eras w) c j x r.0 d a.more in let m = r.4 in omega arith))
