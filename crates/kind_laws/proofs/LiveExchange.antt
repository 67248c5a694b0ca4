-- the exchange of a live block's header keeps the invariant, whichever step makes it: what the kinds share, and what each kind gives
use Rattle.std.proofs.Math.Path.{fun_ext}
use Rattle.std.proofs.Common.{◌≡◌, ◌≢◌, ℕ, ◌^◌, ◌<◌, ◌≤◌, refl, sym, ap, ◌∙◌, arith, true, false, eq-eqb, subst, inl, inr, ◌⊎◌, List, [], Some, None}
use Rattle.std.proofs.lemmas.{List.Elements.All-weaker, Bool.{cases_eq, ne_eqb}}
use Rattle.std.specs.List.{All, Contains}
use Rattle.shm_words.specs.{declared.{geometry.Geometry.Geometry, header.Header.Header}, Headers.header_of}
use Rattle.shm_words.specs.Tags.{tag_author}
use Rattle.shm_graph.specs.declared.spot.Spot.{Spot}
use Rattle.shm_graph.specs.declared.spot.Spot.TheVariants.{Redo, RedoMore, Home, Era, Root, Tail, QueueHead, Slot, Head, Tag, Body}
use Rattle.shm_graph.specs.{declared.{memo.{Op.Op, Look.Look, Stored.Stored}, table.Part.Part}, Spots.{upd, IsAt}}
use Rattle.shm_graph.specs.{References.words_of, Ops.{slot_of, up_slot, on_of, is_op}}
use Rattle.shm_graph.specs.{Views.{View, at1, targets, ons, held_overs}, Blocks.{classes, headers}}
use Rattle.shm_graph.specs.Tables.{contents_of, HasShape}
use Rattle.shm_graph.specs.Held.{HeldAt, CountSound, SlotOf, reach_of, named_by, IsUnusedLane, TailSound, PartTie, ValueAt, MadeAt, is_loose, TestAt, KnownAt, LooksSound, LaneSound, DyingTie, OwnSound, OpTie, Allowed, InLooks, NothingWaits, room_of}
use Rattle.shm_graph.specs.declared.memo.Status.TheVariants as status
use Rattle.shm_graph.proofs.{Memos.Frames.at1_all, Runs.Lists.{at1_here, at1_other}, Spots.Spotting.block_is_at}
use Rattle.kind_laws.specs.HeaderExchanges.{RowShows}
use Rattle.kind_laws.proofs.{Owns.{mine_other, small_stored, there_stored}, Keep.live_block}
use Rattle.kind_laws.proofs.Headers.{blocks_stay, dying_stays, lives, making_stays, zero_stays}
use Rattle.kind_laws.proofs.{References.{values_kept, queued_kept}, Parts.{PartKept, part_kept}}
use Rattle.kind_laws.proofs.ExchangeFields.{era_exchange, facts_committed, slot_kept, known_kept}
use Rattle.kind_laws.proofs.Readings.{bodies, eras, queue_heads, slot_words, tags, tails}

-- ---- what a step makes of the memos

-- a part of the memos of which c's alone may change
pub record Moved {T : Type 0} (f : ℕ → T) (c : ℕ) : Type 0 where
  pub all : ℕ → T
  pub own : T
  pub here : all c ≡ own
  pub other : (d : ℕ) → c ≢ d → all d ≡ f d

abbrev pub moved : {T : Type 0} (f : ℕ → T) (c : ℕ) → T → Moved f c
moved f c x = record { all = at1 f c x; own = x; here = at1_here f c x; other = at1_other f c x }

abbrev pub unmoved : {T : Type 0} (f : ℕ → T) (c : ℕ) → Moved f c
unmoved f c = record { all = f; own = f c; here = refl; other = λ _ _. refl }

-- a fact of c's part and of each other one is one of all
moved_all : {T : Type 0} {f : ℕ → T} {c : ℕ} (m : Moved f c) (n : ℕ) (P : ℕ → T → Type 0) → c < n → P c m.own → ((d : ℕ) → c ≢ d → d < n → P d (f d)) → (d : ℕ) → d < n → P d (m.all d)
moved_all {T} {f} {c} m n P lc own others d l = elim (cases_eq c d) [
  | inl e ↦ subst (λ i. P i (m.all i)) e (subst (P c) (sym m.here) own)
  | inr k ↦ subst (P d) (sym (m.other d k)) (others d k l)
]

-- the stage of c's step, and the parts that change
pub record Changes (v : View) (c : ℕ) : Type 0 where
  pub op : Op
  pub dying : Moved v.dying c
  pub looks : Moved v.looks c
  pub known : Moved v.known c
  pub part : Moved v.part c
  pub values : Moved v.values c
  pub made : Moved v.made c
  pub unsent : ℕ → ℕ → ℕ
  pub untaken : ℕ → ℕ → ℕ

abbrev pub exchanged_view : (v : View) (c : ℕ) → Changes v c → View
exchanged_view v c m =
    record v {
      op = at1 v.op c m.op;
      dying = m.dying.all;
      looks = m.looks.all;
      known = m.known.all;
      unsent = m.unsent;
      untaken = m.untaken;
      part = m.part.all;
      values = m.values.all;
      made = m.made.all;
      test = at1 v.test c None;
    }

-- ---- what each kind gives: the header of b becomes `to`, and t' are the targets then

pub record Gives (g : Geometry) (w : Spot → ℕ) (v : View) (c b to : ℕ) (m : Changes v c) (t' : Spot → ℕ) : Type 0 where
  pub inside : c < g.clients
  pub acts : v.status c ≢ status.New
  pub here : v.status c ≢ status.Gone
  pub small : to < 2 ^ 64
  pub live : (headers w b).live ≡ true
  pub counted : (headers w b).count ≢ 0
  pub new_live : (header_of to).live ≡ true
  pub client : (header_of to).client ≡ c
  pub era : (header_of to).era ≡ w (Era c c)
  pub shows : RowShows (λ i j. w (Era i j)) (header_of (w (Head b))) c
  pub path : targets g (upd w (Head b) to) (exchanged_view v c m) ≡ t'
  -- c's step was not committed and is, on b, with the slot and the room that it had
  pub begun : on_of (v.op c) ≡ None
  pub committed : on_of m.op ≡ Some b
  pub room : room_of m.op ≡ room_of (v.op c)
  pub tie : OpTie g (classes w) (w (Redo c)) (w (RedoMore c)) (w (Era c c)) (words_of g.wide w) m.op
  pub allowed : Allowed c m.op
  pub dying : (d : ℕ) → d < g.clients → DyingTie (headers (upd w (Head b) to)) d (m.dying.all d)
  pub count : CountSound g (classes w) (headers (upd w (Head b) to)) t' (held_overs (exchanged_view v c m))
  -- what c has is sound for the new targets
  pub slot : SlotOf g.wide c (headers w) (λ i. w (Tag i)) (v.latch c) (λ i j. w (Tail i j)) (λ i j. w (QueueHead i j)) (reach_of t' (λ i j. w (Tail i j)) (λ i j. w (QueueHead i j)) (λ d. m.looks.own) c) (slot_of m.op)
  pub looked : LooksSound (λ i. t' (Home i)) (λ i j. t' (Body i j)) (λ i. tag_author g.wide (w (Tag i))) (v.latch c) (named_by t' (λ i j. w (Tail i j)) (λ i j. w (QueueHead i j)) c) [] m.looks.own
  pub knows : All (λ (s : Stored). KnownAt g.wide c (λ i. w (Tag i)) (λ i j. w (Body i j)) (λ i j l. w (Slot i j l)) (λ i j. w (Tail i j)) (λ i j. w (QueueHead i j)) (m.untaken c) (v.latch c)
      (reach_of t' (λ i j. w (Tail i j)) (λ i j. w (QueueHead i j)) (λ d. m.looks.own) c) m.dying.own s.spot s.value) m.known.own
  pub valued : All (ValueAt (contents_of g.wide w t') (reach_of t' (λ i j. w (Tail i j)) (λ i j. w (QueueHead i j)) (λ d. m.looks.own) c)) m.values.own
  pub parted : PartTie (contents_of g.wide w t') c (t' (Home c)) m.part.own
  pub loose : is_loose m.part.own ≡ is_loose (v.part c)
  pub made : All (MadeAt (headers (upd w (Head b) to)) (λ k. t' (Root c k))) m.made.own
  -- what another identity has stays
  pub named : (d i : ℕ) → c ≢ d → named_by (targets g w v) (λ i j. w (Tail i j)) (λ i j. w (QueueHead i j)) d i → named_by t' (λ i j. w (Tail i j)) (λ i j. w (QueueHead i j)) d i
  pub looks : (d : ℕ) → c ≢ d → d < g.clients → LooksSound (λ i. t' (Home i)) (λ i j. t' (Body i j)) (λ i. tag_author g.wide (w (Tag i))) (v.latch d) (named_by t' (λ i j. w (Tail i j)) (λ i j. w (QueueHead i j)) d) [] (v.looks d)
  pub parts : (d : ℕ) → c ≢ d → d < g.clients → PartTie (contents_of g.wide (upd w (Head b) to) t') d (t' (Home d)) (v.part d)
  pub others_made : (d : ℕ) → c ≢ d → d < g.clients → All (MadeAt (headers (upd w (Head b) to)) (λ k. t' (Root d k))) (v.made d)
  pub unsent : (d : ℕ) → c ≢ d → (r : ℕ) → m.unsent d r ≡ v.unsent d r
  pub untaken : (d : ℕ) → c ≢ d → (r : ℕ) → m.untaken d r ≡ v.untaken d r
  -- queues
  pub lanes : (i j : ℕ) → i ≢ j → LaneSound (λ k. targets g w v (Slot i j k)) (w (Tail i j)) (w (QueueHead i j)) (v.sent i j) (v.unsent i j) (v.received j i) (v.untaken j i) → LaneSound (λ k. t' (Slot i j k)) (w (Tail i j)) (w (QueueHead i j)) (v.sent i j) (m.unsent i j) (v.received j i) (m.untaken j i)
  pub self_lanes : (d k : ℕ) → targets g w v (Slot d d k) ≡ 0 → t' (Slot d d k) ≡ 0
  pub no_queue : (d : ℕ) → d < g.clients → NothingWaits g.clients d (m.unsent d) (m.untaken d)
  pub tails : (d r : ℕ) → d < g.clients → r < g.clients → TailSound d r (w (Era d d)) (w (Tail d r)) (m.unsent d r) (at1 v.op c m.op d)
  pub queued : is_loose (v.part c) ≡ false → (s r k : ℕ) → t' (Slot s r k) ≢ 0 → (t' (Slot s r k) ≡ targets g w v (Slot s r k)) ⊎ HasShape (contents_of g.wide (upd w (Head b) to) t') 0 1 (t' (Slot s r k))

-- a kind that puts nothing into a queue keeps the bounds of the tails
pub tails_stay : (g : Geometry) (w : Spot → ℕ) (v : View) (c : ℕ) (o : Op) (unsent : ℕ → ℕ → ℕ) → HeldAt g w v → up_slot o ≡ up_slot (v.op c) → ((d r : ℕ) → unsent d r ≢ 0 → v.unsent d r ≢ 0)
    → (d r : ℕ) → d < g.clients → r < g.clients → TailSound d r (w (Era d d)) (w (Tail d r)) (unsent d r) (at1 v.op c o d)
tails_stay g w v c o unsent h same less d r l m = at1_all (λ (i : ℕ) (y : Op). i < g.clients → TailSound i r (w (Era i i)) (w (Tail i r)) (unsent i r) y) v.op c o d
    (λ lc. let q = h.tails c r lc m in (q.0, λ nz f. q.1 (less c r nz) (λ z. f (same ∙ z))))
    (λ _ ld. let q = h.tails d r ld m in (q.0, λ nz f. q.1 (less d r nz) f)) l

-- ---- the invariant stays

module _ (g : Geometry) (w : Spot → ℕ) (v : View) (c b to : ℕ) (m : Changes v c) (t' : Spot → ℕ) (h : HeldAt g w v) (a : Gives g w v c b to m t') where
  abbrev w' : Spot → ℕ
  w' = upd w (Head b) to

  abbrev v' : View
  v' = exchanged_view v c m

  abbrev heads' : ℕ → Header
  heads' = λ i. header_of (upd w (Head b) to (Head i))

  abbrev t : Spot → ℕ
  t = targets g w v

  over : (d : ℕ) → d < g.clients → c ≢ d → (headers w b).client ≡ d → (headers w b).era ≡ eras w d d → eras w d d ≤ eras w c d
  over d l n cl er = let s : (headers w b).era ≤ eras w c (headers w b).client = a.shows (λ z. n (z ∙ cl)) in subst (λ x. x ≤ eras w c d) er (subst (λ i. (headers w b).era ≤ eras w c i) cl s)

  stay : (i : ℕ) → (headers w i).live ≡ true → (heads' i).live ≡ true
  stay = lives g w v h b to a.live a.counted a.new_live

  reach : (d : ℕ) → c ≢ d → (i : ℕ) → reach_of t (tails w) (queue_heads w) v.looks d i → reach_of t' (tails w) (queue_heads w) m.looks.all d i
  reach d n i (inl x) = inl (a.named d i n x)
  reach d n i (inr x) = inr (subst (λ y. InLooks y i) (sym (m.looks.other d n)) x)

  reach_own : (i : ℕ) → reach_of t' (tails w) (queue_heads w) (λ d. m.looks.own) c i → reach_of t' (tails w) (queue_heads w) m.looks.all c i
  reach_own i (inl x) = inl x
  reach_own i (inr x) = inr (subst (λ y. InLooks y i) (sym m.looks.here) x)

  slot_now : (d : ℕ) (reach : ℕ → Type 0) (p : Spot) → ((i : ℕ) → reach i → reach_of t' (tails w) (queue_heads w) m.looks.all d i) → SlotOf g.wide d (headers w) (tags w) (v.latch d) (tails w) (queue_heads w) reach p → SlotOf g.wide d heads' (tags w) (v.latch d) (tails w) (queue_heads w) (reach_of t' (tails w) (queue_heads w) m.looks.all d) p
  slot_now d reach p more = slot_kept g.wide d (headers w) heads' (tags w) (v.latch d) (tails w) (queue_heads w) reach (reach_of t' (tails w) (queue_heads w) m.looks.all d) p (λ i z. inl (stay i z)) (dying_stays g w v h b to a.live a.counted a.new_live d) more

  -- what another identity knows
  known : (d : ℕ) → c ≢ d → d < g.clients → All (λ (s : Stored). KnownAt g.wide d (tags w) (bodies w) (slot_words w) (tails w) (queue_heads w) (m.untaken d) (v.latch d) (reach_of t' (tails w) (queue_heads w) m.looks.all d) (m.dying.all d) s.spot s.value) (v.known d)
  known d n l = subst (λ u. All (λ (s : Stored). KnownAt g.wide d (tags w) (bodies w) (slot_words w) (tails w) (queue_heads w) u (v.latch d) (reach_of t' (tails w) (queue_heads w) m.looks.all d) (m.dying.all d) s.spot s.value) (v.known d)) (sym (fun_ext (a.untaken d n)))
      (All-weaker _ _ (λ (s : Stored). known_kept g.wide d (tags w) (bodies w) (slot_words w) (tails w) (queue_heads w) (v.untaken d) (v.latch d) (reach_of t (tails w) (queue_heads w) v.looks d) (reach_of t' (tails w) (queue_heads w) m.looks.all d) (v.dying d) (m.dying.all d) s.spot s.value
      (reach d n) (λ i y. subst (λ z. Contains z i) (sym (m.dying.other d n)) y)) (v.known d) (h.known d l))

  loose : (d : ℕ) → is_loose (m.part.all d) ≡ is_loose (v.part d)
  loose d = elim (cases_eq c d) [
    | inl e ↦ subst (λ i. is_loose (m.part.all i) ≡ is_loose (v.part i)) e (ap is_loose m.part.here ∙ a.loose)
    | inr n ↦ ap is_loose (m.part.other d n)
  ]

  pub exchanged_kept : HeldAt g (upd w (Head b) to) (exchanged_view v c m)
  exchanged_kept =
      record {
        fits = h.fits;
        small = small_stored w (Head b) to (2 ^ 64) a.small h.small;
        there = there_stored (IsAt g (classes w)) w (Head b) to (block_is_at g (classes w) b (live_block g w h.there b a.live)) h.there;
        spare = h.spare;
        unused = h.unused;
        sizes = h.sizes;
        mine = mine_other w v.own g.clients (Head b) to (λ d. refl) h.mine;
        state = h.state;
        latch = h.latch;
        segments = h.segments;
        dying = a.dying;
        making = λ d l. making_stays g w v h b to a.live a.counted a.new_live d (v.making d) (h.making d l);
        blocks = blocks_stay g w v h b to a.live a.counted a.new_live;
        era = era_exchange g.clients (λ i. w (Head i)) (eras w) v.op c b to m.op a.inside a.begun a.committed a.client a.era (h.own c a.inside).some over h.era;
        own = λ d. at1_all (λ (i : ℕ) (x : Op). i < g.clients → OwnSound (w (Era i i)) x) v.op c m.op d (λ l. let q = h.own c l in record { some = q.some; room = let r = q.room in let e = a.room in omega arith }) (λ n. h.own d);
        op = λ d. at1_all (λ (i : ℕ) (x : Op). i < g.clients → OpTie g (classes w) (w (Redo i)) (w (RedoMore i)) (w (Era i i)) (words_of g.wide w') x) v.op c m.op d (λ l. a.tie) (λ n. h.op d);
        redo = h.redo;
        allowed = λ d. at1_all (λ (i : ℕ) (x : Op). i < g.clients → Allowed i x) v.op c m.op d (λ l. a.allowed) (λ n. h.allowed d);
        count = subst (λ (t : Spot → ℕ). CountSound g (classes w) heads' t (held_overs v')) (sym a.path) a.count;
        slots = subst (λ (t : Spot → ℕ). (d : ℕ) → d < g.clients → is_op (v'.op d) ≡ true → SlotOf g.wide d heads' (tags w) (v.latch d) (tails w) (queue_heads w) (reach_of t (tails w) (queue_heads w) m.looks.all d) (slot_of (v'.op d))) (sym a.path)
            (λ d. at1_all (λ (i : ℕ) (x : Op). i < g.clients → is_op x ≡ true → SlotOf g.wide i heads' (tags w) (v.latch i) (tails w) (queue_heads w) (reach_of t' (tails w) (queue_heads w) m.looks.all i) (slot_of x)) v.op c m.op d
            (λ l _. slot_now c (reach_of t' (tails w) (queue_heads w) (λ d. m.looks.own) c) (slot_of m.op) reach_own a.slot)
            (λ n l is. slot_now d (reach_of t (tails w) (queue_heads w) v.looks d) (slot_of (v.op d)) (reach d n) (h.slots d l is)));
        looks = subst (λ (t : Spot → ℕ). (d : ℕ) → d < g.clients → LooksSound (λ i. t (Home i)) (λ i j. t (Body i j)) (λ i. tag_author g.wide (w (Tag i))) (v.latch d) (named_by t (tails w) (queue_heads w) d) [] (m.looks.all d)) (sym a.path)
            (moved_all m.looks g.clients (λ (d : ℕ) (x : List Look). LooksSound (λ i. t' (Home i)) (λ i j. t' (Body i j)) (λ i. tag_author g.wide (w (Tag i))) (v.latch d) (named_by t' (tails w) (queue_heads w) d) [] x) a.inside a.looked a.looks);
        lanes = subst (λ (t : Spot → ℕ). (i j : ℕ) → i < g.clients → j < g.clients → i ≢ j → LaneSound (λ k. t (Slot i j k)) (tails w i j) (queue_heads w i j) (v.sent i j) (m.unsent i j) (v.received j i) (m.untaken j i)) (sym a.path) (λ i j li lj n. a.lanes i j n (h.lanes i j li lj n));
        known = subst (λ (t : Spot → ℕ). (d : ℕ) → d < g.clients → All (λ (s : Stored). KnownAt g.wide d (tags w) (bodies w) (slot_words w) (tails w) (queue_heads w) (m.untaken d) (v.latch d) (reach_of t (tails w) (queue_heads w) m.looks.all d) (m.dying.all d) s.spot s.value) (m.known.all d)) (sym a.path)
            (moved_all m.known g.clients (λ (d : ℕ) (x : List Stored). All (λ (s : Stored). KnownAt g.wide d (tags w) (bodies w) (slot_words w) (tails w) (queue_heads w) (m.untaken d) (v.latch d) (reach_of t' (tails w) (queue_heads w) m.looks.all d) (m.dying.all d) s.spot s.value) x) a.inside
            (All-weaker _ _ (λ s. known_kept g.wide c (tags w) (bodies w) (slot_words w) (tails w) (queue_heads w) (m.untaken c) (v.latch c) (reach_of t' (tails w) (queue_heads w) (λ d. m.looks.own) c) (reach_of t' (tails w) (queue_heads w) m.looks.all c) m.dying.own (m.dying.all c) s.spot s.value
            reach_own (λ i y. subst (λ z. Contains z i) (sym m.dying.here) y)) m.known.own a.knows) known);
        facts = λ d l. All-weaker _ _ (facts_committed g.clients (eras w) (tails w) (queue_heads w) (classes w) v.op c b m.op a.committed) (v.facts d) (h.facts d l);
        zeros = λ d l. All-weaker _ _ (zero_stays g w v h b to a.live a.counted a.new_live d) (v.zeros d) (h.zeros d l);
        test = λ d l. elim (cases_eq c d) [
          | inl x ↦ subst (λ i. TestAt g.clients (eras w) (ons v' i) i (v'.test i)) x (rw (eq-eqb c c refl) tt)
          | inr n ↦ rw (ne_eqb c d n) (h.test d l)
        ];
        fresh = λ d l st. elim (cases_eq c d) [
          | inl x ↦ absurd (a.acts (ap v.status x ∙ st))
          | inr n ↦ (let q = h.fresh d l st in record { words = q.words; idle = at1_other v.op c m.op d n ∙ q.idle; latched = q.latched; looked = m.looks.other d n ∙ q.looked; made = q.made; segments = q.segments; dyings = m.dying.other d n ∙ q.dyings; sends = λ r. a.unsent d n r ∙ q.sends r; takes = λ r. a.untaken d n r ∙ q.takes r })
        ];
        gone = λ d l st. elim (cases_eq c d) [
          | inl x ↦ absurd (a.here (ap v.status x ∙ st))
          | inr n ↦ (let q = h.gone d l st in record { roots = q.roots; hold = q.hold; idle = at1_other v.op c m.op d n ∙ q.idle; latched = q.latched; segments = q.segments; dyings = m.dying.other d n ∙ q.dyings; sends = λ r. a.unsent d n r ∙ q.sends r; takes = λ r. a.untaken d n r ∙ q.takes r })
        ];
        self_lanes = subst (λ (t : Spot → ℕ). (d : ℕ) → d < g.clients → IsUnusedLane (tails w d d) (queue_heads w d d) (λ k. t (Slot d d k))) (sym a.path) (λ d l. let q = h.self_lanes d l in (q.0, q.1, λ k. a.self_lanes d k (q.2 k)));
        no_queue = a.no_queue;
        tails = a.tails;
        parts = λ d i l k. loose d ∙ (h.parts d i l k ∙ sym (loose i));
        part = subst (λ (t : Spot → ℕ). (d : ℕ) → d < g.clients → PartTie (contents_of g.wide w' t) d (t (Home d)) (m.part.all d)) (sym a.path)
            (moved_all m.part g.clients (λ (d : ℕ) (x : Part). PartTie (contents_of g.wide w' t') d (t' (Home d)) x) a.inside
            (part_kept (contents_of g.wide w t') (contents_of g.wide w' t') (λ _. Unit {0}) c same (λ _ _. tt) (t' (Home c)) m.part.own tt a.parted) a.parts);
        queued = subst (λ (t : Spot → ℕ). (d : ℕ) → d < g.clients → is_loose (m.part.all d) ≡ false → (s r k : ℕ) → t (Slot s r k) ≢ 0 → HasShape (contents_of g.wide w' t) 0 1 (t (Slot s r k))) (sym a.path)
            (λ d l f. queued_kept g w v h d heads' (λ i j. t' (Body i j)) (bodies w) t' l (λ i _. stay i) (a.queued (h.parts c d a.inside l ∙ (sym (loose d) ∙ f))) (sym (loose d) ∙ f));
        values = subst (λ (t : Spot → ℕ). (d : ℕ) → d < g.clients → All (ValueAt (contents_of g.wide w' t) (reach_of t (tails w) (queue_heads w) m.looks.all d)) (m.values.all d)) (sym a.path)
            (moved_all m.values g.clients (λ (d : ℕ) (x : List ℕ). All (ValueAt (contents_of g.wide w' t') (reach_of t' (tails w) (queue_heads w) m.looks.all d)) x) a.inside
            (All-weaker (ValueAt (contents_of g.wide w t') (reach_of t' (tails w) (queue_heads w) (λ d. m.looks.own) c)) (ValueAt (contents_of g.wide w' t') (reach_of t' (tails w) (queue_heads w) m.looks.all c)) (λ i x. (record { live = stay i x.0.live; names = x.0.names; words = x.0.words }, reach_own i x.1)) m.values.own a.valued)
            (λ d n l. values_kept g w v h d heads' (λ i j. t' (Body i j)) (bodies w) (reach_of t' (tails w) (queue_heads w) m.looks.all d) l (λ i _. stay i) (reach d n)));
        made = subst (λ (t : Spot → ℕ). (d : ℕ) → d < g.clients → All (MadeAt heads' (λ k. t (Root d k))) (m.made.all d)) (sym a.path)
            (moved_all m.made g.clients (λ (d : ℕ) (x : List ℕ). All (MadeAt heads' (λ k. t' (Root d k))) x) a.inside a.made a.others_made);
      }
    where
      -- the part of c reads what the new targets say
      same : PartKept (contents_of g.wide w t') (contents_of g.wide w' t') (λ _. Unit {0}) c
      same = record { format = refl; live = λ i _ l. stay i l; tag = λ _ _ _. refl; refs = λ _ _ _ _ _ _. refl; body = λ _ _ _ _ _. refl }
