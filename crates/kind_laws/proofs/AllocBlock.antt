-- the exchange that makes a free block live keeps the invariant, and is one event
use Rattle.std.proofs.Math.Path.{fun_ext}
use Rattle.std.proofs.Common.{◌≡◌, ◌≢◌, ℕ, ◌+◌, ◌^◌, ◌<◌, ◌≤◌, refl, sym, ap, ◌∙◌, arith, true, false, Bool, cond, eqb, ltb, le-ltb, eq-eqb, subst, inl, inr, ◌⊎◌, ◌&&◌, List, [], ◌∷◌, ◌++◌, Option, Some, None}
use Rattle.std.proofs.lemmas.List.Elements.{All-cons, All-weaker, All-contains, All-append}
use Rattle.std.proofs.lemmas.Bool.{cases_Bool, cases_eq, true≢false, ne_eqb, false_from_ne_true, cond-true}
use Rattle.std.specs.List.{All, Contains, filter}
use Rattle.shm_words.specs.{declared.{geometry.Geometry.Geometry, header.Header.Header}, Headers.header_of}
use Rattle.shm_words.specs.Tags.{tag_refs, tag_author, tag_link, tag_shape, shape_author}
use Rattle.shm_words.specs.declared.redo.Redo.TheVariants as redos
use Rattle.shm_words.proofs.Words.{header_of_zero}
use Rattle.shm_graph.specs.declared.spot.Spot.{Spot}
use Rattle.shm_graph.specs.declared.spot.Spot.TheVariants.{Redo, RedoMore, Home, Era, Root, Tail, QueueHead, Slot, Segment, Page, Head, Tag, Body}
use Rattle.shm_graph.specs.declared.memo.{First.TheVariants.{Begun, Committed}, Op.{Op, TheVariants.Alloc}}
use Rattle.shm_graph.specs.declared.memo.{Making.Making, Stored.Stored}
use Rattle.shm_graph.specs.Spots.{upd, same_spot, IsAt, class_at, segment_of, spot_address}
use Rattle.shm_graph.specs.Blocks.{IsBlock, classes, headers}
use Rattle.shm_graph.specs.Events.{graph_of, with_live, with_target, IsSame, Happens, Alloc as AllocEvent}
use Rattle.shm_graph.specs.References.{one_if, refs_of, words_of}
use Rattle.shm_graph.specs.Ops.{cover, cover_of, covered, slot_of, up_slot, indegree, held_over_of, on_of, is_op}
use Rattle.shm_graph.specs.{Views.{View, at1, targets, ons, held_overs}, Tables.{contents_of, HasShape}}
use Rattle.shm_graph.specs.Held.{HeldAt, CountSound, SlotOf, reach_of, named_by, TagSound, MakingTie, MakingSound, InBlock, ZeroAt, TestAt, KnownAt, LooksSound, LaneSound, IsDying, OwnSound, OpTie, OpSound, Allowed, TailSound, room_of, IsUnusedLane, PartTie, ValueAt, MadeAt, is_loose}
use Rattle.shm_graph.specs.MemoAfterStore.{other_than}
use Rattle.shm_graph.specs.declared.memo.Status.TheVariants as status
use Rattle.shm_graph.proofs.Spots.Spotting.{same_spot_is, same_spot_self, block_is_at, in_pool}
use Rattle.shm_graph.proofs.{States.{Holders.InReach, Counting.covered_none}, Runs.Lists.{at1_here, at1_other}}
use Rattle.shm_graph.proofs.Memos.Frames.{at1_all}
use Rattle.kind_laws.proofs.{Owns.{mine_other, small_stored, there_stored}, Sum.{refs_target, commit_target}}
use Rattle.kind_laws.proofs.{Lists.All-kept, Keep.{era_of_zero, count_of_zero}}
use Rattle.kind_laws.proofs.ExchangeFields.{era_exchange, facts_committed, count_free, count_exchange, named_kept, slot_kept, looks_kept, known_kept, apart}
use Rattle.kind_laws.proofs.References.{live_some, part_lives, queued_kept, values_kept, made_some, made_kept}
use Rattle.kind_laws.proofs.Readings.{bodies, head_words, queue_heads, segments, slot_words, tags, tails}
use Rattle.kind_laws.specs.HeaderExchanges.{AllocNeeds, alloc_view}

module _ (g : Geometry) (w : Spot → ℕ) (v : View) (c k b e to tag : ℕ) (m : Making) (h : HeldAt g w v) (a : AllocNeeds g w v c k b e to tag m) where
  m_at : MakingSound g (classes w) (λ i. w (Segment i)) (λ i. w (Head i)) (λ i. w (Tag i)) (λ i j. w (Body i j)) c m
  m_at = let q : MakingTie g (classes w) (λ i. w (Segment i)) (λ i. w (Head i)) (λ i. w (Tag i)) (λ i j. w (Body i j)) c (Some m) = subst (MakingTie g (classes w) (λ i. w (Segment i)) (λ i. w (Head i)) (λ i. w (Tag i)) (λ i j. w (Body i j)) c) a.making (h.making c a.inside) in q

  block : IsBlock g (classes w) b
  block = subst (IsBlock g (classes w)) a.block m_at.block

  free : w (Head b) ≡ 0
  free = ap (λ i. w (Head i)) (sym a.block) ∙ m_at.free

  dead : (headers w b).live ≡ false
  dead = ap (λ x. (header_of x).live) free ∙ header_of_zero

  not_live : (headers w b).live ≡ true → ⊥
  not_live l = true≢false (sym l ∙ dead)

  new_live : (header_of to).live ≡ true
  new_live = ap (λ (x : Header). x.live) a.new

  b_not_zero : b ≢ 0
  b_not_zero z = let q = in_pool g (classes w) b (Head b) block (λ y. cc) in absurd (omega arith)

  -- nothing names a free block
  unnamed : indegree g (classes w) (targets g w v) (held_overs v) b ≡ 0
  unnamed = count_free g (classes w) (headers w) (targets g w v) (held_overs v) b h.count b_not_zero dead

  op_sound : OpSound g (classes w) (w (Redo c)) (w (RedoMore c)) (w (Era c c)) (w (Root c k)) (Root c k) (redos.Up (spot_address g (Root c k)) b) e 0
  op_sound = let q : OpTie g (classes w) (w (Redo c)) (w (RedoMore c)) (w (Era c c)) (words_of g.wide w) (Alloc Begun (Root c k) b e) = subst (OpTie g (classes w) (w (Redo c)) (w (RedoMore c)) (w (Era c c)) (words_of g.wide w)) a.op (h.op c a.inside) in q

  tag_word : w (Tag b) ≡ tag
  tag_word = (All-contains (λ (s : Stored). InBlock (λ i. w (Tag i)) (λ i j. w (Body i j)) m.block m.class s.spot s.value) m.words (record { spot = Tag b; value = tag }) m_at.stored a.tagged).1

  zero_word : (i : ℕ) → i < tag_refs g.wide tag → w (Body b i) ≡ 0
  zero_word i l = (All-contains (λ (s : Stored). InBlock (λ i. w (Tag i)) (λ i j. w (Body i j)) m.block m.class s.spot s.value) m.words (record { spot = Body b i; value = 0 }) m_at.stored (a.zeros i l)).2

  covers_root : (d : ℕ) → d < g.clients → (y : ℕ) → cover (cover_of (v.op d)) (Root c k) y ≡ y
  covers_root d l y = elim (cases_eq c d) [
    | inl x ↦ subst (λ i. cover (cover_of (v.op i)) (Root c k) y ≡ y) x (ap (λ z. cover (cover_of z) (Root c k) y) a.op)
    | inr n ↦ apart g.wide d (headers w) (λ i. w (Tag i)) (v.latch d) (λ i j. w (Tail i j)) (λ i j. w (QueueHead i j)) (InReach w g v d) (v.op d) (Root c k) (h.slots d l) (λ x. n x) y
  ]

  covers_body : (i d : ℕ) → d < g.clients → (y : ℕ) → cover (cover_of (v.op d)) (Body b i) y ≡ y
  covers_body i d l y = apart g.wide d (headers w) (λ i. w (Tag i)) (v.latch d) (λ i j. w (Tail i j)) (λ i j. w (QueueHead i j)) (InReach w g v d) (v.op d) (Body b i) (h.slots d l) (λ x. not_live x.0) y

  root_zero : targets g w v (Root c k) ≡ 0
  root_zero = covered_none g.clients (Root c k) (w (Root c k)) (λ d. cover_of (v.op d)) covers_root ∙ op_sound.word

  abbrev refs' : ℕ → ℕ
  refs' = (words_of g.wide (upd w (Head b) to)).refs

  refs_here : (refs' b ≡ (words_of g.wide w).refs b) ⊎ ((i : ℕ) → (i < refs' b) ⊎ (i < (words_of g.wide w).refs b) → covered (λ d. cover_of (v.op d)) g.clients (Body b i) (w (Body b i)) ≡ 0)
  refs_here = inr (λ i u. covered_none g.clients (Body b i) (w (Body b i)) (λ d. cover_of (v.op d)) (covers_body i) ∙ zero_word i (elim u [
    | inl x ↦ subst (λ z. i < z) (ap (λ z. refs_of g.wide (header_of z).live (w (Tag b))) (at1_here (λ i. w (Head i)) b to) ∙ (ap (λ z. refs_of g.wide z (w (Tag b))) new_live ∙ ap (tag_refs g.wide) tag_word)) x
    | inr x ↦ (let z : (words_of g.wide w).refs b ≡ 0 = ap (λ z. refs_of g.wide z (w (Tag b))) dead in absurd (omega arith))
  ]))

  refs_all : (d : ℕ) → (refs' d ≡ (words_of g.wide w).refs d) ⊎ ((i : ℕ) → (i < refs' d) ⊎ (i < (words_of g.wide w).refs d) → covered (λ d. cover_of (v.op d)) g.clients (Body d i) (w (Body d i)) ≡ 0)
  refs_all d = elim (cases_eq b d) [
    | inl x ↦ subst (λ z. (refs' z ≡ (words_of g.wide w).refs z) ⊎ ((i : ℕ) → (i < refs' z) ⊎ (i < (words_of g.wide w).refs z) → covered (λ d. cover_of (v.op d)) g.clients (Body z i) (w (Body z i)) ≡ 0)) x refs_here
    | inr n ↦ inl (ap (λ z. refs_of g.wide (header_of z).live (w (Tag d))) (at1_other (λ i. w (Head i)) b to d n))
  ]

  path : targets g (upd w (Head b) to) (alloc_view v c k b e m) ≡ upd (targets g w v) (Root c k) b
  path = commit_target g.clients (words_of g.wide (upd w (Head b) to)) v.op c (Alloc Committed (Root c k) b e) (Root c k) b a.inside (ap cover_of a.op) refl tt (λ d l _ y. covers_root d l y)
      ∙ ap (λ z. upd z (Root c k) b) (refs_target g.clients (words_of g.wide w) refs' (λ d. cover_of (v.op d)) refs_all)

  held_over : held_overs (alloc_view v c k b e m) ≡ held_overs v
  held_over = fun_ext (λ d. at1_all (λ (i : ℕ) (x : Op). held_over_of x ≡ held_over_of (v.op i)) v.op c (Alloc Committed (Root c k) b e) d (sym (ap held_over_of a.op)) (λ _. refl))

  pub alloc_kept : HeldAt g (upd w (Head b) to) (alloc_view v c k b e m)
  alloc_kept =
      record {
        fits = h.fits;
        small = small_stored w (Head b) to (2 ^ 64) a.small h.small;
        there = there_stored (IsAt g (classes w)) w (Head b) to (block_is_at g (classes w) b block) h.there;
        spare = h.spare;
        unused = h.unused;
        sizes = h.sizes;
        mine = mine_other w v.own g.clients (Head b) to (λ d. refl) h.mine;
        state = h.state;
        latch = h.latch;
        segments = h.segments;
        dying = λ d l. record {
          listed = λ i x. at1_all (λ (j y : ℕ). IsDying (header_of (head_words w j)) d → IsDying (header_of y) d) (head_words w) b to i (λ q. absurd (not_live q.0)) (λ n q. q) ((h.dying d l).listed i x);
          all = λ i x. at1_all (λ (j y : ℕ). IsDying (header_of y) d → Contains (v.dying d) j) (head_words w) b to i (λ q. let z : 1 ≡ 0 = sym (ap (λ (x : Header). x.count) a.new) ∙ q.1 in absurd (omega arith)) (λ n. (h.dying d l).all i) x;
        };
        making = λ d. at1_all (λ (i : ℕ) (x : Option Making). i < g.clients → MakingTie g (classes w) (segments w) word' (tags w) (bodies w) i x) v.making c None d (λ l. tt) (λ n l. making d n (v.making d) (h.making d l));
        blocks = record {
          plain = λ i. at1_all (λ (j x : ℕ). (header_of x).live ≡ false → x ≡ 0) (head_words w) b to i (λ dead. absurd (true≢false (sym new_live ∙ dead))) (λ n. h.blocks.plain i);
          tagged = λ i. at1_all (λ (j x : ℕ). (header_of x).live ≡ true → TagSound g.wide g.clients (class_at g (classes w) j) (w (Tag j))) (head_words w) b to i (λ l. tag_sound) (λ n. h.blocks.tagged i);
          link = λ i. at1_all (λ (j x : ℕ). (header_of x).live ≡ true → (header_of x).count ≢ 0 → tag_link g.wide (w (Tag j)) ≡ 0) (head_words w) b to i (λ l z. ap (tag_link g.wide) tag_word ∙ a.link) (λ n. h.blocks.link i);
        };
        era = era_exchange g.clients (head_words w) (λ i j. w (Era i j)) v.op c b to o a.inside (ap on_of a.op) refl (ap (λ (x : Header). x.client) a.new) (ap (λ (x : Header). x.era) a.new ∙ op_sound.current) (h.own c a.inside).some
            (λ d l n cl er. let z : (header_of (head_words w b)).era ≡ 0 = ap (λ x. (header_of x).era) free ∙ zero_era in let s = (h.own d l).some in absurd (omega arith)) h.era;
        own = λ d. at1_all (λ (i : ℕ) (x : Op). i < g.clients → OwnSound (w (Era i i)) x) v.op c o d (λ l. let q = h.own c l in record { some = q.some; room = subst (λ x. w (Era c c) + room_of x ≤ 2 ^ 47) a.op q.room }) (λ n. h.own d);
        op = λ d. at1_all (λ (i : ℕ) (x : Op). i < g.clients → OpTie g (classes w) (w (Redo i)) (w (RedoMore i)) (w (Era i i)) (words_of g.wide w') x) v.op c o d
            (λ l. record { spelled = op_sound.spelled; blocks = op_sound.blocks; current = op_sound.current; at = op_sound.at; word = op_sound.word })
            (λ n. h.op d);
        redo = h.redo;
        allowed = λ d. at1_all (λ (i : ℕ) (x : Op). i < g.clients → Allowed i x) v.op c o d (λ l. refl) (λ n. h.allowed d);
        count = subst (λ (t : Spot → ℕ). CountSound g (classes w) (λ i. header_of (word' i)) t (held_overs v')) (sym path)
            (subst (λ (l : ℕ → ℕ). CountSound g (classes w) (λ i. header_of (word' i)) t' l) (sym held_over)
            (count_exchange g (classes w) (head_words w) t (held_overs v) (Root c k) b to b op_sound.at (λ z. cc) live_not_zero new_live balance others (λ _. refl) h.count));
        slots = subst (λ (t : Spot → ℕ). (d : ℕ) → d < g.clients → is_op (v'.op d) ≡ true → SlotOf g.wide d (λ i. header_of (word' i)) (tags w) (v.latch d) (tails w) (queue_heads w) (reach_of t (tails w) (queue_heads w) v.looks d) (slot_of (v'.op d))) (sym path)
            (λ d. at1_all (λ (i : ℕ) (x : Op). i < g.clients → is_op x ≡ true → SlotOf g.wide i (λ j. header_of (word' j)) (tags w) (v.latch i) (tails w) (queue_heads w) (reach_of t' (tails w) (queue_heads w) v.looks i) (slot_of x)) v.op c o d
            (λ l is. refl)
            (λ n l is. slot_kept g.wide d (λ i. header_of (head_words w i)) (λ i. header_of (word' i)) (tags w) (v.latch d) (tails w) (queue_heads w) (reach_of t (tails w) (queue_heads w) v.looks d) (reach_of t' (tails w) (queue_heads w) v.looks d) (slot_of (v.op d)) (λ i q. inl (lives i q)) (dying_kept d) (reach d) (h.slots d l is)));
        looks = subst (λ (t : Spot → ℕ). (d : ℕ) → d < g.clients → LooksSound (λ a. t (Home a)) (λ b i. t (Body b i)) (λ b. tag_author g.wide (w (Tag b))) (v.latch d) (named_by t (tails w) (queue_heads w) d) [] (v.looks d)) (sym path)
            (λ d l. looks_kept (λ a. t (Home a)) (λ a. t (Home a)) (λ b i. t (Body b i)) (λ b i. t (Body b i)) (λ b. tag_author g.wide (w (Tag b))) (v.latch d) (named_by t (tails w) (queue_heads w) d) (named_by t' (tails w) (queue_heads w) d) (λ _ _ _ x. x) (λ _ _ _ _ x. x) (named d) [] (v.looks d) (h.looks d l));
        lanes = subst (λ (t : Spot → ℕ). (i j : ℕ) → i < g.clients → j < g.clients → i ≢ j → LaneSound (λ k. t (Slot i j k)) (tails w i j) (queue_heads w i j) (v.sent i j) (v.unsent i j) (v.received j i) (v.untaken j i)) (sym path) h.lanes;
        known = subst (λ (t : Spot → ℕ). (d : ℕ) → d < g.clients → All (λ (s : Stored). KnownAt g.wide d (tags w) (bodies w) (slot_words w) (tails w) (queue_heads w) (v.untaken d) (v.latch d) (reach_of t (tails w) (queue_heads w) v.looks d) (v.dying d) s.spot s.value) (v'.known d)) (sym path)
            (λ d. at1_all (λ (i : ℕ) (x : List Stored). i < g.clients → All (Known i) x) v.known c (m.words ++ v.known c) d
            (λ l. All-append (Known c) m.words (v.known c) (All-weaker _ (Known c) (λ s. made s.spot s.value) m.words m_at.stored) (All-weaker _ (Known c) (λ s. old c s.spot s.value) (v.known c) (h.known c l)))
            (λ n l. All-weaker _ (Known d) (λ s. old d s.spot s.value) (v.known d) (h.known d l)));
        facts = λ d l. All-weaker _ _ (facts_committed g.clients (λ i j. w (Era i j)) (tails w) (queue_heads w) (classes w) v.op c b o refl) (v.facts d) (h.facts d l);
        zeros = λ d. at1_all (λ (i : ℕ) (x : List Spot). i < g.clients → All (ZeroAt g (classes w) (segments w) word' i) x) v.zeros c (filter (other_than (Head b)) (v.zeros c)) d
            (λ l. All-kept _ _ (other_than (Head b)) zero_own (v.zeros c) (h.zeros c l))
            (λ n l. All-weaker _ _ (zero_other d n) (v.zeros d) (h.zeros d l));
        test = λ d l. elim (cases_eq c d) [
          | inl x ↦ subst (λ i. TestAt g.clients (λ i j. w (Era i j)) (ons v' i) i (v'.test i)) x (rw (eq-eqb c c refl) tt)
          | inr n ↦ rw (ne_eqb c d n) (h.test d l)
        ];
        fresh = λ d l st. elim (cases_eq c d) [
          | inl x ↦ (let z : status.Live ≡ status.New = sym a.acts ∙ (ap v.status x ∙ st) in cc)
          | inr n ↦ rw (ne_eqb c d n) (h.fresh d l st)
        ];
        gone = λ d l st. elim (cases_eq c d) [
          | inl x ↦ (let z : status.Live ≡ status.Gone = sym a.acts ∙ (ap v.status x ∙ st) in cc)
          | inr n ↦ rw (ne_eqb c d n) (h.gone d l st)
        ];
        self_lanes = subst (λ (t : Spot → ℕ). (d : ℕ) → d < g.clients → IsUnusedLane (tails w d d) (queue_heads w d d) (λ k. t (Slot d d k))) (sym path) h.self_lanes;
        no_queue = h.no_queue;
        tails = λ d r l lr. at1_all (λ (i : ℕ) (x : Op). i < g.clients → TailSound i r (w (Era i i)) (tails w i r) (v.unsent i r) x) v.op c o d
            (λ lc. let q = h.tails c r lc lr in (q.0, λ nz f. q.1 nz (λ z. f (sym (ap up_slot a.op) ∙ z)))) (λ _ ld. h.tails d r ld lr) l;
        parts = h.parts;
        part = subst (λ (t : Spot → ℕ). (d : ℕ) → d < g.clients → PartTie (contents_of g.wide w' t) d (t (Home d)) (v.part d)) (sym path) (λ d l. part_lives g w v h d heads' t' l (λ i _. lives i) (λ _ _ _ _. refl) refl);
        queued = subst (λ (t : Spot → ℕ). (d : ℕ) → d < g.clients → is_loose (v.part d) ≡ false → (s r j : ℕ) → t (Slot s r j) ≢ 0 → HasShape (contents_of g.wide w' t) 0 1 (t (Slot s r j))) (sym path)
            (λ d l. queued_kept g w v h d heads' (λ i j. t' (Body i j)) (bodies w) t' l (λ i _. lives i) (λ s r j n. inl refl));
        values = subst (λ (t : Spot → ℕ). (d : ℕ) → d < g.clients → All (ValueAt (contents_of g.wide w' t) (reach_of t (tails w) (queue_heads w) v.looks d)) (v.values d)) (sym path)
            (λ d l. values_kept g w v h d heads' (λ i j. t' (Body i j)) (bodies w) (reach_of t' (tails w) (queue_heads w) v.looks d) l (λ i _. lives i) (reach d));
        made = subst (λ (t : Spot → ℕ). (d : ℕ) → d < g.clients → All (MadeAt heads' (λ j. t (Root d j))) (v'.made d)) (sym path)
            (λ d. at1_all (λ (i : ℕ) (x : List ℕ). i < g.clients → All (MadeAt heads' (λ j. t' (Root i j))) x) v.made c (b ∷ v.made c) d
            (λ l. All-cons (MadeAt heads' (λ j. t' (Root c j))) b (v.made c) (ap (λ x. (header_of x).count) (at1_here (head_words w) b to) ∙ ap (λ (x : Header). x.count) a.new, (k, cond-true (same_spot (Root c k) (Root c k)) b (t (Root c k)) (same_spot_self (Root c k)))) (others_made c l))
            (λ _. others_made d));
      }
    where
      w' : Spot → ℕ
      w' = upd w (Head b) to

      v' : View
      v' = alloc_view v c k b e m

      o : Op
      o = Alloc Committed (Root c k) b e

      word' : ℕ → ℕ
      word' = λ i. upd w (Head b) to (Head i)

      heads' : ℕ → Header
      heads' = λ i. header_of (word' i)

      t : Spot → ℕ
      t = targets g w v

      t' : Spot → ℕ
      t' = upd t (Root c k) b

      zero_era : (header_of 0).era ≡ 0
      zero_era = era_of_zero

      tag_sound : TagSound g.wide g.clients (class_at g (classes w) b) (w (Tag b))
      tag_sound = subst (TagSound g.wide g.clients (class_at g (classes w) b)) (sym tag_word) (record {
        small = a.small_tag;
        refs = a.refs;
        plain = a.plain;
        author = subst (λ i. i < g.clients) (sym a.author) a.inside;
        fits = a.fits ∙ (sym m_at.sized ∙ ap (class_at g (classes w)) a.block);
      })

      making : (d : ℕ) → c ≢ d → (x : Option Making) → MakingTie g (classes w) (segments w) (head_words w) (tags w) (bodies w) d x → MakingTie g (classes w) (segments w) word' (tags w) (bodies w) d x
      making d n None y = tt
      making d n (Some x) y = record {
        free = at1_other (head_words w) b to x.block (λ z. let q : c + 1 ≡ d + 1 = sym m_at.mine ∙ (ap (λ i. segments w (segment_of g i)) (a.block ∙ z) ∙ y.mine) in n (omega arith)) ∙ y.free;
        block = y.block;
        mine = y.mine;
        sized = y.sized;
        stored = y.stored;
      }

      lives : (i : ℕ) → (header_of (head_words w i)).live ≡ true → (header_of (word' i)).live ≡ true
      lives i = at1_all (λ (j x : ℕ). (header_of (head_words w j)).live ≡ true → (header_of x).live ≡ true) (head_words w) b to i (λ _. new_live) (λ _ q. q)

      dying_kept : (d i : ℕ) → IsDying (header_of (head_words w i)) d → IsDying (header_of (word' i)) d
      dying_kept d i = at1_all (λ (j x : ℕ). IsDying (header_of (head_words w j)) d → IsDying (header_of x) d) (head_words w) b to i (λ q. absurd (not_live q.0)) (λ _ q. q)

      live_not_zero : (i : ℕ) → (header_of (head_words w i)).live ≡ true → i ≢ 0
      live_not_zero i l = live_some g w v h i l

      balance : (header_of to).count + one_if (eqb (t (Root c k)) b) ≡ indegree g (classes w) t (held_overs v) b + one_if (eqb b b)
      balance =
          let x : one_if (eqb (t (Root c k)) b) ≡ 0 = ap one_if (ne_eqb _ b (λ z. b_not_zero (sym z ∙ root_zero))) in
          let y : one_if (eqb b b) ≡ 1 = ap one_if (eq-eqb b b refl) in
          let z : (header_of to).count ≡ 1 = ap (λ (x : Header). x.count) a.new in
          let u = unnamed in
          omega arith

      others : (i : ℕ) → i ≢ 0 → b ≢ i → one_if (eqb (t (Root c k)) i) ≡ one_if (eqb b i)
      others i nz n = ap one_if (ne_eqb _ i (λ z. nz (sym z ∙ root_zero)) ∙ sym (ne_eqb b i n))

      -- a made block is another one, and its root another one
      others_made : (d : ℕ) → d < g.clients → All (MadeAt heads' (λ j. t' (Root d j))) (v.made d)
      others_made d l = made_kept g w v h d b to b (Root c k) l (λ x j one f. (
        λ z. let q : (header_of (head_words w b)).count ≡ 0 = ap (λ y. (header_of y).count) free ∙ count_of_zero in let u : (header_of (head_words w b)).count ≡ 1 = ap (λ i. (header_of (head_words w i)).count) z ∙ one in absurd (omega arith),
        false_from_ne_true _ (λ s. made_some g w v h x one (sym f ∙ (ap t (sym (same_spot_is (Root c k) (Root d j) s)) ∙ root_zero))),
      ))

      named : (d i : ℕ) → named_by t (tails w) (queue_heads w) d i → named_by t' (tails w) (queue_heads w) d i
      named d i = named_kept t t' (tails w) (queue_heads w) d i (λ n l x. root n l x (cases_Bool (eqb c d && eqb k l))) (λ _ x. x) (λ _ _ _ x. x)
        where
          root : i ≢ 0 → (l : ℕ) → t (Root d l) ≡ i → ((eqb c d && eqb k l) ≡ true) ⊎ ((eqb c d && eqb k l) ≡ false) → t' (Root d l) ≡ i
          root n l x (inl q) = absurd (n (sym x ∙ (ap t (sym (same_spot_is (Root c k) (Root d l) q)) ∙ root_zero)))
          root n l x (inr q) = rw q x

      reach : (d i : ℕ) → reach_of t (tails w) (queue_heads w) v.looks d i → reach_of t' (tails w) (queue_heads w) v.looks d i
      reach d i (inl x) = inl (named d i x)
      reach d i (inr x) = inr x

      reach_b : reach_of t' (tails w) (queue_heads w) v.looks c b
      reach_b = inl (b_not_zero, inl (k, cond-true (same_spot (Root c k) (Root c k)) b (t (Root c k)) (same_spot_self (Root c k))))

      Known : ℕ → Stored → Type 0
      Known d s = KnownAt g.wide d (tags w) (bodies w) (slot_words w) (tails w) (queue_heads w) (v.untaken d) (v.latch d) (reach_of t' (tails w) (queue_heads w) v.looks d) (v.dying d) s.spot s.value

      old : (d : ℕ) (p : Spot) (x : ℕ) → KnownAt g.wide d (tags w) (bodies w) (slot_words w) (tails w) (queue_heads w) (v.untaken d) (v.latch d) (reach_of t (tails w) (queue_heads w) v.looks d) (v.dying d) p x → KnownAt g.wide d (tags w) (bodies w) (slot_words w) (tails w) (queue_heads w) (v.untaken d) (v.latch d) (reach_of t' (tails w) (queue_heads w) v.looks d) (v.dying d) p x
      old d p x = known_kept g.wide d (tags w) (bodies w) (slot_words w) (tails w) (queue_heads w) (v.untaken d) (v.latch d) (reach_of t (tails w) (queue_heads w) v.looks d) (reach_of t' (tails w) (queue_heads w) v.looks d) (v.dying d) (v.dying d) p x (reach d) (λ _ x. x)

      made : (p : Spot) (x : ℕ) → InBlock (tags w) (bodies w) m.block m.class p x → KnownAt g.wide c (tags w) (bodies w) (slot_words w) (tails w) (queue_heads w) (v.untaken c) (v.latch c) (reach_of t' (tails w) (queue_heads w) v.looks c) (v.dying c) p x
      made (Tag d) x y = (y.1, inr (subst (reach_of t' (tails w) (queue_heads w) v.looks c) (sym (y.0 ∙ a.block)) reach_b))
      made (Body d i) x y = (y.2, inr (subst (reach_of t' (tails w) (queue_heads w) v.looks c) (sym (y.0 ∙ a.block)) reach_b, inr (inl (ap (λ i. tag_author g.wide (w (Tag i))) (y.0 ∙ a.block) ∙ (ap (tag_author g.wide) tag_word ∙ a.author)))))
      made _ x y = absurd y

      zero_own : (p : Spot) → other_than (Head b) p ≡ true → ZeroAt g (classes w) (segments w) (head_words w) c p → ZeroAt g (classes w) (segments w) word' c p
      zero_own (Page i j) q z = z
      zero_own (Head i) q z = elim (cases_eq b i) [
        | inl x ↦ (let u : eqb b i ≡ true = eq-eqb b i x in let y : false ≡ true = rw u at q in cc)
        | inr n ↦ (at1_other (head_words w) b to i n ∙ z.0, z.1, z.2)
      ]
      zero_own _ q z = absurd z

      zero_other : (d : ℕ) → c ≢ d → (p : Spot) → ZeroAt g (classes w) (segments w) (head_words w) d p → ZeroAt g (classes w) (segments w) word' d p
      zero_other d n (Page i j) z = z
      zero_other d n (Head i) z = (at1_other (head_words w) b to i (λ x. let q : c + 1 ≡ d + 1 = sym m_at.mine ∙ (ap (λ i. segments w (segment_of g i)) (a.block ∙ x) ∙ z.2) in n (omega arith)) ∙ z.0, z.1, z.2)
      zero_other d n _ z = absurd z

  -- and it is one event: the block is live with the tag that was stored, the root names it, and its words name nothing
  pub alloc_event : Happens g w (AllocEvent c k b) (graph_of g w v) (graph_of g (upd w (Head b) to) (alloc_view v c k b e m))
  alloc_event = ((block, free), unnamed, root_zero, (tag_shape g.wide (w (Tag b)), author, graph), empty)
    where
      lives : ℕ → Bool
      lives = λ i. (headers w i).live

      shape : Bool → ℕ → ℕ
      shape l i = cond l (tag_shape g.wide (w (Tag i))) 0

      shapes : ℕ → ℕ
      shapes = λ i. shape (headers w i).live i

      author : shape_author (tag_shape g.wide (w (Tag b))) ≡ c
      author = ap (tag_author g.wide) tag_word ∙ a.author

      graph : IsSame (with_target (with_live (graph_of g w v) b true (tag_shape g.wide (w (Tag b)))) (Root c k) b) (graph_of g (upd w (Head b) to) (alloc_view v c k b e m))
      graph =
          record {
            lives = λ i. at1_all (λ (j x : ℕ). (header_of x).live ≡ at1 lives b true j) (λ i. w (Head i)) b to i (new_live ∙ sym (at1_here lives b true)) (λ n. sym (at1_other lives b true i n));
            shapes = λ i. at1_all (λ (j x : ℕ). shape (header_of x).live j ≡ at1 shapes b (tag_shape g.wide (w (Tag b))) j) (λ i. w (Head i)) b to i
                (ap (λ l. shape l b) new_live ∙ sym (at1_here shapes b (tag_shape g.wide (w (Tag b))))) (λ n. sym (at1_other shapes b (tag_shape g.wide (w (Tag b))) i n));
            targets = λ q. ap (λ f. f q) path;
            held_overs = λ d. ap (λ f. f d) held_over;
          }

      -- a free block has no words that name
      empty : (i : ℕ) → targets g (upd w (Head b) to) (alloc_view v c k b e m) (Body b i) ≡ 0
      empty i = ap (λ f. f (Body b i)) path ∙ ap (λ l. cond (ltb i (refs_of g.wide l (w (Tag b)))) (covered (λ d. cover_of (v.op d)) g.clients (Body b i) (w (Body b i))) 0) dead
          ∙ rw (le-ltb i 0 (omega arith)) refl
