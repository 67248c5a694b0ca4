-- the store that frees a dying block keeps the invariant, and is one event
use Rattle.std.proofs.Common.{◌≡◌, ◌≢◌, ℕ, ◌^◌, ◌<◌, ◌≤◌, refl, sym, ap, ◌∙◌, arith, true, false, not, cond, eqb, eq-eqb, ltb, lt-ltb, subst, inl, inr, ◌⊎◌, List, [], lit<, Option, Some, None}
use Rattle.std.proofs.lemmas.List.Elements.{All-weaker, All-contains}
use Rattle.std.proofs.lemmas.Bool.{cases_Bool, cases_eq, true≢false, ne_eqb, cond-true}
use Rattle.std.specs.List.{All, Contains, filter}
use Rattle.shm_words.specs.{declared.{header.Header.Header, geometry.Geometry.Geometry}, Headers.header_of}
use Rattle.shm_words.specs.Tags.{tag_refs, tag_author, tag_link, tag_shape}
use Rattle.shm_words.proofs.Words.{header_of_zero}
use Rattle.shm_graph.specs.Held.{Shown, HeldAt, CountSound, SlotOf, reach_of, named_by, TagSound, MakingTie, ZeroAt, TestAt, KnownAt, LooksSound, LaneSound, Committing, IsDying, IsUnusedLane, PartTie, ValueAt, MadeAt, is_loose}
use Rattle.shm_graph.specs.declared.spot.Spot.{Spot, TheVariants.{Spare, Home, Root, Slot, Page, Head, Tag, Body}}
use Rattle.shm_graph.specs.{declared.memo.{Making.Making, Stored.Stored, Test.Test}, References.{words_of, refs_of}}
use Rattle.shm_graph.specs.{Spots.{upd, IsAt, class_at}, Views.{View, at1, targets, ons, held_overs}}
use Rattle.shm_graph.specs.{Blocks.{headers, classes}, Events.{Free, graph_of, Happens}}
use Rattle.shm_graph.specs.Ops.{cover, cover_of, covered, slot_of, indegree, on_of, is_op}
use Rattle.shm_graph.specs.{MemoAfterStore.{not_block, not_of, is_of}, Tables.{contents_of, HasShape}}
use Rattle.shm_graph.proofs.{Memos.Frames.at1_all, Runs.Lists.{at1_here, at1_other, at1_part}}
use Rattle.shm_graph.proofs.Spots.Spotting.{block_is_at}
use Rattle.shm_graph.proofs.States.Holders.{held_live_not_zero, held_over_counted, reach_counted, target_counted}
use Rattle.shm_graph.proofs.States.Counting.{covered_none, cover_idle}
use Rattle.kind_laws.specs.Preparing.{FreeNeeds, free_view}
use Rattle.kind_laws.proofs.{Owns.{mine_other, small_stored, there_stored}, Sum.refs_target, Keep.{live_block, others}}
use Rattle.kind_laws.proofs.Lists.{All-kept, Contains-filter, filter_from}
use Rattle.kind_laws.proofs.References.{IsNamed, part_lives, values_kept, made_kept, queued_kept}
use Rattle.kind_laws.proofs.ExchangeFields.{slot_kept, known_kept, apart}
use Rattle.kind_laws.proofs.Readings.{eras, segments, bodies, head_words, queue_heads, slot_words, tags, tails}

module _ (g : Geometry) (w : Spot → ℕ) (v : View) (c b tag : ℕ) (h : HeldAt g w v) (a : FreeNeeds g v c b tag) where
  abbrev w' : Spot → ℕ
  w' = upd w (Head b) 0

  abbrev v' : View
  v' = free_view v c b

  abbrev t : Spot → ℕ
  t = targets g w v

  dying : IsDying (header_of (head_words w b)) c
  dying = (h.dying c a.inside).listed b a.dying

  no_reach : (d : ℕ) → d < g.clients → reach_of t (tails w) (queue_heads w) v.looks d b → ⊥
  no_reach d l x = (reach_counted g w v h d b l x).1 dying.1

  other : (d : ℕ) → is_op (v.op d) ≡ true → c ≢ d
  other d is x = let z : is_op (v.op d) ≡ false = ap (λ i. is_op (v.op i)) (sym x) ∙ ap is_op a.op in true≢false (sym is ∙ z)

  abbrev Old : ℕ → Stored → Type 0
  Old d s = KnownAt g.wide d (tags w) (bodies w) (slot_words w) (tails w) (queue_heads w) (v.untaken d) (v.latch d) (reach_of t (tails w) (queue_heads w) v.looks d) (v.dying d) s.spot s.value

  tag_word : w (Tag b) ≡ tag
  tag_word = (All-contains (Old c) (v.known c) (record { spot = Tag b; value = tag }) (h.known c a.inside) a.tagged).0

  zero_word : (i : ℕ) → i < tag_refs g.wide tag → w (Body b i) ≡ 0
  zero_word i l = (All-contains (Old c) (v.known c) (record { spot = Body b i; value = 0 }) (h.known c a.inside) (a.zeros i l)).0

  covers_body : (i d : ℕ) → d < g.clients → (y : ℕ) → cover (cover_of (v.op d)) (Body b i) y ≡ y
  covers_body i d l y = elim (cases_Bool (is_op (v.op d))) [
    | inr n ↦ cover_idle (v.op d) (Body b i) n y
    | inl is ↦ apart g.wide d (λ i. header_of (head_words w i)) (tags w) (v.latch d) (tails w) (queue_heads w) (reach_of t (tails w) (queue_heads w) v.looks d) (v.op d) (Body b i) (h.slots d l) (λ x. elim x.2 [ inl u ↦ other d is (sym dying.2 ∙ u.1) | inr u ↦ no_reach d l u.2 ]) y
  ]

  -- its reference words name nothing
  word_empty : (i : ℕ) → i < tag_refs g.wide (w (Tag b)) → covered (λ d. cover_of (v.op d)) g.clients (Body b i) (w (Body b i)) ≡ 0
  word_empty i l = covered_none g.clients (Body b i) (w (Body b i)) (λ d. cover_of (v.op d)) (covers_body i) ∙ zero_word i (subst (λ z. i < tag_refs g.wide z) tag_word l)

  abbrev refs' : ℕ → ℕ
  refs' = λ i. refs_of g.wide (header_of (upd w (Head b) 0 (Head i))).live (w (Tag i))

  refs_here : (refs' b ≡ (words_of g.wide w).refs b) ⊎ ((i : ℕ) → (i < refs' b) ⊎ (i < (words_of g.wide w).refs b) → covered (λ d. cover_of (v.op d)) g.clients (Body b i) (w (Body b i)) ≡ 0)
  refs_here = inr (λ i u. word_empty i (elim u [
    | inl x ↦ (let z : refs' b ≡ 0 = ap (λ z. refs_of g.wide (header_of z).live (w (Tag b))) (at1_here (head_words w) b 0) ∙ ap (λ z. refs_of g.wide z (w (Tag b))) header_of_zero in absurd (omega arith))
    | inr x ↦ subst (λ z. i < z) (ap (λ z. refs_of g.wide z (w (Tag b))) dying.0) x
  ]))

  refs_all : (d : ℕ) → (refs' d ≡ (words_of g.wide w).refs d) ⊎ ((i : ℕ) → (i < refs' d) ⊎ (i < (words_of g.wide w).refs d) → covered (λ d. cover_of (v.op d)) g.clients (Body d i) (w (Body d i)) ≡ 0)
  refs_all d = elim (cases_eq b d) [
    | inl x ↦ subst (λ z. (refs' z ≡ (words_of g.wide w).refs z) ⊎ ((i : ℕ) → (i < refs' z) ⊎ (i < (words_of g.wide w).refs z) → covered (λ d. cover_of (v.op d)) g.clients (Body z i) (w (Body z i)) ≡ 0)) x refs_here
    | inr n ↦ inl (ap (λ z. refs_of g.wide (header_of z).live (w (Tag d))) (at1_other (head_words w) b 0 d n))
  ]

  path : targets g w' v' ≡ t
  path = refs_target g.clients (words_of g.wide w) refs' (λ d. cover_of (v.op d)) refs_all

  -- the invariant stays
  pub free_kept : HeldAt g (upd w (Head b) 0) (free_view v c b)
  free_kept =
      record {
        fits = h.fits;
        small = small_stored w (Head b) 0 (2 ^ 64) (lit< tt) h.small;
        there = there_stored (IsAt g (classes w)) w (Head b) 0 (block_is_at g (classes w) b (live_block g w h.there b dying.0)) h.there;
        spare = h.spare;
        unused = h.unused;
        sizes = h.sizes;
        mine = mine_other w v.own g.clients (Head b) 0 (λ d. refl) h.mine;
        state = h.state;
        latch = h.latch;
        segments = h.segments;
        dying = λ d l. record {
          listed = λ i. at1_all (λ (j : ℕ) (x : List ℕ). j < g.clients → Contains x i → IsDying (header_of (word' i)) j) v.dying c (filter (not_block b) (v.dying c)) d
              (λ lc x. let q = filter_from (not_block b) (v.dying c) i x in subst (λ z. IsDying (header_of z) c) (sym (at1_other (head_words w) b 0 i (λ z. let u : eqb b i ≡ true = eq-eqb b i z in let y : false ≡ true = rw u at q.1 in cc))) ((h.dying c lc).listed i q.0))
              (λ m ld x. dying_kept d m i ((h.dying d ld).listed i x)) l;
          all = λ i x. at1_all (λ (j : ℕ) (y : List ℕ). j < g.clients → IsDying (header_of (word' i)) j → Contains y i) v.dying c (filter (not_block b) (v.dying c)) d
              (λ lc q. let n = not_b i q.0 in Contains-filter (not_block b) (v.dying c) i ((h.dying c lc).all i (subst (λ z. IsDying (header_of z) c) (at1_other (head_words w) b 0 i n) q)) (let u : eqb b i ≡ false = ne_eqb b i n in rw u refl))
              (λ m ld q. (h.dying d ld).all i (subst (λ z. IsDying (header_of z) d) (at1_other (head_words w) b 0 i (not_b i q.0)) q)) l x;
        };
        making = λ d l. making d (v.making d) (h.making d l);
        blocks = record {
          plain = λ i. at1_all (λ (j x : ℕ). (header_of x).live ≡ false → x ≡ 0) (head_words w) b 0 i (λ _. refl) (λ n. h.blocks.plain i);
          tagged = λ i. at1_all (λ (j x : ℕ). (header_of x).live ≡ true → TagSound g.wide g.clients (class_at g (classes w) j) (w (Tag j))) (head_words w) b 0 i (λ q. absurd (dead q)) (λ n. h.blocks.tagged i);
          link = λ i. at1_all (λ (j x : ℕ). (header_of x).live ≡ true → (header_of x).count ≢ 0 → tag_link g.wide (w (Tag j)) ≡ 0) (head_words w) b 0 i (λ q. absurd (dead q)) (λ n. h.blocks.link i);
        };
        era = record {
          client = λ i. at1_all (λ (j x : ℕ). (header_of x).live ≡ true → (header_of x).client < g.clients) (head_words w) b 0 i (λ q. absurd (dead q)) (λ n. h.era.client i);
          age = λ i. at1_all (λ (j x : ℕ). (header_of x).live ≡ true → 1 ≤ (header_of x).era) (head_words w) b 0 i (λ q. absurd (dead q)) (λ n. h.era.age i);
          header = λ i. at1_all (λ (j x : ℕ). (header_of x).live ≡ true → Committing (eras w) (ons v) (header_of x).client (header_of x).era j) (head_words w) b 0 i (λ q. absurd (dead q)) (λ n. h.era.header i);
          row = h.era.row;
          shown = λ d i l s. shown d i s (h.era.shown d i l s) (cases_eq b i);
        };
        own = h.own;
        op = h.op;
        redo = h.redo;
        allowed = h.allowed;
        count = subst (λ (t : Spot → ℕ). CountSound g (classes w) (λ i. header_of (word' i)) t (held_overs v)) (sym path) (record {
          counts = λ i. at1_all (λ (j x : ℕ). (header_of x).live ≡ true → (header_of x).count ≡ indegree g (classes w) t (held_overs v) j) (head_words w) b 0 i (λ q. absurd (dead q)) (λ n. h.count.counts i);
          targets = λ p n. lives (t p) (λ z. no_target p (sym z)) (h.count.targets p n);
          held_overs = λ d l n. lives (held_overs v d) (λ z. (held_over_counted g w v h d b l b_not_zero (sym z)).1 dying.1) (h.count.held_overs d l n);
        });
        slots = subst (λ (t : Spot → ℕ). (d : ℕ) → d < g.clients → is_op (v.op d) ≡ true → SlotOf g.wide d (λ i. header_of (word' i)) (tags w) (v.latch d) (tails w) (queue_heads w) (reach_of t (tails w) (queue_heads w) v.looks d) (slot_of (v.op d))) (sym path)
            (λ d l is. slot_kept g.wide d (λ i. header_of (head_words w i)) (λ i. header_of (word' i)) (tags w) (v.latch d) (tails w) (queue_heads w) (reach_of t (tails w) (queue_heads w) v.looks d) (reach_of t (tails w) (queue_heads w) v.looks d) (slot_of (v.op d))
            (λ i q. elim (cases_eq b i) [ inl z ↦ inr ((λ u. other d is (sym dying.2 ∙ (ap (λ j. (header_of (head_words w j)).client) z ∙ u.2))), (λ u. no_reach d l (subst (reach_of t (tails w) (queue_heads w) v.looks d) (sym z) u))) | inr n ↦ inl (lives i n q) ])
            (dying_kept d (other d is)) (λ _ x. x) (h.slots d l is));
        looks = subst (λ (t : Spot → ℕ). (d : ℕ) → d < g.clients → LooksSound (λ a. t (Home a)) (λ b i. t (Body b i)) (λ b. tag_author g.wide (w (Tag b))) (v.latch d) (named_by t (tails w) (queue_heads w) d) [] (v.looks d)) (sym path) h.looks;
        lanes = subst (λ (t : Spot → ℕ). (i j : ℕ) → i < g.clients → j < g.clients → i ≢ j → LaneSound (λ k. t (Slot i j k)) (tails w i j) (queue_heads w i j) (v.sent i j) (v.unsent i j) (v.received j i) (v.untaken j i)) (sym path) h.lanes;
        known = subst (λ (t : Spot → ℕ). (d : ℕ) → d < g.clients → All (λ (s : Stored). KnownAt g.wide d (tags w) (bodies w) (slot_words w) (tails w) (queue_heads w) (v.untaken d) (v.latch d) (reach_of t (tails w) (queue_heads w) v.looks d) (v'.dying d) s.spot s.value) (v'.known d)) (sym path)
            (λ d l. elim (cases_eq c d) [
              | inl x ↦ subst (λ i. All (Known i) (v'.known i)) x (subst (All (Known c)) (sym (at1_here v.known c (filter (not_of b) (v.known c)))) (All-kept (Old c) (Known c) (not_of b) (λ s. known_own s.spot s.value) (v.known c) (h.known c a.inside)))
              | inr m ↦ subst (All (Known d)) (sym (at1_other v.known c (filter (not_of b) (v.known c)) d m)) (All-weaker (Old d) (Known d) (λ s. known_kept g.wide d (tags w) (bodies w) (slot_words w) (tails w) (queue_heads w) (v.untaken d) (v.latch d) (reach_of t (tails w) (queue_heads w) v.looks d) (reach_of t (tails w) (queue_heads w) v.looks d) (v.dying d) (v'.dying d) s.spot s.value (λ _ x. x) (λ i y. subst (λ z. Contains z i) (sym (at1_other v.dying c (filter (not_block b) (v.dying c)) d m)) y)) (v.known d) (h.known d l))
            ]);
        facts = h.facts;
        zeros = λ d l. All-weaker _ _ (zero d) (v.zeros d) (h.zeros d l);
        test = λ d. at1_all (λ (i : ℕ) (x : Option Test). i < g.clients → TestAt g.clients (eras w) (ons v i) i x) v.test c None d (λ l. tt) (λ m. h.test d);
        fresh = others _ _ v.status g.clients c h.fresh a.acts (λ d n x. rw (ne_eqb c d n) x);
        gone = others _ _ v.status g.clients c h.gone a.here (λ d n x. rw (ne_eqb c d n) x);
        self_lanes = subst (λ (t : Spot → ℕ). (d : ℕ) → d < g.clients → IsUnusedLane (tails w d d) (queue_heads w d d) (λ k. t (Slot d d k))) (sym path) h.self_lanes;
        no_queue = h.no_queue;
        tails = h.tails;
        parts = h.parts;
        part = subst (λ (t : Spot → ℕ). (d : ℕ) → d < g.clients → PartTie (contents_of g.wide w' t) d (t (Home d)) (v.part d)) (sym path) (λ d l. part_lives g w v h d heads' t l stays (λ _ _ _ _. refl) refl);
        queued = subst (λ (t : Spot → ℕ). (d : ℕ) → d < g.clients → is_loose (v.part d) ≡ false → (s r k : ℕ) → t (Slot s r k) ≢ 0 → HasShape (contents_of g.wide w' t) 0 1 (t (Slot s r k))) (sym path)
            (λ d l. queued_kept g w v h d heads' (λ i j. t (Body i j)) (bodies w) t l stays (λ s r k _. inl refl));
        values = subst (λ (t : Spot → ℕ). (d : ℕ) → d < g.clients → All (ValueAt (contents_of g.wide w' t) (reach_of t (tails w) (queue_heads w) v.looks d)) (v.values d)) (sym path)
            (λ d l. values_kept g w v h d heads' (λ i j. t (Body i j)) (bodies w) (reach_of t (tails w) (queue_heads w) v.looks d) l stays (λ _ x. x));
        made = subst (λ (t : Spot → ℕ). (d : ℕ) → d < g.clients → All (MadeAt heads' (λ k. t (Root d k))) (v.made d)) (sym path) (λ d l. made_kept g w v h d b 0 0 Spare l (λ x k _ e. ((λ z. no_target (Root d k) (e ∙ sym z)), refl)));
      }
    where
      word' : ℕ → ℕ
      word' = λ i. upd w (Head b) 0 (Head i)

      dead : (header_of 0).live ≡ true → ⊥
      dead q = true≢false (sym q ∙ header_of_zero)

      b_not_zero : b ≢ 0
      b_not_zero = held_live_not_zero g w v h b dying.0

      no_target : (p : Spot) → t p ≡ b → ⊥
      no_target p e = (target_counted g w v h p b b_not_zero e).1 dying.1

      not_b : (i : ℕ) → (header_of (word' i)).live ≡ true → b ≢ i
      not_b i q z = dead (ap (λ x. (header_of x).live) (sym (at1_here (head_words w) b 0)) ∙ (ap (λ j. (header_of (word' j)).live) z ∙ q))

      heads' : ℕ → Header
      heads' = λ i. header_of (word' i)

      lives : (i : ℕ) → b ≢ i → (header_of (head_words w i)).live ≡ true → (header_of (word' i)).live ≡ true
      lives i n q = ap (λ x. (header_of x).live) (at1_other (head_words w) b 0 i n) ∙ q

      stays : (i : ℕ) → IsNamed t i → (header_of (head_words w i)).live ≡ true → (heads' i).live ≡ true
      stays i m q = lives i (λ z. no_target m.0 (m.1 ∙ sym z)) q

      dying_kept : (d : ℕ) → c ≢ d → (i : ℕ) → IsDying (header_of (head_words w i)) d → IsDying (header_of (word' i)) d
      dying_kept d m i = at1_all (λ (j x : ℕ). IsDying (header_of (head_words w j)) d → IsDying (header_of x) d) (head_words w) b 0 i (λ q. absurd (m (sym dying.2 ∙ q.2))) (λ _ q. q)

      making : (d : ℕ) (x : Option Making) → MakingTie g (classes w) (segments w) (head_words w) (tags w) (bodies w) d x → MakingTie g (classes w) (segments w) word' (tags w) (bodies w) d x
      making d None y = tt
      making d (Some x) y = record { free = at1_all (λ (j x : ℕ). head_words w j ≡ 0 → x ≡ 0) (head_words w) b 0 x.block (λ _. refl) (λ _ z. z) y.free; block = y.block; mine = y.mine; sized = y.sized; stored = y.stored }

      zero : (d : ℕ) (p : Spot) → ZeroAt g (classes w) (segments w) (head_words w) d p → ZeroAt g (classes w) (segments w) word' d p
      zero d (Page i j) z = z
      zero d (Head i) z = (at1_all (λ (j x : ℕ). head_words w j ≡ 0 → x ≡ 0) (head_words w) b 0 i (λ _. refl) (λ _ z. z) z.0, z.1, z.2)
      zero d _ z = absurd z

      shown : (d i : ℕ) → ons v d ≡ Some i → Shown g.clients (eras w) (header_of (head_words w i)) d → (b ≡ i) ⊎ (b ≡ i → ⊥) → Shown g.clients (eras w) (header_of (word' i)) d
      shown d i s (inr x) q = inr x
      shown d i s (inl x) (inr n) = inl (ap (λ x. (header_of x).client) (at1_other (head_words w) b 0 i n) ∙ x.0, ap (λ x. (header_of x).era) (at1_other (head_words w) b 0 i n) ∙ x.1)
      shown d i s (inl x) (inl z) =
          let q : c ≡ d = sym dying.2 ∙ (ap (λ j. (header_of (head_words w j)).client) z ∙ x.0) in
          let y : None ≡ Some i = sym (ap on_of a.op) ∙ (ap (ons v) q ∙ s) in cc

      Known : ℕ → Stored → Type 0
      Known d s = KnownAt g.wide d (tags w) (bodies w) (slot_words w) (tails w) (queue_heads w) (v.untaken d) (v.latch d) (reach_of t (tails w) (queue_heads w) v.looks d) (v'.dying d) s.spot s.value

      dies : (i : ℕ) → b ≢ i → Contains (v.dying c) i → Contains (v'.dying c) i
      dies i n x = subst (λ z. Contains z i) (sym (at1_here v.dying c (filter (not_block b) (v.dying c)))) (Contains-filter (not_block b) (v.dying c) i x (let u : eqb b i ≡ false = ne_eqb b i n in rw u refl))

      apart_from : (i : ℕ) → not (eqb i b) ≡ true → b ≢ i
      apart_from i q z = let u : eqb i b ≡ true = eq-eqb i b (sym z) in let y : false ≡ true = rw u at q in true≢false (sym y)

      known_own : (p : Spot) (x : ℕ) → not (is_of b p) ≡ true → KnownAt g.wide c (tags w) (bodies w) (slot_words w) (tails w) (queue_heads w) (v.untaken c) (v.latch c) (reach_of t (tails w) (queue_heads w) v.looks c) (v.dying c) p x → KnownAt g.wide c (tags w) (bodies w) (slot_words w) (tails w) (queue_heads w) (v.untaken c) (v.latch c) (reach_of t (tails w) (queue_heads w) v.looks c) (v'.dying c) p x
      known_own (Tag i) x q k = (k.0, elim k.1 [ inl u ↦ inl (dies i (apart_from i q) u) | inr u ↦ inr u ])
      known_own (Body i j) x q k = (k.0, elim k.1 [ inl u ↦ inl (dies i (apart_from i q) u) | inr u ↦ inr u ])
      known_own (Slot i j l) x q k = k
      known_own _ x q k = absurd k

  -- the block is live no longer
  pub free_event : Happens g w (Free c b) (graph_of g w v) (graph_of g (upd w (Head b) 0) (free_view v c b))
  free_event = (
    dying.0,
    dying.1,
    dying.2,
    λ i l. cond-true (ltb i ((words_of g.wide w).refs b)) _ 0 (lt-ltb i _ (subst (λ z. i < z) (sym (ap (λ z. refs_of g.wide z (w (Tag b))) dying.0)) l)) ∙ word_empty i l,
    record {
      lives = λ i. at1_part (λ (x : ℕ). (header_of x).live) (head_words w) b 0 i ∙ ap (λ z. at1 (λ j. (headers w j).live) b z i) header_of_zero;
      shapes = λ i. at1_all (λ (j x : ℕ). cond (header_of x).live (tag_shape g.wide (w (Tag j))) 0 ≡ at1 shape b 0 j) (head_words w) b 0 i
          (ap (λ z. cond z (tag_shape g.wide (w (Tag b))) 0) header_of_zero ∙ sym (at1_here shape b 0)) (λ n. sym (at1_other shape b 0 i n));
      targets = λ q. ap (λ (f : Spot → ℕ). f q) path;
      held_overs = λ _. refl;
    },
  )
    where
      shape : ℕ → ℕ
      shape = λ j. cond (headers w j).live (tag_shape g.wide (w (Tag j))) 0
