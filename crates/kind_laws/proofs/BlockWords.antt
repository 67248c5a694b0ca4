-- other words of blocks keep the invariant and leave the graph, where no live block's words change but the links of dying ones
use Rattle.std.proofs.Math.Path.{fun_ext}
use Rattle.std.proofs.Common.{◌≡◌, ◌≢◌, ℕ, ◌^◌, ◌<◌, ◌≤◌, refl, sym, ap, ◌∙◌, arith, true, false, cond, ltb, ltb-true, subst, inl, inr, ◌⊎◌, List, [], ◌∷◌, Option, Some, None}
use Rattle.std.proofs.lemmas.{List.Elements.All-weaker, Bool.{cases_Bool, ne_eqb, false_from_ne_true}}
use Rattle.std.specs.List.{All, Contains}
use Rattle.shm_words.specs.{declared.geometry.Geometry.Geometry, Headers.header_of, Classes.class_for}
use Rattle.shm_words.specs.Tags.{tag_refs, tag_plain, tag_author, tag_link, tag_shape, tag_limit}
use Rattle.shm_graph.specs.declared.spot.Spot.{Spot}
use Rattle.shm_graph.specs.declared.spot.Spot.TheVariants.{Redo, RedoMore, Home, Era, Root, Slot, Segment, Page, Head, Tag, Body}
use Rattle.shm_graph.specs.{declared.memo.{Making.Making, Stored.Stored, Look.Look, Test.Test}, Spots.{IsAt, class_at}}
use Rattle.shm_graph.specs.{References.{words_of, refs_of}, Ops.{word_at, cover_of, covered, slot_of, is_op}}
use Rattle.shm_graph.specs.Views.{View, at1, owner_is, own_word, targets, held_overs, ons}
use Rattle.shm_graph.specs.{Tables.{contents_of, HasShape}, Events.{Nothing, graph_of, Happens}}
use Rattle.shm_graph.specs.Held.{HeldAt, CountSound, SlotOf, reach_of, named_by, InLooks, LookAt, LooksSound, MakingTie, TagSound, TestAt, KnownAt, LaneSound, IsUnusedLane, PartTie, ValueAt, MadeAt, IsDying, is_loose}
use Rattle.shm_graph.specs.Blocks.{classes, headers}
use Rattle.shm_graph.specs.declared.memo.Status.TheVariants as status
use Rattle.shm_graph.proofs.States.Holders.{InReach, reach_counted, reach_target, target_counted}
use Rattle.shm_graph.proofs.{Memos.Frames.at1_all, Runs.Shapes.{author_above, plain_above, refs_above}}
use Rattle.kind_laws.proofs.{Parts.{PartKept, part_kept}, References.{IsNamed, live_some}, Writing.tie_other}
use Rattle.kind_laws.proofs.{Keep.others, Readings.{bodies, queue_heads, slot_words, tags, tails}}

-- the words with other tags and bodies of blocks
abbrev pub with_blocks : (Spot → ℕ) → (ℕ → ℕ) → (ℕ → ℕ → ℕ) → Spot → ℕ
with_blocks w tag body (Tag d) = tag d
with_blocks w tag body (Body d i) = body d i
with_blocks w tag body p = w p

abbrev pub blocks_view : View → ℕ → Option Making → List Stored → View
blocks_view v c m known =
    record v {
      making = at1 v.making c m;
      known = at1 v.known c known;
      test = at1 v.test c None;
    }

-- what c may change of the words of blocks: a live block keeps its body, and its tag but the link of a dying one of c
pub record BlocksMay (g : Geometry) (w : Spot → ℕ) (c : ℕ) (tag : ℕ → ℕ) (body : ℕ → ℕ → ℕ) : Type 0 where
  pub small_tag : (d : ℕ) → tag d < 2 ^ 64
  pub small_body : (d i : ℕ) → body d i < 2 ^ 64
  pub tag_there : (d : ℕ) → tag d ≢ 0 → IsAt g (λ s q. w (Page s q)) (Tag d)
  pub body_there : (d i : ℕ) → body d i ≢ 0 → IsAt g (λ s q. w (Page s q)) (Body d i)
  pub shape : (d : ℕ) → (header_of (w (Head d))).live ≡ true → tag_shape g.wide (tag d) ≡ tag_shape g.wide (w (Tag d))
  pub size : (d : ℕ) → (header_of (w (Head d))).live ≡ true → tag d < tag_limit g.wide
  pub same : (d : ℕ) → (header_of (w (Head d))).live ≡ true → (IsDying (header_of (w (Head d))) c → ⊥) → tag d ≡ w (Tag d)
  pub inner : (d i : ℕ) → (header_of (w (Head d))).live ≡ true → body d i ≡ w (Body d i)

module _ (g : Geometry) (w : Spot → ℕ) (v : View) (c : ℕ) (tag : ℕ → ℕ) (body : ℕ → ℕ → ℕ) (h : HeldAt g w v) (a : BlocksMay g w c tag body) where
  abbrev t : Spot → ℕ
  t = targets g w v

  refs_kept : (d : ℕ) → (headers w d).live ≡ true → tag_refs g.wide (tag d) ≡ tag_refs g.wide (w (Tag d))
  refs_kept d l = refs_above g.wide (tag d) (w (Tag d)) (a.shape d l)

  author_kept : (d : ℕ) → (headers w d).live ≡ true → tag_author g.wide (tag d) ≡ tag_author g.wide (w (Tag d))
  author_kept d l = author_above g.wide (tag d) (w (Tag d)) (a.shape d l)

  -- a block that a word names keeps its tag
  named_same : (d : ℕ) → IsNamed t d → (headers w d).live ≡ true → tag d ≡ w (Tag d)
  named_same d m l = a.same d l (λ q. (target_counted g w v h m.0 d (live_some g w v h d l) m.1).1 q.1)

  -- nothing is below 0
  none_below : (i : ℕ) → ltb i 0 ≡ false
  none_below i = false_from_ne_true _ (λ e. let q = ltb-true i 0 e in absurd (omega arith))

  -- the targets stay
  pub blocks_targets : (m : Option Making) (known : List Stored) → targets g (with_blocks w tag body) (blocks_view v c m known) ≡ t
  blocks_targets m known = fun_ext go
    where
      covers : Spot → ℕ → ℕ
      covers p y = covered (λ d. cover_of (v.op d)) g.clients p y

      both : (d i : ℕ) (b : _) → (headers w d).live ≡ b → cond (ltb i (refs_of g.wide b (tag d))) (covers (Body d i) (body d i)) 0 ≡ cond (ltb i (refs_of g.wide b (w (Tag d)))) (covers (Body d i) (w (Body d i))) 0
      both d i true e = ap (λ z. cond (ltb i z) (covers (Body d i) (body d i)) 0) (refs_kept d e) ∙ ap (λ z. cond (ltb i (tag_refs g.wide (w (Tag d)))) (covers (Body d i) z) 0) (a.inner d i e)
      both d i false e = ap (λ z. cond z (covers (Body d i) (body d i)) 0) (none_below i) ∙ sym (ap (λ z. cond z (covers (Body d i) (w (Body d i))) 0) (none_below i))

      go : (p : Spot) → targets g (with_blocks w tag body) (blocks_view v c m known) p ≡ t p
      go (Body d i) = both d i (headers w d).live refl
      go _ = refl

  -- a block with a target in its body is live
  live_from : (b i : ℕ) → t (Body b i) ≢ 0 → (headers w b).live ≡ true
  live_from b i n = elim (cases_Bool (headers w b).live) [
    | inl y ↦ y
    | inr y ↦ absurd (n (ap (λ z. cond (ltb i (refs_of g.wide z (w (Tag b)))) (covered (λ d. cover_of (v.op d)) g.clients (Body b i) (w (Body b i))) 0) y ∙ ap (λ z. cond z (covered (λ d. cover_of (v.op d)) g.clients (Body b i) (w (Body b i))) 0) (none_below i)))
  ]

  word_kept : (d : ℕ) (reach : ℕ → Type 0) (latch : Option ℕ) (p : Spot) → SlotOf g.wide d (headers w) (tags w) latch (tails w) (queue_heads w) reach p → word_at (words_of g.wide (with_blocks w tag body)) p ≡ word_at (words_of g.wide w) p
  word_kept d reach latch (Body b i) s = a.inner b i s.0
  word_kept d reach latch (Root b i) s = refl
  word_kept d reach latch (Home b) s = refl
  word_kept d reach latch (Slot b i j) s = refl
  word_kept d reach latch _ s = absurd s

  slot_kept : (d : ℕ) (reach : ℕ → Type 0) (latch : Option ℕ) (p : Spot) → SlotOf g.wide d (headers w) (tags w) latch (tails w) (queue_heads w) reach p → SlotOf g.wide d (headers w) tag latch (tails w) (queue_heads w) reach p
  slot_kept d reach latch (Body b i) s = (s.0, subst (λ z. i < z) (sym (refs_kept b s.0)) s.1, elim s.2 [ inl u ↦ inl u | inr u ↦ inr (author_kept b s.0 ∙ u.0, u.1, u.2) ])
  slot_kept d reach latch (Root b i) s = s
  slot_kept d reach latch (Home b) s = s
  slot_kept d reach latch (Slot b i j) s = s
  slot_kept d reach latch _ s = absurd s

  looks_kept : (latch : Option ℕ) (named : ℕ → Type 0) (earlier looks : List Look) → LooksSound (λ i. t (Home i)) (λ b i. t (Body b i)) (λ b. tag_author g.wide (w (Tag b))) latch named earlier looks → LooksSound (λ i. t (Home i)) (λ b i. t (Body b i)) (λ b. tag_author g.wide (tag b)) latch named earlier looks
  looks_kept latch named earlier [] x = tt
  looks_kept latch named earlier (k ∷ ks) x = (at k.from x.0, looks_kept latch named (k ∷ earlier) ks x.1)
    where
      at : (p : Spot) → LookAt (λ i. t (Home i)) (λ b i. t (Body b i)) (λ b. tag_author g.wide (w (Tag b))) latch (λ b. named b ⊎ InLooks earlier b) p k.block → LookAt (λ i. t (Home i)) (λ b i. t (Body b i)) (λ b. tag_author g.wide (tag b)) latch (λ b. named b ⊎ InLooks earlier b) p k.block
      at (Home i) y = y
      at (Body b i) y = (y.0, y.1 ∙ ap Some (sym (author_kept b (live_from b i (λ z. y.0 (sym y.2 ∙ z))))), y.2, y.3)
      at _ y = absurd y

  abbrev pub Old : ℕ → Spot → ℕ → Type 0
  Old d p z = KnownAt g.wide d (tags w) (bodies w) (slot_words w) (tails w) (queue_heads w) (v.untaken d) (v.latch d) (InReach w g v d) (v.dying d) p z

  abbrev pub New : ℕ → Spot → ℕ → Type 0
  New d p z = KnownAt g.wide d tag body (slot_words w) (tails w) (queue_heads w) (v.untaken d) (v.latch d) (InReach w g v d) (v.dying d) p z

  -- a block in reach, or a dying one, is live
  pub known_live : (d e : ℕ) → d < g.clients → Contains (v.dying d) e ⊎ InReach w g v d e → (headers w e).live ≡ true
  known_live d e l (inl y) = ((h.dying d l).listed e y).0
  known_live d e l (inr y) = (reach_counted g w v h d e l y).0

  -- a known pair stays, where a tag stays of which it speaks
  pub pair_kept : (d : ℕ) → d < g.clients → (p : Spot) (z : ℕ) → ((e : ℕ) → p ≡ Tag e → Contains (v.dying d) e ⊎ InReach w g v d e → tag e ≡ w (Tag e)) → Old d p z → New d p z
  pair_kept d l (Tag e) z same k = (same e refl k.1 ∙ k.0, k.1)
  pair_kept d l (Body e j) z same k =
      let live : (headers w e).live ≡ true = known_live d e l (elim k.1 [ inl u ↦ inl u | inr u ↦ inr u.0 ]) in (
        a.inner e j live ∙ k.0,
        elim k.1 [
          | inl u ↦ inl u
          | inr u ↦ inr (
            u.0,
            elim u.1 [
              | inl q ↦ inl (subst (λ y. y ≤ j) (sym (refs_kept e live)) q)
              | inr q ↦ inr (subst (λ y. (y ≡ d) ⊎ (v.latch d ≡ Some y)) (sym (author_kept e live)) q)
            ],
          )
        ],
      )
  pair_kept d l (Slot s r i) z same k = k
  pair_kept d l _ z same k = absurd k

  -- and so does one of another identity
  pair_other : (d : ℕ) → c ≢ d → d < g.clients → (p : Spot) (z : ℕ) → Old d p z → New d p z
  pair_other d n l p z k = pair_kept d l p z (λ e _ y. a.same e (known_live d e l y) (λ q. elim y [ inl u ↦ n (sym q.2 ∙ ((h.dying d l).listed e u).2) | inr u ↦ (reach_counted g w v h d e l u).1 q.1 ])) k

  -- the graph stays
  pub blocks_quiet : (m : Option Making) (known : List Stored) → Happens g w Nothing (graph_of g w v) (graph_of g (with_blocks w tag body) (blocks_view v c m known))
  blocks_quiet m known =
      record {
        lives = λ b. refl;
        shapes = λ b. shapes b (headers w b).live refl;
        targets = λ p. ap (λ (f : Spot → ℕ). f p) (blocks_targets m known);
        held_overs = λ d. refl;
      }
    where
      shapes : (b : ℕ) (l : _) → (headers w b).live ≡ l → cond l (tag_shape g.wide (tag b)) 0 ≡ cond l (tag_shape g.wide (w (Tag b))) 0
      shapes b true e = a.shape b e
      shapes b false e = refl

  -- the invariant stays
  pub blocks_kept : (m : Option Making) (known : List Stored) → c < g.clients → v.status c ≢ status.New → v.status c ≢ status.Gone
      → ((d : ℕ) → d < g.clients → MakingTie g (classes w) (λ s. w (Segment s)) (λ b. w (Head b)) tag body d (at1 v.making c m d))
      → All (λ (s : Stored). New c s.spot s.value) known
      → HeldAt g (with_blocks w tag body) (blocks_view v c m known)
  blocks_kept m known inside acts here made knows =
      record {
        fits = h.fits;
        small = small;
        there = there;
        spare = h.spare;
        unused = h.unused;
        sizes = h.sizes;
        mine = mine;
        state = h.state;
        latch = h.latch;
        segments = h.segments;
        dying = h.dying;
        making = made;
        blocks = record {
          plain = h.blocks.plain;
          tagged = tagged;
          link = λ b l n. ap (tag_link g.wide) (a.same b l (λ q. n q.1)) ∙ h.blocks.link b l n;
        };
        era = h.era;
        own = h.own;
        op = λ d l. tie_other g (classes w) (w (Redo d)) (w (RedoMore d)) (w (Era d d)) (words_of g.wide w) (words_of g.wide w') (v.op d) (λ y. word_kept d (InReach w g v d) (v.latch d) (slot_of (v.op d)) (h.slots d l y)) (h.op d l);
        redo = h.redo;
        allowed = h.allowed;
        count = subst (λ (t : Spot → ℕ). CountSound g (classes w) (headers w) t (held_overs v)) (sym path) h.count;
        slots = subst (λ (t : Spot → ℕ). (d : ℕ) → d < g.clients → is_op (v.op d) ≡ true → SlotOf g.wide d (headers w) tag (v.latch d) (tails w) (queue_heads w) (reach_of t (tails w) (queue_heads w) v.looks d) (slot_of (v.op d))) (sym path)
            (λ d l y. slot_kept d (InReach w g v d) (v.latch d) (slot_of (v.op d)) (h.slots d l y));
        looks = subst (λ (t : Spot → ℕ). (d : ℕ) → d < g.clients → LooksSound (λ a. t (Home a)) (λ b i. t (Body b i)) (λ b. tag_author g.wide (tag b)) (v.latch d) (named_by t (tails w) (queue_heads w) d) [] (v.looks d)) (sym path)
            (λ d l. looks_kept (v.latch d) (named_by t (tails w) (queue_heads w) d) [] (v.looks d) (h.looks d l));
        lanes = subst (λ (t : Spot → ℕ). (i j : ℕ) → i < g.clients → j < g.clients → i ≢ j → LaneSound (λ k. t (Slot i j k)) (tails w i j) (queue_heads w i j) (v.sent i j) (v.unsent i j) (v.received j i) (v.untaken j i)) (sym path) h.lanes;
        known = subst (λ (t : Spot → ℕ). (d : ℕ) → d < g.clients → All (λ (s : Stored). KnownAt g.wide d tag body (slot_words w) (tails w) (queue_heads w) (v.untaken d) (v.latch d) (reach_of t (tails w) (queue_heads w) v.looks d) (v.dying d) s.spot s.value) (at1 v.known c known d)) (sym path)
            (λ d. at1_all (λ (j : ℕ) (y : List Stored). j < g.clients → All (λ (s : Stored). New j s.spot s.value) y) v.known c known d (λ _. knows)
            (λ n l. All-weaker (λ (s : Stored). Old d s.spot s.value) (λ (s : Stored). New d s.spot s.value) (λ s. pair_other d n l s.spot s.value) (v.known d) (h.known d l)));
        facts = h.facts;
        zeros = h.zeros;
        test = λ d. at1_all (λ (i : ℕ) (x : Option Test). i < g.clients → TestAt g.clients (λ i j. w (Era i j)) (ons v i) i x) v.test c None d (λ l. tt) (λ n. h.test d);
        fresh = others _ _ v.status g.clients c h.fresh acts (λ d n x. rw (ne_eqb c d n) x);
        gone = h.gone;
        self_lanes = subst (λ (t : Spot → ℕ). (d : ℕ) → d < g.clients → IsUnusedLane (tails w d d) (queue_heads w d d) (λ k. t (Slot d d k))) (sym path) h.self_lanes;
        no_queue = h.no_queue;
        tails = h.tails;
        parts = h.parts;
        part = subst (λ (t : Spot → ℕ). (d : ℕ) → d < g.clients → PartTie (contents_of g.wide w' t) d (t (Home d)) (v.part d)) (sym path)
            (λ d l. part_kept (contents_of g.wide w t) (contents_of g.wide w' t) (IsNamed t) d (keeps d) (λ b i. (Body b i, refl)) (t (Home d)) (v.part d) (Home d, refl) (h.part d l));
        queued = subst (λ (t : Spot → ℕ). (d : ℕ) → d < g.clients → is_loose (v.part d) ≡ false → (s r k : ℕ) → t (Slot s r k) ≢ 0 → HasShape (contents_of g.wide w' t) 0 1 (t (Slot s r k))) (sym path)
            (λ d l y s r k n. shaped (t (Slot s r k)) (Slot s r k, refl) (h.queued d l y s r k n));
        values = subst (λ (t : Spot → ℕ). (d : ℕ) → d < g.clients → All (ValueAt (contents_of g.wide w' t) (reach_of t (tails w) (queue_heads w) v.looks d)) (v.values d)) (sym path)
            (λ d l. All-weaker (ValueAt (contents_of g.wide w t) (InReach w g v d)) (ValueAt (contents_of g.wide w' t) (InReach w g v d)) (λ b y. (shaped b (reach_target g w v h d b l y.1).1 y.0, y.1)) (v.values d) (h.values d l));
        made = subst (λ (t : Spot → ℕ). (d : ℕ) → d < g.clients → All (MadeAt (headers w) (λ k. t (Root d k))) (v.made d)) (sym path) h.made;
      }
    where
      w' : Spot → ℕ
      w' = with_blocks w tag body

      path : targets g w' (blocks_view v c m known) ≡ t
      path = blocks_targets m known

      small : (p : Spot) → w' p < 2 ^ 64
      small (Tag d) = a.small_tag d
      small (Body d i) = a.small_body d i
      small p = h.small p

      there : (p : Spot) → w' p ≢ 0 → IsAt g (classes w) p
      there (Tag d) n = a.tag_there d n
      there (Body d i) n = a.body_there d i n
      there p n = h.there p n

      mine : (d : ℕ) → d < g.clients → (p : Spot) → owner_is d p ≡ true → own_word (v.own d) p ≡ w' p
      mine d l (Tag e) o = cc
      mine d l (Body e i) o = cc
      mine d l p o = h.mine d l p o

      tagged : (b : ℕ) → (headers w b).live ≡ true → TagSound g.wide g.clients (class_at g (classes w) b) (tag b)
      tagged b l =
          let q = h.blocks.tagged b l in
          let x = refs_kept b l in
          let y = plain_above g.wide (tag b) (w (Tag b)) (a.shape b l) in
          record {
            small = a.size b l;
            refs = subst (λ z. z ≤ 16) (sym x) q.refs;
            plain = subst (λ z. z ≤ 8) (sym y) q.plain;
            author = subst (λ z. z < g.clients) (sym (author_kept b l)) q.author;
            fits = ap (λ z. class_for z (tag_plain g.wide (tag b))) x ∙ (ap (class_for (tag_refs g.wide (w (Tag b)))) y ∙ q.fits);
          }

      keeps : (d : ℕ) → PartKept (contents_of g.wide w t) (contents_of g.wide w' t) (IsNamed t) d
      keeps d =
          record {
            format = refl;
            live = λ b n l. l;
            tag = λ b n l. named_same b n l;
            refs = λ b i n l _ _. refl;
            body = λ b i n l _. a.inner b i l;
          }

      shaped : (b : ℕ) → IsNamed t b → HasShape (contents_of g.wide w t) 0 1 b → HasShape (contents_of g.wide w' t) 0 1 b
      shaped b n y =
          record {
            live = y.live;
            names = ap (tag_refs g.wide) (named_same b n y.live) ∙ y.names;
            words = ap (tag_plain g.wide) (named_same b n y.live) ∙ y.words;
          }
