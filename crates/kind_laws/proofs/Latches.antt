-- the exchange that takes a latch keeps the invariant, and the store that gives it back
use Rattle.std.proofs.Common.{◌≡◌, ◌≢◌, ℕ, ◌+◌, ◌^◌, ◌<◌, ◌≤◌, refl, sym, ap, ◌∙◌, arith, false, eq-eqb, subst, inl, inr, ◌⊎◌, List, [], ◌∷◌, lit<, Option, Some, None, Bool}
use Rattle.std.proofs.lemmas.{List.Elements.All-weaker, Bool.{cases_eq, true≢false, ne_eqb}}
use Rattle.std.specs.List.{All}
use Rattle.shm_words.specs.{declared.geometry.Geometry.Geometry, Tags.tag_author}
use Rattle.shm_graph.specs.declared.spot.Spot.{Spot, TheVariants.{Hold, Latch, Home, Slot, Tag, Body}}
use Rattle.shm_graph.specs.{declared.memo.{Stored.Stored, Look.Look, Test.Test}, Views.{at1, View, targets, ons}}
use Rattle.shm_graph.specs.{Spots.{upd, IsAt}, Ops.{slot_of, is_op}}
use Rattle.shm_graph.specs.Held.{HeldAt, SlotOf, reach_of, named_by, KnownAt, LookAt, LooksSound, LatchTie, TestAt, InLooks, ValueAt}
use Rattle.shm_graph.specs.{Tables.contents_of, Blocks.{classes, headers}}
use Rattle.shm_graph.proofs.{Memos.Frames.at1_all, Runs.Lists.{at1_here, at1_other}}
use Rattle.kind_laws.proofs.{Owns.{mine_other, small_stored, there_stored}, ExchangeFields.{slot_kept, known_kept}}
use Rattle.kind_laws.proofs.{Readings.{bodies, eras, latches, queue_heads, slot_words, tags, tails}, Keep.others}
use Rattle.kind_laws.specs.Latches.{LatchNeeds, latch_view, BackNeeds, back_view}

-- without a latch there are no looks, and then all is true of them
no_looks : (home home' : ℕ → ℕ) (body body' : ℕ → ℕ → ℕ) (author author' : ℕ → ℕ) (latch latch' : Option ℕ) (named named' : ℕ → Type 0) (earlier looks : List Look) → latch ≡ None → LooksSound home body author latch named earlier looks → LooksSound home' body' author' latch' named' earlier looks
no_looks home home' body body' author author' latch latch' named named' earlier [] none x = tt
no_looks home home' body body' author author' latch latch' named named' earlier (k ∷ ks) none x = absurd (never k.from x.0)
  where
    never : (p : Spot) → LookAt home body author latch (λ b. named b ⊎ InLooks earlier b) p k.block → ⊥
    never (Home a) y = (let q : None ≡ Some a = sym none ∙ y.1 in cc)
    never (Body b i) y = (let q : None ≡ Some (author b) = sym none ∙ y.1 in cc)
    never _ y = absurd y

-- what was known without a latch is known with one
known_latched : (wide : Bool) (c : ℕ) (tag : ℕ → ℕ) (body : ℕ → ℕ → ℕ) (slot : ℕ → ℕ → ℕ → ℕ) (tail queue_head : ℕ → ℕ → ℕ) (untaken : ℕ → ℕ) (latch latch' : Option ℕ) (reach : ℕ → Type 0) (dying : List ℕ) (p : Spot) (x : ℕ) → latch ≡ None
    → KnownAt wide c tag body slot tail queue_head untaken latch reach dying p x → KnownAt wide c tag body slot tail queue_head untaken latch' reach dying p x
known_latched wide c tag body slot tail queue_head untaken latch latch' reach dying (Tag b) x none k = k
known_latched wide c tag body slot tail queue_head untaken latch latch' reach dying (Body b i) x none k = (
  k.0,
  elim k.1 [
    | inl u ↦ inl u
    | inr u ↦ inr (
      u.0,
      elim u.1 [
        | inl r ↦ inl r
        | inr r ↦ inr (elim r [ inl f ↦ inl f | inr f ↦ absurd (let q : None ≡ Some (tag_author wide (tag b)) = sym none ∙ f in cc) ])
      ],
    )
  ],
)
known_latched wide c tag body slot tail queue_head untaken latch latch' reach dying (Slot s r i) x none k = k
known_latched wide c tag body slot tail queue_head untaken latch latch' reach dying _ x none k = absurd k

pub latch_kept : (g : Geometry) (w : Spot → ℕ) (v : View) (c a' : ℕ) → HeldAt g w v → LatchNeeds g w v c a' → HeldAt g (upd w (Latch a') (c + 1)) (latch_view v c a')
latch_kept g w v c a' h a =
    record {
      fits = h.fits;
      small = small_stored w (Latch a') (c + 1) (2 ^ 64) (let x = a.inside in let y = h.fits.clients in omega arith) h.small;
      there = there_stored (IsAt g (classes w)) w (Latch a') (c + 1) a.place h.there;
      spare = h.spare;
      unused = h.unused;
      sizes = record { holds = h.sizes.holds; latches = λ i. at1_all (λ (j x : ℕ). x ≤ g.clients) (latches w) a' (c + 1) i (let x = a.inside in omega arith) (λ _. h.sizes.latches i); segments = h.sizes.segments; classes = h.sizes.classes };
      mine = mine_other w v.own g.clients (Latch a') (c + 1) (λ d. refl) h.mine;
      state = h.state;
      latch = λ d l. elim (cases_eq c d) [
        | inl x ↦ subst (λ j. LatchTie (at1 (latches w) a' (c + 1)) (λ d. w (Hold d)) j (v'.latch j)) x (subst (LatchTie (at1 (latches w) a' (c + 1)) (λ d. w (Hold d)) c) (sym (at1_here v.latch c (Some a'))) (record { some = some; all = all }))
        | inr n ↦ subst (LatchTie (at1 (latches w) a' (c + 1)) (λ d. w (Hold d)) d) (sym (at1_other v.latch c (Some a') d n)) (record {
          some = λ i e. let q = (h.latch d l).some i e in (at1_other (latches w) a' (c + 1) i (λ z. let y : w (Latch a') ≡ d + 1 = ap (latches w) z ∙ q.0 in let u = a.free in absurd (omega arith)) ∙ q.0, q.1);
          all = λ i. at1_all (λ (j x : ℕ). x ≡ d + 1 → v.latch d ≡ Some j) (latches w) a' (c + 1) i (λ e. absurd (n (omega arith))) (λ _. (h.latch d l).all i);
        })
      ];
      segments = h.segments;
      dying = h.dying;
      making = h.making;
      blocks = h.blocks;
      era = h.era;
      own = h.own;
      op = h.op;
      redo = h.redo;
      allowed = h.allowed;
      count = h.count;
      slots = λ d l is. elim (cases_eq c d) [
        | inl x ↦ absurd (true≢false (sym is ∙ (ap (λ i. is_op (v.op i)) (sym x) ∙ no_op)))
        | inr n ↦ rw (ne_eqb c d n) (h.slots d l is)
      ];
      looks = λ d l. elim (cases_eq c d) [
        | inl x ↦ subst (λ j. LooksSound (λ a. t (Home a)) (λ b i. t (Body b i)) (λ b. tag_author g.wide (w (Tag b))) (v'.latch j) (Named j) [] (v.looks j)) x (no_looks (λ a. t (Home a)) (λ a. t (Home a)) (λ b i. t (Body b i)) (λ b i. t (Body b i)) (λ b. tag_author g.wide (w (Tag b))) (λ b. tag_author g.wide (w (Tag b))) (v.latch c) (v'.latch c) (Named c) (Named c) [] (v.looks c) a.none (h.looks c a.inside))
        | inr n ↦ rw (ne_eqb c d n) (h.looks d l)
      ];
      lanes = h.lanes;
      known = λ d l. elim (cases_eq c d) [
        | inl x ↦ subst (λ j. All (λ (s : Stored). KnownAt g.wide j (tags w) (bodies w) (slot_words w) (tails w) (queue_heads w) (v.untaken j) (v'.latch j) (reach_of t (tails w) (queue_heads w) v.looks j) (v.dying j) s.spot s.value) (v.known j)) x (All-weaker _ _ (λ (s : Stored). known_latched g.wide c (tags w) (bodies w) (slot_words w) (tails w) (queue_heads w) (v.untaken c) (v.latch c) (v'.latch c) (reach_of t (tails w) (queue_heads w) v.looks c) (v.dying c) s.spot s.value a.none) (v.known c) (h.known c a.inside))
        | inr n ↦ rw (ne_eqb c d n) (h.known d l)
      ];
      facts = h.facts;
      zeros = h.zeros;
      test = λ d. at1_all (λ (i : ℕ) (x : Option Test). i < g.clients → TestAt g.clients (eras w) (ons v i) i x) v.test c None d (λ l. tt) (λ m. h.test d);
      fresh = others _ _ v.status g.clients c h.fresh a.acts (λ d n x. rw (ne_eqb c d n) x);
      gone = others _ _ v.status g.clients c h.gone a.here (λ d n x. rw (ne_eqb c d n) x);
      self_lanes = h.self_lanes;
      no_queue = h.no_queue;
      tails = h.tails;
      parts = h.parts;
      part = h.part;
      queued = h.queued;
      values = h.values;
      made = h.made;
    }
  where
    v' : View
    v' = latch_view v c a'

    t : Spot → ℕ
    t = targets g w v

    Named : ℕ → ℕ → Type 0
    Named d = named_by t (tails w) (queue_heads w) d

    no_op : is_op (v.op c) ≡ false
    no_op = ap is_op a.op

    some : (i : ℕ) → Some a' ≡ Some i → (at1 (latches w) a' (c + 1) i ≡ c + 1) × (w (Hold c) ≡ i + 1)
    some i e = (let x : a' ≡ i = cc in (subst (λ j. at1 (latches w) a' (c + 1) j ≡ c + 1) x (at1_here (latches w) a' (c + 1)), sym (h.mine c a.inside (Hold c) (eq-eqb c c refl)) ∙ (a.hold ∙ ap (λ z. z + 1) x)))

    all : (i : ℕ) → at1 (latches w) a' (c + 1) i ≡ c + 1 → Some a' ≡ Some i
    all i = at1_all (λ (j x : ℕ). x ≡ c + 1 → Some a' ≡ Some j) (latches w) a' (c + 1) i (λ _. refl) (λ _ e. (let q : None ≡ Some i = sym a.none ∙ (h.latch c a.inside).all i e in cc))

pub back_kept : (g : Geometry) (w : Spot → ℕ) (v : View) (c a' : ℕ) (kept : List Stored) (values : List ℕ) → HeldAt g w v → BackNeeds g w v c a' kept values → HeldAt g (upd w (Latch a') 0) (back_view v c kept values)
back_kept g w v c a' kept values h a =
    record {
      fits = h.fits;
      small = small_stored w (Latch a') 0 (2 ^ 64) (lit< tt) h.small;
      there = there_stored (IsAt g (classes w)) w (Latch a') 0 (h.there (Latch a') (λ z. let x = held.0 in absurd (omega arith))) h.there;
      spare = h.spare;
      unused = h.unused;
      sizes = record { holds = h.sizes.holds; latches = λ i. at1_all (λ (j x : ℕ). x ≤ g.clients) (latches w) a' 0 i (omega arith) (λ _. h.sizes.latches i); segments = h.sizes.segments; classes = h.sizes.classes };
      mine = mine_other w v.own g.clients (Latch a') 0 (λ d. refl) h.mine;
      state = h.state;
      latch = λ d l. elim (cases_eq c d) [
        | inl x ↦ subst (λ j. LatchTie (at1 (latches w) a' 0) (λ d. w (Hold d)) j (v'.latch j)) x (subst (LatchTie (at1 (latches w) a' 0) (λ d. w (Hold d)) c) (sym (at1_here v.latch c None)) (record { some = λ i e. cc; all = λ i. at1_all (λ (j x : ℕ). x ≡ c + 1 → None ≡ Some j) (latches w) a' 0 i (λ e. absurd (omega arith)) (λ n e. absurd (n (let q : Some a' ≡ Some i = sym a.latch ∙ (h.latch c a.inside).all i e in cc))) }))
        | inr n ↦ subst (LatchTie (at1 (latches w) a' 0) (λ d. w (Hold d)) d) (sym (at1_other v.latch c None d n)) (record {
          some = λ i e. let q = (h.latch d l).some i e in (at1_other (latches w) a' 0 i (λ z. let y : c + 1 ≡ d + 1 = sym held.0 ∙ (ap (latches w) z ∙ q.0) in n (omega arith)) ∙ q.0, q.1);
          all = λ i. at1_all (λ (j x : ℕ). x ≡ d + 1 → v.latch d ≡ Some j) (latches w) a' 0 i (λ e. absurd (omega arith)) (λ _. (h.latch d l).all i);
        })
      ];
      segments = h.segments;
      dying = h.dying;
      making = h.making;
      blocks = h.blocks;
      era = h.era;
      own = h.own;
      op = h.op;
      redo = h.redo;
      allowed = h.allowed;
      count = h.count;
      slots = λ d l is. elim (cases_eq c d) [
        | inl x ↦ absurd (true≢false (sym is ∙ (ap (λ i. is_op (v.op i)) (sym x) ∙ no_op)))
        | inr n ↦ slot_other d n (v'.latch d) (at1_other v.latch c None d n) (slot_of (v.op d)) (h.slots d l is)
      ];
      looks = λ d l. elim (cases_eq c d) [
        | inl x ↦ subst (λ j. LooksSound (λ a. t (Home a)) (λ b i. t (Body b i)) (λ b. tag_author g.wide (w (Tag b))) (v'.latch j) (Named j) [] (v'.looks j)) x (rw (eq-eqb c c refl) tt)
        | inr n ↦ rw (ne_eqb c d n) (h.looks d l)
      ];
      lanes = h.lanes;
      known = λ d l. elim (cases_eq c d) [
        | inl x ↦ subst (λ j. All (λ (s : Stored). KnownAt g.wide j (tags w) (bodies w) (slot_words w) (tails w) (queue_heads w) (v.untaken j) (v'.latch j) (reach_of t (tails w) (queue_heads w) v'.looks j) (v.dying j) s.spot s.value) (v'.known j)) x
            (subst (All (Known c)) (sym (at1_here v.known c kept)) (All-weaker _ (Known c) (λ s k. mine_now s.spot s.value (v'.latch c) (at1_here v.latch c None) k) kept a.knows))
        | inr n ↦ subst (All (Known d)) (sym (at1_other v.known c kept d n)) (All-weaker _ (Known d) (λ s k. subst (λ y. KnownAt g.wide d (tags w) (bodies w) (slot_words w) (tails w) (queue_heads w) (v.untaken d) y (reach_of t (tails w) (queue_heads w) v'.looks d) (v.dying d) s.spot s.value) (sym (at1_other v.latch c None d n)) (known_kept g.wide d (tags w) (bodies w) (slot_words w) (tails w) (queue_heads w) (v.untaken d) (v.latch d) (reach_of t (tails w) (queue_heads w) v.looks d) (reach_of t (tails w) (queue_heads w) v'.looks d) (v.dying d) (v.dying d) s.spot s.value (reach d n) (λ _ x. x) k)) (v.known d) (h.known d l))
      ];
      facts = h.facts;
      zeros = h.zeros;
      test = λ d. at1_all (λ (i : ℕ) (x : Option Test). i < g.clients → TestAt g.clients (eras w) (ons v i) i x) v.test c None d (λ l. tt) (λ m. h.test d);
      fresh = others _ _ v.status g.clients c h.fresh a.acts (λ d n x. rw (ne_eqb c d n) x);
      gone = others _ _ v.status g.clients c h.gone a.here (λ d n x. rw (ne_eqb c d n) x);
      self_lanes = h.self_lanes;
      no_queue = h.no_queue;
      tails = h.tails;
      parts = h.parts;
      part = h.part;
      queued = h.queued;
      values = λ d l. elim (cases_eq c d) [
        | inl x ↦ subst (λ j. All (ValueAt (contents_of g.wide w t) (reach_of t (tails w) (queue_heads w) v'.looks j)) (v'.values j)) x (subst (All (ValueAt (contents_of g.wide w t) (reach_of t (tails w) (queue_heads w) v'.looks c))) (sym (at1_here v.values c values)) (All-weaker (ValueAt (contents_of g.wide w t) (reach_of t (tails w) (queue_heads w) (λ d. []) c)) (ValueAt (contents_of g.wide w t) (reach_of t (tails w) (queue_heads w) v'.looks c)) (λ b y. (y.0, mine_reach b y.1)) values a.valued))
        | inr n ↦ subst (All (ValueAt (contents_of g.wide w t) (reach_of t (tails w) (queue_heads w) v'.looks d))) (sym (at1_other v.values c values d n)) (All-weaker (ValueAt (contents_of g.wide w t) (reach_of t (tails w) (queue_heads w) v.looks d)) (ValueAt (contents_of g.wide w t) (reach_of t (tails w) (queue_heads w) v'.looks d)) (λ b y. (y.0, reach d n b y.1)) (v.values d) (h.values d l))
      ];
      made = h.made;
    }
  where
    v' : View
    v' = back_view v c kept values

    t : Spot → ℕ
    t = targets g w v

    Named : ℕ → ℕ → Type 0
    Named d = named_by t (tails w) (queue_heads w) d

    no_op : is_op (v.op c) ≡ false
    no_op = ap is_op a.op

    held : (w (Latch a') ≡ c + 1) × (w (Hold c) ≡ a' + 1)
    held = (h.latch c a.inside).some a' a.latch

    reach : (d : ℕ) → c ≢ d → (i : ℕ) → reach_of t (tails w) (queue_heads w) v.looks d i → reach_of t (tails w) (queue_heads w) v'.looks d i
    reach d n i (inl x) = inl x
    reach d n i (inr x) = inr (subst (λ y. InLooks y i) (sym (at1_other v.looks c [] d n)) x)

    mine_reach : (i : ℕ) → reach_of t (tails w) (queue_heads w) (λ d. []) c i → reach_of t (tails w) (queue_heads w) v'.looks c i
    mine_reach i u = elim u [ inl q ↦ inl q | inr q ↦ inr (subst (λ z. InLooks z i) (sym (at1_here v.looks c [])) q) ]

    slot_other : (d : ℕ) → c ≢ d → (y : Option ℕ) → y ≡ v.latch d → (p : Spot) → SlotOf g.wide d (headers w) (tags w) (v.latch d) (tails w) (queue_heads w) (reach_of t (tails w) (queue_heads w) v.looks d) p → SlotOf g.wide d (headers w) (tags w) y (tails w) (queue_heads w) (reach_of t (tails w) (queue_heads w) v'.looks d) p
    slot_other d n y e p x = subst (λ z. SlotOf g.wide d (headers w) (tags w) z (tails w) (queue_heads w) (reach_of t (tails w) (queue_heads w) v'.looks d) p) (sym e) (slot_kept g.wide d (headers w) (headers w) (tags w) (v.latch d) (tails w) (queue_heads w) (reach_of t (tails w) (queue_heads w) v.looks d) (reach_of t (tails w) (queue_heads w) v'.looks d) p (λ _ q. inl q) (λ _ q. q) (reach d n) x)

    Known : ℕ → Stored → Type 0
    Known d s = KnownAt g.wide d (tags w) (bodies w) (slot_words w) (tails w) (queue_heads w) (v.untaken d) (v'.latch d) (reach_of t (tails w) (queue_heads w) v'.looks d) (v.dying d) s.spot s.value

    mine_now : (p : Spot) (x : ℕ) (y : Option ℕ) → y ≡ None → KnownAt g.wide c (tags w) (bodies w) (slot_words w) (tails w) (queue_heads w) (v.untaken c) None (reach_of t (tails w) (queue_heads w) (λ d. []) c) (v.dying c) p x → KnownAt g.wide c (tags w) (bodies w) (slot_words w) (tails w) (queue_heads w) (v.untaken c) y (reach_of t (tails w) (queue_heads w) v'.looks c) (v.dying c) p x
    mine_now p x y e k = subst (λ z. KnownAt g.wide c (tags w) (bodies w) (slot_words w) (tails w) (queue_heads w) (v.untaken c) z (reach_of t (tails w) (queue_heads w) v'.looks c) (v.dying c) p x) (sym e)
        (known_kept g.wide c (tags w) (bodies w) (slot_words w) (tails w) (queue_heads w) (v.untaken c) None (reach_of t (tails w) (queue_heads w) (λ d. []) c) (reach_of t (tails w) (queue_heads w) v'.looks c) (v.dying c) (v.dying c) p x
        mine_reach (λ _ q. q) k)
