-- a step that was not committed ends, with no word
use Rattle.std.proofs.Common.{◌≡◌, ◌≢◌, ℕ, ◌+◌, ◌%◌, ◌<◌, refl, sym, ap, ◌∙◌, subst, arith, true, false, inl, inr, Option, []}
use Rattle.std.proofs.{Math.Path.fun_ext, lemmas.Bool.{cases_eq, cases_Bool, false≢true}}
use Rattle.std.specs.{Prelude.None, List.All}
use Rattle.shm_words.specs.{declared.geometry.Geometry.Geometry, Headers.header_of, Tags.tag_author}
use Rattle.shm_words.proofs.Words.{kind_told, change_told}
use Rattle.shm_graph.specs.declared.spot.Spot.{Spot}
use Rattle.shm_graph.specs.declared.spot.Spot.TheVariants.{Home, Redo, RedoMore, Era, Root, Tail, QueueHead, Slot, Page, Head, Tag, Body}
use Rattle.shm_graph.specs.declared.memo.First.TheVariants.{Begun, Committed, Written}
use Rattle.shm_graph.specs.declared.memo.{ChangeStage.TheVariants.{Raising, Lowering}, Op.Op}
use Rattle.shm_graph.specs.declared.memo.{Op.TheVariants.{Nothing, Alloc, Up, Down, Change}, Stored.Stored}
use Rattle.shm_graph.specs.{Spots.same_spot, Tables.{contents_of, HasShape}, References.words_of}
use Rattle.shm_graph.specs.Ops.{IsUncommitted, cover, cover_of, held_over_of, on_of, slot_of, up_slot, target, word_at, is_op}
use Rattle.shm_graph.specs.{Ops.Cover.Quiet, Views.{View, at1, targets, ons, held_overs}}
use Rattle.shm_graph.specs.Held.{HeldAt, FactAt, SlotOf, reach_of, named_by, OpTie, OwnSound, IdleSound, TailSound, Allowed, CountSound, EraSound, LooksSound, LaneSound, KnownAt, TestAt, IsUnusedLane, PartTie, ValueAt, MadeAt, is_loose, odd}
use Rattle.shm_graph.proofs.{Memos.Frames.at1_all, Spots.Spotting.{same_spot_is, same_spot_self}}
use Rattle.shm_graph.proofs.States.{Counting.{cover_slot, cover_idle, covered_none}, Holders.{apart_slots, Holds}}

-- such a step does nothing to the references
pub uncommitted_quiet : (o : Op) → IsUncommitted o → (cover_of o ≡ Quiet) × (held_over_of o ≡ 0) × (on_of o ≡ None)
uncommitted_quiet Nothing u = (refl, refl, refl)
uncommitted_quiet (Alloc Begun p b e) u = (refl, refl, refl)
uncommitted_quiet (Up Begun p b e) u = (refl, refl, refl)
uncommitted_quiet (Down Begun p b e) u = (refl, refl, refl)
uncommitted_quiet (Change (Raising Begun) p a b e) u = (refl, refl, refl)
uncommitted_quiet _ u = absurd u

-- its redo record says a change of the parity of the own era, if a change
idle_after : (g : Geometry) (class : ℕ → ℕ → ℕ) (redo more own : ℕ) (w : Spot → ℕ) (o : Op) → IsUncommitted o → OpTie g class redo more own (words_of g.wide w) o → IdleSound redo own
idle_after g class redo more own w Nothing u tie = tie
idle_after g class redo more own w (Alloc Begun p b e) u tie = λ k. let s = kind_told g.wide redo more _ tie.spelled k in cc
idle_after g class redo more own w (Up Begun p b e) u tie = λ k. let s = kind_told g.wide redo more _ tie.spelled k in cc
idle_after g class redo more own w (Down Begun p b e) u tie = λ k. let s = kind_told g.wide redo more _ tie.spelled k in cc
idle_after g class redo more own w (Change (Raising Begun) p a b e) u tie = λ k. (change_told g.wide redo more _ _ _ _ tie.spelled).1 ∙ ap odd tie.current
idle_after g class redo more own w _ u tie = absurd u

room_after : (own : ℕ) (o : Op) → OwnSound own o → OwnSound own Nothing
room_after own Nothing h = h
room_after own (Alloc s p b e) h = record { some = h.some; room = (let r = h.room in omega arith) }
room_after own (Up s p b e) h = record { some = h.some; room = (let r = h.room in omega arith) }
room_after own (Down s p b e) h = record { some = h.some; room = (let r = h.room in omega arith) }
room_after own (Change (Raising s) p a b e) h = record { some = h.some; room = (let r = h.room in omega arith) }
room_after own (Change (Lowering s) p a b e) h = record { some = h.some; room = (let r = h.room in omega arith) }

-- ---- the queues: where an uncommitted step would put a reference into the slot at the tail, nothing stands there

abbrev next_slot : (Spot → ℕ) → ℕ → ℕ → Spot
next_slot w c r = Slot c r (w (Tail c r) % 8)

raised : (g : Geometry) (w : Spot → ℕ) (c r : ℕ) (o : Op) → IsUncommitted o → up_slot o ≡ next_slot w c r → OpTie g (λ s q. w (Page s q)) (w (Redo c)) (w (RedoMore c)) (w (Era c c)) (words_of g.wide w) o
    → (slot_of o ≡ next_slot w c r) × (is_op o ≡ true) × (w (next_slot w c r) ≡ 0)
raised g w c r (Up Begun p b x) u e tie = (e, refl, subst (λ q. word_at (words_of g.wide w) q ≡ 0) e tie.word)
raised g w c r (Up Committed p b x) u e tie = absurd u
raised g w c r (Up Written p b x) u e tie = absurd u
raised g w c r _ u e tie = absurd (cc)

-- while there is room in the queue nobody else has a step there
next_covered : (g : Geometry) (w : Spot → ℕ) (v : View) (c r : ℕ) → HeldAt g w v → c ≢ r → w (Tail c r) < w (QueueHead c r) + 8 → (d : ℕ) → d < g.clients → c ≢ d → (y : ℕ) → cover (cover_of (v.op d)) (next_slot w c r) y ≡ y
next_covered g w v c r h apart room d l other y =
    elim (cases_Bool (same_spot (slot_of (v.op d)) (next_slot w c r))) [
      | inr n ↦ cover_slot (v.op d) (next_slot w c r) n y
      | inl e ↦ elim (cases_Bool (is_op (v.op d))) [
        | inr n ↦ cover_idle (v.op d) (next_slot w c r) n y
        | inl o ↦ absurd (nobody (subst (Holds w g v d) (same_spot_is (slot_of (v.op d)) (next_slot w c r) e) (h.slots d l o)))
      ]
    ]
  where
    nobody : Holds w g v d (next_slot w c r) → ⊥
    nobody x = elim x.1 [
      | inl z ↦ other z.0
      | inr z ↦ apart_slots (w (QueueHead c r)) (w (Tail c r)) z.2 room (sym z.1)
    ]

next_empty : (g : Geometry) (w : Spot → ℕ) (v : View) (c r : ℕ) → HeldAt g w v → c < g.clients → r < g.clients → IsUncommitted (v.op c) → up_slot (v.op c) ≡ next_slot w c r → v.unsent c r ≡ 0
next_empty g w v c r h lc lr u e =
    let op = raised g w c r (v.op c) u e (h.op c lc) in
    let mine : Holds w g v c (next_slot w c r) = subst (Holds w g v c) op.0 (h.slots c lc op.1) in
    elim mine.1 [
      | inr z ↦ absurd (mine.0 (sym z.0))
      | inl z ↦
          (let t : targets g w v (next_slot w c r) ≡ w (next_slot w c r) = covered_none g.clients (next_slot w c r) (w (next_slot w c r)) (λ d. cover_of (v.op d))
          (λ d l y. elim (cases_eq c d) [
            | inl q ↦ subst (λ i. cover (cover_of (v.op i)) (next_slot w c r) y ≡ y) q (ap (λ x. cover x (next_slot w c r) y) (uncommitted_quiet (v.op c) u).0)
            | inr q ↦ next_covered g w v c r h mine.0 z.2 d l q y
          ]) in
          sym ((h.lanes c r lc lr mine.0).next z.2) ∙ (t ∙ op.2))
    ]

tails_after : (g : Geometry) (w : Spot → ℕ) (v : View) (c r : ℕ) → HeldAt g w v → c < g.clients → r < g.clients → IsUncommitted (v.op c) → TailSound c r (w (Era c c)) (w (Tail c r)) (v.unsent c r) Nothing
tails_after g w v c r h lc lr u =
    let old = h.tails c r lc lr in (
      old.0,
      λ some _. elim (cases_Bool (same_spot (up_slot (v.op c)) (next_slot w c r))) [
        | inl e ↦ absurd (some (next_empty g w v c r h lc lr u (same_spot_is _ _ e)))
        | inr n ↦ old.1 some (λ e. false≢true (sym n ∙ (ap (λ q. same_spot q (next_slot w c r)) e ∙ same_spot_self (next_slot w c r))))
      ],
    )

-- ---- the step ends

op_same : {T : Type 0} (f : Op → T) (op : ℕ → Op) (c : ℕ) → f (op c) ≡ f Nothing → ◌≡◌ {A = ℕ → T} (λ d. f (op d)) (λ d. f (at1 op c Nothing d))
op_same {T} f op c e = fun_ext (λ d. at1_all (λ (i : ℕ) (x : Op). f (op i) ≡ f x) op c Nothing d e (λ n. refl))

pub op_ended : (g : Geometry) (w : Spot → ℕ) (v : View) (c : ℕ) → HeldAt g w v → c < g.clients → IsUncommitted (v.op c) → HeldAt g w (record v { op = at1 v.op c Nothing })
op_ended g w v c h l u =
    record {
      fits = h.fits;
      small = h.small;
      there = h.there;
      spare = h.spare;
      unused = h.unused;
      sizes = h.sizes;
      mine = h.mine;
      state = h.state;
      latch = h.latch;
      segments = h.segments;
      dying = h.dying;
      making = h.making;
      blocks = h.blocks;
      era = subst (λ (on : ℕ → Option ℕ). EraSound g.clients (λ b. header_of (w (Head b))) (λ i j. w (Era i j)) on) same_ons h.era;
      own = λ d. at1_all (λ (i : ℕ) (x : Op). i < g.clients → OwnSound (w (Era i i)) x) v.op c Nothing d (λ m. room_after (w (Era c c)) (v.op c) (h.own c m)) (λ n. h.own d);
      op = λ d. at1_all (λ (i : ℕ) (x : Op). i < g.clients → OpTie g (λ s q. w (Page s q)) (w (Redo i)) (w (RedoMore i)) (w (Era i i)) (words_of g.wide w) x) v.op c Nothing d
          (λ m. idle_after g (λ s q. w (Page s q)) (w (Redo c)) (w (RedoMore c)) (w (Era c c)) w (v.op c) u (h.op c m)) (λ n. h.op d);
      redo = h.redo;
      allowed = λ d. at1_all (λ (i : ℕ) (x : Op). i < g.clients → Allowed i x) v.op c Nothing d (λ m. tt) (λ n. h.allowed d);
      count = subst (λ (t : Spot → ℕ). CountSound g (λ s q. w (Page s q)) (λ b. header_of (w (Head b))) t (held_overs v')) same_targets
          (subst (λ (k : ℕ → ℕ). CountSound g (λ s q. w (Page s q)) (λ b. header_of (w (Head b))) (targets g w v) k) same_held_overs h.count);
      slots = λ d. subst (λ (t : Spot → ℕ). d < g.clients → is_op (v'.op d) ≡ true → Holds t d (slot_of (v'.op d))) same_targets
          (at1_all (λ (i : ℕ) (x : Op). i < g.clients → is_op x ≡ true → Holds (targets g w v) i (slot_of x)) v.op c Nothing d (λ m z. absurd (false≢true z)) (λ n. h.slots d));
      looks = subst (λ (t : Spot → ℕ). (d : ℕ) → d < g.clients → LooksSound (λ a. t (Home a)) (λ b i. t (Body b i)) (λ b. tag_author g.wide (w (Tag b))) (v.latch d) (named_by t tail queue_head d) [] (v.looks d)) same_targets h.looks;
      lanes = subst (λ (t : Spot → ℕ). (s r : ℕ) → s < g.clients → r < g.clients → s ≢ r → LaneSound (λ k. t (Slot s r k)) (tail s r) (queue_head s r) (v.sent s r) (v.unsent s r) (v.received r s) (v.untaken r s)) same_targets h.lanes;
      known = subst (λ (t : Spot → ℕ). (d : ℕ) → d < g.clients → All (λ (k : Stored). KnownAt g.wide d (λ b. w (Tag b)) (λ b i. w (Body b i)) (λ s r k. w (Slot s r k)) tail queue_head (v.untaken d) (v.latch d) (reach_of t tail queue_head v.looks d) (v.dying d) k.spot k.value) (v.known d)) same_targets h.known;
      facts = subst (λ (on : ℕ → Option ℕ). (d : ℕ) → d < g.clients → All (FactAt g.clients (λ i j. w (Era i j)) on tail queue_head (λ s q. w (Page s q))) (v.facts d)) same_ons h.facts;
      zeros = h.zeros;
      test = subst (λ (on : ℕ → Option ℕ). (d : ℕ) → d < g.clients → TestAt g.clients (λ i j. w (Era i j)) (on d) d (v.test d)) same_ons h.test;
      fresh = λ d m e. let f = h.fresh d m e in record {
        words = f.words;
        idle = nothing d f.idle;
        latched = f.latched;
        looked = f.looked;
        made = f.made;
        segments = f.segments;
        dyings = f.dyings;
        sends = f.sends;
        takes = f.takes;
      };
      gone = λ d m e. let f = h.gone d m e in record {
        roots = f.roots;
        hold = f.hold;
        idle = nothing d f.idle;
        latched = f.latched;
        segments = f.segments;
        dyings = f.dyings;
        sends = f.sends;
        takes = f.takes;
      };
      self_lanes = subst (λ (t : Spot → ℕ). (d : ℕ) → d < g.clients → IsUnusedLane (tail d d) (queue_head d d) (λ k. t (Slot d d k))) same_targets h.self_lanes;
      no_queue = h.no_queue;
      tails = λ d r m k. at1_all (λ (i : ℕ) (x : Op). i < g.clients → TailSound i r (w (Era i i)) (tail i r) (v.unsent i r) x) v.op c Nothing d
          (λ n. tails_after g w v c r h n k u) (λ n i. h.tails d r i k) m;
      parts = h.parts;
      part = subst (λ (t : Spot → ℕ). (d : ℕ) → d < g.clients → PartTie (contents_of g.wide w t) d (t (Home d)) (v.part d)) same_targets h.part;
      queued = subst (λ (t : Spot → ℕ). (d : ℕ) → d < g.clients → is_loose (v.part d) ≡ false → (s r k : ℕ) → t (Slot s r k) ≢ 0 → HasShape (contents_of g.wide w t) 0 1 (t (Slot s r k))) same_targets h.queued;
      values = subst (λ (t : Spot → ℕ). (d : ℕ) → d < g.clients → All (ValueAt (contents_of g.wide w t) (reach_of t tail queue_head v.looks d)) (v.values d)) same_targets h.values;
      made = subst (λ (t : Spot → ℕ). (d : ℕ) → d < g.clients → All (MadeAt (λ b. header_of (w (Head b))) (λ k. t (Root d k))) (v.made d)) same_targets h.made;
    }
  where
    tail : ℕ → ℕ → ℕ
    tail = λ s r. w (Tail s r)

    queue_head : ℕ → ℕ → ℕ
    queue_head = λ s r. w (QueueHead s r)

    v' : View
    v' = record v { op = at1 v.op c Nothing }

    Holds : (Spot → ℕ) → ℕ → Spot → Type 0
    Holds t d = SlotOf g.wide d (λ b. header_of (w (Head b))) (λ b. w (Tag b)) (v.latch d) tail queue_head (reach_of t tail queue_head v.looks d)

    same_targets : targets g w v ≡ targets g w v'
    same_targets = ap (target g.clients (words_of g.wide w)) (op_same cover_of v.op c (uncommitted_quiet (v.op c) u).0)

    same_held_overs : held_overs v ≡ held_overs v'
    same_held_overs = op_same held_over_of v.op c (uncommitted_quiet (v.op c) u).1

    same_ons : ons v ≡ ons v'
    same_ons = op_same on_of v.op c (uncommitted_quiet (v.op c) u).2

    nothing : (d : ℕ) → v.op d ≡ Nothing → v'.op d ≡ Nothing
    nothing d e = at1_all (λ (i : ℕ) (x : Op). v.op i ≡ Nothing → x ≡ Nothing) v.op c Nothing d (λ _. refl) (λ n z. z) e
