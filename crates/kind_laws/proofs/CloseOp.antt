-- the store of the own era closes a step, or the first half of a change, and keeps the invariant
use Rattle.std.proofs.Math.Path.{fun_ext}
use Rattle.std.proofs.Common.{◌≡◌, ◌≢◌, ℕ, ◌+◌, ◌%◌, ◌^◌, ◌<◌, ◌≤◌, refl, sym, ap, ◌∙◌, arith, true, false, Bool, cond, eqb, ltb, eq-eqb, subst, inl, inr, ◌&&◌, [], Option, Some, None}
use Rattle.std.proofs.lemmas.{List.Elements.All-weaker, Bool.{cases_eq, ne_eqb, eqb-true, and_parts, cond-true}}
use Rattle.std.specs.List.{All}
use Rattle.shm_words.specs.{declared.{geometry.Geometry.Geometry, header.Header.Header}, Headers.header_of}
use Rattle.shm_words.specs.Tags.{tag_author}
use Rattle.shm_words.specs.declared.redo.Redo.TheVariants as redos
use Rattle.shm_words.proofs.Words.{kind_told, change_told}
use Rattle.shm_graph.specs.declared.spot.Spot.{Spot}
use Rattle.shm_graph.specs.declared.spot.Spot.TheVariants.{Redo, RedoMore, Home, Era, Root, Tail, QueueHead, Slot, Page, Head, Tag, Body}
use Rattle.shm_graph.specs.declared.memo.Op.{Op, TheVariants.{Nothing, Alloc, Up, Down, Change}}
use Rattle.shm_graph.specs.declared.memo.First.TheVariants.{Begun, Committed, Written}
use Rattle.shm_graph.specs.declared.memo.Second.TheVariants.{Open, Closed}
use Rattle.shm_graph.specs.declared.memo.{ChangeStage.TheVariants.{Raising, Lowering}, Fact.Fact}
use Rattle.shm_graph.specs.declared.memo.{Fact.TheVariants.{Header as HeaderRead, Counter, Class}, Stored.Stored}
use Rattle.shm_graph.specs.{declared.memo.Test.Test, Spots.{upd, same_spot, IsAt, spot_address}}
use Rattle.shm_graph.specs.References.{Words, words_of}
use Rattle.shm_graph.specs.Ops.{Cover, Quiet, word_at, held_over_of, on_of, cover, cover_of, covered, slot_of, is_op}
use Rattle.shm_graph.specs.{Views.{View, at1, targets, ons, held_overs}, Tables.{contents_of, HasShape}}
use Rattle.shm_graph.specs.Held.{HeldAt, CountSound, LaneSound, EraSound, Committing, Bound, FactAt, CounterAt, OwnSound, OpTie, TailSound, Allowed, room_of, odd, SlotOf, reach_of, named_by, KnownAt, LooksSound, TestAt, IsUnusedLane, PartTie, ValueAt, MadeAt, is_loose}
use Rattle.shm_graph.specs.Blocks.{classes, headers}
use Rattle.shm_graph.proofs.{Spots.Spotting.{same_spot_is, same_spot_self}, Runs.Lists.{at1_here, at1_other}}
use Rattle.shm_graph.proofs.States.{Holders.one_holder, Counting.{cover_slot, covered_alone, covered_none}}
use Rattle.shm_graph.proofs.Memos.Frames.{at1_all}
use Rattle.kind_laws.proofs.{Owns.{mine_stored, small_stored, there_stored}, Sum.covered_same, ExchangeFields.apart}
use Rattle.kind_laws.proofs.{Readings.{bodies, eras, queue_heads, slot_words, tags, tails}, Keep.others}
use Rattle.kind_laws.specs.OwnWords.{CloseNeeds, close_view, Closes}

-- the eras after a store of c's own
abbrev raised : (ℕ → ℕ → ℕ) → ℕ → ℕ → ℕ → ℕ → ℕ
raised era c x i j = cond (eqb c i && eqb c j) x (era i j)

raised_other : (era : ℕ → ℕ → ℕ) (c x i j : ℕ) → c ≢ j → raised era c x i j ≡ era i j
raised_other era c x i j n = let q : eqb c j ≡ false = ne_eqb c j n in rw q (both (eqb c i))
  where
    both : (b : Bool) → cond (b && false) x (era i j) ≡ era i j
    both true = refl
    both false = refl

raised_row : (era : ℕ → ℕ → ℕ) (c x i j : ℕ) → c ≢ i → raised era c x i j ≡ era i j
raised_row era c x i j n = let q : eqb c i ≡ false = ne_eqb c i n in rw q refl

raised_here : (era : ℕ → ℕ → ℕ) (c x : ℕ) → raised era c x c c ≡ x
raised_here era c x = rw (eq-eqb c c refl) refl

-- an era that was at most the own era is below the new one
bound_closed : (era : ℕ → ℕ → ℕ) (ops : ℕ → Op) (c : ℕ) (o : Op) (j x : ℕ) → Bound era (λ d. on_of (ops d)) j x → Bound (raised era c (era c c + 1)) (λ d. on_of (at1 ops c o d)) j x
bound_closed era ops c o j x h = elim (cases_eq c j) [
  | inl e ↦ (let q : raised era c (era c c + 1) j j ≡ era c c + 1 = ap (λ d. raised era c (era c c + 1) d d) (sym e) ∙ raised_here era c (era c c + 1) in
      let m : x ≤ era c c = subst (λ d. x ≤ era d d) (sym e) h.most in
      record { most = rw q (omega arith); equal = λ z. absurd (let y : x ≡ era c c + 1 = z ∙ q in omega arith) })
  | inr n ↦ (let q = raised_other era c (era c c + 1) j j n in
      record { most = rw q h.most; equal = λ z. let y = h.equal (z ∙ q) in (y.0, ap on_of (at1_other ops c o j n) ∙ y.1) })
]

committing_closed : (era : ℕ → ℕ → ℕ) (ops : ℕ → Op) (c : ℕ) (o : Op) (j x b : ℕ) → Committing era (λ d. on_of (ops d)) j x b → Committing (raised era c (era c c + 1)) (λ d. on_of (at1 ops c o d)) j x b
committing_closed era ops c o j x b h = elim (cases_eq c j) [
  | inl e ↦ (let q : raised era c (era c c + 1) j j ≡ era c c + 1 = ap (λ d. raised era c (era c c + 1) d d) (sym e) ∙ raised_here era c (era c c + 1) in
      let m : x ≤ era c c = subst (λ d. x ≤ era d d) (sym e) h.most in
      record { most = rw q (omega arith); equal = λ z. absurd (let y : x ≡ era c c + 1 = z ∙ q in omega arith) })
  | inr n ↦ (let q = raised_other era c (era c c + 1) j j n in
      record { most = rw q h.most; equal = λ z. ap on_of (at1_other ops c o j n) ∙ h.equal (z ∙ q) })
]

eras_closed : (n : ℕ) (head : ℕ → Header) (era : ℕ → ℕ → ℕ) (ops : ℕ → Op) (c : ℕ) (o : Op) → on_of o ≡ None → EraSound n head era (λ d. on_of (ops d)) → EraSound n head (raised era c (era c c + 1)) (λ d. on_of (at1 ops c o d))
eras_closed n head era ops c o none h =
    record {
      client = h.client;
      age = h.age;
      header = λ b l. committing_closed era ops c o (head b).client (head b).era b (h.header b l);
      row = λ i j li lj ne. elim (cases_eq c j) [
        | inl e ↦ (let q = raised_row era c (era c c + 1) i j (λ z. ne (sym z ∙ e)) in subst (λ x. Bound (raised era c (era c c + 1)) (λ d. on_of (at1 ops c o d)) j x) (sym q) (bound_closed era ops c o j (era i j) (h.row i j li lj ne)))
        | inr m ↦ (let q = raised_other era c (era c c + 1) i j m in subst (λ x. Bound (raised era c (era c c + 1)) (λ d. on_of (at1 ops c o d)) j x) (sym q) (bound_closed era ops c o j (era i j) (h.row i j li lj ne)))
      ];
      shown = λ d b l s. elim (cases_eq c d) [
        | inl e ↦ (let q : None ≡ Some b = sym none ∙ (ap on_of (sym (at1_here ops c o)) ∙ (ap (λ j. on_of (at1 ops c o j)) e ∙ s)) in absurd (let z : None ≡ Some b = q in cc))
        | inr m ↦ (let s' = h.shown d b l (ap on_of (sym (at1_other ops c o d m)) ∙ s) in elim s' [
          | inl t ↦ inl (t.0, t.1 ∙ sym (raised_other era c (era c c + 1) d d m))
          | inr t ↦ inr (t.0, t.1, t.2, rw (raised_other era c (era c c + 1) d d m, raised_other era c (era c c + 1) t.0 d m) t.3)
        ])
      ];
    }

fact_closed : (n : ℕ) (era : ℕ → ℕ → ℕ) (tail queue_head : ℕ → ℕ → ℕ) (class : ℕ → ℕ → ℕ) (ops : ℕ → Op) (c : ℕ) (o : Op) → (f : Fact) → FactAt n era (λ d. on_of (ops d)) tail queue_head class f → FactAt n (raised era c (era c c + 1)) (λ d. on_of (at1 ops c o d)) tail queue_head class f
fact_closed n era tail queue_head class ops c o (HeaderRead x) h = λ l. let q = h l in (q.0, bound_closed era ops c o _ _ q.1)
fact_closed n era tail queue_head class ops c o (Class s q k) h = h
fact_closed n era tail queue_head class ops c o (Counter p x) h = counter p h
  where
    counter : (p : Spot) → CounterAt era tail queue_head p x → CounterAt (raised era c (era c c + 1)) tail queue_head p x
    counter (Era i j) k = go (eqb c i && eqb c j) refl
      where
        go : (b : Bool) → (eqb c i && eqb c j) ≡ b → x ≤ cond b (era c c + 1) (era i j)
        go true e = let q = and_parts (eqb c i) (eqb c j) e in let m : x ≤ era c c = subst (λ a. x ≤ era a c) (sym (eqb-true c i q.0)) (subst (λ a. x ≤ era i a) (sym (eqb-true c j q.1)) k) in omega arith
        go false e = k
    counter (Tail s r) k = k
    counter (QueueHead s r) k = k
    counter _ k = tt

-- what closing leaves
pub record AfterClose (g : Geometry) (class : ℕ → ℕ → ℕ) (redo more own : ℕ) (x : Words) (o o' : Op) : Type 0 where
  pub on : on_of o' ≡ None
  pub held_over : held_over_of o' ≡ held_over_of o
  pub quiet : cover_of o' ≡ Quiet
  pub covers : (y : ℕ) → y ≡ word_at x (slot_of o) → cover (cover_of o) (slot_of o) y ≡ y
  pub room : room_of o' + 1 ≤ room_of o
  pub tie : OpTie g class redo more (own + 1) x o'
  pub slot : is_op o' ≡ true → slot_of o' ≡ slot_of o
  pub was : is_op o ≡ true

closed : (g : Geometry) (class : ℕ → ℕ → ℕ) (redo more own : ℕ) (x : Words) (o o' : Op) → Closes o o' → OpTie g class redo more own x o → AfterClose g class redo more own x o o'
closed g class redo more own x (Alloc Written p b e) o' k h = subst (AfterClose g class redo more own x (Alloc Written p b e)) (sym k) (record { on = refl; held_over = refl; quiet = refl; covers = covers; room = omega arith; tie = λ k. (let z = kind_told g.wide redo more _ h.spelled k in cc); slot = λ i. cc; was = refl })
  where
    covers : (y : ℕ) → y ≡ word_at x p → cond (same_spot p p) b y ≡ y
    covers y q = cond-true (same_spot p p) b y (same_spot_self p) ∙ (sym h.word ∙ sym q)
closed g class redo more own x (Up Written p b e) o' k h = subst (AfterClose g class redo more own x (Up Written p b e)) (sym k) (record { on = refl; held_over = refl; quiet = refl; covers = covers; room = omega arith; tie = λ k. (let z = kind_told g.wide redo more _ h.spelled k in cc); slot = λ i. cc; was = refl })
  where
    covers : (y : ℕ) → y ≡ word_at x p → cond (same_spot p p) b y ≡ y
    covers y q = cond-true (same_spot p p) b y (same_spot_self p) ∙ (sym h.word ∙ sym q)
closed g class redo more own x (Down Written p b e) o' k h = subst (AfterClose g class redo more own x (Down Written p b e)) (sym k) (record { on = refl; held_over = refl; quiet = refl; covers = covers; room = omega arith; tie = λ k. (let z = kind_told g.wide redo more _ h.spelled k in cc); slot = λ i. cc; was = refl })
  where
    covers : (y : ℕ) → y ≡ word_at x p → cond (same_spot p p) 0 y ≡ y
    covers y q = cond-true (same_spot p p) 0 y (same_spot_self p) ∙ (sym h.word ∙ sym q)
closed g class redo more own x (Change (Raising Written) p a b e) o' k h = subst (AfterClose g class redo more own x (Change (Raising Written) p a b e)) (sym k) (record { on = refl; held_over = refl; quiet = refl; covers = covers; room = omega arith; tie = record { spelled = h.spelled ∙ ap (λ z. Some (redos.Change z (spot_address g p) a b)) twice; blocks = h.blocks; current = ap (λ z. z + 1) h.current; at = h.at; word = h.word }; slot = λ i. refl; was = refl })
  where
    covers : (y : ℕ) → y ≡ word_at x p → cond (same_spot p p) b y ≡ y
    covers y q = cond-true (same_spot p p) b y (same_spot_self p) ∙ (sym h.word ∙ sym q)

    twice : odd e ≡ odd (e + 1 + 1)
    twice = ap (λ z. eqb z 1) (let q : e % 2 ≡ (e + 1 + 1) % 2 = omega arith in q)
closed g class redo more own x (Change (Lowering Closed) p a b e) o' k h = subst (AfterClose g class redo more own x (Change (Lowering Closed) p a b e)) (sym k) (record { on = refl; held_over = refl; quiet = refl; covers = λ y q. refl; room = omega arith; tie = λ k. (change_told g.wide redo more _ _ _ _ h.spelled).1 ∙ ap (λ z. odd (z + 1)) h.current; slot = λ i. cc; was = refl })
closed g class redo more own x (Change (Raising Begun) p a b e) o' k h = absurd k
closed g class redo more own x (Change (Raising Committed) p a b e) o' k h = absurd k
closed g class redo more own x (Change (Lowering Open) p a b e) o' k h = absurd k
closed g class redo more own x (Alloc Begun p b e) o' k h = absurd k
closed g class redo more own x (Alloc Committed p b e) o' k h = absurd k
closed g class redo more own x (Up Begun p b e) o' k h = absurd k
closed g class redo more own x (Up Committed p b e) o' k h = absurd k
closed g class redo more own x (Down Begun p b e) o' k h = absurd k
closed g class redo more own x (Down Committed p b e) o' k h = absurd k
closed g class redo more own x Nothing o' k h = absurd k

allowed : (c : ℕ) (o o' : Op) → Closes o o' → Allowed c o → Allowed c o'
allowed c (Alloc Written p b e) o' k a = subst (Allowed c) (sym k) tt
allowed c (Up Written p b e) o' k a = subst (Allowed c) (sym k) tt
allowed c (Down Written p b e) o' k a = subst (Allowed c) (sym k) tt
allowed c (Change (Raising Written) p i b e) o' k a = subst (Allowed c) (sym k) a
allowed c (Change (Lowering Closed) p i b e) o' k a = subst (Allowed c) (sym k) tt
allowed c _ o' k a = absurd k

-- closing leaves the targets, and the references held over
module _ (g : Geometry) (w : Spot → ℕ) (v : View) (c : ℕ) (o : Op) (h : HeldAt g w v) (a : CloseNeeds g v c o) where
  abbrev v' : View
  v' = close_view v c (w (Era c c) + 1) o

  after : AfterClose g (λ i j. w (Page i j)) (w (Redo c)) (w (RedoMore c)) (w (Era c c)) (words_of g.wide w) (v.op c) o
  after = closed g (λ i j. w (Page i j)) (w (Redo c)) (w (RedoMore c)) (w (Era c c)) (words_of g.wide w) (v.op c) o a.op (h.op c a.inside)

  pub close_held_overs : held_overs v' ≡ held_overs v
  close_held_overs = fun_ext (λ d. at1_all (λ (i : ℕ) (x : Op). held_over_of x ≡ held_over_of (v.op i)) v.op c o d after.held_over (λ _. refl))

  covers_slot : (d : ℕ) → d < g.clients → d ≢ c → (y : ℕ) → cover (cover_of (v.op d)) (slot_of (v.op c)) y ≡ y
  covers_slot d l n y = apart g.wide d (λ i. header_of (w (Head i))) (λ i. w (Tag i)) (v.latch d) (λ i j. w (Tail i j)) (λ i j. w (QueueHead i j)) (reach_of (targets g w v) (λ i j. w (Tail i j)) (λ i j. w (QueueHead i j)) v.looks d)
      (v.op d) (slot_of (v.op c)) (h.slots d l) (λ x. n (sym (one_holder g w v h c d (slot_of (v.op c)) a.inside l (h.slots c a.inside after.was) x))) y

  abbrev cov : ℕ → Cover
  cov = λ d. cover_of (v.op d)

  abbrev cov' : ℕ → Cover
  cov' = λ d. cover_of (v'.op d)

  -- what is covered stays, now by the word itself
  same_at : (q : Spot) → covered cov' g.clients q (word_at (words_of g.wide w) q) ≡ covered cov g.clients q (word_at (words_of g.wide w) q)
  same_at q = both (same_spot (slot_of (v.op c)) q) refl
    where
      at_slot : covered cov' g.clients (slot_of (v.op c)) (word_at (words_of g.wide w) (slot_of (v.op c))) ≡ covered cov g.clients (slot_of (v.op c)) (word_at (words_of g.wide w) (slot_of (v.op c)))
      at_slot =
          covered_none g.clients (slot_of (v.op c)) (word_at (words_of g.wide w) (slot_of (v.op c))) cov' (λ d l y. elim (cases_eq c d) [
            | inl x ↦ subst (λ j. cover (cov' j) (slot_of (v.op c)) y ≡ y) x (ap (λ k. cover (cover_of k) (slot_of (v.op c)) y) (at1_here v.op c o) ∙ ap (λ k. cover k (slot_of (v.op c)) y) after.quiet)
            | inr n ↦ ap (λ k. cover (cover_of k) (slot_of (v.op c)) y) (at1_other v.op c o d n) ∙ covers_slot d l (λ z. n (sym z)) y
          ])
          ∙ sym (covered_alone g.clients c (slot_of (v.op c)) (word_at (words_of g.wide w) (slot_of (v.op c))) cov a.inside covers_slot ∙ after.covers (word_at (words_of g.wide w) (slot_of (v.op c))) refl)

      both : (b : Bool) → same_spot (slot_of (v.op c)) q ≡ b → covered cov' g.clients q (word_at (words_of g.wide w) q) ≡ covered cov g.clients q (word_at (words_of g.wide w) q)
      both true e = subst (λ k. covered cov' g.clients k (word_at (words_of g.wide w) k) ≡ covered cov g.clients k (word_at (words_of g.wide w) k)) (same_spot_is (slot_of (v.op c)) q e) at_slot
      both false e = covered_same g.clients q (word_at (words_of g.wide w) q) cov cov' (λ d l y. at1_all (λ (j : ℕ) (k : Op). cover (cover_of k) q y ≡ cover (cover_of (v.op j)) q y) v.op c o d (ap (λ k. cover k q y) after.quiet ∙ sym (cover_slot (v.op c) q e y)) (λ _. refl))

  same : (q : Spot) → targets g (upd w (Era c c) (w (Era c c) + 1)) v' q ≡ targets g w v q
  same (Body d j) = ap (λ z. cond (ltb j ((words_of g.wide w).refs d)) z 0) (same_at (Body d j))
  same (Home d) = same_at (Home d)
  same (Root d l) = same_at (Root d l)
  same (Slot s r l) = same_at (Slot s r l)
  same _ = refl

  pub close_targets : targets g (upd w (Era c c) (w (Era c c) + 1)) v' ≡ targets g w v
  close_targets = fun_ext same

pub close_kept : (g : Geometry) (w : Spot → ℕ) (v : View) (c : ℕ) (o : Op) → HeldAt g w v → CloseNeeds g v c o → HeldAt g (upd w (Era c c) (w (Era c c) + 1)) (close_view v c (w (Era c c) + 1) o)
close_kept g w v c o h a =
    record {
      fits = h.fits;
      small = small_stored w (Era c c) (w (Era c c) + 1) (2 ^ 64) (let q = (h.own c a.inside).room in omega arith) h.small;
      there = there_stored (IsAt g (classes w)) w (Era c c) (w (Era c c) + 1) (h.there (Era c c) (λ z. let q = (h.own c a.inside).some in omega arith)) h.there;
      spare = h.spare;
      unused = h.unused;
      sizes = h.sizes;
      mine = mine_stored w v.own c g.clients (Era c c) (w (Era c c) + 1) (eq-eqb c c refl) a.inside h.mine;
      state = h.state;
      latch = h.latch;
      segments = h.segments;
      dying = h.dying;
      making = h.making;
      blocks = h.blocks;
      era = eras_closed g.clients (headers w) (eras w) v.op c o cl.on h.era;
      own = λ d l. elim (cases_eq c d) [
        | inl x ↦ subst (λ j. OwnSound (eras' j j) (v'.op j)) x (rw (raised_here (eras w) c (w (Era c c) + 1), at1_here v.op c o) (let q = h.own c a.inside in let r = cl.room in record { some = omega arith; room = (let y = q.room in omega arith) }))
        | inr n ↦ rw (raised_other (eras w) c (w (Era c c) + 1) d d n, at1_other v.op c o d n) (h.own d l)
      ];
      op = λ d l. elim (cases_eq c d) [
        | inl x ↦ subst (λ j. OpTie g (classes w) (w (Redo j)) (w (RedoMore j)) (eras' j j) (words_of g.wide w) (v'.op j)) x (subst (λ z. OpTie g (classes w) (w (Redo c)) (w (RedoMore c)) z (words_of g.wide w) (v'.op c)) (sym (raised_here (eras w) c (w (Era c c) + 1))) (subst (OpTie g (classes w) (w (Redo c)) (w (RedoMore c)) (w (Era c c) + 1) (words_of g.wide w)) (sym (at1_here v.op c o)) cl.tie))
        | inr n ↦ subst (λ z. OpTie g (classes w) (w (Redo d)) (w (RedoMore d)) z (words_of g.wide w) (v'.op d)) (sym (raised_other (eras w) c (w (Era c c) + 1) d d n)) (subst (OpTie g (classes w) (w (Redo d)) (w (RedoMore d)) (w (Era d d)) (words_of g.wide w)) (sym (at1_other v.op c o d n)) (h.op d l))
      ];
      redo = h.redo;
      allowed = λ d. at1_all (λ (j : ℕ) (k : Op). j < g.clients → Allowed j k) v.op c o d (λ l. allowed c (v.op c) o a.op (h.allowed c l)) (λ n. h.allowed d);
      count = subst (λ (t : Spot → ℕ). CountSound g (classes w) (headers w) t (held_overs v')) (sym path) (subst (λ (l : ℕ → ℕ). CountSound g (classes w) (headers w) t l) (sym held_over) h.count);
      slots = subst (λ (t : Spot → ℕ). (d : ℕ) → d < g.clients → is_op (v'.op d) ≡ true → SlotOf g.wide d (headers w) (tags w) (v.latch d) (tails w) (queue_heads w) (reach_of t (tails w) (queue_heads w) v.looks d) (slot_of (v'.op d))) (sym path)
          (λ d. at1_all (λ (j : ℕ) (k : Op). j < g.clients → is_op k ≡ true → SlotOf g.wide j (headers w) (tags w) (v.latch j) (tails w) (queue_heads w) (reach_of t (tails w) (queue_heads w) v.looks j) (slot_of k)) v.op c o d
          (λ l is. subst (At c) (sym (cl.slot is)) (h.slots c l cl.was)) (λ n. h.slots d));
      looks = subst (λ (t : Spot → ℕ). (d : ℕ) → d < g.clients → LooksSound (λ a. t (Home a)) (λ b i. t (Body b i)) (λ b. tag_author g.wide (w (Tag b))) (v.latch d) (named_by t (tails w) (queue_heads w) d) [] (v.looks d)) (sym path) h.looks;
      lanes = subst (λ (t : Spot → ℕ). (i j : ℕ) → i < g.clients → j < g.clients → i ≢ j → LaneSound (λ k. t (Slot i j k)) (tails w i j) (queue_heads w i j) (v.sent i j) (v.unsent i j) (v.received j i) (v.untaken j i)) (sym path) h.lanes;
      known = subst (λ (t : Spot → ℕ). (d : ℕ) → d < g.clients → All (λ (s : Stored). KnownAt g.wide d (tags w) (bodies w) (slot_words w) (tails w) (queue_heads w) (v.untaken d) (v.latch d) (reach_of t (tails w) (queue_heads w) v.looks d) (v.dying d) s.spot s.value) (v.known d)) (sym path) h.known;
      facts = λ d l. All-weaker _ _ (fact_closed g.clients (eras w) (tails w) (queue_heads w) (classes w) v.op c o) (v.facts d) (h.facts d l);
      zeros = h.zeros;
      test = λ d l. elim (cases_eq c d) [
        | inl x ↦ subst (λ i. TestAt g.clients eras' (ons v' i) i (v'.test i)) x (rw (eq-eqb c c refl) tt)
        | inr n ↦ test d n (v'.test d) (at1_other v.test c None d n) (ons v' d) (ap on_of (at1_other v.op c o d n)) (h.test d l)
      ];
      fresh = others _ _ v.status g.clients c h.fresh a.acts (λ d n x. rw (ne_eqb c d n) x);
      gone = others _ _ v.status g.clients c h.gone a.here (λ d n x. rw (ne_eqb c d n) x);
      self_lanes = subst (λ (t : Spot → ℕ). (d : ℕ) → d < g.clients → IsUnusedLane (tails w d d) (queue_heads w d d) (λ k. t (Slot d d k))) (sym path) h.self_lanes;
      no_queue = h.no_queue;
      tails = λ d r l lr. elim (cases_eq c d) [
        | inl x ↦ subst (λ j. TailSound j r (eras' j j) (w (Tail j r)) (v.unsent j r) (v'.op j)) x (subst (λ z. TailSound c r z (w (Tail c r)) (v.unsent c r) (v'.op c)) (sym (raised_here (eras w) c (w (Era c c) + 1))) (let q = (h.tails c r a.inside lr).0 in (omega arith, λ _ _. omega arith)))
        | inr n ↦ subst (λ z. TailSound d r z (w (Tail d r)) (v.unsent d r) (v'.op d)) (sym (raised_other (eras w) c (w (Era c c) + 1) d d n)) (subst (TailSound d r (w (Era d d)) (w (Tail d r)) (v.unsent d r)) (sym (at1_other v.op c o d n)) (h.tails d r l lr))
      ];
      parts = h.parts;
      part = subst (λ (t : Spot → ℕ). (d : ℕ) → d < g.clients → PartTie (contents_of g.wide w t) d (t (Home d)) (v.part d)) (sym path) h.part;
      queued = subst (λ (t : Spot → ℕ). (d : ℕ) → d < g.clients → is_loose (v.part d) ≡ false → (s r k : ℕ) → t (Slot s r k) ≢ 0 → HasShape (contents_of g.wide w t) 0 1 (t (Slot s r k))) (sym path) h.queued;
      values = subst (λ (t : Spot → ℕ). (d : ℕ) → d < g.clients → All (ValueAt (contents_of g.wide w t) (reach_of t (tails w) (queue_heads w) v.looks d)) (v.values d)) (sym path) h.values;
      made = subst (λ (t : Spot → ℕ). (d : ℕ) → d < g.clients → All (MadeAt (headers w) (λ k. t (Root d k))) (v.made d)) (sym path) h.made;
    }
  where
    v' : View
    v' = close_view v c (w (Era c c) + 1) o

    t : Spot → ℕ
    t = targets g w v

    eras' : ℕ → ℕ → ℕ
    eras' = raised (eras w) c (w (Era c c) + 1)

    cl : AfterClose g (classes w) (w (Redo c)) (w (RedoMore c)) (w (Era c c)) (words_of g.wide w) (v.op c) o
    cl = after g w v c o h a

    At : ℕ → Spot → Type 0
    At d = SlotOf g.wide d (headers w) (tags w) (v.latch d) (tails w) (queue_heads w) (reach_of t (tails w) (queue_heads w) v.looks d)

    held_over : held_overs v' ≡ held_overs v
    held_over = close_held_overs g w v c o h a

    path : targets g (upd w (Era c c) (w (Era c c) + 1)) v' ≡ t
    path = close_targets g w v c o h a

    test : (d : ℕ) → c ≢ d → (x : Option Test) → x ≡ v.test d → (on : Option ℕ) → on ≡ ons v d → TestAt g.clients (eras w) (ons v d) d (v.test d) → TestAt g.clients eras' on d x
    test d n x e on q k = subst (TestAt g.clients eras' on d) (sym e) (go (v.test d) k)
      where
        go : (y : Option Test) → TestAt g.clients (eras w) (ons v d) d y → TestAt g.clients eras' on d y
        go None z = tt
        go (Some y) z = λ s. let r = z (sym q ∙ s) in (r.0, r.1, r.2, r.3, rw (raised_other (eras w) c (w (Era c c) + 1) d d n, raised_other (eras w) c (w (Era c c) + 1) r.0 d n) r.4)
