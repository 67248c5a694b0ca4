-- the store of a tail or a head that rises keeps the invariant: what both share, and what each gives
use Rattle.std.proofs.Math.Path.{fun_ext}
use Rattle.std.proofs.Common.{◌≡◌, ◌≢◌, ℕ, ◌%◌, ◌^◌, ◌<◌, ◌≤◌, sym, ap, ◌∙◌, arith, true, subst, inl, inr, List, [], ◌∷◌, Option, None}
use Rattle.std.proofs.lemmas.{List.Elements.All-weaker, Bool.{cases_eq, true≢false, ne_eqb}}
use Rattle.shm_words.specs.{declared.geometry.Geometry.Geometry, Tags.tag_author}
use Rattle.shm_graph.specs.declared.spot.Spot.{Spot}
use Rattle.shm_graph.specs.declared.spot.Spot.TheVariants.{Home, Era, Root, Tail, QueueHead, Slot, Page, Tag, Body}
use Rattle.shm_graph.specs.declared.memo.{Op.TheVariants.Nothing, Stored.Stored, Test.Test, Fact.Fact}
use Rattle.shm_graph.specs.{declared.memo.Fact.TheVariants.{Header as HeaderRead, Counter, Class}, Spots.{upd, IsAt}}
use Rattle.shm_graph.specs.{Ops.{slot_of, is_op}, Views.{View, at1, targets, ons, own_word, owner_is}}
use Rattle.shm_graph.specs.Tables.{contents_of}
use Rattle.shm_graph.specs.Held.{HeldAt, FactAt, CounterAt, LaneSound, SlotOf, reach_of, named_by, KnownAt, TestAt, TailSound, ValueAt}
use Rattle.shm_graph.specs.Blocks.{classes, headers}
use Rattle.shm_graph.specs.declared.memo.Status.TheVariants as status
use Rattle.shm_graph.proofs.Memos.Frames.{at1_all}
use Rattle.kind_laws.proofs.{Owns.{mine_stored, small_stored, there_stored}, ExchangeFields.looks_kept}
use Rattle.kind_laws.proofs.Readings.{bodies, eras, queue_heads, slot_words, tags, tails}

-- the words with these tails and heads
abbrev pub with_counters : (Spot → ℕ) → (ℕ → ℕ → ℕ) → (ℕ → ℕ → ℕ) → Spot → ℕ
with_counters w tail queue_head (Tail i j) = tail i j
with_counters w tail queue_head (QueueHead i j) = queue_head i j
with_counters w tail queue_head p = w p

-- what becomes of the words and of what was sent and received
pub record Counters : Type 0 where
  pub tail : ℕ → ℕ → ℕ
  pub queue_head : ℕ → ℕ → ℕ
  pub sent : ℕ → ℕ → List ℕ
  pub unsent : ℕ → ℕ → ℕ
  pub received : ℕ → ℕ → List ℕ
  pub untaken : ℕ → ℕ → ℕ

-- the memos after c stored x at p
abbrev pub counted_view : View → ℕ → Spot → ℕ → Counters → View
counted_view v c p x m =
    record v {
      own = at1 v.own c (record { spot = p; value = x } ∷ v.own c);
      sent = m.sent;
      unsent = m.unsent;
      received = m.received;
      untaken = m.untaken;
      test = at1 v.test c None;
    }

pub record Rises (g : Geometry) (w : Spot → ℕ) (v : View) (c : ℕ) (p : Spot) (x : ℕ) (m : Counters) : Type 0 where
  pub inside : c < g.clients
  pub acts : v.status c ≢ status.New
  pub here : v.status c ≢ status.Gone
  pub op : v.op c ≡ Nothing
  pub place : IsAt g (λ i j. w (Page i j)) p
  pub owns : owner_is c p ≡ true
  pub small : x < 2 ^ 64
  pub words : (q : Spot) → upd w p x q ≡ with_counters w m.tail m.queue_head q
  -- tails and heads don't fall, and only c's own may rise
  pub tails_rise : (i j : ℕ) → w (Tail i j) ≤ m.tail i j
  pub heads_rise : (i j : ℕ) → w (QueueHead i j) ≤ m.queue_head i j
  pub other_tails : (i j : ℕ) → c ≢ i → m.tail i j ≡ w (Tail i j)
  pub other_heads : (i j : ℕ) → c ≢ j → m.queue_head i j ≡ w (QueueHead i j)
  pub self_lanes : (d : ℕ) → (m.tail d d ≡ w (Tail d d)) × (m.queue_head d d ≡ w (QueueHead d d))
  -- a head at which nothing was taken stays, and its block is named as before
  pub item : (d i : ℕ) → v.untaken d i ≡ 0 → (m.queue_head i d ≡ w (QueueHead i d)) × (m.untaken d i ≡ 0)
  pub named : (d b : ℕ) → named_by (targets g w v) (λ i j. w (Tail i j)) (λ i j. w (QueueHead i j)) d b → named_by (targets g w v) m.tail m.queue_head d b
  pub none_unsent : (d i : ℕ) → v.unsent d i ≡ 0 → m.unsent d i ≡ 0
  pub lanes : (i j : ℕ) → i < g.clients → j < g.clients → i ≢ j → LaneSound (λ k. targets g w v (Slot i j k)) (m.tail i j) (m.queue_head i j) (m.sent i j) (m.unsent i j) (m.received j i) (m.untaken j i)
  pub tails : (d i : ℕ) → d < g.clients → i < g.clients → TailSound d i (w (Era d d)) (m.tail d i) (m.unsent d i) (v.op d)

module _ (g : Geometry) (w : Spot → ℕ) (v : View) (c : ℕ) (p : Spot) (x : ℕ) (m : Counters) (h : HeldAt g w v) (a : Rises g w v c p x m) where
  abbrev w' : Spot → ℕ
  w' = with_counters w m.tail m.queue_head

  abbrev t : Spot → ℕ
  t = targets g w v

  abbrev Reach : ℕ → ℕ → Type 0
  Reach d = reach_of t (tails w) (queue_heads w) v.looks d

  abbrev Reach' : ℕ → ℕ → Type 0
  Reach' d = reach_of t m.tail m.queue_head v.looks d

  same : upd w p x ≡ w'
  same = fun_ext a.words

  reach : (d b : ℕ) → Reach d b → Reach' d b
  reach d b (inl y) = inl (a.named d b y)
  reach d b (inr y) = inr y

  slots : (d : ℕ) (q : Spot) → c ≢ d → SlotOf g.wide d (headers w) (tags w) (v.latch d) (tails w) (queue_heads w) (Reach d) q → SlotOf g.wide d (headers w) (tags w) (v.latch d) m.tail m.queue_head (Reach' d) q
  slots d (Root i j) n y = y
  slots d (Home i) n y = y
  slots d (Slot i j k) n y = (
    y.0,
    elim y.1 [
      | inl u ↦ (let e = a.other_tails i j (λ z. n (z ∙ u.0)) in inl (u.0, u.1 ∙ ap (λ z. z % 8) (sym e), (let q = a.heads_rise i j in let z = u.2 in omega arith)))
      | inr u ↦ (let e = a.other_heads i j (λ z. n (z ∙ u.0)) in inr (u.0, u.1 ∙ ap (λ z. z % 8) (sym e), (let q = a.tails_rise i j in let z = u.2 in omega arith)))
    ],
  )
  slots d (Body b i) n y = (y.0, y.1, elim y.2 [ inl u ↦ inl u | inr u ↦ inr (u.0, u.1, reach d b u.2) ])
  slots d _ n y = absurd y

  known : (d : ℕ) (q : Spot) (y : ℕ) → KnownAt g.wide d (tags w) (bodies w) (slot_words w) (tails w) (queue_heads w) (v.untaken d) (v.latch d) (Reach d) (v.dying d) q y → KnownAt g.wide d (tags w) (bodies w) (slot_words w) m.tail m.queue_head (m.untaken d) (v.latch d) (Reach' d) (v.dying d) q y
  known d (Tag b) y k = (k.0, elim k.1 [ inl u ↦ inl u | inr u ↦ inr (reach d b u) ])
  known d (Body b i) y k = (k.0, elim k.1 [ inl u ↦ inl u | inr u ↦ inr (reach d b u.0, u.1) ])
  known d (Slot i j l) y k = let e = a.item d i k.4 in (k.0, k.1, k.2 ∙ ap (λ z. z % 8) (sym e.0), (let q = a.tails_rise i d in let z = k.3 in let s = e.0 in omega arith), e.1, k.5, k.6)
  known d _ y k = absurd k

  fact : (f : Fact) → FactAt g.clients (eras w) (ons v) (tails w) (queue_heads w) (classes w) f → FactAt g.clients (eras w) (ons v) m.tail m.queue_head (classes w) f
  fact (HeaderRead y) k = k
  fact (Class i j y) k = k
  fact (Counter q y) k = counter q k
    where
      counter : (q : Spot) → CounterAt (eras w) (tails w) (queue_heads w) q y → CounterAt (eras w) m.tail m.queue_head q y
      counter (Era i j) k = k
      counter (Tail i j) k = let z = a.tails_rise i j in omega arith
      counter (QueueHead i j) k = let z = a.heads_rise i j in omega arith
      counter _ k = tt

  pub counter_kept : HeldAt g (upd w p x) (counted_view v c p x m)
  counter_kept = subst (λ f. HeldAt g f (counted_view v c p x m)) (sym same) (record {
    fits = h.fits;
    small = subst (λ (f : Spot → ℕ). (q : Spot) → f q < 2 ^ 64) same (small_stored w p x (2 ^ 64) a.small h.small);
    there = subst (λ (f : Spot → ℕ). (q : Spot) → f q ≢ 0 → IsAt g (classes w) q) same (there_stored (IsAt g (classes w)) w p x a.place h.there);
    spare = h.spare;
    unused = h.unused;
    sizes = h.sizes;
    mine = subst (λ (f : Spot → ℕ). (d : ℕ) → d < g.clients → (q : Spot) → owner_is d q ≡ true → own_word (at1 v.own c (record { spot = p; value = x } ∷ v.own c) d) q ≡ f q) same (mine_stored w v.own c g.clients p x a.owns a.inside h.mine);
    state = h.state;
    latch = h.latch;
    segments = h.segments;
    dying = h.dying;
    making = h.making;
    blocks = h.blocks;
    era = h.era;
    own = h.own;
    op = h.op;
    redo = h.redo;
    allowed = h.allowed;
    count = h.count;
    slots = λ d l is. slots d (slot_of (v.op d)) (λ e. true≢false (sym is ∙ (ap (λ i. is_op (v.op i)) (sym e) ∙ ap is_op a.op))) (h.slots d l is);
    looks = λ d l. looks_kept (λ i. t (Home i)) (λ i. t (Home i)) (λ i j. t (Body i j)) (λ i j. t (Body i j)) (λ i. tag_author g.wide (w (Tag i))) (v.latch d) (named_by t (tails w) (queue_heads w) d) (named_by t m.tail m.queue_head d) (λ _ _ _ y. y) (λ _ _ _ _ y. y) (a.named d) [] (v.looks d) (h.looks d l);
    lanes = a.lanes;
    known = λ d l. All-weaker _ _ (λ (s : Stored). known d s.spot s.value) (v.known d) (h.known d l);
    facts = λ d l. All-weaker _ _ fact (v.facts d) (h.facts d l);
    zeros = h.zeros;
    test = λ d. at1_all (λ (i : ℕ) (y : Option Test). i < g.clients → TestAt g.clients (eras w) (ons v i) i y) v.test c None d (λ l. tt) (λ _. h.test d);
    fresh = λ d l st. elim (cases_eq c d) [
      | inl e ↦ absurd (a.acts (ap v.status e ∙ st))
      | inr n ↦ rw (ne_eqb c d n) (let q = h.fresh d l st in record { words = q.words; idle = q.idle; latched = q.latched; looked = q.looked; made = q.made; segments = q.segments; dyings = q.dyings; sends = λ i. a.none_unsent d i (q.sends i); takes = λ i. (a.item d i (q.takes i)).1 })
    ];
    gone = λ d l st. elim (cases_eq c d) [
      | inl e ↦ absurd (a.here (ap v.status e ∙ st))
      | inr n ↦ rw (ne_eqb c d n) (let q = h.gone d l st in record { roots = q.roots; hold = q.hold; idle = q.idle; latched = q.latched; segments = q.segments; dyings = q.dyings; sends = λ i. a.none_unsent d i (q.sends i); takes = λ i. (a.item d i (q.takes i)).1 })
    ];
    self_lanes = λ d l. let q = h.self_lanes d l in let e = a.self_lanes d in (e.0 ∙ q.0, e.1 ∙ q.1, q.2);
    no_queue = λ d l i y. let q = h.no_queue d l i y in (a.none_unsent d i q.0, (a.item d i q.1).1);
    tails = a.tails;
    parts = h.parts;
    part = h.part;
    queued = h.queued;
    values = λ d l. All-weaker (ValueAt (contents_of g.wide w t) (Reach d)) (ValueAt (contents_of g.wide w t) (Reach' d)) (λ b y. (y.0, reach d b y.1)) (v.values d) (h.values d l);
    made = h.made;
  })
