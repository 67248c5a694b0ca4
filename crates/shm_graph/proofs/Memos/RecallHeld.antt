-- what a memo looks at, prepares and knows changes, and no word
use Rattle.std.proofs.Common.{◌≡◌, ℕ, ◌<◌, true, subst, []}
use Rattle.std.specs.List.{All}
use Rattle.shm_words.specs.{declared.geometry.Geometry.Geometry, Headers.header_of, Tags.tag_author}
use Rattle.shm_graph.specs.declared.spot.Spot.{Spot}
use Rattle.shm_graph.specs.declared.spot.Spot.TheVariants.{Home, Era, Root, Tail, QueueHead, Slot, Segment, Page, Head, Tag, Body}
use Rattle.shm_graph.specs.{declared.memo.Stored.Stored, Tables.contents_of, Ops.{is_op, slot_of}}
use Rattle.shm_graph.specs.Views.{View, ons, targets}
use Rattle.shm_graph.specs.Held.{HeldAt, MakingTie, SlotOf, LooksSound, KnownAt, FactAt, ZeroAt, TestAt, Fresh, ValueAt, MadeAt, named_by, reach_of}
use Rattle.shm_graph.specs.declared.memo.Status.TheVariants as status

-- the clauses of the invariant that read the looks, what is prepared and what is known
pub record Recalls (g : Geometry) (w : Spot → ℕ) (v : View) : Type 0 where
  pub making : (c : ℕ) → c < g.clients → MakingTie g (λ s q. w (Page s q)) (λ s. w (Segment s)) (λ b. w (Head b)) (λ b. w (Tag b)) (λ b i. w (Body b i)) c (v.making c)
  pub slots : (c : ℕ) → c < g.clients → is_op (v.op c) ≡ true → SlotOf g.wide c (λ b. header_of (w (Head b))) (λ b. w (Tag b)) (v.latch c) (λ s r. w (Tail s r)) (λ s r. w (QueueHead s r)) (reach_of (targets g w v) (λ s r. w (Tail s r)) (λ s r. w (QueueHead s r)) v.looks c) (slot_of (v.op c))
  pub looks : (c : ℕ) → c < g.clients → LooksSound (λ a. targets g w v (Home a)) (λ b i. targets g w v (Body b i)) (λ b. tag_author g.wide (w (Tag b))) (v.latch c) (named_by (targets g w v) (λ s r. w (Tail s r)) (λ s r. w (QueueHead s r)) c) [] (v.looks c)
  pub known : (c : ℕ) → c < g.clients → All (λ (k : Stored). KnownAt g.wide c (λ b. w (Tag b)) (λ b i. w (Body b i)) (λ s r k. w (Slot s r k)) (λ s r. w (Tail s r)) (λ s r. w (QueueHead s r)) (v.untaken c) (v.latch c) (reach_of (targets g w v) (λ s r. w (Tail s r)) (λ s r. w (QueueHead s r)) v.looks c) (v.dying c) k.spot k.value) (v.known c)
  pub facts : (c : ℕ) → c < g.clients → All (FactAt g.clients (λ i j. w (Era i j)) (ons v) (λ s r. w (Tail s r)) (λ s r. w (QueueHead s r)) (λ s q. w (Page s q))) (v.facts c)
  pub zeros : (c : ℕ) → c < g.clients → All (ZeroAt g (λ s q. w (Page s q)) (λ s. w (Segment s)) (λ b. w (Head b)) c) (v.zeros c)
  pub test : (c : ℕ) → c < g.clients → TestAt g.clients (λ i j. w (Era i j)) (ons v c) c (v.test c)
  pub fresh : (c : ℕ) → c < g.clients → v.status c ≡ status.New → Fresh c (v.own c) (v.op c) (v.latch c) (v.looks c) (v.making c) (v.owned c) (v.dying c) (v.unsent c) (v.untaken c)
  pub values : (c : ℕ) → c < g.clients → All (ValueAt (contents_of g.wide w (targets g w v)) (reach_of (targets g w v) (λ s r. w (Tail s r)) (λ s r. w (QueueHead s r)) v.looks c)) (v.values c)
  pub made : (c : ℕ) → c < g.clients → All (MadeAt (λ b. header_of (w (Head b))) (λ k. targets g w v (Root c k))) (v.made c)

-- the view u is v but for looks, what is prepared and what is known
abbrev pub recalled : View → View → View
recalled v u = record v { looks = u.looks; making = u.making; facts = u.facts; zeros = u.zeros; test = u.test; known = u.known; values = u.values; made = u.made }

pub memo_held : (g : Geometry) (w : Spot → ℕ) (v u : View) → HeldAt g w v → recalled v u ≡ u → Recalls g w u → HeldAt g w u
memo_held g w v u h same =
    subst (λ (z : View). Recalls g w z → HeldAt g w z) same (λ k. record {
      fits = h.fits;
      small = h.small;
      there = h.there;
      spare = h.spare;
      unused = h.unused;
      sizes = h.sizes;
      mine = h.mine;
      state = h.state;
      latch = h.latch;
      segments = h.segments;
      dying = h.dying;
      making = k.making;
      blocks = h.blocks;
      era = h.era;
      own = h.own;
      op = h.op;
      redo = h.redo;
      allowed = h.allowed;
      count = h.count;
      slots = k.slots;
      looks = k.looks;
      lanes = h.lanes;
      known = k.known;
      facts = k.facts;
      zeros = k.zeros;
      test = k.test;
      fresh = k.fresh;
      gone = h.gone;
      self_lanes = h.self_lanes;
      no_queue = h.no_queue;
      tails = h.tails;
      parts = h.parts;
      part = h.part;
      queued = h.queued;
      values = k.values;
      made = k.made;
    })
