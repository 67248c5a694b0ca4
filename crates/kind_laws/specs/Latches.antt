-- the kinds of step of latches, and the load of a reference word under a latch: what each needs, and what it makes of the memos
use Rattle.std.specs.{Prelude.{◌≡◌, ◌≢◌, ℕ, ◌+◌, ◌<◌, List, [], ◌∷◌, ◌++◌, Some, None}, List.All}
use Rattle.shm_words.specs.{declared.geometry.Geometry.Geometry, Tags.{tag_refs, tag_author}}
use Rattle.shm_graph.specs.declared.spot.Spot.{Spot, TheVariants.{Hold, Latch, Tail, QueueHead, Slot, Page, Tag, Body}}
use Rattle.shm_graph.specs.{declared.memo.{Op.TheVariants.Nothing, Stored.Stored}, Spots.IsAt, Reach.learnt}
use Rattle.shm_graph.specs.{Views.{View, own_word, targets, at1}, Held.{KnownAt, ValueAt, reach_of}, Tables.contents_of}
use Rattle.shm_graph.specs.declared.memo.Status.TheVariants as status

-- ---- the latch is taken, and given back

pub record LatchNeeds (g : Geometry) (w : Spot → ℕ) (v : View) (c a : ℕ) : Type 0 where
  pub inside : c < g.clients
  pub acts : v.status c ≢ status.New
  pub here : v.status c ≢ status.Gone
  pub place : IsAt g (λ s q. w (Page s q)) (Latch a)
  pub op : v.op c ≡ Nothing
  pub none : v.latch c ≡ None
  pub free : w (Latch a) ≡ 0
  pub hold : own_word (v.own c) (Hold c) ≡ a + 1

abbrev pub latch_view : View → ℕ → ℕ → View
latch_view v c a =
    record v {
      latch = at1 v.latch c (Some a);
      test = at1 v.test c None;
    }

pub record BackNeeds (g : Geometry) (w : Spot → ℕ) (v : View) (c a : ℕ) (kept : List Stored) (values : List ℕ) : Type 0 where
  pub inside : c < g.clients
  pub acts : v.status c ≢ status.New
  pub here : v.status c ≢ status.Gone
  pub op : v.op c ≡ Nothing
  pub latch : v.latch c ≡ Some a
  -- what is kept of what is known, and of the value blocks, is in reach without looks
  pub knows : All (λ (s : Stored). KnownAt g.wide c (λ i. w (Tag i)) (λ i j. w (Body i j)) (λ i j l. w (Slot i j l)) (λ i j. w (Tail i j)) (λ i j. w (QueueHead i j)) (v.untaken c) None
      (reach_of (targets g w v) (λ i j. w (Tail i j)) (λ i j. w (QueueHead i j)) (λ d. []) c) (v.dying c) s.spot s.value) kept
  pub valued : All (ValueAt (contents_of g.wide w (targets g w v)) (reach_of (targets g w v) (λ i j. w (Tail i j)) (λ i j. w (QueueHead i j)) (λ d. []) c)) values

abbrev pub back_view : View → ℕ → List Stored → List ℕ → View
back_view v c kept values =
    record v {
      latch = at1 v.latch c None;
      looks = at1 v.looks c [];
      known = at1 v.known c kept;
      values = at1 v.values c values;
      test = at1 v.test c None;
    }

-- ---- a reference word of a block in reach is loaded under its author's latch

pub record LookNeeds (g : Geometry) (w : Spot → ℕ) (v : View) (c b i : ℕ) : Type 0 where
  pub inside : c < g.clients
  pub acts : v.status c ≢ status.New
  pub here : v.status c ≢ status.Gone
  pub op : v.op c ≡ Nothing
  pub latch : v.latch c ≡ Some (tag_author g.wide (w (Tag b)))
  pub reach : reach_of (targets g w v) (λ s r. w (Tail s r)) (λ s r. w (QueueHead s r)) v.looks c b
  pub refs : i < tag_refs g.wide (w (Tag b))
  pub some : w (Body b i) ≢ 0

abbrev pub look_view : View → ℕ → ℕ → ℕ → ℕ → View
look_view v c b i x =
    record v {
      looks = at1 v.looks c (v.looks c ++ record { block = x; from = Body b i } ∷ []);
      known = at1 v.known c (learnt (Body b i) x (v.known c));
      test = at1 v.test c None;
    }
