-- the store of a committed op into its slot, at each kind of slot: what it needs, and what it makes of the memos
use Rattle.std.specs.Prelude.{◌≡◌, ◌≢◌, ℕ, ◌^◌, ◌<◌, ◌∷◌, None, ◌+◌, ◌≤◌, ◌&&◌, ◌==◌, if◌then◌else◌, ◌++◌}
use Rattle.shm_graph.specs.declared.{spot.Spot.{Spot, TheVariants.{Home, Slot, Root, Body}}, memo.Op.Op}
use Rattle.shm_graph.specs.declared.memo.{Op.TheVariants.{Alloc, Up, Down, Change}, First.First}
use Rattle.shm_graph.specs.declared.memo.First.TheVariants.{Begun, Committed, Written}
use Rattle.shm_graph.specs.{declared.memo.ChangeStage.TheVariants.Raising, Ops.slot_of, Views.{View, at1}, Reach.learnt}
use Rattle.shm_graph.specs.declared.memo.Status.TheVariants as status
use Rattle.shm_words.specs.declared.geometry.Geometry.{Geometry}

-- ---- the store of a committed op into its slot, a reference word of a block

-- an op that is committed, and may have written before, leaves one that has
abbrev pub WritesFrom : First → Op → ℕ → Op → ℕ → Type 0
WritesFrom Begun after new o x = ⊥
WritesFrom Committed after new o x = (o ≡ after) × (x ≡ new)
WritesFrom Written after new o x = (o ≡ after) × (x ≡ new)

-- the op o that has written x
abbrev pub Writes : Op → Op → ℕ → Type 0
Writes (Alloc s p b e) o x = WritesFrom s (Alloc Written p b e) b o x
Writes (Up s p b e) o x = WritesFrom s (Up Written p b e) b o x
Writes (Down s p b e) o x = WritesFrom s (Down Written p b e) 0 o x
Writes (Change (Raising s) p a b e) o x = WritesFrom s (Change (Raising Written) p a b e) b o x
Writes _ o x = ⊥

pub record BodyNeeds (g : Geometry) (v : View) (c b i x : ℕ) (o : Op) : Type 0 where
  pub inside : c < g.clients
  pub acts : v.status c ≢ status.New
  pub here : v.status c ≢ status.Gone
  pub slot : slot_of (v.op c) ≡ Body b i
  pub op : Writes (v.op c) o x
  pub small : x < 2 ^ 64

abbrev pub body_view : View → ℕ → ℕ → ℕ → ℕ → Op → View
body_view v c b i x o =
    record v {
      op = at1 v.op c o;
      known = at1 v.known c (learnt (Body b i) x (v.known c));
      test = at1 v.test c None;
    }

-- ---- the store of a committed op into its slot, a root

pub record RootNeeds (g : Geometry) (w : Spot → ℕ) (v : View) (c k x : ℕ) (o : Op) : Type 0 where
  pub inside : c < g.clients
  pub acts : v.status c ≢ status.New
  pub here : v.status c ≢ status.Gone
  pub slot : slot_of (v.op c) ≡ Root c k
  pub op : Writes (v.op c) o x
  pub small : x < 2 ^ 64

abbrev pub root_view : View → ℕ → ℕ → ℕ → Op → View
root_view v c k x o =
    record v {
      own = at1 v.own c (record { spot = Root c k; value = x } ∷ v.own c);
      op = at1 v.op c o;
      test = at1 v.test c None;
    }

-- ---- the own home

-- the committed op of a joined identity has its own home as its slot, and x as its new value
pub record HomeNeeds (g : Geometry) (w : Spot → ℕ) (v : View) (c x : ℕ) (o : Op) : Type 0 where
  pub inside : c < g.clients
  pub acts : v.status c ≢ status.New
  pub here : v.status c ≢ status.Gone
  pub slot : slot_of (v.op c) ≡ Home c
  pub op : Writes (v.op c) o x
  pub small : x < 2 ^ 64

-- the op is written, the home is an own word, and a commit test is over
abbrev pub home_view : View → ℕ → ℕ → Op → View
home_view v c x o =
    record v {
      own = at1 v.own c (record { spot = Home c; value = x } ∷ v.own c);
      op = at1 v.op c o;
      test = at1 v.test c None;
    }

-- ---- a slot of a queue

-- the committed op of a joined identity has slot k of the queue from s to r as its slot, and x as its new value
pub record QueueNeeds (g : Geometry) (w : Spot → ℕ) (v : View) (c s r k x : ℕ) (o : Op) : Type 0 where
  pub inside : c < g.clients
  pub acts : v.status c ≢ status.New
  pub here : v.status c ≢ status.Gone
  pub slot : slot_of (v.op c) ≡ Slot s r k
  pub op : Writes (v.op c) o x
  pub small : x < 2 ^ 64

-- the op is written and a commit test is over; what is known of head slots stays, since none that is known is stored
abbrev pub queue_view : View → ℕ → Op → View
queue_view v c o =
    record v {
      op = at1 v.op c o;
      test = at1 v.test c None;
    }
