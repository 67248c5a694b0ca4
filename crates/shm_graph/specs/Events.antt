-- the graph of references, and what a word step may do to it
use Rattle.std.specs.Prelude.{◌≡◌, ◌≢◌, ℕ, ◌<◌, Bool, true, false, if◌then◌else◌}
use Rattle.shm_words.specs.{declared.geometry.Geometry.Geometry, Tags.{tag_refs, tag_shape, shape_author}}
use Rattle.shm_graph.specs.{declared.spot.Spot.{Spot, TheVariants.{Root, Tag, Body}}, Spots.upd}
use Rattle.shm_graph.specs.{Blocks.{IsFree, classes, headers}, Ops.indegree, Views.{View, at1, targets, held_overs}}

-- which blocks are live, what each holds (its numbers of words and its author: its tag without the link), what each spot names, and the references held over
pub record Graph : Type 0 where
  pub live : ℕ → Bool
  pub shape : ℕ → ℕ
  pub target : Spot → ℕ
  pub held_over : ℕ → ℕ

abbrev pub graph_of : Geometry → (Spot → ℕ) → View → Graph
graph_of g w v =
    record {
      live = λ b. (headers w b).live;
      shape = λ b. if (headers w b).live then tag_shape g.wide (w (Tag b)) else 0;
      target = targets g w v;
      held_over = held_overs v;
    }

-- the same graph
pub record IsSame (a b : Graph) : Type 0 where
  pub lives : (x : ℕ) → b.live x ≡ a.live x
  pub shapes : (x : ℕ) → b.shape x ≡ a.shape x
  pub targets : (p : Spot) → b.target p ≡ a.target p
  pub held_overs : (c : ℕ) → b.held_over c ≡ a.held_over c

-- what a word step does: nothing; a free block becomes live in a root; a reference is put into an empty slot, or taken out of one; the halves of a change; a zero-count block is freed
pub data Event : Type 0 where
  Nothing : Event
  Alloc : (c k b : ℕ) → Event
  Up : (c : ℕ) (p : Spot) (b : ℕ) → Event
  Down : (c : ℕ) (p : Spot) (b : ℕ) → Event
  ChangeUp : (c : ℕ) (p : Spot) (a b : ℕ) → Event
  ChangeDown : (c a : ℕ) → Event
  Free : (c b : ℕ) → Event

-- a block is live and its count isn't 0
abbrev pub IsCounted : (Spot → ℕ) → ℕ → Type 0
IsCounted w b = ((headers w b).live ≡ true) × ((headers w b).count ≢ 0)

-- the live blocks with one made live or freed, and their shapes
abbrev pub with_live : Graph → ℕ → Bool → ℕ → Graph
with_live a b l shape = record { live = at1 a.live b l; shape = at1 a.shape b shape; target = a.target; held_over = a.held_over }

abbrev pub with_target : Graph → Spot → ℕ → Graph
with_target a p x = record { live = a.live; shape = a.shape; target = upd a.target p x; held_over = a.held_over }

abbrev pub with_held_over : Graph → ℕ → ℕ → Graph
with_held_over a c x = record { live = a.live; shape = a.shape; target = a.target; held_over = at1 a.held_over c x }

-- the words w with the graph a before, and the graph b after
abbrev pub Happens : Geometry → (Spot → ℕ) → Event → Graph → Graph → Type 0
Happens g w Nothing a b = IsSame a b
Happens g w (Alloc c k x) a b =
    IsFree g w x × (indegree g (classes w) a.target a.held_over x ≡ 0) × (a.target (Root c k) ≡ 0)
    × ((shape : ℕ) × (shape_author shape ≡ c) × IsSame (with_target (with_live a x true shape) (Root c k) x) b)
    × ((i : ℕ) → b.target (Body x i) ≡ 0)
Happens g w (Up c p x) a b = (a.target p ≡ 0) × IsCounted w x × IsSame (with_target a p x) b
Happens g w (Down c p x) a b = (x ≢ 0) × (a.target p ≡ x) × IsSame (with_target a p 0) b
Happens g w (ChangeUp c p x y) a b = (a.target p ≡ x) × (x ≢ y) × IsCounted w y × (a.held_over c ≡ 0) × IsSame (with_held_over (with_target a p y) c x) b
Happens g w (ChangeDown c x) a b = (x ≢ 0) × (a.held_over c ≡ x) × IsSame (with_held_over a c 0) b
Happens g w (Free c x) a b =
    ((headers w x).live ≡ true) × ((headers w x).count ≡ 0) × ((headers w x).client ≡ c)
    × ((i : ℕ) → i < tag_refs g.wide (w (Tag x)) → a.target (Body x i) ≡ 0)
    × IsSame (with_live a x false 0) b
