-- what a tear-down does to the graph of references
use Rattle.std.specs.{Prelude.{◌≡◌, ℕ, ◌+◌, ◌≤◌, ◌⊎◌, List, [], ◌∷◌, ◌++◌, map}, List.Contains}
use Rattle.shm_graph.specs.{declared.{ask.Me.Me, spot.Spot.TheVariants.Body}, Events.Event}
use Rattle.shm_graph.specs.Events as event
use Rattle.shm_count.specs.declared.{point.Aim.TheVariants.Down, tear_point.{TearPoint.TearPoint, TearState.TearState}}
use Rattle.shm_count.specs.Step.Events.{step_event_at}
use Rattle.shm_count.specs.declared.tear_point.TearPoint.TheVariants as point

-- the event of a word step: that of a step down, or the freeing of the block
abbrev pub tear_event_at : Me → ℕ → TearPoint → ℕ → Event
tear_event_at me b (point.Down g i t y) n = step_event_at me (Down t) (Body b i) y n
tear_event_at me b (point.Free g) n = event.Free me.who b
tear_event_at me b y n = event.Nothing

abbrev pub tear_event : TearState → ℕ → Event
tear_event m n = tear_event_at m.me m.block m.point n

-- a tear-down before its first word step
abbrev pub tear_start : TearState → TearState
tear_start m = record m { block = m.first; point = point.Begin }

-- ---- walks

-- how a block is torn down: one reference after another goes, and in the end the block is freed. Word i named block t, which keeps other references, or whose count came to 0, so that it is torn down in turn
pub data Walk : Type 0 where
  Freed : Walk
  Kept : (i t : ℕ) (rest : Walk) → Walk
  Fell : (i t : ℕ) (inner rest : Walk) → Walk

-- the words come in order from word n on, each at most once
abbrev pub InOrder : ℕ → Walk → Type 0
InOrder n Freed = Unit {0}
InOrder n (Kept i t rest) = (n ≤ i) × InOrder (i + 1) rest
InOrder n (Fell i t inner rest) = (n ≤ i) × InOrder 0 inner × InOrder (i + 1) rest

-- the events of a walk of c over block b: the loss of each reference, and the freeing of each block
abbrev pub events_of : ℕ → ℕ → Walk → List Event
events_of c b Freed = event.Free c b ∷ []
events_of c b (Kept i t rest) = event.Down c (Body b i) t ∷ events_of c b rest
events_of c b (Fell i t inner rest) = event.Down c (Body b i) t ∷ (events_of c t inner ++ events_of c b rest)

-- a block that is being torn down, and how many of its first words are done with
pub record Visit : Type 0 where
  pub block : ℕ
  pub cleared : ℕ

-- the events are those of a walk over the first block, once these blocks, the innermost first, are torn down to the end, however that goes
abbrev pub Walks : ℕ → ℕ → List Event → List Visit → Type 0
Walks c first es [] = (x : Walk) × InOrder 0 x × (es ≡ events_of c first x)
Walks c first es (v ∷ vs) = (x : Walk) → InOrder v.cleared x → Walks c first (es ++ events_of c v.block x) vs

-- how many blocks were freed
abbrev pub freed_by : Event → ℕ
freed_by (event.Free c b) = 1
freed_by x = 0

abbrev pub frees : List Event → ℕ
frees [] = 0
frees (x ∷ es) = freed_by x + frees es

-- One of the events of a tear-down of block b by c: a block that is freed among them loses a reference, or b itself is freed, or a block that lost a reference among them
abbrev pub IsTearing : ℕ → ℕ → List Event → Event → Type 0
IsTearing c b es (event.Down k (Body d i) t) = (k ≡ c) × Contains es (event.Free c d)
IsTearing c b es (event.Free k d) = (k ≡ c) × ((d ≡ b) ⊎ ((e : ℕ) × (i : ℕ) × Contains es (event.Down c (Body e i) d)))
IsTearing c b es e = ⊥

-- the freeing of each of these blocks
abbrev pub frees_of : ℕ → List Visit → List Event
frees_of c vs = map (λ (v : Visit). event.Free c v.block) vs
