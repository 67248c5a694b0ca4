-- what the exchanges of headers that lower a block, and those of the halves of a change, need of the memo of their identity
use Rattle.std.specs.Prelude.{◌≡◌, ℕ, ◌+◌, ◌^◌, ◌<◌, true}
use Rattle.shm_words.specs.Headers.{header_of}
use Rattle.shm_graph.specs.declared.{spot.Spot.Spot, memo.{First.TheVariants.Begun, Second.TheVariants.Open}}
use Rattle.shm_graph.specs.declared.memo.{ChangeStage.TheVariants.{Raising, Lowering}, Op.Op}
use Rattle.shm_graph.specs.{declared.memo.{Op.TheVariants.{Down, Change}, Memo.Memo}, Reach.is_reached}
use Rattle.kind_parts.specs.{Conditions.IsHere, Raising.OwnRowShows}

-- the step in progress is o, and the header becomes `to`, which shows c at era e and a count that is one less
pub record Lowers (c : ℕ) (m : Memo) (o : Op) (e n from to : ℕ) : Type 0 where
  pub here : IsHere m
  pub op : m.op ≡ o
  pub small : to < 2 ^ 64
  pub new : header_of to ≡ record { live = true; client = c; count = n; era = e }
  pub lower : n + 1 ≡ (header_of from).count
  pub shows : OwnRowShows c m (header_of from)

-- a step of c begins to take a reference to b out of its slot
abbrev pub MayLower : ℕ → Memo → Spot → ℕ → ℕ → ℕ → ℕ → ℕ → Type 0
MayLower c m p b e n from to = Lowers c m (Down Begun p b e) e n from to

-- a change of c has written its slot, and is to take the reference to block a that it holds over
abbrev pub MayLowerFormer : ℕ → Memo → Spot → ℕ → ℕ → ℕ → ℕ → ℕ → ℕ → Type 0
MayLowerFormer c m p a b e n from to = Lowers c m (Change (Lowering Open) p a b e) e n from to

-- a change of c begins to put a block in reach into a slot that names block a
pub record MayChange (c : ℕ) (m : Memo) (p : Spot) (a b e from to : ℕ) : Type 0 where
  pub here : IsHere m
  pub op : m.op ≡ Change (Raising Begun) p a b e
  pub reach : is_reached c m b ≡ true
  pub small : to < 2 ^ 64
  pub new : header_of to ≡ record { live = true; client = c; count = (header_of from).count + 1; era = e }
  pub shows : OwnRowShows c m (header_of from)
