-- what a load of a word of a page's body needs of the memo of its identity
use Rattle.std.specs.{Prelude.{Bool, ◌≡◌, ℕ, ◌+◌, true, Option, Some, None}, List.Contains}
use Rattle.shm_graph.specs.{declared.{spot.Spot.{Spot, TheVariants.Body}, memo.Memo.Memo}, Ops.{cover, cover_of}}
use Rattle.shm_graph.specs.{Telling.{Claim, claims, covers, claim_of}, MemoAfterRead.is_latched}

-- something is told of the block
abbrev pub IsTold : Bool → ℕ → Memo → ℕ → Type 0
IsTold wide c m b = (k : Claim) × Contains (claims wide c m) k × (k.block ≡ b)

-- something that is told covers the address
abbrev pub IsCovered : Bool → ℕ → Memo → ℕ → Type 0
IsCovered wide c m at = (k : Claim) × Contains (claims wide c m) k × (covers at k ≡ true)

-- the step in progress is not about to store this word
abbrev pub IsSettled : Memo → Spot → Type 0
IsSettled m p = (x : ℕ) → cover (cover_of m.op) p x ≡ x

-- by what is told of a word of a block and the latch that is held: where the word's author's latch makes it a look, it is settled
abbrev pub MayLookBy : Option Claim → Option ℕ → Type 0 → Type 0
MayLookBy None latch settled = Unit {0}
MayLookBy (Some k) latch settled = is_latched k.author latch ≡ true → settled

-- a word of a block may be read: where that is a look, the word is settled
abbrev pub MayLook : Bool → ℕ → Memo → ℕ → ℕ → Type 0
MayLook wide c m b i = MayLookBy (claim_of wide c m (b + 2 + i)) m.latch (IsSettled m (Body b i))
