-- the second half of a change, as a recoverer that works alone makes it, ends: its exchange finds the header that it read
use Rattle.std.proofs.Common.{◌≡◌, ℕ, []}
use Rattle.shm_graph.specs.declared.spot.Spot.{Spot, TheVariants.Head}
use Rattle.plans.specs.declared.{calls.Calls.Calls, word.Word.Word}
use Rattle.shm_recover.specs.declared.mend_lower.MendLowerPoint.{MendLowerPoint}
use Rattle.shm_recover.specs.declared.mend_lower.MendLowerPoint.TheVariants.{Header, Row, Show, Exchange, Close}
use Rattle.shm_recover.specs.declared.mend_lower.MendLowerState.{MendLowerState}
use Rattle.shm_alone.specs.Lifting.{anything, calls_alone, calls_left, word_left}

-- ---- what is known, and what is left

-- the header that was found is still in the header word of the block
abbrev pub lower_stands_at : MendLowerState → MendLowerPoint → (Spot → ℕ) → Type 0
lower_stands_at m Row w = w (Head m.block) ≡ m.header
lower_stands_at m Show w = w (Head m.block) ≡ m.header
lower_stands_at m Exchange w = w (Head m.block) ≡ m.header
lower_stands_at m y w = Unit {0}

abbrev pub lower_stands : MendLowerState → (Spot → ℕ) → Type 0
lower_stands m = lower_stands_at m m.point

-- how many word steps come behind the one at a point at most
abbrev pub lower_rest_at : MendLowerPoint → ℕ
lower_rest_at Header = 4
lower_rest_at Row = 3
lower_rest_at Show = 2
lower_rest_at Exchange = 1
lower_rest_at Close = 0

abbrev pub lower_rest : MendLowerState → ℕ
lower_rest m = lower_rest_at m.point

-- what it knows of the words, and how many word steps it has left
abbrev pub lower_alone : Calls MendLowerState Word → (Spot → ℕ) → Type 0
lower_alone = calls_alone anything lower_stands

abbrev pub lower_left : Calls MendLowerState Word → ℕ
lower_left = calls_left word_left lower_rest
