-- who died in a run
use Rattle.std.specs.Prelude.{◌≡◌, ◌≢◌, ℕ, List, [], ◌∷◌}
use Rattle.shm_headline.specs.WordRuns.{Act, Dies}
use Rattle.shm_script.specs.{declared.log.End.TheVariants.Ended, Logged.Logged}

-- no client or recoverer of c dies in these turns
abbrev pub NoneDies : ℕ → List Act → Type 0
NoneDies c [] = Unit {0}
NoneDies c (Dies d ∷ ts) = (d ≢ c) × NoneDies c ts
NoneDies c (t ∷ ts) = NoneDies c ts

-- of a client that ended nobody of its identity died
abbrev pub HasLived : List Act → Logged → Type 0
HasLived turns l = l.end ≡ Ended → NoneDies l.client turns
