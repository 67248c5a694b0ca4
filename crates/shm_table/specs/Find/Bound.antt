-- how many word steps a search for a key takes: by the number of the entries whose key it read
use Rattle.std.proofs.Common.{◌≡◌, ◌≢◌, ℕ, ◌+◌, List, [], ◌∷◌, ◌++◌, length}
use Rattle.std.specs.Prelude.{◌⊎◌}
use Rattle.shm_graph.specs.{declared.ask.Me.Me, Asks.{Trail, pair}}
use Rattle.shm_table.specs.declared.find.Found.{Found, TheVariants.{Absent, At}}
use Rattle.shm_table.specs.Find.Control.{Passed, home_ask, walk_trail, word_ask}

-- the whole trail by the answer, where these entries were passed
abbrev pub IsWhole : Me → ℕ → ℕ → List Passed → Trail → Found → Type 0
IsWhole me a key ps tr (Absent home first) = ((home ≡ 0) × (ps ≡ []) × (tr ≡ pair (home_ask me a) 0 ∷ [])) ⊎ ((home ≢ 0) × (tr ≡ walk_trail me a key home ps 0))
IsWhole me a key ps tr (At entry before word) = (home : ℕ) × (tr ≡ walk_trail me a key home ps entry ++ pair (word_ask entry 2) key ∷ [])

-- how many keys were read then: those of the entries that were passed, and of the one that was found
abbrev pub keys_read : List Passed → Found → ℕ
keys_read ps (Absent home first) = length ps
keys_read ps (At entry before word) = length ps + 1
