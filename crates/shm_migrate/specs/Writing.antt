-- the words of a pool in format 2 as they are written, one behind the other
use Rattle.std.specs.{Prelude.{◌≡◌, ℕ, ◌++◌, ◌^◌, ◌<◌, List, map}, List.{flat_map, range_with_len}}
use Rattle.std.specs.Int.{w64, to_le_bytes}
use Rattle.shm_words.specs.declared.geometry.Geometry.{Geometry}
use Rattle.shm_graph.specs.Spots.{see}
use Rattle.shm_migrate.specs.Widened.{widened_word}

-- behind these bytes stand the words of format 2 that have a less address, and each of them is a word
pub record IsWritten (g : Geometry) (ws start bytes : List ℕ) (at : ℕ) : Type 0 where
  pub items : bytes ≡ start ++ flat_map (to_le_bytes w64) (map (widened_word g (see g ws)) (range_with_len 0 at))
  pub small : (a : ℕ) → a < at → widened_word g (see g ws) a < 2 ^ 64

-- bytes behind which the words before one address stood have those before another behind them now
abbrev pub WritesOn : Geometry → List ℕ → List ℕ → List ℕ → ℕ → ℕ → Type 0
WritesOn g ws old new from to = (start : List ℕ) → IsWritten g ws start old from → IsWritten g ws start new to
