-- why a count step was refused
use Rattle.std.specs.{Prelude.{◌≡◌, ℕ}, List.Contains}
use Rattle.shm_words.specs.Headers.{header_of}
use Rattle.shm_graph.specs.{declared.{ask.Ask.{Ask, TheVariants.{Load, Store, Exchange}}, memo.Seen.Seen}, Asks.Trail}

-- a load of the word at b, or an exchange there
abbrev pub IsReading : ℕ → Ask → Type 0
IsReading b (Load at) = at ≡ b
IsReading b (Store at v) = ⊥
IsReading b (Exchange at from to) = at ≡ b

-- one of these pairs read the header of block b, which showed this count
abbrev pub ReadsCount : ℕ → ℕ → Trail → Type 0
ReadsCount b n tr = (s : Seen) × Contains tr s × IsReading b s.ask × ((header_of s.word).count ≡ n)
