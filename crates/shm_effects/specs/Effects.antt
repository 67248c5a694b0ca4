-- when each command of a log took effect: at one word step, wholly or not at all; and what a get answered was there
use Rattle.std.specs.Prelude.{◌≡◌, ◌⊎◌, ℕ, ◌+◌, Option, Some, None, List, [], ◌∷◌, length, take, slice_get}
use Rattle.std.specs.List.{Contains}
use Rattle.std.specs.FinMap as finmap
use Rattle.shm_words.specs.declared.geometry.Geometry.{Geometry}
use Rattle.shm_graph.specs.{declared.{ask.Ask.Ask, spot.Spot.TheVariants.Home, table.Entry.Entry}, Spots.see}
use Rattle.shm_graph.specs.Tables.{IsPartition, contents_of, map_of}
use Rattle.shm_headline.specs.{Now.names, WordRuns.{Act, Steps, words_by}}
use Rattle.shm_script.specs.declared.{line.Line.{Line, TheVariants.Get}, log.Answer.Answer}
use Rattle.shm_script.specs.declared.log.{Answer.TheVariants.{Value, Missing}, Entry.Entry as LogEntry}
use Rattle.shm_script.specs.Logged.{Logged, Table, folded}

-- ---- maps that words hold

-- the chains of the map of c, each word by what it names, so that a committed step counts as done
abbrev pub AreChains : Geometry → List ℕ → ℕ → (ℕ → List Entry) → Type 0
AreChains g ws c chains = IsPartition (contents_of g.wide (see g ws) (names g (see g ws))) c (names g (see g ws) (Home c)) chains

-- this is the map of c
abbrev pub HoldsMap : Geometry → List ℕ → ℕ → Table → Type 0
HoldsMap g ws c m = (chains : ℕ → List Entry) × AreChains g ws c chains × ((key : ℕ) → map_of chains key ≡ finmap.get m key)

-- the map of c has this at a key: a number with its value block, or nothing
abbrev pub HoldsAt : Geometry → List ℕ → ℕ → ℕ → Option (ℕ × ℕ) → Type 0
HoldsAt g ws c key x = (chains : ℕ → List Entry) × AreChains g ws c chains × (map_of chains key ≡ x)

-- ---- logs

-- what the answer of a command of c says of words: a get that answered a number and a block, that the author's map has them at the key; and a get of the own table that found nothing, that the own map has nothing there
abbrev pub IsShown : Geometry → ℕ → Line → Answer → List ℕ → Type 0
IsShown g c (Get a key) (Value n b) ws = HoldsAt g ws a key (Some (n, b))
IsShown g c (Get a key) Missing ws = a ≡ c → HoldsAt g ws a key None
IsShown g c line answer ws = Unit {0}

-- The turn is a word step of the log's client, by which the entry after its first n takes effect; at one of these times the words showed what it says
pub record IsTaken (g : Geometry) (l : Logged) (n : ℕ) (times : List (List ℕ)) (t : Act) : Type 0 where
  pub ask : Ask
  pub own : t ≡ Steps l.client ask
  pub entry : LogEntry
  pub next : slice_get l.entries n ≡ Some entry
  pub time : List ℕ
  pub among : Contains times time
  pub shown : IsShown g l.client entry.line entry.answer time

-- From these words on, by these turns: the first n entries of the log have taken effect, the last of them before these times, and in the end all have. At each time the own map is the fold of those that have, so that a command is done wholly or not at all; and a turn makes the next one take effect, or none
abbrev pub TakesEffect : Geometry → Logged → ℕ → List (List ℕ) → List ℕ → List Act → Type 0
TakesEffect g l n times ws [] = HoldsMap g ws l.client (folded (take n l.entries) finmap.empty) × (n ≡ length l.entries)
TakesEffect g l n times ws (t ∷ ts) = HoldsMap g ws l.client (folded (take n l.entries) finmap.empty) × (TakesEffect g l n (ws ∷ times) (words_by t ws) ts ⊎ (IsTaken g l n (ws ∷ times) t × TakesEffect g l (n + 1) [] (words_by t ws) ts))
