-- what a script for versions of a map tells, by twelve finite maps
use Rattle.std.specs.Prelude.{◌≡◌, ◌≢◌, ℕ, ◌+◌, ◌<◌, ◌==◌, true, false, if◌then◌else◌, Option, None, Some, IfSome, List, [], ◌∷◌, ◌++◌, length, slice_index}
use Rattle.std.specs.{List.{AllByRecursion, Contains}, Option.is_some}
use Rattle.shm_graph.specs.{declared.run.Move.Move, Agents.steps_made}
use Rattle.shm_plain.specs.Pools.{IsRun, Pool, memo_of}
use Rattle.shm_tree.specs.{declared.line.{TreeAnswer.TreeAnswer, TreeLine.TreeLine}, Forests.IsReading}
use Rattle.shm_tree.specs.Scripts.{TreeScripted}
use Rattle.shm_tree.specs.declared.line.TreeAnswer.TheVariants as answers
use Rattle.shm_tree.specs.declared.line.TreeLine.TheVariants as lines
use Rattle.shm_versions.specs.{declared.treed.{Holding.Holding, Treed.Treed}, TreeRuns.life_of}

-- ---- maps

-- by register and key the number that stands there
abbrev pub Maps : Type 0
Maps = ℕ → ℕ → Option ℕ

abbrev pub no_maps : Maps
no_maps = λ at key. None

-- the map of a register is this one
abbrev pub with_map : ℕ → (ℕ → Option ℕ) → Maps → Maps
with_map to f fs = λ at. if at == to then f else fs at

-- at a key stands this number, or none
abbrev pub with_key : ℕ → Option ℕ → (ℕ → Option ℕ) → ℕ → Option ℕ
with_key key n f k = if k == key then n else f k

-- numbers that rise
abbrev pub AreRising : List ℕ → Type 0
AreRising [] = Unit {0}
AreRising (k ∷ ks) = AllByRecursion (λ (j : ℕ). k < j) ks × AreRising ks

-- so many keys have a number: they are these, each of them once
pub record HasKeys (n : ℕ) (f : ℕ → Option ℕ) : Type 0 where
  pub keys : List ℕ
  pub many : length keys ≡ n
  pub apart : AreRising keys
  pub here : AllByRecursion (λ (k : ℕ). is_some (f k) ≡ true) keys
  pub all : (k : ℕ) → is_some (f k) ≡ true → Contains keys k

-- ---- lines

-- the maps behind a line that was answered by Ok
abbrev pub maps_after : TreeLine → Maps → Maps
maps_after (lines.Set to from k n) fs = with_map to (with_key k (Some n) (fs from)) fs
maps_after (lines.Del to from k) fs = with_map to (with_key k None (fs from)) fs
maps_after (lines.Get at k) fs = fs
maps_after (lines.Copy to from) fs = with_map to (fs from) fs
maps_after (lines.Clear at) fs = with_map at (λ k. None) fs

-- no other answer changes a map
abbrev pub maps_by : TreeLine → Maps → TreeAnswer → Maps
maps_by line fs answers.Ok = maps_after line fs
maps_by line fs answer = fs

-- a key is removed only where it has a number, and a number is asked for by no such answer
abbrev pub IsDoneOn : TreeLine → Maps → Type 0
IsDoneOn (lines.Get at k) fs = ⊥
IsDoneOn (lines.Del to from k) fs = is_some (fs from k) ≡ true
IsDoneOn line fs = Unit {0}

-- the number that was asked for
abbrev pub IsNumberOf : TreeLine → Maps → ℕ → Type 0
IsNumberOf (lines.Get at k) fs n = fs at k ≡ Some n
IsNumberOf line fs n = ⊥

-- there is no number where one was asked for, or was to be removed
abbrev pub HasNoNumber : TreeLine → Maps → Type 0
HasNoNumber (lines.Get at k) fs = fs at k ≡ None
HasNoNumber (lines.Del to from k) fs = fs from k ≡ None
HasNoNumber line fs = ⊥

-- what a line may be answered by on these maps: one that reads isn't refused, and none is since the own era is spent
abbrev pub AnswerFits : TreeLine → Maps → TreeAnswer → Type 0
AnswerFits line fs answers.Ok = IsDoneOn line fs
AnswerFits line fs (answers.Value n) = IsNumberOf line fs n
AnswerFits line fs answers.Missing = HasNoNumber line fs
AnswerFits line fs (answers.EraSpent e) = ⊥
AnswerFits line fs answer = IsReading line → ⊥

-- ---- scripts

-- lines and their answers, one by one, each on the maps that the lines before it leave
abbrev pub AnswersFit : List TreeLine → List TreeAnswer → Maps → Type 0
AnswersFit [] [] fs = Unit {0}
AnswersFit (l ∷ ls) (a ∷ bs) fs = AnswerFits l fs a × AnswersFit ls bs (maps_by l fs a)
AnswersFit ls bs fs = ⊥

-- the maps that they leave
abbrev pub maps_of : List TreeLine → List TreeAnswer → Maps → Maps
maps_of (l ∷ ls) (a ∷ bs) fs = maps_of ls bs (maps_by l fs a)
maps_of ls bs fs = fs

-- each size is the number of keys of its register's map
abbrev pub AreSizesOf : Maps → Holding → Type 0
AreSizesOf fs h = (at : ℕ) → at < 12 → HasKeys (slice_index h.sizes at) (fs at)

-- the life of the script was spent: before the closing the client had made the word step of its join, and those of its life
pub record HasSpentLife (s : TreeScripted) (closed : Pool) : Type 0 where
  pub before : Pool
  pub run : IsRun before
  pub more : List Move
  pub turns : closed.turns ≡ before.turns ++ more
  pub steps : steps_made (memo_of before 0) ≡ life_of s + 1

-- What is told of a run of the script, by twelve maps that were empty: the first lines were finished, each with an answer that fits the maps as they were then. Where all were, the sizes that are told are the numbers of keys of the maps that they leave; otherwise none are told, and the life was spent
pub record TellsMaps (s : TreeScripted) (r : Treed) : Type 0 where
  pub done : List TreeLine
  pub rest : List TreeLine
  pub all : s.lines ≡ done ++ rest
  pub answered : AnswersFit done r.answers.items no_maps
  pub whole : is_some r.holding ≡ true → rest ≡ []
  pub cut : is_some r.holding ≡ false → rest ≢ []
  pub spent : is_some r.holding ≡ false → HasSpentLife s r.closed
  pub sizes : IfSome r.holding (AreSizesOf (maps_of done r.answers.items no_maps))
