-- what is proved of a trace that was replayed, or run by threads or polls: the words, the counts, the logs, the maps and the text
use Rattle.std.specs.Prelude.{◌≡◌, ℕ, ◌+◌, ◌≤◌, ◌<◌, ◌^◌, false, true, Some, None, List, [], ◌∷◌, length, map, take}
use Rattle.std.specs.FinMap as finmap
use Rattle.shm_words.specs.declared.geometry.Geometry.{Geometry}
use Rattle.shm_graph.specs.{declared.table.Entry.Entry, Clean.IsClean, References.one_if, Runs.first_words, Spots.see}
use Rattle.shm_graph.specs.Tables.{IsTable, map_of}
use Rattle.shm_headline.specs.WordRuns.{Act, Goes, death_of, nobody}
use Rattle.shm_script.specs.declared.log.{Entry.Entry as LogEntry, End.{End, TheVariants.{Ended, Died}}}
use Rattle.shm_script.specs.{Logged.{Logged, fold_in}, Ranges.IsTrace, Text.text_of, Values.{Scripted, Traced}}
use Rattle.shm_report.specs.Report.{report_of}

-- the sizes and the format of the pool that a trace asks for
abbrev pub geometry_of : Traced → Geometry
geometry_of t = record { clients = t.clients; segments = t.segments; wide = t.wide }

-- its words before the first turn: 0, but each own era is 1
abbrev pub words_first : Traced → List ℕ
words_first t = first_words (record { geometry = geometry_of t; first_era = 1; tables = true })

-- the word steps that the client of a script may make
abbrev pub life_of : List ℕ → ℕ
life_of [] = 2 ^ 40
life_of (n ∷ more) = n

-- how the client of a script ended: it finished all its commands and left, and didn't die; or it died after the last word step of its life with n commands finished, and the next one is an entry too where it is `done`
abbrev pub HasEnded : List Act → Scripted → List LogEntry → End → Type 0
HasEnded turns s es Ended = (death_of s.client false 0 turns ≡ None) × (length es ≡ length s.lines)
HasEnded turns s es (Died n done) = (death_of s.client false 0 turns ≡ Some (life_of s.life)) × (length es ≡ n + one_if done)

-- a log is one of this script: its entries are the script's first commands, in order
pub record IsOf (turns : List Act) (s : Scripted) (l : Logged) : Type 0 where
  pub client : l.client ≡ s.client
  pub lines : map (λ (e : LogEntry). e.line) l.entries ≡ take (length l.entries) s.lines
  pub ended : HasEnded turns s l.entries l.end

-- one for each script, in their order
abbrev pub AreOf : List Act → List Scripted → List Logged → Type 0
AreOf turns [] ls = ls ≡ []
AreOf turns (s ∷ ss) [] = ⊥
AreOf turns (s ∷ ss) (l ∷ ls) = IsOf turns s l × AreOf turns ss ls

-- Over some order of the word steps of clients and recoverers, with deaths between any two: the counts were exact at first and after each of them; the words that they left are clean, with each live block's count the number of words that name it and all other blocks free; each log is one of its script; and the table that the words hold is what the logs give
pub record Headline (t : Traced) (ls : List Logged) (ws : List ℕ) : Type 0 where
  pub turns : List Act
  pub run : Goes (geometry_of t) nobody (words_first t) turns ws
  pub clean : IsClean (geometry_of t) (see (geometry_of t) ws)
  pub logs : AreOf turns t.scripts ls
  pub table : ℕ → ℕ → List Entry
  pub is : IsTable (geometry_of t) (see (geometry_of t) ws) table
  pub fold : (c key : ℕ) → c < t.clients → map_of (table c) key ≡ finmap.get (fold_in ls c) key

-- The bytes are the text of one trace, and what is written is the report of these words and logs
pub record Reported (bytes text : List ℕ) : Type 0 where
  pub trace : Traced
  pub lawful : IsTrace trace
  pub few : length bytes ≤ 1048576
  pub spelled : bytes ≡ text_of trace
  pub logs : List Logged
  pub words : List ℕ
  pub headline : Headline trace logs words
  pub told : text ≡ report_of (geometry_of trace) (see (geometry_of trace) words) headline.table logs

-- ---- clients that are given up

-- the script with a life that isn't longer
pub record IsShorter (s r : Scripted) : Type 0 where
  pub client : r.client ≡ s.client
  pub lines : r.lines ≡ s.lines
  pub life : life_of r.life ≤ life_of s.life

-- each of the scripts so, in their order
abbrev pub AreShorter : List Scripted → List Scripted → Type 0
AreShorter [] rs = rs ≡ []
AreShorter (s ∷ ss) [] = ⊥
AreShorter (s ∷ ss) (r ∷ rs) = IsShorter s r × AreShorter ss rs

-- The same of a run in which clients may be given up before their lives end: it is as a run of the trace with shorter lives, in which a client that was given up died
pub record ReportedCut (bytes text : List ℕ) : Type 0 where
  pub trace : Traced
  pub lawful : IsTrace trace
  pub few : length bytes ≤ 1048576
  pub spelled : bytes ≡ text_of trace
  pub scripts : List Scripted
  pub cut : AreShorter trace.scripts scripts
  pub logs : List Logged
  pub words : List ℕ
  pub headline : Headline (record trace { scripts = scripts }) logs words
  pub told : text ≡ report_of (geometry_of trace) (see (geometry_of trace) words) headline.table logs
