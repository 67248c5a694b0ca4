-- Logs without where they lie in memory, and what a log makes of a map.
use Rattle.std.specs.{Prelude.{ℕ, List, [], ◌∷◌, ◌==◌, if◌then◌else◌}, Ordering.nat_cmp}
use Rattle.std.specs.FinMap as map
use Rattle.shm_script.specs.declared.{line.Line.Line, log.{Answer.Answer, Entry.Entry, End.End}}
use Rattle.shm_script.specs.declared.line.Line.TheVariants as lines
use Rattle.shm_script.specs.declared.log.Answer.TheVariants as answers

-- a client's commands with their answers, and how it ended
pub record Logged : Type 0 where
  pub client : ℕ
  pub entries : List Entry
  pub end : End

-- from keys to numbers and the blocks that hold them
abbrev pub Table : Type 0
Table = map.FinMap nat_cmp (ℕ × ℕ)

-- the map after a command with its answer
abbrev pub table_after : Line → Answer → Table → Table
table_after (lines.Put key number) (answers.Stored block) m = map.insert m key (number, block)
table_after (lines.Copy key author other) (answers.Value number block) m = map.insert m key (number, block)
table_after (lines.Recv from key) (answers.Value number block) m = map.insert m key (number, block)
table_after (lines.Del key) answers.Ok m = map.remove m key
table_after _ _ m = m

-- the map that entries leave, from a map before them
abbrev pub folded : List Entry → Table → Table
folded [] m = m
folded (e ∷ es) m = folded es (table_after e.line e.answer m)

-- the map that a log leaves, from the empty one
abbrev pub fold_of : Logged → Table
fold_of l = folded l.entries map.empty

-- the map that the log of an identity leaves; the empty one where no log is of it
abbrev pub fold_in : List Logged → ℕ → Table
fold_in [] c = map.empty
fold_in (l ∷ ls) c = if l.client == c then fold_of l else fold_in ls c
