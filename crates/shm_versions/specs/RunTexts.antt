-- The text of a run: lines that each end with a line feed, words parted by one blank, numbers in decimal.
use Rattle.std.specs.Prelude.{ℕ, ◌+◌, ◌==◌, if◌then◌else◌, List, [], ◌∷◌, ◌++◌, length, Option, Some, None, codes}
use Rattle.std.specs.Fmt.{decimal}
use Rattle.shm_graph.specs.{Blocks.classes, References.{live_count, references, references_in_all}, Spots.see}
use Rattle.shm_plain.specs.Pools.{Pool}
use Rattle.shm_script.specs.Text.{ended, spaced}
use Rattle.shm_tree.specs.{declared.line.{TreeAnswer.TreeAnswer, TreeLine.TreeLine}, Scripts.TreeScripted}
use Rattle.shm_tree.specs.ScriptTexts.{line_spelled}
use Rattle.shm_tree.specs.declared.line.TreeAnswer.TheVariants as answers
use Rattle.shm_versions.specs.declared.treed.{Holding.Holding, Treed.Treed}

-- an answer; of a refusal its kind alone
abbrev pub answer_spelled : TreeAnswer → List ℕ
answer_spelled answers.Ok = codes "ok"
answer_spelled (answers.Value n) = codes "value" ++ spaced n
answer_spelled answers.Missing = codes "missing"
answer_spelled (answers.Full s b) = codes "full"
answer_spelled (answers.CountFull b c) = codes "countfull"
answer_spelled (answers.EraSpent e) = codes "eraspent"

-- a line that was finished, a blank and its answer
abbrev pub line_answered : TreeLine → TreeAnswer → List ℕ
line_answered line answer = ended (line_spelled line ++ 32 ∷ answer_spelled answer)

-- the lines that were finished, each with its answer
abbrev pub answered_lines : List TreeLine → List TreeAnswer → List ℕ
answered_lines (l ∷ ls) (b ∷ bs) = line_answered l b ++ answered_lines ls bs
answered_lines ls bs = []

-- how many keys the version of a register has; nothing where it has none
abbrev pub version_line : (at size : ℕ) → List ℕ
version_line at size = if size == 0 then [] else ended (codes "version" ++ spaced at ++ spaced size)

-- those of the registers from one on, in their order
abbrev pub version_lines : ℕ → List ℕ → List ℕ
version_lines at [] = []
version_lines at (n ∷ ns) = version_line at n ++ version_lines (at + 1) ns

-- how much a forest held: its versions, and how many blocks were live
abbrev pub holding_lines : Holding → List ℕ
holding_lines h = version_lines 0 h.sizes ++ ended (codes "nodes" ++ spaced h.nodes)

-- how a run ended of which so many lines were finished
abbrev pub ending_of : ℕ → Option Holding → List ℕ
ending_of n None = ended (codes "died" ++ spaced n)
ending_of n (Some h) = ended (codes "ended" ++ spaced n) ++ holding_lines h

-- the last line, `live L refs F`: how many blocks of this closed pool are live, and how many of its words name one
abbrev pub last_line : Pool → List ℕ
last_line p =
    let g = p.start.geometry in
    let w = see g p.words in
    codes "live " ++ decimal (live_count g w) ++ codes " refs " ++ decimal (references_in_all g (classes w) (references g.wide w)) ++ codes "\n"

-- what is told of a run of this script
abbrev pub text_of_run : TreeScripted → Treed → List ℕ
text_of_run s r = answered_lines s.lines r.answers.items ++ (ending_of (length r.answers.items) r.holding ++ last_line r.closed)
