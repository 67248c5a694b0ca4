-- the lines of refused input
use Rattle.std.specs.{Prelude.{ℕ, List, ◌++◌, codes}, Fmt.decimal}
use Rattle.shm_script.specs.declared.fault.TraceKind.{TraceKind, TheVariants.{Syntax, Range, Limit, Twice}}
use Rattle.shm_script.specs.declared.fault.TraceFault.{TraceFault}

-- what is wrong with a line
abbrev pub kind_word : TraceKind → List ℕ
kind_word Syntax = codes "syntax"
kind_word Range = codes "range"
kind_word Limit = codes "limit"
kind_word Twice = codes "twice"

-- `refused line L KIND`: the first faulty line, from 1, and what is wrong with it
abbrev pub fault_line : TraceFault → List ℕ
fault_line f = codes "refused line " ++ decimal f.line ++ codes " " ++ kind_word f.kind ++ codes "\n"
