-- the text of a log: the client's line, and a line for each of its commands
use Rattle.std.specs.{Prelude.{ℕ, true, false, List, [], ◌∷◌, ◌++◌, length, codes}, List.flat_map, Fmt.decimal}
use Rattle.shm_script.specs.{declared.log.{Entry.Entry, End.{End, TheVariants.{Ended, Died}}}, Logged.Logged}
use Rattle.shm_script.specs.Text.{line_spelled, answer_spelled}

abbrev pub line_end : List ℕ
line_end = 10 ∷ []

-- how a client ended, with the number of commands that it finished: it left, after this many, or it died, and the command that it was at had its effect or had none
abbrev pub end_text : ℕ → End → List ℕ
end_text n Ended = codes " ended " ++ decimal n
end_text n (Died finished true) = codes " died " ++ decimal finished ++ codes " done"
end_text n (Died finished false) = codes " died " ++ decimal finished ++ codes " undone"

-- `client C ended N`, `client C died N done` or `client C died N undone`
abbrev pub client_line : Logged → List ℕ
client_line log = codes "client " ++ decimal log.client ++ end_text (length log.entries) log.end ++ line_end

-- a command, a blank and its answer
abbrev pub entry_line : Entry → List ℕ
entry_line e = line_spelled e.line ++ codes " " ++ answer_spelled e.answer ++ line_end

-- the client's line, and then a line for each entry, in order
abbrev pub log_text : Logged → List ℕ
log_text log = client_line log ++ flat_map entry_line log.entries
