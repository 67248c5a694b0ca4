-- which jobs write a report, and what a call that does one of them leaves
use Rattle.std.specs.Prelude.{◌≡◌, ◌++◌, ℕ, None, Some, List, []}
use Rattle.shm_program.specs.declared.words.{Form.TheVariants.Report, Job.Job}
use Rattle.shm_program.specs.{declared.words.Job.TheVariants.{Replay, Run, Rescue, Poll}, Outcomes.Sides}

-- a replay; or a run, by threads, with others that recover or without, or by polls without a limit
abbrev pub WritesReport : Job → Type 0
WritesReport (Replay Report) = Unit {0}
WritesReport (Run Report) = Unit {0}
WritesReport (Rescue Report medics) = Unit {0}
WritesReport (Poll q None) = Unit {0}
WritesReport job = ⊥

-- All bytes of the source were read, and the sink holds what it held before and after it a text. What is said of the bytes and of the text is `Is`
abbrev pub HasWritten : (List ℕ → List ℕ → Type 0) → List ℕ → List ℕ → Sides → Type 0
HasWritten Is bytes held new = (text : List ℕ) × (new.left ≡ Some []) × (new.held ≡ Some (held ++ text)) × Is bytes text
