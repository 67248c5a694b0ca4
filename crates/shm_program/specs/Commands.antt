-- what the process ends with
use Rattle.std.specs.{Prelude.{◌≡◌, ◌⊎◌, ℕ, List, None, Result, Ok, Err}, declared.alloc.AllocError.AllocError}
use Rattle.std.specs.declared.io.ErrorKind.{ErrorKind, TheVariants.OutOfMemory}
use Rattle.shm_program.specs.{Outcomes.{IsCall, Sides}, Words.job_of, declared.outcome.Finished.Finished}
use Rattle.shm_program.specs.declared.outcome.Outcome.{Outcome}

-- the status of what a call came to, and 6 where memory was wanting before the words were known
abbrev pub ended_with : Result Outcome AllocError → ℕ
ended_with (Ok outcome) = outcome.status
ended_with (Err e) = 6

-- the process ends with the status of a call with these words; or with 6, nothing read or written, where memory was wanting before they were known
abbrev pub Ends : List (List ℕ) → Sides → Sides → ℕ → Type 0
Ends words old new status = ((status ≡ 6) × (new ≡ old)) ⊎ ((finished : Finished) × IsCall words old new status finished)

-- one of all words can't be read: the process ends as with words that aren't accepted, and where that is for want of memory with 6, nothing read or written
abbrev pub EndsUnread : ErrorKind → Sides → Sides → ℕ → Type 0
EndsUnread kind old new status = ((words : List (List ℕ)) × (job_of words ≡ None) × Ends words old new status) × (kind ≡ OutOfMemory → (status ≡ 6) × (new ≡ old))
