-- what a call of the program does: what it reads, what it answers and what it writes
use Rattle.std.specs.Prelude.{◌≡◌, ◌≢◌, ℕ, ◌≤◌, ◌⊎◌, List, length, codes, Option, Some, None, Err}
use Rattle.shm_audit.specs.{declared.fault.ImageFault.ImageFault, Faults.image_fault_of, Images.{geometry_in, words_in}}
use Rattle.shm_audit.specs.{Texts.{image_fault_line, verdict_line}, Verdicts.verdict_of}
use Rattle.shm_graph.specs.Spots.{see}
use Rattle.shm_migrate.specs.{declared.stop.MigrateStop.MigrateStop, Migrations.{migrated, refusal_of, stop_line}}
use Rattle.shm_io.specs.{Faults.{NoFault, Rose}, Reading.LosesFront, Writing.{Appends, AppendsFront}}
use Rattle.shm_script.specs.{declared.fault.TraceFault.TraceFault, Drawing.drawn_trace, Faults.fault_of}
use Rattle.shm_script.specs.{Ranges.{IsTrace, IsTraceText}, Text.text_of, Values.Traced}
use Rattle.shm_tree.specs.{Scripts.{TreeScripted, script_of}, ScriptTexts.SpellsScript}
use Rattle.shm_program.specs.{Reads.{Reads, ReadsLimit, input_of, limit_of, most_of}, Refusals.fault_line}
use Rattle.shm_program.specs.{Replays.{IsPollTold, IsTeamTold, IsTold}, Trees.IsTreeTold, Words.{NamesCommand, job_of}}
use Rattle.shm_program.specs.declared.outcome.Finished.{Finished, TheVariants.{Neither, Ran, Rescued}}
use Rattle.shm_program.specs.declared.words.{Form.TheVariants.Summary, Job.Job}
use Rattle.shm_program.specs.declared.words.Job.TheVariants.{Replay, Print, Run, Rescue, Audit, Migrate, Make, Draw, Poll, Tree}

-- the line that is written where the words aren't accepted
abbrev pub usage_text : List ℕ
usage_text = codes "usage: cxlshm replay [--image|--print] | run [--image] [--medics K] | audit | make START SIZE [--print] | migrate | poll Q [--limit P] | tree\n"

-- ---- what a job is asked for

-- the bytes are the text of this trace
pub record Spells (bytes : List ℕ) (t : Traced) : Type 0 where
  pub trace : IsTrace t
  pub short : length bytes ≤ 1048576
  pub text : bytes ≡ text_of t

-- the bytes are a trace, an image without a fault, one that nothing stands against migrating, or a script; a job that draws its trace needs none
abbrev pub IsInput : Job → List ℕ → Type 0
IsInput Audit bytes = image_fault_of bytes ≡ None
IsInput Migrate bytes = refusal_of bytes ≡ None
IsInput (Make start size) bytes = Unit {0}
IsInput (Draw start size) bytes = Unit {0}
IsInput Tree bytes = (s : TreeScripted) × SpellsScript bytes s
IsInput _ bytes = IsTraceText bytes

-- ---- what is answered to the bytes that were read

-- neither a replay nor a run was made, and the text is that of this trace
abbrev pub IsPrinted : Traced → Finished → List ℕ → Type 0
IsPrinted t finished text = (finished ≡ Neither) × (text ≡ text_of t)

-- the bytes are an image, and the text is the verdict on its words
pub record IsAudited (bytes : List ℕ) (finished : Finished) (text : List ℕ) : Type 0 where
  pub kept : finished ≡ Neither
  pub faultless : image_fault_of bytes ≡ None
  pub verdict : let g = geometry_in bytes in text ≡ verdict_line (verdict_of g (see g (words_in bytes)))

-- the bytes are a clean image of format 1, and the text is the image of its pool in format 2
pub record IsMigrated (bytes : List ℕ) (finished : Finished) (text : List ℕ) : Type 0 where
  pub kept : finished ≡ Neither
  pub allowed : refusal_of bytes ≡ None
  pub image : text ≡ migrated bytes

-- what was asked for was done with these bytes
abbrev pub IsDone : Job → List ℕ → Finished → List ℕ → Type 0
IsDone (Replay form) bytes finished text = (t : Traced) × Spells bytes t × IsTold form t finished text
IsDone Print bytes finished text = (t : Traced) × Spells bytes t × IsPrinted t finished text
IsDone (Run form) bytes finished text = (t : Traced) × Spells bytes t × IsTeamTold Ran form t finished text
IsDone Audit bytes finished text = IsAudited bytes finished text
IsDone Migrate bytes finished text = IsMigrated bytes finished text
IsDone (Make start size) bytes finished text = IsTold Summary (drawn_trace start size) finished text
IsDone (Draw start size) bytes finished text = IsPrinted (drawn_trace start size) finished text
IsDone (Rescue form medics) bytes finished text = (t : Traced) × Spells bytes t × IsTeamTold Rescued form t finished text
IsDone (Poll q limit) bytes finished text = (t : Traced) × Spells bytes t × IsPollTold q limit t finished text
IsDone Tree bytes finished text = (s : TreeScripted) × SpellsScript bytes s × IsTreeTold s finished text

-- the bytes are no trace, no image or no script, and the line names their first fault; or it names what stands against their migration
abbrev pub IsFaulty : Job → List ℕ → List ℕ → Type 0
IsFaulty Audit bytes text = (fault : ImageFault) × (image_fault_of bytes ≡ Some fault) × (text ≡ image_fault_line fault)
IsFaulty Migrate bytes text = (stop : MigrateStop) × (refusal_of bytes ≡ Some stop) × (text ≡ stop_line stop)
IsFaulty (Make start size) bytes text = ⊥
IsFaulty (Draw start size) bytes text = ⊥
IsFaulty Tree bytes text = (fault : TraceFault) × (script_of bytes ≡ Err fault) × (text ≡ fault_line fault)
IsFaulty _ bytes text = (fault : TraceFault) × (fault_of bytes ≡ Some fault) × (text ≡ fault_line fault)

-- the answer to the bytes that were read
abbrev pub JobAnswers : Job → List ℕ → ℕ → Finished → List ℕ → Type 0
JobAnswers job bytes status finished text =
    ((status ≡ 0) × IsDone job bytes finished text)
    ⊎ ((status ≡ 3) × (finished ≡ Neither) × IsFaulty job bytes text)

-- ---- what was read and written

-- what was asked for was done with all the bytes that the job is for
pub record Done (job : Job) (before after : Option (List ℕ)) (finished : Finished) (text : List ℕ) : Type 0 where
  pub bytes : List ℕ
  pub read : Reads job before after bytes
  pub is : IsDone job bytes finished text

-- the input was refused: all the bytes that the job is for, or as many as are read at most: one more than a trace, a script or an image may have
pub record Refused (job : Job) (before after : Option (List ℕ)) (finished : Finished) (text : List ℕ) : Type 0 where
  pub kept : finished ≡ Neither
  pub bytes : List ℕ
  pub few : length bytes ≤ limit_of job
  pub read : Reads job before after bytes ⊎ ReadsLimit (limit_of job) before after bytes
  pub is : IsFaulty job bytes text

-- the words aren't accepted, and nothing was read
pub record Misused (words : List (List ℕ)) (before after : Option (List ℕ)) (finished : Finished) (text : List ℕ) : Type 0 where
  pub kept : finished ≡ Neither
  pub faulty : job_of words ≡ None
  pub read : after ≡ before
  pub line : text ≡ usage_text

-- the words ask for a job
abbrev pub Asks : List (List ℕ) → (Job → Type 0) → Type 0
Asks words Is = (job : Job) × (job_of words ≡ Some job) × Is job

-- the text that these words and these bytes give
abbrev pub Decided : List (List ℕ) → Option (List ℕ) → Option (List ℕ) → Finished → List ℕ → Type 0
Decided words before after finished text = Misused words before after finished text ⊎ Asks words (λ job. Done job before after finished text ⊎ Refused job before after finished text)

-- the whole text was written
abbrev pub Writes : Option (List ℕ) → Option (List ℕ) → (List ℕ → Type 0) → Type 0
Writes before after IsText = (text : List ℕ) × IsText text × Appends before after text

-- a front of the text was written, and not all of it
abbrev pub WritesFront : Option (List ℕ) → Option (List ℕ) → (List ℕ → Type 0) → Type 0
WritesFront before after IsText = (text : List ℕ) × IsText text × AppendsFront before after text

-- the whole text was written, and the status is that of the answer; or a write failed behind a front of the text, and the status is 5
pub record IsWritten (before : Option (List ℕ)) (faults : ℕ) (after : Option (List ℕ)) (later answer code : ℕ) (text : List ℕ) : Type 0 where
  pub ends : (code ≡ answer) ⊎ (code ≡ 5)
  pub whole : code ≡ answer → Appends before after text × (later ≡ faults)
  pub failed : code ≡ 5 → Rose faults later × AppendsFront before after text

-- nothing was made and nothing written, for want of memory
pub record IsWanting (before : Option (List ℕ)) (faults : ℕ) (after : Option (List ℕ)) (later code : ℕ) (finished : Finished) : Type 0 where
  pub ends : code ≡ 6
  pub kept : finished ≡ Neither
  pub held : after ≡ before
  pub quiet : later ≡ faults

-- the statuses that the program ends with
abbrev pub IsStatus : ℕ → Type 0
IsStatus s = (s ≡ 0) ⊎ ((s ≡ 2) ⊎ ((s ≡ 3) ⊎ ((s ≡ 4) ⊎ ((s ≡ 5) ⊎ (s ≡ 6)))))

-- ---- a whole call

-- a source and a sink at one time: the bytes that are left and those that are held, where they are told, and how many reads and writes failed
pub record Sides : Type 0 where
  pub left : Option (List ℕ)
  pub read_faults : ℕ
  pub held : Option (List ℕ)
  pub write_faults : ℕ

abbrev pub sides : Option (List ℕ) → ℕ → Option (List ℕ) → ℕ → Sides
sides left reads held writes = record { left = left; read_faults = reads; held = held; write_faults = writes }

-- what a call with these words did, by its status and what was made
pub record IsCall (words : List (List ℕ)) (old new : Sides) (code : ℕ) (made : Finished) : Type 0 where
  -- the status is one of six
  pub status : IsStatus code
  -- 0: what the words ask for was done with all the bytes that it is for, and told
  pub done : code ≡ 0 → Asks words (λ job. Writes old.held new.held (Done job old.left new.left made))
  -- 2: the words aren't accepted, and the usage line was written
  pub misused : code ≡ 2 → Writes old.held new.held (Misused words old.left new.left made)
  -- 3: the input was refused, and the line that names its first fault was written
  pub refused : code ≡ 3 → Asks words (λ job. Writes old.held new.held (Refused job old.left new.left made))
  -- and then no read and no write failed
  pub quiet : (code ≡ 0) ⊎ ((code ≡ 2) ⊎ (code ≡ 3)) → (new.read_faults ≡ old.read_faults) × (new.write_faults ≡ old.write_faults)
  -- 4: a read failed, and nothing was written
  pub read_failed : code ≡ 4 → Rose old.read_faults new.read_faults × (new.held ≡ old.held) × (made ≡ Neither)
  -- 5: a write failed, behind a front of the text that the words and the bytes give
  pub write_failed : code ≡ 5 → Rose old.write_faults new.write_faults × WritesFront old.held new.held (Decided words old.left new.left made)
  -- 6: memory was wanting, and nothing was written
  pub no_memory : code ≡ 6 → NamesCommand words × (new.held ≡ old.held) × (made ≡ Neither)
  -- words that aren't accepted end so
  pub usage : job_of words ≡ None → (code ≡ 2) ⊎ ((code ≡ 5) ⊎ (code ≡ 6))
  -- valid input is answered, unless a read or a write fails or memory is wanting
  pub complete : (job : Job) → job_of words ≡ Some job → NoFault old.read_faults new.read_faults → NoFault old.write_faults new.write_faults → (bytes : List ℕ) → input_of job old.left ≡ Some bytes → IsInput job bytes → (code ≡ 0) ⊎ (code ≡ 6)
  -- and input with a fault is refused
  pub faulty : (job : Job) → job_of words ≡ Some job → NoFault old.read_faults new.read_faults → NoFault old.write_faults new.write_faults → (bytes text : List ℕ) → input_of job old.left ≡ Some bytes → IsFaulty job bytes text → (code ≡ 3) ⊎ (code ≡ 6)
  -- whatever the status, no more bytes are gone than the job reads at most
  pub within : LosesFront old.left new.left (most_of (job_of words))
  -- where nothing is to be read the source is as it was, and no read failed
  pub unread : most_of (job_of words) ≡ 0 → (new.left ≡ old.left) × (new.read_faults ≡ old.read_faults) × (code ≢ 4)
  -- a read that failed is told by 4 alone
  pub reads_well : code ≢ 4 → new.read_faults ≡ old.read_faults
  -- and a write that failed by 5 alone
  pub writes_well : code ≢ 5 → new.write_faults ≡ old.write_faults
