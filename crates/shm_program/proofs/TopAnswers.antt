-- what the answer to the bytes that were read says of the bytes that the source had left
use Rattle.std.proofs.Common.{◌≡◌, ℕ, ◌≤◌, List, length, sym, ◌∙◌, arith, inl, inr, ◌⊎◌, subst}
use Rattle.std.specs.Prelude.{Option, Some, None, Result, Ok, Err}
use Rattle.shm_io.specs.Reading.{TakesFront}
use Rattle.shm_script.specs.{Ranges.IsTraceText, Values.Traced}
use Rattle.shm_script.proofs.Complete.{faultless}
use Rattle.shm_tree.specs.Scripts.{script_of}
use Rattle.shm_program.specs.declared.{outcome.Finished.Finished, words.Job.Job}
use Rattle.shm_program.specs.declared.words.Job.TheVariants.{Replay, Print, Run, Rescue, Audit, Migrate, Make, Draw, Poll, Tree}
use Rattle.shm_program.specs.Outcomes.{JobAnswers, Done, IsDone, IsFaulty, IsInput, Refused, Spells}
use Rattle.shm_program.specs.Reads.{IsRead, Reads, ReadsAll, ReadsLimit, input_of, limit_of}
use Rattle.shm_program.proofs.{ImageSizes.{image_short, unrefused}, SpelledScripts.spelled_read}
use Rattle.shm_program.proofs.TopReads.{read_same, reads, reads_all, reads_none}

-- ---- what was read for an answer

is_text : (bytes : List ℕ) (t : Traced) → Spells bytes t → IsTraceText bytes
is_text bytes t s = (s.short, t, s.trace, s.text)

-- what was done was done with valid input
done_input : (job : Job) (bytes : List ℕ) (finished : Finished) (text : List ℕ) → IsDone job bytes finished text → IsInput job bytes
done_input (Replay form) bytes finished text d = is_text bytes d.0 d.1
done_input Print bytes finished text d = is_text bytes d.0 d.1
done_input (Run form) bytes finished text d = is_text bytes d.0 d.1
done_input (Rescue form medics) bytes finished text d = is_text bytes d.0 d.1
done_input (Poll q limit) bytes finished text d = is_text bytes d.0 d.1
done_input Tree bytes finished text d = (d.0, d.1)
done_input Audit bytes finished text d = d.faultless
done_input Migrate bytes finished text d = d.allowed
done_input (Make start size) bytes finished text d = tt
done_input (Draw start size) bytes finished text d = tt

-- valid input that was read up to the limit is all that there was
done_read : (job : Job) (before after : Option (List ℕ)) (bytes : List ℕ) → TakesFront before after (limit_of job) bytes → length bytes ≤ limit_of job → IsInput job bytes → Reads job before after bytes
done_read (Replay form) before after bytes t few input = let short : length bytes ≤ 1048576 = input.0 in reads_all 1048577 before after bytes t (omega (arith, short))
done_read Print before after bytes t few input = let short : length bytes ≤ 1048576 = input.0 in reads_all 1048577 before after bytes t (omega (arith, short))
done_read (Run form) before after bytes t few input = let short : length bytes ≤ 1048576 = input.0 in reads_all 1048577 before after bytes t (omega (arith, short))
done_read (Rescue form medics) before after bytes t few input = let short : length bytes ≤ 1048576 = input.0 in reads_all 1048577 before after bytes t (omega (arith, short))
done_read (Poll q limit) before after bytes t few input = let short : length bytes ≤ 1048576 = input.0 in reads_all 1048577 before after bytes t (omega (arith, short))
done_read Tree before after bytes t few input = let short : length bytes ≤ 1048576 = input.1.2 in reads_all 1048577 before after bytes t (omega (arith, short))
done_read Audit before after bytes t few input = reads_all 132185377 before after bytes t (image_short bytes input)
done_read Migrate before after bytes t few input = reads_all 132185377 before after bytes t (image_short bytes (unrefused bytes input))
done_read (Make start size) before after bytes t few input = reads_none before after bytes t few
done_read (Draw start size) before after bytes t few input = reads_none before after bytes t few

any_read : (job : Job) (before after : Option (List ℕ)) (bytes : List ℕ) → TakesFront before after (limit_of job) bytes → length bytes ≤ limit_of job
    → Reads job before after bytes ⊎ ReadsLimit (limit_of job) before after bytes
any_read (Replay form) before after bytes t few = reads 1048577 before after bytes t few
any_read Print before after bytes t few = reads 1048577 before after bytes t few
any_read (Run form) before after bytes t few = reads 1048577 before after bytes t few
any_read (Rescue form medics) before after bytes t few = reads 1048577 before after bytes t few
any_read (Poll q limit) before after bytes t few = reads 1048577 before after bytes t few
any_read Tree before after bytes t few = reads 1048577 before after bytes t few
any_read Audit before after bytes t few = reads 132185377 before after bytes t few
any_read Migrate before after bytes t few = reads 132185377 before after bytes t few
any_read (Make start size) before after bytes t few = inl (reads_none before after bytes t few)
any_read (Draw start size) before after bytes t few = inl (reads_none before after bytes t few)

-- the answer, with what was read
abbrev pub Said : Job → Option (List ℕ) → Option (List ℕ) → ℕ → Finished → List ℕ → Type 0
Said job before after status finished text = ((status ≡ 0) × Done job before after finished text) ⊎ ((status ≡ 3) × Refused job before after finished text)

answered : (job : Job) (before after : Option (List ℕ)) (bytes : List ℕ) (status : ℕ) (finished : Finished) (text : List ℕ) → TakesFront before after (limit_of job) bytes → length bytes ≤ limit_of job
    → JobAnswers job bytes status finished text → Said job before after status finished text
answered job before after bytes status finished text t few (inl d) =
    inl (d.0, record { bytes = bytes; read = done_read job before after bytes t few (done_input job bytes finished text d.1); is = d.1 })
answered job before after bytes status finished text t few (inr d) = inr (d.0, record { kept = d.1; bytes = bytes; few = few; read = any_read job before after bytes t few; is = d.2 })

-- the answer to what was read
pub said : (job : Job) (before after : Option (List ℕ)) (faults later : ℕ) (bytes read : List ℕ) (status : ℕ) (finished kept : Finished) (text : List ℕ) → IsRead before faults after later (limit_of job) bytes
    → read ≡ bytes → JobAnswers job read status finished text → kept ≡ finished → Said job before after status kept text
said job before after faults later bytes read status finished kept text taken same a k =
    let b = subst (λ (xs : List ℕ). JobAnswers job xs status finished text) same a in
    answered job before after bytes status kept text taken.front taken.few (subst (λ (f : Finished). JobAnswers job bytes status f text) (sym k) b)

-- ---- what the answer is to what the source had left

some_same : (xs ys : List ℕ) → Some xs ≡ Some ys → xs ≡ ys
some_same xs ys e = cc

some_none : {A : Type 0} (x : A) → Some x ≡ None → ⊥
some_none x e = cc

ok_err : {A E : Type 0} (r : Result A E) (x : A) (y : E) → r ≡ Ok x → r ≡ Err y → ⊥
ok_err r x y e f = absurd (cc)

-- valid input has no fault
no_fault : (job : Job) (bytes text : List ℕ) → IsInput job bytes → IsFaulty job bytes text → ⊥
no_fault (Replay form) bytes text input f = some_none f.0 (sym f.1 ∙ faultless bytes input)
no_fault Print bytes text input f = some_none f.0 (sym f.1 ∙ faultless bytes input)
no_fault (Run form) bytes text input f = some_none f.0 (sym f.1 ∙ faultless bytes input)
no_fault (Rescue form medics) bytes text input f = some_none f.0 (sym f.1 ∙ faultless bytes input)
no_fault (Poll q limit) bytes text input f = some_none f.0 (sym f.1 ∙ faultless bytes input)
no_fault Tree bytes text input f = ok_err (script_of bytes) input.0 f.0 (spelled_read bytes input.0 input.1) f.1
no_fault Audit bytes text input f = some_none f.0 (sym f.1 ∙ input)
no_fault Migrate bytes text input f = some_none f.0 (sym f.1 ∙ input)
no_fault (Make start size) bytes text input f = f
no_fault (Draw start size) bytes text input f = f

-- valid input, of which all was read, isn't refused
input_read : (job : Job) (before after : Option (List ℕ)) (bytes read text : List ℕ) → input_of job before ≡ Some bytes → IsInput job bytes
    → Reads job before after read ⊎ ReadsLimit (limit_of job) before after read → IsFaulty job read text → ⊥
input_read (Replay form) before after bytes read text left input r refused =
    let short : length bytes ≤ 1048576 = input.0 in
    let same = read_same 1048577 before after read bytes left (omega (arith, short)) r in
    no_fault (Replay form) bytes text input (subst (λ (xs : List ℕ). IsFaulty (Replay form) xs text) same refused)
input_read Print before after bytes read text left input r refused =
    let short : length bytes ≤ 1048576 = input.0 in
    let same = read_same 1048577 before after read bytes left (omega (arith, short)) r in
    no_fault Print bytes text input (subst (λ (xs : List ℕ). IsFaulty Print xs text) same refused)
input_read (Run form) before after bytes read text left input r refused =
    let short : length bytes ≤ 1048576 = input.0 in
    let same = read_same 1048577 before after read bytes left (omega (arith, short)) r in
    no_fault (Run form) bytes text input (subst (λ (xs : List ℕ). IsFaulty (Run form) xs text) same refused)
input_read (Rescue form medics) before after bytes read text left input r refused =
    let short : length bytes ≤ 1048576 = input.0 in
    let same = read_same 1048577 before after read bytes left (omega (arith, short)) r in
    no_fault (Rescue form medics) bytes text input (subst (λ (xs : List ℕ). IsFaulty (Rescue form medics) xs text) same refused)
input_read (Poll q limit) before after bytes read text left input r refused =
    let short : length bytes ≤ 1048576 = input.0 in
    let same = read_same 1048577 before after read bytes left (omega (arith, short)) r in
    no_fault (Poll q limit) bytes text input (subst (λ (xs : List ℕ). IsFaulty (Poll q limit) xs text) same refused)
input_read Tree before after bytes read text left input r refused =
    let short : length bytes ≤ 1048576 = input.1.2 in
    let same = read_same 1048577 before after read bytes left (omega (arith, short)) r in
    no_fault Tree bytes text input (subst (λ (xs : List ℕ). IsFaulty Tree xs text) same refused)
input_read Audit before after bytes read text left input r refused =
    let same = read_same 132185377 before after read bytes left (image_short bytes input) r in
    no_fault Audit bytes text input (subst (λ (xs : List ℕ). IsFaulty Audit xs text) same refused)
input_read Migrate before after bytes read text left input r refused =
    let same = read_same 132185377 before after read bytes left (image_short bytes (unrefused bytes input)) r in
    no_fault Migrate bytes text input (subst (λ (xs : List ℕ). IsFaulty Migrate xs text) same refused)
input_read (Make start size) before after bytes read text left input r refused = refused
input_read (Draw start size) before after bytes read text left input r refused = refused

-- valid input is answered
pub complete : (job : Job) (before after : Option (List ℕ)) (bytes : List ℕ) (status : ℕ) (finished : Finished) (text : List ℕ) → input_of job before ≡ Some bytes → IsInput job bytes
    → Said job before after status finished text → status ≡ 0
complete job before after bytes status finished text left input (inl d) = d.0
complete job before after bytes status finished text left input (inr r) = absurd (input_read job before after bytes r.1.bytes text left input r.1.read r.1.is)

read_all : (before after : Option (List ℕ)) (bytes read : List ℕ) → before ≡ Some bytes → ReadsAll before after read → read ≡ bytes
read_all None after bytes read left r = absurd (some_none bytes (sym left))
read_all (Some xs) after bytes read left r = r.0 ∙ some_same xs bytes left

-- what was done was done with all that the source had left
done_all : (job : Job) (before after : Option (List ℕ)) (bytes read text : List ℕ) → input_of job before ≡ Some bytes → Reads job before after read → IsInput job read → IsFaulty job bytes text → ⊥
done_all (Replay form) before after bytes read text left r input f = no_fault (Replay form) bytes text (subst (λ (xs : List ℕ). IsInput (Replay form) xs) (read_all before after bytes read left r) input) f
done_all Print before after bytes read text left r input f = no_fault Print bytes text (subst (λ (xs : List ℕ). IsInput Print xs) (read_all before after bytes read left r) input) f
done_all (Run form) before after bytes read text left r input f = no_fault (Run form) bytes text (subst (λ (xs : List ℕ). IsInput (Run form) xs) (read_all before after bytes read left r) input) f
done_all (Rescue form medics) before after bytes read text left r input f = no_fault (Rescue form medics) bytes text (subst (λ (xs : List ℕ). IsInput (Rescue form medics) xs) (read_all before after bytes read left r) input) f
done_all (Poll q limit) before after bytes read text left r input f = no_fault (Poll q limit) bytes text (subst (λ (xs : List ℕ). IsInput (Poll q limit) xs) (read_all before after bytes read left r) input) f
done_all Tree before after bytes read text left r input f = no_fault Tree bytes text (subst (λ (xs : List ℕ). IsInput Tree xs) (read_all before after bytes read left r) input) f
done_all Audit before after bytes read text left r input f = no_fault Audit bytes text (subst (λ (xs : List ℕ). IsInput Audit xs) (read_all before after bytes read left r) input) f
done_all Migrate before after bytes read text left r input f = no_fault Migrate bytes text (subst (λ (xs : List ℕ). IsInput Migrate xs) (read_all before after bytes read left r) input) f
done_all (Make start size) before after bytes read text left r input f = f
done_all (Draw start size) before after bytes read text left r input f = f

-- bytes with a fault are refused
pub faulty : (job : Job) (before after : Option (List ℕ)) (bytes fault : List ℕ) (status : ℕ) (finished : Finished) (text : List ℕ) → input_of job before ≡ Some bytes → IsFaulty job bytes fault
    → Said job before after status finished text → status ≡ 3
faulty job before after bytes fault status finished text left f (inl d) = absurd (done_all job before after bytes d.1.bytes fault left d.1.read (done_input job d.1.bytes finished text d.1.is) f)
faulty job before after bytes fault status finished text left f (inr r) = r.0

pub same_job : (asked : Option Job) (a b : Job) → asked ≡ Some a → asked ≡ Some b → a ≡ b
same_job asked a b e f = same a b (sym e ∙ f)
  where
    same : (x y : Job) → Some x ≡ Some y → x ≡ y
    same x y e = cc

-- what was written with this status is what was done, or the refusal
pub done_written : {D R W : Type 0} (answer status : ℕ) → ((answer ≡ 0) × D) ⊎ ((answer ≡ 3) × R) → (status ≡ answer) ⊎ (status ≡ 5) → status ≡ 0 → (status ≡ answer → W) → D × W
done_written answer status (inl d) (inl same) e w = (d.1, w same)
done_written answer status (inr r) (inl same) e w = absurd (omega (arith, same, e, r.0))
done_written answer status s (inr five) e w = absurd (omega (arith, five, e))

pub refused_written : {D R W : Type 0} (answer status : ℕ) → ((answer ≡ 0) × D) ⊎ ((answer ≡ 3) × R) → (status ≡ answer) ⊎ (status ≡ 5) → status ≡ 3 → (status ≡ answer → W) → R × W
refused_written answer status (inr r) (inl same) e w = (r.1, w same)
refused_written answer status (inl d) (inl same) e w = absurd (omega (arith, same, e, d.0))
refused_written answer status s (inr five) e w = absurd (omega (arith, five, e))
