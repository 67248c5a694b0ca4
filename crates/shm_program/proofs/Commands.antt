-- what the words of a command ask for, by what was read in them
use Rattle.std.proofs.Common.{◌≡◌, ◌<◌, ℕ, Bool, true, false, ◌&&◌, arith, get_or, map, List, [], ◌∷◌, Option, Some, None, length, refl, sym, ap, ap₂, ◌∙◌, IfErr, Result, Ok, Err, option_and_then, subst, codes}
use Rattle.std.specs.{Borrow.Bor, Option.is_some}
use Rattle.clap.specs.Words.{App, IsAmong, Kinds, Row, fault_of, first_of, is_simple, is_simple_and_free, matches_of}
use Rattle.clap.specs.declared.error.kind.ErrorKind.{ErrorKind}
use Rattle.clap.proofs.OnLiterals.{clap_on_literals}
use Rattle.shm_program.specs.Givens.{Gives, IsReadBy, command_of, job_in, number_of, text_in}
use Rattle.shm_program.specs.declared.{given.Given.Given, words.{Job.Job, Name.Name}}
use Rattle.shm_program.specs.Words.{NamesCommand, asked, is_true, job_by, job_of, make_in, make_of, name_of, number_in, only, poll_in, poll_of, read_by, replay_in, replay_of, run_in, run_of, unless_faulty}
use Rattle.shm_program.specs.declared.words.Job.TheVariants as job
use Rattle.shm_program.specs.declared.words.Name.TheVariants as name

pub command_free : (n : Name) → is_simple_and_free (command_of n) ≡ true
unfolding clap_on_literals
command_free name.Replay = refl
command_free name.Run = refl
command_free name.Audit = refl
command_free name.Make = refl
command_free name.Migrate = refl
command_free name.Poll = refl
command_free name.Tree = refl

first_holds : (a b : Bool) → (a && b) ≡ true → a ≡ true
first_holds true b e = refl
first_holds false b e = e

pub simple_too : (a : App) → is_simple_and_free a ≡ true → is_simple a ≡ true
simple_too a e = first_holds (is_simple a) _ e

-- words that a command takes are read
pub read_when : (a : App) (words : List (List ℕ)) (rows : List Row) → fault_of a words ≡ [] → rows ≡ matches_of a words → Some rows ≡ read_by a words
read_when a words rows none is = sym (ap₂ (λ (ks : Kinds) (rs : List Row). unless_faulty ks rs) none (sym is))

some_kind : (k : ErrorKind) (ks : Kinds) (rows : List Row) → IsAmong k ks → None ≡ unless_faulty ks rows
some_kind k [] rows among = absurd among
some_kind k (x ∷ xs) rows among = refl

-- and in words that it refuses nothing is
pub refused_when : (a : App) (words : List (List ℕ)) (k : ErrorKind) → IsAmong k (fault_of a words) → None ≡ read_by a words
refused_when a words k among = some_kind k (fault_of a words) _ among

-- what the command of a name is asked for by the arguments that were read
abbrev job_of_rows : Name → List Row → Option Job
job_of_rows name.Replay rows = replay_in rows
job_of_rows name.Run rows = run_in rows
job_of_rows name.Audit rows = only job.Audit rows
job_of_rows name.Make rows = make_in rows
job_of_rows name.Migrate rows = only job.Migrate rows
job_of_rows name.Poll rows = poll_in rows
job_of_rows name.Tree rows = only job.Tree rows

-- and for what the words of the command do
asked_by : (n : Name) (words : List (List ℕ)) → asked (command_of n) (job_of_rows n) words ≡ job_by n words
asked_by name.Replay words = refl
asked_by name.Run words = refl
asked_by name.Audit words = refl
asked_by name.Make words = refl
asked_by name.Migrate words = refl
asked_by name.Poll words = refl
asked_by name.Tree words = refl

some_by : (t : Option (Bor (List ℕ))) (s : Option (List ℕ)) → text_in t ≡ s → is_some t ≡ is_some s
some_by None s e = ap is_some e
some_by (Some t) s e = ap is_some e

-- the texts that a command read ask for what the arguments do
same_job : (n : Name) (g : Given) (rows : List Row) → Gives g rows → job_in n g ≡ job_of_rows n rows
same_job name.Replay g rows t = ap₂ replay_of (ap is_true t.image) (ap is_true t.print)
same_job name.Run g rows t =
    let both = ap₂ (λ (b d : Bool). run_of b d (number_of g.medics)) (ap is_true t.image) (some_by g.medics _ t.medics) in
    both ∙ ap (run_of (is_true (first_of (codes "image") rows)) (is_some (first_of (codes "medics") rows))) (ap (option_and_then number_in) t.medics)
same_job name.Audit g rows t = refl
same_job name.Make g rows t =
    let both = ap₂ (λ (b : Bool) (n : Option ℕ). make_of b n (number_of g.size)) (ap is_true t.print) (ap (option_and_then number_in) t.start) in
    both ∙ ap (make_of (is_true (first_of (codes "print") rows)) (option_and_then number_in (first_of (codes "start") rows))) (ap (option_and_then number_in) t.size)
same_job name.Migrate g rows t = refl
same_job name.Poll g rows t =
    let both = ap₂ (λ (n : Option ℕ) (b : Bool). poll_of n b (number_of g.limit)) (ap (option_and_then number_in) t.turns) (some_by g.limit _ t.limit) in
    both ∙ ap (poll_of (option_and_then number_in (first_of (codes "turns") rows)) (is_some (first_of (codes "limit") rows))) (ap (option_and_then number_in) t.limit)
same_job name.Tree g rows t = refl

-- what a command is asked for where it read the words
pub asked_when : (n : Name) (words : List (List ℕ)) (read : Option Given) (g : Given) → read ≡ Some g → IsReadBy (command_of n) words read → job_in n g ≡ job_by n words
asked_when n words read g is by = go (subst (λ (r : Option Given). IsReadBy (command_of n) words r) is by)
  where
    go : IsReadBy (command_of n) words (Some g) → job_in n g ≡ job_by n words
    go (rows, e, gives) = same_job n g rows gives ∙ (ap (option_and_then (job_of_rows n)) e ∙ asked_by n words)

-- and nothing where it refused them
pub unasked_when : (n : Name) (words : List (List ℕ)) (read : Option Given) → read ≡ None → IsReadBy (command_of n) words read → None ≡ job_by n words
unasked_when n words read is by =
    ap (option_and_then (job_of_rows n)) (subst (λ (r : Option Given). IsReadBy (command_of n) words r) is by) ∙ asked_by n words

-- the first word names a command
pub names_command : {A : Type 0} (f : A → List ℕ) (ws : List A) (d : A) (n : Name) → 0 < length ws → name_of (f (get_or ws 0 d)) ≡ Some n → NamesCommand (map f ws)
names_command f [] d n some is = absurd (omega (arith, some))
names_command f (w ∷ ws) d n some is = (n, f w, map f ws, refl, is)

-- and so it does where the words ask for a job
pub command_named : (words : List (List ℕ)) (job : Job) → job_of words ≡ Some job → NamesCommand words
command_named [] job e = cc
command_named (w ∷ ws) job e = go (name_of w) refl e
  where
    go : (n : Option Name) → name_of w ≡ n → option_and_then (λ m. job_by m (w ∷ ws)) n ≡ Some job → NamesCommand (w ∷ ws)
    go None named e = cc
    go (Some n) named e = (n, w, ws, refl, named)

pub at_each_err : {T E : Type 0} (r : Result T E) (Q : Type 0) → Q → IfErr r (λ _. Q)
at_each_err (Ok x) Q q = tt
at_each_err (Err e) Q q = q
