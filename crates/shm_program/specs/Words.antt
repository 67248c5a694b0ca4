-- which words are accepted, and what they ask for
use Rattle.std.specs.Prelude.{◌≡◌, ◌≤◌, ℕ, Bool, true, false, nat_le, ◌&&◌, if◌then◌else◌, List, [], ◌∷◌, codes, Option, Some, None, IfSome, option_and_then}
use Rattle.std.specs.{Option.is_some, Str.bytes_eq}
use Rattle.clap.specs.Words.{App, Kinds, Row, Rule, fault_of, first_of, found_of, matches_of, new_app, new_rule, rows_of, with_rule}
use Rattle.clap.specs.declared.{builder.action.ArgAction.TheVariants.SetTrue, parser.matches.ArgMatches.ArgMatches}
use Rattle.shm_script.specs.Numbers.{is_numeral, small, value_after}
use Rattle.shm_program.specs.declared.words.{Form.{Form, TheVariants.{Report, Image}}, Job.Job}
use Rattle.shm_program.specs.declared.words.Job.TheVariants.{Replay, Print, Run, Rescue, Audit, Migrate, Make, Draw, Poll, Tree}
use Rattle.shm_program.specs.declared.words.Name.{Name}
use Rattle.shm_program.specs.declared.words.Name.TheVariants as name

-- ---- the commands

-- a flag: two dashes and its name
abbrev pub flag : List ℕ → Rule
flag id = record (new_rule id) { long = Some id; action = Some SetTrue }

-- a word that is required
abbrev pub required : List ℕ → Rule
required id = record (new_rule id) { required = true }

-- two dashes and its name, and a word behind them
abbrev pub valued : List ℕ → Rule
valued id = record (new_rule id) { long = Some id }

-- `replay` has two flags
abbrev pub replay_command : App
replay_command = with_rule (with_rule (new_app (codes "replay")) (flag (codes "image"))) (flag (codes "print"))

-- `run` has one, and a word behind another one
abbrev pub run_command : App
run_command = with_rule (with_rule (new_app (codes "run")) (flag (codes "image"))) (valued (codes "medics"))

-- `make` has two words and a flag
abbrev pub make_command : App
make_command = with_rule (with_rule (with_rule (new_app (codes "make")) (required (codes "start"))) (required (codes "size"))) (flag (codes "print"))

-- `poll` has a word, and one behind a flag
abbrev pub poll_command : App
poll_command = with_rule (with_rule (new_app (codes "poll")) (required (codes "turns"))) (valued (codes "limit"))

-- ---- what a command reads

-- the arguments that were read
abbrev pub rows_in : ArgMatches → List Row
rows_in m = rows_of (found_of m)

-- what there is where there is no fault, and otherwise nothing
abbrev pub unless_faulty : {A : Type 0} → Kinds → A → Option A
unless_faulty [] a = Some a
unless_faulty (k ∷ ks) a = None

-- what a command reads in words, of which the first one is its name: nothing where it refuses them
abbrev pub read_by : App → List (List ℕ) → Option (List Row)
read_by command words = unless_faulty (fault_of command words) (matches_of command words)

-- whether the text of a flag says that it is set
abbrev pub is_true : Option (List ℕ) → Bool
is_true None = false
is_true (Some text) = bytes_eq text (codes "true")

-- the number below 2^64 that a word spells in decimal without a leading zero
abbrev pub number_in : List ℕ → Option ℕ
number_in word = if is_numeral word then small (value_after 0 word) else None

-- ---- what they ask for

-- `replay` by its flags `--image` and `--print`, of which one at most may be set
abbrev pub replay_of : Bool → Bool → Option Job
replay_of false false = Some (Replay Report)
replay_of true false = Some (Replay Image)
replay_of false true = Some Print
replay_of true true = None

abbrev pub replay_in : List Row → Option Job
replay_in rows = replay_of (is_true (first_of (codes "image") rows)) (is_true (first_of (codes "print") rows))

-- the form that the flag `--image` asks for
abbrev pub form_of : Bool → Form
form_of false = Report
form_of true = Image

-- how many threads may recover who dies
abbrev pub is_medics : ℕ → Bool
is_medics n = nat_le 1 n && nat_le n 4

abbrev pub medics_of : Option ℕ → Option ℕ
medics_of None = None
medics_of (Some n) = if is_medics n then Some n else None

-- `run` by its form and its number, which may be missing
abbrev pub run_by : Form → Bool → Option ℕ → Option Job
run_by form false medics = Some (Run form)
run_by form true (Some k) = Some (Rescue form k)
run_by form true None = None

abbrev pub run_of : Bool → Bool → Option ℕ → Option Job
run_of image rescued medics = run_by (form_of image) rescued (medics_of medics)

abbrev pub run_in : List Row → Option Job
run_in rows = run_of (is_true (first_of (codes "image") rows)) (is_some (first_of (codes "medics") rows)) (option_and_then number_in (first_of (codes "medics") rows))

-- a command that has nothing but what each command has, as `audit`, asks for this
abbrev pub only : Job → List Row → Option Job
only job rows = Some job

-- how many commands a drawn script may have
abbrev pub is_size : ℕ → Bool
is_size n = nat_le 1 n && nat_le n 4000

abbrev pub make_or_draw : Bool → ℕ → ℕ → Job
make_or_draw true start size = Draw start size
make_or_draw false start size = Make start size

-- `make` by its flag `--print` and its numbers
abbrev pub make_of : Bool → Option ℕ → Option ℕ → Option Job
make_of print (Some start) (Some size) = if is_size size then Some (make_or_draw print start size) else None
make_of print _ _ = None

abbrev pub make_in : List Row → Option Job
make_in rows = make_of (is_true (first_of (codes "print") rows)) (option_and_then number_in (first_of (codes "start") rows)) (option_and_then number_in (first_of (codes "size") rows))

-- how many turns a poll may give, and how many polls there may be
abbrev pub is_count : ℕ → Bool
is_count n = nat_le 1 n && nat_le n 1000000

abbrev pub count_of : Option ℕ → Option ℕ
count_of None = None
count_of (Some n) = if is_count n then Some n else None

-- `poll` by its two numbers, of which the second one may be missing
abbrev pub poll_by : Option ℕ → Bool → Option ℕ → Option Job
poll_by (Some q) false limit = Some (Poll q None)
poll_by (Some q) true (Some p) = Some (Poll q (Some p))
poll_by _ _ _ = None

abbrev pub poll_of : Option ℕ → Bool → Option ℕ → Option Job
poll_of turns limited limit = poll_by (count_of turns) limited (count_of limit)

abbrev pub poll_in : List Row → Option Job
poll_in rows = poll_of (option_and_then number_in (first_of (codes "turns") rows)) (is_some (first_of (codes "limit") rows)) (option_and_then number_in (first_of (codes "limit") rows))

-- what the words of a command ask for: nothing where it refuses them
abbrev pub asked : App → (List Row → Option Job) → List (List ℕ) → Option Job
asked command job words = option_and_then job (read_by command words)

-- the command that a word names
abbrev pub name_of : List ℕ → Option Name
name_of word =
    if bytes_eq word (codes "replay") then Some name.Replay
    else if bytes_eq word (codes "run") then Some name.Run
    else if bytes_eq word (codes "audit") then Some name.Audit
    else if bytes_eq word (codes "make") then Some name.Make
    else if bytes_eq word (codes "migrate") then Some name.Migrate
    else if bytes_eq word (codes "poll") then Some name.Poll
    else if bytes_eq word (codes "tree") then Some name.Tree
    else None

abbrev pub job_by : Name → List (List ℕ) → Option Job
job_by name.Replay words = asked replay_command replay_in words
job_by name.Run words = asked run_command run_in words
job_by name.Audit words = asked (new_app (codes "audit")) (only Audit) words
job_by name.Make words = asked make_command make_in words
job_by name.Migrate words = asked (new_app (codes "migrate")) (only Migrate) words
job_by name.Poll words = asked poll_command poll_in words
job_by name.Tree words = asked (new_app (codes "tree")) (only Tree) words

-- what the words ask for: the first one names the command, and nothing where it names none
abbrev pub job_of : List (List ℕ) → Option Job
job_of [] = None
job_of (word ∷ words) = option_and_then (λ n. job_by n (word ∷ words)) (name_of word)

-- the first word names a command
abbrev pub NamesCommand : List (List ℕ) → Type 0
NamesCommand words = (n : Name) × (first : List ℕ) × (rest : List (List ℕ)) × (words ≡ first ∷ rest) × (name_of first ≡ Some n)

-- turns or polls, 1 to 1,000,000
abbrev pub IsCount : ℕ → Type 0
IsCount n = (1 ≤ n) × (n ≤ 1000000)

-- threads that recover, 1 to 4
abbrev pub AreMedics : ℕ → Type 0
AreMedics n = (1 ≤ n) × (n ≤ 4)

-- a trace is drawn with 1 to 4,000 commands for each client
abbrev pub JobFits : Job → Type 0
JobFits (Make start size) = (1 ≤ size) × (size ≤ 4000)
JobFits (Draw start size) = (1 ≤ size) × (size ≤ 4000)
JobFits (Poll q limit) = IsCount q × IfSome limit IsCount
JobFits (Rescue form medics) = AreMedics medics
JobFits _ = Unit {0}

-- a job may wait: for threads, or for a future that is polled
abbrev pub may_wait : Job → Bool
may_wait (Run form) = true
may_wait (Rescue form medics) = true
may_wait (Poll q limit) = true
may_wait _ = false

-- the text that a job writes follows from the bytes that it reads: of all but runs by threads and by polls, whose turns come in any lawful order, and scripts for versions of a map, of whose lines it isn't told how many word steps they take
abbrev pub is_determined : Job → Bool
is_determined (Run form) = false
is_determined (Rescue form medics) = false
is_determined (Poll q limit) = false
is_determined Tree = false
is_determined _ = true

-- and so it does for what the words ask for
abbrev pub AreDetermined : List (List ℕ) → Type 0
AreDetermined words = (job : Job) → job_of words ≡ Some job → is_determined job ≡ true
