-- the commands by their names and arguments, and what one reads in the words
use Rattle.std.specs.{Prelude.{◌≡◌, ℕ, Bool, List, codes, Option, Some, None, option_and_then, option_map}, Borrow.Bor}
use Rattle.std.specs.Option.{is_some}
use Rattle.clap.specs.Words.{App, Row, Rule, first_of, new_app, with_rule}
use Rattle.shm_program.specs.declared.given.{Argument.{Argument, TheVariants.{Flag, Valued, Required}}, Given.Given}
use Rattle.shm_program.specs.declared.words.{Job.{Job, TheVariants.{Audit, Migrate, Tree}}, Name.Name}
use Rattle.shm_program.specs.Words.{flag, is_true, make_command, make_of, number_in, poll_command, poll_of, read_by, replay_command, replay_of, required, run_command, run_of, valued}
use Rattle.shm_program.specs.declared.words.Name.TheVariants as name

-- ---- the commands

-- the word that names a command
abbrev pub word_of : Name → List ℕ
word_of name.Replay = codes "replay"
word_of name.Run = codes "run"
word_of name.Audit = codes "audit"
word_of name.Make = codes "make"
word_of name.Migrate = codes "migrate"
word_of name.Poll = codes "poll"
word_of name.Tree = codes "tree"

-- the command of a name, with its arguments
abbrev pub command_of : Name → App
command_of name.Replay = replay_command
command_of name.Run = run_command
command_of name.Audit = new_app (codes "audit")
command_of name.Make = make_command
command_of name.Migrate = new_app (codes "migrate")
command_of name.Poll = poll_command
command_of name.Tree = new_app (codes "tree")

-- the rule of an argument
abbrev pub rule_in : Argument → Rule
rule_in (Flag id) = flag id.now
rule_in (Valued id) = valued id.now
rule_in (Required id) = required id.now

-- a command with one argument more, where there is one
abbrev pub with_argument : App → Option Argument → App
with_argument command None = command
with_argument command (Some argument) = with_rule command (rule_in argument)

-- ---- what a command reads

-- the bytes of a text that is there
abbrev pub text_in : Option (Bor (List ℕ)) → Option (List ℕ)
text_in text = option_map (λ s. s.now) text

-- the texts are those of the arguments that were read
pub record Gives (given : Given) (rows : List Row) : Type 0 where
  pub image : text_in given.image ≡ first_of (codes "image") rows
  pub print : text_in given.print ≡ first_of (codes "print") rows
  pub medics : text_in given.medics ≡ first_of (codes "medics") rows
  pub start : text_in given.start ≡ first_of (codes "start") rows
  pub size : text_in given.size ≡ first_of (codes "size") rows
  pub turns : text_in given.turns ≡ first_of (codes "turns") rows
  pub limit : text_in given.limit ≡ first_of (codes "limit") rows

-- these texts are what the command reads in the words, and there are none where it refuses them
abbrev pub IsReadBy : App → List (List ℕ) → Option Given → Type 0
IsReadBy command words None = None ≡ read_by command words
IsReadBy command words (Some given) = (rows : List Row) × (Some rows ≡ read_by command words) × Gives given rows

-- whether a flag is set, and the number that an argument spells
abbrev pub is_set : Option (Bor (List ℕ)) → Bool
is_set text = is_true (text_in text)

abbrev pub number_of : Option (Bor (List ℕ)) → Option ℕ
number_of text = option_and_then number_in (text_in text)

-- what the command of a name is asked for by these texts
abbrev pub job_in : Name → Given → Option Job
job_in name.Replay given = replay_of (is_set given.image) (is_set given.print)
job_in name.Run given = run_of (is_set given.image) (is_some given.medics) (number_of given.medics)
job_in name.Audit given = Some Audit
job_in name.Make given = make_of (is_set given.print) (number_of given.start) (number_of given.size)
job_in name.Migrate given = Some Migrate
job_in name.Poll given = poll_of (number_of given.turns) (is_some given.limit) (number_of given.limit)
job_in name.Tree given = Some Tree
