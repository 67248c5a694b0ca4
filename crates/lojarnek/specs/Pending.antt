-- commands on tables that are made some word steps at a time
use Rattle.std.specs.Prelude.{◌≡◌, ℕ, ◌⊎◌, Bool, true, false, Option, Some, None, MatchOption, Result, Ok, Err, IfOk, IfErr}
use Rattle.shm_script.specs.declared.{line.Line.Line, log.Answer.Answer}
use Rattle.shm_script.specs.declared.line.Line.TheVariants as line
use Rattle.shm_table.specs.Command.{CommandCall, CommandFits, CommandGives, Operates.CommandMay}
use Rattle.shm_table.specs.Command.{command_control, command_of}
use Rattle.shm_graph.specs.declared.{ask.Turn.{Turn, TheVariants.{More, Done, Died}}, run.Account.Account}
use Rattle.shm_pool.specs.Tokens.{me_of}
use Rattle.lojarnek.specs.declared.{error.Error.Error, outcome.Outcome.{Outcome, TheVariants.{Stored, Number, There}}}
use Rattle.lojarnek.specs.{Amid.IsAmid, Running.{CameOf, had_effect, wrong_of}}
use Rattle.lojarnek.specs.{Standing.{Acts, KeepsMap, IsReadyForCall}, Queues.{HasReceived, HasSent, WasThere}}
use Rattle.lojarnek.specs.Tables.{HasNone, HasNumber, OnlyKey, Refuses, SameClient, found_of, stored_of, there_of}
use Rattle.lojarnek.specs.declared.error.Error.TheVariants as error

-- a client that began a command, how it stands now, and the command
pub record Started : Type 0 where
  pub from : Acts
  pub now : Acts
  pub line : Line

-- it is in the middle of the command of a line
abbrev pub IsAmidLine : Line → CommandCall → Acts → Acts → Type 0
IsAmidLine l m c c' = IsAmid command_control CommandFits CommandGives CommandMay (command_of (me_of c.token.of c.token.account) l) m c c'

-- the client, with what the command showed in which it died
abbrev pub showing : Option Answer → Acts → Acts
showing a c = record c { token = record c.token { effect = a } }

-- after word steps of its command it goes on; or this came of the line, whose command shows a
abbrev pub HasGoneOn : Line → CommandCall → Acts → Acts → Option Answer → Turn Answer → Type 0
HasGoneOn l m c c' a More = IsAmidLine l m c c'
HasGoneOn l m c c' a (Done b) = CameOf l c c' (Ok b) × IsReadyForCall c'.token × (c'.token.dead ≡ false)
HasGoneOn l m c c' a Died = CameOf l c (showing a c') (Err (error.Died (had_effect l a))) × IsReadyForCall c'.token × (c'.token.dead ≡ true)

-- ---- what a command answers, in a caller's words

abbrev pub as_stored : Result (Unit {0}) Error → Result Outcome Error
as_stored (Ok u) = Ok Stored
as_stored (Err e) = Err e

abbrev pub as_number : Result (Option ℕ) Error → Result Outcome Error
as_number (Ok o) = Ok (Number o)
as_number (Err e) = Err e

abbrev pub as_there : Result Bool Error → Result Outcome Error
as_there (Ok b) = Ok (There b)
as_there (Err e) = Err e

abbrev pub outcome_of : Line → Answer → Result Outcome Error
outcome_of (line.Put key n) a = as_stored (stored_of a)
outcome_of (line.Del key) a = as_there (there_of a 0)
outcome_of (line.Get author key) a = as_number (found_of a)
outcome_of (line.Copy key author other) a = as_number (found_of a)
outcome_of (line.Send to key) a = as_there (there_of a to)
outcome_of (line.Recv from key) a = as_number (found_of a)

-- what that says of the client that began it, and of the one that has made it: as the call of the same name does
abbrev pub Says : Line → Acts → Acts → Outcome → Type 0
Says (line.Put key n) c c' Stored = HasNumber key n c'.token.account
Says (line.Del key) c c' (There b) = HasNone key c'.token.account × WasThere key b c.token.account
Says (line.Get a key) c c' (Number o) = a ≡ c.token.account.who → MatchOption o (HasNone key c.token.account) (λ n. HasNumber key n c.token.account)
Says (line.Copy key a other) c c' (Number o) =
    MatchOption o (KeepsMap c.token.account c'.token.account) (λ n. HasNumber key n c'.token.account)
    × (a ≡ c.token.account.who → MatchOption o (HasNone other c.token.account) (λ n. HasNumber other n c.token.account))
Says (line.Send to key) c c' (There b) = WasThere key b c.token.account × HasSent to key b c.token.account c'.token.account
Says (line.Recv from key) c c' (Number o) =
    MatchOption o (KeepsMap c.token.account c'.token.account) (λ n. HasNumber key n c'.token.account)
    × HasReceived from key o c.token.account c'.token.account
Says l c c' x = ⊥

-- what is so where the client died in it and it was done
abbrev pub IsDoneBy : Line → Acts → Account → Type 0
IsDoneBy (line.Put key n) c e = HasNumber key n e
IsDoneBy (line.Del key) c e = HasNone key e
IsDoneBy (line.Get a key) c e = KeepsMap c.token.account e
IsDoneBy (line.Copy key a other) c e = WasThere key true e
IsDoneBy (line.Send to key) c e = KeepsMap c.token.account e
IsDoneBy (line.Recv from key) c e = WasThere key true e

-- no other key changed, or, by a command that changes no key, none
abbrev pub KeepsOthers : Line → Account → Account → Type 0
KeepsOthers (line.Put key n) e e' = OnlyKey key e e'
KeepsOthers (line.Del key) e e' = OnlyKey key e e'
KeepsOthers (line.Get a key) e e' = KeepsMap e e'
KeepsOthers (line.Copy key a other) e e' = OnlyKey key e e'
KeepsOthers (line.Send to key) e e' = KeepsMap e e'
KeepsOthers (line.Recv from key) e e' = OnlyKey key e e'

-- The command of a line has ended, however many times it went on: what it answered is so; otherwise it was refused, or the client died in it
pub record HasAnswered (l : Line) (c c' : Acts) (r : Result Outcome Error) : Type 0 where
  pub said : IfOk r (Says l c c')
  pub others : KeepsOthers l c.token.account c'.token.account
  pub refused : IfErr r (Refuses (IsDoneBy l c) c c')
  pub lives : IfOk r (λ _. c'.token.dead ≡ false)
  pub stays : SameClient c c'

-- e is what is wrong with the call of a line, or nothing is and the client is dead
abbrev pub IsUnstarted : Line → Acts → Error → Type 0
IsUnstarted l c e = (wrong_of c l ≡ Some e) ⊎ ((wrong_of c l ≡ None) × (c.token.dead ≡ true) × (e ≡ error.Died false))
