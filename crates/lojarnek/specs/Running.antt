-- commands of a client
use Rattle.std.specs.Prelude.{◌≡◌, ◌^◌, ◌<◌, ◌≤◌, ◌⊎◌, Bool, true, false, Option, Some, Result, Ok, Err}
use Rattle.shm_script.specs.declared.{line.Line.Line, log.Answer.Answer}
use Rattle.shm_script.specs.declared.line.Line.TheVariants as line
use Rattle.shm_script.specs.declared.log.Answer.TheVariants as answer
use Rattle.shm_pool.specs.{declared.reply.Reply.Reply, Called.HasCommanded}
use Rattle.shm_pool.specs.declared.reply.Reply.TheVariants as reply
use Rattle.lojarnek.specs.declared.error.Error.{Error, TheVariants.{Died, NoSuchClient, ToItself, WrongKind}}
use Rattle.lojarnek.specs.{Standing.Acts, Tables.{author_wrong, own_wrong, peer_wrong}}

-- whether this answer, which a command was going to give, says that it took effect
abbrev pub had_effect : Line → Option Answer → Bool
had_effect (line.Put key n) (Some (answer.Stored b)) = true
had_effect (line.Copy key a other) (Some (answer.Value n b)) = true
had_effect (line.Recv from key) (Some (answer.Value n b)) = true
had_effect (line.Del key) (Some answer.Ok) = true
had_effect (line.Send to key) (Some answer.Ok) = true
had_effect l a = false

-- the pool is for tables, and the client lives
pub record MayBeRun (c : Acts) : Type 0 where
  pub tables : c.token.of.start.tables ≡ true
  pub alive : c.token.dead ≡ false

-- the client ran the command of a line, and gave o
pub record HasRunLine (l : Line) (c c' : Acts) (o : Reply Answer) : Type 0 where
  pub may : MayBeRun c
  pub called : HasCommanded l c.token c'.token c.left c'.left o

-- keys and numbers are in their ranges
abbrev pub KeysFit : Line → Type 0
KeysFit (line.Put key n) = (key < 2 ^ 32) × (n < 2 ^ 64)
KeysFit (line.Copy key a other) = (key < 2 ^ 32) × (other < 2 ^ 32)
KeysFit (line.Del key) = key < 2 ^ 32
KeysFit (line.Get a key) = key < 2 ^ 32
KeysFit (line.Send to key) = key < 2 ^ 32
KeysFit (line.Recv from key) = key < 2 ^ 32

-- what is wrong with the call of a line before its first word step
abbrev pub wrong_of : Acts → Line → Option Error
wrong_of c (line.Put key n) = own_wrong c
wrong_of c (line.Del key) = own_wrong c
wrong_of c (line.Get a key) = author_wrong c a
wrong_of c (line.Copy key a other) = author_wrong c a
wrong_of c (line.Send to key) = peer_wrong c to
wrong_of c (line.Recv from key) = peer_wrong c from

-- what that says: the pool isn't for tables, or a number is no client's, or the client's own
abbrev pub IsWrong : Acts → Error → Type 0
IsWrong c WrongKind = c.token.of.start.tables ≡ false
IsWrong c (NoSuchClient a n) = (n ≡ c.token.of.start.geometry.clients) × (n ≤ a)
IsWrong c (ToItself a) = a ≡ c.token.account.who
IsWrong c e = ⊥

-- what came of a line: its command answered; or the client was dead, or died in the command, which took effect or not; or the call was wrong, and changed nothing
abbrev pub CameOf : Line → Acts → Acts → Result Answer Error → Type 0
CameOf l c c' (Ok a) = HasRunLine l c c' (reply.Done a)
CameOf l c c' (Err (Died done)) = ((c.token.dead ≡ true) × (c' ≡ c) × (done ≡ false)) ⊎ (HasRunLine l c c' reply.Died × (done ≡ had_effect l c'.token.effect))
CameOf l c c' (Err e) = IsWrong c e × (c' ≡ c)
