-- what the operations of an identity in a pool for tables do: a join, a leaving, a recovery, and the commands
use Rattle.std.specs.Prelude.{◌==◌, nat_lt, not, if◌then◌else◌, Bool, true, false, Option, Some, None, Result, Ok, Err}
use Rattle.std.specs.Option.{option_map}
use Rattle.shm_graph.specs.declared.ask.Me.{Me}
use Rattle.plans.specs.declared.or.Or.TheVariants.{First, Second}
use Rattle.shm_count.specs.declared.answer.EraSpent.{EraSpent}
use Rattle.shm_script.specs.declared.line.Line.{Line}
use Rattle.shm_script.specs.declared.line.Line.TheVariants as line
use Rattle.shm_table.specs.Command.{command_effect}
use Rattle.shm_singles.specs.Steps.{LivesAnswer}
use Rattle.shm_session.specs.declared.said.{Call.Call, Misuse.Misuse, Reply.Reply, Said.Said, Stage.Stage}
use Rattle.shm_session.specs.Sessions.{Operations, code_said}
use Rattle.shm_session.specs.declared.said.Misuse.TheVariants as misuse
use Rattle.shm_session.specs.declared.said.Stage.TheVariants as stage
use Rattle.shm_sitting.specs.declared.work.{Work.{Work, TheVariants.{Lives, Command}}, WorkAnswer.WorkAnswer}
use Rattle.shm_sitting.specs.{Numbers.{answered, line_of}, Work.{commanding, join_work, leave_work, recover_work, work_control}}
use Rattle.shm_sitting.specs.declared.work.WorkAnswer.TheVariants as answer

-- the identities of a line are of the pool, and what is sent or received is another one's
abbrev pub may_be : Me → Line → Bool
may_be me (line.Put k n) = true
may_be me (line.Del k) = true
may_be me (line.Get a k) = nat_lt a me.geometry.clients
may_be me (line.Copy k a l) = nat_lt a me.geometry.clients
may_be me (line.Send to k) = if nat_lt to me.geometry.clients then not (me.who == to) else false
may_be me (line.Recv from k) = if nat_lt from me.geometry.clients then not (from == me.who) else false

abbrev pub where_may : Me → Option Line → Option Line
where_may me None = None
where_may me (Some l) = if may_be me l then Some l else None

-- the line of a command that an identity may be given
abbrev pub command_by : Me → Call → Option Line
command_by me c = where_may me (line_of c)

-- a join is for an identity that is new or gone, a leaving for one that has joined, a recovery for one that is dead
abbrev pub joins : Me → Stage → Result Work Misuse
joins me stage.Vacant = Ok (join_work me)
joins me stage.Live = Err misuse.Stage
joins me stage.Dead = Err misuse.Stage

abbrev pub leaves : Me → Stage → Result Work Misuse
leaves me stage.Vacant = Err misuse.Stage
leaves me stage.Live = Ok (leave_work me)
leaves me stage.Dead = Err misuse.Stage

abbrev pub recovers : Me → Stage → Result Work Misuse
recovers me stage.Vacant = Err misuse.Stage
recovers me stage.Live = Err misuse.Stage
recovers me stage.Dead = Ok (recover_work me)

-- a command is for one that has joined; numbers out of range are refused first
abbrev pub runs : Me → Stage → Option Line → Result Work Misuse
runs me t None = Err misuse.Range
runs me stage.Vacant (Some l) = Err misuse.Stage
runs me stage.Live (Some l) = Ok (commanding me l)
runs me stage.Dead (Some l) = Err misuse.Stage

-- what a call begins: 1 is a join, 2 a leaving, 3 a recovery, and every other number a command
abbrev pub begins : Me → Stage → Call → Result Work Misuse
begins me t c = if c.op == 1 then joins me t else if c.op == 2 then leaves me t else if c.op == 3 then recovers me t else runs me t (command_by me c)

-- after a recovery or a leaving: new or gone, or as before where the era is spent
abbrev pub settled : Result (Unit {0}) EraSpent → Stage → Reply
settled (Ok u) t = record { said = code_said 16; stage = stage.Vacant }
settled (Err e) t = record { said = record { code = 25; at = 0; first = e.era; second = 0 }; stage = t }

-- what a join, a recovery or a leaving answers, and how the identity stands after it
abbrev pub lived : LivesAnswer → Stage → Reply
lived (First u) t = record { said = code_said 16; stage = stage.Live }
lived (Second (First r)) t = settled r t
lived (Second (Second r)) t = settled r t

-- an answer as numbers, and how the identity stands after it
abbrev pub replies : WorkAnswer → Stage → Reply
replies (answer.Lives r) t = lived r t
replies (answer.Command a) t = record { said = answered a; stage = t }

-- a command whose deciding step was made will have answered that; of the others nothing is said
abbrev pub effects : Work → Option Said
effects (Lives m) = None
effects (Command m) = option_map answered (command_effect m)

abbrev pub tables : Operations Work WorkAnswer
tables = record { control = work_control; begins = begins; replies = replies; effects = effects }
