-- what agents run: pieces of work, each a machine
use Rattle.std.specs.Prelude.{ℕ, zero, suc, List, [], ◌∷◌, ◌++◌, map, Result}
use Rattle.shm_graph.specs.{declared.{ask.Me.Me, memo.Memo.Memo}, Asks.Trail, Laws.Control}
use Rattle.plans.specs.declared.{calls.Calls.Calls, or.Or.{Or, TheVariants.{First, Second}}}
use Rattle.plans.specs.{CallsControl.{calls_control, calls_of}, CallsFit.{CallsFits, CallsGives}}
use Rattle.plans.specs.Either.{OrFits, OrGives, or_control}
use Rattle.shm_count.specs.declared.answer.EraSpent.{EraSpent}
use Rattle.shm_recover.specs.declared.{join.JoinState.JoinState, leave.LeaveState.LeaveState}
use Rattle.shm_recover.specs.declared.recover.RecoverState.{RecoverState}
use Rattle.shm_recover.specs.Join.{JoinFits, JoinGives, join_control, join_fresh}
use Rattle.shm_recover.specs.Leave.{Control.{LeaveCall, leave_parts, leaving, leave_steered}, leave_plan}
use Rattle.shm_recover.specs.Recover.{Control.{RecoverCall, recover_parts, recovering, recover_steered}, recover_plan}
use Rattle.shm_script.specs.declared.{line.Line.Line, log.Answer.Answer}
use Rattle.shm_table.specs.Command.{CommandCall, CommandFits, CommandGives, command_control, command_of}

abbrev pub RecoverCalls : Type 0
RecoverCalls = Calls RecoverState RecoverCall

abbrev pub LeaveCalls : Type 0
LeaveCalls = Calls LeaveState LeaveCall

-- a join, a recovery, a command or a leaving
abbrev pub Work : Type 0
Work = Or (Or JoinState RecoverCalls) (Or CommandCall LeaveCalls)

-- what it answers
abbrev pub WorkAnswer : Type 0
WorkAnswer = Or (Or (Unit {0}) (Result (Unit {0}) EraSpent)) (Or Answer (Result (Unit {0}) EraSpent))

abbrev pub work_control : Control Work WorkAnswer
work_control = or_control (or_control join_control (calls_control recover_parts recover_steered)) (or_control command_control (calls_control leave_parts leave_steered))

-- when it fits, and what it gives
abbrev pub WorkFits : Work → Memo → Memo → Trail → Type 0
WorkFits = OrFits (OrFits JoinFits (CallsFits recover_parts recover_plan)) (OrFits CommandFits (CallsFits leave_parts leave_plan))

abbrev pub WorkGives : Work → Memo → Memo → Trail → WorkAnswer → Type 0
WorkGives = OrGives (OrGives JoinGives (CallsGives recover_parts recover_plan)) (OrGives CommandGives (CallsGives leave_parts leave_plan))

-- each before its first word step
abbrev pub join_work : Me → Work
join_work me = First (First (join_fresh me))

abbrev pub recover_work : Me → Work
recover_work me = First (Second (calls_of recover_steered (recovering me)))

abbrev pub commanding : Me → Line → Work
commanding me line = Second (First (command_of me line))

abbrev pub leave_work : Me → Work
leave_work me = Second (Second (calls_of leave_steered (leaving me)))

-- what an agent of a script has to do, by its number: the client joins, runs the commands in order and leaves; each one after it recovers the identity
abbrev pub work_of : Me → List Line → ℕ → List Work
work_of me lines zero = join_work me ∷ map (commanding me) lines ++ leave_work me ∷ []
work_of me lines (suc n) = recover_work me ∷ []
