-- the machines of operations on single blocks, in groups, and the control of each group
use Rattle.std.specs.Prelude.{ℕ, Bool, Result}
use Rattle.shm_graph.specs.Laws.{Control}
use Rattle.plans.specs.{declared.{calls.Calls.Calls, or.Or.Or, word.Word.Word}, CallsControl.calls_control}
use Rattle.plans.specs.{Either.or_control, Words.word_control}
use Rattle.shm_count.specs.declared.answer.{EraSpent.EraSpent, Made.Made, ShareFault.ShareFault}
use Rattle.shm_count.specs.declared.up_root.RootingState.{RootingState}
use Rattle.shm_count.specs.UpRoot.Control.{RootingCall, rooting_parts, rooting_steered}
use Rattle.shm_ref.specs.declared.answer.{Busy.Busy, LookFault.LookFault, NoSuchWord.NoSuchWord, SetFault.SetFault}
use Rattle.shm_ref.specs.declared.{root_of.NamingState.NamingState, drop_root.DropState.DropState}
use Rattle.shm_ref.specs.declared.{hold.HoldState.HoldState, look.LookState.LookState, read.ReadState.ReadState}
use Rattle.shm_ref.specs.declared.{release.ReleaseState.ReleaseState, set_ref.SetState.SetState}
use Rattle.shm_ref.specs.{DropRoot.Control.{DropCall, drop_parts, drop_steered}, Hold.Control.hold_steered}
use Rattle.shm_ref.specs.{Look.look_steered, Read.read_steered, Release.release_steered, RootOf.naming_steered}
use Rattle.shm_ref.specs.SetRef.Control.{SetCall, set_parts, set_steered}
use Rattle.shm_queue.specs.declared.{answer.{PeekFault.PeekFault, SendFault.SendFault}, drain.DrainState.DrainState}
use Rattle.shm_queue.specs.declared.{receive.ReceiveState.ReceiveState, send.SendState.SendState}
use Rattle.shm_queue.specs.Drain.Control.{DrainCall, drain_parts, drain_steered}
use Rattle.shm_queue.specs.Receive.Control.{ReceiveCall, receive_parts, receive_steered}
use Rattle.shm_queue.specs.Send.Control.{SendCall, send_parts, send_steered}
use Rattle.shm_recover.specs.declared.{join.JoinState.JoinState, leave.LeaveState.LeaveState}
use Rattle.shm_recover.specs.{declared.recover.RecoverState.RecoverState, Join.join_control}
use Rattle.shm_recover.specs.Leave.Control.{LeaveCall, leave_parts, leave_steered}
use Rattle.shm_recover.specs.Recover.Control.{RecoverCall, recover_parts, recover_steered}

-- machines of an identity that comes, is recovered or goes
abbrev pub Lives : Type 0
Lives = Or JoinState (Or (Calls RecoverState RecoverCall) (Calls LeaveState LeaveCall))

-- what they answer
abbrev pub LivesAnswer : Type 0
LivesAnswer = Or (Unit {0}) (Or (Result (Unit {0}) EraSpent) (Result (Unit {0}) EraSpent))

-- machines over roots: what one names, another one for a block, one made empty
abbrev pub Roots : Type 0
Roots = Or (Calls NamingState Word) (Or (Calls RootingState RootingCall) (Calls DropState DropCall))

-- what they answer
abbrev pub RootsAnswer : Type 0
RootsAnswer = Or ℕ (Or (Result ℕ ShareFault) (Result Bool EraSpent))

-- machines over the words of a block: its tag, a plain word, a reference word that is read or set
abbrev pub Words : Type 0
Words = Or (Or Word (Calls ReadState Word)) (Or (Calls LookState Word) (Calls SetState SetCall))

-- what they answer
abbrev pub WordsAnswer : Type 0
WordsAnswer = Or (Or ℕ (Result ℕ NoSuchWord)) (Or (Result ℕ LookFault) (Result (Unit {0}) SetFault))

-- machines over a latch: it is taken, or given back
abbrev pub Latches : Type 0
Latches = Or (Calls HoldState Word) (Calls ReleaseState Word)

-- what they answer
abbrev pub LatchesAnswer : Type 0
LatchesAnswer = Or (Result (Unit {0}) Busy) (Unit {0})

-- machines over queues: a send, a receive, and all of them drained
abbrev pub Queues : Type 0
Queues = Or (Calls SendState SendCall) (Or (Calls ReceiveState ReceiveCall) (Calls DrainState DrainCall))

-- what they answer
abbrev pub QueuesAnswer : Type 0
QueuesAnswer = Or (Result ℕ SendFault) (Or (Result Made PeekFault) (Result ℕ EraSpent))

-- the control of each
abbrev pub lives_control : Control Lives LivesAnswer
lives_control = or_control join_control (or_control (calls_control recover_parts recover_steered) (calls_control leave_parts leave_steered))

abbrev pub roots_control : Control Roots RootsAnswer
roots_control = or_control (calls_control word_control naming_steered) (or_control (calls_control rooting_parts rooting_steered) (calls_control drop_parts drop_steered))

abbrev pub words_control : Control Words WordsAnswer
words_control = or_control (or_control word_control (calls_control word_control read_steered)) (or_control (calls_control word_control look_steered) (calls_control set_parts set_steered))

abbrev pub latches_control : Control Latches LatchesAnswer
latches_control = or_control (calls_control word_control hold_steered) (calls_control word_control release_steered)

abbrev pub queues_control : Control Queues QueuesAnswer
queues_control = or_control (calls_control send_parts send_steered) (or_control (calls_control receive_parts receive_steered) (calls_control drain_parts drain_steered))
