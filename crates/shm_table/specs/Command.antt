-- the control of a command of a line: that of one of the commands
pub mod Bound
pub mod Maps
pub mod Sends
pub mod Operates
use Rattle.std.specs.Prelude.{◌≢◌, ℕ, ◌<◌, Bool, false, Option}
use Rattle.shm_graph.specs.{declared.{ask.Me.Me, memo.Memo.Memo}, Asks.Trail, Events.Event, Laws.Control}
use Rattle.shm_graph.specs.Mapped.{MappedGives, mapped}
use Rattle.plans.specs.declared.{calls.Calls.Calls, or.Or.{Or, TheVariants.{First, Second}}}
use Rattle.plans.specs.{CallsControl.{calls_does, calls_of}, CallsFit.{CallsFits, CallsGives}, Deciding.either}
use Rattle.plans.specs.Either.{OrFits, OrGives, or_control, or_does}
use Rattle.shm_script.specs.declared.{line.Line.Line, log.Answer.Answer}
use Rattle.shm_script.specs.declared.line.Line.TheVariants as line
use Rattle.shm_table.specs.declared.{copy.CopyState.CopyState, del.DelState.DelState, get.GetState.GetState}
use Rattle.shm_table.specs.{declared.put.PutState.PutState, Machines.{Change.del, Copy.copy_control, Put.put, Get.get}}
use Rattle.shm_table.specs.Machines.{Recv.recv_control, Send.send_key}
use Rattle.shm_table.specs.CopyKey.Control.{CopyCalls, CopyAnswer, CopyCall, copy_parts, copying, copy_steered}
use Rattle.shm_table.specs.CopyKey.{copy_plan}
use Rattle.shm_table.specs.Del.{Control.{DelCalls, DelCall, DelCallAnswer, del_parts, deleting, del_steered}, del_plan}
use Rattle.shm_table.specs.Effects.{copy_by, copy_effect, del_by, del_effect, get_effect, put_by, put_effect, recv_by, recv_effect, send_key_by, send_key_effect}
use Rattle.shm_table.specs.Get.{Control.{GetCalls, GetAnswer, GetCall, get_parts, getting, get_steered}, get_plan}
use Rattle.shm_table.specs.Put.{Control.{PutCalls, PutAnswer, PutCall, put_parts, putting, put_steered}, put_plan}
use Rattle.shm_table.specs.RecvKey.{Control.{RecvCalls, receiving_key, recv_parts, recv_steered}, recv_plan}
use Rattle.shm_table.specs.SendKey.Control.{SendKeyCalls, send_key_parts, sending_key, send_key_steered}
use Rattle.shm_table.specs.SendKey.{send_key_plan}

-- its machines: a put or a copy, a removal or a reading, a send or a receive
abbrev pub CommandCall : Type 0
CommandCall = Or (Or PutCalls CopyCalls) (Or (Or DelCalls GetCalls) (Or SendKeyCalls RecvCalls))

-- what the one of them answers
abbrev pub OneAnswer : Type 0
OneAnswer = Or (Or Answer Answer) (Or (Or Answer Answer) (Or Answer Answer))

abbrev pub command_parts : Control CommandCall OneAnswer
command_parts = or_control (or_control put copy_control) (or_control (or_control del get) (or_control send_key recv_control))

-- it answers that
abbrev pub given : OneAnswer → Answer
given = either (either (λ a. a) (λ a. a)) (either (either (λ a. a) (λ a. a)) (either (λ a. a) (λ a. a)))

abbrev pub command_control : Control CommandCall Answer
command_control = mapped given command_parts

-- the numbers of identities of a line are of the pool, and what is sent goes to another one, what is received comes from another one
abbrev pub LineMayStand : Me → Line → Type 0
LineMayStand me (line.Put key n) = Unit {0}
LineMayStand me (line.Del key) = Unit {0}
LineMayStand me (line.Get a key) = a < me.geometry.clients
LineMayStand me (line.Copy key a other) = a < me.geometry.clients
LineMayStand me (line.Send to key) = (to < me.geometry.clients) × (me.who ≢ to)
LineMayStand me (line.Recv from key) = (from < me.geometry.clients) × (from ≢ me.who)

-- the machine of a line, before its first word step
abbrev pub command_of : Me → Line → CommandCall
command_of me (line.Put key n) = First (First (calls_of put_steered (putting me key n)))
command_of me (line.Copy key a other) = First (Second (calls_of copy_steered (copying me key a other)))
command_of me (line.Del key) = Second (First (First (calls_of del_steered (deleting me key))))
command_of me (line.Get a key) = Second (First (Second (calls_of get_steered (getting me a key))))
command_of me (line.Send to key) = Second (Second (First (calls_of send_key_steered (sending_key me to key))))
command_of me (line.Recv from key) = Second (Second (Second (calls_of recv_steered (receiving_key me from key))))

-- ---- when it fits, what it gives, and which events it tells of

abbrev pub CommandFits : CommandCall → Memo → Memo → Trail → Type 0
CommandFits = OrFits (OrFits (CallsFits put_parts put_plan) (CallsFits copy_parts copy_plan)) (OrFits (OrFits (CallsFits del_parts del_plan) (CallsFits get_parts get_plan)) (OrFits (CallsFits send_key_parts send_key_plan) (CallsFits recv_parts recv_plan)))

abbrev pub OneGives : CommandCall → Memo → Memo → Trail → OneAnswer → Type 0
OneGives = OrGives (OrGives (CallsGives put_parts put_plan) (CallsGives copy_parts copy_plan)) (OrGives (OrGives (CallsGives del_parts del_plan) (CallsGives get_parts get_plan)) (OrGives (CallsGives send_key_parts send_key_plan) (CallsGives recv_parts recv_plan)))

abbrev pub CommandGives : CommandCall → Memo → Memo → Trail → Answer → Type 0
CommandGives = MappedGives given OneGives

abbrev pub command_does : CommandCall → ℕ → Event
command_does = or_does (or_does (calls_does put_parts put_plan) (calls_does copy_parts copy_plan)) (or_does (or_does (calls_does del_parts del_plan) (calls_does get_parts get_plan)) (or_does (calls_does send_key_parts send_key_plan) (calls_does recv_parts recv_plan)))

-- ---- what it will answer, where its deciding step was made, and whether the step that finds a word is that one

abbrev pub command_effect : CommandCall → Option Answer
command_effect = either (either put_effect copy_effect) (either (either del_effect get_effect) (either send_key_effect recv_effect))

abbrev pub command_by : CommandCall → ℕ → Bool
command_by = either (either (λ c n. put_by c.plan c.call n) (λ c n. copy_by c.plan c.call n)) (either (either (λ c n. del_by c.plan c.call n) (λ c n. false)) (either (λ c n. send_key_by c.plan c.call n) (λ c n. recv_by c.plan c.call n)))
