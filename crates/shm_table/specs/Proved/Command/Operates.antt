-- a command of a line as an operation: it begins as the one that the line tells does, and leaves what that leaves: what is proved of it
use Rattle.std.proofs.Common.{◌≡◌, false, true, List, [], refl, sym, subst}
use Rattle.shm_graph.specs.{declared.{ask.Me.Me, memo.Memo.Memo}, Asks.Trail, Events.Event, Idle.IsIdle}
use Rattle.shm_graph.specs.{Operations.{IsReady, OperationLaws}, Tells.happens_along}
use Rattle.plans.specs.{declared.or.Or.TheVariants.{First, Second}, CallsControl.calls_does}
use Rattle.plans.specs.{CallsFit.{CallsFits, CallsGives}, Plans.PlanLaws, Tasks.{CallsLeave, CallsMay}}
use Rattle.plans.specs.Proved.Tasks.{calls_operation}
use Rattle.shm_script.specs.declared.{line.Line.Line, log.Answer.Answer}
use Rattle.shm_script.specs.declared.line.Line.TheVariants as line
use Rattle.shm_table.specs.Proved.Command.Events.{copies_happen, dels_happen, gets_happen, puts_happen, recvs_happen, sends_happen}
use Rattle.shm_table.specs.Proved.Command.Laws.{command_tells}
use Rattle.shm_table.specs.Proved.TableTasks.{copy_rests, copy_task, del_rests, del_task, get_rests, get_task, put_rests, put_task, recv_rests, recv_task, send_key_rests, send_key_task}
use Rattle.shm_table.specs.Command.{CommandCall, CommandFits, CommandGives, OneAnswer, OneGives, command_control, command_does, command_of, given}
use Rattle.shm_table.specs.{Command.Operates.{CommandMay, CommandLeaves}, CopyKey.Control.copy_parts}
use Rattle.shm_table.specs.{CopyKey.{CopyLeaves, copy_plan}, Del.{Control.del_parts, DelLeaves, del_plan}}
use Rattle.shm_table.specs.{Get.{Control.get_parts, GetLeaves, get_plan}, Machines.{Change.del, Copy.copy_control}}
use Rattle.shm_table.specs.{Machines.{Put.put, Get.get, Recv.recv_control, Send.send_key}, Put.Control.put_parts}
use Rattle.shm_table.specs.{Put.{PutLeaves, put_plan}, RecvKey.{Control.recv_parts, RecvLeaves, recv_plan}}
use Rattle.shm_table.specs.SendKey.{Control.send_key_parts, SendKeyLeaves, send_key_plan}
use Rattle.shm_table.specs.TableTasks.{CopyMay, DelMay, GetMay, LineMay, PutMay, RecvMay, SendKeyMay}

-- ---- when it may begin, and what it leaves

-- the command of a line may begin where the memo shows what the line needs
pub command_may : (me : Me) (l : Line) (r : Memo) → LineMay me l r → CommandMay (command_of me l) r
command_may me (line.Put key n) r h = (refl, (refl, h))
command_may me _ r h = (refl, (refl, h))

-- its identity is between two calls
rests : (m : CommandCall) (r0 r : Memo) (tr : Trail) (es : List Event) (b : Answer) → IsIdle (command_control.me m).who r0 → CommandLeaves m r0 r tr es b → IsIdle (command_control.me m).who r
rests (First (First m)) r0 r tr es b idle h = put_rests m.plan r0 r tr es b h
rests (First (Second m)) r0 r tr es b idle h = copy_rests m.plan r0 r tr es b h
rests (Second (First (First m))) r0 r tr es b idle h = del_rests m.plan r0 r tr es b h
rests (Second (First (Second m))) r0 r tr es b idle h = get_rests m.plan r0 r tr es b h
rests (Second (Second (First m))) r0 r tr es b idle h = send_key_rests m.plan r0 r tr es b h
rests (Second (Second (Second m))) r0 r tr es b idle h = recv_rests m.plan r0 r tr es b idle h

module _ (puts : PlanLaws put_parts put_plan) (copies : PlanLaws copy_parts copy_plan) (dels : PlanLaws del_parts del_plan) (gets : PlanLaws get_parts get_plan) (sends : PlanLaws send_key_parts send_key_plan) (recvs : PlanLaws recv_parts recv_plan) where
  puts_operate : OperationLaws put (CallsFits put_parts put_plan) (CallsGives put_parts put_plan) (CallsMay put_plan PutMay) (calls_does put_parts put_plan) (CallsLeave put_plan) (λ m a. Unit {0})
  puts_operate = calls_operation put_parts put_plan puts PutMay (λ m a. Unit {0}) put_task

  copies_operate : OperationLaws copy_control (CallsFits copy_parts copy_plan) (CallsGives copy_parts copy_plan) (CallsMay copy_plan CopyMay) (calls_does copy_parts copy_plan) (CallsLeave copy_plan) (λ m a. Unit {0})
  copies_operate = calls_operation copy_parts copy_plan copies CopyMay (λ m a. Unit {0}) copy_task

  dels_operate : OperationLaws del (CallsFits del_parts del_plan) (CallsGives del_parts del_plan) (CallsMay del_plan DelMay) (calls_does del_parts del_plan) (CallsLeave del_plan) (λ m a. Unit {0})
  dels_operate = calls_operation del_parts del_plan dels DelMay (λ m a. Unit {0}) del_task

  gets_operate : OperationLaws get (CallsFits get_parts get_plan) (CallsGives get_parts get_plan) (CallsMay get_plan GetMay) (calls_does get_parts get_plan) (CallsLeave get_plan) (λ m a. Unit {0})
  gets_operate = calls_operation get_parts get_plan gets GetMay (λ m a. Unit {0}) get_task

  sends_operate : OperationLaws send_key (CallsFits send_key_parts send_key_plan) (CallsGives send_key_parts send_key_plan) (CallsMay send_key_plan SendKeyMay) (calls_does send_key_parts send_key_plan) (CallsLeave send_key_plan) (λ m a. Unit {0})
  sends_operate = calls_operation send_key_parts send_key_plan sends SendKeyMay (λ m a. Unit {0}) send_key_task

  recvs_operate : OperationLaws recv_control (CallsFits recv_parts recv_plan) (CallsGives recv_parts recv_plan) (CallsMay recv_plan RecvMay) (calls_does recv_parts recv_plan) (CallsLeave recv_plan) (λ m a. Unit {0})
  recvs_operate = calls_operation recv_parts recv_plan recvs RecvMay (λ m a. Unit {0}) recv_task

  fresh : (m : CommandCall) (r : Memo) → CommandMay m r → command_control.fresh m ≡ true
  fresh (First (First m)) r n = puts_operate.fresh m r n
  fresh (First (Second m)) r n = copies_operate.fresh m r n
  fresh (Second (First (First m))) r n = dels_operate.fresh m r n
  fresh (Second (First (Second m))) r n = gets_operate.fresh m r n
  fresh (Second (Second (First m))) r n = sends_operate.fresh m r n
  fresh (Second (Second (Second m))) r n = recvs_operate.fresh m r n

  asks : (m : CommandCall) (r : Memo) → CommandMay m r → command_control.finished m ≡ false
  asks (First (First m)) r n = puts_operate.asks m r n
  asks (First (Second m)) r n = copies_operate.asks m r n
  asks (Second (First (First m))) r n = dels_operate.asks m r n
  asks (Second (First (Second m))) r n = gets_operate.asks m r n
  asks (Second (Second (First m))) r n = sends_operate.asks m r n
  asks (Second (Second (Second m))) r n = recvs_operate.asks m r n

  begins : (m : CommandCall) (r : Memo) → IsReady (command_control.me m) r → CommandMay m r → CommandFits m r r []
  begins (First (First m)) r ready n = puts_operate.begins m r ready n
  begins (First (Second m)) r ready n = copies_operate.begins m r ready n
  begins (Second (First (First m))) r ready n = dels_operate.begins m r ready n
  begins (Second (First (Second m))) r ready n = gets_operate.begins m r ready n
  begins (Second (Second (First m))) r ready n = sends_operate.begins m r ready n
  begins (Second (Second (Second m))) r ready n = recvs_operate.begins m r ready n

  leads : (m : CommandCall) (r0 r : Memo) (tr : Trail) (x : OneAnswer) → IsReady (command_control.me m) r0 → CommandMay m r0 → OneGives m r0 r tr x → CommandLeaves m r0 r tr (happens_along command_control command_does m tr) (given x)
  leads (First (First m)) r0 r tr (First (First a)) ready n g = subst (λ (es : List Event). PutLeaves m.plan r0 r tr es a) (sym (puts_happen m tr)) (puts_operate.leads m r0 r tr a ready n g)
  leads (First (Second m)) r0 r tr (First (Second a)) ready n g = subst (λ (es : List Event). CopyLeaves m.plan r0 r tr es a) (sym (copies_happen m tr)) (copies_operate.leads m r0 r tr a ready n g)
  leads (Second (First (First m))) r0 r tr (Second (First (First a))) ready n g = subst (λ (es : List Event). DelLeaves m.plan r0 r tr es a) (sym (dels_happen m tr)) (dels_operate.leads m r0 r tr a ready n g)
  leads (Second (First (Second m))) r0 r tr (Second (First (Second a))) ready n g = subst (λ (es : List Event). GetLeaves m.plan r0 r tr es a) (sym (gets_happen m tr)) (gets_operate.leads m r0 r tr a ready n g)
  leads (Second (Second (First m))) r0 r tr (Second (Second (First a))) ready n g = subst (λ (es : List Event). SendKeyLeaves m.plan r0 r tr es a) (sym (sends_happen m tr)) (sends_operate.leads m r0 r tr a ready n g)
  leads (Second (Second (Second m))) r0 r tr (Second (Second (Second a))) ready n g = subst (λ (es : List Event). RecvLeaves m.plan r0 r tr es a) (sym (recvs_happen m tr)) (recvs_operate.leads m r0 r tr a ready n g)
  leads _ r0 r tr _ ready n g = absurd g

  pub command_operation : OperationLaws command_control CommandFits CommandGives CommandMay command_does CommandLeaves (λ m b. Unit {0})
  command_operation =
      record {
        tells = command_tells puts copies dels gets sends recvs;
        fresh = fresh;
        asks = asks;
        begins = begins;
        leads = λ m r0 r tr b ready n g. subst (CommandLeaves m r0 r tr (happens_along command_control command_does m tr)) g.1 (leads m r0 r tr g.0 ready n g.2);
        rests = λ m r0 r tr es b ready n h e. rests m r0 r tr es b ready.idle h;
      }
