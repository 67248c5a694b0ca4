-- the laws of pieces of work
use Rattle.shm_graph.specs.Laws.{Laws}
use Rattle.plans.specs.{CallsControl.calls_control, CallsFit.{CallsFits, CallsGives}, Proved.CallsKeep.calls_laws}
use Rattle.plans.specs.{Proved.Either.or_laws, Either.{OrFits, OrGives, or_control}, Plans.PlanLaws}
use Rattle.shm_ref.specs.Proved.DropRoots.Laws.{roots_laws}
use Rattle.shm_recover.specs.Proved.{FinishTakes.Laws.finish_laws, GiveUp.Laws.give_laws, Mend.Laws.mend_laws}
use Rattle.shm_recover.specs.Proved.{Recover.Laws.recover_laws, Scan.Laws.scan_laws, TakeBack.Laws.back_laws}
use Rattle.shm_recover.specs.Proved.{Join.Keeps.join_laws, Leave.Laws.leave_laws}
use Rattle.shm_recover.specs.Recover.{Control.{recover_parts, recover_steered}, recover_plan}
use Rattle.shm_recover.specs.{Join.{JoinFits, JoinGives, join_control}, Leave.Control.{leave_parts, leave_steered}}
use Rattle.shm_recover.specs.Leave.{leave_plan}
use Rattle.shm_table.specs.{Command.{CommandFits, CommandGives, command_control}, Proved.Command.Laws.command_laws}
use Rattle.shm_table.specs.Proved.{CopyKey.Laws.copy_laws, Del.Laws.del_laws, Enter.Laws.enter_laws}
use Rattle.shm_table.specs.Proved.{FetchHead.Laws.fetch_head_laws, Fetch.Laws.fetch_laws, Get.Laws.get_laws}
use Rattle.shm_table.specs.Proved.{Locate.Laws.locate_laws, OpenTable.Laws.open_laws, Put.Laws.put_laws}
use Rattle.shm_table.specs.Proved.{PutRoot.Laws.put_root_laws, RecvKey.Laws.recv_laws, Replace.Laws.replace_laws}
use Rattle.shm_table.specs.Proved.{SendKey.Laws.send_key_laws, TakeHead.Laws.take_head_laws}
use Rattle.shm_table.specs.PutRoot.{Control.put_root_parts, put_root_plan}
use Rattle.shm_agents.specs.Work.{WorkFits, WorkGives, work_control}

pub puts : PlanLaws put_root_parts put_root_plan
puts = put_root_laws open_laws locate_laws replace_laws enter_laws

commands : Laws command_control CommandFits CommandGives
commands = command_laws (put_laws puts) (copy_laws fetch_laws puts) del_laws get_laws send_key_laws (recv_laws fetch_head_laws take_head_laws puts)

pub recoveries : PlanLaws recover_parts recover_plan
recoveries = recover_laws mend_laws roots_laws back_laws finish_laws scan_laws give_laws

pub work_laws : Laws work_control WorkFits WorkGives
work_laws =
    or_laws (or_control join_control (calls_control recover_parts recover_steered)) (or_control command_control (calls_control leave_parts leave_steered))
    (OrFits JoinFits (CallsFits recover_parts recover_plan)) (OrGives JoinGives (CallsGives recover_parts recover_plan))
    (OrFits CommandFits (CallsFits leave_parts leave_plan)) (OrGives CommandGives (CallsGives leave_parts leave_plan))
    (or_laws join_control (calls_control recover_parts recover_steered) JoinFits JoinGives (CallsFits recover_parts recover_plan) (CallsGives recover_parts recover_plan) join_laws (calls_laws recover_parts recover_plan recoveries))
    (or_laws command_control (calls_control leave_parts leave_steered) CommandFits CommandGives (CallsFits leave_parts leave_plan) (CallsGives leave_parts leave_plan) commands (calls_laws leave_parts leave_plan leave_laws))
