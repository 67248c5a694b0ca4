-- a command of a line as an operation: it begins as the one that the line tells does, and leaves what that leaves
use Rattle.std.proofs.Common.{List}
use Rattle.shm_graph.specs.{declared.memo.Memo.Memo, Asks.Trail, Events.Event}
use Rattle.plans.specs.{declared.or.Or.TheVariants.{First, Second}, Tasks.CallsMay}
use Rattle.shm_script.specs.declared.log.Answer.{Answer}
use Rattle.shm_table.specs.{Command.CommandCall, CopyKey.{CopyLeaves, copy_plan}, Del.{DelLeaves, del_plan}}
use Rattle.shm_table.specs.{Get.{GetLeaves, get_plan}, Put.{PutLeaves, put_plan}, RecvKey.{RecvLeaves, recv_plan}}
use Rattle.shm_table.specs.SendKey.{SendKeyLeaves, send_key_plan}
use Rattle.shm_table.specs.TableTasks.{CopyMay, DelMay, GetMay, PutMay, RecvMay, SendKeyMay}

-- ---- when it may begin, and what it leaves

-- as the one of them
abbrev pub CommandMay : CommandCall → Memo → Type 0
CommandMay (First (First m)) = CallsMay put_plan PutMay m
CommandMay (First (Second m)) = CallsMay copy_plan CopyMay m
CommandMay (Second (First (First m))) = CallsMay del_plan DelMay m
CommandMay (Second (First (Second m))) = CallsMay get_plan GetMay m
CommandMay (Second (Second (First m))) = CallsMay send_key_plan SendKeyMay m
CommandMay (Second (Second (Second m))) = CallsMay recv_plan RecvMay m

-- what the one of them does
abbrev pub CommandLeaves : CommandCall → Memo → Memo → Trail → List Event → Answer → Type 0
CommandLeaves (First (First m)) = PutLeaves m.plan
CommandLeaves (First (Second m)) = CopyLeaves m.plan
CommandLeaves (Second (First (First m))) = DelLeaves m.plan
CommandLeaves (Second (First (Second m))) = GetLeaves m.plan
CommandLeaves (Second (Second (First m))) = SendKeyLeaves m.plan
CommandLeaves (Second (Second (Second m))) = RecvLeaves m.plan
