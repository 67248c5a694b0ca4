-- the command of a line begins where the memo is as it asks
use Rattle.std.proofs.Common.{◌≡◌, ℕ, true, refl, None, []}
use Rattle.shm_graph.specs.declared.{ask.Me.Me, memo.Memo.Memo}
use Rattle.plans.specs.{Proved.CallsKeep.calls_begin, Plans.PlanLaws}
use Rattle.shm_script.specs.declared.line.Line.{Line}
use Rattle.shm_script.specs.declared.line.Line.TheVariants as line
use Rattle.shm_table.specs.{Command.{CommandFits, LineMayStand, command_control, command_of}, Commands.MayCommand}
use Rattle.shm_table.specs.CopyKey.{Control.{copy_parts, copying}, copy_plan}
use Rattle.shm_table.specs.Proved.{CopyKey.Laws.{copy_begin, copy_laws}, Del.Laws.{del_begin, del_laws}}
use Rattle.shm_table.specs.Proved.{Enter.Laws.enter_laws, FetchHead.Laws.fetch_head_laws, Fetch.Laws.fetch_laws}
use Rattle.shm_table.specs.Proved.{Get.Laws.{get_begin, get_laws}, Locate.Laws.locate_laws, OpenTable.Laws.open_laws}
use Rattle.shm_table.specs.Proved.{Put.Laws.put_laws, PutRoot.Laws.put_root_laws, RecvKey.Laws.{recv_begin, recv_laws}}
use Rattle.shm_table.specs.Proved.{Replace.Laws.replace_laws, SendKey.Laws.{send_key_begin, send_key_laws}}
use Rattle.shm_table.specs.{Proved.TakeHead.Laws.take_head_laws, Del.{Control.{del_parts, deleting}, del_plan}}
use Rattle.shm_table.specs.{Get.{Control.{get_parts, getting}, get_plan}, Put.{Control.{put_parts, putting}, put_plan}}
use Rattle.shm_table.specs.PutRoot.{Control.put_root_parts, put_root_plan}
use Rattle.shm_table.specs.RecvKey.{Control.{receiving_key, recv_parts}, recv_plan}
use Rattle.shm_table.specs.SendKey.{Control.{send_key_parts, sending_key}, send_key_plan}
use Rattle.shm_table.specs.TableTasks.{IsAtTable, LineMay}
use Rattle.shm_client.specs.Running.{MayRun}

-- the laws of what commands that bring a value block share
root_laws : PlanLaws put_root_parts put_root_plan
root_laws = put_root_laws open_laws locate_laws replace_laws enter_laws

at_table : (me : Me) (key : ℕ) (r : Memo) → MayCommand me key r → IsAtTable r
at_table me key r may = record { client = may.client; none = may.none; table = may.table }

pub run_begins : (me : Me) (l : Line) (r : Memo) → MayRun me l r → CommandFits (command_of me l) r r []
run_begins me (line.Put key n) r may = calls_begin put_parts put_plan (put_laws root_laws) (putting me key n) r refl refl (may.0, may.1, refl, refl, refl)
run_begins me (line.Copy key a other) r may = calls_begin copy_parts copy_plan (copy_laws fetch_laws root_laws) (copying me key a other) r refl refl (copy_begin me key a other r may)
run_begins me (line.Del key) r may = calls_begin del_parts del_plan del_laws (deleting me key) r refl refl (del_begin me key r may)
run_begins me (line.Get a key) r may = calls_begin get_parts get_plan get_laws (getting me a key) r refl refl (get_begin me a key r may)
run_begins me (line.Send to key) r may = calls_begin send_key_parts send_key_plan send_key_laws (sending_key me to key) r refl refl (send_key_begin me to key r may)
run_begins me (line.Recv from key) r may = calls_begin recv_parts recv_plan (recv_laws fetch_head_laws take_head_laws root_laws) (receiving_key me from key) r refl refl (recv_begin me from key r may)

-- no word step of it was made yet
pub run_fresh : (me : Me) (l : Line) → command_control.fresh (command_of me l) ≡ true
run_fresh me (line.Put key n) = refl
run_fresh me _ = refl

-- it is of that identity
pub run_me : (me : Me) (l : Line) → command_control.me (command_of me l) ≡ me
run_me me (line.Put key n) = refl
run_me me _ = refl

-- it may begin between two calls
pub run_may : (me : Me) (l : Line) (r : Memo) → MayRun me l r → LineMay me l r
run_may me (line.Put key n) r may = (at_table me key r may.0, may.0.small, may.1)
run_may me (line.Copy key a other) r may = (at_table me key r may.command, may.command.small, may.author)
run_may me (line.Del key) r may = record { client = may.client; none = may.none; table = may.table }
run_may me (line.Get a key) r may = (may.none, may.table, may.author)
run_may me (line.Send to key) r may = (record { client = may.client; none = may.locate.none; table = may.locate.table }, may.to, may.other, may.none)
run_may me (line.Recv from key) r may = (at_table me key r may.command, may.command.small, may.from, may.other, may.none)

-- the identities of the line are of the pool
pub run_stands : (me : Me) (l : Line) (r : Memo) → MayRun me l r → LineMayStand me l
run_stands me (line.Put key n) r may = tt
run_stands me (line.Copy key a other) r may = may.author
run_stands me (line.Del key) r may = tt
run_stands me (line.Get a key) r may = may.author
run_stands me (line.Send to key) r may = (may.to, may.other)
run_stands me (line.Recv from key) r may = (may.from, may.other)

-- no latch is held before it
pub run_latch : (me : Me) (l : Line) (r : Memo) → MayRun me l r → r.latch ≡ None
run_latch me (line.Put key n) r may = may.0.none
run_latch me (line.Copy key a other) r may = may.command.none
run_latch me (line.Del key) r may = may.none
run_latch me (line.Get a key) r may = may.none
run_latch me (line.Send to key) r may = may.locate.none
run_latch me (line.Recv from key) r may = may.command.none
