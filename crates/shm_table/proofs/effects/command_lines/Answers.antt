use Rattle.std.proofs.Common.{refl}
use Rattle.shm_script.specs.declared.line.Line.TheVariants as line
use Rattle.shm_table.specs.Proved.{Command.Laws.command_laws, CopyKey.Laws.copy_laws, Del.Laws.del_laws}
use Rattle.shm_table.specs.Proved.{Enter.Laws.enter_laws, FetchHead.Laws.fetch_head_laws, Fetch.Laws.fetch_laws}
use Rattle.shm_table.specs.Proved.{Get.Laws.get_laws, Locate.Laws.locate_laws, OpenTable.Laws.open_laws}
use Rattle.shm_table.specs.Proved.{Put.Laws.put_laws, PutRoot.Laws.put_root_laws, RecvKey.Laws.recv_laws}
use Rattle.shm_table.specs.Proved.{Replace.Laws.replace_laws, SendKey.Laws.send_key_laws, TakeHead.Laws.take_head_laws}
use Rattle.shm_table.proofs.effects.command_lines.Goals as goal

pub returns-clause-begun : goal.returns-clause-begun
returns-clause-begun c me (line.Put key n) = refl
returns-clause-begun c me _ = refl

pub returns-clause-stays : goal.returns-clause-stays
returns-clause-stays c m n going =
    ((command_laws (put_laws (put_root_laws open_laws locate_laws replace_laws enter_laws)) (copy_laws fetch_laws (put_root_laws open_laws locate_laws replace_laws enter_laws)) del_laws get_laws send_key_laws (recv_laws fetch_head_laws take_head_laws (put_root_laws open_laws locate_laws replace_laws enter_laws))).steady m n going).same_line
