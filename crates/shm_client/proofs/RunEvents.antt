-- what a command leaves, by the events that it tells of
use Rattle.std.proofs.Common.{sym, subst, List}
use Rattle.shm_graph.specs.{declared.{ask.Me.Me, memo.Memo.Memo}, Asks.Trail, Events.Event, Tells.happens_along}
use Rattle.plans.specs.CallsControl.{calls_of}
use Rattle.shm_script.specs.declared.{line.Line.Line, log.Answer.Answer}
use Rattle.shm_script.specs.declared.line.Line.TheVariants as line
use Rattle.shm_table.specs.Command.{CommandGives, command_control, command_does, command_of, Operates.CommandLeaves}
use Rattle.shm_table.specs.Proved.Command.Events.{copies_happen, dels_happen, gets_happen, puts_happen, recvs_happen, sends_happen}
use Rattle.shm_table.specs.Proved.Command.Laws.{copies_give, dels_give, gets_give, puts_give, recvs_give, sends_give}
use Rattle.shm_table.specs.{CopyKey.{Control.{copying, copy_steered}, CopyLeaves}, Del.Control.{deleting, del_steered}}
use Rattle.shm_table.specs.{Del.DelLeaves, Get.{Control.{getting, get_steered}, GetLeaves}}
use Rattle.shm_table.specs.Put.{Control.{putting, put_steered}, PutLeaves}
use Rattle.shm_table.specs.RecvKey.{Control.{receiving_key, recv_steered}, RecvLeaves}
use Rattle.shm_table.specs.SendKey.{Control.{sending_key, send_key_steered}, SendKeyLeaves}
use Rattle.shm_client.specs.Running.{RunLeaves}

pub run_leaves : (me : Me) (l : Line) (r0 r : Memo) (tr : Trail) (a : Answer) → CommandGives (command_of me l) r0 r tr a → RunLeaves me l r0 r tr (happens_along command_control command_does (command_of me l) tr) a
run_leaves me (line.Put key n) r0 r tr a g = subst (λ (es : List Event). PutLeaves (putting me key n) r0 r tr es a) (sym (puts_happen (calls_of put_steered (putting me key n)) tr)) (puts_give me key n r0 r tr a g).leaves
run_leaves me (line.Copy key b other) r0 r tr a g = subst (λ (es : List Event). CopyLeaves (copying me key b other) r0 r tr es a) (sym (copies_happen (calls_of copy_steered (copying me key b other)) tr)) (copies_give me key b other r0 r tr a g).leaves
run_leaves me (line.Del key) r0 r tr a g = subst (λ (es : List Event). DelLeaves (deleting me key) r0 r tr es a) (sym (dels_happen (calls_of del_steered (deleting me key)) tr)) (dels_give me key r0 r tr a g).leaves
run_leaves me (line.Get b key) r0 r tr a g = subst (λ (es : List Event). GetLeaves (getting me b key) r0 r tr es a) (sym (gets_happen (calls_of get_steered (getting me b key)) tr)) (gets_give me b key r0 r tr a g).leaves
run_leaves me (line.Send to key) r0 r tr a g = subst (λ (es : List Event). SendKeyLeaves (sending_key me to key) r0 r tr es a) (sym (sends_happen (calls_of send_key_steered (sending_key me to key)) tr)) (sends_give me to key r0 r tr a g).leaves
run_leaves me (line.Recv from key) r0 r tr a g = subst (λ (es : List Event). RecvLeaves (receiving_key me from key) r0 r tr es a) (sym (recvs_happen (calls_of recv_steered (receiving_key me from key)) tr)) (recvs_give me from key r0 r tr a g).leaves

-- so it does as an operation
pub run_left : (me : Me) (l : Line) (r0 r : Memo) (tr : Trail) (es : List Event) (a : Answer) → CommandLeaves (command_of me l) r0 r tr es a → RunLeaves me l r0 r tr es a
run_left me (line.Put key n) r0 r tr es a h = h
run_left me _ r0 r tr es a h = h
