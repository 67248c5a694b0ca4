-- the laws of a command of a line, by those of the commands
use Rattle.std.proofs.Common.{ℕ, subst}
use Rattle.shm_graph.specs.{declared.{ask.Me.Me, memo.Memo.Memo}, Asks.Trail, Laws.Laws, Proved.Mapped.mapped_laws}
use Rattle.shm_graph.specs.Tells.{Tells}
use Rattle.plans.specs.{declared.or.Or.TheVariants.{First, Second}, CallsControl.calls_does}
use Rattle.plans.specs.{CallsFit.{CallsFits, CallsGives}, Proved.CallsKeep.{calls_laws, calls_tells}}
use Rattle.plans.specs.{Proved.Either.{or_laws, or_tells}, Either.{OrFits, OrGives, or_control, or_does}}
use Rattle.plans.specs.Plans.{PlanLaws}
use Rattle.shm_script.specs.declared.log.Answer.{Answer}
use Rattle.shm_script.specs.declared.line.Line.TheVariants as line
use Rattle.shm_table.specs.Machines.{Change.{DelGives, del}, Copy.{CopyGives, copy_control}, Put.{PutGives, put}}
use Rattle.shm_table.specs.Machines.{Get.{GetGives, get}, Recv.{RecvGives, recv_control}, Send.{SendKeyGives, send_key}}
use Rattle.shm_table.specs.Command.{CommandFits, CommandGives, OneGives, command_control, command_does, command_of, command_parts, given}
use Rattle.shm_table.specs.{CopyKey.{Control.copy_parts, copy_plan}, Del.{Control.del_parts, del_plan}}
use Rattle.shm_table.specs.{Get.{Control.get_parts, get_plan}, Put.{Control.put_parts, put_plan}}
use Rattle.shm_table.specs.{RecvKey.{Control.recv_parts, recv_plan}, SendKey.{Control.send_key_parts, send_key_plan}}

module _ (puts : PlanLaws put_parts put_plan) (copies : PlanLaws copy_parts copy_plan) (dels : PlanLaws del_parts del_plan) (gets : PlanLaws get_parts get_plan) (sends : PlanLaws send_key_parts send_key_plan) (recvs : PlanLaws recv_parts recv_plan) where
  brings_laws : Laws (or_control put copy_control) (OrFits (CallsFits put_parts put_plan) (CallsFits copy_parts copy_plan)) (OrGives (CallsGives put_parts put_plan) (CallsGives copy_parts copy_plan))
  brings_laws = or_laws put copy_control (CallsFits put_parts put_plan) (CallsGives put_parts put_plan) (CallsFits copy_parts copy_plan) (CallsGives copy_parts copy_plan) (calls_laws put_parts put_plan puts) (calls_laws copy_parts copy_plan copies)

  keys_laws : Laws (or_control del get) (OrFits (CallsFits del_parts del_plan) (CallsFits get_parts get_plan)) (OrGives (CallsGives del_parts del_plan) (CallsGives get_parts get_plan))
  keys_laws = or_laws del get (CallsFits del_parts del_plan) (CallsGives del_parts del_plan) (CallsFits get_parts get_plan) (CallsGives get_parts get_plan) (calls_laws del_parts del_plan dels) (calls_laws get_parts get_plan gets)

  queues_laws : Laws (or_control send_key recv_control) (OrFits (CallsFits send_key_parts send_key_plan) (CallsFits recv_parts recv_plan)) (OrGives (CallsGives send_key_parts send_key_plan) (CallsGives recv_parts recv_plan))
  queues_laws = or_laws send_key recv_control (CallsFits send_key_parts send_key_plan) (CallsGives send_key_parts send_key_plan) (CallsFits recv_parts recv_plan) (CallsGives recv_parts recv_plan) (calls_laws send_key_parts send_key_plan sends) (calls_laws recv_parts recv_plan recvs)

  rest_laws : Laws (or_control (or_control del get) (or_control send_key recv_control)) (OrFits (OrFits (CallsFits del_parts del_plan) (CallsFits get_parts get_plan)) (OrFits (CallsFits send_key_parts send_key_plan) (CallsFits recv_parts recv_plan))) (OrGives (OrGives (CallsGives del_parts del_plan) (CallsGives get_parts get_plan)) (OrGives (CallsGives send_key_parts send_key_plan) (CallsGives recv_parts recv_plan)))
  rest_laws =
      or_laws (or_control del get) (or_control send_key recv_control) (OrFits (CallsFits del_parts del_plan) (CallsFits get_parts get_plan)) (OrGives (CallsGives del_parts del_plan) (CallsGives get_parts get_plan))
      (OrFits (CallsFits send_key_parts send_key_plan) (CallsFits recv_parts recv_plan)) (OrGives (CallsGives send_key_parts send_key_plan) (CallsGives recv_parts recv_plan)) keys_laws queues_laws

  pub command_laws : Laws command_control CommandFits CommandGives
  command_laws =
      mapped_laws given command_parts CommandFits OneGives
      (or_laws (or_control put copy_control) (or_control (or_control del get) (or_control send_key recv_control))
      (OrFits (CallsFits put_parts put_plan) (CallsFits copy_parts copy_plan)) (OrGives (CallsGives put_parts put_plan) (CallsGives copy_parts copy_plan))
      (OrFits (OrFits (CallsFits del_parts del_plan) (CallsFits get_parts get_plan)) (OrFits (CallsFits send_key_parts send_key_plan) (CallsFits recv_parts recv_plan)))
      (OrGives (OrGives (CallsGives del_parts del_plan) (CallsGives get_parts get_plan)) (OrGives (CallsGives send_key_parts send_key_plan) (CallsGives recv_parts recv_plan)))
      brings_laws rest_laws)

  -- the event of each word step is the one that is told
  brings_tells : Tells (or_control put copy_control) (OrFits (CallsFits put_parts put_plan) (CallsFits copy_parts copy_plan)) (or_does (calls_does put_parts put_plan) (calls_does copy_parts copy_plan))
  brings_tells = or_tells put copy_control (CallsFits put_parts put_plan) (CallsFits copy_parts copy_plan) (calls_does put_parts put_plan) (calls_does copy_parts copy_plan) (calls_tells put_parts put_plan puts) (calls_tells copy_parts copy_plan copies)

  keys_tells : Tells (or_control del get) (OrFits (CallsFits del_parts del_plan) (CallsFits get_parts get_plan)) (or_does (calls_does del_parts del_plan) (calls_does get_parts get_plan))
  keys_tells = or_tells del get (CallsFits del_parts del_plan) (CallsFits get_parts get_plan) (calls_does del_parts del_plan) (calls_does get_parts get_plan) (calls_tells del_parts del_plan dels) (calls_tells get_parts get_plan gets)

  queues_tells : Tells (or_control send_key recv_control) (OrFits (CallsFits send_key_parts send_key_plan) (CallsFits recv_parts recv_plan)) (or_does (calls_does send_key_parts send_key_plan) (calls_does recv_parts recv_plan))
  queues_tells = or_tells send_key recv_control (CallsFits send_key_parts send_key_plan) (CallsFits recv_parts recv_plan) (calls_does send_key_parts send_key_plan) (calls_does recv_parts recv_plan) (calls_tells send_key_parts send_key_plan sends) (calls_tells recv_parts recv_plan recvs)

  rest_tells : Tells (or_control (or_control del get) (or_control send_key recv_control)) (OrFits (OrFits (CallsFits del_parts del_plan) (CallsFits get_parts get_plan)) (OrFits (CallsFits send_key_parts send_key_plan) (CallsFits recv_parts recv_plan))) (or_does (or_does (calls_does del_parts del_plan) (calls_does get_parts get_plan)) (or_does (calls_does send_key_parts send_key_plan) (calls_does recv_parts recv_plan)))
  rest_tells =
      or_tells (or_control del get) (or_control send_key recv_control) (OrFits (CallsFits del_parts del_plan) (CallsFits get_parts get_plan)) (OrFits (CallsFits send_key_parts send_key_plan) (CallsFits recv_parts recv_plan))
      (or_does (calls_does del_parts del_plan) (calls_does get_parts get_plan)) (or_does (calls_does send_key_parts send_key_plan) (calls_does recv_parts recv_plan)) keys_tells queues_tells

  pub command_tells : Tells command_parts CommandFits command_does
  command_tells =
      or_tells (or_control put copy_control) (or_control (or_control del get) (or_control send_key recv_control)) (OrFits (CallsFits put_parts put_plan) (CallsFits copy_parts copy_plan))
      (OrFits (OrFits (CallsFits del_parts del_plan) (CallsFits get_parts get_plan)) (OrFits (CallsFits send_key_parts send_key_plan) (CallsFits recv_parts recv_plan)))
      (or_does (calls_does put_parts put_plan) (calls_does copy_parts copy_plan)) (or_does (or_does (calls_does del_parts del_plan) (calls_does get_parts get_plan)) (or_does (calls_does send_key_parts send_key_plan) (calls_does recv_parts recv_plan)))
      brings_tells rest_tells

-- ---- it gives what the one of them does

pub puts_give : (me : Me) (key n : ℕ) (r0 r : Memo) (tr : Trail) (b : Answer) → CommandGives (command_of me (line.Put key n)) r0 r tr b → PutGives me key n r0 r tr b
puts_give me key n r0 r tr b (First (First x), i, h) = subst (PutGives me key n r0 r tr) i h
puts_give me key n r0 r tr b (_, i, h) = absurd h

pub copies_give : (me : Me) (key a other : ℕ) (r0 r : Memo) (tr : Trail) (b : Answer) → CommandGives (command_of me (line.Copy key a other)) r0 r tr b → CopyGives me key a other r0 r tr b
copies_give me key a other r0 r tr b (First (Second x), i, h) = subst (CopyGives me key a other r0 r tr) i h
copies_give me key a other r0 r tr b (_, i, h) = absurd h

pub dels_give : (me : Me) (key : ℕ) (r0 r : Memo) (tr : Trail) (b : Answer) → CommandGives (command_of me (line.Del key)) r0 r tr b → DelGives me key r0 r tr b
dels_give me key r0 r tr b (Second (First (First x)), i, h) = subst (DelGives me key r0 r tr) i h
dels_give me key r0 r tr b (_, i, h) = absurd h

pub gets_give : (me : Me) (a key : ℕ) (r0 r : Memo) (tr : Trail) (b : Answer) → CommandGives (command_of me (line.Get a key)) r0 r tr b → GetGives me a key r0 r tr b
gets_give me a key r0 r tr b (Second (First (Second x)), i, h) = subst (GetGives me a key r0 r tr) i h
gets_give me a key r0 r tr b (_, i, h) = absurd h

pub sends_give : (me : Me) (to key : ℕ) (r0 r : Memo) (tr : Trail) (b : Answer) → CommandGives (command_of me (line.Send to key)) r0 r tr b → SendKeyGives me to key r0 r tr b
sends_give me to key r0 r tr b (Second (Second (First x)), i, h) = subst (SendKeyGives me to key r0 r tr) i h
sends_give me to key r0 r tr b (_, i, h) = absurd h

pub recvs_give : (me : Me) (s key : ℕ) (r0 r : Memo) (tr : Trail) (b : Answer) → CommandGives (command_of me (line.Recv s key)) r0 r tr b → RecvGives me s key r0 r tr b
recvs_give me s key r0 r tr b (Second (Second (Second x)), i, h) = subst (RecvGives me s key r0 r tr) i h
recvs_give me s key r0 r tr b (_, i, h) = absurd h
