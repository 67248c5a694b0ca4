-- no command is refused for a spent own era, where the own era has room
use Rattle.std.proofs.Common.{ℕ, Bool, true, false, List, [], ◌∷◌, ◌++◌, arith}
use Rattle.shm_graph.specs.{declared.{ask.Me.Me, memo.Memo.Memo}, Asks.Trail, Events.Event}
use Rattle.plans.specs.{declared.or.Or.TheVariants.{First, Second}, Deciding.where_decided}
use Rattle.shm_script.specs.declared.{line.Line.Line, log.{Answer.Answer, Entry.Entry}}
use Rattle.shm_script.specs.declared.line.Line.TheVariants as line
use Rattle.shm_script.specs.declared.log.Answer.TheVariants as answer
use Rattle.shm_table.specs.Command.{CommandCall, CommandGives, command_effect, command_of}
use Rattle.shm_table.specs.Proved.Command.Laws.{copies_give, dels_give, gets_give, puts_give, recvs_give, sends_give}
use Rattle.shm_table.specs.{CopyKey.{Control.copying, CopyLeaves}, Del.{Control.deleting, DelLeaves}}
use Rattle.shm_table.specs.{Get.{Control.getting, GetLeaves}, Put.{Control.putting, PutLeaves}}
use Rattle.shm_table.specs.{RecvKey.{Control.receiving_key, RecvLeaves}, SendKey.{Control.sending_key, SendKeyLeaves}}
use Rattle.shm_agents.specs.{Agents.shown_by, Logs.{AreUnspent, IsUnspent, with_effect}, Work.Work}
use Rattle.shm_agents.proofs.Folding.{HasRoom}

-- ---- what a command answers

module _ (me : Me) (m r : Memo) (room : HasRoom me.who r) where
  put_unspent : (key n : ℕ) (tr : Trail) (ds : List Event) (a : Answer) → PutLeaves (putting me key n) m r tr ds a → IsUnspent a
  put_unspent key n tr ds (answer.EraSpent e) g = room e g.cause
  put_unspent key n tr ds a g = tt

  copy_unspent : (key b other : ℕ) (tr : Trail) (ds : List Event) (a : Answer) → CopyLeaves (copying me key b other) m r tr ds a → IsUnspent a
  copy_unspent key b other tr ds (answer.EraSpent e) g = room e g.cause
  copy_unspent key b other tr ds a g = tt

  del_unspent : (key : ℕ) (tr : Trail) (ds : List Event) (a : Answer) → DelLeaves (deleting me key) m r tr ds a → IsUnspent a
  del_unspent key tr ds (answer.EraSpent e) g = room e g.1.cause
  del_unspent key tr ds a g = tt

  get_unspent : (b key : ℕ) (tr : Trail) (ds : List Event) (a : Answer) → GetLeaves (getting me b key) m r tr ds a → IsUnspent a
  get_unspent b key tr ds (answer.EraSpent e) g = absurd g
  get_unspent b key tr ds a g = tt

  send_unspent : (i key : ℕ) (tr : Trail) (ds : List Event) (a : Answer) → SendKeyLeaves (sending_key me i key) m r tr ds a → IsUnspent a
  send_unspent i key tr ds (answer.EraSpent e) g = let own = g.1.cause.0 in let high = g.1.cause.1 in let most = g.1.keeps.era in room e (omega arith, omega arith)
  send_unspent i key tr ds a g = tt

  recv_unspent : (s key : ℕ) (tr : Trail) (ds : List Event) (a : Answer) → RecvLeaves (receiving_key me s key) m r tr ds a → IsUnspent a
  recv_unspent s key tr ds (answer.EraSpent e) g = room e g.cause
  recv_unspent s key tr ds a g = tt

  pub command_unspent : (l : Line) (tr : Trail) (a : Answer) → CommandGives (command_of me l) m r tr a → IsUnspent a
  command_unspent (line.Put key n) tr a g = put_unspent key n tr _ a (puts_give me key n m r tr a g).leaves
  command_unspent (line.Copy key b other) tr a g = copy_unspent key b other tr _ a (copies_give me key b other m r tr a g).leaves
  command_unspent (line.Del key) tr a g = del_unspent key tr _ a (dels_give me key m r tr a g).leaves
  command_unspent (line.Get b key) tr a g = get_unspent b key tr _ a (gets_give me b key m r tr a g).leaves
  command_unspent (line.Send i key) tr a g = send_unspent i key tr _ a (sends_give me i key m r tr a g).leaves
  command_unspent (line.Recv s key) tr a g = recv_unspent s key tr _ a (recvs_give me s key m r tr a g).leaves

-- ---- entries

pub unspent_more : (es : List Entry) (x : Entry) → AreUnspent es → IsUnspent x.answer → AreUnspent (es ++ x ∷ [])
unspent_more [] x h one = (one, tt)
unspent_more (e ∷ es) x h one = (h.0, unspent_more es x h.1 one)

unspent_decided : (es : List Entry) (l : Line) (b : Bool) (a : Answer) → AreUnspent es → IsUnspent a → AreUnspent (with_effect es l (where_decided b a))
unspent_decided es l true a h one = unspent_more es (record { line = l; answer = a }) h one
unspent_decided es l false a h one = h

-- what a command shows of its answer
unspent_effect : (es : List Entry) (l : Line) (m : CommandCall) → AreUnspent es → AreUnspent (with_effect es l (command_effect m))
unspent_effect es l (First (First c)) h = unspent_decided es l _ _ h tt
unspent_effect es l (First (Second c)) h = unspent_decided es l _ _ h tt
unspent_effect es l (Second (First (First c))) h = unspent_decided es l _ _ h tt
unspent_effect es l (Second (First (Second c))) h = h
unspent_effect es l (Second (Second (First c))) h = unspent_decided es l _ _ h tt
unspent_effect es l (Second (Second (Second c))) h = unspent_decided es l _ _ h tt

-- what the work of a client that dies shows of it
pub unspent_shown : (es : List Entry) (l : Line) (w : Work) → AreUnspent es → AreUnspent (with_effect es l (shown_by w))
unspent_shown es l (First m) h = h
unspent_shown es l (Second (First m)) h = unspent_effect es l m h
unspent_shown es l (Second (Second m)) h = h
