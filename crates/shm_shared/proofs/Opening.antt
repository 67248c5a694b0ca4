-- what a command leaves of a client between two operations, whose own era has room: it is between two again
use Rattle.std.proofs.Common.{◌≡◌, ℕ, ◌⊎◌, false, List, sym, ap, ◌∙◌, inl, inr}
use Rattle.std.specs.Prelude.{None, slice_index}
use Rattle.shm_graph.specs.{declared.{ask.Me.Me, memo.Memo.Memo, spot.Spot.TheVariants.Hold}, Agents.recovers}
use Rattle.shm_graph.specs.{Asks.Trail, Events.Event, Core.core, Held.is_loose, Idle.hold_word, Views.own_word}
use Rattle.shm_script.specs.declared.{log.Answer.Answer, line.Line.Line}
use Rattle.shm_script.specs.declared.log.Answer.TheVariants as answer
use Rattle.shm_script.specs.declared.line.Line.TheVariants as line
use Rattle.shm_table.specs.{declared.answer.PutFault.PutFault, Command.{CommandGives, command_of}}
use Rattle.shm_table.specs.Proved.Command.Laws.{copies_give, dels_give, gets_give, puts_give, recvs_give, sends_give}
use Rattle.shm_table.specs.{Commands.CommandCause, CopyKey.{Control.copying, CopyLeaves}, Del.Control.deleting}
use Rattle.shm_table.specs.{Del.DelLeaves, Get.{Control.getting, GetLeaves, Visited}, Put.{Control.putting, PutLeaves}}
use Rattle.shm_table.specs.{PutRoot.IsEraSpent, RecvKey.{Control.receiving_key, ItemTaken, ReceivedIn, RecvLeaves}}
use Rattle.shm_table.specs.SendKey.{Control.sending_key, IsSent, IsUnsent, SendKeyLeaves, send_key_steps}
use Rattle.shm_table.specs.Staying.{Cleared, Ended, IsSpent, Keeps}
use Rattle.shm_table.specs.declared.answer.PutFault.TheVariants as fault
use Rattle.shm_queue.specs.declared.answer.SendFault.{SendFault}
use Rattle.shm_queue.specs.declared.answer.SendFault.TheVariants as sendfault
use Rattle.shm_agents.proofs.Folding.{HasRoom}
use Rattle.shm_shared.proofs.Between.{IsBetween}

module _ (me : Me) (m r : Memo) (h : IsBetween false me m) (client : recovers r ≡ false) where
  abbrev Then : Type 0
  Then = IsBetween false me r

  kept : Keeps me.who m r → r.latch ≡ None → Cleared me.who m r → Then
  kept k latch cleared =
      record {
        idle = k.idle;
        client = client;
        latch = latch;
        dying = cleared.dying ∙ h.dying;
        pool = k.loose ∙ h.pool;
        unsent = λ i. ap (λ xs. slice_index xs i) k.unsent ∙ h.unsent i;
        untaken = λ i. ap (λ xs. slice_index xs i) k.untaken ∙ h.untaken i;
      }

  -- nothing that it speaks of changed
  core_kept : core r ≡ core m → Then
  core_kept e =
      record {
        idle = record {
          live = ap (λ (y : Memo). y.status) e ∙ h.idle.live;
          op = ap (λ (y : Memo). y.op) e ∙ h.idle.op;
          making = ap (λ (y : Memo). y.making) e ∙ h.idle.making;
          hold = ap (λ (y : Memo). own_word y.own (Hold me.who)) e ∙ (h.idle.hold ∙ ap (λ (y : Memo). hold_word y.latch) (sym e));
        };
        client = client;
        latch = ap (λ (y : Memo). y.latch) e ∙ h.latch;
        dying = ap (λ (y : Memo). y.dying) e ∙ h.dying;
        pool = ap (λ (y : Memo). is_loose y.part) e ∙ h.pool;
        unsent = λ i. ap (λ (y : Memo). slice_index y.unsent i) e ∙ h.unsent i;
        untaken = λ i. ap (λ (y : Memo). slice_index y.untaken i) e ∙ h.untaken i;
      }

  visited : Visited me m r → Then
  visited v = kept v.keeps (ap (λ (y : Memo). y.latch) v.memo) v.cleared

  module _ (room : HasRoom me.who r) where
    ended : Ended me.who m r → Cleared me.who m r
    ended (inl d) = d
    ended (inr s) = absurd (room s.0 s.1)

    either : Cleared me.who m r ⊎ ⊥ → Cleared me.who m r
    either (inl d) = d
    either (inr z) = absurd z

    refused : (f : PutFault) → Cleared me.who m r ⊎ IsEraSpent f → CommandCause me m r f → Cleared me.who m r
    refused (fault.EraSpent e) d cause = absurd (room e cause)
    refused fault.RootsFull d cause = either d
    refused (fault.Full s b) d cause = either d
    refused (fault.CountFull b n) d cause = either d

    -- ---- the commands

    put_leaves : (key n : ℕ) (tr : Trail) (ds : List Event) (a : Answer) → PutLeaves (putting me key n) m r tr ds a → Then
    put_leaves key n tr ds (answer.Stored b) g = kept g.keeps g.latch (ended g.ended)
    put_leaves key n tr ds (answer.EraSpent e) g = kept g.keeps g.latch (refused (fault.EraSpent e) g.cleared g.cause)
    put_leaves key n tr ds answer.RootsFull g = kept g.keeps g.latch (refused fault.RootsFull g.cleared g.cause)
    put_leaves key n tr ds (answer.Full s b) g = kept g.keeps g.latch (refused (fault.Full s b) g.cleared g.cause)
    put_leaves key n tr ds (answer.CountFull b k) g = kept g.keeps g.latch (refused (fault.CountFull b k) g.cleared g.cause)
    put_leaves key n tr ds a g = absurd g

    copy_leaves : (key a other : ℕ) (tr : Trail) (ds : List Event) (b : Answer) → CopyLeaves (copying me key a other) m r tr ds b → Then
    copy_leaves key a other tr ds (answer.Value n b) g = kept g.keeps g.latch (ended g.ended)
    copy_leaves key a other tr ds answer.Missing g = visited g.visited
    copy_leaves key a other tr ds (answer.EraSpent e) g = kept g.keeps g.latch (refused (fault.EraSpent e) g.cleared g.cause)
    copy_leaves key a other tr ds answer.RootsFull g = kept g.keeps g.latch (refused fault.RootsFull g.cleared g.cause)
    copy_leaves key a other tr ds (answer.Full s b) g = kept g.keeps g.latch (refused (fault.Full s b) g.cleared g.cause)
    copy_leaves key a other tr ds (answer.CountFull b k) g = kept g.keeps g.latch (refused (fault.CountFull b k) g.cleared g.cause)
    copy_leaves key a other tr ds b g = absurd g

    del_leaves : (key : ℕ) (tr : Trail) (ds : List Event) (a : Answer) → DelLeaves (deleting me key) m r tr ds a → Then
    del_leaves key tr ds answer.Ok g = kept g.1.keeps g.0 (ended g.1.ended)
    del_leaves key tr ds answer.Missing g = kept g.1.keeps g.0 g.1.cleared
    del_leaves key tr ds (answer.EraSpent e) g = kept g.1.keeps g.0 g.1.cleared
    del_leaves key tr ds (answer.CountFull b n) g = kept g.1.keeps g.0 g.1.cleared
    del_leaves key tr ds a g = absurd g.1

    get_leaves : (a key : ℕ) (tr : Trail) (ds : List Event) (b : Answer) → GetLeaves (getting me a key) m r tr ds b → Then
    get_leaves a key tr ds (answer.Value n v) g = visited g.visited
    get_leaves a key tr ds answer.Missing g = visited g.visited
    get_leaves a key tr ds b g = absurd g

    sent : (i key b n : ℕ) (tr : Trail) (ds : List Event) → IsSent me i key b n None (send_key_steps me.geometry.wide) m r tr ds → Then
    sent i key b n tr ds g =
        record {
          idle = g.keeps.idle;
          client = client;
          latch = g.latch;
          dying = g.cleared.dying ∙ h.dying;
          pool = g.keeps.loose ∙ h.pool;
          unsent = λ j. g.waits j ∙ h.unsent j;
          untaken = λ j. ap (λ xs. slice_index xs j) g.keeps.untaken ∙ h.untaken j;
        }

    unsent : (i key b : ℕ) (f : SendFault) (tr : Trail) (ds : List Event) → IsUnsent me i key b f None (send_key_steps me.geometry.wide) m r tr ds → Then
    unsent i key b f tr ds g = kept g.keeps g.latch g.cleared

    send_leaves : (i key : ℕ) (tr : Trail) (ds : List Event) (a : Answer) → SendKeyLeaves (sending_key me i key) m r tr ds a → Then
    send_leaves i key tr ds answer.Missing g = visited g.visited
    send_leaves i key tr ds answer.Ok g = sent i key g.0 g.1 tr ds g.2
    send_leaves i key tr ds (answer.QueueFull hd n) g = unsent i key g.0 (sendfault.QueueFull hd n) tr ds g.1
    send_leaves i key tr ds (answer.EraSpent e) g = unsent i key g.0 (sendfault.EraSpent e) tr ds g.1
    send_leaves i key tr ds (answer.CountFull d n) g = unsent i key g.0 (sendfault.CountFull d n) tr ds g.1
    send_leaves i key tr ds a g = absurd g

    received : (s key v b n : ℕ) (tr : Trail) (ds : List Event) → ReceivedIn me s key v b m r tr ds → (ItemTaken me s n b m r ds ⊎ (Keeps me.who m r × ((e : ℕ) × IsSpent me.who e r))) → Then
    received s key v b n tr ds g (inl t) =
        record {
          idle = t.passed.keeps.idle;
          client = client;
          latch = g.latch;
          dying = (ended g.ended).dying ∙ h.dying;
          pool = t.passed.keeps.loose ∙ h.pool;
          unsent = λ j. ap (λ xs. slice_index xs j) t.passed.keeps.unsent ∙ h.unsent j;
          untaken = λ j. t.untaken j ∙ h.untaken j;
        }
    received s key v b n tr ds g (inr (k, s2)) = absurd (room s2.0 s2.1)

    recv_leaves : (s key : ℕ) (tr : Trail) (ds : List Event) (a : Answer) → RecvLeaves (receiving_key me s key) m r tr ds a → Then
    recv_leaves s key tr ds (answer.Value v b) g = received s key v b g.place tr ds g g.item
    recv_leaves s key tr ds (answer.Empty n) g = core_kept g.same
    recv_leaves s key tr ds (answer.EraSpent e) g = kept g.keeps g.latch (refused (fault.EraSpent e) g.cleared g.cause)
    recv_leaves s key tr ds answer.RootsFull g = kept g.keeps g.latch (refused fault.RootsFull g.cleared g.cause)
    recv_leaves s key tr ds (answer.Full t b) g = kept g.keeps g.latch (refused (fault.Full t b) g.cleared g.cause)
    recv_leaves s key tr ds (answer.CountFull b n) g = kept g.keeps g.latch (refused (fault.CountFull b n) g.cleared g.cause)
    recv_leaves s key tr ds a g = absurd g

    -- whatever the command
    pub command_leaves : (l : Line) (tr : Trail) (a : Answer) → CommandGives (command_of me l) m r tr a → IsBetween false me r
    command_leaves (line.Put key n) tr a g = put_leaves key n tr _ a (puts_give me key n m r tr a g).leaves
    command_leaves (line.Copy key b other) tr a g = copy_leaves key b other tr _ a (copies_give me key b other m r tr a g).leaves
    command_leaves (line.Del key) tr a g = del_leaves key tr _ a (dels_give me key m r tr a g).leaves
    command_leaves (line.Get b key) tr a g = get_leaves b key tr _ a (gets_give me b key m r tr a g).leaves
    command_leaves (line.Send i key) tr a g = send_leaves i key tr _ a (sends_give me i key m r tr a g).leaves
    command_leaves (line.Recv s key) tr a g = recv_leaves s key tr _ a (recvs_give me s key m r tr a g).leaves
