-- what every command leaves alone, whatever it answers
use Rattle.std.proofs.Common.{◌≡◌, ℕ, ap, ◌∙◌, ◌⊎◌, inl, inr, None, List}
use Rattle.std.specs.Prelude.{slice_index}
use Rattle.shm_graph.specs.{declared.{ask.Me.Me, memo.Memo.Memo, spot.Spot.TheVariants.Root}, Asks.Trail, Events.Event}
use Rattle.shm_graph.specs.{Held.is_loose, Idle.IsIdle, Views.own_word}
use Rattle.shm_graph.proofs.Idles.{idle_core}
use Rattle.shm_queue.specs.Take.{TakeEmpty}
use Rattle.shm_script.specs.declared.{line.Line.Line, log.Answer.Answer}
use Rattle.shm_script.specs.declared.line.Line.TheVariants as line
use Rattle.shm_script.specs.declared.log.Answer.TheVariants as answer
use Rattle.shm_table.specs.{declared.answer.PutFault.PutFault, Commands.CommandCause, CopyKey.Control.copying}
use Rattle.shm_table.specs.{CopyKey.CopyLeaves, Del.{Control.deleting, DelLeaves}, Get.Control.getting}
use Rattle.shm_table.specs.{Get.{GetLeaves, Visited}, Put.{Control.putting, PutLeaves}, PutRoot.IsEraSpent}
use Rattle.shm_table.specs.{RecvKey.{Control.receiving_key, ItemTaken, RecvLeaves}, SendKey.Control.sending_key}
use Rattle.shm_table.specs.{SendKey.{IsSent, SendKeyLeaves}, Staying.{Cleared, Ended, Keeps}}
use Rattle.shm_table.specs.declared.answer.PutFault.TheVariants as fault
use Rattle.shm_client.specs.Running.{LeavesOpen, RunLeaves}

-- the identity is between two calls again, no latch is held, and what waits is as it was; so are roots and zero-count blocks, unless the own era was spent
pub record RunKeeps (c : ℕ) (m r : Memo) : Type 0 where
  pub idle : IsIdle c r
  pub rests : LeavesOpen m r
  pub ended : Ended c m r

-- of what machines over tables keep
kept : (c : ℕ) (m r : Memo) → Keeps c m r → r.latch ≡ None → Ended c m r → RunKeeps c m r
kept c m r k latch ended =
    record {
      idle = k.idle;
      rests = record {
        latch = latch;
        loose = k.loose;
        unsent = λ j. ap (λ us. slice_index us j) k.unsent;
        untaken = λ j. ap (λ us. slice_index us j) k.untaken;
      };
      ended = ended;
    }

-- of a reading
visited : (me : Me) (m r : Memo) → Visited me m r → RunKeeps me.who m r
visited me m r v = kept me.who m r v.keeps (ap (λ (x : Memo). x.latch) v.memo) (inl v.cleared)

-- of a refusal
ended_by : (me : Me) (m r : Memo) (f : PutFault) → Cleared me.who m r ⊎ IsEraSpent f → CommandCause me m r f → Ended me.who m r
ended_by me m r (fault.EraSpent e) (inl x) cause = inl x
ended_by me m r (fault.EraSpent e) (inr s) cause = inr (e, cause)
ended_by me m r fault.RootsFull (inl x) cause = inl x
ended_by me m r fault.RootsFull (inr s) cause = absurd s
ended_by me m r (fault.Full s b) (inl x) cause = inl x
ended_by me m r (fault.Full s b) (inr z) cause = absurd z
ended_by me m r (fault.CountFull b n) (inl x) cause = inl x
ended_by me m r (fault.CountFull b n) (inr s) cause = absurd s

-- ---- each of the commands

module _ (me : Me) (r0 r : Memo) (tr : Trail) (es : List Event) where
  put_keeps : (key n : ℕ) (a : Answer) → PutLeaves (putting me key n) r0 r tr es a → RunKeeps me.who r0 r
  put_keeps key n (answer.Stored b) h = kept me.who r0 r h.keeps h.latch h.ended
  put_keeps key n (answer.EraSpent e) h = kept me.who r0 r h.keeps h.latch (ended_by me r0 r (fault.EraSpent e) h.cleared h.cause)
  put_keeps key n answer.RootsFull h = kept me.who r0 r h.keeps h.latch (ended_by me r0 r fault.RootsFull h.cleared h.cause)
  put_keeps key n (answer.Full s b) h = kept me.who r0 r h.keeps h.latch (ended_by me r0 r (fault.Full s b) h.cleared h.cause)
  put_keeps key n (answer.CountFull b i) h = kept me.who r0 r h.keeps h.latch (ended_by me r0 r (fault.CountFull b i) h.cleared h.cause)
  put_keeps key n answer.Ok h = absurd h
  put_keeps key n (answer.Value i b) h = absurd h
  put_keeps key n answer.Missing h = absurd h
  put_keeps key n (answer.QueueFull i t) h = absurd h
  put_keeps key n (answer.Empty i) h = absurd h

  copy_keeps : (key b other : ℕ) (a : Answer) → CopyLeaves (copying me key b other) r0 r tr es a → RunKeeps me.who r0 r
  copy_keeps key b other (answer.Value n v) h = kept me.who r0 r h.keeps h.latch h.ended
  copy_keeps key b other answer.Missing h = visited me r0 r h.visited
  copy_keeps key b other (answer.EraSpent e) h = kept me.who r0 r h.keeps h.latch (ended_by me r0 r (fault.EraSpent e) h.cleared h.cause)
  copy_keeps key b other answer.RootsFull h = kept me.who r0 r h.keeps h.latch (ended_by me r0 r fault.RootsFull h.cleared h.cause)
  copy_keeps key b other (answer.Full s i) h = kept me.who r0 r h.keeps h.latch (ended_by me r0 r (fault.Full s i) h.cleared h.cause)
  copy_keeps key b other (answer.CountFull v n) h = kept me.who r0 r h.keeps h.latch (ended_by me r0 r (fault.CountFull v n) h.cleared h.cause)
  copy_keeps key b other answer.Ok h = absurd h
  copy_keeps key b other (answer.Stored v) h = absurd h
  copy_keeps key b other (answer.QueueFull i t) h = absurd h
  copy_keeps key b other (answer.Empty i) h = absurd h

  del_keeps : (key : ℕ) (a : Answer) → DelLeaves (deleting me key) r0 r tr es a → RunKeeps me.who r0 r
  del_keeps key answer.Ok h = kept me.who r0 r h.1.keeps h.0 h.1.ended
  del_keeps key answer.Missing h = kept me.who r0 r h.1.keeps h.0 (inl h.1.cleared)
  del_keeps key (answer.EraSpent e) h = kept me.who r0 r h.1.keeps h.0 (inl h.1.cleared)
  del_keeps key (answer.CountFull b n) h = kept me.who r0 r h.1.keeps h.0 (inl h.1.cleared)
  del_keeps key (answer.Stored b) h = absurd h.1
  del_keeps key (answer.Value n b) h = absurd h.1
  del_keeps key (answer.Full s b) h = absurd h.1
  del_keeps key (answer.QueueFull n t) h = absurd h.1
  del_keeps key (answer.Empty n) h = absurd h.1
  del_keeps key answer.RootsFull h = absurd h.1

  get_keeps : (b key : ℕ) (a : Answer) → GetLeaves (getting me b key) r0 r tr es a → RunKeeps me.who r0 r
  get_keeps b key (answer.Value n v) h = visited me r0 r h.visited
  get_keeps b key answer.Missing h = visited me r0 r h.visited
  get_keeps b key answer.Ok h = absurd h
  get_keeps b key (answer.Stored v) h = absurd h
  get_keeps b key (answer.Full s n) h = absurd h
  get_keeps b key (answer.CountFull v n) h = absurd h
  get_keeps b key (answer.QueueFull n t) h = absurd h
  get_keeps b key (answer.Empty n) h = absurd h
  get_keeps b key answer.RootsFull h = absurd h
  get_keeps b key (answer.EraSpent e) h = absurd h

  -- what waits for a tail waits still where the block was sent
  sent_keeps : (to key b n steps : ℕ) → IsSent me to key b n None steps r0 r tr es → RunKeeps me.who r0 r
  sent_keeps to key b n steps h =
      record {
        idle = h.keeps.idle;
        rests = record { latch = h.latch; loose = h.keeps.loose; unsent = h.waits; untaken = λ j. ap (λ us. slice_index us j) h.keeps.untaken };
        ended = inl h.cleared;
      }

  send_keeps : (to key : ℕ) (a : Answer) → SendKeyLeaves (sending_key me to key) r0 r tr es a → RunKeeps me.who r0 r
  send_keeps to key answer.Missing h = visited me r0 r h.visited
  send_keeps to key answer.Ok (b, n, h) = sent_keeps to key b n _ h
  send_keeps to key (answer.QueueFull i t) (b, h) = kept me.who r0 r h.keeps h.latch (inl h.cleared)
  send_keeps to key (answer.EraSpent e) (b, h) = kept me.who r0 r h.keeps h.latch (inl h.cleared)
  send_keeps to key (answer.CountFull d n) (b, h) = kept me.who r0 r h.keeps h.latch (inl h.cleared)
  send_keeps to key (answer.Stored v) h = absurd h
  send_keeps to key (answer.Value n v) h = absurd h
  send_keeps to key (answer.Full s n) h = absurd h
  send_keeps to key (answer.Empty n) h = absurd h
  send_keeps to key answer.RootsFull h = absurd h

  -- the item was taken, or the queue is as before
  taken_keeps : (from n b : ℕ) → ItemTaken me from n b r0 r es → r.latch ≡ None → Ended me.who r0 r → RunKeeps me.who r0 r
  taken_keeps from n b h latch ended =
      record {
        idle = h.passed.keeps.idle;
        rests = record { latch = latch; loose = h.passed.keeps.loose; unsent = λ j. ap (λ us. slice_index us j) h.passed.keeps.unsent; untaken = h.untaken };
        ended = ended;
      }

  -- nothing was received
  empty_keeps : (from n : ℕ) → IsIdle me.who r0 → r0.latch ≡ None → TakeEmpty me from n r0 r tr es → RunKeeps me.who r0 r
  empty_keeps from n idle none h =
      record {
        idle = idle_core me.who r0 r h.same idle;
        rests = record {
          latch = ap (λ (x : Memo). x.latch) h.same ∙ none;
          loose = ap (λ (x : Memo). is_loose x.part) h.same;
          unsent = λ j. ap (λ (x : Memo). slice_index x.unsent j) h.same;
          untaken = λ j. ap (λ (x : Memo). slice_index x.untaken j) h.same;
        };
        ended = inl (record { roots = λ j. ap (λ (x : Memo). own_word x.own (Root me.who j)) h.same; dying = ap (λ (x : Memo). x.dying) h.same });
      }

  recv_keeps : (from key : ℕ) (a : Answer) → IsIdle me.who r0 → r0.latch ≡ None → RecvLeaves (receiving_key me from key) r0 r tr es a → RunKeeps me.who r0 r
  recv_keeps from key (answer.Value v b) idle none h = elim h.item [ inl x ↦ taken_keeps from h.place b x h.latch h.ended | inr y ↦ kept me.who r0 r y.0 h.latch h.ended ]
  recv_keeps from key (answer.Empty n) idle none h = empty_keeps from n idle none h
  recv_keeps from key (answer.EraSpent e) idle none h = kept me.who r0 r h.keeps h.latch (ended_by me r0 r (fault.EraSpent e) h.cleared h.cause)
  recv_keeps from key answer.RootsFull idle none h = kept me.who r0 r h.keeps h.latch (ended_by me r0 r fault.RootsFull h.cleared h.cause)
  recv_keeps from key (answer.Full s n) idle none h = kept me.who r0 r h.keeps h.latch (ended_by me r0 r (fault.Full s n) h.cleared h.cause)
  recv_keeps from key (answer.CountFull b n) idle none h = kept me.who r0 r h.keeps h.latch (ended_by me r0 r (fault.CountFull b n) h.cleared h.cause)
  recv_keeps from key _ idle none h = absurd h

  pub run_keeps : (l : Line) (a : Answer) → IsIdle me.who r0 → r0.latch ≡ None → RunLeaves me l r0 r tr es a → RunKeeps me.who r0 r
  run_keeps (line.Put key n) a idle none h = put_keeps key n a h
  run_keeps (line.Copy key b other) a idle none h = copy_keeps key b other a h
  run_keeps (line.Del key) a idle none h = del_keeps key a h
  run_keeps (line.Get b key) a idle none h = get_keeps b key a h
  run_keeps (line.Send to key) a idle none h = send_keeps to key a h
  run_keeps (line.Recv from key) a idle none h = recv_keeps from key a idle none h
