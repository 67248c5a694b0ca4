-- what machines on single blocks leave as it was
use Rattle.std.proofs.Common.{◌≡◌, ◌≢◌, ℕ, ◌+◌, ◌==◌, Bool, refl, ap, ◌∙◌, List, [], ◌∷◌, ◌++◌}
use Rattle.std.specs.Prelude.{Ok, Err, Result, slice_index}
use Rattle.shm_graph.specs.{declared.{memo.Memo.Memo, spot.Spot.TheVariants.Body}, Asks.Trail, Events.Event}
use Rattle.shm_graph.specs.{MemoAfterRead.{reference_read, values_read}, Reach.learnt}
use Rattle.shm_graph.proofs.StepKinds.Loads.{choice}
use Rattle.shm_words.specs.Tags.{tag_refs}
use Rattle.shm_count.specs.{declared.answer.{EraSpent.EraSpent as Spent, Made.Made}, Tear.Events.Visit}
use Rattle.shm_count.specs.Waiting.{IsQuiet, LeavesWaiting}
use Rattle.shm_count.proofs.Waiting.{waits_by}
use Rattle.shm_ref.specs.declared.answer.{LookFault.LookFault, NoSuchWord.NoSuchWord, SetFault.SetFault}
use Rattle.shm_ref.specs.declared.{drop_root.DropState.DropState, look.LookState.LookState, read.ReadState.ReadState}
use Rattle.shm_ref.specs.{declared.set_ref.SetState.SetState, DropRoot.DropLeaves, Look.LookLeaves, Read.ReadLeaves}
use Rattle.shm_ref.specs.{ReadParts.tagged, SetRef.{SetLeaves, SetStays}, Proved.SetRef.Memos.seen_dying}
use Rattle.shm_ref.specs.declared.answer.LookFault.TheVariants as look
use Rattle.shm_ref.specs.declared.answer.SetFault.TheVariants as set
use Rattle.shm_ref.proofs.{RootKeeps.{drop_dying, drop_queues}, SetKeeps.{set_dying, set_lasts}}
use Rattle.shm_queue.specs.declared.{answer.PeekFault.PeekFault, drain.DrainState.DrainState}
use Rattle.shm_queue.specs.{declared.receive.ReceiveState.ReceiveState, Drain.DrainLeaves, Receive.ReceiveLeaves}
use Rattle.shm_queue.specs.declared.answer.PeekFault.TheVariants as peek
use Rattle.shm_queue.proofs.Queues.{drain_queues, receive_queues}
use Rattle.shm_singles.specs.Numbers.{drained, dropped, received, word_set}
use Rattle.shm_shared.proofs.Between.{still_quiet, waiting}

-- ---- words that are read

known_waits : (m : Memo) (r : Memo) → r.dying ≡ m.dying → r.unsent ≡ m.unsent → r.untaken ≡ m.untaken → LeavesWaiting m r
known_waits m r d u t = record { dying = d; unsent = λ j. ap (λ (xs : List ℕ). slice_index xs j) u; untaken = λ j. ap (λ (xs : List ℕ). slice_index xs j) t }

pub look_waits : (m : LookState) (r0 r : Memo) (tr : Trail) (es : List Event) (a : Result ℕ LookFault) → LookLeaves m r0 r tr es a → LeavesWaiting r0 r
look_waits m r0 r tr es (Ok v) h =
    let m0 : Memo = tagged m.block h.x r0 in
    waits_by r0 (reference_read m0 m.block m.index v) r
    (choice (LeavesWaiting r0) (v == 0) (record m0 { known = learnt (Body m.block m.index) v m0.known })
    (record m0 { looks = m0.looks ++ record { block = v; from = Body m.block m.index } ∷ []; known = learnt (Body m.block m.index) v m0.known; values = values_read m0 m.block m.index v }) (λ e. known_waits r0 _ refl refl refl) (λ e. known_waits r0 _ refl refl refl))
    h.memo
look_waits m r0 r tr es (Err (look.NoSuchRef n)) h = waits_by r0 (tagged m.block h.x r0) r (known_waits r0 _ refl refl refl) h.memo
look_waits m r0 r tr es (Err look.NotHeld) h = waits_by r0 (tagged m.block h.x r0) r (known_waits r0 _ refl refl refl) h.memo

pub read_waits : (m : ReadState) (r0 r : Memo) (tr : Trail) (es : List Event) (a : Result ℕ NoSuchWord) → ReadLeaves m r0 r tr es a → LeavesWaiting r0 r
read_waits m r0 r tr es (Ok v) h =
    waits_by r0 (record r0 { known = learnt (Body m.block (tag_refs m.me.geometry.wide h.x + m.index)) v (tagged m.block h.x r0).known }) r (known_waits r0 _ refl refl refl) h.memo
read_waits m r0 r tr es (Err e) h = waits_by r0 (tagged m.block h.x r0) r (known_waits r0 _ refl refl refl) h.memo

-- ---- unless the own era is spent

module _ (m : SetState) (r0 r : Memo) (tr : Trail) (es : List Event) where
  stays_dying : (vs : List Visit) (f : SetFault) → SetStays m.me m.block m.word m.to r0 r es vs f → (word_set (Err f)).code ≢ 25 → r.dying ≡ r0.dying
  stays_dying vs (set.NotAuthor c) s n = ap (λ (x : Memo). x.dying) s.4
  stays_dying vs (set.NoSuchRef c) s n = ap (λ (x : Memo). x.dying) s.5
  stays_dying vs set.NotHeld s n = ap (λ (x : Memo). x.dying) s.3
  stays_dying vs (set.EraSpent e) s n = absurd (n refl)
  stays_dying vs (set.CountFull d c) s n = ap (λ (x : Memo). x.dying) s.0.memo.rest ∙ seen_dying m.block m.word s.0.tag s.0.old r0

  word_dying : (a : Result (Unit {0}) SetFault) → SetLeaves m r0 r tr es a → (word_set a).code ≢ 25 → r.dying ≡ r0.dying
  word_dying (Ok u) h n = set_dying m r0 r tr es (Ok u) h
  word_dying (Err f) h n = stays_dying h.left f h.stays n

  pub set_quiet : (a : Result (Unit {0}) SetFault) → SetLeaves m r0 r tr es a → IsQuiet r0 → (word_set a).code ≢ 25 → IsQuiet r
  set_quiet a h q n = still_quiet r0 r (waiting r0 r (set_lasts m r0 r tr es a h).left (word_dying a h n)) q

pub drop_quiet : (m : DropState) (r0 r : Memo) (tr : Trail) (es : List Event) (a : Result Bool Spent) → DropLeaves m r0 r tr es a → IsQuiet r0 → (dropped a).code ≢ 25 → IsQuiet r
drop_quiet m r0 r tr es (Ok z) h q n = still_quiet r0 r (waiting r0 r (drop_queues m r0 r tr es (Ok z) h) (drop_dying m r0 r tr es (Ok z) h)) q
drop_quiet m r0 r tr es (Err e) h q n = absurd (n refl)

pub drain_quiet : (m : DrainState) (r0 r : Memo) (tr : Trail) (es : List Event) (a : Result ℕ Spent) → DrainLeaves m r0 r tr es a → IsQuiet r0 → (drained a).code ≢ 25 → IsQuiet r
drain_quiet m r0 r tr es (Ok k) h q n = still_quiet r0 r (waiting r0 r (drain_queues m r0 r tr es (Ok k) h) h.drained.dying) q
drain_quiet m r0 r tr es (Err e) h q n = absurd (n refl)

pub receive_quiet : (m : ReceiveState) (r0 r : Memo) (tr : Trail) (es : List Event) (a : Result Made PeekFault) → ReceiveLeaves m r0 r tr es a → IsQuiet r0 → (received a).code ≢ 25 → IsQuiet r
receive_quiet m r0 r tr es (Ok k) h q n = still_quiet r0 r (waiting r0 r (receive_queues m r0 r tr es (Ok k) h) (h.taken.dying ∙ ap (λ (x : Memo). x.dying) h.look.peeked.filled.rest)) q
receive_quiet m r0 r tr es (Err (peek.EraSpent e)) h q n = absurd (n refl)
receive_quiet m r0 r tr es (Err (peek.Empty k)) h q n = still_quiet r0 r (waiting r0 r (receive_queues m r0 r tr es (Err (peek.Empty k)) h) (ap (λ (x : Memo). x.dying) h.same)) q
receive_quiet m r0 r tr es (Err peek.RootsFull) h q n = still_quiet r0 r (waiting r0 r (receive_queues m r0 r tr es (Err peek.RootsFull) h) (ap (λ (x : Memo). x.dying) h.2.untouched.rest)) q
receive_quiet m r0 r tr es (Err (peek.CountFull b k)) h q n = still_quiet r0 r (waiting r0 r (receive_queues m r0 r tr es (Err (peek.CountFull b k)) h) (ap (λ (x : Memo). x.dying) h.1.untouched.rest)) q
