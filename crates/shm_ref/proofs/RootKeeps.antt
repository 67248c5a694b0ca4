-- what stays where a block is shared, or a root dropped
use Rattle.std.proofs.{Common.{◌≡◌, ◌≢◌, ℕ, ◌<◌, ◌==◌, Bool, not, sym, ap, ◌∙◌, List, Result}, lemmas.Bool.ne_eqb}
use Rattle.std.specs.Prelude.{Ok, Err, IfOk, slice_index}
use Rattle.shm_graph.specs.{declared.{ask.Me.Me, memo.Memo.Memo, spot.Spot.TheVariants.Root}, Asks.Trail, Events.Event}
use Rattle.shm_graph.specs.{Held.is_loose, Idle.IsIdle}
use Rattle.shm_count.specs.declared.answer.{EraSpent.EraSpent as Spent, ShareFault.ShareFault}
use Rattle.shm_count.specs.declared.answer.ShareFault.TheVariants.{EraSpent, RootsFull, CountFull}
use Rattle.shm_count.specs.{Roots.{AreRootsReached, root_word}, Proved.ShareTask.share_rests}
use Rattle.shm_count.specs.{Proved.UpRoot.AsPart.rooted_root, UpRoot.UpRootLeaves, Waiting.LeavesQueues}
use Rattle.shm_count.proofs.{RootSpots.roots_reached, Waiting.{loose_after, own_queues, same_queues}}
use Rattle.shm_ref.specs.{declared.drop_root.DropState.DropState, DropRoot.DropLeaves, Proved.Leaving.left_root}
use Rattle.shm_ref.specs.{Proved.RootTasks.drop_left, Lefts.Left}

-- ---- a share

module _ (me : Me) (b : ℕ) (r0 r : Memo) (tr : Trail) (es : List Event) where
  pub share_number : (a : Result ℕ ShareFault) → UpRootLeaves me b r0 r tr es a → IfOk a (λ k. k < 16)
  share_number (Ok k) h = h.low
  share_number (Err f) h = tt

  pub share_named : (a : Result ℕ ShareFault) → UpRootLeaves me b r0 r tr es a → IfOk a (λ k. root_word me.who r k ≡ b)
  share_named (Ok k) h = rooted_root me b k r0 r tr es h
  share_named (Err f) h = tt

  pub share_left : (a : Result ℕ ShareFault) → UpRootLeaves me b r0 r tr es a → LeavesQueues r0 r
  share_left (Ok k) h =
      record {
        latch = ap (λ (x : Memo). x.latch) h.filled.rest;
        unsent = λ j. ap (λ (x : Memo). slice_index x.unsent j) h.filled.rest;
        untaken = λ j. ap (λ (x : Memo). slice_index x.untaken j) h.filled.rest;
        loose = ap (λ (x : Memo). is_loose x.part) h.filled.rest ∙ loose_after me.who r0 (Root me.who k) b;
      }
  share_left (Err (EraSpent e)) h = same_queues r0 r h.same
  share_left (Err RootsFull) h = same_queues r0 r h.same
  share_left (Err (CountFull d n)) h = own_queues r0 r h.untouched.rest

  pub share_dying : (a : Result ℕ ShareFault) → UpRootLeaves me b r0 r tr es a → r.dying ≡ r0.dying
  share_dying (Ok k) h = ap (λ (x : Memo). x.dying) h.filled.rest
  share_dying (Err (EraSpent e)) h = ap (λ (x : Memo). x.dying) h.same
  share_dying (Err RootsFull) h = ap (λ (x : Memo). x.dying) h.same
  share_dying (Err (CountFull d n)) h = ap (λ (x : Memo). x.dying) h.untouched.rest

  pub share_reached : (a : Result ℕ ShareFault) → UpRootLeaves me b r0 r tr es a → IsIdle me.who r0 → AreRootsReached me.who r
  share_reached a h idle = roots_reached me.who r (share_rests me b r0 r tr es a idle h).op

-- ---- a drop

-- where roots came to be empty the latch and what waits in queues are what they were
pub left_queues : (c : ℕ) (e : ℕ → Bool) (m r : Memo) → Left c e m r → LeavesQueues m r
left_queues c e m r h =
    record {
      latch = ap (λ (x : Memo). x.latch) h.rest;
      unsent = λ j. ap (λ (x : Memo). slice_index x.unsent j) h.rest;
      untaken = λ j. ap (λ (x : Memo). slice_index x.untaken j) h.rest;
      loose = ap (λ (x : Memo). is_loose x.part) h.rest;
    }

module _ (m : DropState) (r0 r : Memo) (tr : Trail) (es : List Event) where
  pub drop_emptied : (a : Result Bool Spent) → DropLeaves m r0 r tr es a → IfOk a (λ z. root_word m.me.who r m.root ≡ 0)
  drop_emptied (Ok z) h = h.root
  drop_emptied (Err e) h = tt

  pub drop_named : (a : Result Bool Spent) → DropLeaves m r0 r tr es a → IfOk a (λ z. z ≡ not (root_word m.me.who r0 m.root == 0))
  drop_named (Ok z) h = h.named
  drop_named (Err e) h = tt

  pub drop_dying : (a : Result Bool Spent) → DropLeaves m r0 r tr es a → IfOk a (λ z. r.dying ≡ r0.dying)
  drop_dying (Ok z) h = h.dying
  drop_dying (Err e) h = tt

  pub drop_roots : (a : Result Bool Spent) → DropLeaves m r0 r tr es a → (k : ℕ) → k ≢ m.root → root_word m.me.who r k ≡ root_word m.me.who r0 k
  drop_roots a h k n = left_root m.me.who (λ j. m.root == j) r0 r k (drop_left m r0 r tr es a h) (ne_eqb m.root k (λ e. n (sym e)))

  pub drop_queues : (a : Result Bool Spent) → DropLeaves m r0 r tr es a → LeavesQueues r0 r
  drop_queues a h = left_queues m.me.who (λ j. m.root == j) r0 r (drop_left m r0 r tr es a h)

  pub drop_reached : (a : Result Bool Spent) → DropLeaves m r0 r tr es a → AreRootsReached m.me.who r
  drop_reached a h = roots_reached m.me.who r (drop_left m r0 r tr es a h).op
