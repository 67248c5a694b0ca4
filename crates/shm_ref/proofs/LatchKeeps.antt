-- what stays where a latch is taken or given back
use Rattle.std.proofs.Common.{◌≡◌, ℕ, ◌+◌, refl, ap, ◌∙◌, List, Result}
use Rattle.std.specs.Prelude.{Ok, Err, None, Some, IfOk, IfErr}
use Rattle.shm_graph.specs.{declared.{ask.Me.Me, memo.Memo.Memo, spot.Spot.TheVariants.Root}, Asks.Trail, Events.Event}
use Rattle.shm_graph.specs.{Held.is_loose, Idle.IsIdle, Reach.{is_reached, unlatched}, Views.own_word}
use Rattle.shm_count.specs.{Roots.{AreRootsReached, root_word}, Waiting.LeavesWaiting}
use Rattle.shm_count.proofs.{RootSpots.roots_reached, Waiting.waits_by}
use Rattle.shm_ref.specs.{declared.{answer.Busy.Busy, hold.HoldState.HoldState}, Hold.{HoldLeaves, wants}}
use Rattle.shm_ref.specs.Release.{Released}

-- ---- a latch is asked for

module _ (m : HoldState) (r0 r : Memo) (tr : Trail) (es : List Event) where
  pub hold_held : (a : Result (Unit {0}) Busy) → HoldLeaves m r0 r tr es a → IfOk a (λ u. r.latch ≡ Some m.author)
  hold_held (Ok u) h = ap (λ (x : Memo). x.latch) h.memo
  hold_held (Err e) h = tt

  pub hold_refused : (a : Result (Unit {0}) Busy) → HoldLeaves m r0 r tr es a → r0.latch ≡ None → IfErr a (λ e. r.latch ≡ None)
  hold_refused (Ok u) h none = tt
  hold_refused (Err e) h none = ap (λ (x : Memo). x.latch) h.memo ∙ none

  pub hold_roots : (a : Result (Unit {0}) Busy) → HoldLeaves m r0 r tr es a → (k : ℕ) → root_word m.me.who r k ≡ root_word m.me.who r0 k
  hold_roots (Ok u) h = λ k. ap (λ (x : Memo). own_word x.own (Root m.me.who k)) h.memo
  hold_roots (Err e) h = λ k. ap (λ (x : Memo). own_word x.own (Root m.me.who k)) h.memo

  pub hold_reaches : (a : Result (Unit {0}) Busy) → HoldLeaves m r0 r tr es a → (b : ℕ) → is_reached m.me.who r b ≡ is_reached m.me.who r0 b
  hold_reaches (Ok u) h = λ b. ap (λ (x : Memo). is_reached m.me.who x b) h.memo
  hold_reaches (Err e) h = λ b. ap (λ (x : Memo). is_reached m.me.who x b) h.memo

  pub hold_loose : (a : Result (Unit {0}) Busy) → HoldLeaves m r0 r tr es a → is_loose r.part ≡ is_loose r0.part
  hold_loose (Ok u) h = ap (λ (x : Memo). is_loose x.part) h.memo
  hold_loose (Err e) h = ap (λ (x : Memo). is_loose x.part) h.memo

  pub hold_waiting : (a : Result (Unit {0}) Busy) → HoldLeaves m r0 r tr es a → LeavesWaiting r0 r
  hold_waiting (Ok u) h = waits_by r0 (record (wants m.me.who (m.author + 1) r0) { latch = Some m.author }) r (record { dying = refl; unsent = λ j. refl; untaken = λ j. refl }) h.memo
  hold_waiting (Err e) h = waits_by r0 (wants m.me.who 0 (wants m.me.who (m.author + 1) r0)) r (record { dying = refl; unsent = λ j. refl; untaken = λ j. refl }) h.memo

-- ---- a latch is given back

module _ (me : Me) (r0 r : Memo) (tr : Trail) (es : List Event) (h : Released me r0 r tr es) where
  pub release_roots : (k : ℕ) → root_word me.who r k ≡ root_word me.who r0 k
  release_roots k = ap (λ (x : Memo). own_word x.own (Root me.who k)) h.memo

  pub release_loose : is_loose r.part ≡ is_loose r0.part
  release_loose = ap (λ (x : Memo). is_loose x.part) h.memo

  pub release_waiting : LeavesWaiting r0 r
  release_waiting = waits_by r0 (wants me.who 0 (unlatched me.geometry.wide me.who r0)) r (record { dying = refl; unsent = λ j. refl; untaken = λ j. refl }) h.memo

  pub release_reached : IsIdle me.who r0 → AreRootsReached me.who r
  release_reached idle = roots_reached me.who r (ap (λ (x : Memo). x.op) h.memo ∙ idle.op)
