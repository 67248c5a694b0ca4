-- what the trail of a refusal shows: a header with the greatest count was read, or the head from which the tail is 8 away
use Rattle.std.proofs.Common.{◌≡◌, ℕ, refl, sym, ap, subst, arith, Bool, true, false}
use Rattle.std.proofs.lemmas.List.Elements.{Contains-append_right}
use Rattle.std.specs.{Prelude.{◌-◌, ◌==◌, if◌then◌else◌, Option, Some, None, Result, Ok, Err}, List.Contains}
use Rattle.shm_words.specs.Layout.{address}
use Rattle.shm_words.specs.declared.place.Place.TheVariants as place
use Rattle.shm_graph.specs.{declared.ask.{Ask.{Ask, TheVariants.Load}, Me.Me}, Asks.{Trail, pair}}
use Rattle.shm_graph.specs.Trails.{Answers, Asked}
use Rattle.plans.specs.{declared.or.Or.TheVariants.{First, Second}, Plans.plan_trail}
use Rattle.shm_count.specs.{declared.answer.{UpFault.TheVariants.{CountFull, EraSpent}, Made.Made}, Refusing.ReadsCount}
use Rattle.shm_count.specs.{Proved.Step.Refusing.step_reads, UpRoot.Control.rooting}
use Rattle.shm_count.specs.declared.answer.ShareFault.TheVariants as share
use Rattle.shm_count.specs.declared.point.Aim.TheVariants as aims
use Rattle.shm_count.proofs.LastCalls.{count_read, reads_same, trail_ends, up_root_reads}
use Rattle.shm_queue.specs.declared.{answer.{PeekFault.PeekFault, SendFault.SendFault}, peek.PeekPoint.PeekPoint}
use Rattle.shm_queue.specs.declared.{peek.PeekState.PeekState, receive.ReceivePoint.ReceivePoint}
use Rattle.shm_queue.specs.declared.{receive.ReceiveState.ReceiveState, send.{SendPoint.SendPoint, SendState.SendState}}
use Rattle.shm_queue.specs.Peek.{Control.{PeekAnswer, peek_call_at, peek_turns, peeking}, peek_part, peek_plan}
use Rattle.shm_queue.specs.Receive.{Control.{ReceiveAnswer, receive_call_at, receive_turns}, receive_part, receive_plan}
use Rattle.shm_queue.specs.Send.Control.{SendAnswer, head_at, send_after, send_call_at, send_turns, sending, slot_at}
use Rattle.shm_queue.specs.Send.{send_part, send_plan}
use Rattle.shm_queue.specs.declared.answer.PeekFault.TheVariants as peek
use Rattle.shm_queue.specs.declared.answer.SendFault.TheVariants as send
use Rattle.shm_queue.specs.declared.answer.TakeFault.TheVariants as take
use Rattle.shm_queue.specs.declared.peek.PeekPoint.TheVariants as peeks
use Rattle.shm_queue.specs.declared.receive.ReceivePoint.TheVariants as receives
use Rattle.shm_queue.specs.declared.send.SendPoint.TheVariants as sends

-- ---- sends

abbrev SendsFull : ℕ → ℕ → Option (Result ℕ SendFault) → Type 0
SendsFull d n o = o ≡ Some (Err (send.CountFull d n))

module _ (d n : ℕ) where
  no_queue : (q : Bool) (h x : ℕ) → SendsFull d n (if q then Some (Err (send.QueueFull h x)) else None) → ⊥
  no_queue true h x e = cc
  no_queue false h x e = cc

  send_last : (m : SendState) (y : SendPoint) (t : Trail) (b : SendAnswer) → (send_part m y).asks (send_call_at m y) t b → SendsFull d n (send_turns m y b) → ReadsCount d n t
  send_last m sends.Tail t (First x) h e = absurd (cc)
  send_last m sends.Tail t (Second b) h e = absurd h
  send_last m sends.Head t (First x) h e = absurd (no_queue (m.tail - x == 8) x m.tail e)
  send_last m sends.Head t (Second b) h e = absurd h
  send_last m sends.Up t (First x) h e = absurd h
  send_last m sends.Up t (Second (Ok done)) h e = absurd (cc)
  send_last m sends.Up t (Second (Err (EraSpent x))) h e = absurd (cc)
  send_last m sends.Up t (Second (Err (CountFull b k))) h e = reads_same b k d n t (cc) (cc) (step_reads m.me (slot_at m) (aims.Up m.block) t b k h)
  send_last m sends.Store t (First x) h e = absurd (cc)
  send_last m sends.Store t (Second b) h e = absurd h

pub send_reads : (m : SendState) (d n : ℕ) (tr : Trail) → plan_trail send_plan m tr (Err (send.CountFull d n)) → ReadsCount d n tr
send_reads m d n tr = count_read send_plan (Err (send.CountFull d n)) d n (λ p t b. send_last d n p p.point t b) m tr

-- the head that is told was read
module _ (me : Me) (i h n : ℕ) where
  abbrev Sends : SendState → Type 0
  Sends m = (m.me ≡ me) × (m.to ≡ i)

  abbrev HeadRead : Trail → Type 0
  HeadRead t = Contains t (pair (Load (address me.geometry (place.Head me.who i))) h)

  abbrev IsFull : Option (Result ℕ SendFault) → Type 0
  IsFull o = o ≡ Some (Err (send.QueueFull h n))

  still : (m : SendState) (y : SendPoint) (b : SendAnswer) → Sends m → Sends (send_after m y b)
  still m sends.Tail (First x) s = s
  still m sends.Tail (Second (Ok done)) s = s
  still m sends.Tail (Second (Err f)) s = s
  still m sends.Head (First x) s = s
  still m sends.Head (Second (Ok done)) s = s
  still m sends.Head (Second (Err f)) s = s
  still m sends.Up (First x) s = s
  still m sends.Up (Second (Ok done)) s = s
  still m sends.Up (Second (Err f)) s = s
  still m sends.Store (First x) s = s
  still m sends.Store (Second (Ok done)) s = s
  still m sends.Store (Second (Err f)) s = s

  same_read : (q : Bool) (x tail : ℕ) → IsFull (if q then Some (Err (send.QueueFull x tail)) else None) → x ≡ h
  same_read true x tail e = cc
  same_read false x tail e = absurd (cc)

  read_one : (a : Ask) (x : ℕ) (t : Trail) → Asked a (λ y. Answers y) t x → Contains t (pair a x)
  read_one a x t (y, (rest, (e, (none, same)))) = subst (λ (u : Trail). Contains u (pair a x)) (sym e) (0, omega arith, ap (λ z. pair a z) same)

  head_last : (m : SendState) (y : SendPoint) (t : Trail) (b : SendAnswer) → Sends m → (send_part m y).asks (send_call_at m y) t b → IsFull (send_turns m y b) → HeadRead t
  head_last m sends.Tail t (First x) s k e = absurd (cc)
  head_last m sends.Tail t (Second b) s k e = absurd k
  head_last m sends.Head t (First x) s k e =
      let read = subst (λ z. Contains t (pair (Load (head_at m)) z)) (same_read (m.tail - x == 8) x m.tail e) (read_one (Load (head_at m)) x t k) in
      subst (λ j. Contains t (pair (Load (address me.geometry (place.Head me.who j))) h)) s.1 (subst (λ (u : Me). Contains t (pair (Load (address u.geometry (place.Head u.who m.to))) h)) s.0 read)
  head_last m sends.Head t (Second b) s k e = absurd k
  head_last m sends.Up t (First x) s k e = absurd k
  head_last m sends.Up t (Second (Ok done)) s k e = absurd (cc)
  head_last m sends.Up t (Second (Err (EraSpent x))) s k e = absurd (cc)
  head_last m sends.Up t (Second (Err (CountFull b x))) s k e = absurd (cc)
  head_last m sends.Store t (First x) s k e = absurd (cc)
  head_last m sends.Store t (Second b) s k e = absurd k

  pub head_reads : (b : ℕ) (tr : Trail) → plan_trail send_plan (sending me i b) tr (Err (send.QueueFull h n)) → HeadRead tr
  head_reads b tr =
      trail_ends send_plan (Err (send.QueueFull h n)) Sends HeadRead (λ p b s e. still p p.point b s) (λ t rest k. Contains-append_right t rest (pair (Load (address me.geometry (place.Head me.who i))) h) k) (λ p t b s k e. head_last p p.point t b s k e) (sending me i b) tr (refl, refl)

-- ---- peeks and receives

module _ (d n : ℕ) where
  abbrev PeeksFull : Option (Result Made PeekFault) → Type 0
  PeeksFull o = o ≡ Some (Err (peek.CountFull d n))

  no_empty : (q : Bool) (x : ℕ) → PeeksFull (if q then Some (Err (peek.Empty x)) else None) → ⊥
  no_empty true x e = cc
  no_empty false x e = cc

  peek_last : (m : PeekState) (y : PeekPoint) (t : Trail) (b : PeekAnswer) → (peek_part m y).asks (peek_call_at m y) t b → PeeksFull (peek_turns (record m { point = y }) b) → ReadsCount d n t
  peek_last m peeks.Head t (First x) h e = absurd (cc)
  peek_last m peeks.Head t (Second b) h e = absurd h
  peek_last m peeks.Tail t (First x) h e = absurd (no_empty (x == m.at) m.at e)
  peek_last m peeks.Tail t (Second b) h e = absurd h
  peek_last m peeks.Slot t (First x) h e = absurd (cc)
  peek_last m peeks.Slot t (Second b) h e = absurd h
  peek_last m peeks.Share t (First x) h e = absurd h
  peek_last m peeks.Share t (Second (Ok k)) h e = absurd (cc)
  peek_last m peeks.Share t (Second (Err (share.EraSpent x))) h e = absurd (cc)
  peek_last m peeks.Share t (Second (Err share.RootsFull)) h e = absurd (cc)
  peek_last m peeks.Share t (Second (Err (share.CountFull b k))) h e = reads_same b k d n t (cc) (cc) (up_root_reads (rooting m.me m.block) t b k h)

pub peek_reads : (m : PeekState) (d n : ℕ) (tr : Trail) → plan_trail peek_plan m tr (Err (peek.CountFull d n)) → ReadsCount d n tr
peek_reads m d n tr = count_read peek_plan (Err (peek.CountFull d n)) d n (λ p t b. peek_last d n p p.point t b) m tr

receive_last : (d n : ℕ) (m : ReceiveState) (y : ReceivePoint) (t : Trail) (b : ReceiveAnswer) → (receive_part y).asks (receive_call_at m y) t b → PeeksFull d n (receive_turns m b) → ReadsCount d n t
receive_last d n m receives.Look t (First (Ok made)) h e = absurd (cc)
receive_last d n m receives.Look t (First (Err (peek.Empty x))) h e = absurd (cc)
receive_last d n m receives.Look t (First (Err (peek.EraSpent x))) h e = absurd (cc)
receive_last d n m receives.Look t (First (Err peek.RootsFull)) h e = absurd (cc)
receive_last d n m receives.Look t (First (Err (peek.CountFull b k))) h e = reads_same b k d n t (cc) (cc) (peek_reads (peeking m.me m.from) b k t h)
receive_last d n m receives.Look t (Second b) h e = absurd h
receive_last d n m receives.Item t (First b) h e = absurd h
receive_last d n m receives.Item t (Second (Ok done)) h e = absurd (cc)
receive_last d n m receives.Item t (Second (Err (take.Empty x))) h e = absurd (cc)
receive_last d n m receives.Item t (Second (Err (take.EraSpent x))) h e = absurd (cc)

pub receive_reads : (m : ReceiveState) (d n : ℕ) (tr : Trail) → plan_trail receive_plan m tr (Err (peek.CountFull d n)) → ReadsCount d n tr
receive_reads m d n tr = count_read receive_plan (Err (peek.CountFull d n)) d n (λ p t b. receive_last d n p p.point t b) m tr
