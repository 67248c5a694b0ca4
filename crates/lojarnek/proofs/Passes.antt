-- what sends, receives and drains leave, in the words of roots
use Rattle.std.proofs.Common.{◌≡◌, ◌≢◌, ℕ, ◌+◌, ◌-◌, ◌^◌, ◌<◌, ◌≤◌, false, List, ◌⊎◌, inl, inr, Result, Ok, Err, refl, sym, ap, ◌∙◌, arith}
use Rattle.std.proofs.lemmas.Bool.{cond-false, cond-true}
use Rattle.std.specs.Prelude.{Option, Some, None, slice_index}
use Rattle.shm_graph.specs.{declared.{ask.Me.Me, memo.Memo.Memo, spot.Spot.TheVariants.{Era, Root, Tail}}, Asks.Trail}
use Rattle.shm_graph.specs.{Events.Event, MemoAfterStore.lane_with, Views.own_word}
use Rattle.shm_graph.proofs.Spots.Spotting.{same_spot_self}
use Rattle.shm_count.specs.{declared.answer.{EraSpent.EraSpent as ASpent, Made.Made}, Roots.root_word}
use Rattle.shm_queue.specs.declared.answer.{PeekFault.PeekFault, SendFault.SendFault}
use Rattle.shm_queue.specs.Drain.{Control.{drain_parts, draining}, DrainLeaves, drain_plan}
use Rattle.shm_queue.specs.Receive.Control.{receive_parts, receiving}
use Rattle.shm_queue.specs.Receive.{ReceiveDone, ReceiveLeaves, ReceiveStopped, receive_plan}
use Rattle.shm_queue.specs.{Send.{Control.{send_parts, sending}, SendLeaves, send_plan}, Take.{NotTaken, TakeStopped}}
use Rattle.shm_queue.specs.declared.answer.PeekFault.TheVariants as peek
use Rattle.shm_queue.specs.declared.answer.SendFault.TheVariants as send
use Rattle.shm_queue.proofs.Queues.{drain_queues, other_root, receive_queues, send_queues}
use Rattle.shm_queue.proofs.RefusedTakes.{drain_most, take_most}
use Rattle.shm_table.specs.Staying.{IsSpent}
use Rattle.shm_pool.specs.{declared.reply.Reply.TheVariants.Done, Called.HasCalled, Tokens.{Acting, me_of}}
use Rattle.lojarnek.specs.Blocks.{Denies, HasCome, KeepsNamed, KeepsRoots, OnlyRoot, Spent, names}
use Rattle.lojarnek.specs.Passing.{SendsBlock, Takes, TakesAll, WhyNotReceived, WhyNotSent}
use Rattle.lojarnek.specs.{Refusing.{is_death, send_error}, Roots.{IsAtBlocks, KnowsRoots}, Standing.{Acts, acts_of}}
use Rattle.lojarnek.specs.declared.error.Error.TheVariants as error
use Rattle.lojarnek.proofs.{Comes.{err_came, named_here, ok_came, roots_kept, still_at}, Done.{done_lives, done_same}}
use Rattle.lojarnek.proofs.Naming.{knows_kept, knows_set}

-- ---- a send

send_lives : (T : Type 0) (f : SendFault) (to : ℕ) → false ≡ is_death {T = T} (Err (send_error f to))
send_lives T (send.QueueFull h t) to = refl
send_lives T (send.EraSpent e) to = refl
send_lives T (send.CountFull b n) to = refl

module _ (me : Me) (i b : ℕ) (r0 r : Memo) (tr : Trail) (es : List Event) where
  send_roots : (a : Result ℕ SendFault) → SendLeaves (sending me i b) r0 r tr es a → (k : ℕ) → root_word me.who r k ≡ root_word me.who r0 k
  send_roots (Ok n) h k = h.sent.own (Root me.who k) refl refl
  send_roots (Err (send.QueueFull w n)) h k = ap (λ (x : Memo). own_word x.own (Root me.who k)) h.same
  send_roots (Err (send.EraSpent e)) h k = h.0.untouched.own (Root me.who k) refl
  send_roots (Err (send.CountFull d n)) h k = h.0.untouched.own (Root me.who k) refl

  send_spent : (e : ℕ) → SendLeaves (sending me i b) r0 r tr es (Err (send.EraSpent e)) → IsSpent me.who e r
  send_spent e h =
      let era : e ≡ own_word r0.own (Era me.who me.who) = h.1 in
      let spent : 2 ^ 47 - 3 < e = h.2 in
      let row : own_word r0.own (Era me.who me.who) ≤ own_word r.own (Era me.who me.who) = h.0.untouched.rows me.who in
      (omega arith, omega arith)

  send_full : (w n : ℕ) → SendLeaves (sending me i b) r0 r tr es (Err (send.QueueFull w n)) → 8 ≤ own_word r0.own (Tail me.who i)
  send_full w n h =
      let tail : n ≡ own_word r0.own (Tail me.who i) = h.tail in
      let full : n ≡ w + 8 = h.full in
      omega arith

module _ (t t' : Acting) (before left to block : ℕ) (at : IsAtBlocks t) where
  abbrev c : Acts
  c = acts_of t before

  abbrev c' : Acts
  c' = acts_of t' left

  abbrev Called : Result ℕ SendFault → Type 0
  Called a = HasCalled send_parts send_plan (sending (me_of t.of t.account) to block) t t' before left (Done a)

  abbrev Did : Unit {0} → Type 0
  Did u = SendsBlock to block c c' × KeepsRoots c c'

  kept : (a : Result ℕ SendFault) → Called a → KeepsRoots c c'
  kept a h = roots_kept t t' h.done.same.1 (send_roots (me_of t.of t.account) to block t.account.memo t'.account.memo _ _ a h.done.left_so)

  still : (a : Result ℕ SendFault) → Called a → IsAtBlocks t'
  still a h = still_at t t' before left at (done_same (Done a) at.alive h.done) (done_lives a h.done) h.rests (send_queues (sending (me_of t.of t.account) to block) t.account.memo t'.account.memo _ _ a h.done.left_so)

  denied : (f : SendFault) → Called (Err f) → Denies (WhyNotSent to block) c c' (send_error f to)
  denied (send.QueueFull w n) h = (send_full (me_of t.of t.account) to block t.account.memo t'.account.memo _ _ w n h.done.left_so, record { alive = done_lives (Err (send.QueueFull w n)) h.done; roots = kept (Err (send.QueueFull w n)) h }, refl)
  denied (send.EraSpent e) h = ((send_spent (me_of t.of t.account) to block t.account.memo t'.account.memo _ _ e h.done.left_so, kept (Err (send.EraSpent e)) h), done_lives (Err (send.EraSpent e)) h.done)
  denied (send.CountFull d n) h = (h.done.left_so.1, record { alive = done_lives (Err (send.CountFull d n)) h.done; roots = kept (Err (send.CountFull d n)) h }, h.done.left_so.2)

  pub sent_came : (n : ℕ) (bs : List ℕ) → KnowsRoots t bs → Called (Ok n) → HasCome Did (WhyNotSent to block) c c' bs (Ok tt)
  sent_came n bs knows h =
      ok_came Did (WhyNotSent to block) c c' bs tt (done_same (Done (Ok n)) at.alive h.done) (still (Ok n) h) (knows_kept t t' bs at.kind at.alive knows (kept (Ok n) h))
      (ap (λ (x : Memo). x.sent) h.done.left_so.sent.rest, kept (Ok n) h)

  pub unsent_came : (f : SendFault) (bs : List ℕ) → KnowsRoots t bs → Called (Err f) → HasCome Did (WhyNotSent to block) c c' bs (Err (send_error f to))
  unsent_came f bs knows h =
      err_came Did (WhyNotSent to block) c c' bs (send_error f to) (done_same (Done (Err f)) at.alive h.done) (still (Err f) h) (knows_kept t t' bs at.kind at.alive knows (kept (Err f) h)) (send_lives (Unit {0}) f to) (denied f h)

-- ---- a receive

module _ (me : Me) (s : ℕ) (r0 r : Memo) (tr : Trail) (es : List Event) where
  take_named : (b k : ℕ) → ReceiveDone me s b k r0 r tr es → root_word me.who r k ≡ b
  take_named b k h = h.taken.received.own (Root me.who k) refl refl ∙ (h.look.peeked.filled.own (Root me.who k) refl ∙ cond-true _ _ _ (same_spot_self (Root me.who k)))

  take_others : (b k : ℕ) → ReceiveDone me s b k r0 r tr es → (j : ℕ) → j ≢ k → root_word me.who r j ≡ root_word me.who r0 j
  take_others b k h j n = h.taken.received.own (Root me.who j) refl refl ∙ (h.look.peeked.filled.own (Root me.who j) refl ∙ cond-false _ _ _ (other_root me.who k j n))

  take_received : (b k : ℕ) → ReceiveDone me s b k r0 r tr es → r.received ≡ lane_with r0.received s b
  take_received b k h = ap (λ (x : Memo). x.received) h.taken.received.rest ∙ (λ i. lane_with (ap (λ (x : Memo). x.received) h.look.peeked.filled.rest i) s (h.item i))

  take_some : (b k : ℕ) → ReceiveDone me s b k r0 r tr es → b ≢ 0
  take_some b k h e = h.taken.some (h.item ∙ e)

  -- the take that was refused
  stopped_take : (e : ℕ) (d : ReceiveStopped me s r0 r tr es e) → NotTaken me s d.look.q r d.look.next d.look.after e ⊎ TakeStopped me s d.look.q r d.look.next d.look.after e
  stopped_take e d = elim d.refused [ inl n ↦ inl n.0 | inr x ↦ inr x.0 ]

  stopped_roots : (e : ℕ) (d : ReceiveStopped me s r0 r tr es e) → (j : ℕ) → root_word me.who r j ≡ root_word me.who d.look.q j
  stopped_roots e d j = elim d.refused [ inl n ↦ n.0.untouched.own (Root me.who j) refl | inr x ↦ x.0.received.own (Root me.who j) refl refl ]

  stopped_named : (e : ℕ) → ReceiveStopped me s r0 r tr es e → (j : ℕ) → root_word me.who r0 j ≢ 0 → root_word me.who r j ≡ root_word me.who r0 j
  stopped_named e d j some =
      let other : j ≢ d.root = λ is. some (ap (root_word me.who r0) is ∙ d.look.peeked.empty) in
      stopped_roots e d j ∙ (d.look.peeked.filled.own (Root me.who j) refl ∙ cond-false _ _ _ (other_root me.who d.root j other))

  spent_named : (e : ℕ) → ReceiveLeaves (receiving me s) r0 r tr es (Err (peek.EraSpent e)) → (j : ℕ) → root_word me.who r0 j ≢ 0 → root_word me.who r j ≡ root_word me.who r0 j
  spent_named e h j some = elim h [ inl p ↦ p.2.untouched.own (Root me.who j) refl | inr d ↦ stopped_named e d j some ]

  peek_spent : (e m : ℕ) → e ≡ own_word r0.own (Era me.who me.who) → 2 ^ 47 - 3 < e → own_word r0.own (Era me.who me.who) ≤ own_word r.own (Era me.who me.who) → IsSpent me.who e r
  peek_spent e m era spent row = (omega arith, omega arith)

  stopped_spent : (e : ℕ) → ReceiveStopped me s r0 r tr es e → IsSpent me.who e r
  stopped_spent e d =
      let spent : 2 ^ 47 - 3 < e = d.spent in
      (omega arith, take_most me s d.look.q r d.look.next d.look.after e (stopped_take e d))

  take_spent : (e : ℕ) → ReceiveLeaves (receiving me s) r0 r tr es (Err (peek.EraSpent e)) → IsSpent me.who e r
  take_spent e h = elim h [ inl p ↦ peek_spent e 0 p.3 p.4 (p.2.untouched.rows me.who) | inr d ↦ stopped_spent e d ]

module _ (t t' : Acting) (before left from : ℕ) (at : IsAtBlocks t) where
  abbrev d : Acts
  d = acts_of t before

  abbrev d' : Acts
  d' = acts_of t' left

  abbrev Received : Result Made PeekFault → Type 0
  Received a = HasCalled receive_parts receive_plan (receiving (me_of t.of t.account) from) t t' before left (Done a)

  abbrev Took : Option ℕ → Type 0
  Took o = Takes from o d d'

  pub received_at : (a : Result Made PeekFault) → Received a → IsAtBlocks t'
  received_at a h = still_at t t' before left at (done_same (Done a) at.alive h.done) (done_lives a h.done) h.rests (receive_queues (receiving (me_of t.of t.account) from) t.account.memo t'.account.memo _ _ a h.done.left_so)

  here : (x : Made) → Received (Ok x) → names d' x.root ≡ x.block
  here x h = named_here t t' h.done.same.1 x.root ∙ take_named (me_of t.of t.account) from t.account.memo t'.account.memo _ _ x.block x.root h.done.left_so

  others : (x : Made) → Received (Ok x) → OnlyRoot x.root d d'
  others x h j n = named_here t t' h.done.same.1 j ∙ take_others (me_of t.of t.account) from t.account.memo t'.account.memo _ _ x.block x.root h.done.left_so j n

  pub received_came : (x : Made) (bs bs' : List ℕ) → KnowsRoots t bs → slice_index bs' x.root ≡ x.block → ((j : ℕ) → j ≢ x.root → slice_index bs' j ≡ slice_index bs j) → Received (Ok x) → HasCome Took WhyNotReceived d d' bs' (Ok (Some x.root))
  received_came x bs bs' knows at' others' h =
      ok_came Took WhyNotReceived d d' bs' (Some x.root) (done_same (Done (Ok x)) at.alive h.done) (received_at (Ok x) h)
      (knows_set t t' bs bs' x.root x.block at.kind at.alive knows (here x h) (others x h) at' others')
      (record {
        rooted = record { low = h.done.left_so.look.peeked.low; empty = h.done.left_so.look.peeked.empty; least = h.done.left_so.look.peeked.before; named = refl; others = others x h };
        some = λ e. take_some (me_of t.of t.account) from t.account.memo t'.account.memo _ _ x.block x.root h.done.left_so (sym (here x h) ∙ e);
        received = take_received (me_of t.of t.account) from t.account.memo t'.account.memo _ _ x.block x.root h.done.left_so ∙ ap (lane_with t.account.memo.received from) (sym (here x h));
      })

  pub none_came : (n : ℕ) (bs : List ℕ) → KnowsRoots t bs → Received (Err (peek.Empty n)) → HasCome Took WhyNotReceived d d' bs (Ok None)
  none_came n bs knows h =
      let same : KeepsRoots d d' = roots_kept t t' h.done.same.1 (λ k. ap (λ (x : Memo). root_word t.account.who x k) h.done.left_so.same) in
      ok_came Took WhyNotReceived d d' bs None (done_same (Done (Err (peek.Empty n))) at.alive h.done) (received_at (Err (peek.Empty n)) h) (knows_kept t t' bs at.kind at.alive knows same)
      (record { roots = same; received = ap (λ (x : Memo). x.received) h.done.left_so.same })

  pub rootless_came : (bs : List ℕ) → KnowsRoots t bs → Received (Err peek.RootsFull) → HasCome Took WhyNotReceived d d' bs (Err error.RootsFull)
  rootless_came bs knows h =
      let same : KeepsRoots d d' = roots_kept t t' h.done.same.1 (λ k. h.done.left_so.2.untouched.own (Root t.account.who k) refl) in
      err_came Took WhyNotReceived d d' bs error.RootsFull (done_same (Done (Err peek.RootsFull)) at.alive h.done) (received_at (Err peek.RootsFull) h) (knows_kept t t' bs at.kind at.alive knows same) refl
      (h.done.left_so.3.1, record { alive = done_lives (Err peek.RootsFull) h.done; roots = same }, tt)

  pub counted_came : (b n : ℕ) (bs : List ℕ) → KnowsRoots t bs → Received (Err (peek.CountFull b n)) → HasCome Took WhyNotReceived d d' bs (Err (error.CountFull b n))
  counted_came b n bs knows h =
      let same : KeepsRoots d d' = roots_kept t t' h.done.same.1 (λ k. h.done.left_so.1.untouched.own (Root t.account.who k) refl) in
      err_came Took WhyNotReceived d d' bs (error.CountFull b n) (done_same (Done (Err (peek.CountFull b n))) at.alive h.done) (received_at (Err (peek.CountFull b n)) h) (knows_kept t t' bs at.kind at.alive knows same) refl
      (h.done.left_so.2.1, record { alive = done_lives (Err (peek.CountFull b n)) h.done; roots = same }, tt)

  -- its eras are spent, as it was found, and each root that named a block names it
  pub received_spent : (e : ℕ) → Received (Err (peek.EraSpent e)) → IsSpent t.account.who e t'.account.memo × KeepsNamed d d'
  received_spent e h = (
    take_spent (me_of t.of t.account) from t.account.memo t'.account.memo _ _ e h.done.left_so,
    λ k some. named_here t t' h.done.same.1 k ∙ spent_named (me_of t.of t.account) from t.account.memo t'.account.memo _ _ e h.done.left_so k some,
  )

-- ---- a drain

module _ (me : Me) (r0 r : Memo) (tr : Trail) (es : List Event) where
  drain_roots : (a : Result ℕ ASpent) → DrainLeaves (draining me) r0 r tr es a → (k : ℕ) → root_word me.who r k ≡ root_word me.who r0 k
  drain_roots (Ok n) h k = h.drained.own (Root me.who k) refl (λ s. refl)
  drain_roots (Err e) h k =
      elim h.refused [
        | inl n ↦ n.0.untouched.own (Root me.who k) refl
        | inr x ↦ x.0.received.own (Root me.who k) refl refl
      ]
      ∙ h.drained.own (Root me.who k) refl (λ s. refl)

  drain_spent : (e : ASpent) → DrainLeaves (draining me) r0 r tr es (Err e) → IsSpent me.who e.era r
  drain_spent e h = let spent : 2 ^ 47 - 3 < e.era = h.spent in (omega arith, drain_most me r0 r tr es e.era h)

module _ (t t' : Acting) (before left : ℕ) (at : IsAtBlocks t) where
  abbrev f : Acts
  f = acts_of t before

  abbrev f' : Acts
  f' = acts_of t' left

  abbrev Drains : Result ℕ ASpent → Type 0
  Drains a = HasCalled drain_parts drain_plan (draining (me_of t.of t.account)) t t' before left (Done a)

  abbrev All : ℕ → Type 0
  All n = TakesAll n f f' × KeepsRoots f f'

  unmoved : (a : Result ℕ ASpent) → Drains a → KeepsRoots f f'
  unmoved a h = roots_kept t t' h.done.same.1 (drain_roots (me_of t.of t.account) t.account.memo t'.account.memo _ _ a h.done.left_so)

  ready : (a : Result ℕ ASpent) → Drains a → IsAtBlocks t'
  ready a h = still_at t t' before left at (done_same (Done a) at.alive h.done) (done_lives a h.done) h.rests (drain_queues (draining (me_of t.of t.account)) t.account.memo t'.account.memo _ _ a h.done.left_so)

  pub drained_came : (n : ℕ) (bs : List ℕ) → KnowsRoots t bs → Drains (Ok n) → HasCome All (Spent KeepsRoots) f f' bs (Ok n)
  drained_came n bs knows h =
      ok_came All (Spent KeepsRoots) f f' bs n (done_same (Done (Ok n)) at.alive h.done) (ready (Ok n) h) (knows_kept t t' bs at.kind at.alive knows (unmoved (Ok n) h))
      (record { items = h.done.left_so.items; count = h.done.left_so.count; received = h.done.left_so.drained.received }, unmoved (Ok n) h)

  pub undrained_came : (e : ASpent) (bs : List ℕ) → KnowsRoots t bs → Drains (Err e) → HasCome All (Spent KeepsRoots) f f' bs (Err (error.EraSpent e.era))
  undrained_came e bs knows h =
      err_came All (Spent KeepsRoots) f f' bs (error.EraSpent e.era) (done_same (Done (Err e)) at.alive h.done) (ready (Err e) h) (knows_kept t t' bs at.kind at.alive knows (unmoved (Err e) h)) refl
      ((drain_spent (me_of t.of t.account) t.account.memo t'.account.memo _ _ e h.done.left_so, unmoved (Err e) h), done_lives (Err e) h.done)
