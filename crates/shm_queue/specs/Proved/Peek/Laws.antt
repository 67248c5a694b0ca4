-- what is owed of a peek: each call leads on, to the next one or to what is left
use Rattle.std.proofs.Common.{◌≡◌, ◌≢◌, ℕ, ◌+◌, ◌%◌, ◌^◌, ◌≤◌, refl, sym, ap, ◌∙◌, subst, arith, Bool, true, false, List, [], ◌++◌}
use Rattle.std.proofs.lemmas.Bool.{eqb-false, eqb-true}
use Rattle.std.specs.Prelude.{◌==◌, if◌then◌else◌, Some, None, Result, Ok, Err}
use Rattle.shm_graph.specs.{Bounds.redo_steps, declared.memo.{Fact.TheVariants.Counter, Memo.Memo, Stored.Stored}}
use Rattle.shm_graph.specs.{Asks.{Trail, IsWithin}, Core.core, Events.Event, Laws.Outcome, Views.own_word}
use Rattle.shm_graph.specs.declared.spot.Spot.TheVariants as spot
use Rattle.kind_parts.specs.WordParts.{HeadSlotLoaded}
use Rattle.kind_parts.proofs.Words.{Own.head_load, Queues.head_slot_load}
use Rattle.plans.specs.{declared.or.Or.TheVariants.{First, Second}, Proved.{CallTells.within_more, Either.or_part_laws}}
use Rattle.plans.specs.{Proved.Grown.grown_laws, Either.or_part, Grown.Grows, Parts.IsHeld}
use Rattle.plans.specs.Plans.{PlanLaws, PlanStays, IsCall, Follows}
use Rattle.plans.specs.Words.{word_control, word_part, word_part_laws, WordLeaves}
use Rattle.shm_count.specs.{declared.answer.ShareFault.ShareFault, Slots.Untouched, UpRoot.{MayUpRoot, UpRootLeaves}}
use Rattle.shm_count.specs.{UpRoot.AsPart.{up_root, up_root_part}, Proved.UpRoot.AsPart.may_up_root}
use Rattle.shm_count.specs.declared.answer.ShareFault.TheVariants as share
use Rattle.shm_count.proofs.UpRootPart.{up_root_laws}
use Rattle.shm_queue.specs.declared.{answer.PeekFault.TheVariants.Empty, peek.PeekPoint.PeekPoint}
use Rattle.shm_queue.specs.declared.peek.{PeekPoint.TheVariants.{Head, Tail, Slot, Share}, PeekState.PeekState}
use Rattle.shm_queue.specs.Proved.{HeadReads.{has_item, head_read, is_empty, item_read}, QueueWords.item_reached}
use Rattle.shm_queue.specs.Proved.Send.Laws.{filled_core, untouched_core}
use Rattle.shm_queue.specs.Peek.Control.{PeekAnswer, peek_parts, peeking, peek_call_at, is_head}
use Rattle.shm_queue.specs.Peek.{NotPeeked, PeekKnows, PeekLeaves, PeekFound, peek_ask, peek_part, peek_plan}
use Rattle.shm_queue.specs.{QueueWords.{TailSeen, tail_seen}, Take.{IsItemRead, slot_memo}}

-- nothing was touched where the core is the same
untouched_now : (c : ℕ) (m r : Memo) → core r ≡ core m → Untouched c m r
untouched_now c m r same =
    record {
      rest = same ∙ ap (λ (o : List Stored). core (record m { own = o })) (sym (ap (λ (x : Memo). x.own) same));
      own = λ s l. ap (λ (x : Memo). own_word x.own s) same;
      rows = λ j. subst (λ y. own_word m.own (spot.Era c j) ≤ y) (sym (ap (λ (x : Memo). own_word x.own (spot.Era c j)) same)) (omega arith);
    }

stays : (m : PeekState) (y : PeekPoint) (b : PeekAnswer) → PlanStays peek_parts peek_plan (record m { point = y }) b
stays m Head (First n) = record { same_me = refl; same_line = refl; same_start = refl; started = λ e. refl }
stays m Tail (First n) = record { same_me = refl; same_line = refl; same_start = refl; started = λ e. refl }
stays m Slot (First n) = record { same_me = refl; same_line = refl; same_start = refl; started = λ e. refl }
stays m Share (First n) = record { same_me = refl; same_line = refl; same_start = refl; started = λ e. refl }
stays m y (Second (Ok k)) = record { same_me = refl; same_line = refl; same_start = refl; started = λ e. absurd (cc) }
stays m y (Second (Err f)) = record { same_me = refl; same_line = refl; same_start = refl; started = λ e. absurd (cc) }

calls : (m : PeekState) (y : PeekPoint) → IsCall peek_parts peek_plan (record m { point = y })
calls m Head = record { me = refl; asks = refl }
calls m Tail = record { me = refl; asks = refl }
calls m Slot = record { me = refl; asks = refl }
calls m Share = record { me = refl; asks = refl }

opens : (m : PeekState) (y : PeekPoint) (r0 r : Memo) (tr : Trail) (es : List Event) → PeekKnows (record m { point = y }) y r0 r tr es → (peek_part m y).needs (peek_call_at m y) r
opens m Head r0 r tr es h = head_load true m.me r h.0.take.who m.from m.me.who h.0.take.from h.0.take.who
opens m Tail r0 r tr es h = tail_seen false m.me r h.1.may.who m.from h.1.may.from h.1.may.other
opens m Slot r0 r tr es h = head_slot_load false m.me r h.1.0.may.who m.from (m.at % 8) h.1.1
opens m Share r0 r tr es h = may_up_root m.me m.block r h.1

module _ (m : PeekState) (r0 rs r : Memo) (tr t : Trail) (es ds : List Event) (held : IsHeld m.me r) where
  abbrev c : ℕ
  c = m.me.who

  abbrev s : ℕ
  s = m.from

  -- what is known before the next call, or what is left
  abbrev Leads : PeekPoint → PeekAnswer → Type 0
  Leads y a = Follows peek_parts peek_plan (record m { point = y }) a r0 r (tr ++ t) (es ++ ds)

  -- the tail was read: the queue is empty, or it has an item
  looked : (n : ℕ) → PeekKnows (record m { point = Tail }) Tail r0 rs tr es → WordLeaves (TailSeen c s) (record { me = m.me; ask = peek_ask m Tail; over = false }) rs r t ds n → Grows false rs r → Leads Tail (First n)
  looked n (client, h) w grows = go (n == m.at) (eqb-true n m.at) (eqb-false n m.at)
    where
      go : (q : Bool) → (q ≡ true → n ≡ m.at) → (q ≡ false → n ≢ m.at)
          → Outcome (if q then Some (Err (Empty m.at)) else None) (PeekKnows (record m { point = Slot }) Slot r0 r (tr ++ t) (es ++ ds)) (PeekLeaves (peeking m.me s) r0 r (tr ++ t) (es ++ ds))
      go true is other = is_empty m.me s m.at r0 rs r tr t es ds (record { me = m.me; ask = peek_ask m Tail; over = false }) n h w grows (is refl)
      go false is other = (client, has_item m.me s m.at r0 rs r tr t es ds (record { me = m.me; ask = peek_ask m Tail; over = false }) n h w grows (other refl))

  -- the item was read
  found : (n : ℕ) → PeekKnows (record m { point = Slot }) Slot r0 rs tr es → WordLeaves (HeadSlotLoaded c s (m.at % 8)) (record { me = m.me; ask = peek_ask m Slot; over = false }) rs r t ds n → Grows false rs r → Leads Slot (First n)
  found n (client, h) w grows =
      let item = item_read m.me s m.at r0 rs r tr t es ds held (record { me = m.me; ask = peek_ask m Slot; over = false }) n h.0 h.1 w grows in
      let can = item.1.can in
      subst (λ b. IsItemRead m.me s m.at b r0 r (tr ++ t) (es ++ ds) × MayUpRoot m.me b r) (sym item.0)
      (item.1, record { geometry = can.geometry; who = can.who; here = can.here; idle = can.idle; client = item.1.grows.agent ∙ client; reach = item_reached c s (m.at % 8) n r (λ e. let l = can.inside.0 in absurd (omega arith)) can.known })

  -- the item got no root
  refused : (b : ℕ) → IsItemRead m.me s m.at b r0 rs tr es → (k : ℕ) → k ≤ 23 + redo_steps m.me.geometry.wide → Untouched c rs r → ds ≡ [] → IsWithin k t → Grows false rs r → NotPeeked m.me s m.at b r0 r (tr ++ t) (es ++ ds)
  refused b h k most untouched quiet bound grows =
      let all = within_more 3 k tr t h.bound bound in
      record { at = h.head; some = (h.some.0, grows.counts (Counter (spot.Tail s c) h.some.0) refl h.some.1, h.some.2); untouched = untouched_core c (slot_memo c s m.at b r0) rs r h.left untouched; none = ap (λ (x : List Event). x ++ ds) h.none ∙ quiet; bound = omega arith }

  -- the own era that was read left room
  room : (b : ℕ) → IsItemRead m.me s m.at b r0 rs tr es → own_word rs.own (spot.Era c c) + 3 ≤ 2 ^ 47 → own_word r0.own (spot.Era c c) + 3 ≤ 2 ^ 47
  room b h = subst (λ (x : Memo). own_word x.own (spot.Era c c) + 3 ≤ 2 ^ 47) h.left

  -- the item has a root, or not
  shared : (a : Result ℕ ShareFault) → PeekKnows (record m { point = Share }) Share r0 rs tr es → UpRootLeaves m.me m.block rs r t ds a → Grows false rs r → Leads Share (Second a)
  shared (Ok k) (h, may) g grows =
      let own : (j : ℕ) → own_word rs.own (spot.Root c j) ≡ own_word r0.own (spot.Root c j) = λ j. ap (λ (x : Memo). own_word x.own (spot.Root c j)) h.left in
      let bound = within_more 3 (8 + redo_steps m.me.geometry.wide + k) tr t h.bound (let b = g.bound in omega arith) in (
        m.at,
        record {
          at = h.head;
          some = (h.some.0, grows.counts (Counter (spot.Tail s c) h.some.0) refl h.some.1, h.some.2);
          low = g.low;
          empty = sym (own k) ∙ g.empty;
          before = λ j l e. g.before j l (own j ∙ e);
          filled = filled_core c (spot.Root c k) m.block (slot_memo c s m.at m.block r0) rs r h.left g.filled;
          events = ap (λ (x : List Event). x ++ ds) h.none ∙ g.events;
          bound = omega arith;
        },
      )
  shared (Err (share.EraSpent e)) (h, may) g grows = (m.at, m.block, refused m.block h 1 (omega arith) (untouched_now c rs r g.same) g.events g.bound grows, g.era ∙ ap (λ (x : Memo). own_word x.own (spot.Era c c)) h.left, g.spent)
  shared (Err share.RootsFull) (h, may) g grows = (m.at, m.block, refused m.block h 17 (omega arith) (untouched_now c rs r g.same) g.events g.bound grows, (room m.block h g.room, λ j l e. g.all j l (ap (λ (x : Memo). own_word x.own (spot.Root c j)) h.left ∙ e)))
  shared (Err (share.CountFull b n)) (h, may) g grows = (m.at, subst (λ d. NotPeeked m.me s m.at d r0 r (tr ++ t) (es ++ ds)) (sym g.block) (refused m.block h (23 + redo_steps m.me.geometry.wide) (omega arith) g.untouched g.events (let x = g.bound in omega arith) grows), (room m.block h g.room, g.full))

leads : (m : PeekState) (y : PeekPoint) (r0 rs r : Memo) (tr t : Trail) (es ds : List Event) (a : PeekAnswer) → PeekKnows (record m { point = y }) y r0 rs tr es → (peek_part m y).leaves (peek_call_at m y) rs r t ds a → IsHeld m.me r
    → Follows peek_parts peek_plan (record m { point = y }) a r0 r (tr ++ t) (es ++ ds)
leads m Head r0 rs r tr t es ds (First n) (may, same, none, quiet) (w, grows) held = (may.client, head_read m.me m.from r0 rs r tr t es ds (record { me = m.me; ask = peek_ask m Head; over = false }) n may.take same none quiet w grows)
leads m Tail r0 rs r tr t es ds (First n) h (w, grows) held = looked m r0 rs r tr t es ds held n h w grows
leads m Slot r0 rs r tr t es ds (First n) h (w, grows) held = found m r0 rs r tr t es ds held n h w grows
leads m Share r0 rs r tr t es ds (Second a) h (g, grows) held = shared m r0 rs r tr t es ds held a h g grows
leads m Head r0 rs r tr t es ds (Second a) h g held = absurd g.0
leads m Tail r0 rs r tr t es ds (Second a) h g held = absurd g.0
leads m Slot r0 rs r tr t es ds (Second a) h g held = absurd g.0
leads m Share r0 rs r tr t es ds (First n) h g held = absurd g.0

pub peek_laws : PlanLaws peek_parts peek_plan
peek_laws =
    record {
      stays = λ m. stays m m.point;
      calls = λ m. calls m m.point;
      parts = λ m. let first = is_head m.point in
          grown_laws first peek_parts (or_part (word_part first m.me (peek_ask m m.point) (PeekFound m m.point)) up_root_part)
          (or_part_laws first word_control up_root (word_part first m.me (peek_ask m m.point) (PeekFound m m.point)) up_root_part (word_part_laws first m.me (peek_ask m m.point) (PeekFound m m.point)) (up_root_laws first));
      opens = λ m. opens m m.point;
      leads = λ m r0 rs r tr t es ds a h g held agent. leads m m.point r0 rs r tr t es ds a h g held;
    }
