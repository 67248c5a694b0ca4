-- what is owed of a receive: the peek leads on to the take, or to what is left
use Rattle.std.proofs.Common.{◌≡◌, ℕ, ◌+◌, ◌%◌, refl, sym, ap, ◌∙◌, subst, arith, List, ◌++◌, length, inl, inr}
use Rattle.std.specs.{Prelude.{Result, Ok, Err, slice_index}, List.Contains}
use Rattle.shm_graph.specs.{declared.memo.{Memo.Memo, Stored.Stored}, Asks.Trail, Bounds.{tear_steps, redo_steps}}
use Rattle.shm_graph.specs.{Events.Event, Views.own_word}
use Rattle.shm_graph.specs.declared.spot.Spot.TheVariants as spot
use Rattle.kind_parts.proofs.Cores.{here_same}
use Rattle.plans.specs.{declared.or.Or.TheVariants.{First, Second}, Proved.{CallTells.within_more, Either.or_part_laws}}
use Rattle.plans.specs.{Proved.Grown.grown_laws, CallsPart.{calls_part, calls_part_laws}, Either.or_part}
use Rattle.plans.specs.Plans.{PlanLaws, PlanStays, IsCall, Follows}
use Rattle.shm_count.specs.{declared.answer.Made.Made, Tear.Events.frees}
use Rattle.shm_queue.specs.declared.answer.{PeekFault.PeekFault, TakeFault.TakeFault}
use Rattle.shm_queue.specs.declared.receive.ReceivePoint.{ReceivePoint, TheVariants.{Look, Item}}
use Rattle.shm_queue.specs.{declared.receive.ReceiveState.ReceiveState, Drain.Control.take_control}
use Rattle.shm_queue.specs.{Proved.Drain.Items.frees_append, Peek.Control.{peek_parts, peeking}}
use Rattle.shm_queue.specs.Peek.{MayPeekFrom, PeekLeaves, PeekRefused, peek_plan}
use Rattle.shm_queue.specs.Receive.Control.{ReceiveAnswer, receive_call_at, receive_parts, is_look, peek_control}
use Rattle.shm_queue.specs.Receive.{ReceiveKnows, ReceiveRefused, IsPeeked, receive_part, receive_plan}
use Rattle.shm_queue.specs.Take.{Control.{take_parts, taking}, TakeLeaves, take_plan}
use Rattle.shm_queue.specs.declared.answer.PeekFault.TheVariants as peek
use Rattle.shm_queue.specs.declared.answer.TakeFault.TheVariants as fault

stays : (m : ReceiveState) (b : ReceiveAnswer) → PlanStays receive_parts receive_plan m b
stays m (First (Ok made)) = record { same_me = refl; same_line = refl; same_start = refl; started = λ e. refl }
stays m (First (Err f)) = record { same_me = refl; same_line = refl; same_start = refl; started = λ e. absurd (cc) }
stays m (Second (Ok done)) = record { same_me = refl; same_line = refl; same_start = refl; started = λ e. absurd (cc) }
stays m (Second (Err (fault.Empty n))) = record { same_me = refl; same_line = refl; same_start = refl; started = λ e. absurd (cc) }
stays m (Second (Err (fault.EraSpent e))) = record { same_me = refl; same_line = refl; same_start = refl; started = λ e. absurd (cc) }

calls : (m : ReceiveState) (y : ReceivePoint) → IsCall receive_parts receive_plan (record m { point = y })
calls m Look = record { me = refl; asks = refl }
calls m Item = record { me = refl; asks = refl }

opens : (m : ReceiveState) (y : ReceivePoint) (r0 r : Memo) (tr : Trail) (es : List Event) → ReceiveKnows (record m { point = y }) y r0 r tr es → (receive_part y).needs (receive_call_at m y) r
opens m Look r0 r tr es (may, same, none, quiet) = record { made = refl; first = refl; start = refl; knows = (subst (MayPeekFrom m.me m.from) (sym same) may, refl, refl, refl) }
opens m Item r0 r tr es h = record { made = refl; first = refl; start = refl; knows = (h.0, refl, refl, refl) }

-- a refused peek is a refused receive
refused : (m : ReceiveState) (r0 r : Memo) (tr : Trail) (es : List Event) (f : PeekFault) → PeekRefused (peeking m.me m.from) r0 r tr es f → ReceiveRefused m r0 r tr es f
refused m r0 r tr es (peek.Empty n) h = h
refused m r0 r tr es (peek.EraSpent e) h = inl h
refused m r0 r tr es peek.RootsFull h = h
refused m r0 r tr es (peek.CountFull b n) h = h

module _ (m : ReceiveState) (r0 rs r : Memo) (tr t : Trail) (es ds : List Event) where
  -- what is known before the next call, or what is left
  abbrev Leads : ReceivePoint → ReceiveAnswer → Type 0
  Leads y a = Follows receive_parts receive_plan (record m { point = y }) a r0 r (tr ++ t) (es ++ ds)

  -- the item has a root, or not
  looked : (a : Result Made PeekFault) → ReceiveKnows (record m { point = Look }) Look r0 rs tr es → PeekLeaves (peeking m.me m.from) rs r t ds a → Leads Look (First a)
  looked a (may, same, none, quiet) g =
      subst (λ (u : Trail). Follows receive_parts receive_plan (record m { point = Look }) (First a) r0 r (u ++ t) (es ++ ds)) (sym none)
      (subst (λ (u : List Event). Follows receive_parts receive_plan (record m { point = Look }) (First a) r0 r t (u ++ ds)) (sym quiet) (go a (subst (λ (x : Memo). PeekLeaves (peeking m.me m.from) x r t ds a) same g)))
    where
      go : (a : Result Made PeekFault) → PeekLeaves (peeking m.me m.from) r0 r t ds a → Follows receive_parts receive_plan (record m { point = Look }) (First a) r0 r t ds
      go (Ok made) (n, g) = (
        record {
          geometry = may.take.geometry;
          who = may.take.who;
          here = here_same r0 r (ap (λ (x : Memo). x.status) g.filled.rest) may.take.here;
          idle = ap (λ (x : Memo). x.op) g.filled.rest ∙ may.take.idle;
          from = may.take.from;
          other = may.take.other;
          none = ap (λ (x : Memo). slice_index x.untaken m.from) g.filled.rest ∙ may.take.none;
        },
        (n, g),
      )
      go (Err f) g = refused m r0 r t ds f g

  -- the memo in which the item has a root
  abbrev peeked : ReceiveKnows (record m { point = Item }) Item r0 rs tr es → IsPeeked m.me m.from m.block m.root r0 (tr ++ t) (es ++ ds)
  peeked h = record { q = rs; place = h.1.0; first = tr; next = t; asked = refl; before = es; after = ds; split = refl; peeked = h.1.1 }

  -- its slot is known, and is the one at the head
  item_known : (h : ReceiveKnows (record m { point = Item }) Item r0 rs tr es) → (n : ℕ) → n ≡ own_word rs.own (spot.QueueHead m.from m.me.who) → Contains rs.known (record { spot = spot.Slot m.from m.me.who (n % 8); value = m.block })
  item_known h n at =
      let p = h.1.1 in
      let place : h.1.0 ≡ n = p.at ∙ (sym (p.filled.own (spot.QueueHead m.from m.me.who) refl) ∙ sym at) in
      let here : Contains rs.known (record { spot = spot.Slot m.from m.me.who (h.1.0 % 8); value = m.block }) =
      subst (λ (ks : List Stored). Contains ks (record { spot = spot.Slot m.from m.me.who (h.1.0 % 8); value = m.block })) (sym (ap (λ (x : Memo). x.known) p.filled.rest)) (0, omega arith, refl) in
      subst (λ y. Contains rs.known (record { spot = spot.Slot m.from m.me.who (y % 8); value = m.block })) place here

  -- the item is taken, or not
  taken : (a : Result (Unit {0}) TakeFault) → ReceiveKnows (record m { point = Item }) Item r0 rs tr es → TakeLeaves (taking m.me m.from) rs r t ds a → Leads Item (Second a)
  taken (Ok done) h g =
      let p = h.1.1 in
      let low = p.low in
      let quiet : frees es ≡ 0 = ap frees p.events ∙ omega arith in
      let sum = frees_append es ds in
      let all : frees (es ++ ds) ≡ frees ds = omega arith in
      let f = ap (tear_steps m.me.geometry.wide) all in
      let bound = within_more (11 + redo_steps m.me.geometry.wide + m.root) (11 + redo_steps m.me.geometry.wide + tear_steps m.me.geometry.wide (frees ds)) tr t p.bound g.bound in
      record { look = peeked h; taken = g; item = g.known m.block (item_known h g.place g.received.place); bound = omega arith }
  taken (Err (fault.Empty n)) h g =
      let p = h.1.1 in
      let least = g.least p.some.0 p.some.1 in
      let above = p.some.2 in
      let head : own_word rs.own (spot.QueueHead m.from m.me.who) ≡ h.1.0 = p.filled.own (spot.QueueHead m.from m.me.who) refl ∙ sym p.at in
      let same = g.head in
      absurd (omega arith)
  taken (Err (fault.EraSpent e)) h g =
      let p = h.1.1 in
      let low = p.low in
      let quiet : frees es ≡ 0 = ap frees p.events ∙ omega arith in
      let sum = frees_append es ds in
      let all : frees (es ++ ds) ≡ frees ds = omega arith in
      let f : (l : ℕ) → tear_steps m.me.geometry.wide (frees (es ++ ds) + l) ≡ tear_steps m.me.geometry.wide (frees ds + l) = λ l. ap (λ n. tear_steps m.me.geometry.wide (n + l)) all in
      inr
      (record {
        block = m.block;
        root = m.root;
        look = peeked h;
        spent = g.0;
        refused = elim g.1 [
          | inl n ↦ inl (n, (let bound = within_more (11 + redo_steps m.me.geometry.wide + m.root) 4 tr t p.bound n.bound in omega arith))
          | inr n ↦ inr (n, (let bound = within_more (11 + redo_steps m.me.geometry.wide + m.root) (11 + redo_steps m.me.geometry.wide + tear_steps m.me.geometry.wide (frees ds + length n.left)) tr t p.bound n.bound in let d = f (length n.left) in omega arith))
        ];
      })

leads : (m : ReceiveState) (y : ReceivePoint) (r0 rs r : Memo) (tr t : Trail) (es ds : List Event) (a : ReceiveAnswer) → ReceiveKnows (record m { point = y }) y r0 rs tr es → (receive_part y).leaves (receive_call_at m y) rs r t ds a
    → Follows receive_parts receive_plan (record m { point = y }) a r0 r (tr ++ t) (es ++ ds)
leads m Look r0 rs r tr t es ds (First a) h (g, grows) = looked m r0 rs r tr t es ds a h g
leads m Item r0 rs r tr t es ds (Second a) h (g, grows) = taken m r0 rs r tr t es ds a h g
leads m Look r0 rs r tr t es ds (Second a) h g = absurd g.0
leads m Item r0 rs r tr t es ds (First a) h g = absurd g.0

-- ---- the plan's laws, by those of the machines that it calls

module _ (peeks : PlanLaws peek_parts peek_plan) (takes : PlanLaws take_parts take_plan) where
  pub receive_laws : PlanLaws receive_parts receive_plan
  receive_laws =
      record {
        stays = stays;
        calls = λ m. calls m m.point;
        parts = λ m. let first = is_look m.point in
            grown_laws first receive_parts (or_part (calls_part peek_parts peek_plan) (calls_part take_parts take_plan))
            (or_part_laws first peek_control take_control (calls_part peek_parts peek_plan) (calls_part take_parts take_plan) (calls_part_laws peek_parts peek_plan peeks first) (calls_part_laws take_parts take_plan takes first));
        opens = λ m. opens m m.point;
        leads = λ m r0 rs r tr t es ds a h g held agent. leads m m.point r0 rs r tr t es ds a h g;
      }
