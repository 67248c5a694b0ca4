-- what is owed of a send: each call leads on, to the next one or to what is left
use Rattle.std.proofs.Common.{◌≡◌, ◌≢◌, ℕ, ◌+◌, ◌%◌, ◌^◌, ◌<◌, ◌≤◌, refl, sym, ap, ◌∙◌, subst, arith, Bool, true, false, List, [], ◌∷◌, ◌++◌, length, inl, inr}
use Rattle.std.proofs.Math.Nat.{mod-eq_of_lt}
use Rattle.std.proofs.lemmas.Bool.{cases_eq, cond-false, cond-true, eq-eqb, eqb-false, eqb-true, ne_eqb}
use Rattle.std.specs.{Prelude.{◌-◌, ◌==◌, if◌then◌else◌, Some, None, Result, Ok, Err, slice_index}, List.Contains}
use Rattle.shm_graph.specs.{Bounds.redo_steps, declared.{spot.Spot.Spot, memo.Memo.Memo, table.Part.Part}}
use Rattle.shm_graph.specs.{Agents.recovers, Asks.{Trail, IsWithin}, Core.core, Events.Event, Held.is_loose}
use Rattle.shm_graph.specs.{Laws.Outcome, Reach.is_reached, MemoAfterStore.{lane_with, tail_stored}, Views.own_word}
use Rattle.shm_graph.specs.declared.ask.Ask.TheVariants as ask
use Rattle.shm_graph.specs.declared.spot.Spot.TheVariants as spot
use Rattle.shm_graph.specs.Events as event
use Rattle.shm_graph.proofs.Spots.Spotting.{same_spot_self}
use Rattle.kind_parts.specs.Reparting.{sight}
use Rattle.kind_parts.proofs.{Cores.here_same, Items.put_at, Words.{Own.tail_load, Queues.tail_store}}
use Rattle.plans.specs.{declared.or.Or.TheVariants.{First, Second}, Proved.{CallTells.within_more, Either.or_part_laws}}
use Rattle.plans.specs.{Parts.IsHeld, Plans.{PlanLaws, PlanStays, IsCall, Follows}}
use Rattle.plans.specs.Words.{word_control, word_part, word_part_laws, IsWord, WordLeaves}
use Rattle.shm_count.specs.declared.answer.UpFault.{UpFault}
use Rattle.shm_count.specs.Slots.{Filled, StepLeft, Untouched, known_at, slotted, unsent_at}
use Rattle.shm_count.specs.{Slots.Parts.{up_slot_part, up_slot_laws}, Proved.Slots.Parts.era_room}
use Rattle.shm_count.specs.Step.{Machines.{up_control, up_told}, Parts.part_after}
use Rattle.shm_count.specs.declared.answer.UpFault.TheVariants as fault
use Rattle.shm_count.specs.declared.point.Aim.TheVariants as aims
use Rattle.shm_queue.specs.declared.{answer.SendFault.TheVariants.QueueFull, send.SendPoint.SendPoint}
use Rattle.shm_queue.specs.declared.send.{SendPoint.TheVariants.{Tail, Head, Up, Store}, SendState.SendState}
use Rattle.shm_queue.specs.Proved.{QueueSteps.{put_here, put_may, same_part}, QueueWords.{reach_inside, tail_small}}
use Rattle.shm_queue.specs.QueueWords.{HeadSeen, head_seen}
use Rattle.shm_queue.specs.Send.Control.{SendAnswer, send_parts, sending, tail_at, send_call_at, is_tail}
use Rattle.shm_queue.specs.Send.{IsTailRead, IsPut, Sent, SendKnows, SendLeaves, SendFound, send_ask, send_part, send_plan}

-- ---- memos

-- a step up after what leaves the core
pub filled_core : (c : ℕ) (p : Spot) (b : ℕ) (m q r : Memo) → core q ≡ core m → Filled c p b q r → Filled c p b m r
filled_core c p b m q r same h =
    record {
      rest = h.rest ∙ ap (λ (x : Memo). core (record x { own = r.own; known = known_at p b x.known; unsent = unsent_at p b x.unsent; part = part_after c (sight c x) p b })) same;
      own = λ s l. h.own s l ∙ slotted_same s;
      era = h.era ∙ ap (λ (x : Memo). own_word x.own (spot.Era c c) + 1) same;
      rows = λ j. subst (λ y. y ≤ own_word r.own (spot.Era c j)) (ap (λ (x : Memo). own_word x.own (spot.Era c j)) same) (h.rows j);
    }
  where
    slotted_same : (s : Spot) → own_word (slotted p b q).own s ≡ own_word (slotted p b m).own s
    slotted_same s = go p
      where
        go : (p : Spot) → own_word (slotted p b q).own s ≡ own_word (slotted p b m).own s
        go (spot.Root d k) = ap (λ (x : Memo). own_word (slotted (spot.Root d k) b x).own s) same
        go (spot.Home d) = ap (λ (x : Memo). own_word (slotted (spot.Home d) b x).own s) same
        go _ = ap (λ (x : Memo). own_word x.own s) same

-- and a refused one
pub untouched_core : (c : ℕ) (m q r : Memo) → core q ≡ core m → Untouched c q r → Untouched c m r
untouched_core c m q r same h =
    record {
      rest = h.rest ∙ ap (λ (x : Memo). core (record x { own = r.own })) same;
      own = λ s l. h.own s l ∙ ap (λ (x : Memo). own_word x.own s) same;
      rows = λ j. subst (λ y. y ≤ own_word r.own (spot.Era c j)) (ap (λ (x : Memo). own_word x.own (spot.Era c j)) same) (h.rows j);
    }

-- once the tail is stored the block is sent
module _ (c i b n : ℕ) (m q r : Memo) (none : slice_index m.unsent i ≡ 0) (tail : n ≡ own_word m.own (spot.Tail c i)) (filled : Filled c (spot.Slot c i (n % 8)) b m q) (left : core r ≡ core (tail_stored q (spot.Tail c i) i (own_word q.own (spot.Tail c i) + 1))) where
  abbrev p : Spot
  p = spot.Slot c i (n % 8)

  waits : slice_index q.unsent i ≡ b
  waits = ap (λ (x : Memo). slice_index x.unsent i) filled.rest ∙ put_here m.unsent i b

  sent_rest : core r ≡ core (record m { own = r.own; sent = lane_with m.sent i b; unsent = r.unsent })
  sent_rest =
      ap (λ (x : Memo). core (record x { own = r.own; unsent = r.unsent })) left
      ∙ (ap (λ (d : ℕ). core (record q { own = r.own; sent = lane_with q.sent i d; unsent = r.unsent })) waits
      ∙ (ap (λ (x : Memo). core (record x { own = r.own; sent = lane_with x.sent i b; unsent = r.unsent })) filled.rest
      ∙ ap (λ (t : Part). core (record m { own = r.own; sent = lane_with m.sent i b; unsent = r.unsent; part = t })) (same_part c (sight c m) c i (n % 8) b)))

  sent_unsent : (j : ℕ) → slice_index r.unsent j ≡ slice_index m.unsent j
  sent_unsent j =
      elim (cases_eq i j) [
        | inl e ↦ (ap (λ (x : Memo). slice_index x.unsent j) left ∙ (put_at 0 q.unsent i 0 j ∙ cond-true _ _ _ (eq-eqb i j e))) ∙ (sym none ∙ ap (slice_index m.unsent) e)
        | inr o ↦ (ap (λ (x : Memo). slice_index x.unsent j) left ∙ (put_at 0 q.unsent i 0 j ∙ cond-false _ _ _ (ne_eqb i j o)))
            ∙ (ap (λ (x : Memo). slice_index x.unsent j) filled.rest ∙ (put_at 0 m.unsent i b j ∙ cond-false _ _ _ (ne_eqb i j o)))
      ]

  pub sent_of : Sent c i b n m r
  sent_of =
      record {
        rest = sent_rest;
        unsent = sent_unsent;
        place = tail;
        tail = (ap (λ (x : Memo). own_word x.own (spot.Tail c i)) left ∙ cond-true _ _ _ (same_spot_self (spot.Tail c i))) ∙ ap (λ y. y + 1) (filled.own (spot.Tail c i) refl ∙ sym tail);
        own = λ s l other. (ap (λ (x : Memo). own_word x.own s) left ∙ cond-false _ _ _ other) ∙ filled.own s l;
        era = ap (λ (x : Memo). own_word x.own (spot.Era c c)) left ∙ filled.era;
        rows = λ j. subst (λ y. own_word m.own (spot.Era c j) ≤ y) (sym (ap (λ (x : Memo). own_word x.own (spot.Era c j)) left)) (filled.rows j);
      }

-- ---- the plan

stays : (m : SendState) (y : SendPoint) (b : SendAnswer) → PlanStays send_parts send_plan (record m { point = y }) b
stays m Tail (First n) = record { same_me = refl; same_line = refl; same_start = refl; started = λ e. refl }
stays m Head (First n) = record { same_me = refl; same_line = refl; same_start = refl; started = λ e. refl }
stays m Up (First n) = record { same_me = refl; same_line = refl; same_start = refl; started = λ e. refl }
stays m Store (First n) = record { same_me = refl; same_line = refl; same_start = refl; started = λ e. refl }
stays m y (Second (Ok done)) = record { same_me = refl; same_line = refl; same_start = refl; started = λ e. refl }
stays m y (Second (Err f)) = record { same_me = refl; same_line = refl; same_start = refl; started = λ e. absurd (cc) }

calls : (m : SendState) (y : SendPoint) → IsCall send_parts send_plan (record m { point = y })
calls m Tail = record { me = refl; asks = refl }
calls m Head = record { me = refl; asks = refl }
calls m Up = record { me = refl; asks = refl }
calls m Store = record { me = refl; asks = refl }

-- the tail that is stored is the next one
store_word : (m : SendState) (r0 r : Memo) (tr : Trail) (es : List Event) → IsPut m.me m.to m.block m.tail r0 r tr es → IsWord false m.me (send_ask m Store) (SendFound m Store) (record { me = m.me; ask = send_ask m Store; over = false }) r
store_word m r0 r tr es h =
    let may = h.may in
    let c = m.me.who in
    let next : own_word r.own (spot.Tail c m.to) + 1 ≡ (m.tail + 1) % 2 ^ 64 = ap (λ y. y + 1) (h.filled.own (spot.Tail c m.to) refl ∙ sym h.tail) ∙ sym (mod-eq_of_lt h.small) in
    let waits : slice_index r.unsent m.to ≡ m.block = ap (λ (x : Memo). slice_index x.unsent m.to) h.filled.rest ∙ put_here r0.unsent m.to m.block in
    subst (λ v. IsWord false m.me (ask.Store (tail_at m) v) (SendFound m Store) (record { me = m.me; ask = ask.Store (tail_at m) v; over = false }) r) next
    (tail_store false m.me r may.who refl m.to
    (record { here = here_same r0 r (ap (λ (x : Memo). x.status) h.filled.rest) may.here; to = may.to; other = may.other; idle = ap (λ (x : Memo). x.op) h.filled.rest ∙ may.idle; some = λ z. h.some (sym waits ∙ z) }))

opens : (m : SendState) (y : SendPoint) (r0 r : Memo) (tr : Trail) (es : List Event) → SendKnows (record m { point = y }) y r0 r tr es → (send_part m y).needs (send_call_at m y) r
opens m Tail r0 r tr es h = tail_load true m.me r h.0.who m.me.who m.to h.0.who h.0.to
opens m Head r0 r tr es h = head_seen false m.me r h.may.who m.to h.may.to h.may.other
opens m Up r0 r tr es h = (refl, put_may m.me m.to (m.tail % 8) m.block r h.1)
opens m Store r0 r tr es h = store_word m r0 r tr es h

module _ (m : SendState) (r0 rs r : Memo) (tr t : Trail) (es ds : List Event) (held : IsHeld m.me r) (agent : recovers r ≡ recovers rs) where
  abbrev c : ℕ
  c = m.me.who

  -- the head was read: the queue is full, or it has room
  looked : (n : ℕ) → IsTailRead m.me m.to m.block m.tail 1 r0 rs tr es → WordLeaves (HeadSeen c m.to) (record { me = m.me; ask = send_ask m Head; over = false }) rs r t ds n
      → Follows send_parts send_plan (record m { point = Head }) (First n) r0 r (tr ++ t) (es ++ ds)
  looked n h w = go (m.tail - n == 8) (eqb-true (m.tail - n) 8) (eqb-false (m.tail - n) 8)
    where
      same : core r ≡ core r0
      same = w.found.left ∙ h.same

      own : own_word rs.own (spot.Tail c m.to) ≡ m.tail
      own = ap (λ (x : Memo). own_word x.own (spot.Tail c m.to)) h.same ∙ sym h.tail

      silent : es ++ ds ≡ []
      silent = ap (λ (x : List Event). x ++ ds) h.none ∙ w.none

      bound : IsWithin 2 (tr ++ t)
      bound = let one : IsWithin 1 t = (let o = w.one in omega arith) in within_more 1 1 tr t h.bound one

      go : (q : Bool) → (q ≡ true → m.tail - n ≡ 8) → (q ≡ false → (m.tail - n) ≢ 8)
          → Outcome (if q then Some (Err (QueueFull n m.tail)) else None) (SendKnows (record m { point = Up }) Up r0 r (tr ++ t) (es ++ ds)) (SendLeaves (sending m.me m.to m.block) r0 r (tr ++ t) (es ++ ds))
      go true full room = record { same = same; tail = h.tail; full = (let e = full refl in omega arith); none = silent; bound = bound }
      go false full room =
          let may = h.may in
          let idle = ap (λ (x : Memo). x.op) same ∙ may.idle in
          let reach : is_reached c r m.block ≡ true = ap (λ (x : Memo). is_reached c x m.block) same ∙ may.reach in
          let left : m.tail < n + 8 = (let e = room refl in let f = w.found.found.1 in let o = own in omega arith) in
          let tail : own_word r.own (spot.Tail c m.to) ≡ m.tail = ap (λ (x : Memo). own_word x.own (spot.Tail c m.to)) same ∙ sym h.tail in (
            record { may = may; same = same; agent = agent ∙ h.agent; tail = h.tail; none = silent; bound = bound },
            record {
              geometry = may.geometry;
              who = may.who;
              here = here_same r0 r (ap (λ (x : Memo). x.status) same) may.here;
              idle = idle;
              client = (agent ∙ h.agent) ∙ may.client;
              to = may.to;
              other = may.other;
              next = ap (λ y. y % 8) (sym tail);
              none = ap (λ (x : Memo). slice_index x.unsent m.to) same ∙ may.none;
              read = (n, w.found.read, (let e = tail in omega arith));
              reach = reach;
              inside = (reach_inside m.me may.who m.block r held reach).0;
              value = λ loose. subst (λ (vs : List ℕ). Contains vs m.block) (sym (ap (λ (x : Memo). x.values) same)) (may.value (sym (ap (λ (x : Memo). is_loose x.part) same) ∙ loose));
              era = era_room m.me r held may.who idle;
            },
          )

  -- the slot names the block, or nothing was done
  raised : (a : Result (Unit {0}) UpFault) → SendKnows (record m { point = Up }) Up r0 rs tr es → StepLeft m.me (aims.Up m.block) (spot.Slot c m.to (m.tail % 8)) false rs r t ds (up_told a)
      → Follows send_parts send_plan (record m { point = Up }) (Second a) r0 r (tr ++ t) (es ++ ds)
  raised (Ok done) (h, may) g =
      let filled = filled_core c (spot.Slot c m.to (m.tail % 8)) m.block r0 rs r h.same g.did.0 in
      let own : own_word r.own (spot.Tail c m.to) ≡ m.tail = filled.own (spot.Tail c m.to) refl ∙ sym h.tail in
      let some = may.inside.0 in
      record {
        may = h.may;
        tail = h.tail;
        small = subst (λ y. y + 1 < 2 ^ 64) own (tail_small m.me h.may.who m.to r h.may.to held);
        some = λ z. absurd (omega arith);
        filled = filled;
        told = ap (λ (x : List Event). x ++ ds) h.none ∙ g.did.1;
        bound = (let n = within_more 2 (7 + redo_steps m.me.geometry.wide) tr t h.bound g.bound in omega arith);
      }
  raised (Err (fault.EraSpent e)) (h, may) g = (
    record { untouched = untouched_core c r0 rs r h.same g.did.0; none = ap (λ (x : List Event). x ++ ds) h.none ∙ g.did.2; bound = (let n = within_more 2 (7 + redo_steps m.me.geometry.wide) tr t h.bound g.bound in omega arith) },
    g.did.1.0 ∙ ap (λ (x : Memo). own_word x.own (spot.Era c c)) h.same,
    g.did.1.1,
  )
  raised (Err (fault.CountFull b n)) (h, may) g = (
    record { untouched = untouched_core c r0 rs r h.same g.did.0; none = ap (λ (x : List Event). x ++ ds) h.none ∙ g.did.2; bound = (let n = within_more 2 (7 + redo_steps m.me.geometry.wide) tr t h.bound g.bound in omega arith) },
    g.did.1.0,
    g.did.1.1,
  )

leads : (m : SendState) (y : SendPoint) (r0 rs r : Memo) (tr t : Trail) (es ds : List Event) (a : SendAnswer) → SendKnows (record m { point = y }) y r0 rs tr es → (send_part m y).leaves (send_call_at m y) rs r t ds a → IsHeld m.me r → recovers r ≡ recovers rs
    → Follows send_parts send_plan (record m { point = y }) a r0 r (tr ++ t) (es ++ ds)
leads m Tail r0 rs r tr t es ds (First n) (may, same, none, quiet) w held agent =
    record {
      may = may;
      same = w.found.left ∙ ap core same;
      agent = agent ∙ ap recovers same;
      tail = w.found.found (eq-eqb m.me.who m.me.who refl) ∙ ap (λ (x : Memo). own_word x.own (spot.Tail m.me.who m.to)) same;
      none = ap (λ (x : List Event). x ++ ds) quiet ∙ w.none;
      bound = (let e = ap length (ap (λ (x : Trail). x ++ t) none) in let o = w.one in omega arith);
    }
leads m Head r0 rs r tr t es ds (First n) h w held agent = looked m r0 rs r tr t es ds held agent n h w
leads m Store r0 rs r tr t es ds (First n) h w held agent =
    let one : IsWithin 1 t = (let o = w.one in omega arith) in
    record {
      sent = sent_of m.me.who m.to m.block m.tail r0 rs r h.may.none h.tail h.filled w.found.left;
      told = ap (λ (x : List Event). x ++ ds) h.told ∙ ap (λ (x : List Event). event.Up m.me.who (spot.Slot m.me.who m.to (m.tail % 8)) m.block ∷ x) w.none;
      bound = (let n = within_more (9 + redo_steps m.me.geometry.wide) 1 tr t h.bound one in omega arith);
    }
leads m Up r0 rs r tr t es ds (Second a) h g held agent = raised m r0 rs r tr t es ds held agent a h g
leads m Up r0 rs r tr t es ds (First n) h g held agent = absurd g
leads m Tail r0 rs r tr t es ds (Second a) h g held agent = absurd g
leads m Head r0 rs r tr t es ds (Second a) h g held agent = absurd g
leads m Store r0 rs r tr t es ds (Second a) h g held agent = absurd g

pub send_laws : PlanLaws send_parts send_plan
send_laws =
    record {
      stays = λ m. stays m m.point;
      calls = λ m. calls m m.point;
      parts = λ m. let first = is_tail m.point in let p = spot.Slot m.me.who m.to (m.tail % 8) in
          or_part_laws first word_control up_control (word_part first m.me (send_ask m m.point) (SendFound m m.point)) (up_slot_part p false) (word_part_laws first m.me (send_ask m m.point) (SendFound m m.point)) (up_slot_laws p false first);
      opens = λ m. opens m m.point;
      leads = λ m r0 rs r tr t es ds a h g held agent. leads m m.point r0 rs r tr t es ds a h g held agent;
    }
