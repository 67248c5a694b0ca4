-- what is owed of a take: each call leads on, to the next one or to what is left
use Rattle.std.proofs.Common.{◌≡◌, ◌≢◌, ℕ, ◌+◌, ◌%◌, ◌^◌, ◌<◌, refl, sym, ap, ◌∙◌, subst, arith, Bool, true, false, List, [], ◌∷◌, ◌++◌, append-nil, length, inl, inr}
use Rattle.std.proofs.{Math.Nat.mod-eq_of_lt, lemmas.{Bool.{eqb-false, eqb-true}, List.Elements.Contains-push}}
use Rattle.std.specs.{Prelude.{◌==◌, if◌then◌else◌, Some, None, Result, Ok, Err, slice_index}, List.{Contains, filter}}
use Rattle.shm_words.specs.Layout.{address_limit}
use Rattle.shm_graph.specs.{declared.memo.{Fact.TheVariants.Counter, Memo.Memo}, Asks.{Trail, IsWithin}}
use Rattle.shm_graph.specs.{Bounds.{tear_steps, redo_steps}, Core.core, Events.Event, Laws.Outcome}
use Rattle.shm_graph.specs.{MemoAfterStore.{head_stored, not_block}, Views.own_word}
use Rattle.shm_graph.specs.declared.ask.Ask.TheVariants as ask
use Rattle.shm_graph.specs.declared.spot.Spot.TheVariants as spot
use Rattle.shm_graph.specs.Events as event
use Rattle.kind_parts.specs.WordParts.{HeadSlotLoaded}
use Rattle.kind_parts.proofs.{Cores.here_same, Words.{Own.head_load, Queues.{head_slot_load, head_store}}}
use Rattle.plans.specs.{declared.or.Or.TheVariants.{First, Second}, Proved.{CallTells.within_more, Either.or_part_laws}}
use Rattle.plans.specs.{Proved.Grown.grown_laws, Either.{or_control, or_part}, Grown.Grows, Parts.IsHeld}
use Rattle.plans.specs.Plans.{PlanLaws, PlanStays, IsCall, Follows}
use Rattle.plans.specs.Words.{word_control, word_part, word_part_laws, IsWord, WordLeaves}
use Rattle.shm_count.specs.{declared.answer.EraSpent.EraSpent as ASpent, CountParts.tear_part}
use Rattle.shm_count.specs.{Proved.{CountParts.tear_part_laws, Lowering.{torn_leaves, without_new}}, Slots.StepLeft}
use Rattle.shm_count.specs.{Step.{Machines.{down_control, down_told}, Asks.step_trail}, Tear.Control.tear_control}
use Rattle.shm_count.specs.Tear.{Events.frees, TearLeaves}
use Rattle.shm_count.specs.declared.point.Aim.TheVariants as aims
use Rattle.shm_queue.specs.declared.{answer.TakeFault.TheVariants.Empty, take.TakePoint.TakePoint}
use Rattle.shm_queue.specs.declared.take.TakePoint.TheVariants.{Head, Tail, Slot, Lower, Store, Tear}
use Rattle.shm_queue.specs.{declared.take.TakeState.TakeState, Answers.take_fault}
use Rattle.shm_queue.specs.Proved.HeadReads.{has_item, head_read, is_empty, item_read}
use Rattle.shm_queue.specs.Proved.{QueueSteps.{put_here, take_may}, QueueWords.head_small}
use Rattle.shm_queue.specs.Proved.{Refusals.{lower_laws, spent_one}, Send.Laws.untouched_core}
use Rattle.shm_queue.specs.{Proved.Take.Memos.{lost_core, lost_stored, received_of}, QueueWords.{TailSeen, tail_seen}}
use Rattle.shm_queue.specs.Refusals.{lower_part}
use Rattle.shm_queue.specs.Take.Control.{TakeAnswer, take_parts, taking, head_at, slot_at, take_call_at, is_head}
use Rattle.shm_queue.specs.Take.{IsHeadRead, IsItemRead, IsOut, IsReceived, TakeKnows, TakeLeaves, TakeFound, TakeRefused, slot_memo, taken_memo, take_ask, take_part, take_plan}

stays : (m : TakeState) (y : TakePoint) (b : TakeAnswer) → PlanStays take_parts take_plan (record m { point = y }) b
stays m Head (First n) = record { same_me = refl; same_line = refl; same_start = refl; started = λ e. refl }
stays m Tail (First n) = record { same_me = refl; same_line = refl; same_start = refl; started = λ e. refl }
stays m Slot (First n) = record { same_me = refl; same_line = refl; same_start = refl; started = λ e. refl }
stays m Lower (First n) = record { same_me = refl; same_line = refl; same_start = refl; started = λ e. refl }
stays m Store (First n) = record { same_me = refl; same_line = refl; same_start = refl; started = λ e. refl }
stays m Tear (First n) = record { same_me = refl; same_line = refl; same_start = refl; started = λ e. refl }
stays m y (Second (First (Ok z))) = record { same_me = refl; same_line = refl; same_start = refl; started = λ e. refl }
stays m y (Second (First (Err e))) = record { same_me = refl; same_line = refl; same_start = refl; started = λ e. absurd (cc) }
stays m y (Second (Second (Ok done))) = record { same_me = refl; same_line = refl; same_start = refl; started = λ e. absurd (cc) }
stays m y (Second (Second (Err e))) = record { same_me = refl; same_line = refl; same_start = refl; started = λ e. absurd (cc) }

calls : (m : TakeState) (y : TakePoint) → IsCall take_parts take_plan (record m { point = y })
calls m Head = record { me = refl; asks = refl }
calls m Tail = record { me = refl; asks = refl }
calls m Slot = record { me = refl; asks = refl }
calls m Lower = record { me = refl; asks = refl }
calls m Store = record { me = refl; asks = refl }
calls m Tear = record { me = refl; asks = refl }

-- the head that is stored is the next one
store_word : (m : TakeState) (r0 r : Memo) (tr : Trail) (es : List Event) → IsOut m.me m.from m.at m.block m.last r0 r tr es → IsWord false m.me (take_ask m Store) (TakeFound m Store) (record { me = m.me; ask = take_ask m Store; over = false }) r
store_word m r0 r tr es h =
    let may = h.may in
    let c = m.me.who in
    let took = h.lost.took in
    let next : own_word r.own (spot.QueueHead m.from c) + 1 ≡ (m.at + 1) % 2 ^ 64 = ap (λ y. y + 1) (took.own (spot.QueueHead m.from c) refl ∙ sym h.head) ∙ sym (mod-eq_of_lt h.small) in
    let waits : slice_index r.untaken m.from ≡ m.block = ap (λ (x : Memo). slice_index x.untaken m.from) took.rest ∙ put_here r0.untaken m.from m.block in
    let low = h.inside.0 in
    subst (λ v. IsWord false m.me (ask.Store (head_at m) v) (TakeFound m Store) (record { me = m.me; ask = ask.Store (head_at m) v; over = false }) r) next
    (head_store false m.me r may.who refl m.from (record { here = h.here; from = may.from; other = may.other; idle = took.op; some = λ z. let e = sym waits ∙ z in absurd (omega arith) }))

opens : (m : TakeState) (y : TakePoint) (r0 r : Memo) (tr : Trail) (es : List Event) → TakeKnows (record m { point = y }) y r0 r tr es → (take_part m y).needs (take_call_at m y) r
opens m Head r0 r tr es h = head_load true m.me r h.0.who m.from m.me.who h.0.from h.0.who
opens m Tail r0 r tr es h = tail_seen false m.me r h.may.who m.from h.may.from h.may.other
opens m Slot r0 r tr es h = head_slot_load false m.me r h.0.may.who m.from (m.at % 8) h.1
opens m Lower r0 r tr es h = (refl, take_may m.me m.from (m.at % 8) m.block r h.can)
opens m Store r0 r tr es h = store_word m r0 r tr es h
opens m Tear r0 r tr es h = record { made = refl; can = h.can }

module _ (m : TakeState) (r0 rs r : Memo) (tr t : Trail) (es ds : List Event) (held : IsHeld m.me r) where
  abbrev c : ℕ
  c = m.me.who

  abbrev s : ℕ
  s = m.from

  -- what is known before the next call, or what is left
  abbrev Leads : TakePoint → TakeAnswer → Type 0
  Leads y a = Follows take_parts take_plan (record m { point = y }) a r0 r (tr ++ t) (es ++ ds)

  -- the tail was read: the queue is empty, or it has an item
  looked : (n : ℕ) → IsHeadRead m.me s m.at 1 r0 rs tr es → WordLeaves (TailSeen c s) (record { me = m.me; ask = take_ask m Tail; over = false }) rs r t ds n → Grows false rs r → Leads Tail (First n)
  looked n h w grows = go (n == m.at) (eqb-true n m.at) (eqb-false n m.at)
    where
      go : (q : Bool) → (q ≡ true → n ≡ m.at) → (q ≡ false → n ≢ m.at)
          → Outcome (if q then Some (Err (Empty m.at)) else None) (TakeKnows (record m { point = Slot }) Slot r0 r (tr ++ t) (es ++ ds)) (TakeLeaves (taking m.me s) r0 r (tr ++ t) (es ++ ds))
      go true is other = is_empty m.me s m.at r0 rs r tr t es ds (record { me = m.me; ask = take_ask m Tail; over = false }) n h w grows (is refl)
      go false is other = has_item m.me s m.at r0 rs r tr t es ds (record { me = m.me; ask = take_ask m Tail; over = false }) n h w grows (other refl)

  -- the item was read
  found : (n : ℕ) → TakeKnows (record m { point = Slot }) Slot r0 rs tr es → WordLeaves (HeadSlotLoaded c s (m.at % 8)) (record { me = m.me; ask = take_ask m Slot; over = false }) rs r t ds n → Grows false rs r → IsItemRead m.me s m.at (n % address_limit) r0 r (tr ++ t) (es ++ ds)
  found n h w grows =
      let item = item_read m.me s m.at r0 rs r tr t es ds held (record { me = m.me; ask = take_ask m Slot; over = false }) n h.0 h.1 w grows in
      subst (λ b. IsItemRead m.me s m.at b r0 r (tr ++ t) (es ++ ds)) (sym item.0) item.1

  -- the slot is empty
  lowered : (z : Bool) → IsItemRead m.me s m.at m.block r0 rs tr es → StepLeft m.me (aims.Down m.block) (spot.Slot s c (m.at % 8)) true rs r t ds (Ok z) → IsOut m.me s m.at m.block z r0 r (tr ++ t) (es ++ ds)
  lowered z h g =
      let lost = lost_core c s (m.at % 8) m.block z (slot_memo c s m.at m.block r0) rs r h.left g.did.0 in
      let own : own_word r.own (spot.QueueHead s c) ≡ m.at = lost.took.own (spot.QueueHead s c) refl ∙ sym h.head in
      record {
        may = h.may;
        head = h.head;
        small = subst (λ y. y + 1 < 2 ^ 64) own (head_small m.me h.may.who s r h.may.from h.may.other held);
        room = h.room;
        counted = h.counted;
        known = h.known;
        inside = h.can.inside;
        here = here_same rs r g.status h.can.here;
        lost = lost;
        told = ap (λ (x : List Event). x ++ ds) h.none ∙ g.did.1;
        bound = (let n = within_more 3 (7 + redo_steps m.me.geometry.wide) tr t h.bound g.bound in omega arith);
      }

  -- or nothing was done
  unlowered : (e : ASpent) → IsItemRead m.me s m.at m.block r0 rs tr es → StepLeft m.me (aims.Down m.block) (spot.Slot s c (m.at % 8)) true rs r t ds (down_told (Err e)) → step_trail m.me (slot_at m) (aims.Down m.block) t (down_told (Err e)) → TakeRefused (taking m.me s) r0 r (tr ++ t) (es ++ ds) (take_fault e)
  unlowered e h g asked =
      let one : IsWithin 1 t = (let l = spent_one m.me (slot_at m) m.block t e.era asked in omega arith) in (
        g.did.1.1,
        inl (record {
          place = m.at;
          block = m.block;
          at = h.head;
          some = (h.some.0, g.grows.counts (Counter (spot.Tail s c) h.some.0) refl h.some.1, h.some.2);
          spent = g.did.1.0 ∙ ap (λ (x : Memo). own_word x.own (spot.Era c c)) h.left;
          untouched = untouched_core c (slot_memo c s m.at m.block r0) rs r h.left g.did.0;
          none = ap (λ (x : List Event). x ++ ds) h.none ∙ g.did.2;
          bound = within_more 3 1 tr t h.bound one;
        }),
      )

  -- the head is stored: the item is taken, or the block is to be torn down
  stored : (z : Bool) → IsOut m.me s m.at m.block z r0 rs tr es → (w : (core r ≡ core (head_stored rs (spot.QueueHead s c) s (own_word rs.own (spot.QueueHead s c) + 1))) × (ds ≡ []) × IsWithin 1 t)
      → Outcome (if z then None else Some (Ok tt)) (TakeKnows (record m { point = Tear }) Tear r0 r (tr ++ t) (es ++ ds)) (TakeLeaves (taking m.me s) r0 r (tr ++ t) (es ++ ds))
  stored true h (left, quiet, one) =
      let lost = lost_stored c s m.at m.block true r0 rs r h.lost left in
      record {
        may = h.may;
        head = h.head;
        counted = h.counted;
        known = h.known;
        lost = lost;
        held = held;
        can = record {
          geometry = h.may.geometry;
          who = h.may.who;
          here = here_same rs r (ap (λ (x : Memo). x.status) left) h.here;
          idle = lost.took.op;
          inside = h.inside;
          room = h.room;
          dying = subst (λ (xs : List ℕ). Contains xs m.block) (sym lost.dying) (Contains-push r0.dying m.block);
        };
        told = ap (λ (x : List Event). x ++ ds) h.told ∙ ap (λ (x : List Event). event.Down c (spot.Slot s c (m.at % 8)) m.block ∷ x) quiet;
        bound = (let n = within_more (10 + redo_steps m.me.geometry.wide) 1 tr t h.bound one in omega arith);
      }
  stored false h (left, quiet, one) =
      let lost = lost_stored c s m.at m.block false r0 rs r h.lost left in
      let told : es ++ ds ≡ event.Down c (spot.Slot s c (m.at % 8)) m.block ∷ [] = ap (λ (x : List Event). x ++ ds) h.told ∙ ap (λ (x : List Event). event.Down c (spot.Slot s c (m.at % 8)) m.block ∷ x) quiet in
      let bound = within_more (10 + redo_steps m.me.geometry.wide) 1 tr t h.bound one in
      let low = h.inside.0 in
      record {
        place = m.at;
        block = m.block;
        some = λ e. absurd (omega arith);
        known = h.known;
        received = received_of c s m.at m.block r0 r h.may.none h.head lost.took;
        dying = lost.dying ∙ append-nil r0.dying;
        events = record { after = []; told = told; walks = inl refl };
        bound = omega arith;
      }

  -- the block was torn down
  torn : (a : Result (Unit {0}) ASpent) → IsReceived m.me s m.at m.block r0 rs tr es → TearLeaves m.me m.block rs r ds t a → Leads Tear (Second (Second a))
  torn a h left = go a left
    where
      told : es ++ ds ≡ event.Down c (spot.Slot s c (m.at % 8)) m.block ∷ ds
      told = ap (λ (x : List Event). x ++ ds) h.told

      same_frees : frees (es ++ ds) ≡ frees ds
      same_frees = ap frees told ∙ omega arith

      go : (a : Result (Unit {0}) ASpent) → TearLeaves m.me m.block rs r ds t a → Leads Tear (Second (Second a))
      go (Ok done) y =
          let lost = torn_leaves m.me spot.Spare false m.block 0 (taken_memo c s m.at m.block r0) rs r h.may.who h.held h.lost h.counted ds t (Ok tt) y in
          let f = ap (tear_steps m.me.geometry.wide) same_frees in
          let low = h.can.inside.0 in
          let bound = within_more (11 + redo_steps m.me.geometry.wide) (tear_steps m.me.geometry.wide (frees ds)) tr t h.bound y.bound in
          record {
            place = m.at;
            block = m.block;
            some = λ e. absurd (omega arith);
            known = h.known;
            received = received_of c s m.at m.block r0 r h.may.none h.head lost.took;
            dying = lost.dying ∙ append-nil r0.dying;
            events = record { after = ds; told = told; walks = inr y.walks };
            bound = omega arith;
          }
      go (Err e) y =
          let lost = torn_leaves m.me spot.Spare false m.block 0 (taken_memo c s m.at m.block r0) rs r h.may.who h.held h.lost h.counted ds t (Err e) y in
          let f = ap (λ n. tear_steps m.me.geometry.wide (n + length y.0)) same_frees in
          let low = h.can.inside.0 in
          let bound = within_more (11 + redo_steps m.me.geometry.wide) (tear_steps m.me.geometry.wide (frees ds + length y.0)) tr t h.bound y.1.bound in (
            y.1.last,
            inr (record {
              place = m.at;
              block = m.block;
              some = λ z. absurd (omega arith);
              known = h.known;
              received = received_of c s m.at m.block r0 r h.may.none h.head lost.0;
              after = ds;
              told = told;
              left = y.0;
              walks = y.1.walks;
              stopped = record { left = y.1.left; others = y.1.others ∙ (ap (filter (not_block m.block)) h.lost.dying ∙ without_new m.block r0.dying h.counted); spent = y.1.last };
              most = let u = y.1.spent in omega arith;
              bound = omega arith;
            }),
          )

pub take_laws : PlanLaws take_parts take_plan
take_laws =
    record {
      stays = λ m. stays m m.point;
      calls = λ m. calls m m.point;
      parts = λ m. let first = is_head m.point in let p = spot.Slot m.from m.me.who (m.at % 8) in
          grown_laws first take_parts (or_part (word_part first m.me (take_ask m m.point) (TakeFound m m.point)) (or_part (lower_part p) tear_part))
          (or_part_laws first word_control (or_control down_control tear_control) (word_part first m.me (take_ask m m.point) (TakeFound m m.point)) (or_part (lower_part p) tear_part) (word_part_laws first m.me (take_ask m m.point) (TakeFound m m.point))
          (or_part_laws first down_control tear_control (lower_part p) tear_part (lower_laws p first) (tear_part_laws first)));
      opens = λ m. opens m m.point;
      leads = λ m r0 rs r tr t es ds a h g held agent. leads m m.point r0 rs r tr t es ds a h g held;
    }
  where
    -- each call leads on
    leads : (m : TakeState) (y : TakePoint) (r0 rs r : Memo) (tr t : Trail) (es ds : List Event) (a : TakeAnswer) → TakeKnows (record m { point = y }) y r0 rs tr es → (take_part m y).leaves (take_call_at m y) rs r t ds a → IsHeld m.me r
        → Follows take_parts take_plan (record m { point = y }) a r0 r (tr ++ t) (es ++ ds)
    leads m Head r0 rs r tr t es ds (First n) (may, same, none, quiet) (w, grows) held = head_read m.me m.from r0 rs r tr t es ds (record { me = m.me; ask = take_ask m Head; over = false }) n may same none quiet w grows
    leads m Tail r0 rs r tr t es ds (First n) h (w, grows) held = looked m r0 rs r tr t es ds held n h w grows
    leads m Slot r0 rs r tr t es ds (First n) h (w, grows) held = found m r0 rs r tr t es ds held n h w grows
    leads m Lower r0 rs r tr t es ds (Second (First (Ok z))) h ((g, asked), grows) held = lowered m r0 rs r tr t es ds held z h g
    leads m Lower r0 rs r tr t es ds (Second (First (Err e))) h ((g, asked), grows) held = unlowered m r0 rs r tr t es ds held e h g asked
    leads m Store r0 rs r tr t es ds (First n) h (w, grows) held = let one : IsWithin 1 t = (let o = w.one in omega arith) in stored m r0 rs r tr t es ds held m.last h (w.found.left, w.none, one)
    leads m Tear r0 rs r tr t es ds (Second (Second a)) h (g, grows) held = torn m r0 rs r tr t es ds held a h g
    leads m Head r0 rs r tr t es ds (Second a) h g held = absurd g.0
    leads m Tail r0 rs r tr t es ds (Second a) h g held = absurd g.0
    leads m Slot r0 rs r tr t es ds (Second a) h g held = absurd g.0
    leads m Store r0 rs r tr t es ds (Second a) h g held = absurd g.0
    leads m Lower r0 rs r tr t es ds (First n) h g held = absurd g.0
    leads m Tear r0 rs r tr t es ds (First n) h g held = absurd g.0
    leads m Lower r0 rs r tr t es ds (Second (Second a)) h g held = absurd g.0
    leads m Tear r0 rs r tr t es ds (Second (First a)) h g held = absurd g.0
