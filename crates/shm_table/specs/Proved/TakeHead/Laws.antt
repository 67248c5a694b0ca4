-- what is owed of taking an item that is known
use Rattle.std.proofs.Common.{◌≡◌, ◌≢◌, ℕ, ◌+◌, ◌%◌, ◌^◌, ◌<◌, ◌≤◌, refl, sym, ap, ◌∙◌, subst, arith, Bool, true, false, cond, append-nil, List, [], ◌∷◌, ◌++◌, inl}
use Rattle.std.proofs.{Math.Nat.mod-eq_of_lt, lemmas.{Bool.{eq-eqb, false≢true}, List.Elements.Contains-push}}
use Rattle.std.specs.{Prelude.{Result, Ok, Err, slice_index}, List.{Contains, filter}}
use Rattle.shm_graph.specs.declared.{ask.Me.Me, memo.{Memo.Memo, Stored.Stored}, spot.Spot.Spot, table.Part.Part}
use Rattle.shm_graph.specs.{Asks.{Trail, IsWithin}, Core.core, Events.Event, Idle.IsIdle, Reach.is_named}
use Rattle.shm_graph.specs.{Spots.same_spot, MemoAfterStore.{head_stored, lane_with, other_than, put}, Views.own_word}
use Rattle.shm_graph.specs.Bounds.{redo_steps}
use Rattle.shm_graph.specs.declared.ask.Ask.TheVariants as ask
use Rattle.shm_graph.specs.declared.spot.Spot.TheVariants as spot
use Rattle.shm_graph.specs.Events as event
use Rattle.kind_laws.proofs.Lists.{Contains-filter, filter_from}
use Rattle.plans.specs.{declared.or.Or.TheVariants.{First, Second}, Proved.{CallTells.within_more, Either.or_part_laws}}
use Rattle.plans.specs.{Parts.IsHeld, Plans.{PlanLaws, PlanStays, IsCall, Follows}}
use Rattle.plans.specs.Words.{word_control, word_part, word_part_laws, IsWord, WordLeaves}
use Rattle.kind_parts.specs.{Reparting.{sight, IsValue}, WordParts.HeadStored}
use Rattle.kind_parts.proofs.{Cores.here_same, Words.Queues.head_store}
use Rattle.shm_count.specs.{declared.answer.EraSpent.EraSpent, Proved.Retaining.{held_counted, slot_known}}
use Rattle.shm_count.specs.{Proved.Slots.Parts.era_room, Roots.{rest, root_word}, Slots.{Lost, StepLeft}}
use Rattle.shm_count.specs.{Slots.Parts.{down_slot_laws, down_slot_part}, Step.Machines.{down_control, down_told}}
use Rattle.shm_count.specs.{Lasting.is_lasting, Tear.Memos.is_slot_word}
use Rattle.shm_count.specs.declared.answer.UpFault.TheVariants as up
use Rattle.shm_count.specs.declared.point.Aim.TheVariants as aims
use Rattle.shm_queue.specs.Proved.QueueSteps.{put_here, same_part as queue_part, take_may}
use Rattle.shm_queue.specs.Proved.QueueWords.{head_small, item_inside}
use Rattle.shm_table.specs.declared.take_head.TakeHeadPoint.{TakeHeadPoint, TheVariants.{Lower, Store}}
use Rattle.shm_table.specs.{declared.take_head.TakeHeadState.TakeHeadState, Staying.{Keeps, Laws.KeepsRest}}
use Rattle.shm_table.specs.Proved.{Staying.Laws.{keeps_rest, raised_cause, root_named}, ValuesListed.idle_here}
use Rattle.shm_table.specs.TakeHead.Control.{TakeHeadAnswer, head_at, is_lower, take_head_ask, take_head_call, take_head_parts, taking_head}
use Rattle.shm_table.specs.TakeHead.{IsLowered, MayTakeHead, TakeHeadKnows, passed_memo, take_head_part, take_head_plan}

-- ---- the item is received

-- the slot was emptied, and the head is stored: all is kept but the item
module _ (c s n b : ℕ) (m q r : Memo) (idle : IsIdle c m) (lost : Lost c (spot.Slot s c (n % 8)) true b 0 false m q) (left : core r ≡ core (head_stored q (spot.QueueHead s c) s (own_word q.own (spot.QueueHead s c) + 1))) where
  abbrev p : Spot
  p = spot.Slot s c (n % 8)

  abbrev head : Spot
  head = spot.QueueHead s c

  abbrev passed : Memo
  passed = passed_memo c s n b m

  part_same : q.part ≡ m.part
  part_same = ap (λ (x : Memo). x.part) lost.took.rest ∙ queue_part c (sight c m) s c (n % 8) 0

  rest_passed : rest r ≡ rest (record passed { latch = m.latch; part = m.part })
  rest_passed =
      ap rest left
      ∙ (ap (λ (y : Memo). record y { received = lane_with y.received s (slice_index y.untaken s); untaken = put 0 y.untaken s 0 }) lost.took.rest
      ∙ ap (λ (t : Part). rest (record passed { part = t })) (queue_part c (sight c m) s c (n % 8) 0))

  own_passed : (u : Spot) → is_lasting c u ≡ true → own_word r.own u ≡ own_word passed.own u
  own_passed u l =
      ap (λ (x : Memo). own_word x.own u) left
      ∙ (ap (λ y. cond (same_spot head u) (y + 1) (own_word q.own u)) (lost.took.own head refl)
      ∙ ap (λ y. cond (same_spot head u) (own_word m.own head + 1) y) (lost.took.own u l))

  value_passed : (k v x : ℕ) → k < 16 → v ≢ 0 → root_word c m k ≡ v → IsValue (sight c passed) v x → IsValue (sight c r) v x
  value_passed k v x low some root a =
      let named : is_named c q v ≡ true = root_named c q v k low lost.took.op (lost.took.own (spot.Root c k) refl ∙ root) some in
      record {
        value = subst (λ (vs : List ℕ). Contains vs v) (sym (ap (λ (y : Memo). y.values) left)) (lost.took.sifts.values v named a.value);
        word = subst (λ (ks : List Stored). Contains ks (record { spot = spot.Body v 0; value = x })) (sym (ap (λ (y : Memo). y.known) left)) (lost.took.sifts.words v (spot.Body v 0) x named (λ e. absurd (false≢true e)) (eq-eqb v v refl) a.word);
      }

  pub keeps_passed : Keeps c passed r
  keeps_passed =
      keeps_rest c passed r m.latch m.part (record { live = idle.live; op = idle.op; making = idle.making; hold = idle.hold }) rest_passed (ap (λ (x : Memo). x.op) left ∙ lost.took.op) (own_passed (spot.Hold c) refl ∙ idle.hold) refl
      (λ u l z. own_passed u l)
      (subst (λ y. own_word m.own (spot.Era c c) ≤ y) (sym (ap (λ (x : Memo). own_word x.own (spot.Era c c)) left)) (lost.took.rows c))
      (λ j. inl (own_passed (spot.Root c j) refl))
      (λ u x z k. slot_known passed r u x (ap (λ (y : Memo). filter is_slot_word y.known) left ∙ lost.took.sifts.slots) z k)
      value_passed

  pub rests_passed : KeepsRest c m r
  rests_passed =
      record {
        latch = ap (λ (x : Memo). x.latch) rest_passed;
        home = own_passed (spot.Home c) refl;
        part = ap (λ (x : Memo). x.part) rest_passed;
        cleared = record { roots = λ j. own_passed (spot.Root c j) refl; dying = ap (λ (x : Memo). x.dying) left ∙ (lost.dying ∙ append-nil m.dying) };
      }

-- what was kept before the item is received is kept beside it
pub keeps_beside : (c s n b : ℕ) (m q : Memo) → Keeps c m q → Keeps c (passed_memo c s n b m) (passed_memo c s n b q)
keeps_beside c s n b m q k =
    let p : Spot = spot.Slot s c (n % 8) in
    let head : Spot = spot.QueueHead s c in
    record {
      idle = record { live = k.idle.live; op = k.idle.op; making = k.idle.making; hold = k.idle.hold };
      sent = k.sent;
      received = ap (λ (xs : List (List ℕ)). lane_with xs s (slice_index (put 0 q.untaken s b) s)) k.received ∙ ap (λ (us : List ℕ). lane_with m.received s (slice_index (put 0 us s b) s)) k.untaken;
      unsent = k.unsent;
      untaken = ap (λ (us : List ℕ). put 0 (put 0 us s b) s 0) k.untaken;
      loose = k.loose;
      own = λ u l z. ap (λ y. cond (same_spot head u) (y + 1) (own_word q.own u)) (k.own head refl refl) ∙ ap (λ y. cond (same_spot head u) (own_word m.own head + 1) y) (k.own u l z);
      era = k.era;
      roots = k.roots;
      slots = λ u x z h. let y = filter_from (λ (w : Stored). other_than p w.spot) m.known (record { spot = u; value = x }) h in Contains-filter (λ (w : Stored). other_than p w.spot) q.known (record { spot = u; value = x }) (k.slots u x z y.0) y.1;
      values = λ j v x l some root a.
          let known = (filter_from (λ (w : Stored). other_than p w.spot) m.known (record { spot = spot.Body v 0; value = x }) a.word).0 in
          let is : IsValue (sight c q) v x = k.values j v x l some root (record { value = a.value; word = known }) in
          record { value = is.value; word = Contains-filter (λ (w : Stored). other_than p w.spot) q.known (record { spot = spot.Body v 0; value = x }) is.word refl };
    }

-- ---- the plan

stays : (m : TakeHeadState) (y : TakeHeadPoint) (b : TakeHeadAnswer) → PlanStays take_head_parts take_head_plan (record m { point = y }) b
stays m y (First n) = record { same_me = refl; same_line = refl; same_start = refl; started = λ e. absurd (cc) }
stays m y (Second (Ok z)) = record { same_me = refl; same_line = refl; same_start = refl; started = λ e. refl }
stays m y (Second (Err e)) = record { same_me = refl; same_line = refl; same_start = refl; started = λ e. absurd (cc) }

calls : (m : TakeHeadState) (y : TakeHeadPoint) → IsCall take_head_parts take_head_plan (record m { point = y })
calls m Lower = record { me = refl; asks = refl }
calls m Store = record { me = refl; asks = refl }

-- the head that is stored is the next one
store_word : (m : TakeHeadState) (r0 r : Memo) (tr : Trail) (es : List Event) → IsLowered m.me m.from m.at m.block r0 r tr es → IsWord false m.me (take_head_ask m) (HeadStored m.me.who m.from) (record { me = m.me; ask = take_head_ask m; over = false }) r
store_word m r0 r tr es h =
    let may = h.may in
    let c = m.me.who in
    let took = h.lost.took in
    let next : own_word r.own (spot.QueueHead m.from c) + 1 ≡ (m.at + 1) % 2 ^ 64 = ap (λ y. y + 1) (took.own (spot.QueueHead m.from c) refl ∙ sym may.place) ∙ sym (mod-eq_of_lt h.small) in
    let waits : slice_index r.untaken m.from ≡ m.block = ap (λ (x : Memo). slice_index x.untaken m.from) took.rest ∙ put_here r0.untaken m.from m.block in
    subst (λ v. IsWord false m.me (ask.Store (head_at m) v) (HeadStored c m.from) (record { me = m.me; ask = ask.Store (head_at m) v; over = false }) r) next
    (head_store false m.me r may.who refl m.from (record { here = h.here; from = may.from; other = may.other; idle = took.op; some = λ z. may.some (sym waits ∙ z) }))

opens : (m : TakeHeadState) (y : TakeHeadPoint) (r0 r : Memo) (tr : Trail) (es : List Event) → TakeHeadKnows (record m { point = y }) y r0 r tr es → (take_head_part m y).needs (take_head_call m y) r
opens m Lower r0 r tr es (may0, same, none, quiet) =
    let may = subst (MayTakeHead m.me m.from m.at m.block) (sym same) may0 in (
      refl,
      take_may m.me m.from (m.at % 8) m.block r
          (record {
            geometry = may.geometry;
            who = may.who;
            here = idle_here m.me.who r may.idle;
            idle = may.idle.op;
            from = may.from;
            other = may.other;
            low = omega arith;
            known = may.known;
            inside = (item_inside m.me may.who m.from (m.at % 8) m.block r may.holds may.idle.op may.known).0;
            era = era_room m.me r may.holds may.who may.idle.op;
          }),
    )
opens m Store r0 r tr es h = store_word m r0 r tr es h

module _ (m : TakeHeadState) (r0 rs r : Memo) (tr t : Trail) (es ds : List Event) (held : IsHeld m.me r) where
  abbrev c : ℕ
  c = m.me.who

  abbrev s : ℕ
  s = m.from

  abbrev slot : Spot
  slot = spot.Slot s c (m.at % 8)

  -- what is known before the next call, or what is left
  abbrev Goes : TakeHeadPoint → TakeHeadAnswer → Type 0
  Goes y b = Follows take_head_parts take_head_plan (record m { point = y }) b r0 r (tr ++ t) (es ++ ds)

  -- a root names the item still, so that its count didn't come to 0
  not_lost : (z : Bool) → MayTakeHead m.me s m.at m.block rs → Lost c slot true m.block 0 z rs r → z ≡ false
  not_lost z may lost = go z lost.dying
    where
      named : is_named c r m.block ≡ true
      named = root_named c r m.block may.root.0 may.root.1 lost.took.op (lost.took.own (spot.Root c may.root.0) refl ∙ may.root.2) may.some

      go : (y : Bool) → r.dying ≡ rs.dying ++ cond y (m.block ∷ []) [] → y ≡ false
      go false e = refl
      go true e = absurd (held_counted m.me r held may.who m.block m.block named (subst (λ (xs : List ℕ). Contains xs m.block) (sym e) (Contains-push rs.dying m.block)) refl)

  -- the slot is empty, or nothing was done
  lowered : (a : Result Bool EraSpent) → TakeHeadKnows (record m { point = Lower }) Lower r0 rs tr es → StepLeft m.me (aims.Down m.block) slot true rs r t ds (down_told a) → Goes Lower (Second a)
  lowered a (may0, same, none, quiet) g =
      subst (λ (x : Memo). Follows take_head_parts take_head_plan (record m { point = Lower }) (Second a) x r (tr ++ t) (es ++ ds)) same
      (subst (λ (u : Trail). Follows take_head_parts take_head_plan (record m { point = Lower }) (Second a) rs r (u ++ t) (es ++ ds)) (sym none)
      (subst (λ (u : List Event). Follows take_head_parts take_head_plan (record m { point = Lower }) (Second a) rs r t (u ++ ds)) (sym quiet)
      (go a (subst (MayTakeHead m.me s m.at m.block) (sym same) may0) g)))
    where
      go : (a : Result Bool EraSpent) → MayTakeHead m.me s m.at m.block rs → StepLeft m.me (aims.Down m.block) slot true rs r t ds (down_told a) → Follows take_head_parts take_head_plan (record m { point = Lower }) (Second a) rs r t ds
      go (Ok z) may g =
          let own : own_word r.own (spot.QueueHead s c) ≡ m.at = g.did.0.took.own (spot.QueueHead s c) refl ∙ sym may.place in
          record {
            may = may;
            small = subst (λ y. y + 1 < 2 ^ 64) own (head_small m.me may.who s r may.from may.other held);
            here = here_same rs r g.status (idle_here c rs may.idle);
            lost = subst (λ y. Lost c slot true m.block 0 y rs r) (not_lost z may g.did.0) g.did.0;
            told = g.did.1;
            bound = g.bound;
          }
      go (Err e) may g =
          let b = g.bound in
          record {
            untouched = g.did.0;
            spent = raised_cause m.me (aims.Down m.block) rs rs r (up.EraSpent e.era) g.did.0 g.did.1;
            none = g.did.2;
            bound = omega arith;
          }

  -- the head is stored
  stored : (n : ℕ) → IsLowered m.me s m.at m.block r0 rs tr es → WordLeaves (HeadStored c s) (record { me = m.me; ask = take_head_ask m; over = false }) rs r t ds n → Goes Store (First n)
  stored n h w =
      let one : IsWithin 1 t = (let o = w.one in omega arith) in
      record {
        keeps = keeps_passed c s m.at m.block r0 rs r h.may.idle h.lost w.found.left;
        rests = rests_passed c s m.at m.block r0 rs r h.may.idle h.lost w.found.left;
        told = ap (λ (x : List Event). x ++ ds) h.told ∙ ap (λ (x : List Event). event.Down c slot m.block ∷ x) w.none;
        bound = (let n = within_more (7 + redo_steps m.me.geometry.wide) 1 tr t h.bound one in omega arith);
      }

leads : (m : TakeHeadState) (y : TakeHeadPoint) (r0 rs r : Memo) (tr t : Trail) (es ds : List Event) (b : TakeHeadAnswer) → IsHeld m.me r → TakeHeadKnows (record m { point = y }) y r0 rs tr es
    → (take_head_part m y).leaves (take_head_call m y) rs r t ds b → Follows take_head_parts take_head_plan (record m { point = y }) b r0 r (tr ++ t) (es ++ ds)
leads m Lower r0 rs r tr t es ds (Second a) held h g = lowered m r0 rs r tr t es ds held a h g
leads m Store r0 rs r tr t es ds (First n) held h w = stored m r0 rs r tr t es ds held n h w
leads m _ r0 rs r tr t es ds _ held h g = absurd g

-- what is known before the first call
pub take_head_begin : (me : Me) (s n b : ℕ) (r : Memo) → MayTakeHead me s n b r → TakeHeadKnows (taking_head me s n b) Lower r r [] []
take_head_begin me s n b r may = (may, refl, refl, refl)

pub take_head_laws : PlanLaws take_head_parts take_head_plan
take_head_laws =
    record {
      stays = λ m b. stays m m.point b;
      calls = λ m. calls m m.point;
      parts = λ m. let first = is_lower m.point in let p = spot.Slot m.from m.me.who (m.at % 8) in
          or_part_laws first word_control down_control (word_part first m.me (take_head_ask m) (HeadStored m.me.who m.from)) (down_slot_part p true) (word_part_laws first m.me (take_head_ask m) (HeadStored m.me.who m.from)) (down_slot_laws p true first);
      opens = λ m. opens m m.point;
      leads = λ m r0 rs r tr t es ds b h g held agent. leads m m.point r0 rs r tr t es ds b held h g;
    }
