-- what is owed of blocks that are taken back: each call leads on, to the next one or to what is left
use Rattle.std.proofs.Common.{◌≡◌, ◌≢◌, ℕ, ◌+◌, ◌*◌, ◌-◌, ◌%◌, ◌<◌, ◌≤◌, ◌⊎◌, refl, sym, ap, ◌∙◌, subst, arith, Bool, true, false, ◌&&◌, List, [], ◌∷◌, ◌++◌, append_assoc, append-nil, length, inl, inr}
use Rattle.std.proofs.lemmas.Bool.{cases_eq, cases_lt, eq-eqb, eqb-false, eqb-true, ltb-false, ltb-true, ne_eqb}
use Rattle.std.proofs.lemmas.List.Elements.{All-nil}
use Rattle.std.specs.Prelude.{◌==◌, nat_lt, if◌then◌else◌, Option, Some, None, Result, Ok, Err, slice_index}
use Rattle.std.specs.List.{Contains, filter}
use Rattle.shm_words.proofs.Placing.{total_small}
use Rattle.shm_words.specs.Layout.{total_of, address_limit}
use Rattle.shm_recover.specs.Proved.Costs.{backs_more, backs_most, redo_some}
use Rattle.shm_recover.specs.Proved.Others.{before_last, before_next, none_before, other_low, other_not, rises}
use Rattle.shm_recover.specs.Proved.TakeBack.Memos.{back_took, back_untouched, more_events, nothing_unsent, out_here, out_there, taken_core, waited_events}
use Rattle.shm_recover.specs.{Proved.TakeBack.Words.back_may, declared.take_back.BackPoint.BackPoint}
use Rattle.shm_recover.specs.declared.take_back.BackPoint.TheVariants.{Tail, Head, Slot, Lower, Tear}
use Rattle.shm_recover.specs.{declared.take_back.BackState.BackState, Others.{MayServe, other_at}}
use Rattle.shm_recover.specs.TakeBack.Control.{BackAnswer, back_ask, back_call_at, back_parts, is_first, is_last, passed, passed_answer, to_of, back_steered}
use Rattle.shm_recover.specs.TakeBack.Words.{HeadShown, head_show, unsent_block}
use Rattle.shm_recover.specs.TakeBack.{Back, BackEvents, BackFound, BackKnows, BackLeaves, BacksEvents, IsBacking, IsOut, TakenBack, back_part, back_plan}
use Rattle.shm_ref.specs.Proved.{Costs.tear_sum, Leaving.{all_outside, frees-append}}
use Rattle.shm_graph.specs.{Bounds.{down_steps, redo_steps, tear_steps}, declared.{ask.Me.Me, memo.Memo.Memo}}
use Rattle.shm_graph.specs.{declared.memo.Op.TheVariants.Nothing, Asks.{Trail, IsWithin}, Core.core, Events.Event}
use Rattle.shm_graph.specs.{Laws.Outcome, MemoAfterStore.not_block, Views.own_word}
use Rattle.shm_graph.specs.declared.spot.Spot.TheVariants as spot
use Rattle.shm_graph.specs.Events as event
use Rattle.kind_parts.specs.WordParts.{TailSlotLoaded}
use Rattle.kind_parts.proofs.{Cores.here_same, Words.{Own.tail_load, Queues.tail_slot_load}}
use Rattle.plans.specs.{declared.or.Or.TheVariants.{First, Second}, Proved.{CallTells.within_more, Either.or_part_laws}}
use Rattle.plans.specs.{Either.{or_control, or_part}, Parts.IsHeld, Plans.{PlanLaws, PlanStays, IsCall, Follows}}
use Rattle.plans.specs.Words.{word_control, word_part, word_part_laws, WordLeaves}
use Rattle.shm_count.specs.{declared.answer.EraSpent.EraSpent, CountParts.tear_part, Proved.CountParts.tear_part_laws}
use Rattle.shm_count.specs.Proved.{Lowering.{dies, torn_leaves, without_new}, Slots.Parts.era_room}
use Rattle.shm_count.specs.{Slots.{Lost, StepLeft, Parts.{down_slot_laws, down_slot_part}}, Step.Control.IsInside}
use Rattle.shm_count.specs.{Step.Machines.{down_control, down_told}, Tear.Control.tear_control}
use Rattle.shm_count.specs.Tear.{Events.{Visit, Walks, frees}, TearLeaves}
use Rattle.shm_count.specs.declared.point.Aim.TheVariants as aims

-- ---- the control

-- what both states after a queue are alike in
passed_same : (m : BackState) {T : Type 0} (f : BackState → T) → f (record m { passed = m.passed + 1; point = Tail }) ≡ f m → (q : Bool) → f (if q then m else record m { passed = m.passed + 1; point = Tail }) ≡ f m
passed_same m f e true = refl
passed_same m f e false = e

-- where it goes on it is at a later queue
passed_later : (m : BackState) (q : Bool) → ◌≡◌ {A = Option (Result (Unit {0}) EraSpent)} (if q then Some (Ok tt) else None) None → is_first (if q then m else record m { passed = m.passed + 1; point = Tail }) ≡ false
passed_later m true e = absurd (cc)
passed_later m false e = ap (λ (z : Bool). z && true) (ne_eqb (m.passed + 1) 0 (λ z. absurd (omega arith)))

pass_stays : (m : BackState) → (back_steered.me (passed m) ≡ m.me) × (back_steered.start (passed m) ≡ back_steered.start m) × (passed_answer m ≡ None → is_first (passed m) ≡ false)
pass_stays m = (passed_same m (λ (x : BackState). x.me) refl (is_last m), passed_same m back_steered.start refl (is_last m), passed_later m (is_last m))

-- a state that isn't at a tail has begun
begun : (k : ℕ) → ((k == 0) && false) ≡ false
begun k = go (k == 0)
  where
    go : (q : Bool) → (q && false) ≡ false
    go true = refl
    go false = refl

-- what is owed of a state that goes on, and of one that passes the queue
abbrev Stays : BackState → BackState → Option (Result (Unit {0}) EraSpent) → Type 0
Stays m y o = (back_steered.me y ≡ m.me) × (back_steered.start y ≡ back_steered.start m) × (o ≡ None → is_first y ≡ false)

stays_head : (m : BackState) (q : Bool) → Stays m (if q then record m { point = Slot } else passed m) (if q then None else passed_answer m)
stays_head m true = (refl, refl, λ e. begun m.passed)
stays_head m false = pass_stays m

stays_slot : (m : BackState) (b : ℕ) (q : Bool) → Stays m (if q then passed m else record m { block = b; point = Lower }) (if q then passed_answer m else None)
stays_slot m b true = pass_stays m
stays_slot m b false = (refl, refl, λ e. begun m.passed)

calls : (m : BackState) (y : BackPoint) → IsCall back_parts back_plan (record m { point = y })
calls m Tail = record { me = refl; asks = refl }
calls m Head = record { me = refl; asks = refl }
calls m Slot = record { me = refl; asks = refl }
calls m Lower = record { me = refl; asks = refl }
calls m Tear = record { me = refl; asks = refl }

-- ---- what the calls need

idle_now : (me : Me) (p k : ℕ) (r0 r : Memo) (tr : Trail) (es : List Event) → IsBacking me p k r0 r tr es → r.op ≡ Nothing
idle_now me p k r0 r tr es h = h.taken.back.op

opens : (m : BackState) (y : BackPoint) (r0 r : Memo) (tr : Trail) (es : List Event) → BackKnows m y r0 r tr es → (back_part m y).needs (back_call_at m y) r
opens m Tail r0 r tr es h =
    let l = h.may.may.who in
    tail_load (is_first (record m { point = Tail })) m.me r l m.me.who (to_of m) l (other_low m.me.who m.passed m.me.geometry.clients l h.low)
opens m Head r0 r tr es h =
    let l = h.0.may.may.who in
    head_show m.me l (to_of m) (other_low m.me.who m.passed m.me.geometry.clients l h.0.low) (other_not m.me.who m.passed) (is_first (record m { point = Head })) r
opens m Slot r0 r tr es h = tail_slot_load (is_first (record m { point = Slot })) m.me r h.0.may.may.who (to_of m) (m.at % 8) h.2
opens m Lower r0 r tr es h = (refl, back_may m.me h.0.may.may.geometry h.0.may.may.who (to_of m) (m.at % 8) m.block r h.2)
opens m Tear r0 r tr es h = record { made = refl; can = h.can }

-- ---- where they lead

-- one word step more that leaves the memo
one_more : (me : Me) (p k : ℕ) (r0 rs r : Memo) (tr t : Trail) (es ds : List Event) → IsBacking me p k r0 rs tr es → core r ≡ core rs → ds ≡ [] → length t ≡ 1 → IsBacking me p (k + 1) r0 r (tr ++ t) (es ++ ds)
one_more me p k r0 rs r tr t es ds h same quiet one =
    let b = within_more ((10 + redo_steps me.geometry.wide) * p + k + tear_steps me.geometry.wide (frees es)) 1 tr t h.bound (omega arith) in
    let still : es ++ ds ≡ es = ap (λ (x : List Event). es ++ x) quiet ∙ append-nil es in
    let f = ap (λ (x : List Event). tear_steps me.geometry.wide (frees x)) still in
    record {
      may = h.may;
      low = h.low;
      taken = taken_core me.who (other_at me.who p) r0 rs r same h.taken;
      dying = ap (λ (x : Memo). x.dying) same ∙ h.dying;
      events = subst (BacksEvents me.who r0 p) (sym still) h.events;
      bound = omega arith;
    }

-- a queue is done
module _ (m : BackState) (r0 r : Memo) (tr : Trail) (es : List Event) (held : IsHeld m.me r) (may : MayServe m.me r0) (low : m.passed + 1 < m.me.geometry.clients) (back : Back m.me.who r0 r) (before : (j : ℕ) → (j < to_of m) ⊎ (j ≡ to_of m) → j ≢ m.me.who → slice_index r.unsent j ≡ 0) (after : (j : ℕ) → (to_of m < j) ⊎ (j ≡ m.me.who) → slice_index r.unsent j ≡ slice_index r0.unsent j) (dying : r.dying ≡ r0.dying) (events : BacksEvents m.me.who r0 (m.passed + 1) es) (bound : IsWithin ((10 + redo_steps m.me.geometry.wide) * m.passed + (10 + redo_steps m.me.geometry.wide) + tear_steps m.me.geometry.wide (frees es)) tr) where
  -- each queue is, where it was the last one
  all_done : m.passed + 2 ≡ m.me.geometry.clients → (j : ℕ) → slice_index r.unsent j ≡ 0
  all_done last j = elim (cases_eq j m.me.who) [
    | inl e ↦ nothing_unsent m.me may.may.who j r held (inl e)
    | inr other ↦ elim (cases_lt j m.me.geometry.clients) [
      | inl l ↦ before j (before_last m.me.who m.passed m.me.geometry.clients j may.may.who last l other) other
      | inr far ↦ nothing_unsent m.me may.may.who j r held (inr far)
    ]
  ]

  next_queue : m.passed + 2 ≢ m.me.geometry.clients → IsBacking m.me (m.passed + 1) 0 r0 r tr es
  next_queue more =
      record {
        may = may;
        low = omega arith;
        taken = record {
          back = back;
          before = λ j l o. before j (before_next m.me.who m.passed j l o) o;
          after = λ j o. elim o [ inl l ↦ after j (inl (let u = rises m.me.who m.passed in omega arith)) | inr e ↦ after j (inr e) ];
        };
        dying = dying;
        events = events;
        bound = (let y = backs_more m.me.geometry.wide m.passed in omega arith);
      }

  went : Outcome (passed_answer m) (BackKnows (passed m) (passed m).point r0 r tr es) (BackLeaves (back_steered.start m) r0 r tr es)
  went = go (is_last m) (eqb-true (m.passed + 2) m.me.geometry.clients) (eqb-false (m.passed + 2) m.me.geometry.clients)
    where
      go : (q : Bool) → (q ≡ true → m.passed + 2 ≡ m.me.geometry.clients) → (q ≡ false → m.passed + 2 ≢ m.me.geometry.clients)
          → let x : BackState = if q then m else record m { passed = m.passed + 1; point = Tail } in Outcome {A = Result (Unit {0}) EraSpent} (if q then Some (Ok tt) else None) (BackKnows x x.point r0 r tr es) (BackLeaves (back_steered.start m) r0 r tr es)
      go true last more =
          let e = last refl in
          let p : m.passed + 1 ≡ m.me.geometry.clients - 1 = omega arith in
          record { back = back; none = all_done e; dying = dying; events = subst (λ j. BacksEvents m.me.who r0 j es) p events; bound = subst (λ j. IsWithin ((10 + redo_steps m.me.geometry.wide) * j + tear_steps m.me.geometry.wide (frees es)) tr) p (let y = backs_more m.me.geometry.wide m.passed in omega arith) }
      go false last more = next_queue (more refl)

module _ (m : BackState) (r0 rs r : Memo) (tr t : Trail) (es ds : List Event) (held : IsHeld m.me r) where
  abbrev c : ℕ
  c = m.me.who

  abbrev i : ℕ
  i = to_of m

  abbrev Next : Option (Result (Unit {0}) EraSpent) → BackState → Type 0
  Next o x = Outcome o (BackKnows x x.point r0 r (tr ++ t) (es ++ ds)) (BackLeaves (back_steered.start m) r0 r (tr ++ t) (es ++ ds))

  -- nothing waits in the queue
  pass_plain : (k : ℕ) → IsBacking m.me m.passed k r0 rs tr es → k ≤ 10 → core r ≡ core rs → ds ≡ [] → length t ≡ 1 → slice_index r.unsent i ≡ 0 → Next (passed_answer m) (passed m)
  pass_plain k h most same quiet one none =
      let x = one_more m.me m.passed k r0 rs r tr t es ds h same quiet one in
      let f = x.taken in
      let bound = x.bound in
      let here : slice_index r0.unsent i ≡ 0 = sym (f.after i (inl (omega arith))) ∙ none in
      went m r0 r (tr ++ t) (es ++ ds) held h.may h.low f.back
      (λ j b o. elim b [ inl l ↦ f.before j l o | inr e ↦ subst (λ y. slice_index r.unsent y ≡ 0) (sym e) none ])
      (λ j o. elim o [ inl l ↦ f.after j (inl (omega arith)) | inr e ↦ f.after j (inr e) ])
      x.dying
      (more_events c r0 m.passed es ds h.events (subst (λ y. BackEvents c i (own_word r0.own (spot.Tail c i) % 8) y ds) (sym here) quiet))
      (let z = redo_some m.me.geometry.wide in omega arith)

  -- the own tail was read
  tail_read : (n : ℕ) → IsBacking m.me m.passed 0 r0 rs tr es → WordLeaves (BackFound m Tail) (record { me = m.me; ask = back_ask m Tail; over = false }) rs r t ds n → BackKnows (record m { at = n; point = Head }) Head r0 r (tr ++ t) (es ++ ds)
  tail_read n h w = (one_more m.me m.passed 0 r0 rs r tr t es ds h w.found.left w.none w.one, w.found.found (eq-eqb c c refl) ∙ sym (ap (λ (x : Memo). own_word x.own (spot.Tail c i)) w.found.left))

  -- the head was
  head_read : (n : ℕ) → BackKnows m Head r0 rs tr es → WordLeaves (HeadShown c i) (record { me = m.me; ask = back_ask m Head; over = false }) rs r t ds n → Next (if nat_lt (m.at - n) 8 then None else passed_answer m) (if nat_lt (m.at - n) 8 then record m { point = Slot } else passed m)
  head_read n (h, at) w = go (nat_lt (m.at - n) 8) (ltb-true (m.at - n) 8) (ltb-false (m.at - n) 8)
    where
      here : own_word r.own (spot.Tail c i) ≡ own_word rs.own (spot.Tail c i)
      here = ap (λ (x : Memo). own_word x.own (spot.Tail c i)) w.found.left

      go : (q : Bool) → (q ≡ true → m.at - n < 8) → (q ≡ false → 8 ≤ m.at - n) → Next (if q then None else passed_answer m) (if q then record m { point = Slot } else passed m)
      go true below above =
          let l = below refl in
          let x = one_more m.me m.passed 1 r0 rs r tr t es ds h w.found.left w.none w.one in (
            x,
            at ∙ sym here,
            record {
              to = other_low c m.passed m.me.geometry.clients h.may.may.who h.low;
              other = λ e. other_not c m.passed (sym e);
              idle = x.taken.back.op;
              next = ap (λ y. y % 8) (at ∙ sym here);
              room = inr (n, w.found.read, (let e = at in let f = here in omega arith));
            },
          )
      go false below above =
          pass_plain 1 h (omega arith) w.found.left w.none w.one
          (ap (λ (x : Memo). slice_index x.unsent i) w.found.left
          ∙ elim (cases_eq (slice_index rs.unsent i) 0) [ inl e ↦ e | inr some ↦ (let l = above refl in let u = w.found.room some in let e = at in absurd (omega arith)) ])

  -- the slot was
  slot_read : (n : ℕ) → BackKnows m Slot r0 rs tr es → WordLeaves (TailSlotLoaded i) (record { me = m.me; ask = back_ask m Slot; over = false }) rs r t ds n → Next (if n % address_limit == 0 then passed_answer m else None) (if n % address_limit == 0 then passed m else record m { block = n % address_limit; point = Lower })
  slot_read n (h, at, slot) w = go (n % address_limit == 0) (eqb-true (n % address_limit) 0) (eqb-false (n % address_limit) 0)
    where
      l : c < m.me.geometry.clients
      l = h.may.may.who

      li : i < m.me.geometry.clients
      li = other_low c m.passed m.me.geometry.clients l h.low

      names : slice_index r.unsent i ≡ n
      names = ap (λ (x : Memo). slice_index x.unsent i) w.found.left ∙ sym w.found.found

      -- it has 24 bits
      small : n % address_limit ≡ n
      small = elim (cases_eq n 0) [
        | inl e ↦ omega arith
        | inr some ↦ (let b = unsent_block m.me l i li (other_not c m.passed) r held (λ z. some (sym names ∙ z)) in let u = b.inside.1 in let v = names in let total = total_small m.me.geometry h.may.may.geometry in omega arith)
      ]

      here : m.at ≡ own_word r.own (spot.Tail c i)
      here = at ∙ sym (ap (λ (x : Memo). own_word x.own (spot.Tail c i)) w.found.left)

      go : (q : Bool) → (q ≡ true → n % address_limit ≡ 0) → (q ≡ false → (n % address_limit) ≢ 0) → Next (if q then passed_answer m else None) (if q then passed m else record m { block = n % address_limit; point = Lower })
      go true empty some = pass_plain 2 h (omega arith) w.found.left w.none w.one (names ∙ (sym small ∙ empty refl))
      go false empty some =
          let x = one_more m.me m.passed 2 r0 rs r tr t es ds h w.found.left w.none w.one in
          let b = unsent_block m.me l i li (other_not c m.passed) r held (λ z. some refl (small ∙ (sym names ∙ z))) in
          let e : slice_index r.unsent i ≡ n % address_limit = names ∙ sym small in (
            x,
            here,
            record {
              here = here_same r0 r (ap (λ (y : Memo). y.status) x.taken.back.rest) h.may.may.here;
              idle = x.taken.back.op;
              to = li;
              other = other_not c m.passed;
              next = ap (λ y. y % 8) here;
              some = some refl;
              unsent = record { names = e; inside = subst (IsInside m.me) e b.inside; room = subst (λ y. y + 2 ≤ total_of m.me.geometry) e b.room; counted = λ y. b.counted (subst (Contains r.dying) (sym e) y) };
              era = era_room m.me r held l x.taken.back.op;
            },
          )

  -- the slot was emptied, and the block keeps a count or was torn down
  pass_out : (q : Memo) (before after : List Event) (b at : ℕ) → MayServe m.me r0 → m.passed + 1 < m.me.geometry.clients → TakenBack c i r0 q → q.dying ≡ r0.dying → BacksEvents c r0 m.passed before → at ≡ own_word r0.own (spot.Tail c i) → slice_index r0.unsent i ≡ b → b ≢ 0 → Lost c (spot.Slot c i (at % 8)) false b 0 false q r
      → es ++ ds ≡ before ++ after → (xs : List Event) → after ≡ event.Down c (spot.Slot c i (at % 8)) b ∷ xs → (xs ≡ []) ⊎ Walks c b xs [] → IsWithin ((10 + redo_steps m.me.geometry.wide) * m.passed + (10 + redo_steps m.me.geometry.wide) + tear_steps m.me.geometry.wide (frees (es ++ ds))) (tr ++ t) → Next (passed_answer m) (passed m)
  pass_out q before after b at may low taken dying events place names some lost told xs downs walks bound =
      went m r0 r (tr ++ t) (es ++ ds) held may low (back_took c i (at % 8) b false r0 q r lost.took taken.back)
      (λ j h o. elim h [
        | inl l ↦ out_there c i (at % 8) b false r0 q r lost.took j (λ e. absurd (omega arith)) ∙ taken.before j l o
        | inr e ↦ subst (λ y. slice_index r.unsent y ≡ 0) (sym e) (out_here c i (at % 8) b false r0 q r lost.took)
      ])
      (λ j o. elim o [
        | inl l ↦ out_there c i (at % 8) b false r0 q r lost.took j (λ e. absurd (omega arith)) ∙ taken.after j (inl (omega arith))
        | inr e ↦ out_there c i (at % 8) b false r0 q r lost.took j (λ z. other_not c m.passed (z ∙ e)) ∙ taken.after j (inr e)
      ])
      (lost.dying ∙ (append-nil q.dying ∙ dying))
      (subst (BacksEvents c r0 (m.passed + 1)) (sym told)
      (more_events c r0 m.passed before after events
      (subst (λ x. BackEvents c i (own_word r0.own (spot.Tail c i) % 8) x after) (sym names)
      (subst (λ y. BackEvents c i (y % 8) b after) place (waited_events c i (at % 8) b after xs some downs walks)))))
      bound

  -- the step down was made or refused
  lowered : (a : Result Bool EraSpent) → BackKnows m Lower r0 rs tr es → StepLeft m.me (aims.Down m.block) (spot.Slot c i (m.at % 8)) false rs r t ds (down_told a) → Follows back_parts back_plan m (Second (First a)) r0 r (tr ++ t) (es ++ ds)
  lowered (Ok true) (h, at, may) s =
      let lost = s.did.0 in
      record {
        q = rs;
        before = es;
        may = h.may;
        low = h.low;
        taken = h.taken;
        dying = h.dying;
        events = h.events;
        place = at ∙ h.taken.back.own (spot.Tail c i) refl;
        names = sym (h.taken.after i (inl (omega arith))) ∙ may.unsent.names;
        some = may.some;
        counted = may.unsent.counted;
        lost = lost;
        held = held;
        can = record {
          geometry = h.may.may.geometry;
          who = h.may.may.who;
          here = here_same rs r s.status may.here;
          idle = lost.took.op;
          inside = may.unsent.inside;
          room = may.unsent.room;
          dying = dies m.me (spot.Slot c i (m.at % 8)) false m.block 0 rs r r h.may.may.who held lost;
        };
        told = ap (λ (x : List Event). es ++ x) s.did.1;
        bound = (let b = within_more ((10 + redo_steps m.me.geometry.wide) * m.passed + 3 + tear_steps m.me.geometry.wide (frees es)) (down_steps m.me.geometry.wide) tr t h.bound s.bound in omega arith);
      }
  lowered (Ok false) (h, at, may) s =
      let b = within_more ((10 + redo_steps m.me.geometry.wide) * m.passed + 3 + tear_steps m.me.geometry.wide (frees es)) (down_steps m.me.geometry.wide) tr t h.bound s.bound in
      let f = tear_sum m.me.geometry.wide (frees (es ++ ds)) (frees es) (frees ds) (frees-append es ds) in
      pass_out rs es ds m.block m.at h.may h.low h.taken h.dying h.events (at ∙ h.taken.back.own (spot.Tail c i) refl) (sym (h.taken.after i (inl (omega arith))) ∙ may.unsent.names) may.some s.did.0 refl [] s.did.1 (inl refl) (omega arith)
  lowered (Err e) (h, at, may) s =
      let b = within_more ((10 + redo_steps m.me.geometry.wide) * m.passed + 3 + tear_steps m.me.geometry.wide (frees es)) (down_steps m.me.geometry.wide) tr t h.bound s.bound in
      let f = tear_sum m.me.geometry.wide (frees (es ++ ds)) (frees es) (frees ds) (frees-append es ds) in
      let u = s.did.0 in
      let low = h.low in (
        [],
        record {
          back = back_untouched c r0 rs r u h.taken.back;
          stopped = record { left = All-nil (λ (v : Visit). Contains r.dying v.block); others = all_outside r.dying ∙ (ap (λ (x : Memo). x.dying) u.rest ∙ h.dying); spent = s.did.1.1 };
          most = let v = s.did.1.0 in let w = u.rows c in omega arith;
          bound = (let y = backs_most m.me.geometry.wide m.passed (m.me.geometry.clients - 1) (omega arith) in omega arith);
        },
      )

  -- the block was torn down, or not to the end
  torn : (a : Result (Unit {0}) EraSpent) → IsOut m.me m.passed m.at m.block r0 rs tr es → TearLeaves m.me m.block rs r ds t a → Follows back_parts back_plan m (Second (Second a)) r0 r (tr ++ t) (es ++ ds)
  torn a h left = go a left
    where
      go : (a : Result (Unit {0}) EraSpent) → TearLeaves m.me m.block rs r ds t a → Follows back_parts back_plan m (Second (Second a)) r0 r (tr ++ t) (es ++ ds)
      go (Ok done) y =
          let lost = torn_leaves m.me (spot.Slot c i (m.at % 8)) false m.block 0 h.q rs r h.may.may.who h.held h.lost h.counted ds t (Ok tt) y in
          let told : es ++ ds ≡ h.before ++ (event.Down c (spot.Slot c i (m.at % 8)) m.block ∷ ds) = ap (λ (x : List Event). x ++ ds) h.told ∙ append_assoc h.before (event.Down c (spot.Slot c i (m.at % 8)) m.block ∷ []) ds in
          let f = tear_sum m.me.geometry.wide (frees (es ++ ds)) (frees h.before) (frees ds) (let z = ap frees told ∙ frees-append h.before (event.Down c (spot.Slot c i (m.at % 8)) m.block ∷ ds) in omega arith) in
          let b = within_more ((10 + redo_steps m.me.geometry.wide) * m.passed + (10 + redo_steps m.me.geometry.wide) + tear_steps m.me.geometry.wide (frees h.before)) (tear_steps m.me.geometry.wide (frees ds)) tr t h.bound y.bound in
          pass_out h.q h.before (event.Down c (spot.Slot c i (m.at % 8)) m.block ∷ ds) m.block m.at h.may h.low h.taken h.dying h.events h.place h.names h.some lost told ds refl (inr y.walks) (omega arith)
      go (Err e) (vs, y) =
          let lost = torn_leaves m.me (spot.Slot c i (m.at % 8)) false m.block 0 h.q rs r h.may.may.who h.held h.lost h.counted ds t (Err e) (vs, y) in
          let told : es ++ ds ≡ h.before ++ (event.Down c (spot.Slot c i (m.at % 8)) m.block ∷ ds) = ap (λ (x : List Event). x ++ ds) h.told ∙ append_assoc h.before (event.Down c (spot.Slot c i (m.at % 8)) m.block ∷ []) ds in
          let u = ap frees told ∙ frees-append h.before (event.Down c (spot.Slot c i (m.at % 8)) m.block ∷ ds) in
          let f = tear_sum m.me.geometry.wide (frees (es ++ ds) + length vs) (frees h.before) (frees ds + length vs) (omega arith) in
          let low = h.low in
          let b = within_more ((10 + redo_steps m.me.geometry.wide) * m.passed + (10 + redo_steps m.me.geometry.wide) + tear_steps m.me.geometry.wide (frees h.before)) (tear_steps m.me.geometry.wide (frees ds + length vs)) tr t h.bound y.bound in
          let stopped = lost.1.1 in
          let z = h.dying in (
            vs,
            record {
              back = back_took c i (m.at % 8) m.block false r0 h.q r lost.0 h.taken.back;
              stopped = record { left = y.left; others = y.others ∙ (ap (filter (not_block m.block)) h.lost.dying ∙ (without_new m.block h.q.dying h.counted ∙ h.dying)); spent = y.last };
              most = let v = y.spent in omega arith;
              bound = (let q = backs_most m.me.geometry.wide m.passed (m.me.geometry.clients - 1) (omega arith) in omega arith);
            },
          )

-- what is known before the first call
pub back_begin : (me : Me) (r : Memo) → MayServe me r → IsBacking me 0 0 r r [] []
back_begin me r may =
    record {
      may = may;
      low = may.others;
      taken = record {
        back = record { rest = refl; op = may.may.idle; own = λ p l. refl; rows = λ j. omega arith; unsent = λ j. inr refl };
        before = λ j l o. absurd (none_before me.who j l o);
        after = λ j o. refl;
      };
      dying = refl;
      events = refl;
      bound = omega arith;
    }

pub back_laws : PlanLaws back_parts back_plan
back_laws =
    record {
      stays = stays;
      calls = λ m. calls m m.point;
      parts = λ m. let first = is_first m in let p = spot.Slot m.me.who (to_of m) (m.at % 8) in
          or_part_laws first word_control (or_control down_control tear_control) (word_part first m.me (back_ask m m.point) (BackFound m m.point)) (or_part (down_slot_part p false) tear_part) (word_part_laws first m.me (back_ask m m.point) (BackFound m m.point))
          (or_part_laws first down_control tear_control (down_slot_part p false) tear_part (down_slot_laws p false first) (tear_part_laws first));
      opens = λ m. opens m m.point;
      leads = λ m r0 rs r tr t es ds a h g held agent. leads m m.point r0 rs r tr t es ds a h g held;
    }
  where
    stays_word : (m : BackState) (y : BackPoint) (n : ℕ) → PlanStays back_parts back_plan (record m { point = y }) (First n)
    stays_word m Tail n = record { same_me = refl; same_line = refl; same_start = refl; started = λ e. begun m.passed }
    stays_word m Head n = let t = stays_head (record m { point = Head }) (nat_lt (m.at - n) 8) in record { same_me = t.0; same_line = refl; same_start = t.1; started = t.2 }
    stays_word m Slot n = let t = stays_slot (record m { point = Slot }) (n % address_limit) (n % address_limit == 0) in record { same_me = t.0; same_line = refl; same_start = t.1; started = t.2 }
    stays_word m Lower n = let t = stays_slot (record m { point = Lower }) (n % address_limit) (n % address_limit == 0) in record { same_me = t.0; same_line = refl; same_start = t.1; started = t.2 }
    stays_word m Tear n = let t = stays_slot (record m { point = Tear }) (n % address_limit) (n % address_limit == 0) in record { same_me = t.0; same_line = refl; same_start = t.1; started = t.2 }

    stays : (m : BackState) (b : BackAnswer) → PlanStays back_parts back_plan m b
    stays m (First n) = stays_word m m.point n
    stays m (Second (First (Ok true))) = record { same_me = refl; same_line = refl; same_start = refl; started = λ e. begun m.passed }
    stays m (Second (First (Ok false))) = let t = pass_stays m in record { same_me = t.0; same_line = refl; same_start = t.1; started = t.2 }
    stays m (Second (First (Err e))) = record { same_me = refl; same_line = refl; same_start = refl; started = λ e. absurd (cc) }
    stays m (Second (Second (Ok u))) = let t = pass_stays m in record { same_me = t.0; same_line = refl; same_start = t.1; started = t.2 }
    stays m (Second (Second (Err e))) = record { same_me = refl; same_line = refl; same_start = refl; started = λ e. absurd (cc) }

    -- each call leads on
    leads : (m : BackState) (y : BackPoint) (r0 rs r : Memo) (tr t : Trail) (es ds : List Event) (a : BackAnswer) → BackKnows m y r0 rs tr es → (back_part m y).leaves (back_call_at m y) rs r t ds a → IsHeld m.me r
        → Follows back_parts back_plan (record m { point = y }) a r0 r (tr ++ t) (es ++ ds)
    leads m Tail r0 rs r tr t es ds (First n) h w held = tail_read (record m { point = Tail }) r0 rs r tr t es ds held n h w
    leads m Head r0 rs r tr t es ds (First n) h w held = head_read (record m { point = Head }) r0 rs r tr t es ds held n h w
    leads m Slot r0 rs r tr t es ds (First n) h w held = slot_read (record m { point = Slot }) r0 rs r tr t es ds held n h w
    leads m Lower r0 rs r tr t es ds (Second (First a)) h g held = lowered (record m { point = Lower }) r0 rs r tr t es ds held a h g
    leads m Tear r0 rs r tr t es ds (Second (Second a)) h g held = torn (record m { point = Tear }) r0 rs r tr t es ds held a h g
    leads m Tail r0 rs r tr t es ds (Second a) h g held = absurd g
    leads m Head r0 rs r tr t es ds (Second a) h g held = absurd g
    leads m Slot r0 rs r tr t es ds (Second a) h g held = absurd g
    leads m Lower r0 rs r tr t es ds (First n) h g held = absurd g
    leads m Lower r0 rs r tr t es ds (Second (Second a)) h g held = absurd g
    leads m Tear r0 rs r tr t es ds (First n) h g held = absurd g
    leads m Tear r0 rs r tr t es ds (Second (First a)) h g held = absurd g
