-- what is owed of mending
use Rattle.std.proofs.Common.{◌≡◌, ◌≢◌, ℕ, ◌+◌, ◌%◌, ◌^◌, ◌<◌, refl, sym, ap, ◌∙◌, subst, arith, Bool, true, false, cond, List, [], ◌++◌}
use Rattle.std.proofs.{Math.Nat.mod-eq_of_lt, lemmas.Bool.eq-eqb}
use Rattle.std.specs.Prelude.{Option, Some, None}
use Rattle.shm_words.specs.{declared.redo.Redo.Redo as ARedo, Layout.{address, total_of}, Redos.redo_of}
use Rattle.shm_words.specs.declared.place.Place.TheVariants as place
use Rattle.shm_words.specs.declared.redo.Redo.TheVariants as redos
use Rattle.shm_graph.specs.declared.{ask.Me.Me, memo.{Memo.Memo, Op.TheVariants.Change}}
use Rattle.shm_graph.specs.{declared.memo.{ChangeStage.TheVariants.Lowering, Second.TheVariants.Open}, Agents.recovers}
use Rattle.shm_graph.specs.{Asks.{Trail, IsWithin}, Bounds.redo_steps, Blocks.classes, Core.core, Events.Event}
use Rattle.shm_graph.specs.{Held.OpTie, Ops.{IsUncommitted, on_of, slot_of}, References.words_of}
use Rattle.shm_graph.specs.{MemoAfterStore.{era_stored, op_closed, op_written}, Views.own_word}
use Rattle.shm_graph.specs.declared.ask.Ask.TheVariants as ask
use Rattle.shm_graph.specs.declared.spot.Spot.TheVariants as spot
use Rattle.kind_laws.specs.OwnWords.{Closes}
use Rattle.plans.specs.{declared.or.Or.TheVariants.{First, Second}, Proved.{CallTells.within_more, Either.or_part_laws}}
use Rattle.plans.specs.{CallsControl.calls_control, CallsPart.{calls_part, calls_part_laws}}
use Rattle.plans.specs.{Either.{or_control, or_part}, Parts.{IsHeld, PartLaws}}
use Rattle.plans.specs.Plans.{Follows, IsCall, PlanLaws, PlanStays}
use Rattle.plans.specs.Words.{IsWord, WordLeaves, word_control, word_part, word_part_laws}
use Rattle.kind_parts.proofs.Words.Own.{dead_store, era_load, era_store, redo_load}
use Rattle.shm_count.specs.declared.commit_test.Commit.{Commit, TheVariants.{Committed, NotCommitted}}
use Rattle.shm_count.specs.CommitTest.{IsTested, IsTold, record_in, step_block, testing_plan, Control.testing_steered}
use Rattle.shm_count.specs.Proved.CommitTest.Laws.{testing_begin, testing_laws}
use Rattle.shm_recover.specs.declared.mend.MendPoint.{MendPoint}
use Rattle.shm_recover.specs.declared.mend.MendPoint.TheVariants.{Dead, Era, Redo, More, Test, Slot, Close, Lower, Unlatch}
use Rattle.shm_recover.specs.{declared.mend.MendState.MendState, Proved.MendLower.Laws.{lowering_begin, lowering_laws}}
use Rattle.shm_recover.specs.Proved.{MendUnlatch.Laws.{unlatching_begin, unlatching_laws}, Mend.SecondWord.more_load}
use Rattle.shm_recover.specs.Proved.Mend.Slots.{slot_word}
use Rattle.shm_recover.specs.Proved.Mend.Steps.{has_written, spells_idle, spells_none, step_named, to_close, to_drop, to_lower, to_write}
use Rattle.shm_recover.specs.Proved.Mend.Words.{begun, dead_here, era_mending, era_op, era_over, era_own, lower_mending, lower_over, mended, slot_mending, slot_op, slot_over, slotted_row}
use Rattle.shm_recover.specs.Proved.Mend.Tied.{before_inside, block_inside, least_room, op_tied, own_room, second_not_first, value_small}
use Rattle.shm_recover.specs.MendLower.{IsLowered, MayLowerDead, lowering_plan, Control.lowering_steered}
use Rattle.shm_recover.specs.MendUnlatch.{unlatching_plan, Control.unlatching_steered}
use Rattle.shm_recover.specs.Mend.Control.{MendAnswer, before_of, block_of, closed, found_by, is_dead, is_first, is_second, mend_ask, mend_call, mend_parts, mending, tested_at, value_at, mend_steered}
use Rattle.shm_recover.specs.Mend.{HeldOver, IsClosing, IsDead, IsMending, IsSlotted, IsSpelled, MayMend, MendFound, MendKnows, dead, mend_part, mend_plan}

-- in format 1 the first word says it all
alone : (word x y : ℕ) → redo_of false word x ≡ redo_of false word y
unfolding redo_of
alone word x y = refl

-- ---- where it goes

module _ (m : MendState) (r0 rs r : Memo) (tr t : Trail) (es ds : List Event) (held : IsHeld m.me r) (agent : recovers r ≡ recovers rs) where
  abbrev me : Me
  me = m.me

  abbrev who : ℕ
  who = m.me.who

  abbrev n : ℕ
  n = m.me.geometry.clients

  -- the word steps of an own redo record
  abbrev u : ℕ
  u = redo_steps m.me.geometry.wide

  abbrev Next : MendState → Type 0
  Next m2 = MendKnows m2 m2.point r0 r (tr ++ t) (es ++ ds)

  quiet : es ≡ [] → ds ≡ [] → es ++ ds ≡ []
  quiet a b = ap (λ (x : List Event). x ++ ds) a ∙ b

  -- only words were read since the status was stored
  still_dead : core r ≡ core rs → ds ≡ [] → IsDead me r0 rs es → IsDead me r0 r (es ++ ds)
  still_dead same none h = record { may = h.may; recoverer = agent ∙ h.recoverer; same = same ∙ h.same; none = quiet h.none none }

  -- the redo record was found
  redo_led : (word second : ℕ) → IsDead me r0 r (es ++ ds) → own_word r.own (spot.Era who who) ≡ m.era → redo_of m.me.geometry.wide word second ≡ record_in me r → IsWithin (2 + redo_steps m.me.geometry.wide) (tr ++ t) → (q : Option ARedo) → redo_of m.me.geometry.wide word second ≡ q → Next (found_by m q)
  redo_led word second h era is bound q spelled = go q (sym is ∙ spelled)
    where
      idle : IsUncommitted r.op → Next (record m { point = Unlatch })
      idle ended = let b = begun me r0 r (es ++ ds) h in (b.0, b.1, ended, (let x = bound in omega arith))

      tie : OpTie me.geometry (classes held.0) (own_word r.own (spot.Redo who)) (own_word r.own (spot.RedoMore who)) (own_word r.own (spot.Era who who)) (words_of me.geometry.wide held.0) r.op
      tie = op_tied me r held h.may.who

      spells : (x : ARedo) → x ≢ redos.Idle → record_in me r ≡ Some x → Next (record m { redo = x; point = Test })
      spells x some e = (h, record { era = era; spelled = e; some = some; inside = subst (λ y. block_of x y < total_of me.geometry) era (block_inside me r held h.may.who x e some) }, bound)

      go : (q : Option ARedo) → record_in me r ≡ q → Next (found_by m q)
      go None e = idle (spells_none me.geometry (classes held.0) (own_word r.own (spot.Redo who)) (own_word r.own (spot.RedoMore who)) (own_word r.own (spot.Era who who)) (words_of me.geometry.wide held.0) r.op tie e)
      go (Some redos.Idle) e = idle (spells_idle me.geometry (classes held.0) (own_word r.own (spot.Redo who)) (own_word r.own (spot.RedoMore who)) (own_word r.own (spot.Era who who)) (words_of me.geometry.wide held.0) r.op tie e)
      go (Some (redos.Up p b)) e = spells (redos.Up p b) (λ z. cc) e
      go (Some (redos.Down p b)) e = spells (redos.Down p b) (λ z. cc) e
      go (Some (redos.Change parity p a b)) e = spells (redos.Change parity p a b) (λ z. cc) e

  -- the first word was found, which in format 1 says it all
  first_led : (word : ℕ) → IsDead me r0 r (es ++ ds) → own_word r.own (spot.Era who who) ≡ m.era → word ≡ own_word r.own (spot.Redo who) → IsWithin 3 (tr ++ t) → (b : Bool) → m.me.geometry.wide ≡ b → Next (cond b (record m { first = word; point = More }) (found_by m (redo_of m.me.geometry.wide word 0)))
  first_led word h era is bound true wide = (h, era, sym is, wide, bound)
  first_led word h era is bound false wide = redo_led word 0 h era same (subst (λ b. IsWithin (2 + redo_steps b) (tr ++ t)) (sym wide) bound) (redo_of m.me.geometry.wide word 0) refl
    where
      -- the second word counts for nothing
      same : redo_of m.me.geometry.wide word 0 ≡ record_in me r
      same = ap (λ b. redo_of b word 0) wide ∙ (alone word 0 (own_word r.own (spot.RedoMore who)) ∙ (ap (λ b. redo_of b word (own_word r.own (spot.RedoMore who))) (sym wide) ∙ ap (λ x. redo_of m.me.geometry.wide x (own_word r.own (spot.RedoMore who))) is))

  -- the commit test answered
  module _ (x : Commit) (h : IsDead me r0 rs es) (s : IsSpelled me m.era m.redo rs) (bound : IsWithin (2 + redo_steps m.me.geometry.wide) tr) (g : IsTested me (block_of m.redo m.era) m.era rs r t ds x) where
    tested_dead : IsDead me r0 r (es ++ ds)
    tested_dead = still_dead g.same g.none h

    still : IsMending me r0 r × HeldOver who r0 r (es ++ ds)
    still = begun me r0 r (es ++ ds) tested_dead

    same_era : own_word r.own (spot.Era who who) ≡ m.era
    same_era = ap (λ (y : Memo). own_word y.own (spot.Era who who)) g.same ∙ s.era

    same_redo : record_in me r ≡ Some m.redo
    same_redo = ap (λ (y : Memo). record_in me y) g.same ∙ s.spelled

    tested_bound : IsWithin (n + 2 + u) (tr ++ t)
    tested_bound = (let y = within_more (2 + u) n tr t bound g.bound in omega arith)

    tied : OpTie me.geometry (classes held.0) (own_word r.own (spot.Redo who)) (own_word r.own (spot.RedoMore who)) m.era (words_of me.geometry.wide held.0) r.op
    tied = subst (λ e. OpTie me.geometry (classes held.0) (own_word r.own (spot.Redo who)) (own_word r.own (spot.RedoMore who)) e (words_of me.geometry.wide held.0) r.op) same_era (op_tied me r held h.may.who)

    -- a second half that is committed has but its era left
    test_closes : is_second m.redo m.era ≡ true → on_of r.op ≡ Some (block_of m.redo m.era) → MendKnows (record m { point = Close }) Close r0 r (tr ++ t) (es ++ ds)
    test_closes half on =
        let c = to_close me.geometry (classes held.0) (own_word r.own (spot.Redo who)) (own_word r.own (spot.RedoMore who)) m.era (words_of me.geometry.wide held.0) r.op m.redo (block_of m.redo m.era) tied same_redo half on in (
          still.0,
          still.1,
          record { era = same_era; held = held; closes = c.0; first = λ z. absurd (second_not_first m.redo m.era half z); other = λ z. c.1 },
          (let y = tested_bound in omega arith),
        )

    -- of any other step that is committed the slot is stored
    test_writes : is_second m.redo m.era ≡ false → on_of r.op ≡ Some (block_of m.redo m.era) → MendKnows (record m { point = Slot }) Slot r0 r (tr ++ t) (es ++ ds)
    test_writes half on =
        let c = to_write me.geometry (classes held.0) (own_word r.own (spot.Redo who)) (own_word r.own (spot.RedoMore who)) m.era (words_of me.geometry.wide held.0) r.op m.redo (block_of m.redo m.era) tied same_redo half on in (
          still.0,
          still.1,
          record { era = same_era; held = held; spelled = same_redo; small = value_small me r held h.may.who m.redo same_redo h.may.geometry; writes = c.0; at = c.1; half = half },
          tested_bound,
        )

    -- a second half that isn't is made
    test_lowers : is_second m.redo m.era ≡ true → on_of r.op ≢ Some (block_of m.redo m.era) → MendKnows (record m { point = Lower }) Lower r0 r (tr ++ t) (es ++ ds)
    test_lowers half on =
        let c = to_lower me.geometry (classes held.0) (own_word r.own (spot.Redo who)) (own_word r.own (spot.RedoMore who)) m.era (words_of me.geometry.wide held.0) r.op m.redo tied same_redo half on in (
          still.0,
          still.1,
          record {
            geometry = h.may.geometry;
            who = h.may.who;
            recoverer = tested_dead.recoverer;
            here = dead_here me r0 r still.0;
            inside = before_inside me r held h.may.who c.0 (before_of m.redo) c.1 m.era c.2;
            era = same_era;
            small = (let x = own_room me r held h.may.who in let y = least_room r.op in let z = same_era in omega arith);
            slot = c.0;
            after = c.1;
            op = c.2;
          },
          (let y = tested_bound in omega arith),
        )

    -- and any other step that isn't is dropped
    test_drops : is_second m.redo m.era ≡ false → on_of r.op ≢ Some (block_of m.redo m.era) → MendKnows (record m { point = Unlatch }) Unlatch r0 r (tr ++ t) (es ++ ds)
    test_drops half on = (
      still.0,
      still.1,
      to_drop me.geometry (classes held.0) (own_word r.own (spot.Redo who)) (own_word r.own (spot.RedoMore who)) m.era (words_of me.geometry.wide held.0) r.op m.redo tied same_redo half on,
      (let y = tested_bound in omega arith),
    )

  -- the slot was stored
  slot_led : (word : ℕ) → IsMending me r0 rs → HeldOver who r0 rs es → IsSlotted me m.era m.redo rs → IsWithin (n + 2 + u) tr → WordLeaves (MendFound m Slot) (record { me = m.me; ask = mend_ask m.me m.era m.redo Slot; over = false }) rs r t ds word → Next (record m { point = Close })
  slot_led word h over s bound g = let done = has_written me.geometry (classes s.held.0) (own_word rs.own (spot.Redo who)) (own_word rs.own (spot.RedoMore who)) m.era (words_of me.geometry.wide s.held.0) rs.op m.redo v tie s.spelled s.writes in (
    slot_mending me r0 rs r v g.found.left s.writes (agent ∙ h.recoverer) h,
    slot_over me r0 rs r v g.found.left s.writes es ds g.none over,
    record {
      era = era;
      held = held;
      closes = subst (λ o. Closes o (op_closed o (m.era + 1))) (sym op) done.0;
      first = λ z. let y = done.1 z in (y.0, y.1, op ∙ y.2);
      other = λ z. ap (λ o. op_closed o (m.era + 1)) op ∙ done.2 z;
    },
    (let y = within_more (n + 2 + u) 1 tr t bound (let z = g.one in omega arith) in omega arith),
  )
    where
      v : ℕ
      v = value_at m.redo

      op : r.op ≡ op_written rs.op
      op = slot_op me r0 rs r v g.found.left s.writes

      era : own_word r.own (spot.Era who who) ≡ m.era
      era = ap (λ (y : Memo). own_word y.own (spot.Era who who)) g.found.left ∙ (slotted_row rs (slot_of rs.op) v who who ∙ s.era)

      tie : OpTie me.geometry (classes s.held.0) (own_word rs.own (spot.Redo who)) (own_word rs.own (spot.RedoMore who)) m.era (words_of me.geometry.wide s.held.0) rs.op
      tie = subst (λ e. OpTie me.geometry (classes s.held.0) (own_word rs.own (spot.Redo who)) (own_word rs.own (spot.RedoMore who)) e (words_of me.geometry.wide s.held.0) rs.op) s.era (op_tied me rs s.held h.may.who)

  -- the own era was stored
  close_led : (word : ℕ) → IsMending me r0 rs → HeldOver who r0 rs es → IsClosing me m.era m.redo rs → IsWithin (n + 3 + u) tr → WordLeaves (MendFound m Close) (record { me = m.me; ask = mend_ask m.me m.era m.redo Close; over = false }) rs r t ds word → Next (closed m)
  close_led word h over s bound g = go (is_first m.redo m.era) refl
    where
      left : core r ≡ core (era_stored who rs (spot.Era who who) (m.era + 1))
      left = g.found.left ∙ ap (λ e. core (era_stored who rs (spot.Era who who) (e + 1))) s.era

      next : IsMending me r0 r
      next = era_mending me r0 rs r (m.era + 1) left s.closes s.held (let y = s.era in omega arith) (agent ∙ h.recoverer) h

      lost : HeldOver who r0 r (es ++ ds)
      lost = era_over me r0 rs r (m.era + 1) left s.closes es ds g.none over

      op : r.op ≡ op_closed rs.op (m.era + 1)
      op = era_op me r0 rs r (m.era + 1) left s.closes

      era : own_word r.own (spot.Era who who) ≡ m.era + 1
      era = era_own me r0 rs r (m.era + 1) left s.closes

      more : IsWithin (n + 4 + u) (tr ++ t)
      more = (let y = within_more (n + 3 + u) 1 tr t bound (let z = g.one in omega arith) in omega arith)

      go : (q : Bool) → is_first m.redo m.era ≡ q → Next (cond q (record m { era = (m.era + 1) % 2 ^ 47; point = Lower }) (record m { point = Unlatch }))
      go false half = (next, lost, subst IsUncommitted (sym (op ∙ s.other half)) tt, (let y = more in omega arith))
      go true half =
          let f = s.first half in
          let a : ℕ = before_of m.redo in
          let open_op : r.op ≡ Change (Lowering Open) f.0 a f.1 (m.era + 1) = op ∙ ap (λ o. op_closed o (m.era + 1)) f.2 in
          let room = own_room me r held h.may.who in
          let small : m.era + 1 < 2 ^ 47 = (let x = least_room r.op in let z = era in omega arith) in
          let same : (m.era + 1) % 2 ^ 47 ≡ m.era + 1 = mod-eq_of_lt small in
          subst (λ e. IsMending me r0 r × HeldOver who r0 r (es ++ ds) × MayLowerDead me a e r × IsWithin (n + 4 + u) (tr ++ t)) (sym same) (
            next,
            lost,
            record {
              geometry = h.may.geometry;
              who = h.may.who;
              recoverer = next.recoverer;
              here = dead_here me r0 r next;
              inside = before_inside me r held h.may.who f.0 a f.1 (m.era + 1) open_op;
              era = era;
              small = small;
              slot = f.0;
              after = f.1;
              op = open_op;
            },
            more,
          )

  -- the second half of a change was made
  lower_led : IsMending me r0 rs → HeldOver who r0 rs es → MayLowerDead me (before_of m.redo) m.era rs → IsWithin (n + 4 + u) tr → IsLowered me (before_of m.redo) m.era rs r t ds → Next (record m { point = Unlatch })
  lower_led h over may bound g = (
    lower_mending me r0 rs r (before_of m.redo) m.era es ds t may g (agent ∙ h.recoverer) h,
    lower_over me r0 rs r (before_of m.redo) m.era es ds t may g over,
    subst IsUncommitted (sym g.op) tt,
    (let y = within_more (n + 4 + u) 5 tr t bound g.bound in omega arith),
  )

-- what is known before the first call
pub mend_begin : (me : Me) (r : Memo) → MayMend me r → MendKnows (mending me) Dead r r [] []
mend_begin me r may = (may, refl, refl, refl)

pub mend_laws : PlanLaws mend_parts mend_plan
mend_laws =
    record {
      stays = stays;
      calls = λ m. calls m m.point;
      parts = λ m. parts m m.point;
      opens = λ m. opens m m.point;
      leads = λ m r0 rs r tr t es ds a h g held same. leads m m.point r0 rs r tr t es ds a h g held same;
    }
  where
    parts : (m : MendState) (y : MendPoint) → PartLaws (is_dead y) mend_parts (mend_part m y)
    parts m y =
        let first = is_dead y in
        let word = word_part first m.me (mend_ask m.me m.era m.redo y) (MendFound m y) in
        let test = calls_part word_control testing_plan in
        let lower = calls_part word_control lowering_plan in
        let unlatch = calls_part word_control unlatching_plan in
        or_part_laws first word_control (or_control (calls_control word_control testing_steered) (or_control (calls_control word_control lowering_steered) (calls_control word_control unlatching_steered))) word (or_part test (or_part lower unlatch))
        (word_part_laws first m.me (mend_ask m.me m.era m.redo y) (MendFound m y))
        (or_part_laws first (calls_control word_control testing_steered) (or_control (calls_control word_control lowering_steered) (calls_control word_control unlatching_steered)) test (or_part lower unlatch)
        (calls_part_laws word_control testing_plan testing_laws first)
        (or_part_laws first (calls_control word_control lowering_steered) (calls_control word_control unlatching_steered) lower unlatch (calls_part_laws word_control lowering_plan lowering_laws first) (calls_part_laws word_control unlatching_plan unlatching_laws first)))

    calls : (m : MendState) (y : MendPoint) → IsCall mend_parts mend_plan (record m { point = y })
    calls m Dead = record { me = refl; asks = refl }
    calls m Era = record { me = refl; asks = refl }
    calls m Redo = record { me = refl; asks = refl }
    calls m More = record { me = refl; asks = refl }
    calls m Test = record { me = refl; asks = refl }
    calls m Slot = record { me = refl; asks = refl }
    calls m Close = record { me = refl; asks = refl }
    calls m Lower = record { me = refl; asks = refl }
    calls m Unlatch = record { me = refl; asks = refl }

    -- what the calls need
    opens : (m : MendState) (y : MendPoint) (r0 r : Memo) (tr : Trail) (es : List Event) → MendKnows (record m { point = y }) y r0 r tr es → (mend_part (record m { point = y }) y).needs (mend_call m y) r
    opens m Dead r0 r tr es (may, same, none, quiet) = dead_store true m.me r may.who
    opens m Era r0 r tr es (h, bound) = era_load false m.me r h.may.who m.me.who m.me.who h.may.who h.may.who
    opens m Redo r0 r tr es (h, era, bound) = redo_load false m.me r h.may.who
    opens m More r0 r tr es (h, era, first, wide, bound) = more_load m.me r h.may.who wide
    opens m Test r0 r tr es (h, s, bound) =
        record {
          made = refl;
          first = refl;
          start = refl;
          knows = testing_begin m.me (block_of m.redo m.era) m.era r
              (record { geometry = h.may.geometry; who = h.may.who; recoverer = h.recoverer; inside = s.inside; era = s.era; named = ap (λ q. step_block q m.era) s.spelled ∙ step_named m.redo m.era s.some });
        }
    opens m Slot r0 r tr es (h, over, s, bound) =
        subst (λ at. IsWord false m.me (ask.Store at (value_at m.redo)) (MendFound (record m { point = Slot }) Slot) (record { me = m.me; ask = ask.Store at (value_at m.redo); over = false }) r) (sym s.at)
        (slot_word m.me r h.may.who (value_at m.redo) (dead_here m.me r0 r h) s.writes s.small s.held)
    opens m Close r0 r tr es (h, over, s, bound) =
        subst (λ e. IsWord false m.me (ask.Store (address m.me.geometry (place.Era m.me.who m.me.who)) (e + 1)) (MendFound (record m { point = Close }) Close) (record { me = m.me; ask = ask.Store (address m.me.geometry (place.Era m.me.who m.me.who)) (e + 1); over = false }) r) s.era
        (era_store false m.me r h.may.who refl (record { here = dead_here m.me r0 r h; op = subst (λ e. Closes r.op (op_closed r.op (e + 1))) (sym s.era) s.closes }))
    opens m Lower r0 r tr es (h, over, may, bound) = record { made = refl; first = refl; start = refl; knows = lowering_begin m.me (before_of m.redo) m.era r may }
    opens m Unlatch r0 r tr es (h, over, ended, bound) =
        record { made = refl; first = refl; start = refl; knows = unlatching_begin m.me r (record { geometry = h.may.geometry; who = h.may.who; recoverer = h.recoverer; here = dead_here m.me r0 r h; ended = ended }) }

    -- what all states after a redo record, and after a stored era, are alike in
    found_same : {T : Type 0} (f : MendState → T) {v : T} (m : MendState) (q : Option ARedo) → ((x : ARedo) → f (record m { redo = x; point = Test }) ≡ v) → f (record m { point = Unlatch }) ≡ v → f (found_by m q) ≡ v
    found_same f m None some none = none
    found_same f m (Some redos.Idle) some none = none
    found_same f m (Some (redos.Up p b)) some none = some (redos.Up p b)
    found_same f m (Some (redos.Down p b)) some none = some (redos.Down p b)
    found_same f m (Some (redos.Change parity p a b)) some none = some (redos.Change parity p a b)

    alike : {T : Type 0} (f : MendState → T) (q : Bool) (m n : MendState) {v : T} → f m ≡ v → f n ≡ v → f (cond q m n) ≡ v
    alike f true m n a b = a
    alike f false m n a b = b

    later : (x : Commit) (q : Bool) → is_dead (tested_at x q) ≡ false
    later (Committed by) true = refl
    later (Committed by) false = refl
    later NotCommitted true = refl
    later NotCommitted false = refl

    word_stays : (m : MendState) (y : MendPoint) (k : ℕ) → PlanStays mend_parts mend_plan (record m { point = y }) (First k)
    word_stays m Redo k =
        let a : MendState = record m { first = k; point = More } in
        let p : MendState = record m { point = Redo } in
        let q : Option ARedo = redo_of m.me.geometry.wide k 0 in
        let b : MendState = found_by p q in
        record {
          same_me = alike (λ (x : MendState). x.me) m.me.geometry.wide a b refl (found_same (λ (x : MendState). x.me) p q (λ x. refl) refl);
          same_line = refl;
          same_start = alike mend_steered.start m.me.geometry.wide a b refl (found_same mend_steered.start p q (λ x. refl) refl);
          started = λ e. alike (λ (x : MendState). is_dead x.point) m.me.geometry.wide a b refl (found_same (λ (x : MendState). is_dead x.point) p q (λ x. refl) refl);
        }
    word_stays m More k =
        let p : MendState = record m { point = More } in
        let q : Option ARedo = redo_of m.me.geometry.wide m.first k in
        record {
          same_me = found_same (λ (x : MendState). x.me) p q (λ x. refl) refl;
          same_line = refl;
          same_start = found_same mend_steered.start p q (λ x. refl) refl;
          started = λ e. found_same (λ (x : MendState). is_dead x.point) p q (λ x. refl) refl;
        }
    word_stays m Close k =
        let a : MendState = record m { era = (m.era + 1) % 2 ^ 47; point = Lower } in
        let b : MendState = record m { point = Unlatch } in
        record {
          same_me = alike (λ (x : MendState). x.me) (is_first m.redo m.era) a b refl refl;
          same_line = refl;
          same_start = alike mend_steered.start (is_first m.redo m.era) a b refl refl;
          started = λ e. alike (λ (x : MendState). is_dead x.point) (is_first m.redo m.era) a b refl refl;
        }
    word_stays m Era k = record { same_me = refl; same_line = refl; same_start = refl; started = λ e. refl }
    word_stays m Slot k = record { same_me = refl; same_line = refl; same_start = refl; started = λ e. refl }
    word_stays m Dead k = record { same_me = refl; same_line = refl; same_start = refl; started = λ e. refl }
    word_stays m Test k = record { same_me = refl; same_line = refl; same_start = refl; started = λ e. refl }
    word_stays m Lower k = record { same_me = refl; same_line = refl; same_start = refl; started = λ e. refl }
    word_stays m Unlatch k = record { same_me = refl; same_line = refl; same_start = refl; started = λ e. refl }

    stays : (m : MendState) (a : MendAnswer) → PlanStays mend_parts mend_plan m a
    stays m (First k) = word_stays m m.point k
    stays m (Second (First x)) = record { same_me = refl; same_line = refl; same_start = refl; started = λ e. later x (is_second m.redo m.era) }
    stays m (Second (Second (First done))) = record { same_me = refl; same_line = refl; same_start = refl; started = λ e. refl }
    stays m (Second (Second (Second done))) = record { same_me = refl; same_line = refl; same_start = refl; started = λ e. absurd (cc) }

    leads : (m : MendState) (y : MendPoint) (r0 rs r : Memo) (tr t : Trail) (es ds : List Event) (a : MendAnswer) → MendKnows (record m { point = y }) y r0 rs tr es → (mend_part (record m { point = y }) y).leaves (mend_call m y) rs r t ds a → IsHeld m.me r → recovers r ≡ recovers rs
        → Follows mend_parts mend_plan (record m { point = y }) a r0 r (tr ++ t) (es ++ ds)
    leads m Dead r0 rs r tr t es ds (First k) (may, same, empty, still) g held agent = (
      record {
        may = may;
        recoverer = agent ∙ (ap recovers same ∙ may.recoverer);
        same = g.found.left ∙ ap (λ (x : Memo). core (dead x)) same;
        none = ap (λ (x : List Event). x ++ ds) still ∙ g.none;
      },
      (let z = g.one in subst (λ (x : Trail). IsWithin 1 (x ++ t)) (sym empty) (omega arith)),
    )
    leads m Era r0 rs r tr t es ds (First k) (h, bound) g held agent = (
      still_dead (record m { point = Era }) r0 rs r tr t es ds held agent g.found.left g.none h,
      ap (λ (x : Memo). own_word x.own (spot.Era m.me.who m.me.who)) g.found.left ∙ (sym is ∙ sym same),
      (let y = within_more 1 1 tr t bound (let z = g.one in omega arith) in omega arith),
    )
      where
        is : k ≡ own_word rs.own (spot.Era m.me.who m.me.who)
        is = g.found.found (eq-eqb m.me.who m.me.who refl)

        same : k % 2 ^ 47 ≡ k
        same =
            mod-eq_of_lt
            (let room = own_room m.me r held h.may.who in
            let x = least_room r.op in
            let y = is in
            let z = ap (λ (x : Memo). own_word x.own (spot.Era m.me.who m.me.who)) g.found.left in
            omega arith)
    leads m Redo r0 rs r tr t es ds (First k) (h, era, bound) g held agent =
        first_led (record m { point = Redo }) r0 rs r tr t es ds held agent k
        (still_dead (record m { point = Redo }) r0 rs r tr t es ds held agent g.found.left g.none h)
        (ap (λ (x : Memo). own_word x.own (spot.Era m.me.who m.me.who)) g.found.left ∙ era)
        (g.found.found ∙ sym (ap (λ (x : Memo). own_word x.own (spot.Redo m.me.who)) g.found.left))
        (let y = within_more 2 1 tr t bound (let z = g.one in omega arith) in omega arith)
        m.me.geometry.wide refl
    leads m More r0 rs r tr t es ds (First k) (h, era, first, wide, bound) g held agent =
        redo_led (record m { point = More }) r0 rs r tr t es ds held agent m.first k
        (still_dead (record m { point = More }) r0 rs r tr t es ds held agent g.found.left g.none h)
        (ap (λ (x : Memo). own_word x.own (spot.Era m.me.who m.me.who)) g.found.left ∙ era)
        (ap (λ z. redo_of m.me.geometry.wide z k) (sym first) ∙ (ap (redo_of m.me.geometry.wide (own_word rs.own (spot.Redo m.me.who))) g.found.found ∙ sym (ap (λ (x : Memo). record_in m.me x) g.found.left)))
        (subst (λ b. IsWithin (2 + redo_steps b) (tr ++ t)) (sym wide) (let y = within_more 3 1 tr t bound (let z = g.one in omega arith) in omega arith))
        (redo_of m.me.geometry.wide m.first k) refl
    leads m Test r0 rs r tr t es ds (Second (First x)) (h, s, bound) g held agent = goes x (is_second m.redo m.era) refl g.told
      where
        p : MendState
        p = record m { point = Test }

        goes : (y : Commit) (q : Bool) → is_second m.redo m.era ≡ q → IsTold m.me (block_of m.redo m.era) m.era r t y → let m2 : MendState = record m { point = tested_at y q } in MendKnows m2 m2.point r0 r (tr ++ t) (es ++ ds)
        goes (Committed by) true half told = test_closes p r0 rs r tr t es ds held agent x h s bound g half told.0
        goes (Committed by) false half told = test_writes p r0 rs r tr t es ds held agent x h s bound g half told.0
        goes NotCommitted true half told = test_lowers p r0 rs r tr t es ds held agent x h s bound g half told
        goes NotCommitted false half told = test_drops p r0 rs r tr t es ds held agent x h s bound g half told
    leads m Slot r0 rs r tr t es ds (First k) (h, over, s, bound) g held agent = slot_led (record m { point = Slot }) r0 rs r tr t es ds held agent k h over s bound g
    leads m Close r0 rs r tr t es ds (First k) (h, over, s, bound) g held agent = close_led (record m { point = Close }) r0 rs r tr t es ds held agent k h over s bound g
    leads m Lower r0 rs r tr t es ds (Second (Second (First done))) (h, over, may, bound) g held agent = lower_led (record m { point = Lower }) r0 rs r tr t es ds held agent h over may bound g
    leads m Unlatch r0 rs r tr t es ds (Second (Second (Second done))) (h, over, ended, bound) g held agent =
        mended m.me r0 rs r tr t es ds h over ended g (agent ∙ h.recoverer) (let y = within_more (m.me.geometry.clients + 9 + redo_steps m.me.geometry.wide) 4 tr t bound g.bound in omega arith)
    leads m Dead r0 rs r tr t es ds (Second a) h g held agent = absurd g
    leads m Era r0 rs r tr t es ds (Second a) h g held agent = absurd g
    leads m Redo r0 rs r tr t es ds (Second a) h g held agent = absurd g
    leads m More r0 rs r tr t es ds (Second a) h g held agent = absurd g
    leads m Slot r0 rs r tr t es ds (Second a) h g held agent = absurd g
    leads m Close r0 rs r tr t es ds (Second a) h g held agent = absurd g
    leads m Test r0 rs r tr t es ds (First k) h g held agent = absurd g
    leads m Test r0 rs r tr t es ds (Second (Second a)) h g held agent = absurd g
    leads m Lower r0 rs r tr t es ds (First k) h g held agent = absurd g
    leads m Lower r0 rs r tr t es ds (Second (First x)) h g held agent = absurd g
    leads m Lower r0 rs r tr t es ds (Second (Second (Second done))) h g held agent = absurd g
    leads m Unlatch r0 rs r tr t es ds (First k) h g held agent = absurd g
    leads m Unlatch r0 rs r tr t es ds (Second (First x)) h g held agent = absurd g
    leads m Unlatch r0 rs r tr t es ds (Second (Second (First done))) h g held agent = absurd g
