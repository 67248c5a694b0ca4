-- what is owed of an up at the least empty root: each call leads on, to the next one or to what is left
use Rattle.std.proofs.Common.{◌≡◌, ◌≢◌, ℕ, ◌+◌, ◌^◌, ◌<◌, refl, sym, ap, ◌∙◌, subst, arith, Bool, true, false, List, [], ◌++◌, length, inl, inr}
use Rattle.std.proofs.lemmas.Bool.{cases_eq, eq-eqb, eqb-true, eqb-false, ltb-true, ltb-false}
use Rattle.std.proofs.lemmas.List.Elements.{Contains-append_right}
use Rattle.std.specs.Prelude.{◌-◌, ◌==◌, nat_lt, if◌then◌else◌, Option, Some, None, Result, Ok, Err}
use Rattle.shm_count.specs.Proved.{Step.BeforeExchange.first_going, DyingBlocks.live_room}
use Rattle.shm_count.specs.{Proved.UpRoot.Steps.{filled_core, taken_laws, untouched_core}, Step.Control.IsInside}
use Rattle.shm_count.specs.{Step.Machines.up_control, declared.answer.ShareFault.ShareFault}
use Rattle.shm_count.specs.declared.answer.UpFault.TheVariants.{EraSpent, CountFull}
use Rattle.shm_count.specs.declared.up_root.RootingPoint.{RootingPoint, TheVariants.{Era, Look, Step}}
use Rattle.shm_count.specs.{declared.up_root.RootingState.RootingState, CountParts.{up_part, up_part_laws}}
use Rattle.shm_count.specs.Roots.{root_word}
use Rattle.shm_count.specs.UpRoot.Control.{RootingAnswer, is_era, rooting_ask, rooting_call, rooting_parts, rooting_steered}
use Rattle.shm_count.specs.UpRoot.{IsLooking, MayUpRoot, RootingKnows, TookUp, UpRootLeaves, look_part, rooting_part, rooting_plan, rooting_spot, taken_part}
use Rattle.shm_count.specs.declared.answer.ShareFault.TheVariants as share
use Rattle.shm_graph.specs.{Bounds.redo_steps, declared.{ask.Me.Me, memo.Memo.Memo}, Agents.recovers}
use Rattle.shm_graph.specs.{Asks.{Trail, IsWithin}, Core.core, Events.Event, Laws.Outcome, Reach.is_reached}
use Rattle.shm_graph.specs.Views.{own_word, view}
use Rattle.shm_graph.specs.declared.spot.Spot.TheVariants as spot
use Rattle.shm_graph.proofs.States.{Holders.reach_counted, Reached.reached_here}
use Rattle.kind_parts.specs.WordParts.{CountLoaded, OwnLoaded}
use Rattle.kind_parts.proofs.{Cores.here_same, Words.Own.{era_load, root_load}}
use Rattle.plans.specs.{declared.or.Or.TheVariants.{First, Second}, Proved.{CallTells.within_more, Either.or_part_laws}}
use Rattle.plans.specs.{Proved.Words.word_more, Parts.{IsHeld, PartLaws}, Plans.{PlanLaws, PlanStays, IsCall, Follows}}
use Rattle.plans.specs.Words.{word_control, word_part_laws, WordLeaves}

-- what is known before the first call
pub rooting_begin : (m : RootingState) (r : Memo) → m.root ≡ 0 → MayUpRoot m.me m.block r → RootingKnows m Era r r [] []
rooting_begin m r low may = (may, low, refl, refl, refl)

-- a block in reach is one of the pool
pub reach_inside : (me : Me) (b : ℕ) (r : Memo) → IsHeld me r → me.who < me.geometry.clients → is_reached me.who r b ≡ true → IsInside me b
reach_inside me b r (w, rs, h, same) l reach =
    let near : is_reached me.who (rs me.who) b ≡ true = subst (λ (x : Memo). is_reached me.who x b ≡ true) (sym same) reach in
    (live_room me.geometry w rs h b me.who (reach_counted me.geometry w (view rs) h me.who b l (reached_here me.geometry w rs h me.who l b near)).0).0

-- what the states after a word step are alike in
era_same : (m : RootingState) (n : ℕ) {T : Type 0} (f : RootingState → T) → f (record m { era = n; point = Look }) ≡ f m → (q : Bool) → f (if q then m else record m { era = n; point = Look }) ≡ f m
era_same m n f e true = refl
era_same m n f e false = e

look_same : (m : RootingState) {T : Type 0} (f : RootingState → T) {v : T} → f m ≡ v → f (record m { point = Step }) ≡ v → f (record m { root = m.root + 1 }) ≡ v → (q z : Bool) → f (if q then record m { point = Step } else if z then m else record m { root = m.root + 1 }) ≡ v
look_same m f here step on true z = step
look_same m f here step on false true = here
look_same m f here step on false false = on

opens : (m : RootingState) (y : RootingPoint) (r0 r : Memo) (tr : Trail) (es : List Event) → RootingKnows (record m { point = y }) y r0 r tr es → (rooting_part (record m { point = y }) y).needs (rooting_call m y) r
opens m Era r0 r tr es h =
    let l = h.0.who in
    let c = m.me.who in
    word_more true m.me (rooting_ask m.me m.root Era) (CountLoaded c (spot.Era c c)) (OwnLoaded (spot.Era c c)) (record { me = m.me; ask = rooting_ask m.me m.root Era; over = false }) r
    (λ n x f. record { found = f.found (eq-eqb c c refl); left = f.left; read = tt }) (era_load true m.me r l c c l l)
opens m Look r0 r tr es h = root_load false m.me r h.may.who m.root h.low
opens m Step r0 r tr es h =
    let k = h.0 in
    let c = m.me.who in
    record {
      made = refl;
      may = record {
        geometry = k.may.geometry;
        who = k.may.who;
        here = here_same r0 r (ap (λ (x : Memo). x.status) k.same) k.may.here;
        idle = ap (λ (x : Memo). x.op) k.same ∙ k.may.idle;
        client = k.agent ∙ k.may.client;
        reach = ap (λ (x : Memo). is_reached c x m.block) k.same ∙ k.may.reach;
      };
      inside = k.inside;
      low = k.low;
      empty = ap (λ (x : Memo). root_word c x m.root) k.same ∙ h.1;
      era = k.era ∙ sym (ap (λ (x : Memo). own_word x.own (spot.Era c c)) k.same);
      room = k.room;
    }

parts : (m : RootingState) (y : RootingPoint) → PartLaws (is_era y) rooting_parts (rooting_part m y)
parts m Era =
    or_part_laws true word_control up_control (look_part m.me m.root Era) (up_part (spot.Root m.me.who m.root))
    (word_part_laws true m.me (rooting_ask m.me m.root Era) (OwnLoaded (rooting_spot m.me.who m.root Era))) (up_part_laws (spot.Root m.me.who m.root) true)
parts m Look =
    or_part_laws false word_control up_control (look_part m.me m.root Look) (taken_part m.me m.root m.block m.era)
    (word_part_laws false m.me (rooting_ask m.me m.root Look) (OwnLoaded (rooting_spot m.me.who m.root Look))) (taken_laws m.me m.root m.block m.era)
parts m Step =
    or_part_laws false word_control up_control (look_part m.me m.root Step) (taken_part m.me m.root m.block m.era)
    (word_part_laws false m.me (rooting_ask m.me m.root Step) (OwnLoaded (rooting_spot m.me.who m.root Step))) (taken_laws m.me m.root m.block m.era)

module _ (m : RootingState) (r0 rs r : Memo) (tr t : Trail) (es ds : List Event) where
  abbrev c : ℕ
  c = m.me.who

  -- a root was loaded: it is empty, or the last one, or another one comes
  emptied : (n : ℕ) → IsLooking m (m.root + 1) r0 rs tr es → core r ≡ core r0 → recovers r ≡ recovers r0 → n ≡ root_word c r0 m.root → es ++ ds ≡ [] → IsWithin (m.root + 2) (tr ++ t) → n ≡ 0 → RootingKnows (record m { point = Step }) Step r0 r (tr ++ t) (es ++ ds)
  emptied n h same agent is none bound e = (record { may = h.may; inside = h.inside; low = h.low; same = same; agent = agent; era = h.era; room = h.room; before = h.before; none = none; bound = bound }, sym is ∙ e)

  -- the roots up to one that names a block do so
  more_set : (n : ℕ) → IsLooking m (m.root + 1) r0 rs tr es → n ≡ root_word c r0 m.root → n ≢ 0 → (j : ℕ) → j < m.root + 1 → root_word c r0 j ≢ 0
  more_set n h is some j l =
      elim (cases_eq j m.root) [
        | inl e ↦ subst (λ i. root_word c r0 i ≢ 0) (sym e) (λ z. some (is ∙ z))
        | inr o ↦ h.before j (omega arith)
      ]

  full : (n : ℕ) → IsLooking m (m.root + 1) r0 rs tr es → core r ≡ core r0 → n ≡ root_word c r0 m.root → es ++ ds ≡ [] → IsWithin (m.root + 2) (tr ++ t) → n ≢ 0 → m.root ≡ 15 → UpRootLeaves m.me m.block r0 r (tr ++ t) (es ++ ds) (Err share.RootsFull)
  full n h same is none bound some last =
      let own = h.era in
      let left = h.room in
      record { same = same; room = omega arith; all = λ j l. more_set n h is some j (omega arith); events = none; bound = omega arith }

  further : (n : ℕ) → IsLooking m (m.root + 1) r0 rs tr es → core r ≡ core r0 → recovers r ≡ recovers r0 → n ≡ root_word c r0 m.root → es ++ ds ≡ [] → IsWithin (m.root + 2) (tr ++ t) → n ≢ 0 → m.root ≢ 15 → RootingKnows (record m { root = m.root + 1 }) Look r0 r (tr ++ t) (es ++ ds)
  further n h same agent is none bound some more =
      let low = h.low in
      record { may = h.may; inside = h.inside; low = omega arith; same = same; agent = agent; era = h.era; room = h.room; before = more_set n h is some; none = none; bound = omega arith }

  -- the step was made
  made : RootingKnows (record m { point = Step }) Step r0 rs tr es → TookUp c m.root m.block rs r t ds (Ok tt) × IsWithin (6 + redo_steps m.me.geometry.wide) t → UpRootLeaves m.me m.block r0 r (tr ++ t) (es ++ ds) (Ok m.root)
  made (h, empty) ((filled, told), short) =
      let own = h.era in
      let left = h.room in
      let bound = within_more (m.root + 2) (6 + redo_steps m.me.geometry.wide) tr t h.bound short in
      record {
        inside = h.inside;
        low = h.low;
        empty = empty;
        before = h.before;
        room = omega arith;
        filled = filled_core c m.root m.block rs r0 r (sym h.same) filled;
        events = ap (λ (x : List Event). x ++ ds) h.none ∙ told;
        bound = omega arith;
      }

  -- or refused
  counted : (d n : ℕ) → RootingKnows (record m { point = Step }) Step r0 rs tr es → TookUp c m.root m.block rs r t ds (Err (CountFull d n)) × IsWithin (6 + redo_steps m.me.geometry.wide) t → UpRootLeaves m.me m.block r0 r (tr ++ t) (es ++ ds) (Err (share.CountFull d n))
  counted d n (h, empty) ((block, full, read, untouched, none), short) =
      let own = h.era in
      let left = h.room in
      let low = h.low in
      let bound = within_more (m.root + 2) (6 + redo_steps m.me.geometry.wide) tr t h.bound short in
      record {
        room = omega arith;
        empty = (m.root, h.low, empty);
        block = block;
        full = full;
        read = (read.0, Contains-append_right tr t read.0 read.1, read.2, read.3);
        untouched = untouched_core c rs r0 r (sym h.same) untouched;
        events = ap (λ (x : List Event). x ++ ds) h.none ∙ none;
        bound = omega arith;
      }

pub rooting_laws : PlanLaws rooting_parts rooting_plan
rooting_laws =
    record {
      stays = λ m a. stays m m.point a;
      calls = λ m. calls m m.point;
      parts = λ m. parts m m.point;
      opens = λ m. opens m m.point;
      leads = λ m r0 rs r tr t es ds a h g held same. leads m m.point r0 rs r tr t es ds a h g held same;
    }
  where
    later : (m : RootingState) (n : ℕ) (q : Bool) → ◌≡◌ {A = Option (Result ℕ ShareFault)} (if q then Some (Err (share.EraSpent n)) else None) None → is_era (if q then m else record m { era = n; point = Look }).point ≡ false
    later m n true e = absurd (cc)
    later m n false e = refl

    stays : (m : RootingState) (y : RootingPoint) (a : RootingAnswer) → PlanStays rooting_parts rooting_plan (record m { point = y }) a
    stays m Era (First n) =
        let x : RootingState = record m { point = Era } in
        let q : Bool = nat_lt (2 ^ 47 - 3) n in
        record { same_me = era_same x n (λ (z : RootingState). z.me) refl q; same_line = refl; same_start = era_same x n rooting_steered.start refl q; started = later x n q }
    stays m Look (First n) =
        let x : RootingState = record m { point = Look } in
        record {
          same_me = look_same x (λ (z : RootingState). z.me) refl refl refl (n == 0) (m.root == 15);
          same_line = refl;
          same_start = look_same x rooting_steered.start refl refl refl (n == 0) (m.root == 15);
          started = λ e. look_same x (λ (z : RootingState). is_era z.point) refl refl refl (n == 0) (m.root == 15);
        }
    stays m Step (First n) =
        let x : RootingState = record m { point = Step } in
        record {
          same_me = look_same x (λ (z : RootingState). z.me) refl refl refl (n == 0) (m.root == 15);
          same_line = refl;
          same_start = look_same x rooting_steered.start refl refl refl (n == 0) (m.root == 15);
          started = λ e. look_same x (λ (z : RootingState). is_era z.point) refl refl refl (n == 0) (m.root == 15);
        }
    stays m Era (Second (Ok u)) = record { same_me = refl; same_line = refl; same_start = refl; started = λ e. absurd (cc) }
    stays m Look (Second (Ok u)) = record { same_me = refl; same_line = refl; same_start = refl; started = λ e. absurd (cc) }
    stays m Step (Second (Ok u)) = record { same_me = refl; same_line = refl; same_start = refl; started = λ e. absurd (cc) }
    stays m Era (Second (Err f)) = record { same_me = refl; same_line = refl; same_start = refl; started = λ e. absurd (cc) }
    stays m Look (Second (Err f)) = record { same_me = refl; same_line = refl; same_start = refl; started = λ e. absurd (cc) }
    stays m Step (Second (Err f)) = record { same_me = refl; same_line = refl; same_start = refl; started = λ e. absurd (cc) }

    calls : (m : RootingState) (y : RootingPoint) → IsCall rooting_parts rooting_plan (record m { point = y })
    calls m Era = record { me = refl; asks = refl }
    calls m Look = record { me = refl; asks = refl }
    calls m Step = record { me = refl; asks = first_going m.me m.era }

    -- a word step leaves the memo, with no event and one pair
    quiet : {es ds : List Event} → es ≡ [] → ds ≡ [] → es ++ ds ≡ []
    quiet {es} {ds} e d = ap (λ (x : List Event). x ++ ds) e ∙ d

    one : (t : Trail) → length t ≡ 1 → IsWithin 1 t
    one t e = omega arith

    -- by the own era
    by_era : (m : RootingState) (r0 rs r : Memo) (tr t : Trail) (es ds : List Event) (n : ℕ) → RootingKnows (record m { point = Era }) Era r0 rs tr es
        → WordLeaves (OwnLoaded (spot.Era m.me.who m.me.who)) (record { me = m.me; ask = rooting_ask m.me m.root Era; over = false }) rs r t ds n → IsHeld m.me r → recovers r ≡ recovers rs
        → Follows rooting_parts rooting_plan (record m { point = Era }) (First n) r0 r (tr ++ t) (es ++ ds)
    by_era m r0 rs r tr t es ds n (may, first, same, none, still) w held agent = go (nat_lt (2 ^ 47 - 3) n) refl
      where
        cored : core r ≡ core r0
        cored = w.found.left ∙ ap core same

        is : n ≡ own_word r0.own (spot.Era m.me.who m.me.who)
        is = w.found.found ∙ ap (λ (x : Memo). own_word x.own (spot.Era m.me.who m.me.who)) same

        within : IsWithin 1 (tr ++ t)
        within = subst (λ (x : Trail). IsWithin 1 (x ++ t)) (sym none) (one t w.one)

        go : (q : Bool) → nat_lt (2 ^ 47 - 3) n ≡ q
            → let x : RootingState = if q then record m { point = Era } else record m { era = n; point = Look } in
            Outcome (if q then Some (Err (share.EraSpent n)) else None) (RootingKnows x x.point r0 r (tr ++ t) (es ++ ds)) (UpRootLeaves m.me m.block r0 r (tr ++ t) (es ++ ds))
        go true e = record { same = cored; era = is; spent = ltb-true (2 ^ 47 - 3) n e; events = quiet still w.none; bound = within }
        go false e =
            let most = ltb-false (2 ^ 47 - 3) n e in
            let b = within in
            record {
              may = may;
              inside = reach_inside m.me m.block r held may.who (ap (λ (x : Memo). is_reached m.me.who x m.block) cored ∙ may.reach);
              low = omega arith;
              same = cored;
              agent = agent ∙ ap recovers same;
              era = is;
              room = omega arith;
              before = λ j l. absurd (omega arith);
              none = quiet still w.none;
              bound = omega arith;
            }

    -- by what a root names
    by_root : (m : RootingState) (r0 rs r : Memo) (tr t : Trail) (es ds : List Event) (n : ℕ) → RootingKnows (record m { point = Look }) Look r0 rs tr es
        → WordLeaves (OwnLoaded (spot.Root m.me.who m.root)) (record { me = m.me; ask = rooting_ask m.me m.root Look; over = false }) rs r t ds n → recovers r ≡ recovers rs
        → Follows rooting_parts rooting_plan (record m { point = Look }) (First n) r0 r (tr ++ t) (es ++ ds)
    by_root m r0 rs r tr t es ds n h w agent = go (n == 0) (m.root == 15) refl refl
      where
        cored : core r ≡ core r0
        cored = w.found.left ∙ h.same

        is : n ≡ root_word m.me.who r0 m.root
        is = w.found.found ∙ ap (λ (y : Memo). root_word m.me.who y m.root) h.same

        within : IsWithin (m.root + 2) (tr ++ t)
        within = let y = within_more (m.root + 1) 1 tr t h.bound (one t w.one) in omega arith

        go : (q z : Bool) → (n == 0) ≡ q → (m.root == 15) ≡ z
            → let y : RootingState = if q then record m { point = Step } else if z then record m { point = Look } else record m { root = m.root + 1; point = Look } in
            Outcome (if q then None else if z then Some (Err share.RootsFull) else None) (RootingKnows y y.point r0 r (tr ++ t) (es ++ ds)) (UpRootLeaves m.me m.block r0 r (tr ++ t) (es ++ ds))
        go true z e f = emptied (record m { point = Look }) r0 rs r tr t es ds n h cored (agent ∙ h.agent) is (quiet h.none w.none) within (eqb-true n 0 e)
        go false true e f = full (record m { point = Look }) r0 rs r tr t es ds n h cored is (quiet h.none w.none) within (eqb-false n 0 e) (eqb-true m.root 15 f)
        go false false e f = further (record m { point = Look }) r0 rs r tr t es ds n h cored (agent ∙ h.agent) is (quiet h.none w.none) within (eqb-false n 0 e) (eqb-false m.root 15 f)

    leads : (m : RootingState) (y : RootingPoint) (r0 rs r : Memo) (tr t : Trail) (es ds : List Event) (a : RootingAnswer) → RootingKnows (record m { point = y }) y r0 rs tr es → (rooting_part (record m { point = y }) y).leaves (rooting_call m y) rs r t ds a → IsHeld m.me r → recovers r ≡ recovers rs
        → Follows rooting_parts rooting_plan (record m { point = y }) a r0 r (tr ++ t) (es ++ ds)
    leads m Era r0 rs r tr t es ds (First n) h g held agent = by_era m r0 rs r tr t es ds n h g held agent
    leads m Look r0 rs r tr t es ds (First n) h g held agent = by_root m r0 rs r tr t es ds n h g agent
    leads m Step r0 rs r tr t es ds (Second (Ok done)) h g held agent = made (record m { point = Step }) r0 rs r tr t es ds h g
    leads m Step r0 rs r tr t es ds (Second (Err (EraSpent e))) h g held agent = absurd g.0
    leads m Step r0 rs r tr t es ds (Second (Err (CountFull d n))) h g held agent = counted (record m { point = Step }) r0 rs r tr t es ds d n h g
    leads m Era r0 rs r tr t es ds (Second a) h g held agent = absurd g
    leads m Look r0 rs r tr t es ds (Second a) h g held agent = absurd g
    leads m Step r0 rs r tr t es ds (First n) h g held agent = absurd g
