-- what is owed of taking a latch
use Rattle.std.proofs.Common.{◌≡◌, ◌≢◌, ℕ, ◌+◌, ◌%◌, ◌<◌, ◌≤◌, refl, ap, ◌∙◌, arith, Bool, true, false, List, [], ◌∷◌, ◌++◌, inl, inr}
use Rattle.std.proofs.lemmas.Bool.{cases_eq, cond-true, eqb-true, eqb-false, lt-ltb}
use Rattle.std.specs.Prelude.{◌-◌, ◌==◌, if◌then◌else◌, Some, None, Ok}
use Rattle.shm_graph.specs.declared.{ask.Me.Me, spot.Spot.TheVariants.{Hold, Latch}, memo.{Memo.Memo, Step.Step}}
use Rattle.shm_graph.specs.{Asks.{Trail, pair}, Blocks.classes, Changes.{called, with_call, with_end}, Events.Event}
use Rattle.shm_graph.specs.{Laws.{Outcome, framed}, Spots.spot_at, Views.own_word, Core.core}
use Rattle.shm_graph.proofs.{StepKinds.LoadKeeping.lost_kept, Spots.{SpotPlaces.spot-place, Spotting.same_spot_self}}
use Rattle.shm_words.specs.Layout.{address}
use Rattle.shm_words.specs.declared.place.Place.TheVariants as place
use Rattle.kind_parts.proofs.{OwnStores.hold_stored, PageSteps.latched, Cores.{called_core, here_same}}
use Rattle.plans.specs.{Plans.{PlanLaws, PlanStays, Follows}, Words.{word_control, word_part, word_part_laws, IsWord}}
use Rattle.plans.specs.Proved.WordSteps.{word_at}
use Rattle.shm_ref.specs.declared.hold.{HoldPoint.{HoldPoint, TheVariants.{Want, Take, Back}}, HoldState.HoldState}
use Rattle.shm_ref.specs.Proved.AskedParts.{asked_part_laws, one_more}
use Rattle.shm_ref.specs.Hold.Control.{holding, hold_ask, hold_call, is_want, hold_steered}
use Rattle.shm_ref.specs.Hold.{MayTakeLatch, IsWanted, wants, HoldKnows, HoldLeaves, HoldFound, hold_part, hold_plan}

-- ---- the word steps

module _ (m : HoldState) (r0 r : Memo) (may : MayTakeLatch m.me m.author r0) where
  abbrev c : ℕ
  c = m.me.who

  hold_there : (class : ℕ → ℕ → ℕ) → spot_at m.me.geometry class (address m.me.geometry (place.Hold c)) ≡ Hold c
  hold_there class = spot-place m.me.geometry class (place.Hold c) (lt-ltb c m.me.geometry.clients may.who)

  latch_there : (class : ℕ → ℕ → ℕ) → spot_at m.me.geometry class (address m.me.geometry (place.Latch m.author)) ≡ Latch m.author
  latch_there class = spot-place m.me.geometry class (place.Latch m.author) (lt-ltb m.author m.me.geometry.clients may.author)

  -- the hold word is stored, as the first word step or later
  pub want_word : core r ≡ core r0 → IsWord true m.me (hold_ask m.me m.author Want) (HoldFound m Want) (hold_call m Want) r
  want_word same =
      word_at true m.me (hold_ask m.me m.author Want) (HoldFound m Want) r (Hold c) hold_there (λ e. cc) refl
      (λ w rs f st stands at. hold_stored m.me w rs f [] (address m.me.geometry (place.Hold c)) (m.author + 1) st (hold_there (classes w))
      (record { here = here_same r0 (rs c) (ap (λ (x : Memo). x.status) at ∙ ap (λ (x : Memo). x.status) same) may.here; none = ap (λ (x : Memo). x.latch) at ∙ (ap (λ (x : Memo). x.latch) same ∙ may.none); most = (let l = may.author in omega arith) }))
      (λ w rs f st stood at. (ap (λ (x : Memo). core (wants c (m.author + 1) x)) (called_core (rs c) (framed m.me (hold_ask m.me m.author Want) f 0)) ∙ ap (λ (x : Memo). core (wants c (m.author + 1) x)) at, refl))

  module _ (es : List Event) (h : IsWanted m.me m.author r0 r es) where
    -- the latch is exchanged: it was nobody's, or another's
    pub take_word : IsWord false m.me (hold_ask m.me m.author Take) (HoldFound m Take) (hold_call m Take) r
    take_word =
        word_at false m.me (hold_ask m.me m.author Take) (HoldFound m Take) r (Latch m.author) latch_there (λ e. cc) refl
        (λ w rs f st stands at. elim (cases_eq (w (Latch m.author)) 0) [
          | inl e ↦ latched m.me w rs f [] (address m.me.geometry (place.Latch m.author)) m.author st (stands refl) (latch_there (classes w)) e
              (record {
                here = here_same r0 (rs c) (ap (λ (x : Memo). x.status) at ∙ ap (λ (x : Memo). x.status) h.same) may.here;
                idle = ap (λ (x : Memo). x.op) at ∙ (ap (λ (x : Memo). x.op) h.same ∙ may.idle);
                none = ap (λ (x : Memo). x.latch) at ∙ (ap (λ (x : Memo). x.latch) h.same ∙ may.none);
                wants = ap (λ (x : Memo). own_word x.own (Hold c)) at ∙ (ap (λ (x : Memo). own_word x.own (Hold c)) h.same ∙ cond-true _ _ _ (same_spot_self (Hold c)));
              })
          | inr other ↦ lost_kept m.me w rs f [] (address m.me.geometry (place.Latch m.author)) 0 (c + 1) (λ i x. Unit {0}) (Latch m.author) st (latch_there (classes w)) refl tt other tt
        ])
        (λ w rs f st stood at. let t : Step = framed m.me (hold_ask m.me m.author Take) f (w (Latch m.author)) in (found f.ends (called (rs c) t) (called_core (rs c) t ∙ ap core at) (w (Latch m.author) == 0), st.held.sizes.latches m.author))
      where
        found : (ends : Bool) (x : Memo) → core x ≡ core r → (q : Bool)
            → core (with_end ends (with_call x (if q then record x { latch = Some m.author } else x))) ≡ core (if q then record r { latch = Some m.author } else r)
        found ends x e true = ap (λ (y : Memo). core (record y { latch = Some m.author })) e
        found ends x e false = e

    -- the hold word is stored as 0
    pub back_word : IsWord false m.me (hold_ask m.me m.author Back) (HoldFound m Back) (hold_call m Back) r
    back_word =
        word_at false m.me (hold_ask m.me m.author Back) (HoldFound m Back) r (Hold c) hold_there (λ e. cc) refl
        (λ w rs f st stands at. hold_stored m.me w rs f [] (address m.me.geometry (place.Hold c)) 0 st (hold_there (classes w))
        (record { here = here_same r0 (rs c) (ap (λ (x : Memo). x.status) at ∙ ap (λ (x : Memo). x.status) h.same) may.here; none = ap (λ (x : Memo). x.latch) at ∙ (ap (λ (x : Memo). x.latch) h.same ∙ may.none); most = omega arith }))
        (λ w rs f st stood at. (ap (λ (x : Memo). core (wants c 0 x)) (called_core (rs c) (framed m.me (hold_ask m.me m.author Back) f 0)) ∙ ap (λ (x : Memo). core (wants c 0 x)) at, refl))

-- ---- the plan

-- the state after the latch was found to be another's
abbrev busy : HoldState → ℕ → HoldState
busy m n = record m { holder = (n - 1) % 256; point = Back }

-- what both states after an exchange are alike in
same : (m : HoldState) (n : ℕ) {T : Type 0} (f : HoldState → T) {v : T} → f (record m { point = Take }) ≡ v → f (busy m n) ≡ v → (q : Bool) → f (if q then record m { point = Take } else busy m n) ≡ v
same m n f a b true = a
same m n f a b false = b

opens : (m : HoldState) (y : HoldPoint) (r0 r : Memo) (tr : Trail) (es : List Event) → HoldKnows (record m { point = y }) y r0 r tr es → (hold_plan.part (record m { point = y })).needs (hold_call m y) r
opens m Want r0 r tr es h = want_word (record m { point = Want }) r0 r h.0 (ap core h.1)
opens m Take r0 r tr es h = take_word (record m { point = Take }) r0 r h.0.may es h.0
opens m Back r0 r tr es h = back_word (record m { point = Back }) r0 r h.0.may es h.0

-- a client's number from the word that names it
number_of : (n k : ℕ) → n ≢ 0 → n ≤ k → k ≤ 16 → ((n - 1) % 256 < k) × (n ≡ (n - 1) % 256 + 1)
number_of n k some most few = (omega arith, omega arith)

-- what a word step left, and what it asked
abbrev Leaves : HoldState → HoldPoint → Memo → Memo → Trail → List Event → ℕ → Type 0
Leaves m y = (hold_part (record m { point = y }) y).leaves (hold_call m y)

-- the exchange found nobody's latch, or another's
took : (m : HoldState) (r0 rs r : Memo) (es : List Event) (tr : Trail) (n : ℕ) → IsWanted m.me m.author r0 rs es → n ≤ m.me.geometry.clients → ((x : ℕ) → n ≡ x → tr ≡ pair (hold_ask m.me m.author Want) 0 ∷ pair (hold_ask m.me m.author Take) x ∷ [])
    → (q : Bool) → (q ≡ true → n ≡ 0) → (q ≡ false → n ≢ 0) → core r ≡ core (if q then record rs { latch = Some m.author } else rs)
    → let m2 : HoldState = if q then record m { point = Take } else busy m n in Outcome (if q then Some (Ok tt) else None) (HoldKnows m2 m2.point r0 r tr es) (HoldLeaves (holding m.me m.author) r0 r tr es)
took m r0 rs r es tr n h most trail true free held found = record { memo = found ∙ ap (λ (x : Memo). core (record x { latch = Some m.author })) h.same; none = h.none; trail = trail 0 (free refl) }
took m r0 rs r es tr n h most trail false free held found =
    let few = h.may.geometry.clients in
    let number = number_of n m.me.geometry.clients (held refl) most (omega arith) in
    (record { may = h.may; same = found ∙ h.same; none = h.none }, number.0, trail ((n - 1) % 256 + 1) number.1)

-- what was wanted still is, with no more events
quiet_still : (me : Me) (a : ℕ) (r0 r : Memo) (es ds : List Event) → IsWanted me a r0 r es → ds ≡ [] → IsWanted me a r0 r (es ++ ds)
quiet_still me a r0 r es ds h e = record { may = h.may; same = h.same; none = ap (λ (x : List Event). x ++ ds) h.none ∙ e }

-- what is known before the first word step
pub hold_begin : (me : Me) (a : ℕ) (r : Memo) → MayTakeLatch me a r → HoldKnows (holding me a) Want r r [] []
hold_begin me a r may = (may, refl, refl, refl)

pub hold_laws : PlanLaws word_control hold_plan
hold_laws =
    record {
      stays = λ m n. stays m m.point n;
      calls = λ m. record { me = refl; asks = refl };
      parts = λ m. let part = word_part (is_want m.point) m.me (hold_ask m.me m.author m.point) (HoldFound m m.point) in
          asked_part_laws (is_want m.point) word_control part (word_part_laws (is_want m.point) m.me (hold_ask m.me m.author m.point) (HoldFound m m.point));
      opens = λ m. opens m m.point;
      leads = λ m r0 rs r tr t es ds n h w held same. leads m m.point r0 rs r tr t es ds n h w;
    }
  where
    stays : (m : HoldState) (y : HoldPoint) (n : ℕ) → PlanStays word_control hold_plan (record m { point = y }) n
    stays m Want n = record { same_me = refl; same_line = refl; same_start = refl; started = λ e. refl }
    stays m Back n = record { same_me = refl; same_line = refl; same_start = refl; started = λ e. absurd (cc) }
    stays m Take n = record { same_me = same m n (λ (x : HoldState). x.me) refl refl (n == 0); same_line = refl; same_start = same m n hold_steered.start refl refl (n == 0); started = λ e. same m n (λ (x : HoldState). is_want x.point) refl refl (n == 0) }

    leads : (m : HoldState) (y : HoldPoint) (r0 rs r : Memo) (tr t : Trail) (es ds : List Event) (n : ℕ) → HoldKnows (record m { point = y }) y r0 rs tr es → Leaves m y rs r t ds n → Follows word_control hold_plan (record m { point = y }) n r0 r (tr ++ t) (es ++ ds)
    leads m Want r0 rs r tr t es ds n h w = (
      record {
        may = h.0;
        same = w.0.found.0 ∙ ap (λ (x : Memo). core (wants m.me.who (m.author + 1) x)) h.1;
        none = ap (λ (x : List Event). x ++ ds) h.3 ∙ w.0.none;
      },
      one_more (hold_ask m.me m.author Want) n 0 tr [] t h.2 w.0.found.1 w.1,
    )
    leads m Back r0 rs r tr t es ds n h w =
        record {
          memo = w.0.found.0 ∙ ap (λ (x : Memo). core (wants m.me.who 0 x)) h.0.same;
          holder = h.1;
          none = ap (λ (x : List Event). x ++ ds) h.0.none ∙ w.0.none;
          trail = one_more (hold_ask m.me m.author Back) n 0 tr (pair (hold_ask m.me m.author Want) 0 ∷ pair (hold_ask m.me m.author Take) (m.holder + 1) ∷ []) t h.2 w.0.found.1 w.1;
        }
    leads m Take r0 rs r tr t es ds n h w =
        took m r0 rs r (es ++ ds) (tr ++ t) n (quiet_still m.me m.author r0 rs es ds h.0 w.0.none) w.0.found.1
        (λ x e. one_more (hold_ask m.me m.author Take) n x tr (pair (hold_ask m.me m.author Want) 0 ∷ []) t h.1 e w.1)
        (n == 0) (eqb-true n 0) (eqb-false n 0) w.0.found.0
