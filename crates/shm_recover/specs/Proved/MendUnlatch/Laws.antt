-- what is owed of giving back a latch by a recoverer
use Rattle.std.proofs.Common.{◌≡◌, ◌≢◌, ℕ, ◌+◌, ◌%◌, ◌<◌, ◌≤◌, refl, sym, ap, ◌∙◌, subst, arith, Bool, true, false, cond, eqb, List, [], ◌++◌}
use Rattle.std.proofs.{Math.Nat.mod-eq_of_lt, lemmas.Bool.{cond-false, cond-true, eq-eqb, eqb-false, eqb-true}}
use Rattle.std.specs.Prelude.{◌-◌, Option, Some, None}
use Rattle.shm_graph.specs.declared.{ask.Me.Me, spot.Spot.{Spot, TheVariants.{Hold, Latch}}, memo.Memo.Memo}
use Rattle.shm_graph.specs.{declared.memo.Op.TheVariants.Nothing, Agents.recovers, Asks.{Trail, IsWithin}, Core.core}
use Rattle.shm_graph.specs.{Events.Event, Laws.Outcome, Ops.IsUncommitted, Spots.same_spot, Views.own_word}
use Rattle.shm_graph.specs.declared.spot.Spot.TheVariants as spot
use Rattle.shm_graph.proofs.Spots.Spotting.{same_spot_self}
use Rattle.plans.specs.{Proved.CallTells.within_more, Parts.IsHeld, Plans.{Follows, PlanLaws, PlanStays}}
use Rattle.plans.specs.Words.{WordLeaves, word_control, word_part_laws}
use Rattle.kind_parts.proofs.{Cores.here_same, Words.{Own.{hold_end, hold_store}, Shared.{latch_give, latch_load}}}
use Rattle.shm_recover.specs.declared.mend_unlatch.MendUnlatchPoint.{MendUnlatchPoint}
use Rattle.shm_recover.specs.declared.mend_unlatch.MendUnlatchPoint.TheVariants.{Whose, Look, Give, Back}
use Rattle.shm_recover.specs.{declared.mend_unlatch.MendUnlatchState.MendUnlatchState, MendRest.{bare, is_hold}}
use Rattle.shm_recover.specs.MendUnlatch.Control.{is_whose, unlatching, unlatching_ask, unlatching_call, unlatching_steered}
use Rattle.shm_recover.specs.MendUnlatch.{MayUnlatchDead, UnlatchingFound, UnlatchingKnows, Unlatched, unlatching_part, unlatching_plan}

-- ---- what a held state shows of the latch

-- the hold word names a client's latch or none, and the latch that is held
hold_names : (me : Me) (m : Memo) → IsHeld me m → me.who < me.geometry.clients → (own_word m.own (Hold me.who) ≤ me.geometry.clients) × ((b : ℕ) → m.latch ≡ Some b → own_word m.own (Hold me.who) ≡ b + 1)
hold_names me m (w, r, h, same) l =
    subst (λ (x : Memo). (own_word x.own (Hold me.who) ≤ me.geometry.clients) × ((b : ℕ) → x.latch ≡ Some b → own_word x.own (Hold me.who) ≡ b + 1)) same (
      subst (λ n. n ≤ me.geometry.clients) (sym mine) (h.sizes.holds me.who),
      λ b e. mine ∙ ((h.latch me.who l).some b e).1,
    )
  where
    mine : own_word (r me.who).own (Hold me.who) ≡ w (Hold me.who)
    mine = h.mine me.who l (Hold me.who) (eq-eqb me.who me.who refl)

-- no latch is held where none that is held can be
none_held : (o : Option ℕ) → ((b : ℕ) → o ≢ Some b) → o ≡ None
none_held None never = refl
none_held (Some b) never = absurd (never b refl)

-- whose latch it is, from the hold word
author_of : (n a k : ℕ) → n ≡ a + 1 → a < k → (n - 1) % k ≡ a
author_of n a k e l = let less : n - 1 ≡ a = omega arith in ap (λ x. x % k) less ∙ mod-eq_of_lt l

-- no word but the hold word is it
other_word : (c : ℕ) (p : Spot) → is_hold p ≡ false → same_spot (Hold c) p ≡ false
other_word c (spot.Hold d) e = absurd (cc)
other_word c _ e = refl

-- ---- the word steps

opens : (m : MendUnlatchState) (y : MendUnlatchPoint) (r0 r : Memo) (tr : Trail) (es : List Event) → UnlatchingKnows (record m { point = y }) y r0 r tr es → (unlatching_part (record m { point = y }) y).needs (unlatching_call m y) r
opens m Whose r0 r tr es (may, same, none, quiet) = hold_end true m.me r may.who (λ e. subst (λ (x : Memo). IsUncommitted x.op) (sym same) may.ended)
opens m Look r0 r tr es (h, bound) = latch_load false m.me r h.may.who m.author h.author
opens m Give r0 r tr es (h, holds, bound) =
    latch_give false m.me r h.may.who m.author h.author refl
    (record { here = here_same r0 r (ap (λ (x : Memo). x.status) h.same) h.may.here; op = ap (λ (x : Memo). x.op) h.same; latch = holds })
opens m Back r0 r tr es (h, bound) =
    hold_store false m.me r h.may.who 0
    (record { here = here_same r0 r (ap (λ (x : Memo). x.status) h.rest) h.may.here; none = h.latch; most = omega arith })

-- ---- the plan

-- what is known before the first word step
pub unlatching_begin : (me : Me) (r : Memo) → MayUnlatchDead me r → UnlatchingKnows (unlatching me) Whose r r [] []
unlatching_begin me r may = (may, refl, refl, refl)

pub unlatching_laws : PlanLaws word_control unlatching_plan
unlatching_laws =
    record {
      stays = λ m n. stays m m.point n;
      calls = λ m. record { me = refl; asks = refl };
      parts = λ m. word_part_laws (is_whose m.point) m.me (unlatching_ask m.me m.author m.point) (UnlatchingFound m m.point);
      opens = λ m. opens m m.point;
      leads = λ m r0 rs r tr t es ds n h w held same. leads m m.point r0 rs r tr t es ds n h w held;
    }
  where
    alike : {T : Type 0} (f : MendUnlatchState → T) (q : Bool) (m n : MendUnlatchState) {v : T} → f m ≡ v → f n ≡ v → f (cond q m n) ≡ v
    alike f true m n a b = a
    alike f false m n a b = b

    going : (m : MendUnlatchState) (a : ℕ) (q : Bool) → ◌≡◌ {A = Option (Unit {0})} (cond q (Some tt) None) None → is_whose (cond q m (record m { author = a; point = Look })).point ≡ false
    going m a true e = absurd (cc)
    going m a false e = refl

    stays : (m : MendUnlatchState) (y : MendUnlatchPoint) (n : ℕ) → PlanStays word_control unlatching_plan (record m { point = y }) n
    stays m Whose n =
        let p : MendUnlatchState = record m { point = Whose } in
        let q : MendUnlatchState = record m { author = (n - 1) % m.me.geometry.clients; point = Look } in
        record { same_me = alike (λ (x : MendUnlatchState). x.me) (eqb n 0) p q refl refl; same_line = refl; same_start = alike unlatching_steered.start (eqb n 0) p q refl refl; started = going p ((n - 1) % m.me.geometry.clients) (eqb n 0) }
    stays m Look n = record { same_me = refl; same_line = refl; same_start = refl; started = λ e. later (eqb n (m.me.who + 1)) }
      where
        later : (q : Bool) → is_whose (cond q Give Back) ≡ false
        later true = refl
        later false = refl
    stays m Give n = record { same_me = refl; same_line = refl; same_start = refl; started = λ e. refl }
    stays m Back n = record { same_me = refl; same_line = refl; same_start = refl; started = λ e. absurd (cc) }

    quiet : (es ds : List Event) → es ≡ [] → ds ≡ [] → es ++ ds ≡ []
    quiet es ds a b = ap (λ (x : List Event). x ++ ds) a ∙ b

    Leaves : MendUnlatchState → MendUnlatchPoint → Memo → Memo → Trail → List Event → ℕ → Type 0
    Leaves m y = WordLeaves (UnlatchingFound (record m { point = y }) y) (unlatching_call m y)

    leads : (m : MendUnlatchState) (y : MendUnlatchPoint) (r0 rs r : Memo) (tr t : Trail) (es ds : List Event) (n : ℕ) → UnlatchingKnows (record m { point = y }) y r0 rs tr es → Leaves m y rs r t ds n → IsHeld m.me r
        → Follows word_control unlatching_plan (record m { point = y }) n r0 r (tr ++ t) (es ++ ds)
    leads m Whose r0 rs r tr t es ds n (may, begun, empty, still) w held = go (eqb n 0) (eqb-true n 0) (eqb-false n 0)
      where
        c : ℕ
        c = m.me.who

        same : core r ≡ core (record r0 { op = Nothing })
        same = w.found.left ∙ ap core (cond-true (recovers rs) (record rs { op = Nothing }) rs (ap recovers begun ∙ may.recoverer)) ∙ ap (λ (x : Memo). core (record x { op = Nothing })) begun

        is : n ≡ own_word r.own (Hold c)
        is = w.found.found ∙ (ap (λ (x : Memo). own_word x.own (Hold c)) begun ∙ sym (ap (λ (x : Memo). own_word x.own (Hold c)) same))

        named : (own_word r.own (Hold c) ≤ m.me.geometry.clients) × ((b : ℕ) → r.latch ≡ Some b → own_word r.own (Hold c) ≡ b + 1)
        named = hold_names m.me r held may.who

        one : IsWithin 1 (tr ++ t)
        one = let z = w.one in subst (λ (x : Trail). IsWithin 1 (x ++ t)) (sym empty) (omega arith)

        author : ℕ
        author = (n - 1) % m.me.geometry.clients

        fewer : n ≢ 0 → (author < m.me.geometry.clients) × (n ≡ author + 1)
        fewer some =
            let most : n ≤ m.me.geometry.clients = subst (λ x. x ≤ m.me.geometry.clients) (sym is) named.0 in
            let there : (n - 1) % m.me.geometry.clients ≡ n - 1 = mod-eq_of_lt (omega arith) in
            (omega arith, omega arith)

        only : n ≢ 0 → (b : ℕ) → r.latch ≡ Some b → b ≡ author
        only some b holds = let told = is ∙ named.1 b holds in let y = (fewer some).1 in omega arith

        go : (q : Bool) → (q ≡ true → n ≡ 0) → (q ≡ false → n ≢ 0)
            → let p : MendUnlatchState = record m { point = Whose } in let m2 : MendUnlatchState = cond q p (record p { author = author; point = Look }) in Outcome {A = Unit {0}} (cond q (Some tt) None) (UnlatchingKnows m2 m2.point r0 r (tr ++ t) (es ++ ds)) (λ u. Unlatched m.me r0 r (tr ++ t) (es ++ ds))
        go true none some =
            record {
              op = ap (λ (x : Memo). x.op) same;
              latch = none_held r.latch (λ b e. (let y = is in let z = named.1 b e in let x = none refl in absurd (omega arith)));
              hold = sym is ∙ none refl;
              rest = ap bare same;
              dying = ap (λ (x : Memo). x.dying) same;
              own = λ p other. ap (λ (x : Memo). own_word x.own p) same;
              none = quiet es ds still w.none;
              bound = (let z = one in omega arith);
            }
        go false none some = (record { may = may; author = (fewer (some refl)).0; same = same; only = only (some refl); none = quiet es ds still w.none }, one)
    leads m Look r0 rs r tr t es ds n (h, bound) w held = go (eqb n (m.me.who + 1)) (eqb-true n (m.me.who + 1)) (eqb-false n (m.me.who + 1))
      where
        latch_is : r.latch ≡ rs.latch
        latch_is = ap (λ (x : Memo). x.latch) w.found.left

        two : IsWithin 2 (tr ++ t)
        two = within_more 1 1 tr t bound (let z = w.one in omega arith)

        go : (q : Bool) → (q ≡ true → n ≡ m.me.who + 1) → (q ≡ false → n ≢ m.me.who + 1) → let m2 : MendUnlatchState = record m { point = cond q Give Back } in UnlatchingKnows m2 m2.point r0 r (tr ++ t) (es ++ ds)
        go true mine other = (
          record { may = h.may; author = h.author; same = w.found.left ∙ h.same; only = λ b e. h.only b (sym latch_is ∙ e); none = quiet es ds h.none w.none },
          latch_is ∙ w.found.found.0 (mine refl),
          two,
        )
        go false mine other = (
          record {
            may = h.may;
            op = ap (λ (x : Memo). x.op) (w.found.left ∙ h.same);
            latch = latch_is ∙ none_held rs.latch (λ b e. other refl (w.found.found.1 (subst (λ a. rs.latch ≡ Some a) (h.only b e) e)));
            rest = ap bare (w.found.left ∙ h.same);
            dying = ap (λ (x : Memo). x.dying) (w.found.left ∙ h.same);
            own = ap (λ (x : Memo). x.own) (w.found.left ∙ h.same);
            none = quiet es ds h.none w.none;
          },
          (let z = two in omega arith),
        )
    leads m Give r0 rs r tr t es ds n (h, holds, bound) w held = (
      record {
        may = h.may;
        op = ap (λ (x : Memo). x.op) w.found.left ∙ ap (λ (x : Memo). x.op) h.same;
        latch = ap (λ (x : Memo). x.latch) w.found.left;
        rest = ap bare w.found.left ∙ ap bare h.same;
        dying = ap (λ (x : Memo). x.dying) w.found.left ∙ ap (λ (x : Memo). x.dying) h.same;
        own = ap (λ (x : Memo). x.own) w.found.left ∙ ap (λ (x : Memo). x.own) h.same;
        none = quiet es ds h.none w.none;
      },
      within_more 2 1 tr t bound (let z = w.one in omega arith),
    )
    leads m Back r0 rs r tr t es ds n (h, bound) w held =
        record {
          op = ap (λ (x : Memo). x.op) w.found.left ∙ h.op;
          latch = ap (λ (x : Memo). x.latch) w.found.left ∙ h.latch;
          hold = ap (λ (x : Memo). own_word x.own (Hold m.me.who)) w.found.left ∙ cond-true _ _ _ (same_spot_self (Hold m.me.who));
          rest = ap bare w.found.left ∙ h.rest;
          dying = ap (λ (x : Memo). x.dying) w.found.left ∙ h.dying;
          own = λ p other. ap (λ (x : Memo). own_word x.own p) w.found.left ∙ (cond-false (same_spot (Hold m.me.who) p) 0 (own_word rs.own p) (other_word m.me.who p other) ∙ ap (λ ws. own_word ws p) h.own);
          none = quiet es ds h.none w.none;
          bound = within_more 3 1 tr t bound (let z = w.one in omega arith);
        }
