-- what is owed of what the home of an author names
use Rattle.std.proofs.Common.{◌≡◌, ◌≢◌, ℕ, ◌+◌, ◌%◌, ◌<◌, ◌≤◌, refl, sym, ap, ◌∙◌, subst, Bool, true, false, List, [], ◌∷◌, ◌++◌}
use Rattle.std.proofs.lemmas.Bool.{cond-false, eqb-false, eqb-true, ne_eqb}
use Rattle.std.specs.Prelude.{◌==◌, if◌then◌else◌, None, Some, Err}
use Rattle.shm_words.specs.Layout.{total_of, address_limit}
use Rattle.shm_graph.specs.{declared.{spot.Spot.TheVariants.{Hold, Home}, memo.Memo.Memo}, Asks.Trail, Core.core}
use Rattle.shm_graph.specs.{Events.Event, Laws.Outcome, Reach.is_reached, Views.own_word}
use Rattle.kind_parts.proofs.{Cores.core_cond, Words.{Own.hold_load, Shared.home_look}}
use Rattle.plans.specs.{Parts.IsHeld, Plans.{PlanLaws, PlanStays, Follows}}
use Rattle.plans.specs.Words.{word_control, word_part, word_part_laws}
use Rattle.shm_ref.specs.declared.home_of.HomeOfPoint.{HomeOfPoint, TheVariants.{Whose, Find}}
use Rattle.shm_ref.specs.{declared.home_of.HomeOfState.HomeOfState, Proved.AskedParts.{asked_part_laws, one_more}}
use Rattle.shm_ref.specs.Proved.ReadParts.{latch_by, looked_reached, reached_room, small_block}
use Rattle.shm_ref.specs.HomeOf.{HomeOfFound, HomeKnows, HomeOfLeaves, Found, IsFinding, find_ask, home_of_call, home_of_part, home_of_plan, hold_trail, is_whose}
use Rattle.shm_ref.specs.ReadParts.{MayAsk}

-- what a word step left, and what it asked
abbrev Leaves : HomeOfState → HomeOfPoint → Memo → Memo → Trail → List Event → ℕ → Type 0
Leaves m y = (home_of_part (record m { point = y }) y).leaves (home_of_call m y)

-- the looks with a home that isn't 0
looked : (c a n : ℕ) (m r : Memo) → core r ≡ core (if n == 0 then m else record m { looks = m.looks ++ record { block = n; from = Home a } ∷ [] }) → n ≢ 0 → r.looks ≡ m.looks ++ record { block = n; from = Home a } ∷ []
looked c a n m r e some = ap (λ (x : Memo). x.looks) e ∙ ap (λ (x : Memo). x.looks) (cond-false (n == 0) m (record m { looks = m.looks ++ record { block = n; from = Home a } ∷ [] }) (ne_eqb n 0 some))

pub home_of_laws : PlanLaws word_control home_of_plan
home_of_laws =
    record {
      stays = λ m n. stays m m.point n;
      calls = λ m. record { me = refl; asks = refl };
      parts = λ m. let part = word_part (is_whose m.point) m.me (find_ask m.me m.author m.point) (HomeOfFound m m.point) in
          asked_part_laws (is_whose m.point) word_control part (word_part_laws (is_whose m.point) m.me (find_ask m.me m.author m.point) (HomeOfFound m m.point));
      opens = λ m. opens m m.point;
      leads = λ m r0 rs r tr t es ds n h w held same. leads m m.point r0 rs r tr t es ds n h w held;
    }
  where
    opens : (m : HomeOfState) (y : HomeOfPoint) (r0 r : Memo) (tr : Trail) (es : List Event) → HomeKnows (record m { point = y }) y r0 r tr es → (home_of_plan.part (record m { point = y })).needs (home_of_call m y) r
    opens m Whose r0 r tr es h = hold_load true m.me r h.0.may.who (λ e. ap (λ (x : Memo). x.op) h.2 ∙ h.0.may.idle)
    opens m Find r0 r tr es h = home_look false m.me r h.may.may.who m.author h.author (ap (λ (x : Memo). x.latch) h.same ∙ h.held)

    stays : (m : HomeOfState) (y : HomeOfPoint) (n : ℕ) → PlanStays word_control home_of_plan (record m { point = y }) n
    stays m Whose n = record { same_me = refl; same_line = refl; same_start = refl; started = λ e. refl }
    stays m Find n = record { same_me = refl; same_line = refl; same_start = refl; started = λ e. absurd (cc) }

    -- the hold word told the latch, or another one
    told : (m : HomeOfState) (r0 r : Memo) (tr : Trail) (es : List Event) (n : ℕ) → MayAsk m.me r0 → m.author < m.me.geometry.clients → n ≡ own_word r0.own (Hold m.me.who) → core r ≡ core r0 → es ≡ [] → tr ≡ hold_trail m.me m.author n
        → (q : Bool) → (q ≡ true → n ≡ m.author + 1) → (q ≡ false → n ≢ m.author + 1) → Outcome (if q then None else Some (Err (record {}))) (IsFinding m.me m.author r0 r tr es) (HomeOfLeaves (record m { point = Whose }) r0 r tr es)
    told m r0 r tr es n may low found cored none trail true mine other =
        record {
          may = may;
          author = low;
          held = latch_by r0.latch m.author (sym may.hold ∙ (sym found ∙ mine refl));
          same = cored;
          none = none;
          trail = trail ∙ ap (hold_trail m.me m.author) (mine refl);
        }
    told m r0 r tr es n may low found cored none trail false mine other =
        record { other = λ e. other refl (found ∙ e); memo = cored; none = none; trail = trail ∙ ap (hold_trail m.me m.author) found }

    leads : (m : HomeOfState) (y : HomeOfPoint) (r0 rs r : Memo) (tr t : Trail) (es ds : List Event) (n : ℕ) → HomeKnows (record m { point = y }) y r0 rs tr es → Leaves m y rs r t ds n → IsHeld m.me r → Follows word_control home_of_plan (record m { point = y }) n r0 r (tr ++ t) (es ++ ds)
    leads m Whose r0 rs r tr t es ds n h w held =
        told m r0 r (tr ++ t) (es ++ ds) n h.0 h.1 (w.0.found.found ∙ ap (λ (x : Memo). own_word x.own (Hold m.me.who)) h.2) (w.0.found.left ∙ ap core h.2)
        (ap (λ (x : List Event). x ++ ds) h.4 ∙ w.0.none)
        (one_more (find_ask m.me m.author Whose) n n tr [] t h.3 refl w.1)
        (n == m.author + 1) (eqb-true n (m.author + 1)) (eqb-false n (m.author + 1))
    leads m Find r0 rs r tr t es ds n h w held =
        let left : core r ≡ core (if n == 0 then r0 else record r0 { looks = r0.looks ++ record { block = n; from = Home m.author } ∷ [] }) =
        w.0.found.left ∙ core_cond (n == 0) rs (record rs { looks = rs.looks ++ record { block = n; from = Home m.author } ∷ [] }) r0 (record r0 { looks = r0.looks ++ record { block = n; from = Home m.author } ∷ [] }) h.same (ap (λ (x : Memo). core (record x { looks = x.looks ++ record { block = n; from = Home m.author } ∷ [] })) h.same) in
        let reach : n ≢ 0 → is_reached m.me.who r n ≡ true = λ some. looked_reached m.me.who (Home m.author) n r0 r (looked m.me.who m.author n r0 r left some) in
        let room : n ≢ 0 → n + 2 ≤ total_of m.me.geometry = λ some. reached_room m.me n r h.may.may.who held (reach some) in
        let small : n % address_limit ≡ n = small_block m.me n h.may.may.geometry room in
        subst (λ b. Found m.me m.author r0 r (tr ++ t) (es ++ ds) b) (sym small)
        (record {
          held = h.held;
          own = λ mine. w.0.found.found mine ∙ ap (λ (x : Memo). own_word x.own (Home m.author)) h.same;
          memo = left;
          reach = reach;
          room = room;
          none = ap (λ (x : List Event). x ++ ds) h.none ∙ w.0.none;
          trail = one_more (find_ask m.me m.author Find) n n tr (hold_trail m.me m.author (m.author + 1)) t h.trail refl w.1;
        })
