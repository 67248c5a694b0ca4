-- what is owed of giving back a latch
use Rattle.std.proofs.Common.{◌≡◌, ℕ, ◌+◌, ◌%◌, ◌<◌, refl, sym, ap, ◌∙◌, subst, arith, Bool, true, false, List, [], ◌++◌}
use Rattle.std.proofs.{Math.Nat.mod-eq_of_lt, lemmas.Bool.lt-ltb}
use Rattle.std.specs.Prelude.{◌-◌, ◌&&◌, ◌==◌, if◌then◌else◌, Some}
use Rattle.shm_words.specs.Layout.{address}
use Rattle.shm_words.specs.declared.place.Place.TheVariants as place
use Rattle.shm_graph.specs.declared.{spot.Spot.TheVariants.{Hold, Latch}, memo.{Memo.Memo, Op.Op}}
use Rattle.shm_graph.specs.{declared.memo.Op.TheVariants.Nothing, Agents.recovers, Asks.Trail, Blocks.classes}
use Rattle.shm_graph.specs.{Changes.{called, with_call, with_end}, Events.Event, Laws.framed, Ops.IsUncommitted}
use Rattle.shm_graph.specs.{Reach.unlatched, Spots.spot_at, Core.core}
use Rattle.shm_graph.proofs.Spots.SpotPlaces.{spot-place}
use Rattle.kind_parts.proofs.{LatchBack.latch_back, OwnStores.hold_stored, Cores.{called_core, here_same}}
use Rattle.plans.specs.{Plans.{PlanLaws, PlanStays, Follows}, Words.{word_control, word_part, word_part_laws, IsWord}}
use Rattle.plans.specs.Proved.WordSteps.{load_at, word_at}
use Rattle.shm_ref.specs.declared.release.ReleasePoint.{ReleasePoint, TheVariants.{Whose, Give, Back}}
use Rattle.shm_ref.specs.{declared.release.ReleaseState.ReleaseState, Proved.AskedParts.{asked_part_laws, one_more}}
use Rattle.shm_ref.specs.Hold.{wants}
use Rattle.shm_ref.specs.Release.{release_ask, release_call, is_whose, MayRelease, IsReleasing, whose_trail, given_trail, ReleaseKnows, ReleaseFound, release_part, release_plan}

-- ---- the word steps

module _ (m : ReleaseState) (a : ℕ) (r0 : Memo) (may : MayRelease m.me a r0) where
  abbrev c : ℕ
  c = m.me.who

  hold_there : (class : ℕ → ℕ → ℕ) → spot_at m.me.geometry class (address m.me.geometry (place.Hold c)) ≡ Hold c
  hold_there class = spot-place m.me.geometry class (place.Hold c) (lt-ltb c m.me.geometry.clients may.who)

  -- the hold word is loaded, and tells which latch is held
  pub whose_word : IsWord true m.me (release_ask m.me m.author Whose) (ReleaseFound m Whose) (release_call m Whose) r0
  whose_word =
      load_at true m.me (address m.me.geometry (place.Hold c)) (ReleaseFound m Whose) r0 (Hold c) hold_there (λ e. cc) refl
      (λ e f. subst IsUncommitted (sym may.idle) tt)
      (λ w rs f st stood at. (
        found f.ends (called (rs c) (framed m.me (release_ask m.me m.author Whose) f (w (Hold c)))) (called_core (rs c) (framed m.me (release_ask m.me m.author Whose) f (w (Hold c))) ∙ ap core at)
            (recovers (called (rs c) (framed m.me (release_ask m.me m.author Whose) f (w (Hold c)))) && (c == c)),
        λ b e. let tie = ((st.held.latch c st.who).some b (ap (λ (x : Memo). x.latch) at ∙ e)).1 in let most = st.held.sizes.holds c in (tie, omega arith),
      ))
    where
      found : (ends : Bool) (x : Memo) → core x ≡ core r0 → (q : Bool) → core (with_end ends (with_call x (if q then record x { op = Nothing } else x))) ≡ core r0
      found ends x e true = ap (λ (y : Memo). core (record y { op = Nothing })) e ∙ ap (λ (o : Op). core (record r0 { op = o })) (sym may.idle)
      found ends x e false = e

  module _ (r : Memo) (same : core r ≡ core r0) (author : m.author < m.me.geometry.clients) (mine : a ≡ m.author) where
    latch_there : (class : ℕ → ℕ → ℕ) → spot_at m.me.geometry class (address m.me.geometry (place.Latch m.author)) ≡ Latch m.author
    latch_there class = spot-place m.me.geometry class (place.Latch m.author) (lt-ltb m.author m.me.geometry.clients author)

    -- the latch is stored as 0
    pub give_word : IsWord false m.me (release_ask m.me m.author Give) (ReleaseFound m Give) (release_call m Give) r
    give_word =
        word_at false m.me (release_ask m.me m.author Give) (ReleaseFound m Give) r (Latch m.author) latch_there (λ e. cc) refl
        (λ w rs f st stands at. latch_back m.me w rs f [] (address m.me.geometry (place.Latch m.author)) m.author st (stands refl) (latch_there (classes w))
        (record {
          here = here_same r0 (rs c) (ap (λ (x : Memo). x.status) at ∙ ap (λ (x : Memo). x.status) same) may.here;
          op = ap (λ (x : Memo). x.op) at ∙ (ap (λ (x : Memo). x.op) same ∙ may.idle);
          latch = ap (λ (x : Memo). x.latch) at ∙ (ap (λ (x : Memo). x.latch) same ∙ (may.latch ∙ ap Some mine));
        }))
        (λ w rs f st stood at. (ap (λ (x : Memo). core (unlatched m.me.geometry.wide c x)) (called_core (rs c) (framed m.me (release_ask m.me m.author Give) f 0)) ∙ ap (λ (x : Memo). core (unlatched m.me.geometry.wide c x)) at, refl))

  -- the hold word is stored as 0
  pub back_word : (r : Memo) → core r ≡ core (unlatched m.me.geometry.wide c r0) → IsWord false m.me (release_ask m.me m.author Back) (ReleaseFound m Back) (release_call m Back) r
  back_word r same =
      word_at false m.me (release_ask m.me m.author Back) (ReleaseFound m Back) r (Hold c) hold_there (λ e. cc) refl
      (λ w rs f st stands at. hold_stored m.me w rs f [] (address m.me.geometry (place.Hold c)) 0 st (hold_there (classes w))
      (record { here = here_same r0 (rs c) (ap (λ (x : Memo). x.status) at ∙ ap (λ (x : Memo). x.status) same) may.here; none = ap (λ (x : Memo). x.latch) at ∙ ap (λ (x : Memo). x.latch) same; most = omega arith }))
      (λ w rs f st stood at. (ap (λ (x : Memo). core (wants c 0 x)) (called_core (rs c) (framed m.me (release_ask m.me m.author Back) f 0)) ∙ ap (λ (x : Memo). core (wants c 0 x)) at, refl))

-- ---- the plan

stays : (m : ReleaseState) (y : ReleasePoint) (n : ℕ) → PlanStays word_control release_plan (record m { point = y }) n
stays m Whose n = record { same_me = refl; same_line = refl; same_start = refl; started = λ e. refl }
stays m Give n = record { same_me = refl; same_line = refl; same_start = refl; started = λ e. refl }
stays m Back n = record { same_me = refl; same_line = refl; same_start = refl; started = λ e. absurd (cc) }

opens : (m : ReleaseState) (y : ReleasePoint) (r0 r : Memo) (tr : Trail) (es : List Event) → ReleaseKnows (record m { point = y }) y r0 r tr es → (release_plan.part (record m { point = y })).needs (release_call m y) r
opens m Whose r0 r tr es h = whose_word (record m { point = Whose }) h.0 r (subst (MayRelease m.me h.0) (sym h.2) h.1)
opens m Give r0 r tr es h = give_word (record m { point = Give }) m.author r0 h.may r h.same h.author refl
opens m Back r0 r tr es h = back_word (record m { point = Back }) m.author r0 h.may r h.same

-- whose latch it is, from the hold word
author_of : (n a k : ℕ) → n ≡ a + 1 → a < k → (n - 1) % k ≡ a
author_of n a k e l = let less : n - 1 ≡ a = omega arith in ap (λ x. x % k) less ∙ mod-eq_of_lt l

-- what a word step left, and what it asked
abbrev Leaves : ReleaseState → ReleasePoint → Memo → Memo → Trail → List Event → ℕ → Type 0
Leaves m y = (release_part (record m { point = y }) y).leaves (release_call m y)

pub release_laws : PlanLaws word_control release_plan
release_laws =
    record {
      stays = λ m n. stays m m.point n;
      calls = λ m. record { me = refl; asks = refl };
      parts = λ m. let part = word_part (is_whose m.point) m.me (release_ask m.me m.author m.point) (ReleaseFound m m.point) in
          asked_part_laws (is_whose m.point) word_control part (word_part_laws (is_whose m.point) m.me (release_ask m.me m.author m.point) (ReleaseFound m m.point));
      opens = λ m. opens m m.point;
      leads = λ m r0 rs r tr t es ds n h w held same. leads m m.point r0 rs r tr t es ds n h w;
    }
  where
    leads : (m : ReleaseState) (y : ReleasePoint) (r0 rs r : Memo) (tr t : Trail) (es ds : List Event) (n : ℕ) → ReleaseKnows (record m { point = y }) y r0 rs tr es → Leaves m y rs r t ds n → Follows word_control release_plan (record m { point = y }) n r0 r (tr ++ t) (es ++ ds)
    leads m Whose r0 rs r tr t es ds n h w =
        let a = h.0 in
        let told = w.0.found.1 a (ap (λ (x : Memo). x.latch) h.2 ∙ h.1.latch) in
        let same : (n - 1) % m.me.geometry.clients ≡ a = author_of n a m.me.geometry.clients told.0 told.1 in
        subst (λ (b : ℕ). IsReleasing m.me b (λ x. x) (whose_trail m.me b) r0 r (tr ++ t) (es ++ ds)) (sym same)
        (record {
          may = h.1;
          author = told.1;
          same = w.0.found.0 ∙ ap core h.2;
          none = ap (λ (x : List Event). x ++ ds) h.4 ∙ w.0.none;
          trail = one_more (release_ask m.me a Whose) n (a + 1) tr [] t h.3 told.0 w.1;
        })
    leads m Give r0 rs r tr t es ds n h w =
        record {
          may = h.may;
          author = h.author;
          same = w.0.found.0 ∙ ap (λ (x : Memo). core (unlatched m.me.geometry.wide m.me.who x)) h.same;
          none = ap (λ (x : List Event). x ++ ds) h.none ∙ w.0.none;
          trail = one_more (release_ask m.me m.author Give) n 0 tr (whose_trail m.me m.author) t h.trail w.0.found.1 w.1;
        }
    leads m Back r0 rs r tr t es ds n h w =
        let memo = w.0.found.0 ∙ ap (λ (x : Memo). core (wants m.me.who 0 x)) h.same in
        record {
          author = m.author;
          held = h.may.latch;
          memo = memo;
          latch = ap (λ (x : Memo). x.latch) memo;
          looks = ap (λ (x : Memo). x.looks) memo;
          none = ap (λ (x : List Event). x ++ ds) h.none ∙ w.0.none;
          trail = one_more (release_ask m.me m.author Back) n 0 tr (given_trail m.me m.author) t h.trail w.0.found.1 w.1;
        }
