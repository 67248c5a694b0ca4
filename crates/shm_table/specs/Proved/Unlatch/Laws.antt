-- what is owed of giving back a latch of which it is known whose it is
use Rattle.std.proofs.{Common.{◌≡◌, ℕ, refl, ap, ◌∙◌, arith, true, false, List, [], ◌++◌}, lemmas.Bool.lt-ltb}
use Rattle.shm_words.specs.Layout.{address}
use Rattle.shm_words.specs.declared.place.Place.TheVariants as place
use Rattle.shm_graph.specs.{declared.{ask.Me.Me, spot.Spot.TheVariants.{Hold, Latch}, memo.Memo.Memo}, Asks.Trail}
use Rattle.shm_graph.specs.{Blocks.classes, Core.core, Events.Event, Laws.framed, Reach.unlatched, Spots.spot_at}
use Rattle.shm_graph.proofs.Spots.SpotPlaces.{spot-place}
use Rattle.kind_parts.proofs.{Cores.{called_core, here_same}, OwnStores.hold_stored}
use Rattle.plans.specs.{Plans.{PlanLaws, PlanStays, Follows}, Words.{word_control, word_part, word_part_laws, IsWord}}
use Rattle.plans.specs.Proved.WordSteps.{word_at}
use Rattle.shm_ref.specs.{Proved.AskedParts.{asked_part_laws, one_more}, Hold.wants}
use Rattle.shm_table.specs.declared.unlatch.UnlatchPoint.{UnlatchPoint, TheVariants.{Give, Back}}
use Rattle.shm_table.specs.{declared.unlatch.UnlatchState.UnlatchState, Proved.LatchGiving.latch_given}
use Rattle.shm_table.specs.Unlatch.{MayUnlatch, UnlatchFound, UnlatchKnows, given_trail, unlatch_part, unlatch_plan}
use Rattle.shm_table.specs.Unlatch.Control.{is_give, unlatch_ask, unlatch_call, unlatching}

-- ---- the word steps

module _ (m : UnlatchState) (r0 r : Memo) (may : MayUnlatch m.me m.author r0) where
  abbrev c : ℕ
  c = m.me.who

  latch_there : (class : ℕ → ℕ → ℕ) → spot_at m.me.geometry class (address m.me.geometry (place.Latch m.author)) ≡ Latch m.author
  latch_there class = spot-place m.me.geometry class (place.Latch m.author) (lt-ltb m.author m.me.geometry.clients may.author)

  hold_there : (class : ℕ → ℕ → ℕ) → spot_at m.me.geometry class (address m.me.geometry (place.Hold c)) ≡ Hold c
  hold_there class = spot-place m.me.geometry class (place.Hold c) (lt-ltb c m.me.geometry.clients may.who)

  -- the latch is stored as 0, as the first word step or later
  pub give_word : r ≡ r0 → IsWord true m.me (unlatch_ask m.me m.author Give) (UnlatchFound m Give) (unlatch_call m Give) r
  give_word same =
      word_at true m.me (unlatch_ask m.me m.author Give) (UnlatchFound m Give) r (Latch m.author) latch_there (λ e. cc) refl
      (λ w rs f st stands at. latch_given m.me w rs f [] (address m.me.geometry (place.Latch m.author)) m.author st (latch_there (classes w))
      (record {
        here = here_same r0 (rs c) (ap (λ (x : Memo). x.status) at ∙ ap (λ (x : Memo). x.status) same) may.here;
        op = ap (λ (x : Memo). x.op) at ∙ (ap (λ (x : Memo). x.op) same ∙ may.idle);
        latch = ap (λ (x : Memo). x.latch) at ∙ (ap (λ (x : Memo). x.latch) same ∙ may.latch);
      }))
      (λ w rs f st stands at. (ap (λ (x : Memo). core (unlatched m.me.geometry.wide c x)) (called_core (rs c) (framed m.me (unlatch_ask m.me m.author Give) f 0)) ∙ ap (λ (x : Memo). core (unlatched m.me.geometry.wide c x)) at, refl))

  -- the hold word is stored as 0
  pub back_word : core r ≡ core (unlatched m.me.geometry.wide c r0) → IsWord false m.me (unlatch_ask m.me m.author Back) (UnlatchFound m Back) (unlatch_call m Back) r
  back_word same =
      word_at false m.me (unlatch_ask m.me m.author Back) (UnlatchFound m Back) r (Hold c) hold_there (λ e. cc) refl
      (λ w rs f st stands at. hold_stored m.me w rs f [] (address m.me.geometry (place.Hold c)) 0 st (hold_there (classes w))
      (record { here = here_same r0 (rs c) (ap (λ (x : Memo). x.status) at ∙ ap (λ (x : Memo). x.status) same) may.here; none = ap (λ (x : Memo). x.latch) at ∙ ap (λ (x : Memo). x.latch) same; most = omega arith }))
      (λ w rs f st stood at. (ap (λ (x : Memo). core (wants c 0 x)) (called_core (rs c) (framed m.me (unlatch_ask m.me m.author Back) f 0)) ∙ ap (λ (x : Memo). core (wants c 0 x)) at, refl))

-- ---- the plan

-- what a word step left, and what it asked
abbrev Leaves : UnlatchState → UnlatchPoint → Memo → Memo → Trail → List Event → ℕ → Type 0
Leaves m y = (unlatch_part (record m { point = y }) y).leaves (unlatch_call m y)

-- what is known before the first word step
pub unlatch_begin : (me : Me) (a : ℕ) (r : Memo) → MayUnlatch me a r → UnlatchKnows (unlatching me a) Give r r [] []
unlatch_begin me a r may = (may, refl, refl, refl)

pub unlatch_laws : PlanLaws word_control unlatch_plan
unlatch_laws =
    record {
      stays = λ m n. stays m m.point n;
      calls = λ m. record { me = refl; asks = refl };
      parts = λ m. let part = word_part (is_give m.point) m.me (unlatch_ask m.me m.author m.point) (UnlatchFound m m.point) in
          asked_part_laws (is_give m.point) word_control part (word_part_laws (is_give m.point) m.me (unlatch_ask m.me m.author m.point) (UnlatchFound m m.point));
      opens = λ m. opens m m.point;
      leads = λ m r0 rs r tr t es ds n h w held same. leads m m.point r0 rs r tr t es ds n h w;
    }
  where
    stays : (m : UnlatchState) (y : UnlatchPoint) (n : ℕ) → PlanStays word_control unlatch_plan (record m { point = y }) n
    stays m Give n = record { same_me = refl; same_line = refl; same_start = refl; started = λ e. refl }
    stays m Back n = record { same_me = refl; same_line = refl; same_start = refl; started = λ e. absurd (cc) }

    opens : (m : UnlatchState) (y : UnlatchPoint) (r0 r : Memo) (tr : Trail) (es : List Event) → UnlatchKnows (record m { point = y }) y r0 r tr es → (unlatch_plan.part (record m { point = y })).needs (unlatch_call m y) r
    opens m Give r0 r tr es h = give_word (record m { point = Give }) r0 r h.0 h.1
    opens m Back r0 r tr es h = back_word (record m { point = Back }) r0 r h.may h.same

    leads : (m : UnlatchState) (y : UnlatchPoint) (r0 rs r : Memo) (tr t : Trail) (es ds : List Event) (n : ℕ) → UnlatchKnows (record m { point = y }) y r0 rs tr es → Leaves m y rs r t ds n → Follows word_control unlatch_plan (record m { point = y }) n r0 r (tr ++ t) (es ++ ds)
    leads m Give r0 rs r tr t es ds n h w =
        record {
          may = h.0;
          same = w.0.found.0 ∙ ap (λ (x : Memo). core (unlatched m.me.geometry.wide m.me.who x)) h.1;
          none = ap (λ (x : List Event). x ++ ds) h.3 ∙ w.0.none;
          trail = one_more (unlatch_ask m.me m.author Give) n 0 tr [] t h.2 w.0.found.1 w.1;
        }
    leads m Back r0 rs r tr t es ds n h w =
        let memo = w.0.found.0 ∙ ap (λ (x : Memo). core (wants m.me.who 0 x)) h.same in
        record {
          memo = memo;
          latch = ap (λ (x : Memo). x.latch) memo;
          looks = ap (λ (x : Memo). x.looks) memo;
          none = ap (λ (x : List Event). x ++ ds) h.none ∙ w.0.none;
          trail = one_more (unlatch_ask m.me m.author Back) n 0 tr (given_trail m.me m.author) t h.trail w.0.found.1 w.1;
        }
