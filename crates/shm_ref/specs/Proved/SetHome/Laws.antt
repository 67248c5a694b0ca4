-- what is owed of setting the own home
use Rattle.std.proofs.Common.{◌≡◌, ℕ, ◌%◌, ◌<◌, refl, sym, ap, ◌∙◌, subst, arith, true, false, not, ◌&&◌, List, [], ◌∷◌, ◌++◌, inl, inr, length}
use Rattle.std.proofs.lemmas.Bool.{and_parts, cases_eq, lt-ltb, ne_eqb, false≢true}
use Rattle.std.specs.Prelude.{◌==◌, if◌then◌else◌, Some, None, Result, Ok, Err}
use Rattle.shm_graph.specs.{Bounds.up_steps, declared.{ask.Me.Me, memo.{Memo.Memo, Op.TheVariants.Nothing}}}
use Rattle.shm_graph.specs.{declared.spot.Spot.TheVariants.Home, Agents.recovers, Asks.{Trail, IsWithin}, Core.core}
use Rattle.shm_graph.specs.{Events.Event, Laws.Outcome, Reach.is_reached, MemoAfterRead.{home_read, is_held}}
use Rattle.shm_graph.specs.{Spots.spot_address, Views.own_word}
use Rattle.shm_graph.specs.declared.ask.Ask.TheVariants as ask
use Rattle.shm_graph.proofs.StepKinds.Loads.{choice}
use Rattle.shm_words.specs.Layout.{GeometryFits, address, is_in, address_limit}
use Rattle.shm_words.specs.declared.place.Place.TheVariants as place
use Rattle.shm_words.proofs.Placing.{address_below, address_small, total_small}
use Rattle.plans.specs.{declared.or.Or.TheVariants.{First, Second}, Proved.{CallTells.within_more, Either.or_part_laws}}
use Rattle.plans.specs.{Parts.IsHeld, Plans.{PlanLaws, PlanStays, IsCall, Follows}}
use Rattle.plans.specs.Words.{word_control, word_part_laws, WordLeaves}
use Rattle.kind_parts.proofs.{Cores.here_same, Reaching.home_reached}
use Rattle.shm_count.specs.declared.answer.UpFault.{UpFault, TheVariants.{EraSpent, CountFull}}
use Rattle.shm_count.specs.{declared.point.Aim.TheVariants.Up, Slots.{StepLeft, Parts.{up_slot_part, up_slot_laws}}}
use Rattle.shm_count.specs.{Proved.Slots.Parts.era_room, Step.{CanStep, KeepsPart, Machines.{up_control, up_told}}}
use Rattle.shm_ref.specs.declared.{answer.HomeFault.TheVariants.HomeSet, set_home.HomePoint.HomePoint}
use Rattle.shm_ref.specs.declared.set_home.{HomePoint.TheVariants.{Load, Raise}, HomeState.HomeState}
use Rattle.shm_ref.specs.Proved.{CoreLeaves.{cause_core, filled_home, untouched_core}, CountedBlocks.reached_counted}
use Rattle.shm_ref.specs.{Proved.HomeParts.home_needs, HomeParts.{OwnHomeRead, home_address, home_part}}
use Rattle.shm_ref.specs.SetHome.{HomeAnswer, HomeKnows, HomeLeaves, IsHomeless, MaySetHome, home_call_at, home_parts, home_plan, is_load}

-- ---- the step up

module _ (me : Me) (f : GeometryFits me.geometry) (l : me.who < me.geometry.clients) where
  home_in : is_in me.geometry (place.Home me.who) ≡ true
  home_in = lt-ltb me.who me.geometry.clients l

  home_some : 0 < home_address me
  unfolding address
  home_some = omega arith

  -- it may begin at the home where that is empty
  home_can : (b : ℕ) (r0 r : Memo) → MaySetHome me b r0 → core r ≡ core r0 → recovers r ≡ false → own_word r0.own (Home me.who) ≡ 0 → CanStep me (home_address me) (Up b) (Home me.who) r
  unfolding spot_address
  home_can b r0 r may same client empty =
      let c = me.who in
      let here = here_same r0 r (ap (λ (x : Memo). x.status) same) may.here in
      let idle : r.op ≡ Nothing = ap (λ (x : Memo). x.op) same ∙ may.idle in
      let reach : is_reached c r b ≡ true = ap (λ (x : Memo). is_reached c x b) same ∙ may.reach in
      record {
        geometry = f;
        who = l;
        here = here;
        idle = idle;
        client = λ e. client;
        at = refl;
        inside = (home_some, address_below me.geometry (place.Home c) home_in f);
        blocks = may.inside;
        can = λ room. (refl, record { may = record { here = here; idle = idle; room = omega arith }; empty = ap (λ (x : Memo). own_word x.own (Home c)) same ∙ empty; source = reach });
        put = tt;
        reach = λ e. reach;
        part = subst (λ (x : Memo). KeepsPart me.geometry.wide c x (Up b) (Home c)) (sym same) (may.part empty);
        queued = λ n is up. absurd (false≢true is);
      }

-- ---- the plan

stays : (m : HomeState) (a : HomeAnswer) → PlanStays home_parts home_plan m a
stays m (First n) = record { same_me = refl; same_line = refl; same_start = refl; started = λ e. refl }
stays m (Second (Ok u)) = record { same_me = refl; same_line = refl; same_start = refl; started = λ e. absurd (cc) }
stays m (Second (Err e)) = record { same_me = refl; same_line = refl; same_start = refl; started = λ e. absurd (cc) }

calls : (m : HomeState) (y : HomePoint) → IsCall home_parts home_plan (record m { point = y })
calls m Load = record { me = refl; asks = refl }
calls m Raise = record { me = refl; asks = refl }

opens : (m : HomeState) (y : HomePoint) (r0 r : Memo) (tr : Trail) (es : List Event) → HomeKnows (record m { point = y }) y r0 r tr es → (home_plan.part (record m { point = y })).needs (home_call_at m y) r
opens m Load r0 r tr es h = home_needs m.me true r h.0.who
opens m Raise r0 r tr es h =
    let may = h.may in
    let total = total_small m.me.geometry may.geometry in
    let inside = may.inside.1 in (
      refl,
      record {
        step = record {
          made = refl;
          knows = record { geometry = may.geometry; who = may.who; slot = address_small m.me.geometry (place.Home m.me.who) (home_in m.me may.geometry may.who) may.geometry; aim = omega arith; point = tt };
          can = home_can m.me may.geometry may.who m.block r0 r may h.same h.client h.empty;
        };
        at = refl;
        era = h.era;
      },
    )

-- an empty home that was read leaves the memo
home_empty : (x : Memo) (a : ℕ) → core (home_read x a 0) ≡ core x
home_empty x a = choice (λ (y : Memo). core y ≡ core x) (is_held x.latch a && false) (record x { looks = x.looks ++ record { block = 0; from = Home a } ∷ [] }) x (λ e. absurd (false≢true (and_parts (is_held x.latch a) false e).1)) (λ e. refl)

-- and any home leaves the step in progress and the own words
read_op : (r0 : Memo) (c n : ℕ) → (home_read r0 c n).op ≡ r0.op
read_op r0 c n = choice (λ (y : Memo). y.op ≡ r0.op) (is_held r0.latch c && not (n == 0)) (record r0 { looks = r0.looks ++ record { block = n; from = Home c } ∷ [] }) r0 (λ e. refl) (λ e. refl)

read_home : (r0 : Memo) (c n : ℕ) → own_word (home_read r0 c n).own (Home c) ≡ own_word r0.own (Home c)
read_home r0 c n = choice (λ (y : Memo). own_word y.own (Home c) ≡ own_word r0.own (Home c)) (is_held r0.latch c && not (n == 0)) (record r0 { looks = r0.looks ++ record { block = n; from = Home c } ∷ [] }) r0 (λ e. refl) (λ e. refl)

pub home_laws : PlanLaws home_parts home_plan
home_laws =
    record {
      stays = stays;
      calls = λ m. calls m m.point;
      parts = λ m. let first = is_load m.point in
          or_part_laws first word_control up_control (home_part m.me first) (up_slot_part (Home m.me.who) false) (word_part_laws first m.me (ask.Load (home_address m.me)) (OwnHomeRead m.me.who)) (up_slot_laws (Home m.me.who) false first);
      opens = λ m. opens m m.point;
      leads = λ m r0 rs r tr t es ds a h g held same. leads m m.point r0 rs r tr t es ds a h g held same;
    }
  where
    -- the home was loaded
    loaded : (m : HomeState) (r0 rs r : Memo) (tr t : Trail) (es ds : List Event) → IsHeld m.me r → recovers r ≡ recovers rs → (n : ℕ) → HomeKnows m Load r0 rs tr es → WordLeaves (OwnHomeRead m.me.who) (record { me = m.me; ask = ask.Load (home_address m.me); over = false }) rs r t ds n → Follows home_parts home_plan m (First n) r0 r (tr ++ t) (es ++ ds)
    loaded m r0 rs r tr t es ds held agent n (may, begun, none, quiet) w =
        let c = m.me.who in
        let names : n ≡ own_word r0.own (Home c) = w.found.found ∙ ap (λ (x : Memo). own_word x.own (Home c)) begun in
        let cored : core r ≡ core (home_read r0 c n) = w.found.left ∙ ap (λ (x : Memo). core (home_read x c n)) begun in
        let silent : es ++ ds ≡ [] = ap (λ (x : List Event). x ++ ds) quiet ∙ w.none in
        let bound : IsWithin 1 (tr ++ t) = (let e = ap length (ap (λ (x : Trail). x ++ t) none) in let o = w.one in omega arith) in
        let left = HomeLeaves (record m { point = Load }) r0 r (tr ++ t) (es ++ ds) in
        let next = IsHomeless m.me m.block r0 r (tr ++ t) (es ++ ds) in
        elim (cases_eq n 0) [
          | inl e ↦ (
              let same : core r ≡ core r0 = cored ∙ (ap (λ z. core (home_read r0 c z)) e ∙ home_empty r0 c) in
              subst (λ z. Outcome (if z == 0 then None else Some (Err (HomeSet (z % address_limit)))) next left) (sym e)
              (record {
                may = may;
                same = same;
                client = agent ∙ (ap recovers begun ∙ may.client);
                empty = sym names ∙ e;
                era = era_room m.me r held may.who (ap (λ (x : Memo). x.op) same ∙ may.idle);
                none = silent;
                bound = bound;
              })
              )
          | inr some ↦ (
              let idle : r.op ≡ Nothing = ap (λ (x : Memo). x.op) cored ∙ (read_op r0 c n ∙ may.idle) in
              let here : own_word r.own (Home c) ≡ n = ap (λ (x : Memo). own_word x.own (Home c)) cored ∙ (read_home r0 c n ∙ sym names) in
              let counted = reached_counted m.me may.who r n held (home_reached c r n idle here some) in
              let inside = counted.0.1 in
              let total = total_small m.me.geometry may.geometry in
              let small : n % address_limit ≡ n = omega arith in
              subst (λ z. Outcome (if z then None else Some (Err (HomeSet (n % address_limit)))) next left) (sym (ne_eqb n 0 some))
              (subst (λ z. left (Err (HomeSet z))) (sym small)
              (record { stays = (names, some, cored); none = silent; bound = omega arith }))
              )
        ]

    -- the step up was made, or refused
    raised : (m : HomeState) (r0 rs r : Memo) (tr t : Trail) (es ds : List Event) → IsHeld m.me r → recovers r ≡ recovers rs → (a : Result (Unit {0}) UpFault) → IsHomeless m.me m.block r0 rs tr es → StepLeft m.me (Up m.block) (Home m.me.who) false rs r t ds (up_told a) → Follows home_parts home_plan m (Second a) r0 r (tr ++ t) (es ++ ds)
    raised m r0 rs r tr t es ds held agent (Ok done) h s =
        record {
          empty = h.empty;
          filled = filled_home r0 rs r h.same m.me.who m.block s.did.0;
          events = ap (λ (x : List Event). x ++ ds) h.none ∙ s.did.1;
          bound = within_more 1 (up_steps m.me.geometry.wide) tr t h.bound s.bound;
        }
    raised m r0 rs r tr t es ds held agent (Err (EraSpent e)) h s =
        record {
          stays = (h.empty, untouched_core r0 rs r h.same m.me.who s.did.0, cause_core r0 rs r h.same m.me (Up m.block) (EraSpent e) s.did.1);
          none = ap (λ (x : List Event). x ++ ds) h.none ∙ s.did.2;
          bound = within_more 1 (up_steps m.me.geometry.wide) tr t h.bound s.bound;
        }
    raised m r0 rs r tr t es ds held agent (Err (CountFull d n)) h s =
        record {
          stays = (h.empty, untouched_core r0 rs r h.same m.me.who s.did.0, cause_core r0 rs r h.same m.me (Up m.block) (CountFull d n) s.did.1);
          none = ap (λ (x : List Event). x ++ ds) h.none ∙ s.did.2;
          bound = within_more 1 (up_steps m.me.geometry.wide) tr t h.bound s.bound;
        }

    -- each call leads on
    leads : (m : HomeState) (y : HomePoint) (r0 rs r : Memo) (tr t : Trail) (es ds : List Event) (a : HomeAnswer) → HomeKnows (record m { point = y }) y r0 rs tr es → (home_plan.part (record m { point = y })).leaves (home_call_at m y) rs r t ds a → IsHeld m.me r → recovers r ≡ recovers rs
        → Follows home_parts home_plan (record m { point = y }) a r0 r (tr ++ t) (es ++ ds)
    leads m Load r0 rs r tr t es ds (First n) h g held agent = loaded (record m { point = Load }) r0 rs r tr t es ds held agent n h g
    leads m Raise r0 rs r tr t es ds (Second a) h g held agent = raised (record m { point = Raise }) r0 rs r tr t es ds held agent a h g
    leads m Load r0 rs r tr t es ds (Second a) h g held agent = absurd g
    leads m Raise r0 rs r tr t es ds (First n) h g held agent = absurd g
