-- what is owed of segments that are given up before the status gone: each word step leads on, to the next one or to what is left
use Rattle.std.proofs.Common.{◌≡◌, ◌≢◌, ℕ, ◌+◌, ◌*◌, ◌<◌, ◌≤◌, refl, sym, ap, ◌∙◌, subst, arith, Bool, true, false, not, ◌&&◌, List, [], ◌∷◌, ◌++◌, length}
use Rattle.std.proofs.lemmas.Bool.{eq-eqb, eqb-false, eqb-true, ne_eqb, true≢false}
use Rattle.std.specs.{Prelude.{◌==◌, if◌then◌else◌, slice_index}, List.Contains}
use Rattle.shm_graph.specs.{declared.{ask.Me.Me, spot.Spot.TheVariants.Hold, memo.Memo.Memo}, Asks.Trail, Core.core}
use Rattle.shm_graph.specs.{Events.Event, Laws.{GoneNow, Outcome}, MemoAfterStore.not_segment, Views.own_word}
use Rattle.shm_graph.specs.declared.memo.Status.TheVariants as status
use Rattle.kind_laws.proofs.Lists.{filter_from}
use Rattle.kind_parts.proofs.{Cores.here_same, Words.{Own.gone_store, Shared.{segment_give, segment_load}}}
use Rattle.plans.specs.{Proved.CallTells.within_more, Parts.IsHeld, Plans.{PlanLaws, PlanStays}}
use Rattle.plans.specs.Words.{word_control, word_part_laws, IsWord, WordLeaves}
use Rattle.shm_count.specs.Roots.{root_word}
use Rattle.shm_recover.specs.declared.give_up.GivePoint.{GivePoint, TheVariants.{Look, Give, Status}}
use Rattle.shm_recover.specs.declared.give_up.GiveState.{GiveState}
use Rattle.shm_recover.specs.GiveUp.Control.{after_word, give_ask, give_call, giving_up, is_first, next_segment, turns_word, give_steered}
use Rattle.shm_recover.specs.GiveUp.{GiveFound, GiveKnows, GivenUp, IsGiving, MayGiveUp, OwnsFrom, give_plan}
use Rattle.shm_recover.specs.Proved.Leave.Words.{owned_inside}

-- ---- the control

never : (z : Bool) → (z && false) ≡ false
never true = refl
never false = refl

-- what is owed of a state that comes next
abbrev Stays : GiveState → GiveState → Type 0
Stays m y = (give_steered.me y ≡ m.me) × (give_steered.start y ≡ give_steered.start m) × (is_first y ≡ false)

next_stays : (m : GiveState) → Stays m (next_segment m)
next_stays m = go (m.segment + 1 == m.me.geometry.segments)
  where
    go : (q : Bool) → Stays m (if q then record m { point = Status } else record m { segment = m.segment + 1; point = Look })
    go true = (refl, refl, never (m.segment == 0))
    go false = (refl, refl, ap (λ (z : Bool). z && true) (ne_eqb (m.segment + 1) 0 (λ e. absurd (omega arith))))

look_stays : (m : GiveState) (q : Bool) → Stays m (if q then record m { point = Give } else next_segment m)
look_stays m true = (refl, refl, never (m.segment == 0))
look_stays m false = next_stays m

-- ---- memos

module _ (me : Me) (r0 r : Memo) (may : MayGiveUp me r0) (rest : core (record r { owned = [] }) ≡ core (record r0 { owned = [] })) where
  -- once the segments are gone nothing is left to finish
  done_now : r.owned ≡ [] → GoneNow me.who r
  done_now none =
      record {
        roots = λ k. ap (λ (x : Memo). root_word me.who x k) rest ∙ may.roots k;
        hold = ap (λ (x : Memo). own_word x.own (Hold me.who)) rest ∙ may.hold;
        idle = ap (λ (x : Memo). x.op) rest ∙ may.may.idle;
        latched = ap (λ (x : Memo). x.latch) rest ∙ may.latch;
        segments = none;
        dyings = ap (λ (x : Memo). x.dying) rest ∙ may.dying;
        sends = λ i. ap (λ (x : Memo). slice_index x.unsent i) rest ∙ may.sends i;
        takes = λ i. ap (λ (x : Memo). slice_index x.untaken i) rest ∙ may.takes i;
      }

-- no segment of the pool is owned from its end on
none_owned : (me : Me) (r : Memo) (xs : List ℕ) → ((i : ℕ) → Contains xs i → (me.geometry.segments ≤ i) × (i < me.geometry.segments)) → xs ≡ []
none_owned me r [] all = refl
none_owned me r (x ∷ xs) all = let y = all x (0, omega arith, refl) in absurd (omega arith)

-- one word step more
one_more : (me : Me) (k : ℕ) (r0 rs r : Memo) (tr t : Trail) (es ds : List Event) → IsGiving me k r0 rs tr es → core (record r { owned = [] }) ≡ core (record rs { owned = [] }) → ds ≡ [] → length t ≡ 1 → IsGiving me (k + 1) r0 r (tr ++ t) (es ++ ds)
one_more me k r0 rs r tr t es ds h same quiet one =
    record {
      may = h.may;
      rest = same ∙ h.rest;
      none = ap (λ (x : List Event). x ++ ds) h.none ∙ quiet;
      bound = within_more k 1 tr t h.bound (omega arith);
    }

-- ---- the plan

opens : (m : GiveState) (y : GivePoint) (r0 r : Memo) (tr : Trail) (es : List Event) → GiveKnows m y r0 r tr es → IsWord (is_first (record m { point = y })) m.me (give_ask m y) (GiveFound m y) (give_call m y) r
opens m Look r0 r tr es (h, owns, low) = segment_load (is_first (record m { point = Look })) m.me r h.may.may.who m.segment low
opens m Give r0 r tr es (h, owns, low, has) =
    segment_give (is_first (record m { point = Give })) m.me r h.may.may.who m.segment low (never (m.segment == 0))
    (record { here = here_same r0 r (ap (λ (x : Memo). x.status) h.rest) h.may.may.here; idle = ap (λ (x : Memo). x.making) h.rest ∙ h.may.making; owned = has })
opens m Status r0 r tr es (h, none) = gone_store (is_first (record m { point = Status })) m.me r h.may.may.who (done_now m.me r0 r h.may h.rest none)

module _ (m : GiveState) (r0 rs r : Memo) (tr t : Trail) (es ds : List Event) (held : IsHeld m.me r) where
  abbrev c : ℕ
  c = m.me.who

  abbrev s : ℕ
  s = m.segment

  -- what is known next
  abbrev Next : GiveState → Type 0
  Next x = GiveKnows x x.point r0 r (tr ++ t) (es ++ ds)

  -- on to the next segment, or to the status
  went : (k : ℕ) → IsGiving m.me k r0 r (tr ++ t) (es ++ ds) → k ≤ 2 * s + 2 → s < m.me.geometry.segments → OwnsFrom (s + 1) r → Next (next_segment m)
  went k h most low owns = go (s + 1 == m.me.geometry.segments) (eqb-true (s + 1) m.me.geometry.segments) (eqb-false (s + 1) m.me.geometry.segments)
    where
      more : (z : ℕ) → k ≤ z → IsGiving m.me z r0 r (tr ++ t) (es ++ ds)
      more z le = record { may = h.may; rest = h.rest; none = h.none; bound = (let b = h.bound in omega arith) }

      go : (q : Bool) → (q ≡ true → s + 1 ≡ m.me.geometry.segments) → (q ≡ false → s + 1 ≢ m.me.geometry.segments) → Next (if q then record m { point = Status } else record m { segment = s + 1; point = Look })
      go true last others =
          let e = last refl in (
            more (2 * m.me.geometry.segments) (omega arith),
            none_owned m.me r r.owned (λ i has. let o = owns i has in let u = owned_inside m.me h.may.may.who r i held has in (omega arith, u)),
          )
      go false last others = (more (2 * (s + 1)) (omega arith), owns, (let n = others refl in omega arith))

  -- the segment's word was read
  looked : (n : ℕ) → GiveKnows m Look r0 rs tr es → WordLeaves (GiveFound m Look) (give_call m Look) rs r t ds n → Next (if n == c + 1 then record m { point = Give } else next_segment m)
  looked n (h, owns, low) w = go (n == c + 1) (eqb-true n (c + 1)) (eqb-false n (c + 1))
    where
      same : core (record r { owned = [] }) ≡ core (record rs { owned = [] })
      same = ap (λ (x : Memo). record x { owned = [] }) w.found.left

      was : (i : ℕ) → Contains r.owned i → Contains rs.owned i
      was i = subst (λ (xs : List ℕ). Contains xs i) (ap (λ (x : Memo). x.owned) w.found.left)

      one : IsGiving m.me (2 * s + 1) r0 r (tr ++ t) (es ++ ds)
      one = one_more m.me (2 * s) r0 rs r tr t es ds h same w.none w.one

      go : (q : Bool) → (q ≡ true → n ≡ c + 1) → (q ≡ false → n ≢ c + 1) → Next (if q then record m { point = Give } else next_segment m)
      go true mine other = (one, (λ i has. owns i (was i has)), low, subst (λ (xs : List ℕ). Contains xs s) (sym (ap (λ (x : Memo). x.owned) w.found.left)) (w.found.found.0 (mine refl)))
      go false mine other =
          went (2 * s + 1) one (omega arith) low
          (λ i has. let y = owns i (was i has) in let n : i ≢ s = (λ e. other refl (w.found.found.1 (subst (Contains rs.owned) e (was i has)))) in omega arith)

  -- it was given up
  given : (n : ℕ) → GiveKnows m Give r0 rs tr es → WordLeaves (GiveFound m Give) (give_call m Give) rs r t ds n → Next (next_segment m)
  given n (h, owns, low, has) w =
      went (2 * s + 1 + 1) (one_more m.me (2 * s + 1) r0 rs r tr t es ds h (ap (λ (x : Memo). record x { owned = [] }) w.found.left) w.none w.one) (omega arith) low
      (λ i has. let y = filter_from (not_segment s) rs.owned i (subst (λ (xs : List ℕ). Contains xs i) (ap (λ (x : Memo). x.owned) w.found.left) has) in
      let z = owns i y.0 in
      let o : s ≢ i = (λ e. true≢false (sym y.1 ∙ ap not (eq-eqb s i e))) in
      omega arith)

  -- the status was stored
  gone : (n : ℕ) → GiveKnows m Status r0 rs tr es → WordLeaves (GiveFound m Status) (give_call m Status) rs r t ds n → GivenUp m.me r0 r (tr ++ t) (es ++ ds)
  gone n (h, none) w =
      record {
        rest = w.found.left ∙ (ap (λ (xs : List ℕ). core (record rs { status = status.Gone; owned = xs })) none ∙ ap (λ (x : Memo). record x { status = status.Gone }) h.rest);
        left = w.found.read;
        none = ap (λ (x : List Event). x ++ ds) h.none ∙ w.none;
        bound = (let o = w.one in within_more (2 * m.me.geometry.segments) 1 tr t h.bound (omega arith));
      }

-- what is known before the first word step
pub give_begin : (me : Me) (r : Memo) → MayGiveUp me r → GiveKnows (giving_up me) Look r r [] []
give_begin me r may = (record { may = may; rest = refl; none = refl; bound = omega arith }, (λ i has. omega arith), (let y = may.may.geometry.segment in omega arith))

pub give_laws : PlanLaws word_control give_plan
give_laws =
    record {
      stays = λ m n. stays m m.point n;
      calls = λ m. record { me = refl; asks = refl };
      parts = λ m. word_part_laws (is_first m) m.me (give_ask m m.point) (GiveFound m m.point);
      opens = λ m. opens m m.point;
      leads = λ m r0 rs r tr t es ds n h w held agent. leads m m.point r0 rs r tr t es ds n h w held;
    }
  where
    stays : (m : GiveState) (y : GivePoint) (n : ℕ) → PlanStays word_control give_plan (record m { point = y }) n
    stays m Look n = let t = look_stays (record m { point = Look }) (n == m.me.who + 1) in record { same_me = t.0; same_line = refl; same_start = t.1; started = λ e. t.2 }
    stays m Give n = let t = next_stays (record m { point = Give }) in record { same_me = t.0; same_line = refl; same_start = t.1; started = λ e. t.2 }
    stays m Status n = record { same_me = refl; same_line = refl; same_start = refl; started = λ e. absurd (cc) }

    -- each word step leads on
    leads : (m : GiveState) (y : GivePoint) (r0 rs r : Memo) (tr t : Trail) (es ds : List Event) (n : ℕ) → GiveKnows m y r0 rs tr es → WordLeaves (GiveFound m y) (give_call m y) rs r t ds n → IsHeld m.me r
        → Outcome (turns_word y) (GiveKnows (after_word m y n) (after_word m y n).point r0 r (tr ++ t) (es ++ ds)) (λ u. GivenUp m.me r0 r (tr ++ t) (es ++ ds))
    leads m Look r0 rs r tr t es ds n h w held = looked m r0 rs r tr t es ds held n h w
    leads m Give r0 rs r tr t es ds n h w held = given m r0 rs r tr t es ds held n h w
    leads m Status r0 rs r tr t es ds n h w held = gone m r0 rs r tr t es ds held n h w
