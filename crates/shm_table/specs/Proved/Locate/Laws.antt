-- what is owed of taking a latch and looking for a key
use Rattle.std.proofs.Common.{◌≡◌, ℕ, ◌+◌, refl, sym, ap, ◌∙◌, subst, arith, cond, List, [], ◌∷◌, ◌++◌, length, inl, inr}
use Rattle.std.proofs.lemmas.Bool.{cases_Bool, cond-false, cond-true, ne_eqb}
use Rattle.std.specs.Prelude.{Some, Result, Ok, Err}
use Rattle.shm_graph.specs.declared.{ask.Me.Me, memo.{Memo.Memo, Stored.Stored}, spot.Spot.{Spot, TheVariants.Hold}}
use Rattle.shm_graph.specs.{Asks.{Trail, IsWithin, failed}, Core.core, Events.Event, Held.is_loose}
use Rattle.shm_graph.specs.{Idle.{IsIdle, hold_word}, Spots.same_spot, Views.own_word}
use Rattle.shm_graph.specs.declared.memo.Status.TheVariants as status
use Rattle.shm_graph.proofs.Spots.Spotting.{same_spot_is, same_spot_self}
use Rattle.kind_parts.specs.Conditions.{IsHere}
use Rattle.plans.specs.{declared.or.Or.TheVariants.{First, Second}, Proved.{CallTells.within_more, Either.or_part_laws}}
use Rattle.plans.specs.{CallsPart.{calls_part, calls_part_laws}, Plans.{PlanLaws, PlanStays, IsCall, Follows}}
use Rattle.plans.specs.Words.{word_control}
use Rattle.shm_ref.specs.{declared.answer.Busy.Busy, Hold.Control.{busy_trail, holding}}
use Rattle.shm_ref.specs.Hold.{HoldLeaves, IsBusy, MayTakeLatch, LatchTaken, hold_plan}
use Rattle.shm_ref.specs.{Proved.Hold.Laws.{hold_begin, hold_laws}, Machines.hold}
use Rattle.shm_table.specs.declared.{find.Found.{Found, TheVariants.{Absent, At}}, locate.LocatePoint.LocatePoint}
use Rattle.shm_table.specs.declared.locate.{LocatePoint.TheVariants.{Take, Again, Search}, LocateState.LocateState}
use Rattle.shm_table.specs.Find.{Control.finding, FindLeaves, MayFind, OnlyReads, find_plan}
use Rattle.shm_table.specs.Proved.Find.Laws.{find_begin, find_laws}
use Rattle.shm_table.specs.Locate.Control.{LocateAnswer, find_control, is_take, locate_call, locate_parts, locating}
use Rattle.shm_table.specs.Locate.{IsHolding, IsTrying, LocateKnows, MayLocate, locate_part, locate_plan}
use Rattle.shm_table.specs.Staying.{Latched}

-- who is live is here
pub live_here : (m r : Memo) → m.status ≡ status.Live → r.status ≡ m.status → IsHere r
live_here m r live same =
    record {
      joined = λ e. let q : status.Live ≡ status.New = sym live ∙ (sym same ∙ e) in absurd (cc);
      stays = λ e. let q : status.Live ≡ status.Gone = sym live ∙ (sym same ∙ e) in absurd (cc);
    }

-- ---- what each call needs

-- the memo before a try
may_take : (me : Me) (a : ℕ) (r0 r : Memo) (tr : Trail) (es : List Event) → IsTrying me a r0 r tr es → MayTakeLatch me a r
may_take me a r0 r tr es h =
    record {
      geometry = h.may.geometry;
      who = h.may.who;
      author = h.may.author;
      here = live_here r0 r h.may.idle.live (ap (λ (x : Memo). x.status) h.memo);
      idle = ap (λ (x : Memo). x.op) h.memo ∙ h.may.idle.op;
      none = ap (λ (x : Memo). x.latch) h.memo ∙ h.may.none;
    }

-- the memo before the search
may_find : (me : Me) (a : ℕ) (r0 r : Memo) (tr : Trail) (es : List Event) → IsHolding me a r0 r tr es → MayFind me a r
may_find me a r0 r tr es h =
    record {
      geometry = h.may.geometry;
      who = h.may.who;
      author = h.may.author;
      here = live_here r0 r h.may.idle.live (ap (λ (x : Memo). x.status) h.took.memo);
      idle = ap (λ (x : Memo). x.op) h.took.memo ∙ h.may.idle.op;
      latch = ap (λ (x : Memo). x.latch) h.took.memo;
      table = ap (λ (x : Memo). is_loose x.part) h.took.memo ∙ h.may.table;
    }

-- ---- a try

-- an exchange that found a client's number and one has failed
busy_failed : (me : Me) (a h : ℕ) → failed (busy_trail me a h) ≡ 1
busy_failed me a h = ap (λ q. 0 + (cond q 0 1 + 0)) (ne_eqb (h + 1) 0 (λ z. absurd (omega arith)))

module _ (me : Me) (a : ℕ) (r0 rs r : Memo) (tr t : Trail) (es ds : List Event) (h : IsTrying me a r0 rs tr es) where
  -- the latch is held now
  took : LatchTaken me a rs r t ds → IsHolding me a r0 r (tr ++ t) (es ++ ds)
  took w =
      let own : r.own ≡ record { spot = Hold me.who; value = a + 1 } ∷ rs.own = ap (λ (x : Memo). x.own) w.memo in
      let memo : core r ≡ core (record rs { own = r.own; latch = Some a }) = w.memo ∙ ap (λ (o : List Stored). core (record rs { own = o; latch = Some a })) (sym own) in
      let short : length t ≡ 2 = ap length w.trail in
      let bound : IsWithin (0 + 2) (tr ++ t) = within_more 0 2 tr t h.bound (omega arith) in
      record {
        may = h.may;
        took = record {
          memo = memo ∙ ap (λ (x : Memo). core (record x { own = r.own; latch = Some a })) h.memo;
          hold = ap (λ (o : List Stored). own_word o (Hold me.who)) own ∙ cond-true (same_spot (Hold me.who) (Hold me.who)) (a + 1) (own_word rs.own (Hold me.who)) (same_spot_self (Hold me.who));
          own = λ p other. ap (λ (o : List Stored). own_word o p) own ∙ (cond-false (same_spot (Hold me.who) p) (a + 1) (own_word rs.own p) other ∙ h.own p);
        };
        none = ap (λ (x : List Event). x ++ ds) h.none ∙ w.none;
        bound = omega arith;
      }

  -- it was another's
  busy : (holder : ℕ) → IsBusy me a holder rs r t ds → IsTrying me a r0 r (tr ++ t) (es ++ ds)
  busy holder w =
      let own : r.own ≡ record { spot = Hold me.who; value = 0 } ∷ record { spot = Hold me.who; value = a + 1 } ∷ rs.own = ap (λ (x : Memo). x.own) w.memo in
      let memo : core r ≡ core (record rs { own = r.own }) = w.memo ∙ ap (λ (o : List Stored). core (record rs { own = o })) (sym own) in
      let long : length t ≡ 3 = ap length w.trail in
      let lost : failed t ≡ 1 = ap failed w.trail ∙ busy_failed me a holder in
      let bound : IsWithin (0 + 0) (tr ++ t) = within_more 0 0 tr t h.bound (omega arith) in
      record {
        may = h.may;
        memo = memo ∙ ap (λ (x : Memo). core (record x { own = r.own })) h.memo;
        own = λ p. ap (λ (o : List Stored). own_word o p) own ∙ (by p ∙ h.own p);
        none = ap (λ (x : List Event). x ++ ds) h.none ∙ w.none;
        bound = omega arith;
      }
    where
      -- the hold word was 0 before
      was : own_word rs.own (Hold me.who) ≡ 0
      was = h.own (Hold me.who) ∙ (h.may.idle.hold ∙ ap hold_word h.may.none)

      by : (p : Spot) → own_word (record { spot = Hold me.who; value = 0 } ∷ record { spot = Hold me.who; value = a + 1 } ∷ rs.own) p ≡ own_word rs.own p
      by p = elim (cases_Bool (same_spot (Hold me.who) p)) [
        | inl is ↦ cond-true (same_spot (Hold me.who) p) 0 (cond (same_spot (Hold me.who) p) (a + 1) (own_word rs.own p)) is ∙ (sym was ∙ ap (own_word rs.own) (same_spot_is (Hold me.who) p is))
        | inr other ↦ cond-false (same_spot (Hold me.who) p) 0 (cond (same_spot (Hold me.who) p) (a + 1) (own_word rs.own p)) other ∙ cond-false (same_spot (Hold me.who) p) (a + 1) (own_word rs.own p) other
      ]

-- ---- the search

-- whatever it answers, nothing of the memo changed but what is known and looked at, with no event
pub find_only : (me : Me) (a key : ℕ) (r0 r : Memo) (tr : Trail) (es : List Event) (b : Found) → FindLeaves (finding me a key) r0 r tr es b → OnlyReads r0 r × (es ≡ [])
find_only me a key r0 r tr es (Absent home first) h = (h.reads, h.none)
find_only me a key r0 r tr es (At entry before word) h = (h.reads, h.none)

-- between two calls, with the latch
searched_idle : (c a : ℕ) (r0 rs r : Memo) → IsIdle c r0 → Latched c a r0 rs → OnlyReads rs r → IsIdle c r
searched_idle c a r0 rs r idle took reads =
    record {
      live = ap (λ (x : Memo). x.status) reads.memo ∙ (ap (λ (x : Memo). x.status) took.memo ∙ idle.live);
      op = ap (λ (x : Memo). x.op) reads.memo ∙ (ap (λ (x : Memo). x.op) took.memo ∙ idle.op);
      making = ap (λ (x : Memo). x.making) reads.memo ∙ (ap (λ (x : Memo). x.making) took.memo ∙ idle.making);
      hold = ap (λ (x : Memo). own_word x.own (Hold c)) reads.memo ∙ (took.hold ∙ sym (ap hold_word (ap (λ (x : Memo). x.latch) reads.memo ∙ ap (λ (x : Memo). x.latch) took.memo)));
    }

-- ---- the plan

-- what is known before the first call
pub locate_begin : (me : Me) (a key : ℕ) (r : Memo) → MayLocate me a r → LocateKnows (locating me a key) Take r r [] []
locate_begin me a key r may = record { may = may; memo = refl; own = λ p. refl; none = refl; bound = omega arith }

pub locate_laws : PlanLaws locate_parts locate_plan
locate_laws =
    record {
      stays = λ m. stays m;
      calls = λ m. calls m m.point;
      parts = λ m. let first = is_take m.point in
          or_part_laws first hold find_control (calls_part word_control hold_plan) (calls_part word_control find_plan) (calls_part_laws word_control hold_plan hold_laws first) (calls_part_laws word_control find_plan find_laws first);
      opens = λ m. opens m m.point;
      leads = λ m r0 rs r tr t es ds b h g held same. leads m m.point r0 rs r tr t es ds b h g;
    }
  where
    stays : (m : LocateState) (b : LocateAnswer) → PlanStays locate_parts locate_plan m b
    stays m (First (Ok done)) = record { same_me = refl; same_line = refl; same_start = refl; started = λ e. refl }
    stays m (First (Err e)) = record { same_me = refl; same_line = refl; same_start = refl; started = λ e. refl }
    stays m (Second b) = record { same_me = refl; same_line = refl; same_start = refl; started = λ e. absurd (cc) }

    calls : (m : LocateState) (y : LocatePoint) → IsCall locate_parts locate_plan (record m { point = y })
    calls m Take = record { me = refl; asks = refl }
    calls m _ = record { me = refl; asks = refl }

    opens : (m : LocateState) (y : LocatePoint) (r0 r : Memo) (tr : Trail) (es : List Event) → LocateKnows (record m { point = y }) y r0 r tr es → locate_part.needs (locate_call m y) r
    opens m Search r0 r tr es h = record { made = refl; first = refl; start = refl; knows = find_begin m.me m.author m.key r (may_find m.me m.author r0 r tr es h) }
    opens m _ r0 r tr es h = record { made = refl; first = refl; start = refl; knows = hold_begin m.me m.author r (may_take m.me m.author r0 r tr es h) }

    -- after a try
    tried : (m : LocateState) (y : LocatePoint) (r0 rs r : Memo) (tr t : Trail) (es ds : List Event) (b : Result (Unit {0}) Busy) → IsTrying m.me m.author r0 rs tr es → HoldLeaves (holding m.me m.author) rs r t ds b
        → Follows locate_parts locate_plan (record m { point = y }) (First b) r0 r (tr ++ t) (es ++ ds)
    tried m y r0 rs r tr t es ds (Ok done) h w = took m.me m.author r0 rs r tr t es ds h w
    tried m y r0 rs r tr t es ds (Err e) h w = busy m.me m.author r0 rs r tr t es ds h e.holder w

    leads : (m : LocateState) (y : LocatePoint) (r0 rs r : Memo) (tr t : Trail) (es ds : List Event) (b : LocateAnswer) → LocateKnows (record m { point = y }) y r0 rs tr es → locate_part.leaves (locate_call m y) rs r t ds b
        → Follows locate_parts locate_plan (record m { point = y }) b r0 r (tr ++ t) (es ++ ds)
    leads m Take r0 rs r tr t es ds (First b) h w = tried m Take r0 rs r tr t es ds b h w
    leads m Again r0 rs r tr t es ds (First b) h w = tried m Again r0 rs r tr t es ds b h w
    leads m Search r0 rs r tr t es ds (Second b) h w =
        let only = find_only m.me m.author m.key rs r t ds b w in
        record {
          latched = rs;
          took = h.took;
          before = tr;
          after = t;
          trail = refl;
          bound = h.bound;
          none = ap (λ (x : List Event). x ++ ds) h.none ∙ only.1;
          found = subst (λ (x : List Event). FindLeaves (finding m.me m.author m.key) rs r t (x ++ ds) b) (sym h.none) w;
          idle = searched_idle m.me.who m.author r0 rs r h.may.idle h.took only.0;
        }
    leads m _ r0 rs r tr t es ds _ h w = absurd w
