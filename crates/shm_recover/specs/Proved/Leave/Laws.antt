-- what is owed of a leaving
use Rattle.std.proofs.Common.{◌≡◌, ◌≢◌, ℕ, ◌+◌, ◌*◌, ◌<◌, ◌≤◌, refl, sym, ap, ◌∙◌, subst, arith, Bool, true, false, not, List, [], ◌++◌, append-nil, inl, inr, length}
use Rattle.std.proofs.lemmas.Bool.{cases_lt, eqb-true, eq-eqb, eqb-false, true≢false}
use Rattle.std.specs.Prelude.{◌==◌, if◌then◌else◌, nat_lt, Option, Some, None, Result, Ok, Err, slice_index}
use Rattle.std.specs.List.{Contains}
use Rattle.shm_graph.specs.{Bounds.{redo_steps, tear_steps}, declared.{ask.Me.Me, spot.Spot.TheVariants.Hold}}
use Rattle.shm_graph.specs.{declared.memo.Memo.Memo, Asks.Trail, Events.Event, MemoAfterStore.not_segment}
use Rattle.shm_graph.specs.{Views.own_word, Core.core}
use Rattle.kind_laws.proofs.Lists.{filter_from}
use Rattle.plans.specs.{declared.or.Or.TheVariants.{First, Second}, Proved.{CallTells.within_more, Either.or_part_laws}}
use Rattle.plans.specs.{CallsControl.calls_control, CallsPart.{calls_part, calls_part_laws}, Parts.IsHeld}
use Rattle.plans.specs.Plans.{PlanLaws, PlanStays, IsCall, Follows}
use Rattle.plans.specs.Words.{word_control, word_part, word_part_laws, WordLeaves}
use Rattle.shm_count.specs.{declared.answer.EraSpent.EraSpent, Roots.root_word, Tear.Events.frees}
use Rattle.kind_parts.proofs.{Cores.here_same, Words.{Own.gone_store, Shared.{segment_give, segment_load}}}
use Rattle.shm_ref.specs.{declared.drop_roots.RootsState.RootsState, Proved.Leaving.may_still}
use Rattle.shm_ref.specs.{Proved.DropRoots.Laws.{roots_begin, roots_laws}, Lefts.MayDrop}
use Rattle.shm_ref.specs.DropRoots.{Control.{drop_root, roots_steered}, AreGone, RootsLeaves, roots_plan}
use Rattle.shm_recover.specs.declared.leave.LeavePoint.{LeavePoint, TheVariants.{Roots, Look, Give, Status}}
use Rattle.shm_recover.specs.declared.leave.LeaveState.{LeaveState}
use Rattle.shm_recover.specs.Leave.Control.{LeaveAnswer, leaving, leave_parts, leave_ask, leave_call_at, leave_next, leave_after_word, is_roots, is_last, leave_steered}
use Rattle.shm_recover.specs.Leave.{MayLeave, IsLeaving, HasLeft, LeaveKnows, LeaveFound, leave_plan}
use Rattle.shm_recover.specs.Proved.Leave.Words.{all_done, root_beyond, owned_inside}

-- ---- its control

next_same : {T : Type 0} (f : LeaveState → T) (m : LeaveState) → ((s : ℕ) (y : LeavePoint) → f (record m { segment = s; point = y }) ≡ f m) → f (leave_next m) ≡ f m
next_same f m same = go (m.segment + 1 == m.me.geometry.segments)
  where
    go : (q : Bool) → f (if q then record m { point = Status } else record m { segment = m.segment + 1; point = Look }) ≡ f m
    go true = same m.segment Status
    go false = same (m.segment + 1) Look

word_same : {T : Type 0} (f : LeaveState → T) (m : LeaveState) (y : LeavePoint) (n : ℕ) → ((s : ℕ) (y : LeavePoint) → f (record m { segment = s; point = y }) ≡ f m) → f (leave_after_word m y n) ≡ f m
word_same f m Roots n same = refl
word_same f m Status n same = refl
word_same f m Give n same = next_same f m same
word_same f m Look n same = go (n == m.me.who + 1)
  where
    go : (q : Bool) → f (if q then record m { point = Give } else leave_next m) ≡ f m
    go true = same m.segment Give
    go false = next_same f m same

-- no word step leads back to the roots
next_later : (m : LeaveState) → is_roots (leave_next m).point ≡ false
next_later m = go (m.segment + 1 == m.me.geometry.segments)
  where
    go : (q : Bool) → is_roots (if q then record m { point = Status } else record m { segment = m.segment + 1; point = Look }).point ≡ false
    go true = refl
    go false = refl

later : (m : LeaveState) (y : LeavePoint) (n : ℕ) → is_last y ≡ false → is_roots (leave_after_word m y n).point ≡ false
later m Roots n e = absurd (true≢false e)
later m Status n e = absurd (true≢false e)
later m Give n e = next_later m
later m Look n e = go (n == m.me.who + 1) (next_later m)
  where
    go : (q : Bool) → is_roots (leave_next m).point ≡ false → is_roots (if q then record m { point = Give } else leave_next m).point ≡ false
    go true h = refl
    go false h = h

calls : (m : LeaveState) (y : LeavePoint) → IsCall leave_parts leave_plan (record m { point = y })
calls m Roots = record { me = refl; asks = refl }
calls m Look = record { me = refl; asks = refl }
calls m Give = record { me = refl; asks = refl }
calls m Status = record { me = refl; asks = refl }

-- ---- what they lead to

module _ (m : LeaveState) (r0 rs r : Memo) (tr t : Trail) (es ds : List Event) where
  abbrev me : Me
  me = m.me

  abbrev c : ℕ
  c = m.me.who

  abbrev s : ℕ
  s = m.segment

  -- what is known next
  abbrev Next : LeaveState → Type 0
  Next m2 = LeaveKnows m2 m2.point r0 r (tr ++ t) (es ++ ds)

  -- the roots are gone
  first_segment : MayLeave me r0 → s ≡ 0 → 0 < me.geometry.segments → IsHeld me r → AreGone me 16 r0 r (tr ++ t) (es ++ ds) → LeaveKnows (record m { point = Look }) Look r0 r (tr ++ t) (es ++ ds)
  first_segment h start some held gone =
      let rest = gone.left.rest in (
        record {
          may = record {
            may = may_still me (λ j. nat_lt j 16) r0 r h.may gone.left;
            hold = gone.left.own (Hold c) refl refl ∙ h.hold;
            latch = ap (λ (x : Memo). x.latch) rest ∙ h.latch;
            making = ap (λ (x : Memo). x.making) rest ∙ h.making;
            dying = gone.dying ∙ h.dying;
            sends = λ i. ap (λ (x : Memo). slice_index x.unsent i) rest ∙ h.sends i;
            takes = λ i. ap (λ (x : Memo). slice_index x.untaken i) rest ∙ h.takes i;
          };
          roots = λ k. elim (cases_lt k 16) [ inl l ↦ gone.gone k l | inr far ↦ root_beyond me h.may.who r k held far ];
          owned = λ i has. (omega arith, owned_inside me h.may.who r i held has);
        },
        (omega arith),
        record { part = ap (λ (x : Memo). x.part) rest; events = gone.events; bound = (let b = gone.bound in omega arith) },
      )

  -- a word step left all but the segments
  still : (n k : ℕ) → core (record r { owned = [] }) ≡ core (record rs { owned = [] }) → ((i : ℕ) → Contains r.owned i → (k ≤ i) × (i < me.geometry.segments)) → IsLeaving me n rs → IsLeaving me k r
  still n k same owned h =
      record {
        may = record {
          may = record { geometry = h.may.may.geometry; who = h.may.may.who; here = here_same rs r (ap (λ (x : Memo). x.status) same) h.may.may.here; idle = ap (λ (x : Memo). x.op) same ∙ h.may.may.idle };
          hold = ap (λ (x : Memo). own_word x.own (Hold c)) same ∙ h.may.hold;
          latch = ap (λ (x : Memo). x.latch) same ∙ h.may.latch;
          making = ap (λ (x : Memo). x.making) same ∙ h.may.making;
          dying = ap (λ (x : Memo). x.dying) same ∙ h.may.dying;
          sends = λ i. ap (λ (x : Memo). slice_index x.unsent i) same ∙ h.may.sends i;
          takes = λ i. ap (λ (x : Memo). slice_index x.untaken i) same ∙ h.may.takes i;
        };
        roots = λ j. ap (λ (x : Memo). root_word c x j) same ∙ h.roots j;
        owned = owned;
      }

  -- with one pair more
  one_more : (n k : ℕ) → n + 1 ≤ k → r.part ≡ rs.part → ds ≡ [] → length t ≡ 1 → HasLeft me n r0 rs tr es → HasLeft me k r0 r (tr ++ t) (es ++ ds)
  one_more n k less same none one h =
      let b = within_more ((8 + redo_steps me.geometry.wide) * 16 + n + tear_steps me.geometry.wide (frees es)) 1 tr t h.bound (omega arith) in
      subst (HasLeft me k r0 r (tr ++ t)) (sym (ap (λ (x : List Event). es ++ x) none ∙ append-nil es)) (record { part = same ∙ h.part; events = h.events; bound = omega arith })

  -- on to the next segment, or to the status
  goes_on : s < me.geometry.segments → IsLeaving me (s + 1) r → HasLeft me (2 * (s + 1)) r0 r (tr ++ t) (es ++ ds) → Next (leave_next m)
  goes_on low h left = go (s + 1 == me.geometry.segments) (eqb-true (s + 1) me.geometry.segments) (eqb-false (s + 1) me.geometry.segments)
    where
      go : (q : Bool) → (q ≡ true → s + 1 ≡ me.geometry.segments) → (q ≡ false → s + 1 ≢ me.geometry.segments) → Next (if q then record m { point = Status } else record m { segment = s + 1; point = Look })
      go true last more = subst (λ n. IsLeaving me n r × HasLeft me (2 * n) r0 r (tr ++ t) (es ++ ds)) (last refl) (h, left)
      go false last more = (h, (let n = more refl in omega arith), left)

  -- the segment was loaded
  looked : (n : ℕ) → LeaveKnows m Look r0 rs tr es → WordLeaves (LeaveFound m Look) (record { me = me; ask = leave_ask m Look; over = false }) rs r t ds n → Next (leave_after_word m Look n)
  looked n (h, low, left) w = go (n == c + 1) (eqb-true n (c + 1)) (eqb-false n (c + 1))
    where
      same : core (record r { owned = [] }) ≡ core (record rs { owned = [] })
      same = ap (λ (x : Memo). record x { owned = [] }) w.found.left

      owned_same : (i : ℕ) → Contains r.owned i → Contains rs.owned i
      owned_same i = subst (λ (xs : List ℕ). Contains xs i) (ap (λ (x : Memo). x.owned) w.found.left)

      go : (q : Bool) → (q ≡ true → n ≡ c + 1) → (q ≡ false → n ≢ c + 1) → Next (if q then record m { point = Give } else leave_next m)
      go true mine other = (
        still s s same (λ i has. h.owned i (owned_same i has)) h,
        low,
        subst (λ (xs : List ℕ). Contains xs s) (sym (ap (λ (x : Memo). x.owned) w.found.left)) (w.found.found.0 (mine refl)),
        one_more (2 * s) (2 * s + 1) (omega arith) (ap (λ (x : Memo). x.part) same) w.none w.one left,
      )
      go false mine other =
          goes_on low
          (still s (s + 1) same (λ i has. let y = h.owned i (owned_same i has) in ((let n = not_it (other refl) i (owned_same i has) in omega arith), y.1)) h)
          (one_more (2 * s) (2 * (s + 1)) (omega arith) (ap (λ (x : Memo). x.part) same) w.none w.one left)
        where
          not_it : n ≢ c + 1 → (i : ℕ) → Contains rs.owned i → i ≢ s
          not_it o i has e = o (w.found.found.1 (subst (Contains rs.owned) e has))

  -- the segment was given up
  given : (n : ℕ) → LeaveKnows m Give r0 rs tr es → WordLeaves (LeaveFound m Give) (record { me = me; ask = leave_ask m Give; over = false }) rs r t ds n → Next (leave_after_word m Give n)
  given n (h, low, has, left) w =
      goes_on low
      (still s (s + 1) (ap (λ (x : Memo). record x { owned = [] }) w.found.left)
      (λ i has. let y = filter_from (not_segment s) rs.owned i (subst (λ (xs : List ℕ). Contains xs i) (ap (λ (x : Memo). x.owned) w.found.left) has) in
      let z = h.owned i y.0 in
      let o : s ≢ i = (λ e. true≢false (sym y.1 ∙ ap not (eq-eqb s i e))) in
      (omega arith, z.1)) h)
      (one_more (2 * s + 1) (2 * (s + 1)) (omega arith) (ap (λ (x : Memo). x.part) w.found.left) w.none w.one left)

-- what the drop of the roots leaves, as the first call
from_start : (me : Me) (r0 rs r : Memo) (tr t : Trail) (es ds : List Event) (a : Result (Unit {0}) EraSpent) → rs ≡ r0 → tr ≡ [] → es ≡ [] → RootsLeaves (record { me = me; root = 0 }) rs r t ds a → RootsLeaves (record { me = me; root = 0 }) r0 r (tr ++ t) (es ++ ds) a
from_start me r0 rs r tr t es ds a same none quiet g =
    let p : RootsState = record { me = me; root = 0 } in
    subst (λ (x : Memo). RootsLeaves p x r (tr ++ t) (es ++ ds) a) same
    (subst (λ (x : Trail). RootsLeaves p rs r (x ++ t) (es ++ ds) a) (sym none)
    (subst (λ (x : List Event). RootsLeaves p rs r t (x ++ ds) a) (sym quiet) g))

-- what is known before the first call
pub leave_begin : (me : Me) (r : Memo) → MayLeave me r → LeaveKnows (leaving me) Roots r r [] []
leave_begin me r may = (may, refl, refl, refl, refl)

pub leave_laws : PlanLaws leave_parts leave_plan
leave_laws =
    record {
      stays = stays;
      calls = λ m. calls m m.point;
      parts = λ m. let first = is_roots m.point in
          or_part_laws first (calls_control drop_root roots_steered) word_control (calls_part drop_root roots_plan) (word_part first m.me (leave_ask m m.point) (LeaveFound m m.point))
          (calls_part_laws drop_root roots_plan roots_laws first) (word_part_laws first m.me (leave_ask m m.point) (LeaveFound m m.point));
      opens = λ m. opens m m.point;
      leads = λ m r0 rs r tr t es ds a h g held same. leads m m.point r0 rs r tr t es ds a h g held;
    }
  where
    stays : (m : LeaveState) (b : LeaveAnswer) → PlanStays leave_parts leave_plan m b
    stays m (First (Ok u)) = record { same_me = refl; same_line = refl; same_start = refl; started = λ e. refl }
    stays m (First (Err e)) = record { same_me = refl; same_line = refl; same_start = refl; started = λ e. absurd (cc) }
    stays m (Second n) = record { same_me = word_same (λ (x : LeaveState). x.me) m m.point n (λ s y. refl); same_line = refl; same_start = word_same leave_steered.start m m.point n (λ s y. refl); started = started (is_last m.point) (later m m.point n) }
      where
        started : (q : Bool) → (q ≡ false → is_roots (leave_after_word m m.point n).point ≡ false) → ◌≡◌ {A = Option (Result (Unit {0}) EraSpent)} (if q then Some (Ok tt) else None) None → is_roots (leave_after_word m m.point n).point ≡ false
        started true h e = absurd (cc)
        started false h e = h refl

    -- what the calls need
    opens : (m : LeaveState) (y : LeavePoint) (r0 r : Memo) (tr : Trail) (es : List Event) → LeaveKnows m y r0 r tr es → (leave_plan.part (record m { point = y })).needs (leave_call_at m y) r
    opens m Roots r0 r tr es (h, same, none, quiet, start) = record { made = refl; first = refl; start = refl; knows = roots_begin m.me r (subst (MayDrop m.me) (sym same) h.may) }
    opens m Look r0 r tr es h = segment_load false m.me r h.0.may.may.who m.segment h.1
    opens m Give r0 r tr es h = segment_give false m.me r h.0.may.may.who m.segment h.1 refl (record { here = h.0.may.may.here; idle = h.0.may.making; owned = h.2 })
    opens m Status r0 r tr es h = gone_store false m.me r h.0.may.may.who (all_done m.me r h.0)

    -- each call leads on
    leads : (m : LeaveState) (y : LeavePoint) (r0 rs r : Memo) (tr t : Trail) (es ds : List Event) (a : LeaveAnswer) → LeaveKnows (record m { point = y }) y r0 rs tr es → (leave_plan.part (record m { point = y })).leaves (leave_call_at m y) rs r t ds a → IsHeld m.me r
        → Follows leave_parts leave_plan (record m { point = y }) a r0 r (tr ++ t) (es ++ ds)
    leads m Roots r0 rs r tr t es ds (First (Ok u)) h g held = first_segment (record m { point = Roots }) r0 rs r tr t es ds h.0 h.4 (let y = h.0.may.geometry.segment in omega arith) held (from_start m.me r0 rs r tr t es ds (Ok u) h.1 h.2 h.3 g)
    leads m Roots r0 rs r tr t es ds (First (Err e)) h g held = from_start m.me r0 rs r tr t es ds (Err e) h.1 h.2 h.3 g
    leads m Look r0 rs r tr t es ds (Second n) h g held = looked (record m { point = Look }) r0 rs r tr t es ds n h g
    leads m Give r0 rs r tr t es ds (Second n) h g held = given (record m { point = Give }) r0 rs r tr t es ds n h g
    leads m Status r0 rs r tr t es ds (Second n) h g held =
        let left = one_more (record m { point = Status }) r0 rs r tr t es ds (2 * m.me.geometry.segments) (2 * m.me.geometry.segments + 1) (omega arith) (ap (λ (x : Memo). x.part) g.found.left) g.none g.one h.1 in
        let bound = left.bound in
        record { status = ap (λ (x : Memo). x.status) g.found.left; left = g.found.read; part = left.part; events = left.events; bound = omega arith }
    leads m Roots r0 rs r tr t es ds (Second n) h g held = absurd g
    leads m Look r0 rs r tr t es ds (First a) h g held = absurd g
    leads m Give r0 rs r tr t es ds (First a) h g held = absurd g
    leads m Status r0 rs r tr t es ds (First a) h g held = absurd g
