-- what is owed of setting a reference word of an own block
use Rattle.std.proofs.Common.{◌≡◌, ◌≢◌, ℕ, zero, suc, ◌+◌, ◌%◌, ◌≤◌, refl, sym, ap, ◌∙◌, subst, arith, Bool, true, false, List, [], ◌∷◌, ◌++◌, append-nil, inl, inr, length}
use Rattle.std.proofs.lemmas.Bool.{cases_eq, cases_lt, eq-eqb, false≢true, le-leb, lt-leb, ne_eqb}
use Rattle.std.specs.{Prelude.{◌==◌, nat_le, if◌then◌else◌, Some, None, Result, Ok, Err}, List.Contains}
use Rattle.shm_words.proofs.Placing.{total_small}
use Rattle.shm_words.specs.{Layout.{total_of, address_limit}, Tags.{tag_author, tag_refs}}
use Rattle.shm_graph.specs.declared.{memo.{Memo.Memo, Op.TheVariants.Nothing, Stored.Stored}, spot.Spot.Spot}
use Rattle.shm_graph.specs.{Agents.recovers, Asks.{Trail, IsWithin}, Bounds.{change_steps, tear_steps, up_steps}}
use Rattle.shm_graph.specs.{Core.core, Events.Event, Laws.Outcome, Reach.is_reached, Views.own_word}
use Rattle.shm_graph.specs.declared.spot.Spot.TheVariants as spot
use Rattle.shm_graph.specs.Events as event
use Rattle.plans.specs.{declared.or.Or.TheVariants.{First, Second}, Proved.{CallTells.within_more, Either.or_part_laws}}
use Rattle.plans.specs.{Either.{or_control, or_part}, Parts.IsHeld, Plans.{PlanLaws, PlanStays, IsCall, Follows}}
use Rattle.plans.specs.Words.{word_control, word_part_laws, WordLeaves}
use Rattle.kind_parts.specs.WordParts.{OwnLoaded, ReferenceLoaded, WordLoaded, as_known}
use Rattle.kind_parts.proofs.{BeginWords.{claim_by, listed_told}, Words.Blocks.told_inside}
use Rattle.shm_count.specs.declared.answer.{EraSpent.EraSpent as ASpent, UpFault.UpFault}
use Rattle.shm_count.specs.declared.{answer.UpFault.TheVariants.{CountFull, EraSpent}, point.Aim.Aim}
use Rattle.shm_count.specs.{declared.point.Half.TheVariants.First as Half, CountParts.tear_part}
use Rattle.shm_count.specs.Proved.{CountParts.tear_part_laws, Lowering.torn_leaves, Slots.Parts.era_room}
use Rattle.shm_count.specs.Slots.{Lost, StepCause, StepLeft, Untouched}
use Rattle.shm_count.specs.Slots.Parts.{change_slot_laws, change_slot_part, down_slot_laws, down_slot_part, up_slot_laws, up_slot_part}
use Rattle.shm_count.specs.Step.Control.{IsInside, block_at, raises, step_control}
use Rattle.shm_count.specs.{Step.Machines.{down_control, down_told, up_control, up_told}, Tear.Control.tear_control}
use Rattle.shm_count.specs.Tear.{Events.frees, TearLeaves}
use Rattle.shm_count.specs.declared.point.Aim.TheVariants as aims
use Rattle.shm_ref.specs.declared.{answer.SetFault.SetFault, set_ref.SetPoint.SetPoint}
use Rattle.shm_ref.specs.declared.set_ref.SetPoint.TheVariants.{Tag, Held, Look, Raise, Lower, Change, Tear}
use Rattle.shm_ref.specs.declared.set_ref.SetState.{SetState}
use Rattle.shm_ref.specs.Proved.{CoreLeaves.{filled_word, lost_word, untouched_core}, CountedBlocks.reached_counted}
use Rattle.shm_ref.specs.Proved.Leaving.{frees-append, stopped_at}
use Rattle.shm_ref.specs.Proved.SetRef.Memos.{reference_core, seen_block, seen_dying, seen_op, seen_own}
use Rattle.shm_ref.specs.Proved.SetRef.Steps.{set_opens}
use Rattle.shm_ref.specs.SetRef.Control.{SetAnswer, is_tag, lowered_after, lowered_turns, set_ask, set_call_at, set_fault, set_parts, step_point}
use Rattle.shm_ref.specs.SetRef.{IsLooked, IsRead, SetKnows, SetLeaves, aim_of, set_found, set_plan, set_word_part, taken_events}
use Rattle.shm_ref.specs.SetRef.{SetDid.{Kept, Raised, Taken}, SetSpent.{AtStep, AtTear}, Memos.{tag_seen, word_seen}}
use Rattle.shm_ref.specs.declared.answer.SetFault.TheVariants as fault

-- ---- the step by which a word comes to be another

aim_up : (old to : ℕ) → old ≡ 0 → aim_of old to ≡ aims.Up to
aim_up old to e = ap (λ x. aim_of x to) e

aim_down : (old to : ℕ) → old ≢ 0 → to ≡ 0 → aim_of old to ≡ aims.Down old
aim_down zero to some e = absurd (some refl)
aim_down (suc a) to some e = ap (aim_of (suc a)) e

aim_change : (old to : ℕ) → old ≢ 0 → to ≢ 0 → aim_of old to ≡ aims.Change old to
aim_change zero to some new = absurd (some refl)
aim_change (suc a) zero some new = absurd (new refl)
aim_change (suc a) (suc b) some new = refl

-- none of its events frees a block
taken_frees : (c : ℕ) (p : Spot) (a x : ℕ) → frees (taken_events c p a x) ≡ 0
taken_frees c p a zero = refl
taken_frees c p a (suc x) = refl

-- those of a change
taken_change : (c : ℕ) (p : Spot) (a x : ℕ) → x ≢ 0 → taken_events c p a x ≡ event.ChangeUp c p a x ∷ event.ChangeDown c a ∷ []
taken_change c p a zero some = absurd (some refl)
taken_change c p a (suc x) some = refl

-- a block whose count is full is the one that the word was to name
full_to : (old to : ℕ) → old ≢ to → raises (aim_of old to) Half ≡ true → (block_at (aim_of old to) Half ≡ to) × (to ≢ 0)
full_to zero to n up = (refl, λ e. n (sym e))
full_to (suc a) zero n up = absurd (false≢true up)
full_to (suc a) (suc b) n up = (refl, λ e. cc)

-- it comes next
point_up : (old to : ℕ) → old ≡ 0 → step_point old to ≡ Raise
point_up old to e = ap (λ x. step_point x to) e

point_down : (old to : ℕ) → old ≢ 0 → to ≡ 0 → step_point old to ≡ Lower
point_down old to some e = ap (λ z. if z then Raise else if to == 0 then Lower else Change) (ne_eqb old 0 some) ∙ ap (λ z. if z then Lower else Change) (eq-eqb to 0 e)

point_change : (old to : ℕ) → old ≢ 0 → to ≢ 0 → step_point old to ≡ Change
point_change old to some new = ap (λ z. if z then Raise else if to == 0 then Lower else Change) (ne_eqb old 0 some) ∙ ap (λ z. if z then Lower else Change) (ne_eqb to 0 new)

not_tag : (old to : ℕ) → is_tag (step_point old to) ≡ false
not_tag old to = choose (old == 0) (to == 0)
  where
    choose : (y z : Bool) → is_tag (if y then Raise else if z then Lower else Change) ≡ false
    choose true z = refl
    choose false true = refl
    choose false false = refl

-- ---- the plan

stays : (m : SetState) (y : SetPoint) (a : SetAnswer) → PlanStays set_parts set_plan (record m { point = y }) a
stays m Tag (First n) = record { same_me = refl; same_line = refl; same_start = refl; started = λ e. refl }
stays m Held (First n) = record { same_me = refl; same_line = refl; same_start = refl; started = λ e. refl }
stays m Look (First n) = record { same_me = refl; same_line = refl; same_start = refl; started = λ e. not_tag (n % address_limit) m.to }
stays m Raise (First n) = record { same_me = refl; same_line = refl; same_start = refl; started = λ e. not_tag (n % address_limit) m.to }
stays m Lower (First n) = record { same_me = refl; same_line = refl; same_start = refl; started = λ e. not_tag (n % address_limit) m.to }
stays m Change (First n) = record { same_me = refl; same_line = refl; same_start = refl; started = λ e. not_tag (n % address_limit) m.to }
stays m Tear (First n) = record { same_me = refl; same_line = refl; same_start = refl; started = λ e. not_tag (n % address_limit) m.to }
stays m y (Second (First (First (Ok u)))) = record { same_me = refl; same_line = refl; same_start = refl; started = λ e. absurd (cc) }
stays m y (Second (First (First (Err f)))) = record { same_me = refl; same_line = refl; same_start = refl; started = λ e. absurd (cc) }
stays m y (Second (First (Second (Ok true)))) = record { same_me = refl; same_line = refl; same_start = refl; started = λ e. refl }
stays m y (Second (First (Second (Ok false)))) = record { same_me = refl; same_line = refl; same_start = refl; started = λ e. absurd (cc) }
stays m y (Second (First (Second (Err e)))) = record { same_me = refl; same_line = refl; same_start = refl; started = λ z. absurd (cc) }
stays m y (Second (Second (First (Ok true)))) = record { same_me = refl; same_line = refl; same_start = refl; started = λ e. refl }
stays m y (Second (Second (First (Ok false)))) = record { same_me = refl; same_line = refl; same_start = refl; started = λ e. absurd (cc) }
stays m y (Second (Second (First (Err f)))) = record { same_me = refl; same_line = refl; same_start = refl; started = λ e. absurd (cc) }
stays m y (Second (Second (Second (Ok u)))) = record { same_me = refl; same_line = refl; same_start = refl; started = λ e. absurd (cc) }
stays m y (Second (Second (Second (Err e)))) = record { same_me = refl; same_line = refl; same_start = refl; started = λ z. absurd (cc) }

calls : (m : SetState) (y : SetPoint) → IsCall set_parts set_plan (record m { point = y })
calls m Tag = record { me = refl; asks = refl }
calls m Held = record { me = refl; asks = refl }
calls m Look = record { me = refl; asks = refl }
calls m Raise = record { me = refl; asks = refl }
calls m Lower = record { me = refl; asks = refl }
calls m Change = record { me = refl; asks = refl }
calls m Tear = record { me = refl; asks = refl }

module _ (m : SetState) (r0 rs r : Memo) (tr t : Trail) (es ds : List Event) (held : IsHeld m.me r) (agent : recovers r ≡ recovers rs) where
  abbrev c : ℕ
  c = m.me.who

  abbrev b : ℕ
  b = m.block

  abbrev k : ℕ
  k = m.word

  abbrev p : Spot
  p = spot.Body b k

  -- the plan at a point
  abbrev At : SetPoint → SetState
  At y = record m { point = y }

  -- what is known before the next call, or what is left
  abbrev Leads : SetPoint → SetAnswer → Type 0
  Leads y a = Follows set_parts set_plan (At y) a r0 r (tr ++ t) (es ++ ds)

  abbrev Left : Result (Unit {0}) SetFault → Type 0
  Left = SetLeaves (record m { before = 0; point = Tag }) r0 r (tr ++ t) (es ++ ds)

  abbrev Knows : SetState → SetPoint → Type 0
  Knows n y = SetKnows n y r0 r (tr ++ t) (es ++ ds)

  -- a word step is no event
  silent : es ≡ [] → ds ≡ [] → es ++ ds ≡ []
  silent e d = ap (λ (x : List Event). x ++ ds) e ∙ d

  -- ---- the loads

  tagged : (n : ℕ) → SetKnows (At Tag) Tag r0 rs tr es → WordLeaves (WordLoaded (spot.Tag b)) (record { me = m.me; ask = set_ask (At Tag) Tag; over = false }) rs r t ds n → Leads Tag (First n)
  tagged n (may, begun, none, quiet) w =
      let known : as_known (spot.Tag b) r0 n = subst (λ (x : Memo). as_known (spot.Tag b) x n) begun w.found.found in
      let cored : core r ≡ core (tag_seen b n r0) = w.found.left ∙ ap (λ (x : Memo). core (tag_seen b n x)) begun in
      let quiet2 : es ++ ds ≡ [] = silent quiet w.none in
      let bound : IsWithin 1 (tr ++ t) = (let e = ap length (ap (λ (x : Trail). x ++ t) none) in let o = w.one in omega arith) in
      let next = Knows (At Held) Held in
      elim (cases_eq (tag_author m.me.geometry.wide n) c) [
        | inl e ↦ subst (λ z. Outcome (if z then (if nat_le (tag_refs m.me.geometry.wide n) k then Some (Err (fault.NoSuchRef (tag_refs m.me.geometry.wide n))) else None) else Some (Err (fault.NotAuthor (tag_author m.me.geometry.wide n)))) next Left) (sym (eq-eqb (tag_author m.me.geometry.wide n) c e))
            (elim (cases_lt k (tag_refs m.me.geometry.wide n)) [
              | inl low ↦ subst (λ z. Outcome (if z then Some (Err (fault.NoSuchRef (tag_refs m.me.geometry.wide n))) else None) next Left) (sym (lt-leb (tag_refs m.me.geometry.wide n) k low))
                  (n, record { may = may; tag = record { known = known; author = e; low = low }; same = cored; client = agent ∙ (ap recovers begun ∙ may.client); none = quiet2; bound = bound })
              | inr high ↦ subst (λ z. Outcome (if z then Some (Err (fault.NoSuchRef (tag_refs m.me.geometry.wide n))) else None) next Left) (sym (le-leb (tag_refs m.me.geometry.wide n) k high))
                  (record { left = []; stays = (n, known, e, refl, high, cored, quiet2, refl); bound = omega arith })
            ])
        | inr other ↦ subst (λ z. Outcome (if z then (if nat_le (tag_refs m.me.geometry.wide n) k then Some (Err (fault.NoSuchRef (tag_refs m.me.geometry.wide n))) else None) else Some (Err (fault.NotAuthor (tag_author m.me.geometry.wide n)))) next Left) (sym (ne_eqb (tag_author m.me.geometry.wide n) c other))
            (record { left = []; stays = (n, known, refl, other, cored, quiet2, refl); bound = omega arith })
      ]

  whose : (n : ℕ) → SetKnows (At Held) Held r0 rs tr es → WordLeaves (OwnLoaded (spot.Hold c)) (record { me = m.me; ask = set_ask (At Held) Held; over = false }) rs r t ds n → Leads Held (First n)
  whose n (u, h) w =
      let names : n ≡ own_word r0.own (spot.Hold c) = w.found.found ∙ ap (λ (x : Memo). own_word x.own (spot.Hold c)) h.same in
      let cored : core r ≡ core (tag_seen b u r0) = w.found.left ∙ h.same in
      let quiet : es ++ ds ≡ [] = silent h.none w.none in
      let o = w.one in
      let bound : IsWithin 2 (tr ++ t) = within_more 1 1 tr t h.bound (omega arith) in
      let next = Knows (At Look) Look in
      elim (cases_eq n (c + 1)) [
        | inl e ↦ (
            let word : Stored = record { spot = spot.Tag b; value = u } in
            let known : Contains r.known word = subst (λ (ks : List Stored). Contains ks word) (sym (ap (λ (x : Memo). x.known) cored)) (0, omega arith, refl) in
            let end = told_inside m.me r (claim_by m.me.geometry.wide b u) h.may.who held (listed_told m.me.geometry.wide c r b u known) in
            let low = h.tag.low in
            let last = end.1 in
            subst (λ z. Outcome (if z then None else Some (Err fault.NotHeld)) next Left) (sym (eq-eqb n (c + 1) e))
            (u, record { may = h.may; tag = h.tag; held = sym names ∙ e; inside = (omega arith, omega arith); same = cored; client = agent ∙ h.client; none = quiet; bound = bound })
            )
        | inr other ↦ subst (λ z. Outcome (if z then None else Some (Err fault.NotHeld)) next Left) (sym (ne_eqb n (c + 1) other))
            (record { left = []; stays = (u, h.tag, λ z. other (names ∙ z), cored, quiet, refl); bound = omega arith })
      ]

  looked : (n : ℕ) → SetKnows (At Look) Look r0 rs tr es → WordLeaves (ReferenceLoaded b k) (record { me = m.me; ask = set_ask (At Look) Look; over = false }) rs r t ds n → Leads Look (First n)
  looked n (u, h) w =
      let seen : Memo = word_seen b k u n r0 in
      let cored : core r ≡ core seen = w.found.left ∙ reference_core b k n rs (tag_seen b u r0) h.same in
      let known : as_known p (tag_seen b u r0) n = λ y has. w.found.found y (subst (λ (ks : List Stored). Contains ks (record { spot = p; value = y })) (sym (ap (λ (x : Memo). x.known) h.same)) has) in
      let read : IsRead m.me.geometry.wide c b k u n r0 = record { tag = h.tag; held = h.held; known = known } in
      let quiet : es ++ ds ≡ [] = silent h.none w.none in
      let o = w.one in
      let bound : IsWithin 3 (tr ++ t) = within_more 2 1 tr t h.bound (omega arith) in
      let dying : r.dying ≡ r0.dying = ap (λ (x : Memo). x.dying) cored ∙ seen_dying b k u n r0 in
      let idle : r.op ≡ Nothing = ap (λ (x : Memo). x.op) cored ∙ (seen_op b k u n r0 ∙ h.may.idle) in
      let counted : n ≢ 0 → IsInside m.me n × (n + 2 ≤ total_of m.me.geometry) × (Contains r0.dying n → ⊥) = (λ some.
      let q = reached_counted m.me h.may.who r n held (ap (λ (x : Memo). is_reached c x n) cored ∙ seen_block b k u n r0 c some) in
      (q.0, q.1, λ x. q.2 (subst (λ (xs : List ℕ). Contains xs n) (sym dying) x))) in
      let total = total_small m.me.geometry h.may.geometry in
      let small : n % address_limit ≡ n = elim (cases_eq n 0) [ inl e ↦ omega arith | inr some ↦ (let l = (counted some).0.1 in omega arith) ] in
      let Next : ℕ → SetPoint → SetState = λ z y. record m { before = z; point = y } in
      let goes : ℕ → Type 0 = λ z. Outcome (if z == m.to then Some (Ok tt) else None) (Knows (Next z (step_point z m.to)) (step_point z m.to)) Left in
      subst goes (sym small)
      (elim (cases_eq n m.to) [
        | inl e ↦ subst (λ z. Outcome (if z then Some (Ok tt) else None) (Knows (Next n (step_point n m.to)) (step_point n m.to)) Left) (sym (eq-eqb n m.to e))
            (record { tag = u; old = n; read = read; did = Kept e cored quiet; bound = omega arith })
        | inr other ↦ (
            let is : IsLooked m.me b k m.to u n r0 r (tr ++ t) (es ++ ds) = record { may = h.may; read = read; inside = h.inside; other = other; counted = counted; same = cored; client = agent ∙ h.client; era = era_room m.me r held h.may.who idle; none = quiet; bound = bound } in
            subst (λ z. Outcome (if z then Some (Ok tt) else None) (Knows (Next n (step_point n m.to)) (step_point n m.to)) Left) (sym (ne_eqb n m.to other))
            (elim (cases_eq n 0) [
              | inl e ↦ subst (λ y. Knows (Next n y) y) (sym (point_up n m.to e)) (e, λ z. other (e ∙ sym z), (u, is))
              | inr some ↦ elim (cases_eq m.to 0) [
                | inl e ↦ subst (λ y. Knows (Next n y) y) (sym (point_down n m.to some e)) (some, e, (u, is))
                | inr new ↦ subst (λ y. Knows (Next n y) y) (sym (point_change n m.to some new)) (some, new, (u, is))
              ]
            ])
            )
      ])

  -- ---- the count steps

  module _ (u : ℕ) (h : IsLooked m.me b k m.to u m.before r0 rs tr es) where
    abbrev seen : Memo
    seen = word_seen b k u m.before r0

    -- one was refused
    refused : (f : UpFault) → Untouched c rs r × StepCause m.me (aim_of m.before m.to) rs f × (ds ≡ []) → IsWithin (change_steps m.me.geometry.wide) t → Left (Err (set_fault f))
    refused (EraSpent e) (same, cause, none) short =
        let bound = within_more 3 (change_steps m.me.geometry.wide) tr t h.bound short in
        let era : e ≡ own_word r0.own (spot.Era c c) = cause.0 ∙ (ap (λ (x : Memo). own_word x.own (spot.Era c c)) h.same ∙ ap (λ (o : List Stored). own_word o (spot.Era c c)) (seen_own b k u m.before r0)) in
        record { left = []; stays = AtStep u m.before h.read h.other (untouched_core seen rs r h.same c same) (era, cause.1) (silent h.none none) refl; bound = omega arith }
    refused (CountFull d n) (same, (full, is, up), none) short =
        let bound = within_more 3 (change_steps m.me.geometry.wide) tr t h.bound short in
        let y = full_to m.before m.to h.other up in
        record {
          left = [];
          stays = (record { tag = u; old = m.before; read = h.read; other = h.other; some = y.1; memo = untouched_core seen rs r h.same c same; block = is ∙ y.0; full = full }, silent h.none none, refl);
          bound = omega arith;
        }

    -- the word came to name a block
    raised : (a : Result (Unit {0}) UpFault) → m.before ≡ 0 → m.to ≢ 0 → StepLeft m.me (aims.Up m.to) p false rs r t ds (up_told a) → Leads Raise (Second (First (First a)))
    raised (Ok done) empty some s =
        let bound = within_more 3 (up_steps m.me.geometry.wide) tr t h.bound s.bound in
        record { tag = u; old = m.before; read = h.read; did = Raised empty some (filled_word seen rs r h.same c b k m.to s.did.0) (ap (λ (x : List Event). x ++ ds) h.none ∙ s.did.1); bound = omega arith }
    raised (Err f) empty some s = let short = s.bound in refused f (s.did.0, subst (λ (x : Aim). StepCause m.me x rs f) (sym (aim_up m.before m.to empty)) s.did.1, s.did.2) (omega arith)

    -- it lost the old block
    taken : (y : SetPoint) (z : Bool) → m.before ≢ 0 → Lost c p false m.before m.to z rs r → ds ≡ taken_events c p m.before m.to → IsWithin (change_steps m.me.geometry.wide) t
        → Outcome (lowered_turns z) (Knows (lowered_after (At y) z) (lowered_after (At y) z).point) Left
    taken y true some lost told short = (
      u,
      record {
        may = h.may;
        read = h.read;
        some = some;
        other = h.other;
        counted = h.counted some;
        lost = lost_word seen rs r h.same c b k m.before m.to true lost;
        holds = held;
        told = ap (λ (x : List Event). x ++ ds) h.none ∙ told;
        bound = within_more 3 (change_steps m.me.geometry.wide) tr t h.bound short;
      },
    )
    taken y false some lost told short =
        let bound = within_more 3 (change_steps m.me.geometry.wide) tr t h.bound short in
        record {
          tag = u;
          old = m.before;
          read = h.read;
          did = Taken some h.other (lost_word seen rs r h.same c b k m.before m.to false lost) [] (ap (λ (x : List Event). x ++ ds) h.none ∙ (told ∙ sym (append-nil (taken_events c p m.before m.to)))) (inl refl);
          bound = omega arith;
        }

    lowered : (a : Result Bool ASpent) → m.before ≢ 0 → m.to ≡ 0 → StepLeft m.me (aims.Down m.before) p false rs r t ds (down_told a) → Leads Lower (Second (First (Second a)))
    lowered (Ok z) some none s =
        let short = s.bound in
        taken Lower z some (subst (λ x. Lost c p false m.before x z rs r) (sym none) s.did.0) (s.did.1 ∙ ap (taken_events c p m.before) (sym none)) (omega arith)
    lowered (Err e) some none s =
        let short = s.bound in
        refused (EraSpent e.era) (s.did.0, subst (λ (x : Aim). StepCause m.me x rs (EraSpent e.era)) (sym (aim_down m.before m.to some none)) s.did.1, s.did.2) (omega arith)

    changed : (a : Result Bool UpFault) → m.before ≢ 0 → m.to ≢ 0 → StepLeft m.me (aims.Change m.before m.to) p false rs r t ds a → Leads Change (Second (Second (First a)))
    changed (Ok z) some new s = let short = s.bound in taken Change z some s.did.0 (s.did.1 ∙ sym (taken_change c p m.before m.to new)) (omega arith)
    changed (Err f) some new s = let short = s.bound in refused f (s.did.0, subst (λ (x : Aim). StepCause m.me x rs f) (sym (aim_change m.before m.to some new)) s.did.1, s.did.2) (omega arith)

  -- ---- the tear-down

  torn : (a : Result (Unit {0}) ASpent) → SetKnows (At Tear) Tear r0 rs tr es → TearLeaves m.me m.before rs r ds t a → Leads Tear (Second (Second (Second a)))
  torn a (u, h) left = go a left
    where
      told : es ++ ds ≡ taken_events c p m.before m.to ++ ds
      told = ap (λ (x : List Event). x ++ ds) h.told

      same_frees : frees (es ++ ds) ≡ frees ds
      same_frees = let x = frees-append es ds in let y = ap frees h.told ∙ taken_frees c p m.before m.to in omega arith

      counted : Contains (word_seen b k u m.before r0).dying m.before → ⊥
      counted x = h.counted.2 (subst (λ (xs : List ℕ). Contains xs m.before) (seen_dying b k u m.before r0) x)

      go : (a : Result (Unit {0}) ASpent) → TearLeaves m.me m.before rs r ds t a → Leads Tear (Second (Second (Second a)))
      go (Ok done) y =
          let f = ap (tear_steps m.me.geometry.wide) same_frees in
          let bound = within_more (3 + change_steps m.me.geometry.wide) (tear_steps m.me.geometry.wide (frees ds)) tr t h.bound y.bound in
          let lost = torn_leaves m.me p false m.before m.to (word_seen b k u m.before r0) rs r h.may.who h.holds h.lost counted ds t (Ok done) y in
          record { tag = u; old = m.before; read = h.read; did = Taken h.some h.other lost ds told (inr y.walks); bound = omega arith }
      go (Err e) (vs, y) =
          let f = ap (λ n. tear_steps m.me.geometry.wide (n + length vs)) same_frees in
          let bound = within_more (3 + change_steps m.me.geometry.wide) (tear_steps m.me.geometry.wide (frees ds + length vs)) tr t h.bound y.bound in
          let seen : Memo = word_seen b k u m.before r0 in
          let took = (torn_leaves m.me p false m.before m.to seen rs r h.may.who h.holds h.lost counted ds t (Err e) (vs, y)).0 in
          let stopped = stopped_at m.me m.before seen rs r ds t e.era vs h.lost.dying counted y in
          record { left = vs; stays = AtTear u m.before h.read h.some h.other took stopped ds told y.walks; bound = omega arith }

-- each call leads on
leads : (m : SetState) (y : SetPoint) (r0 rs r : Memo) (tr t : Trail) (es ds : List Event) (a : SetAnswer) → SetKnows (record m { point = y }) y r0 rs tr es → (set_plan.part (record m { point = y })).leaves (set_call_at m y) rs r t ds a → IsHeld m.me r → recovers r ≡ recovers rs
    → Follows set_parts set_plan (record m { point = y }) a r0 r (tr ++ t) (es ++ ds)
leads m Tag r0 rs r tr t es ds (First n) h g held agent = tagged m r0 rs r tr t es ds held agent n h g
leads m Held r0 rs r tr t es ds (First n) h g held agent = whose m r0 rs r tr t es ds held agent n h g
leads m Look r0 rs r tr t es ds (First n) h g held agent = looked m r0 rs r tr t es ds held agent n h g
leads m Raise r0 rs r tr t es ds (Second (First (First a))) (empty, some, (u, h)) g held agent = raised m r0 rs r tr t es ds held agent u h a empty some g
leads m Lower r0 rs r tr t es ds (Second (First (Second a))) (some, none, (u, h)) g held agent = lowered m r0 rs r tr t es ds held agent u h a some none g
leads m Change r0 rs r tr t es ds (Second (Second (First a))) (some, new, (u, h)) g held agent = changed m r0 rs r tr t es ds held agent u h a some new g
leads m Tear r0 rs r tr t es ds (Second (Second (Second a))) h g held agent = torn m r0 rs r tr t es ds held agent a h g
leads m Tag r0 rs r tr t es ds (Second a) h g held agent = absurd g
leads m Held r0 rs r tr t es ds (Second a) h g held agent = absurd g
leads m Look r0 rs r tr t es ds (Second a) h g held agent = absurd g
leads m Raise r0 rs r tr t es ds (First n) h g held agent = absurd g
leads m Raise r0 rs r tr t es ds (Second (First (Second a))) h g held agent = absurd g
leads m Raise r0 rs r tr t es ds (Second (Second a)) h g held agent = absurd g
leads m Lower r0 rs r tr t es ds (First n) h g held agent = absurd g
leads m Lower r0 rs r tr t es ds (Second (First (First a))) h g held agent = absurd g
leads m Lower r0 rs r tr t es ds (Second (Second a)) h g held agent = absurd g
leads m Change r0 rs r tr t es ds (First n) h g held agent = absurd g
leads m Change r0 rs r tr t es ds (Second (First a)) h g held agent = absurd g
leads m Change r0 rs r tr t es ds (Second (Second (Second a))) h g held agent = absurd g
leads m Tear r0 rs r tr t es ds (First n) h g held agent = absurd g
leads m Tear r0 rs r tr t es ds (Second (First a)) h g held agent = absurd g
leads m Tear r0 rs r tr t es ds (Second (Second (First a))) h g held agent = absurd g

pub set_laws : PlanLaws set_parts set_plan
set_laws =
    record {
      stays = λ m. stays m m.point;
      calls = λ m. calls m m.point;
      parts = λ m. let first = is_tag m.point in
          let p : Spot = spot.Body m.block m.word in
          or_part_laws first word_control (or_control (or_control up_control down_control) (or_control step_control tear_control)) (set_word_part m m.point) (or_part (or_part (up_slot_part p false) (down_slot_part p false)) (or_part (change_slot_part p false) tear_part))
          (word_part_laws first m.me (set_ask m m.point) (set_found m m.point))
          (or_part_laws first (or_control up_control down_control) (or_control step_control tear_control) (or_part (up_slot_part p false) (down_slot_part p false)) (or_part (change_slot_part p false) tear_part)
          (or_part_laws first up_control down_control (up_slot_part p false) (down_slot_part p false) (up_slot_laws p false first) (down_slot_laws p false first))
          (or_part_laws first step_control tear_control (change_slot_part p false) tear_part (change_slot_laws p false first) (tear_part_laws first)));
      opens = λ m. set_opens m m.point;
      leads = λ m r0 rs r tr t es ds a h g held same. leads m m.point r0 rs r tr t es ds a h g held same;
    }
