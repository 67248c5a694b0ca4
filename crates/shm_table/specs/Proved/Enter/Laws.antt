-- what is owed of a new entry: each call leads on to the next one, or to what is left
use Rattle.std.proofs.Common.{◌≡◌, ◌≢◌, ℕ, zero, suc, ◌+◌, ◌-◌, ◌*◌, ◌%◌, ◌^◌, ◌≤◌, refl, sym, ap, ◌∙◌, subst, arith, Bool, true, false, List, [], ◌∷◌, ◌++◌, append-nil, eqb, inl, inr, slice_index, ◌<◌}
use Rattle.std.proofs.lemmas.Bool.{cases_eq, cond-true, eq-eqb, lt-ltb, ne_eqb}
use Rattle.std.specs.Prelude.{Result, Ok, Err}
use Rattle.shm_words.proofs.Placing.{total_small}
use Rattle.shm_words.specs.Layout.{address_limit}
use Rattle.shm_graph.specs.{declared.{memo.Memo.Memo, spot.Spot.Spot}, Agents.recovers, Asks.{Trail, IsWithin}}
use Rattle.shm_graph.specs.{Bounds.{alloc_steps, change_steps, up_steps}, Events.Event}
use Rattle.shm_graph.specs.declared.spot.Spot.TheVariants as spot
use Rattle.shm_graph.specs.Events as event
use Rattle.plans.specs.{declared.or.Or.TheVariants.{First, Second}, Proved.{CallTells.within_more, Either.or_part_laws}}
use Rattle.plans.specs.{Either.{or_control, or_part}, Parts.IsHeld, Plans.{PlanLaws, PlanStays, IsCall, Follows}}
use Rattle.shm_count.specs.{declared.{answer.{Made.Made, UpFault.UpFault}, point.Aim.Aim}, Slots.StepLeft}
use Rattle.shm_count.specs.Slots.Parts.{change_slot_laws, change_slot_part, up_slot_laws, up_slot_part}
use Rattle.shm_count.specs.Step.{Control.step_control, Machines.{up_control, up_told}}
use Rattle.shm_count.specs.declared.point.Aim.TheVariants as aims
use Rattle.shm_alloc.specs.declared.{alloc.AllocFault.AllocFault, request.Request.Request}
use Rattle.shm_alloc.specs.Alloc.{Control.{RequestFits, alloc_control}, AsPart.{AllocLeaves, alloc_part}}
use Rattle.shm_alloc.specs.Proved.Alloc.AsPart.{alloc_part_laws}
use Rattle.shm_alloc.specs.declared.point.AllocPoint.TheVariants as alloc
use Rattle.shm_alloc.proofs.AllocBound.{alloc_bound}
use Rattle.shm_table.specs.declared.enter.Entered.{Entered, TheVariants.{Linked, Unlinked, Unmade}}
use Rattle.shm_table.specs.declared.enter.EnterPoint.{EnterPoint, TheVariants.{Make, Value, Next, Link, Change}}
use Rattle.shm_table.specs.{declared.enter.EnterState.EnterState, Answers.{made_fault, raised_fault}}
use Rattle.shm_table.specs.Enter.Control.{EnterAnswer, enter_call_at, enter_parts, enter_spot, entry_of, entry_request, is_make, valued_by, valued_point}
use Rattle.shm_table.specs.Enter.{EnterKnows, EnterLeaves, IsHalfMade, IsMade, IsUnlinked, MayEnter, enter_part, enter_plan, enter_steps, followed_events, linked_events, made_events, valued_events}
use Rattle.shm_table.specs.Proved.Enter.Memos.{change_on, link_on, made_on, next_on, unlinked_on, unmade_on, value_on}
use Rattle.shm_table.specs.Proved.Enter.Steps.{change_needs, link_needs, next_needs, value_needs}

-- ---- what was answered

-- the block of an answer in a pool is what it is
entry_is : (b : ℕ) → b + 3 ≤ address_limit - 1 → entry_of b ≡ b
entry_is b l = cond-true _ _ _ (lt-ltb b (address_limit - 3) (omega (arith, l)))

-- the events of a link, by whether the bucket is empty
linked_first : (c k b v home key first : ℕ) → first ≡ 0 → linked_events c k b v home key first ≡ linked_events c k b v home key 0
linked_first c k b v home key first e = ap (linked_events c k b v home key) e

linked_before : (c k b v home key first : ℕ) → first ≢ 0 → linked_events c k b v home key first ≡ followed_events c k b v first ++ event.ChangeUp c (spot.Body home (key % 16)) first b ∷ event.ChangeDown c first ∷ []
linked_before c k b v home key zero some = absurd (some refl)
linked_before c k b v home key (suc x) some = refl

module _ (m : EnterState) (r0 rs r : Memo) (tr t : Trail) (es ds : List Event) (held : IsHeld m.me r) (agent : recovers r ≡ recovers rs) where
  abbrev c : ℕ
  c = m.me.who

  -- the plan at a point
  abbrev At : EnterPoint → EnterState
  At y = record m { point = y }

  -- what is known before the next call, and what is left
  abbrev Goes : EnterPoint → Type 0
  Goes y = EnterKnows (At y) y r0 r (tr ++ t) (es ++ ds)

  abbrev Left : Entered → Type 0
  Left = EnterLeaves m r0 r (tr ++ t) (es ++ ds)

  -- what a step up of a word left, and what is left where it was refused
  abbrev Raised : ℕ → ℕ → ℕ → Result (Unit {0}) UpFault → Type 0
  Raised b i x a = StepLeft m.me (aims.Up x) (spot.Body b i) false rs r t ds (up_told a)

  -- ---- the block

  module _ (q : Request) (n : ℕ) (may : MayEnter m.me m.key m.value n m.home m.first r0) where
    abbrev Asked : Result Made AllocFault → Type 0
    Asked = AllocLeaves (record { me = m.me; request = q; point = alloc.Era }) r0 r t ds

    within : (a : Result Made AllocFault) → RequestFits q → Asked a → IsWithin (alloc_steps m.me.geometry.wide m.me.geometry.segments) t
    within a fits g = let l = alloc_bound m.me q fits t a g.trail in omega arith

    -- it was made, and lies where an entry can be
    made : (x : Made) → RequestFits q → q.refs ≡ 2 → q.count ≡ 1 → slice_index q.plain 0 ≡ m.key → recovers r ≡ recovers r0 → Asked (Ok x) → EnterKnows (record m { root = x.root; entry = entry_of x.block; point = Value }) Value r0 r t ds
    made x fits refs count plain same_agent g =
        let h : IsMade m.me m.key m.value n m.home m.first x.root x.block 0 0 r0 r = made_on m.me q m.key m.value n m.home m.first r0 r x refs count plain may held same_agent g.holds in
        let end = (value_needs m.me m.key m.value n m.home m.first x.root x.block r0 r h).step.can.inside.1 in
        let total = total_small m.me.geometry may.geometry in
        let is : entry_of x.block ≡ x.block = entry_is x.block (omega arith) in
        subst (λ b. ((n : ℕ) × IsMade m.me m.key m.value n m.home m.first x.root b 0 0 r0 r) × (ds ≡ made_events c x.root b) × IsWithin (alloc_steps m.me.geometry.wide m.me.geometry.segments) t) (sym is) ((n, h), g.events, within (Ok x) fits g)

    unmade : (f : AllocFault) → RequestFits q → Asked (Err f) → EnterLeaves m r0 r t ds (Unmade (made_fault f))
    unmade f fits g = subst (λ (u : List Event). EnterLeaves m r0 r t u (Unmade (made_fault f))) (sym g.events) (unmade_on m.me q m.key m.value n m.home m.first r0 r t f may g.holds (within (Err f) fits g))

  -- ---- its words

  -- the events so far, and those of a step that was refused, or that was done
  none_more : (before : List Event) → es ≡ before → ds ≡ [] → es ++ ds ≡ before
  none_more before told quiet = ap (λ (x : List Event). x ++ ds) told ∙ (ap (λ (x : List Event). before ++ x) quiet ∙ append-nil before)

  some_more : (before more : List Event) → es ≡ before → ds ≡ more → es ++ ds ≡ before ++ more
  some_more before more told is = ap (λ (x : List Event). x ++ ds) told ∙ ap (λ (x : List Event). before ++ x) is

  -- a count step was refused
  refused : (next value n : ℕ) (x : Aim) (p : Spot) (f : UpFault) → IsMade m.me m.key m.value n m.home m.first m.root m.entry next value r0 rs → StepLeft m.me x p false rs r t ds (Err f) → IsHalfMade c m.root m.entry m.value m.first (es ++ ds) → IsWithin (enter_steps m.me.geometry.wide m.me.geometry.segments) (tr ++ t)
      → IsUnlinked m.me m.key m.value m.home m.first m.root r0 r (tr ++ t) (es ++ ds) (raised_fault f)
  refused next value n x p f h s told bound = unlinked_on m.me m.key m.value n m.home m.first m.root m.entry next value r0 rs r (tr ++ t) (es ++ ds) x f h s.did.0 s.did.1 told bound

  -- the value word: the bucket is empty, or names an entry
  valued : EnterKnows (At Value) Value r0 rs tr es → Raised m.entry 1 m.value (Ok tt) → (m.first ≡ 0 → Goes Link) × (m.first ≢ 0 → Goes Next)
  valued ((n, h), told, bound) s =
      let now = value_on m.me m.key m.value n m.home m.first m.root m.entry 0 0 r0 rs r h held agent refl s.did.0 in
      let events : es ++ ds ≡ valued_events c m.root m.entry m.value = some_more (made_events c m.root m.entry) (event.Up c (spot.Body m.entry 1) m.value ∷ []) told s.did.1 in
      let within : IsWithin (alloc_steps m.me.geometry.wide m.me.geometry.segments + up_steps m.me.geometry.wide) (tr ++ t) = within_more (alloc_steps m.me.geometry.wide m.me.geometry.segments) (up_steps m.me.geometry.wide) tr t bound s.bound in (
        λ e. (e, (n, now), events, within),
        λ some. (some, (n, now), events, within),
      )

  not_valued : (f : UpFault) → EnterKnows (At Value) Value r0 rs tr es → Raised m.entry 1 m.value (Err f) → Left (Unlinked m.root (raised_fault f))
  not_valued f ((n, h), told, bound) s =
      let within = within_more (alloc_steps m.me.geometry.wide m.me.geometry.segments) (up_steps m.me.geometry.wide) tr t bound s.bound in
      refused 0 0 n (aims.Up m.value) (spot.Body m.entry 1) f h s (inl (none_more (made_events c m.root m.entry) told s.did.2)) (omega arith)

  -- the next word
  followed : EnterKnows (At Next) Next r0 rs tr es → Raised m.entry 0 m.first (Ok tt) → Goes Change
  followed (some, (n, h), told, bound) s =
      let within = within_more (alloc_steps m.me.geometry.wide m.me.geometry.segments + up_steps m.me.geometry.wide) (up_steps m.me.geometry.wide) tr t bound s.bound in (
        some,
        (n, next_on m.me m.key m.value n m.home m.first m.root m.entry 0 m.value r0 rs r h held agent refl some s.did.0),
        some_more (valued_events c m.root m.entry m.value) (event.Up c (spot.Body m.entry 0) m.first ∷ []) told s.did.1,
        omega arith,
      )

  not_followed : (f : UpFault) → EnterKnows (At Next) Next r0 rs tr es → Raised m.entry 0 m.first (Err f) → Left (Unlinked m.root (raised_fault f))
  not_followed f (some, (n, h), told, bound) s =
      let within = within_more (alloc_steps m.me.geometry.wide m.me.geometry.segments + up_steps m.me.geometry.wide) (up_steps m.me.geometry.wide) tr t bound s.bound in
      refused 0 m.value n (aims.Up m.first) (spot.Body m.entry 0) f h s (inr (inl (none_more (valued_events c m.root m.entry m.value) told s.did.2))) (omega arith)

  -- ---- the bucket

  -- an empty one
  linked : EnterKnows (At Link) Link r0 rs tr es → Raised m.home (m.key % 16) m.entry (Ok tt) → Left (Linked m.root)
  linked (none, (n, h), told, bound) s =
      let within = within_more (alloc_steps m.me.geometry.wide m.me.geometry.segments + up_steps m.me.geometry.wide) (up_steps m.me.geometry.wide) tr t bound s.bound in
      let here = subst (λ x. IsMade m.me m.key m.value n m.home m.first m.root m.entry x m.value r0 rs) (sym none) h in
      let events = some_more (valued_events c m.root m.entry m.value) (event.Up c (spot.Body m.home (m.key % 16)) m.entry ∷ []) told s.did.1 ∙ sym (linked_first c m.root m.entry m.value m.home m.key m.first none) in
      link_on m.me m.key m.value n m.home m.first m.root m.entry r0 rs r here held (tr ++ t) (es ++ ds) s.did.0 events (omega arith)

  not_linked : (f : UpFault) → EnterKnows (At Link) Link r0 rs tr es → Raised m.home (m.key % 16) m.entry (Err f) → Left (Unlinked m.root (raised_fault f))
  not_linked f (none, (n, h), told, bound) s =
      let within = within_more (alloc_steps m.me.geometry.wide m.me.geometry.segments + up_steps m.me.geometry.wide) (up_steps m.me.geometry.wide) tr t bound s.bound in
      refused 0 m.value n (aims.Up m.entry) (spot.Body m.home (m.key % 16)) f h s (inr (inl (none_more (valued_events c m.root m.entry m.value) told s.did.2))) (omega arith)

  -- one that names an entry
  abbrev Changed : Result Bool UpFault → Type 0
  Changed = StepLeft m.me (aims.Change m.first m.entry) (spot.Body m.home (m.key % 16)) false rs r t ds

  changed : (z : Bool) → EnterKnows (At Change) Change r0 rs tr es → Changed (Ok z) → Left (Linked m.root)
  changed z (some, (n, h), told, bound) s =
      let within = within_more (alloc_steps m.me.geometry.wide m.me.geometry.segments + 2 * up_steps m.me.geometry.wide) (change_steps m.me.geometry.wide) tr t bound s.bound in
      let events = some_more (followed_events c m.root m.entry m.value m.first) (event.ChangeUp c (spot.Body m.home (m.key % 16)) m.first m.entry ∷ event.ChangeDown c m.first ∷ []) told s.did.1 ∙ sym (linked_before c m.root m.entry m.value m.home m.key m.first some) in
      change_on m.me m.key m.value n m.home m.first m.root m.entry r0 rs r h held z s.did.0 (tr ++ t) (es ++ ds) some events (omega arith)

  not_changed : (f : UpFault) → EnterKnows (At Change) Change r0 rs tr es → Changed (Err f) → Left (Unlinked m.root (raised_fault f))
  not_changed f (some, (n, h), told, bound) s =
      let within = within_more (alloc_steps m.me.geometry.wide m.me.geometry.segments + 2 * up_steps m.me.geometry.wide) (change_steps m.me.geometry.wide) tr t bound s.bound in
      refused m.first m.value n (aims.Change m.first m.entry) (spot.Body m.home (m.key % 16)) f h s (inr (inr (some, none_more (followed_events c m.root m.entry m.value m.first) told s.did.2))) (omega arith)

-- ---- the plan

pub enter_laws : PlanLaws enter_parts enter_plan
enter_laws =
    record {
      stays = λ m. stays m m.point;
      calls = λ m. calls m m.point;
      parts = λ m. let first = is_make m.point in
          let p : Spot = enter_spot m m.point in
          or_part_laws first alloc_control (or_control up_control step_control) alloc_part (or_part (up_slot_part p false) (change_slot_part p false)) (alloc_part_laws first)
          (or_part_laws first up_control step_control (up_slot_part p false) (change_slot_part p false) (up_slot_laws p false first) (change_slot_laws p false first));
      opens = λ m. opens m m.point;
      leads = λ m r0 rs r tr t es ds a h g held agent. leads m m.point r0 rs r tr t es ds a h g held agent;
    }
  where
    -- ---- what is asked for

    -- the key is a word, and so are the zeros after it
    small_words : (key i : ℕ) → key < 2 ^ 32 → slice_index (entry_request key).plain i < 2 ^ 64
    small_words key zero small = omega arith
    small_words key (suc zero) small = omega arith
    small_words key (suc (suc zero)) small = omega arith
    small_words key (suc (suc (suc zero))) small = omega arith
    small_words key (suc (suc (suc (suc zero)))) small = omega arith
    small_words key (suc (suc (suc (suc (suc zero))))) small = omega arith
    small_words key (suc (suc (suc (suc (suc (suc zero)))))) small = omega arith
    small_words key (suc (suc (suc (suc (suc (suc (suc zero))))))) small = omega arith
    small_words key (suc (suc (suc (suc (suc (suc (suc (suc i)))))))) small = omega arith

    fits : (key : ℕ) → key < 2 ^ 32 → RequestFits (entry_request key)
    fits key small = record { refs = omega arith; count = omega arith; small = λ i. small_words key i small }

    opens : (m : EnterState) (y : EnterPoint) (r0 r : Memo) (tr : Trail) (es : List Event) → EnterKnows (record m { point = y }) y r0 r tr es → (enter_part (record m { point = y }) y).needs (enter_call_at m y) r
    opens m Make r0 r tr es ((n, may), same, none, quiet) =
        let my : MayEnter m.me m.key m.value n m.home m.first r = subst (MayEnter m.me m.key m.value n m.home m.first) (sym same) may in
        record {
          made = refl;
          knows = record { geometry = my.geometry; who = my.who; request = fits m.key my.small; point = tt };
          can = record { geometry = my.geometry; who = my.who; idle = my.idle };
        }
    opens m Value r0 r tr es ((n, h), told, bound) = (refl, value_needs m.me m.key m.value n m.home m.first m.root m.entry r0 r h)
    opens m Next r0 r tr es (some, (n, h), told, bound) = (refl, next_needs m.me m.key m.value n m.home m.first m.root m.entry r0 r some h)
    opens m Link r0 r tr es (none, (n, h), told, bound) = (refl, link_needs m.me m.key m.value n m.home m.first m.root m.entry r0 r none h)
    opens m Change r0 r tr es (some, (n, h), told, bound) = (refl, change_needs m.me m.key m.value n m.home m.first m.root m.entry r0 r some h)

    -- ---- what follows

    valued_on : (m : EnterState) (r0 r : Memo) (tr : Trail) (es : List Event) → (m.first ≡ 0 → EnterKnows (record m { point = Link }) Link r0 r tr es) × (m.first ≢ 0 → EnterKnows (record m { point = Next }) Next r0 r tr es)
        → EnterKnows (record m { point = valued_point m.first }) (valued_point m.first) r0 r tr es
    valued_on m r0 r tr es (empty, others) =
        elim (cases_eq m.first 0) [
          | inl e ↦ subst (λ z. EnterKnows (record m { point = valued_by z }) (valued_by z) r0 r tr es) (sym (eq-eqb m.first 0 e)) (empty e)
          | inr some ↦ subst (λ z. EnterKnows (record m { point = valued_by z }) (valued_by z) r0 r tr es) (sym (ne_eqb m.first 0 some)) (others some)
        ]

    leads : (m : EnterState) (y : EnterPoint) (r0 rs r : Memo) (tr t : Trail) (es ds : List Event) (a : EnterAnswer) → EnterKnows (record m { point = y }) y r0 rs tr es → (enter_part (record m { point = y }) y).leaves (enter_call_at m y) rs r t ds a → IsHeld m.me r → recovers r ≡ recovers rs
        → Follows enter_parts enter_plan (record m { point = y }) a r0 r (tr ++ t) (es ++ ds)
    leads m Make r0 rs r tr t es ds (First a) ((n, may), same, none, quiet) g held agent =
        subst (λ (u : Trail). Follows enter_parts enter_plan (record m { point = Make }) (First a) r0 r (u ++ t) (es ++ ds)) (sym none)
        (subst (λ (u : List Event). Follows enter_parts enter_plan (record m { point = Make }) (First a) r0 r t (u ++ ds)) (sym quiet)
        (go a (subst (λ (x : Memo). AllocLeaves (record { me = m.me; request = entry_request m.key; point = alloc.Era }) x r t ds a) same g)))
      where
        go : (a : Result Made AllocFault) → AllocLeaves (record { me = m.me; request = entry_request m.key; point = alloc.Era }) r0 r t ds a → Follows enter_parts enter_plan (record m { point = Make }) (First a) r0 r t ds
        go (Ok x) g = made m r0 rs r tr t es ds held agent (entry_request m.key) n may x (fits m.key may.small) refl refl refl (agent ∙ ap recovers same) g
        go (Err f) g = unmade m r0 rs r tr t es ds held agent (entry_request m.key) n may f (fits m.key may.small) g
    leads m Value r0 rs r tr t es ds (Second (First (Ok u))) h g held agent = valued_on m r0 r (tr ++ t) (es ++ ds) (valued m r0 rs r tr t es ds held agent h g)
    leads m Value r0 rs r tr t es ds (Second (First (Err f))) h g held agent = not_valued m r0 rs r tr t es ds held agent f h g
    leads m Next r0 rs r tr t es ds (Second (First (Ok u))) h g held agent = followed m r0 rs r tr t es ds held agent h g
    leads m Next r0 rs r tr t es ds (Second (First (Err f))) h g held agent = not_followed m r0 rs r tr t es ds held agent f h g
    leads m Link r0 rs r tr t es ds (Second (First (Ok u))) h g held agent = linked m r0 rs r tr t es ds held agent h g
    leads m Link r0 rs r tr t es ds (Second (First (Err f))) h g held agent = not_linked m r0 rs r tr t es ds held agent f h g
    leads m Change r0 rs r tr t es ds (Second (Second (Ok z))) h g held agent = changed m r0 rs r tr t es ds held agent z h g
    leads m Change r0 rs r tr t es ds (Second (Second (Err f))) h g held agent = not_changed m r0 rs r tr t es ds held agent f h g
    leads m _ r0 rs r tr t es ds _ h g held agent = absurd g

    -- ---- the same plan goes on

    not_make : (z : Bool) → is_make (valued_by z) ≡ false
    not_make true = refl
    not_make false = refl

    stays : (m : EnterState) (y : EnterPoint) (a : EnterAnswer) → PlanStays enter_parts enter_plan (record m { point = y }) a
    stays m y (First (Ok x)) = record { same_me = refl; same_line = refl; same_start = refl; started = λ e. refl }
    stays m Make (Second (First (Ok u))) = record { same_me = refl; same_line = refl; same_start = refl; started = λ e. absurd (cc) }
    stays m Value (Second (First (Ok u))) = record { same_me = refl; same_line = refl; same_start = refl; started = λ e. not_make (eqb m.first 0) }
    stays m Next (Second (First (Ok u))) = record { same_me = refl; same_line = refl; same_start = refl; started = λ e. refl }
    stays m Link (Second (First (Ok u))) = record { same_me = refl; same_line = refl; same_start = refl; started = λ e. absurd (cc) }
    stays m Change (Second (First (Ok u))) = record { same_me = refl; same_line = refl; same_start = refl; started = λ e. absurd (cc) }
    stays m y (Second (Second (Ok z))) = record { same_me = refl; same_line = refl; same_start = refl; started = λ e. absurd (cc) }
    stays m y _ = record { same_me = refl; same_line = refl; same_start = refl; started = λ e. absurd (cc) }

    calls : (m : EnterState) (y : EnterPoint) → IsCall enter_parts enter_plan (record m { point = y })
    calls m Make = record { me = refl; asks = refl }
    calls m _ = record { me = refl; asks = refl }
