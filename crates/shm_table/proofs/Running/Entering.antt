-- a new entry: while its machine runs the own map is what it was, until the bucket names the entry, and from then on the key has its value block
use Rattle.std.proofs.Common.{◌≡◌, ◌≢◌, ℕ, ◌+◌, ◌%◌, ◌<◌, refl, sym, ap, ◌∙◌, subst, arith, Bool, true, false, cond, eqb, List, Some}
use Rattle.shm_graph.specs.{declared.{ask.Me.Me, memo.Memo.Memo, spot.Spot.TheVariants.{Body, Home}}, Asks.Trail}
use Rattle.shm_graph.specs.{Events.Event, Tells.after_all, Views.own_word}
use Rattle.plans.specs.{declared.or.Or.TheVariants.{First, Second}, CallsFit.CallsFits, Either.or_control}
use Rattle.kind_parts.specs.{Beginning.IsOwnWord, Reparting.{IsKnown, IsValue, TableStep, sight}}
use Rattle.kind_parts.specs.Reparting.TableStep.{Links, Prepares}
use Rattle.shm_count.specs.{declared.point.{StepPoint.TheVariants.Era, StepState.StepState}, Step.Control.step_control}
use Rattle.shm_count.specs.Step.{ExchangeMade.step_exchanged, Machines.up_control, Parts.part_after}
use Rattle.shm_count.specs.declared.point.Aim.TheVariants as aims
use Rattle.shm_alloc.specs.Alloc.Control.{alloc_control}
use Rattle.shm_table.specs.declared.enter.{EnterPoint.EnterPoint, EnterState.EnterState}
use Rattle.shm_table.specs.Effects.{enter_at, enter_decided}
use Rattle.shm_table.specs.Enter.Control.{EnterCall, enter_block, enter_call_at, enter_parts, enter_spot, enter_to, enter_word, up_of}
use Rattle.shm_table.specs.Enter.{EnterKnows, IsMade, enter_part, enter_plan}
use Rattle.shm_table.specs.Proved.Enter.Steps.{bucket_own, entry_own, first_apart, value_number}
use Rattle.shm_table.specs.Proved.{PutRoot.Steps.same_more, Staying.{Laws.same_map, Steps.map_word}}
use Rattle.shm_table.specs.{PutRoot.Control.{EnterCalls, enter_control}, Staying.{MapSet, SameMap}}
use Rattle.shm_table.specs.declared.enter.EnterPoint.TheVariants as entering
use Rattle.shm_table.proofs.Running.{AsMade.{at_first, at_second_first, at_second_second}, Entries.{MapBy, by_part}}
use Rattle.shm_table.proofs.Running.{Steps.{PartBy, aimed_part}, Still.{alloc_still, same_now}}

-- ---- the count steps

module _ (me : Me) (key v n home first k b next value : ℕ) (r0 rs r : Memo) (h : IsMade me key v n home first k b next value r0 rs) where
  -- a word of the entry comes to name a block
  filled : (z : Bool) (i x : ℕ) → i < 2 → x ≢ 0 → IsKnown (sight me.who rs) (Body b i) 0 → PartBy z me.who (Body b i) x rs r → SameMap r0 r
  filled false i x low some known e = same_more r0 rs r h.map (same_map rs r e)
  filled true i x low some known e =
      let own : IsOwnWord me.geometry.wide me.who rs b i 0 = entry_own me rs h.holds h.may.who h.keeps.idle h.client key first k b next value h.vacant h.coming i 0 low known in
      λ j. map_word me rs r b i 0 x h.holds h.may.who h.keeps.idle.op h.vacant.table own (λ e. some (sym e)) e (Prepares b i key refl h.coming.entry) j ∙ h.map j

module _ (me : Me) (key v n home first k b : ℕ) (r0 rs r : Memo) (h : IsMade me key v n home first k b first v r0 rs) where
  bucket : IsOwnWord me.geometry.wide me.who rs home (key % 16) first
  bucket = subst (λ d. IsOwnWord me.geometry.wide me.who rs d (key % 16) first) h.directory (bucket_own me rs h.holds h.may.who h.keeps.idle h.client key first k b first v h.vacant h.coming)

  -- the bucket comes to name the entry
  linked : r.part ≡ part_after me.who (sight me.who rs) (Body home (key % 16)) b → (x : ℕ) → IsValue (sight me.who r0) v x → MapSet key x v r0 r
  linked part x number j =
      let at : Body home (key % 16) ≡ Body (own_word rs.own (Home me.who)) (key % 16) = ap (λ d. Body d (key % 16)) (sym h.directory) in
      let step : TableStep me.geometry.wide me.who (sight me.who rs) (Body home (key % 16)) first b = Links key v x at h.coming.entry h.coming.next_is h.coming.value_is (value_number me key v n home first k b first v r0 rs h x number) in
      map_word me rs r home (key % 16) first b h.holds h.may.who h.keeps.idle.op h.vacant.table bucket (first_apart me rs h.holds h.may.who h.keeps.idle h.client key first k b first v h.vacant h.coming) part step j
      ∙ ap (cond (eqb key j) (Some (x, v))) (h.map j)

-- ---- the machine

-- what it does to the map
abbrev pub EnterDoes : EnterState → Memo → Memo → Type 0
EnterDoes m r0 r = (n : ℕ) → IsValue (sight m.me.who r0) m.value n → MapSet m.key n m.value r0 r

abbrev EnterSo : EnterState → EnterPoint → (r0 rs r : Memo) → Trail → EnterCall → Type 0
EnterSo p y r0 rs r t c = enter_parts.finished c ≡ false → (enter_part p y).fits c rs r t → MapBy (enter_at (record p { point = y }) c) (EnterDoes p r0 r) r0 r

pub enter_so : (m : EnterCalls) (r0 r : Memo) (tr : Trail) → enter_control.finished m ≡ false → CallsFits enter_parts enter_plan m r0 r tr → MapBy (enter_decided m) (EnterDoes m.plan r0 r) r0 r
enter_so m r0 r tr going fit = go m.plan m.plan.point m.call r0 fit.rs r fit.before fit.t fit.es fit.there fit.knows going fit.fits
  where
    -- a step up
    up : (p : EnterState) (y : EnterPoint) (r0 rs r : Memo) (t : Trail) (c : EnterCall) → after_all enter_parts (up_of p (enter_block p y) (enter_word p y) (enter_to p y)) t ≡ c
        → ((s : StepState) → PartBy (step_exchanged s) p.me.who (enter_spot p y) (enter_to p y) rs r → MapBy (enter_at (record p { point = y }) (Second (First s))) (EnterDoes p r0 r) r0 r) → EnterSo p y r0 rs r t c
    up p y r0 rs r t c there so =
        let s : StepState = record { me = p.me; slot = enter_block p y + 2 + enter_word p y; aim = aims.Up (enter_to p y); point = Era } in
        at_second_first alloc_control up_control step_control (EnterSo p y r0 rs r t) s t there (λ run fit. so (after_all up_control s t) (aimed_part up_control (λ x n. (refl, refl)) s (enter_spot p y) tt rs r t t run fit.1))

    go : (p : EnterState) (y : EnterPoint) (c : EnterCall) (r0 rs r : Memo) (before t : Trail) (es : List Event) → after_all enter_parts (enter_call_at p y) t ≡ c → EnterKnows p y r0 rs before es → EnterSo p y r0 rs r t c
    go p entering.Make c r0 rs r before t es there known =
        at_first alloc_control (or_control up_control step_control) (EnterSo p entering.Make r0 rs r t) _ t there (λ run fit. same_more r0 rs r (same_now r0 rs known.1) (alloc_still _ rs r t run fit))
    go p entering.Change c r0 rs r before t es there known =
        at_second_second alloc_control up_control step_control (EnterSo p entering.Change r0 rs r t) _ t there
        (λ run fit. by_part _ p.me.who (Body p.home (p.key % 16)) p.entry (EnterDoes p r0 r) r0 rs r known.1.1.map (linked p.me p.key p.value known.1.0 p.home p.first p.root p.entry r0 rs r known.1.1) (aimed_part step_control (λ x n. (refl, refl)) _ (Body p.home (p.key % 16)) tt rs r t t run fit.1))
    go p entering.Value c r0 rs r before t es there h =
        let made = h.0.1 in
        up p entering.Value r0 rs r t c there (λ s part. filled p.me p.key p.value h.0.0 p.home p.first p.root p.entry 0 0 r0 rs r made (step_exchanged s) 1 p.value (omega arith) made.may.some made.coming.value_is part)
    go p entering.Next c r0 rs r before t es there h =
        let made = h.1.1 in
        up p entering.Next r0 rs r t c there (λ s part. filled p.me p.key p.value h.1.0 p.home p.first p.root p.entry 0 p.value r0 rs r made (step_exchanged s) 0 p.first (omega arith) h.0 made.coming.next_is part)
    go p entering.Link c r0 rs r before t es there h =
        let made : IsMade p.me p.key p.value h.1.0 p.home p.first p.root p.entry p.first p.value r0 rs = subst (λ x. IsMade p.me p.key p.value h.1.0 p.home p.first p.root p.entry x p.value r0 rs) (sym h.0) h.1.1 in
        up p entering.Link r0 rs r t c there (λ s part. by_part (step_exchanged s) p.me.who (Body p.home (p.key % 16)) p.entry (EnterDoes p r0 r) r0 rs r made.map (linked p.me p.key p.value h.1.0 p.home p.first p.root p.entry r0 rs r made) part)
