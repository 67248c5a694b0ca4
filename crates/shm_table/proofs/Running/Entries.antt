-- machines that change the own map at an entry: while they run it is what it was when they began, until their deciding step, and from then on as they leave it
use Rattle.std.proofs.Common.{◌≡◌, ℕ, refl, sym, ap, ◌∙◌, subst, Bool, true, false, List}
use Rattle.shm_graph.specs.{declared.{memo.Memo.Memo, spot.Spot.{Spot, TheVariants.Body}, table.Part.Part}, Asks.Trail}
use Rattle.shm_graph.specs.{Events.Event, Tells.after_all}
use Rattle.plans.specs.{declared.or.Or.TheVariants.Second, CallsFit.CallsFits, Either.or_control, Words.word_control}
use Rattle.kind_parts.specs.Reparting.{map_in, sight}
use Rattle.shm_count.specs.Step.{Control.step_control, Machines.down_control, Parts.part_after}
use Rattle.shm_count.specs.Tear.Control.{tear_control}
use Rattle.shm_table.specs.declared.replace.{ReplacePoint.ReplacePoint, ReplaceState.ReplaceState}
use Rattle.shm_table.specs.declared.unlink.{UnlinkPoint.UnlinkPoint, UnlinkState.UnlinkState}
use Rattle.shm_table.specs.Effects.{replace_at, replace_decided, unlink_at, unlink_decided}
use Rattle.shm_table.specs.{PutRoot.Control.{ReplaceCalls, replace_control}, Proved.PutRoot.Steps.same_more}
use Rattle.shm_table.specs.{Proved.Staying.Laws.same_map, Replace.Control.{ReplaceCall, replace_call_at, replace_parts}}
use Rattle.shm_table.specs.{Replace.{MayReplace, ReplaceKnows, replace_plan}, Staying.{MapCut, MapSet, SameMap}}
use Rattle.shm_table.specs.Unlink.Control.{UnlinkCall, unlink_call_at, unlink_parts, UnlinkCalls, unlink_control}
use Rattle.shm_table.specs.Unlink.{IsSeen as IsNextSeen, MayUnlink, UnlinkKnows, unlink_plan}
use Rattle.shm_table.specs.declared.replace.ReplacePoint.TheVariants as replacing
use Rattle.shm_table.specs.declared.unlink.UnlinkPoint.TheVariants as unlinking
use Rattle.shm_table.proofs.Running.AsMade.{at_first, at_second, at_second_first, at_second_second}
use Rattle.shm_table.proofs.Running.{Steps.{PartBy, aimed_part}, Still.{same_now, tear_still, word_still}}

-- ---- the form

-- by whether the deciding step was made: the map is as it was, or it changed so
abbrev pub MapBy : Bool → Type 0 → Memo → Memo → Type 0
MapBy false D r0 r = SameMap r0 r
MapBy true D r0 r = D

-- where the map of the partition that a step makes is this
pub by_part : (z : Bool) (c : ℕ) (p : Spot) (x : ℕ) (D : Type 0) (r0 rs r : Memo) → SameMap r0 rs → (r.part ≡ part_after c (sight c rs) p x → D) → PartBy z c p x rs r → MapBy z D r0 r
by_part false c p x D r0 rs r same so e = same_more r0 rs r same (same_map rs r e)
by_part true c p x D r0 rs r same so e = so e

-- ---- an entry has another value block

-- what it does to the map
abbrev pub ReplaceDoes : ReplaceState → Memo → Memo → Type 0
ReplaceDoes m r0 r = (key n before word : ℕ) → MayReplace m.me key m.to n m.entry before word r0 → MapSet key n m.to r0 r

-- by the call in progress
abbrev ReplaceSo : ReplaceState → ReplacePoint → (r0 rs r : Memo) → Trail → ReplaceCall → Type 0
ReplaceSo p y r0 rs r t c = replace_parts.finished c ≡ false → (replace_plan.part (record p { point = y })).fits c rs r t → MapBy (replace_at p c) (ReplaceDoes p r0 r) r0 r

pub replace_so : (m : ReplaceCalls) (r0 r : Memo) (tr : Trail) → replace_control.finished m ≡ false → CallsFits replace_parts replace_plan m r0 r tr → MapBy (replace_decided m) (ReplaceDoes m.plan r0 r) r0 r
replace_so m r0 r tr going fit = go m.plan m.plan.point m.call r0 fit.rs r fit.before fit.t fit.es fit.there fit.knows going fit.fits
  where
    go : (p : ReplaceState) (y : ReplacePoint) (c : ReplaceCall) (r0 rs r : Memo) (before t : Trail) (es : List Event) → after_all replace_parts (replace_call_at p y) t ≡ c → ReplaceKnows p y r0 rs before es → ReplaceSo p y r0 rs r t c
    go p replacing.Look c r0 rs r before t es there known =
        at_first word_control (or_control step_control tear_control) (ReplaceSo p replacing.Look r0 rs r t) _ t there
        (λ run fit. same_more r0 rs r (same_now r0 rs known.1) (word_still _ _ rs r t run fit))
    go p replacing.Change c r0 rs r before t es there (seen, quiet, bound) =
        at_second_first word_control step_control tear_control (ReplaceSo p replacing.Change r0 rs r t) _ t there
        (λ run fit. by_part _ p.me.who (Body p.entry 1) p.to (ReplaceDoes p r0 r) r0 rs r (same_map r0 rs (ap (λ (x : Memo). x.part) seen.reads.memo)) (λ e key n b w may k. ap (λ (o : Part). map_in o k) e ∙ seen.map key n b w may k) (aimed_part step_control (λ x n. (refl, refl)) _ (Body p.entry 1) tt rs r t t run fit.1))
    go p replacing.Tear c r0 rs r before t es there known =
        at_second_second word_control step_control tear_control (ReplaceSo p replacing.Tear r0 rs r t) _ t there
        (λ run fit key n b w may k. tear_still _ rs r t run fit k ∙ (ap (λ (x : Memo). map_in x.part k) known.lost.took.rest ∙ known.seen.map key n b w may k))

-- ---- an entry is taken out

abbrev pub UnlinkDoes : UnlinkState → Memo → Memo → Type 0
UnlinkDoes m r0 r = (key : ℕ) → MayUnlink m.me key m.entry m.before m.word r0 → MapCut key r0 r

abbrev UnlinkSo : UnlinkState → UnlinkPoint → (r0 rs r : Memo) → Trail → UnlinkCall → Type 0
UnlinkSo p y r0 rs r t c = unlink_parts.finished c ≡ false → (unlink_plan.part (record p { point = y })).fits c rs r t → MapBy (unlink_at p c) (UnlinkDoes p r0 r) r0 r

pub unlink_so : (m : UnlinkCalls) (r0 r : Memo) (tr : Trail) → unlink_control.finished m ≡ false → CallsFits unlink_parts unlink_plan m r0 r tr → MapBy (unlink_decided m) (UnlinkDoes m.plan r0 r) r0 r
unlink_so m r0 r tr going fit = go m.plan m.plan.point m.call r0 fit.rs r fit.before fit.t fit.es fit.there fit.knows going fit.fits
  where
    -- the step at the word that leads to the entry
    steps : (p : UnlinkState) (z : Bool) (x : ℕ) (r0 rs r : Memo) → IsNextSeen p.me p.entry p.before p.word p.next r0 rs → x ≡ p.next → PartBy z p.me.who (Body p.before p.word) x rs r → MapBy z (UnlinkDoes p r0 r) r0 r
    steps p z x r0 rs r seen is h =
        by_part z p.me.who (Body p.before p.word) p.next (UnlinkDoes p r0 r) r0 rs r (same_map r0 rs (ap (λ (x : Memo). x.part) seen.reads.memo)) (λ e key may k. ap (λ (o : Part). map_in o k) e ∙ seen.map key may k)
        (subst (λ y. PartBy z p.me.who (Body p.before p.word) y rs r) is h)

    go : (p : UnlinkState) (y : UnlinkPoint) (c : UnlinkCall) (r0 rs r : Memo) (before t : Trail) (es : List Event) → after_all unlink_parts (unlink_call_at p y) t ≡ c → UnlinkKnows p y r0 rs before es → UnlinkSo p y r0 rs r t c
    go p unlinking.Look c r0 rs r before t es there known =
        at_first word_control (or_control down_control (or_control step_control tear_control)) (UnlinkSo p unlinking.Look r0 rs r t) _ t there
        (λ run fit. same_more r0 rs r (same_now r0 rs known.1) (word_still _ _ rs r t run fit))
    go p unlinking.Lower c r0 rs r before t es there (last, seen, quiet, bound) =
        at_second_first word_control down_control (or_control step_control tear_control) (UnlinkSo p unlinking.Lower r0 rs r t) _ t there
        (λ run fit. steps p _ 0 r0 rs r seen (sym last) (aimed_part down_control (λ x n. (refl, refl)) _ (Body p.before p.word) tt rs r t t run fit.1))
    go p unlinking.Change c r0 rs r before t es there (more, seen, quiet, bound) =
        at_second word_control (or_control down_control (or_control step_control tear_control)) (UnlinkSo p unlinking.Change r0 rs r t) _ t there
        (at_second_first down_control step_control tear_control (λ x. UnlinkSo p unlinking.Change r0 rs r t (Second x)) _ t refl (λ run fit. steps p _ p.next r0 rs r seen refl (aimed_part step_control (λ x n. (refl, refl)) _ (Body p.before p.word) tt rs r t t run fit.1)))
    go p unlinking.Tear c r0 rs r before t es there known =
        at_second word_control (or_control down_control (or_control step_control tear_control)) (UnlinkSo p unlinking.Tear r0 rs r t) _ t there
        (at_second_second down_control step_control tear_control (λ x. UnlinkSo p unlinking.Tear r0 rs r t (Second x)) _ t refl (λ run fit key may k. tear_still _ rs r t run fit k ∙ (ap (λ (x : Memo). map_in x.part k) known.lost.took.rest ∙ known.seen.map key may k)))
