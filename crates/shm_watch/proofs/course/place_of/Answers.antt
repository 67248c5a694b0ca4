use Rattle.std.proofs.{Common.{◌≡◌, length, refl, sym, ap, ◌∙◌, arith, inl, inr}, lemmas.Bool.cases_eq}
use Rattle.std.proofs.lemmas.Option.{slice_get_read, slice_get_within}
use Rattle.std.specs.Prelude.{Some, slice_get}
use Rattle.shm_replay.proofs.Gathering.{same_some}
use Rattle.shm_watch.specs.Columns.{Laned}
use Rattle.shm_watch.proofs.Following.{nowhere, placed}
use Rattle.shm_watch.proofs.course.place_of.Goals as goal

pub returns-then-who : goal.returns-then-who
returns-then-who g c =
    let ls = c.args.lanes.now in
    let l = c.index-lanes-at.result in
    let has : slice_get ls c.loop-at.at ≡ Some l = slice_get_read ls (length ls) c.loop-at.at l refl c.loop-at-test.true c.index-lanes-at.is in
    placed ls c.args.who c.loop-at.at l c.loop-at.invariant.before has (sym c.who.ensures ∙ c.if-who.true)

pub loop-at-preserved : goal.loop-at-preserved
loop-at-preserved g c = record {
  before = λ j r l e.
      let ls = c.args.lanes.now in
      let s = c.index-lanes-at.result in
      let has : slice_get ls c.loop-at.at ≡ Some s = slice_get_read ls (length ls) c.loop-at.at s refl c.loop-at-test.true c.index-lanes-at.is in
      elim (cases_eq j c.loop-at.at) [
        | inl f ↦ (λ q. c.if-who.false (c.who.ensures ∙ (ap (λ (x : Laned). x.me.who) (same_some s r (sym has ∙ (ap (slice_get ls) (sym f) ∙ e))) ∙ q)))
        | inr o ↦ c.loop-at.invariant.before j r (omega arith) e
      ];
}

pub returns : goal.returns
returns g c = nowhere c.args.lanes.now c.args.who (λ j r e. c.loop-at.invariant.before j r (let l = slice_get_within c.args.lanes.now j r e in omega arith) e)
