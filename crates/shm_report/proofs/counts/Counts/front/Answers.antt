use Rattle.std.proofs.Common.{◌≡◌, ◌+◌, cond, eqb, subst, ap, ◌∙◌, arith}
use Rattle.shm_words.specs.Layout.{bodies, address}
use Rattle.shm_words.proofs.Placing.{total_most_wide}
use Rattle.shm_report.specs.Counts.{Counted}
use Rattle.shm_report.proofs.Counting.{counted_word}
use Rattle.shm_report.proofs.counts.Counts.front.Goals as goal

pub reference_at-requires-clause-before : goal.reference_at-requires-clause-before
unfolding address
reference_at-requires-clause-before c = let e = c.body-at-end.ensures in let l = c.loop-at-test.true in let a = c.loop-at.auto.at-end in omega arith

pub name-requires : goal.name-requires
unfolding address
name-requires c =
    let e = c.body-at-end.ensures in
    let l = c.loop-at-test.true in
    let a = c.loop-at.auto.at-end in
    let m = total_most_wide c.args.geometry c.requires.fits in
    let r = c.loop-at.invariant.room.1 in
    omega arith

pub loop-at-preserved : goal.loop-at-preserved
unfolding address
loop-at-preserved c =
    let e = c.body-at-end.ensures in
    let l = c.loop-at-test.true in
    let a = c.loop-at.auto.at-end in
    counted_word c.args.geometry c.args.words.now c.loop-at.at _ _ _ _ c.loop-at.invariant (omega arith) c.name.ensures.live
    (c.name.ensures.refs ∙ ap (λ t. c.loop-at.self.refs + cond (eqb t 0) 0 1) c.reference_at.ensures)

pub returns : goal.returns
unfolding address
returns c =
    let e : c.loop-at.at ≡ bodies c.args.geometry = omega (arith, c.loop-at-test.false, c.loop-at.auto.at-end, c.body-at-end.ensures) in
    subst (λ n. Counted c.args.geometry c.args.words.now n c.loop-at.self.live c.loop-at.self.refs) e c.loop-at.invariant
