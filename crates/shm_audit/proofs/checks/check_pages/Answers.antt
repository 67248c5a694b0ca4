use Rattle.std.proofs.{Common.{get_or, sym, ap, ◌∙◌, arith, inl, inr}, lemmas.Bool.cases_eq}
use Rattle.std.specs.Prelude.{Some}
use Rattle.shm_words.specs.Layout.{address}
use Rattle.shm_audit.specs.{Faults.is_page_word, Images.numbers}
use Rattle.shm_audit.specs.declared.fault.ImageFault.TheVariants as fault
use Rattle.shm_audit.proofs.{Fronts.{from_word, numbers_length}, Steps.bad_page}
use Rattle.shm_audit.proofs.checks.check_pages.Goals as goal

pub loop-at-init : goal.loop-at-init
unfolding address
loop-at-init c = λ ws from a l m. let e = c.page-at.ensures in absurd (omega arith)

pub loop-at-preserved : goal.loop-at-preserved
unfolding address
loop-at-preserved c = λ ws from a l m.
    let y = c.body-at-end.ensures in
    let at = c.loop-at.at in
    let n = numbers_length c.args.front.now in
    let k = c.loop-at-test.true in
    let h = c.requires.whole in
    let w = from_word ws (numbers c.args.front.now) 0 at at from (omega arith) (omega arith) in
    elim (cases_eq a at) [
      | inl e ↦ ap (λ b. is_page_word (get_or ws b 0)) e ∙ (ap is_page_word (w ∙ sym c.word-word.ensures) ∙ sym (c.if-not-is_page_word.ensures))
      | inr d ↦ c.loop-at.invariant ws from a l (omega (arith, m, d))
    ]

pub returns-clause-ok : goal.returns-clause-ok
unfolding address
returns-clause-ok c = λ ws from a l m. c.loop-at.invariant ws from a l (let y = c.body-at-end.ensures in let t = c.loop-at-test.false in omega arith)

pub returns-then-not-is_page_word-clause-err : goal.returns-then-not-is_page_word-clause-err
unfolding address
returns-then-not-is_page_word-clause-err c = λ ws from.
    let x = c.page-at.ensures in
    let y = c.body-at-end.ensures in
    let at = c.loop-at.at in
    let n = numbers_length c.args.front.now in
    let l = c.loop-at.auto.at in
    let m = c.loop-at-test.true in
    let h = c.requires.whole in
    let w = from_word ws (numbers c.args.front.now) 0 at at from (omega arith) (omega arith) in
    bad_page c.args.geometry ws at c.requires.fits (omega arith) (omega arith) (ap is_page_word (w ∙ sym c.word-word.ensures) ∙ sym (c.if-not-is_page_word.ensures)) (c.loop-at.invariant ws from)
    ∙ ap (λ k. Some (fault.BadPage at k)) (w ∙ sym c.word-word.ensures)
