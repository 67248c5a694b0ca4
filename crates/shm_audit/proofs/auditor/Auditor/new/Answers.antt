use Rattle.std.proofs.Common.{◌≡◌, ℕ, List, sym, subst, arith}
use Rattle.std.specs.{Prelude.{IfErr, None, OnOk, Result, Ok, Err, Some}, Result.result_err}
use Rattle.shm_words.specs.{declared.geometry.Geometry.Geometry, Layout.{address, bodies}}
use Rattle.shm_audit.specs.{declared.{fault.ImageFault.ImageFault, tally.Tally.Tally}, Faults.words_fault_of}
use Rattle.shm_audit.specs.{Images.numbers, Streams.SeenBy, Tallies.{AreFrom, ArePages, Tallied}}
use Rattle.shm_audit.proofs.{Fronts.front_naming, Steps.seen_front}
use Rattle.shm_audit.proofs.auditor.Auditor.new.Goals as goal

checked : {A : Type 0} (g : Geometry) (front : List ℕ) (tally : Tally) (r : Result A ImageFault) → OnOk r ((ws : List ℕ) → AreFrom ws 0 front → ArePages g ws) → IfErr r (λ f. (ws : List ℕ) → AreFrom ws 0 front → words_fault_of g ws ≡ Some f)
    → (ws : List ℕ) → AreFrom ws 0 front → Tallied g ws (bodies g) tally → SeenBy g ws (bodies g) (result_err r) None tally
checked g front tally (Ok a) ok err ws from t = seen_front g ws tally (ok ws from) t
checked g front tally (Err f) ok err ws from t = err ws from

pub reference_before-requires-clause-before : goal.reference_before-requires-clause-before
unfolding address
reference_before-requires-clause-before c = let e = c.body-at-end.ensures in let l = c.loop-at-test.true in omega arith

pub loop-at-preserved : goal.loop-at-preserved
unfolding address
loop-at-preserved c = λ ws from.
    let g = c.args.geometry in
    let e = c.body-at-end.ensures in
    let t = c.loop-at-test.true in
    c.name.ensures g ws c.requires.fits (omega arith) (front_naming g ws c.loop-at.at (omega arith) c.reference_before.result (c.reference_before.ensures ws from)) (c.loop-at.invariant ws from)

pub returns : goal.returns
unfolding address
returns c = λ ws from.
    let g = c.args.geometry in
    let at : c.loop-at.at ≡ bodies g = omega (arith, c.loop-at-test.false, c.loop-at.auto.at-end, c.body-at-end.ensures) in
    subst (λ o. SeenBy g ws (bodies g) o None c.loop-at.tally) (sym c.err-fault.ensures.value)
    (checked g (numbers c.args.front.now) c.loop-at.tally c.check_pages.result c.check_pages.ensures.ok c.check_pages.ensures.err ws from (subst (λ n. Tallied g ws n c.loop-at.tally) at (c.loop-at.invariant ws from)))
