use Rattle.std.proofs.Common.{◌≡◌, ◌+◌, ◌-◌, ◌*◌, length-take-le, take, drop, sym, subst, ◌∙◌, arith}
use Rattle.shm_words.specs.Layout.{address, bodies, total_of}
use Rattle.shm_audit.specs.{Images.numbers, Streams.Seen, Tallies.AreFrom}
use Rattle.shm_audit.proofs.Windows.{from_slice, from_take}
use Rattle.shm_audit.proofs.auditing.audit_words.Goals as goal

pub slice_bounds-front-end : goal.slice_bounds-front-end
unfolding address
slice_bounds-front-end c = let e = c.body.ensures in let w = c.requires.whole in sym (length-take-le c.body.result c.args.words.now (omega arith))

pub new-requires-clause-whole : goal.new-requires-clause-whole
unfolding address
new-requires-clause-whole c = let e = c.body.ensures in let w = c.requires.whole in length-take-le c.body.result c.args.words.now (omega arith) ∙ omega arith

pub loop-number-init : goal.loop-number-init
unfolding address
loop-number-init c =
    let g = c.args.geometry in
    let e : bodies g ≡ bodies g + 2048 * 0 = omega arith in
    subst (λ n. Seen g (numbers c.args.words.now) n c.in_ok-auditor.auditor) e (c.in_ok-auditor.ensures (numbers c.args.words.now) (from_take c.args.words.now c.body.result))

pub slice_bounds-segment-end : goal.slice_bounds-segment-end
unfolding address
slice_bounds-segment-end c =
    let e = c.body-first.ensures in
    let w = c.requires.whole in
    let s = c.segments-number-end.ensures in
    let l = c.loop-number-test.true in
    omega arith

pub segment-requires-clause-front : goal.segment-requires-clause-front
unfolding address
segment-requires-clause-front c = let e = c.body.ensures in let w = c.requires.whole in length-take-le c.body.result c.args.words.now (omega arith) ∙ omega arith

pub loop-number-preserved : goal.loop-number-preserved
unfolding address
loop-number-preserved c =
    let g = c.args.geometry in
    let first : c.body-first.result ≡ bodies g + 2048 * c.loop-number.number = (let e = c.body-first.ensures in omega arith) in
    let ws = numbers c.args.words.now in
    let n = c.body-first.result + 2048 - c.body-first.result in
    c.segment.ensures ws (from_take c.args.words.now c.body.result) (subst (λ i. AreFrom ws i (numbers (take n (drop c.body-first.result c.args.words.now)))) first (from_slice c.args.words.now c.body-first.result n)) c.loop-number.invariant

pub finish-requires-clause-front : goal.finish-requires-clause-front
unfolding address
finish-requires-clause-front c = let e = c.body.ensures in let w = c.requires.whole in length-take-le c.body.result c.args.words.now (omega arith) ∙ omega arith

pub finish-requires-clause-seen : goal.finish-requires-clause-seen
finish-requires-clause-seen c =
    let g = c.args.geometry in
    let end : bodies g + 2048 * c.loop-number.number ≡ total_of g = omega (arith, c.loop-number-test.false, c.loop-number.auto.number-end, c.segments-number-end.ensures) in
    (numbers c.args.words.now, subst (λ n. Seen g (numbers c.args.words.now) n c.loop-number.auditor) end c.loop-number.invariant)

pub returns-in-Ok-clause-ok : goal.returns-in-Ok-clause-ok
returns-in-Ok-clause-ok c =
    let g = c.args.geometry in
    let ws = numbers c.args.words.now in
    let end : bodies g + 2048 * c.loop-number.number ≡ total_of g = omega (arith, c.loop-number-test.false, c.loop-number.auto.number-end, c.segments-number-end.ensures) in
    c.in-Ok.ensures.ok ws (from_take c.args.words.now c.body.result) (subst (λ n. Seen g ws n c.loop-number.auditor) end c.loop-number.invariant)

pub returns-clause-err : goal.returns-clause-err
returns-clause-err c =
    let g = c.args.geometry in
    let ws = numbers c.args.words.now in
    let end : bodies g + 2048 * c.loop-number.number ≡ total_of g = omega (arith, c.loop-number-test.false, c.loop-number.auto.number-end, c.segments-number-end.ensures) in
    c.in-Err.ensures.err ws (from_take c.args.words.now c.body.result) (subst (λ n. Seen g ws n c.loop-number.auditor) end c.loop-number.invariant)
