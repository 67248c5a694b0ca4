use Rattle.std.proofs.Common.{◌≡◌, ◌+◌, subst, arith}
use Rattle.shm_words.specs.Layout.{bodies, address}
use Rattle.shm_words.proofs.Placing.{total_small}
use Rattle.shm_audit.specs.Images.{numbers}
use Rattle.shm_migrate.specs.Writing.{WritesOn}
use Rattle.shm_migrate.proofs.Writing.{writes_more}
use Rattle.shm_migrate.proofs.image.push_front.Goals as goal

pub overflow_add-at-end : goal.overflow_add-at-end
unfolding address
overflow_add-at-end c = let e = c.body.ensures in let n = c.requires.fits.clients in let t = total_small c.args.geometry c.requires.fits in omega arith

pub loop-at-init : goal.loop-at-init
loop-at-init c = λ start w. w

pub widened_word-requires-clause-range : goal.widened_word-requires-clause-range
unfolding address
widened_word-requires-clause-range c = let e = c.body.ensures in let l = c.loop-at-test.true in omega arith

pub loop-at-preserved : goal.loop-at-preserved
loop-at-preserved c =
    writes_more c.args.geometry (numbers c.args.words.now) c.args.image.now.items c.loop-at.image.items c.push_word.new.image.items 0 c.loop-at.at (c.loop-at.at + 1) c.widened_word.result c.loop-at.invariant (omega arith) c.widened_word.ensures (let t = c.widened_word.type_inv in omega arith) c.in_ok-push_word.ensures

pub returns : goal.returns
unfolding address
returns c =
    let e : c.loop-at.at ≡ bodies c.args.geometry + c.args.geometry.clients = omega (arith, c.loop-at-test.false, c.loop-at.auto.at-end, c.body.ensures) in
    subst (WritesOn c.args.geometry (numbers c.args.words.now) c.args.image.now.items c.loop-at.image.items 0) e c.loop-at.invariant
