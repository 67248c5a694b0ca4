use Rattle.std.proofs.Common.{◌^◌}
use Rattle.shm_script.specs.Faults.{life_fit}
use Rattle.shm_script.proofs.ManyFit.{at_place, life_in, life_out, lives_out}
use Rattle.shm_script.proofs.judge.fit_life.Goals as goal

pub returns-in_default : goal.returns-in_default
returns-in_default c = life_out c.loop-number.left c.loop-number.fit.items c.args.numbers.now c.loop-number.number-index _ (life_fit (2 ^ 40) c.args.numbers.now) (at_place c.args.numbers.now c.loop-number.number-index _ c.loop-number-test.true) c.loop-number.invariant c.in_default.ensures

pub loop-number-preserved : goal.loop-number-preserved
loop-number-preserved c = rw c.in_ok-push.ensures.items (life_in c.loop-number.left c.loop-number.fit.items c.args.numbers.now c.loop-number.number-index _ (life_fit (2 ^ 40) c.args.numbers.now) (at_place c.args.numbers.now c.loop-number.number-index _ c.loop-number-test.true) c.loop-number.invariant c.in-Some.steps c.in-Some.ensures)

pub returns : goal.returns
returns c = lives_out c.loop-number.left c.loop-number.fit.items c.args.numbers.now c.loop-number.number-index (life_fit (2 ^ 40) c.args.numbers.now) c.loop-number-test.false c.loop-number.invariant
