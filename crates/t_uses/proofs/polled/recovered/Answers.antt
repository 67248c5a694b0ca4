use Rattle.t_uses.proofs.Polls.{rescuing_first, rescuing_on, rescuing_over}
use Rattle.t_uses.proofs.polled.recovered.Goals as goal

pub loop-given-init : goal.loop-given-init
loop-given-init c = rescuing_first c.args.pool.now c.args.corpse c.args.q c.args.life c.new-future.result c.requires.turns c.requires.of c.new-future.ensures

pub loop-given-preserved : goal.loop-given-preserved
loop-given-preserved c = (rescuing_on c.args.pool.now c.args.corpse.account.who c.loop-given.future c.advance.result c.advance.new.self c.loop-given.invariant c.advance.ensures c.in_default.not-Some).0

pub loop-given-smaller : goal.loop-given-smaller
loop-given-smaller c = (rescuing_on c.args.pool.now c.args.corpse.account.who c.loop-given.future c.advance.result c.advance.new.self c.loop-given.invariant c.advance.ensures c.in_default.not-Some).1

pub returns-in-Some : goal.returns-in-Some
returns-in-Some c =
    let back = rescuing_over c.args.pool.now c.args.corpse.account.who c.loop-given.future c.advance.new.self c.in-Some.given c.loop-given.invariant c.in-Some.ensures in
    record { gone = back.gone; same = back.same; stopped = back.stopped }
