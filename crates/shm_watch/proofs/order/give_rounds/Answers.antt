use Rattle.std.proofs.Common.{suc, ◌∙◌}
use Rattle.shm_watch.proofs.Giving.{rounds_more}
use Rattle.shm_watch.proofs.order.give_rounds.Goals as goal

pub loop-preserved : goal.loop-preserved
loop-preserved g c =
    let h = c.loop.invariant in
    let got = c.give_round.ensures in
    let (n, is) = h.turns in
    record {
      seated = got.seated;
      turns = (suc n, rounds_more c.args.trace.now c.args.pool.now c.loop.pool c.give_round.new.pool n is got.given);
      start = got.start ∙ h.start;
    }

pub returns-clause-given : goal.returns-clause-given
returns-clause-given g c =
    let (n, is) = c.loop.invariant.turns in
    (suc n, rounds_more c.args.trace.now c.args.pool.now c.loop.pool c.give_round.new.pool n is c.give_round.ensures.given)
