use Rattle.std.proofs.Common.{◌+◌, ◌∙◌}
use Rattle.shm_replay.proofs.Lone.{rounds_on}
use Rattle.shm_replay.proofs.order.give_rounds.Goals as goal

pub loop-agents-preserved : goal.loop-agents-preserved
loop-agents-preserved g c =
    let h = c.loop-agents.invariant in
    let got = c.give_some_rounds.ensures in
    let (n, is) = h.turns in
    let (m, more) = got.given in
    record {
      seated = got.seated;
      turns = (n + m, rounds_on c.args.trace.now c.args.pool.now c.loop-agents.pool c.give_some_rounds.new.pool n m is more);
      start = got.start ∙ h.start;
    }

pub returns-clause-given : goal.returns-clause-given
returns-clause-given g c =
    let (n, is) = c.loop-agents.invariant.turns in
    let (m, more) = c.give_some_rounds.ensures.given in
    (n + m, rounds_on c.args.trace.now c.args.pool.now c.loop-agents.pool c.give_some_rounds.new.pool n m is more)

pub returns-in-Some-clause-given : goal.returns-in-Some-clause-given
returns-in-Some-clause-given g c =
    let t = c.args.trace.now in
    let p = c.args.pool.now in
    let q = c.give_some_rounds.new.pool in
    let (n, is) = c.loop-agents.invariant.turns in
    let (m, more) = c.give_some_rounds.ensures.given in
    let (k, rest) = c.finish.ensures.given in
    (n + m + k, rounds_on t p q c.finish.new.pool (n + m) k (rounds_on t p c.loop-agents.pool q n m is more) rest)
