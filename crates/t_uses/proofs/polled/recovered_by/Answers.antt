use Rattle.t_uses.proofs.Polls.{started_gives}
use Rattle.t_uses.proofs.polled.recovered_by.Goals as goal

pub returns : goal.returns
returns g c = started_gives c.args.pool.now c.args.corpse c.args.q c.args.life c.new.result c.block_on.result c.requires.of c.new.ensures c.block_on.ensures
