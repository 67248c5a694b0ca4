use Rattle.crossbeam_queue.specs.Passes.{view}
use Rattle.shm_morgue.proofs.Moves.{opens_one}
use Rattle.shm_morgue.proofs.making.open.Goals as goal

pub another-requires-clause-rule : goal.another-requires-clause-rule
another-requires-clause-rule g c = opens_one g.J.Pools.pools c.args.home.now.id (view c.args.home.now) g.K.Sizes.clients g.K.Sizes.doctors c.requires.fresh
