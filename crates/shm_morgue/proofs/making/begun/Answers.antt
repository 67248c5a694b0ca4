use Rattle.shm_morgue.proofs.Moves.{begins}
use Rattle.shm_morgue.proofs.making.begun.Goals as goal

pub ruled-requires-clause-rule : goal.ruled-requires-clause-rule
ruled-requires-clause-rule g c = begins g.J.Pools.pools
