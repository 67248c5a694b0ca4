use Rattle.shm_plain.proofs.Lanes.{head_counts, items_wait, tail_counts}
use Rattle.shm_plain.proofs.laws.queues_of_pool.Goals as goal

pub returns-clause-queue_head : goal.returns-clause-queue_head
returns-clause-queue_head c s d ls ld other = items_wait c.args.pool.now s d c.geometry.ensures.run ls ld other

pub returns-clause-head : goal.returns-clause-head
returns-clause-head c s d ls ld other = head_counts c.args.pool.now s d c.geometry.ensures.run ls ld other

pub returns-clause-tail : goal.returns-clause-tail
returns-clause-tail c s d ls ld other = tail_counts c.args.pool.now s d c.geometry.ensures.run ls ld other
