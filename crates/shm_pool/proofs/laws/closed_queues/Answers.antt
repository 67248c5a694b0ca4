use Rattle.shm_pool.proofs.laws.closed_queues.Goals as goal

pub returns : goal.returns
returns c = λ s ws es i j run li lj apart. (run.held.at.lanes i j li lj apart).prefix
