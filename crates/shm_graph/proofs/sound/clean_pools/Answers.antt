use Rattle.shm_graph.proofs.States.CleanPools.{clean_named, clean_empty, clean_headers, clean_joinable, clean_sum}
use Rattle.shm_graph.proofs.sound.clean_pools.Goals as goal

pub returns-clause-named : goal.returns-clause-named
returns-clause-named c = clean_named

pub returns-clause-empty : goal.returns-clause-empty
returns-clause-empty c = clean_empty

pub returns-clause-headers : goal.returns-clause-headers
returns-clause-headers c = clean_headers

pub returns-clause-joinable : goal.returns-clause-joinable
returns-clause-joinable c = clean_joinable

pub returns-clause-sum : goal.returns-clause-sum
returns-clause-sum c = clean_sum
