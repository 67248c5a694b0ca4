use Rattle.shm_graph.proofs.StepKinds.{Keeping.live_kept, LoadKeeping.{load_kept, lost_kept}}
use Rattle.shm_graph.proofs.StepKinds.StatusKeeping.{dead_kept, gone_kept}
use Rattle.shm_graph.proofs.laws.steps_keep.Goals as goal

pub returns-clause-live : goal.returns-clause-live
returns-clause-live c me w r f tr at s e = live_kept me w r f tr at (λ n m. Unit {0}) s e tt

pub returns-clause-dead : goal.returns-clause-dead
returns-clause-dead c me w r f tr at s e = dead_kept me w r f tr at (λ n m. Unit {0}) s e tt

pub returns-clause-gone : goal.returns-clause-gone
returns-clause-gone c me w r f tr at s e left = gone_kept me w r f tr at (λ n m. Unit {0}) s e left tt

pub returns-clause-load : goal.returns-clause-load
returns-clause-load c me w r f tr at p s e n u = load_kept me w r f tr at (λ n m. Unit {0}) p s e n u tt

pub returns-clause-lost : goal.returns-clause-lost
returns-clause-lost c me w r f tr at from to p s e n u other = lost_kept me w r f tr at from to (λ n m. Unit {0}) p s e n u other tt
