-- a join that works alone ends: it is one word step
use Rattle.std.proofs.Common.{ℕ}
use Rattle.shm_graph.specs.declared.spot.Spot.{Spot}
use Rattle.shm_recover.specs.declared.join.JoinState.{JoinState}
use Rattle.shm_alone.specs.Lifting.{anything}

-- it knows nothing of the words, and has one word step left
abbrev pub join_alone : JoinState → (Spot → ℕ) → Type 0
join_alone = anything

abbrev pub join_left : JoinState → ℕ
join_left m = 1
