-- events that lose references and free blocks
use Rattle.std.proofs.Common.{◌≡◌, ℕ, List, []}
use Rattle.std.specs.List.{All}
use Rattle.shm_graph.specs.Events.{Event}
use Rattle.shm_graph.specs.Events as event

-- a reference of c is lost, or a block is freed by c
abbrev pub IsLoss : ℕ → Event → Type 0
IsLoss c (event.Down d p b) = d ≡ c
IsLoss c (event.Free d b) = d ≡ c
IsLoss c e = ⊥

abbrev pub AreLosses : ℕ → List Event → Type 0
AreLosses c es = All (IsLoss c) es
