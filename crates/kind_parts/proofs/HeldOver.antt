-- a block that a change holds over between its halves and that a word names has two references
use Rattle.std.proofs.Common.{◌≡◌, ◌≢◌, ℕ, ◌<◌, ◌≤◌, sym, ap, ◌∙◌, arith, eqb, eq-eqb}
use Rattle.shm_words.specs.{Layout.total_of, declared.geometry.Geometry.Geometry}
use Rattle.shm_graph.specs.{declared.spot.Spot.{Spot, TheVariants.Spare}, Blocks.{classes, headers}, Held.HeldAt}
use Rattle.shm_graph.specs.{Ops.indegree, References.{one_if, references_to}, Spots.{IsAt, spot_address, spot_at}}
use Rattle.shm_graph.specs.Views.{View, held_overs, targets}
use Rattle.shm_graph.proofs.States.{Counting.{has_place, sum_has, target_not_spare}, Holders.target_counted}
use Rattle.shm_graph.proofs.Spots.Spotting.{in_pool}
