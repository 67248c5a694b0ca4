use Rattle.std.proofs.Common.{sym, subst, arith}
use Rattle.shm_graph.specs.{Bounds.join_steps, Asks.IsWithin}
use Rattle.shm_recover.proofs.join.join_bound.Goals as goal

pub returns : goal.returns
returns c m r0 r tr gives = subst (IsWithin join_steps) (sym gives.trail) (omega arith)
