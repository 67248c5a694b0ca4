use Rattle.std.proofs.Common.{◌≡◌, ℕ, ◌<◌, ◌⊎◌}
use Rattle.shm_graph.specs.declared.memo.Status.TheVariants.{New, Gone}
use Rattle.shm_plain.specs.Pools.{memo_of}
use Rattle.shm_plain.proofs.pool.PlainPool.is_still.Given as goal

abbrev pub invariant-loop-who : goal.invariant-loop-who
invariant-loop-who l = (c : ℕ) → c < l.who → ((memo_of l.self c).status ≡ New) ⊎ ((memo_of l.self c).status ≡ Gone)
