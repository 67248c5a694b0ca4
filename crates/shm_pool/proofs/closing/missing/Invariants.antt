use Rattle.std.proofs.Common.{ℕ, ◌<◌, ◌≤◌}
use Rattle.shm_pool.specs.{Rules.count_in, Tokens.accounts_of}
use Rattle.shm_pool.proofs.closing.missing.Given as goal

abbrev pub invariant-loop-client : goal.invariant-loop-client
invariant-loop-client l = (j : ℕ) → j < l.client → 1 ≤ count_in j (accounts_of l.all)
