use Rattle.std.proofs.Common.{◌≡◌, drop}
use Rattle.shm_pool.specs.{Rules.count_in, Tokens.accounts_of}
use Rattle.shm_pool.proofs.closing.has.Given as goal

abbrev pub invariant-loop-token : goal.invariant-loop-token
invariant-loop-token l = count_in l.client (accounts_of l.all) ≡ count_in l.client (accounts_of (drop l.token-index l.all))
