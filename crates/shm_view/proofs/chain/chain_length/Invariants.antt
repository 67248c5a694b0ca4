use Rattle.std.proofs.Common.{◌≡◌, ◌+◌, ◌-◌}
use Rattle.shm_audit.specs.Images.{numbers}
use Rattle.shm_view.specs.Chains.{chain_length}
use Rattle.shm_view.proofs.chain.chain_length.Given as goal

abbrev pub invariant-loop-length : goal.invariant-loop-length
invariant-loop-length l = chain_length (numbers l.words) l.most l.first ≡ chain_length (numbers l.words) (l.most - l.length) l.entry + l.length
