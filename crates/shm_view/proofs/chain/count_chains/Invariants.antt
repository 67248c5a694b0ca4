use Rattle.std.proofs.Common.{◌≡◌, ◌*◌, ◌≤◌}
use Rattle.shm_graph.specs.References.{sum_below}
use Rattle.shm_audit.specs.Images.{numbers}
use Rattle.shm_view.specs.Chains.{bucket_length, greatest_below}
use Rattle.shm_view.proofs.chain.count_chains.Given as goal

abbrev pub invariant-loop-bucket : goal.invariant-loop-bucket
invariant-loop-bucket l =
    record {
      few : l.keys ≤ l.bucket * l.most;
      keys : l.keys ≡ sum_below l.bucket (bucket_length (numbers l.words) l.most l.home);
      longest : l.longest ≡ greatest_below l.bucket (bucket_length (numbers l.words) l.most l.home);
    }
