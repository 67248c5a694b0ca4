use Rattle.std.proofs.Common.{◌≡◌, ℕ, ◌<◌, length, get_or}
use Rattle.shm_audit.specs.Images.{numbers}
use Rattle.shm_view.specs.Figures.{IsIdentity, nobody}
use Rattle.shm_view.proofs.stats.identities.Given as goal

abbrev pub invariant-loop-c : goal.invariant-loop-c
invariant-loop-c l =
    record {
      count : length l.identities.items ≡ l.c;
      each : (k : ℕ) → k < l.c → IsIdentity l.geometry (numbers l.words) k (get_or l.identities.items k nobody);
    }
