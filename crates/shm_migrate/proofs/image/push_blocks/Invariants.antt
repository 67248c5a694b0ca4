use Rattle.std.proofs.Common.{◌≡◌, ◌+◌, ◌-◌, ◌%◌, ◌≤◌}
use Rattle.shm_audit.specs.Images.{numbers}
use Rattle.shm_migrate.specs.Writing.{WritesOn}
use Rattle.shm_migrate.proofs.image.push_blocks.Given as goal

abbrev pub invariant-loop-block : goal.invariant-loop-block
invariant-loop-block l =
    record {
      start : l.first ≤ l.block;
      end : l.block ≤ l.first + 128;
      block : (l.block - l.first) % l.class ≡ 0;
      written : WritesOn l.geometry (numbers l.words) l.fn.image.items l.image.items (l.first + l.geometry.clients) (l.block + l.geometry.clients);
    }

abbrev pub decreases-loop-block : goal.decreases-loop-block
decreases-loop-block l = l.first + 128 - l.block
