use Rattle.std.proofs.Common.{◌+◌}
use Rattle.shm_audit.specs.Images.{numbers}
use Rattle.shm_migrate.specs.Writing.{WritesOn}
use Rattle.shm_migrate.proofs.image.push_block.Given as goal

abbrev pub invariant-loop-i : goal.invariant-loop-i
invariant-loop-i l = WritesOn l.geometry (numbers l.words) l.fn.image.items l.image.items (l.block + l.geometry.clients) (l.block + 2 + l.i + l.geometry.clients)
