use Rattle.shm_audit.specs.Images.{numbers}
use Rattle.shm_migrate.specs.Writing.{WritesOn}
use Rattle.shm_migrate.proofs.image.push_front.Given as goal

abbrev pub invariant-loop-at : goal.invariant-loop-at
invariant-loop-at l = WritesOn l.geometry (numbers l.words) l.fn.image.items l.image.items 0 l.at
