use Rattle.std.proofs.Common.{◌+◌, ◌*◌}
use Rattle.shm_words.specs.Layout.{bodies}
use Rattle.shm_audit.specs.Images.{numbers}
use Rattle.shm_migrate.specs.Writing.{WritesOn}
use Rattle.shm_migrate.proofs.image.widened_image.Given as goal

abbrev pub invariant-loop-page : goal.invariant-loop-page
invariant-loop-page l = WritesOn l.geometry (numbers l.words) l.initial.image.items l.image.items (bodies l.geometry + l.geometry.clients) (bodies l.geometry + 128 * l.page + l.geometry.clients)
