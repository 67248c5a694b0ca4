use Rattle.shm_pool.specs.Tokens.{by_who}
use Rattle.shm_pool.proofs.notes.keep.Given as goal

abbrev pub ghosts-keep_as : goal.ghosts-keep_as
ghosts-keep_as a = record { list = by_who 0 a._clients a._seat.now.me.0 }
