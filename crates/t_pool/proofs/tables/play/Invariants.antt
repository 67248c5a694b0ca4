use Rattle.t_pool.specs.Tables.{IsOpen, SameIdentity}
use Rattle.t_pool.proofs.tables.play.Given as goal

abbrev pub invariant-loop-round : goal.invariant-loop-round
invariant-loop-round l = SameIdentity l.initial.client l.client × IsOpen l.client
