use Rattle.std.proofs.Common.{◌*◌}
use Rattle.t_uses.proofs.Polls.{IsPolling}
use Rattle.t_uses.proofs.polled.play.Given as goal

abbrev pub invariant-loop : goal.invariant-loop
invariant-loop l = IsPolling l.pool l.script l.q (l.q * l.counter) l.future
