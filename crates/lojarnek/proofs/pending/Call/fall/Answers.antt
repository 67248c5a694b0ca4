use Rattle.lojarnek.proofs.pending.Call.fall.Goals as goal

pub fall-requires : goal.fall-requires
fall-requires c = λ alive. c.self.invariant.3.asks.3
