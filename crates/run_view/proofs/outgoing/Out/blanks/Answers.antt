use Rattle.std.proofs.{Common.{ℕ, List, subst}, lemmas.List.take-replicate}
use Rattle.run_view.specs.Piped.{Adds}
use Rattle.run_view.proofs.outgoing.Out.blanks.Goals as goal

pub returns : goal.returns
returns g c = subst (λ (t : List ℕ). Adds g.K.Sink.held g.K.Sink.faults c.args.self.now c.bytes.new.self t) (take-replicate c.args.count 32 32 c.requires) c.bytes.ensures
