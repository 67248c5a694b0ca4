use Rattle.std.proofs.Common.{sym, ◌∙◌}
use Rattle.lojarnek.proofs.client.Client.joined.Goals as goal

pub invariant_of-result : goal.invariant_of-result
invariant_of-result c = (c.requires.home, sym c.requires.alive, c.requires.ready, λ blocks alive k low. c.requires.empty k ∙ sym (c.none.ensures k))
