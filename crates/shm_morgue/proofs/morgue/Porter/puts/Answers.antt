use Rattle.std.proofs.Common.{length, ap, sym, ◌∙◌}
use Rattle.shm_morgue.specs.Entries.{Puts}
use Rattle.shm_morgue.proofs.morgue.Porter.puts.Goals as goal

pub returns : goal.returns
returns g c = sym c.self.invariant.long ∙ ap (λ (s : Puts). length s.entries) c.self.view_is
