use Rattle.std.proofs.Common.{ap, ◌∙◌}
use Rattle.shm_graph.specs.Core.{core}
use Rattle.t_uses.proofs.machine.compare_reads.Goals as goal

pub returns : goal.returns
returns c = λ m r0 r tr fit. ap core fit.fits.fits.same ∙ (ap core fit.fits.knows.same ∙ fit.knows.same)
