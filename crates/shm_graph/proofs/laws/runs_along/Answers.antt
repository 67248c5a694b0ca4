use Rattle.shm_graph.proofs.Machines.ManySteps.{as_trail}
use Rattle.shm_graph.proofs.laws.runs_along.Goals as goal

pub returns : goal.returns
returns g c = λ site. as_trail g.M.Machine.control (g.S.Site.made site) (g.S.Site.seen site)
