use Rattle.shm_graph.proofs.Runs.OwnEvents.{own_told}
use Rattle.shm_graph.proofs.laws.own_events.Goals as goal

pub returns : goal.returns
returns g c = own_told g.M.Machine.control g.M.Machine.fits g.M.Machine.gives g.met.M.Machine.laws
