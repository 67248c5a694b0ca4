use Rattle.shm_graph.proofs.Machines.Wholes.{whole_inside, whole_keeps}
use Rattle.shm_graph.proofs.laws.machine_law.Goals as goal

pub returns-clause-inside : goal.returns-clause-inside
returns-clause-inside g c = whole_inside g.M.Machine.control g.M.Machine.fits g.M.Machine.gives g.met.M.Machine.laws

pub returns-clause-keeps : goal.returns-clause-keeps
returns-clause-keeps g c = whole_keeps g.M.Machine.control g.M.Machine.fits g.M.Machine.gives g.met.M.Machine.laws
