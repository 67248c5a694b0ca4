use Rattle.shm_recover.specs.Proved.Leave.Gone.{leave_gone}
use Rattle.shm_recover.proofs.departures.leave_gone.Goals as goal

pub returns : goal.returns
returns c = leave_gone
