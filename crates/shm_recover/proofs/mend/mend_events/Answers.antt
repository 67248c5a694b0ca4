use Rattle.plans.specs.Proved.CallsKeep.{calls_tells}
use Rattle.shm_recover.specs.{Mend.{Control.mend_parts, mend_plan}, Proved.Mend.Laws.mend_laws}
use Rattle.shm_recover.proofs.mend.mend_events.Goals as goal

pub returns : goal.returns
returns c = calls_tells mend_parts mend_plan mend_laws
