use Rattle.plans.specs.Proved.Grown.{grown_laws}
use Rattle.shm_alloc.specs.{Alloc.{Control.alloc_control, AsPart.alloc_making}, Proved.Alloc.AsPart.alloc_making_laws}
use Rattle.shm_alloc.proofs.lasting.alloc_in_call.Goals as goal

pub returns : goal.returns
returns c first = grown_laws first alloc_control (alloc_making first) (alloc_making_laws first)
