use Rattle.std.proofs.Common.{refl}
use Rattle.plans.specs.Proved.CallsKeep.{calls_begin}
use Rattle.shm_recover.specs.Recover.{Control.{recover_parts, recovering}, recover_plan}
use Rattle.shm_recover.specs.Proved.{Recover.Laws.{recover_begin, recover_laws}, FinishTakes.Laws.finish_laws}
use Rattle.shm_recover.specs.Proved.{GiveUp.Laws.give_laws, Mend.Laws.mend_laws, Scan.Laws.scan_laws}
use Rattle.shm_recover.specs.Proved.TakeBack.Laws.{back_laws}
use Rattle.shm_recover.proofs.recovering.recover_begins.Goals as goal
use Rattle.shm_ref.specs.Proved.DropRoots.Laws.{roots_laws}

pub returns : goal.returns
returns c me r may = calls_begin recover_parts recover_plan (recover_laws mend_laws roots_laws back_laws finish_laws scan_laws give_laws) (recovering me) r refl refl (recover_begin me r may)
