use Rattle.crossbeam_queue.specs.Passes.{view}
use Rattle.shm_morgue.proofs.Gathering.{carried}
use Rattle.shm_morgue.proofs.morgue.Morgue.close.Goals as goal

pub returns-in-Ok-clause-carried : goal.returns-in-Ok-clause-carried
returns-in-Ok-clause-carried g c =
    carried c.args.porters.items c.args.medics.items c.empty.result.items (view c.gather_medics-place.result) (view c.gather_porters-place.result) c.args.self.clients c.args.self.medics c.args.self.clients c.args.self.medics
    c.gather_medics-place.ensures.view c.gather_porters-place.ensures.view c.empty.ensures.emptied
