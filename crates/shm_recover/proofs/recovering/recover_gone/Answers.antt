use Rattle.shm_graph.specs.Views.{view}
use Rattle.shm_graph.proofs.States.HeldSound.{gone_left}
use Rattle.shm_recover.proofs.recovering.recover_gone.Goals as goal

pub returns : goal.returns
returns c me r0 tr es w r l held g = gone_left me.geometry w (view r) held me.who l g.status
