use Rattle.shm_graph.proofs.Machines.ManySteps.{mapped_goes, mapped_runs}
use Rattle.shm_count.specs.Step.{Control.step_control, Machines.up_answer}
use Rattle.shm_count.proofs.step.StepUpMachine.run.Goals as goal

pub run_on-requires-clause-may : goal.run_on-requires-clause-may
run_on-requires-clause-may g c =
    let s = c.args.site.now in
    mapped_goes up_answer step_control (g.S.Site.may s) (g.S.Site.made s) (g.S.Site.seen s) c.args.life.now.left c.args.self.now c.self.inside.state c.args.words.now c.self.view_is c.requires

pub returns : goal.returns
returns g c =
    let s = c.args.site.now in
    let r = c.run_on in
    mapped_runs up_answer step_control (g.S.Site.may s) (g.S.Site.made s) (g.S.Site.seen s) c.args.life.now.left c.args.self.now c.self.inside.state c.args.words.now c.self.view_is
    (record { left = r.new.life.left; machine = r.new.self; words = r.new.words; turn = r.result }) r.ensures.ran c.up_told.result c.up_told.ensures
