use Rattle.std.proofs.Common.{sym, ◌∙◌}
use Rattle.shm_graph.proofs.Machines.ManySteps.{begun}
use Rattle.plans.specs.CallsControl.{calls_control}
use Rattle.plans.proofs.ManySteps.{begun_as, call_may, goes_on, is_cut, is_over, spends, tells_end}
use Rattle.plans.proofs.calls.CallsMachine.run.Goals as goal

pub calls-init : goal.calls-init
calls-init g c =
    let s = c.args.site.now in
    begun (calls_control g.P.Call.Machine.control g.P.Plan.plan.steered) (g.S.Site.may s) (g.S.Site.made s) (g.S.Site.seen s) c.args.life.now.left c.args.self.now c.args.words.now c.requires

pub run-requires : goal.run-requires
run-requires g c =
    let s = c.args.site.now in
    let l = c.calls in
    call_may g.P.Call.Machine.control g.P.Plan.plan.steered (g.S.Site.may s) (g.S.Site.made s) (g.S.Site.seen s) l.life.left l.self.plan l.self.call l.words l.invariant.may_go

pub calls-preserved : goal.calls-preserved
calls-preserved g c =
    let s = c.args.site.now in
    let l = c.calls in
    goes_on g.P.Call.Machine.control g.P.Plan.plan.steered (g.S.Site.may s) (g.S.Site.made s) (g.S.Site.seen s) c.args.life.now.left c.args.self.now c.args.words.now l.life.left l.self l.words l.invariant
    c.run.new.life.left c.run.new.self c.run.new.words c.run.result c.in-Done.answer c.run.ensures c.in-Done.is (sym c.next.ensures.answer ∙ c.in-None.is) c.next.new.self c.next.ensures.plan c.begin.new.self (begun_as g.P.Call.Machine.control g.P.Plan.plan.steered (g.S.Site.may s) (g.S.Site.made s) (g.S.Site.seen s) c.begin.new.self c.next.new.self c.begin.ensures.plan c.begin.ensures.call)

pub calls-smaller : goal.calls-smaller
calls-smaller g c =
    let s = c.args.site.now in
    let l = c.calls in
    spends g.P.Call.Machine.control g.P.Plan.plan.steered (g.S.Site.may s) (g.S.Site.made s) (g.S.Site.seen s) l.life.left l.self.plan l.self.call l.words c.run.new.life.left c.run.new.self c.run.new.words c.run.result c.in-Done.answer c.run.ensures c.in-Done.is

pub returns-in-Some : goal.returns-in-Some
returns-in-Some g c =
    let s = c.args.site.now in
    let l = c.calls in
    is_over g.P.Call.Machine.control g.P.Plan.plan.steered (g.S.Site.may s) (g.S.Site.made s) (g.S.Site.seen s) c.args.life.now.left c.args.self.now c.args.words.now l.life.left l.self l.words l.invariant
    c.run.new.life.left c.run.new.self c.run.new.words c.run.result c.in-Done.answer c.run.ensures c.in-Done.is c.in-Some.answer (sym c.next.ensures.answer ∙ c.in-Some.is) c.next.new.self c.next.ensures.plan

pub returns-in-More : goal.returns-in-More
returns-in-More g c =
    let s = c.args.site.now in
    let l = c.calls in
    absurd (tells_end g.P.Call.Machine.control g.P.Plan.plan.steered (g.S.Site.may s) (g.S.Site.made s) (g.S.Site.seen s) l.life.left l.self.plan l.self.call l.words c.run.new.life.left c.run.new.self c.run.new.words c.run.result c.run.ensures c.in-More.is)

pub returns-in-Died : goal.returns-in-Died
returns-in-Died g c =
    let s = c.args.site.now in
    let l = c.calls in
    is_cut g.P.Call.Machine.control g.P.Plan.plan.steered (g.S.Site.may s) (g.S.Site.made s) (g.S.Site.seen s) c.args.life.now.left c.args.self.now c.args.words.now l.life.left l.self l.words l.invariant
    c.run.new.life.left c.run.new.self c.run.new.words c.run.result c.run.ensures c.in-Died.is
