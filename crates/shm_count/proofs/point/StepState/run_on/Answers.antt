use Rattle.std.proofs.Common.{◌≡◌, suc, ◌-◌, sym, ap, ◌∙◌, subst, arith}
use Rattle.shm_graph.proofs.Machines.ManySteps.{answered_so, begun, next_may, none_left, one_more}
use Rattle.shm_count.specs.declared.point.{StepState.StepState, StepNext.StepNext}
use Rattle.shm_count.specs.{Step.Control.{StepInRange, answer_of, point_of, step_control}, Proved.Step.Ranges.knows_next}
use Rattle.shm_count.proofs.point.StepState.run_on.Goals as goal

pub steps-init : goal.steps-init
steps-init g c = (c.requires.range, begun step_control (g.S.Site.may c.args.site.now) (g.S.Site.made c.args.site.now) (g.S.Site.seen c.args.site.now) c.args.life.now.left c.args.self.now c.args.words.now c.requires.may)

pub act-next-requires-clause-range : goal.act-next-requires-clause-range
act-next-requires-clause-range g c = c.steps.invariant.0

pub act-next-requires-clause-may : goal.act-next-requires-clause-may
act-next-requires-clause-may g c =
    let l = c.steps in
    let e : l.life.left ≡ suc (l.life.left - 1) = omega arith in
    (next_may step_control (g.S.Site.may c.args.site.now) (g.S.Site.made c.args.site.now) (g.S.Site.seen c.args.site.now) c.args.life.now.left c.args.self.now c.args.words.now l.life.left (l.life.left - 1) l.self l.words l.invariant.1 e).1

pub steps-preserved : goal.steps-preserved
steps-preserved g c =
    let l = c.steps in
    let m : StepState = l.self in
    let e : l.life.left ≡ suc (l.life.left - 1) = omega arith in
    let moved = c.go_on.ensures.state ∙ ap (λ (z : StepNext). record m { point = point_of z }) c.act-next.ensures.next in (
      subst StepInRange (sym moved) (knows_next m _ l.invariant.0),
      one_more step_control (g.S.Site.may c.args.site.now) (g.S.Site.made c.args.site.now) (g.S.Site.seen c.args.site.now) c.args.life.now.left c.args.self.now c.args.words.now l.life.left (l.life.left - 1) m l.words l.invariant.1 e
          c.act-next.new.words c.act-next.ensures.made c.go_on.new.self moved (sym (c.go_on.ensures.answer ∙ ap answer_of c.act-next.ensures.next) ∙ c.in_default.is),
    )

pub returns-in-Some-clause-ran : goal.returns-in-Some-clause-ran
returns-in-Some-clause-ran g c =
    let l = c.steps in
    let m : StepState = l.self in
    let e : l.life.left ≡ suc (l.life.left - 1) = omega arith in
    let moved = c.go_on.ensures.state ∙ ap (λ (z : StepNext). record m { point = point_of z }) c.act-next.ensures.next in
    answered_so step_control (g.S.Site.may c.args.site.now) (g.S.Site.made c.args.site.now) (g.S.Site.seen c.args.site.now) c.args.life.now.left c.args.self.now c.args.words.now l.life.left (l.life.left - 1) m l.words l.invariant.1 e
    c.act-next.new.words c.act-next.ensures.made c.go_on.new.self moved c.in-Some.answer (sym (c.go_on.ensures.answer ∙ ap answer_of c.act-next.ensures.next) ∙ c.in-Some.is)

pub returns-in-Some-clause-knows : goal.returns-in-Some-clause-knows
returns-in-Some-clause-knows g c =
    let m : StepState = c.steps.self in
    subst StepInRange (sym (c.go_on.ensures.state ∙ ap (λ (z : StepNext). record m { point = point_of z }) c.act-next.ensures.next)) (knows_next m _ c.steps.invariant.0)

pub returns-then-life-eq0-clause-ran : goal.returns-then-life-eq0-clause-ran
returns-then-life-eq0-clause-ran g c =
    let l = c.steps in
    let e : l.life.left ≡ 0 = omega arith in
    none_left step_control (g.S.Site.may c.args.site.now) (g.S.Site.made c.args.site.now) (g.S.Site.seen c.args.site.now) c.args.life.now.left c.args.self.now c.args.words.now l.life.left l.self l.words l.invariant.1 e
