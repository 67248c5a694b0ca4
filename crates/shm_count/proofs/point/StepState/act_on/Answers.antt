use Rattle.std.proofs.Common.{sym, ap, ◌∙◌, subst}
use Rattle.shm_count.specs.declared.point.{StepState.StepState, StepNext.StepNext}
use Rattle.shm_count.specs.{Step.Control.{StepInRange, point_of}, Proved.Step.Ranges.knows_next}
use Rattle.shm_count.proofs.point.StepState.act_on.Goals as goal

pub returns-clause-knows : goal.returns-clause-knows
returns-clause-knows g c =
    let m : StepState = c.args.self.now in
    subst StepInRange (sym (c.go_on.ensures.state ∙ ap (λ (z : StepNext). record m { point = point_of z }) c.act-next.ensures.next)) (knows_next m _ c.requires.range)
