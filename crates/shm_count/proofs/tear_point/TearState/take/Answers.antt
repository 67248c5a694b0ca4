use Rattle.std.proofs.Common.{sym, ap, ◌∙◌, subst}
use Rattle.shm_count.specs.declared.tear_point.{TearState.TearState, TearNext.TearNext}
use Rattle.shm_count.specs.{Tear.Control.{TearInRange, block_of, point_of}, Proved.Tear.Ranges.knows_after}
use Rattle.shm_count.proofs.tear_point.TearState.take.Goals as goal

pub returns-clause-knows : goal.returns-clause-knows
returns-clause-knows c =
    let m : TearState = c.args.self.now in
    subst TearInRange (sym (c.go_on.ensures.state ∙ ap (λ (z : TearNext). record m { block = block_of m.block z; point = point_of z }) c.next-next.ensures)) (knows_after m _ c.requires)
