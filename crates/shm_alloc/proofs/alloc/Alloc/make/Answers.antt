use Rattle.std.proofs.Common.{sym, subst}
use Rattle.shm_alloc.specs.declared.point.{AllocNext.AllocNext, AllocState.AllocState}
use Rattle.shm_alloc.specs.{Alloc.Control.{PointFits, point_of}, Proved.Alloc.Ranges.knows_next}
use Rattle.shm_alloc.proofs.alloc.Alloc.make.Goals as goal

pub go_on-requires : goal.go_on-requires
go_on-requires g c =
    let a : AllocState = c.self.inside.state in
    subst (λ (m : AllocState). PointFits m.me m.request (point_of c.make-next.result)) c.self.view_is
    (subst (λ (z : AllocNext). PointFits a.me a.request (point_of z)) (sym c.make-next.ensures.next) (knows_next a _ c.self.invariant.0))
