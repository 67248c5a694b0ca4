-- an allocation as an operation: when it may begin between two calls
use Rattle.std.proofs.Common.{◌≡◌, sym, ap, subst}
use Rattle.shm_graph.specs.{declared.memo.Memo.Memo, Operations.{IsReady, OperationLaws}}
use Rattle.shm_alloc.specs.declared.point.{AllocPoint.{AllocPoint, TheVariants.Era}, AllocState.AllocState}
use Rattle.shm_alloc.specs.Alloc.AsPart.{AllocLeaves}
use Rattle.shm_alloc.specs.Alloc.Control.{AllocInRange, PointFits, RequestFits, alloc_control, is_first, is_over}
use Rattle.shm_alloc.specs.{Alloc.{Events.alloc_event, AllocFits, AllocGives}, Proved.Alloc.AsPart.alloc_left}
use Rattle.shm_alloc.specs.Proved.Alloc.{Going.begins, Tells.alloc_tells}

-- a block of at most 16 reference words and 8 plain words may be asked for
abbrev pub AllocMay : AllocState → Memo → Type 0
AllocMay m r = (m.point ≡ Era) × RequestFits m.request

in_range : (m : AllocState) (r : Memo) → IsReady m.me r → AllocMay m r → AllocInRange m
in_range m r ready (made, fits) = record { geometry = ready.geometry; who = ready.who; request = fits; point = subst (λ (p : AllocPoint). PointFits m.me m.request p) (sym made) tt }

pub alloc_operation : OperationLaws alloc_control AllocFits AllocGives AllocMay alloc_event AllocLeaves (λ m a. Unit {0})
alloc_operation =
    record {
      tells = alloc_tells;
      fresh = λ m r h. ap is_first h.0;
      asks = λ m r h. ap is_over h.0;
      begins = λ m r ready h. begins m r h.0 (in_range m r ready h) (record { geometry = ready.geometry; who = ready.who; idle = ready.idle });
      leads = λ m r0 r tr a ready h g. alloc_left m r0 r tr a h.0 g;
      rests = λ m r0 r tr es a ready h l e. l.holds.idle;
    }
