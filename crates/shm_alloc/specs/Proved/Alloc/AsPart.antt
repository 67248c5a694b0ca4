-- an allocation as a part of larger machines: what is proved of it
use Rattle.std.proofs.Common.{◌≡◌, Bool, refl, sym, ap, ◌∙◌}
use Rattle.std.specs.Prelude.{Result}
use Rattle.shm_graph.specs.{declared.memo.Memo.Memo, Asks.Trail, Tells.happens_along}
use Rattle.plans.specs.{MadeStays.making_laws, Parts.PartLaws, Proved.Placed.placed}
use Rattle.shm_count.specs.declared.answer.Made.{Made}
use Rattle.shm_alloc.specs.declared.{alloc.AllocFault.AllocFault, point.AllocPoint.{AllocPoint, TheVariants.Era}}
use Rattle.shm_alloc.specs.{declared.point.AllocState.AllocState, Alloc.Control.alloc_control}
use Rattle.shm_alloc.specs.Alloc.{Events.{alloc_event, alloc_start}, AllocFits, AllocGives}
use Rattle.shm_alloc.specs.{Alloc.AsPart.{AllocLeaves, alloc_part, alloc_making}, Proved.Alloc.Going.begins}
use Rattle.shm_alloc.specs.Proved.Alloc.{Laws.alloc_laws, Tells.alloc_tells}

-- what it gives speaks of the events that it tells of
pub alloc_left : (m : AllocState) (rs r : Memo) (t : Trail) (a : Result Made AllocFault) → m.point ≡ Era → AllocGives m rs r t a → AllocLeaves m rs r t (happens_along alloc_control alloc_event m t) a
alloc_left m rs r t a made g =
    record {
      holds = g.holds;
      grows = g.grows;
      events = ap (λ (y : AllocPoint). happens_along alloc_control alloc_event (record m { point = y }) t) made ∙ g.events;
      trail = g.trail;
    }

pub alloc_part_laws : (first : Bool) → PartLaws first alloc_control alloc_part
alloc_part_laws first =
    record {
      placed = placed first alloc_control AllocFits AllocGives alloc_laws;
      tells = alloc_tells;
      begins = λ m r n. begins m r n.made n.knows n.can;
      ends = λ m rs r t a n g held same. alloc_left m rs r t a n.made g;
      asked = λ m rs r t a n g. g.trail;
    }

pub alloc_making_laws : (first : Bool) → PartLaws first alloc_control (alloc_making first)
alloc_making_laws first = making_laws alloc_start first alloc_control alloc_part (λ m n. refl) (λ m r n. ap (λ (y : AllocPoint). record m { point = y }) (sym n.made)) (alloc_part_laws first)
