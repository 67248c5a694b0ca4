-- count steps, tear-downs and blocks that the call made: what stays of them, and that the count of one that is to be raised isn't full: what is proved of it
use Rattle.std.proofs.Common.{refl, sym, Bool, []}
use Rattle.plans.specs.{MadeStays.making_laws, Parts.PartLaws}
use Rattle.shm_count.specs.{Tear.{Control.tear_control, Events.tear_start}, CountParts.tear_part}
use Rattle.shm_count.specs.{Proved.CountParts.tear_part_laws, MadeSteps.tear_making}

-- ---- what stays of the blocks that the call made

pub tear_making_laws : (first : Bool) → PartLaws first tear_control (tear_making first)
tear_making_laws first = making_laws tear_start first tear_control tear_part (λ m n. refl) (λ m r n. sym n.made) (tear_part_laws first)
