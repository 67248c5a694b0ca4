-- the laws of an up at the least empty root as a part
use Rattle.std.specs.Prelude.{Bool}
use Rattle.plans.specs.{CallsPart.calls_part_laws, Parts.PartLaws}
use Rattle.shm_count.specs.UpRoot.{Control.rooting_parts, rooting_plan, AsPart.{up_root, up_root_part}}
use Rattle.shm_count.specs.Proved.UpRoot.Laws.{rooting_laws}

pub up_root_laws : (first : Bool) → PartLaws first up_root up_root_part
up_root_laws first = calls_part_laws rooting_parts rooting_plan rooting_laws first
