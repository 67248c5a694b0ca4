-- a step down that is refused for want of eras makes one word step
use Rattle.std.proofs.Common.{Bool, true}
use Rattle.std.specs.Prelude.{Result}
use Rattle.shm_graph.specs.declared.spot.Spot.{Spot}
use Rattle.plans.specs.Parts.{Part}
use Rattle.shm_count.specs.declared.{answer.EraSpent.EraSpent as ASpent, point.StepState.StepState}
use Rattle.shm_count.specs.{Slots.Parts.down_slot_part, Step.{Machines.down_told, Asks.step_trail}}

-- ---- the part

-- a step down at a first slot, that leaves its trail too
abbrev pub lower_part : Spot → Part StepState (Result Bool ASpent)
lower_part p =
    let part = down_slot_part p true in
    record { fits = part.fits; gives = part.gives; does = part.does; needs = part.needs; leaves = λ m rs r t es a. part.leaves m rs r t es a × step_trail m.me m.slot m.aim t (down_told a); asks = part.asks }
