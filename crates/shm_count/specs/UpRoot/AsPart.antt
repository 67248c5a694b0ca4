-- an up at the least empty root as a part of larger machines
use Rattle.std.proofs.Common.{ℕ}
use Rattle.std.specs.Prelude.{Result}
use Rattle.shm_graph.specs.Laws.{Control}
use Rattle.plans.specs.{declared.calls.Calls.Calls, CallsControl.calls_control, CallsPart.calls_part, Parts.Part}
use Rattle.shm_count.specs.declared.{answer.ShareFault.ShareFault, up_root.RootingState.RootingState}
use Rattle.shm_count.specs.UpRoot.{Control.{RootingCall, rooting_parts, rooting_steered}, rooting_plan}

-- its states, and its control
abbrev pub RootingCalls : Type 0
RootingCalls = Calls RootingState RootingCall

abbrev pub up_root : Control RootingCalls (Result ℕ ShareFault)
up_root = calls_control rooting_parts rooting_steered

-- the part, whose laws stand in proofs/UpRootPart.antt; what it leaves is UpRootLeaves
abbrev pub up_root_part : Part RootingCalls (Result ℕ ShareFault)
up_root_part = calls_part rooting_parts rooting_plan
