-- why an audit stops
use Rattle.std.specs.Prelude.{◌≡◌, Option, Some}
use Rattle.shm_audit.specs.declared.{fault.ImageFault.ImageFault, stop.AuditStop.AuditStop}
use Rattle.shm_audit.specs.declared.stop.AuditStop.TheVariants.{Memory, Fault}

-- an audit stops for want of memory, or by the fault that there is
abbrev pub StopsBy : Option ImageFault → AuditStop → Type 0
StopsBy fault (Memory e) = Unit {0}
StopsBy fault (Fault f) = fault ≡ Some f
