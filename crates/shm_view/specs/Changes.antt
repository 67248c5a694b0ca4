-- two images, and why there is no picture of what changed from one to the other
use Rattle.std.specs.Prelude.{◌≡◌, ℕ, List, length, take, drop, min, Option, Some, None}
use Rattle.shm_audit.specs.{declared.fault.ImageFault.ImageFault, Faults.frame_fault_of}
use Rattle.shm_audit.specs.declared.fault.ImageFault.TheVariants as fault
use Rattle.shm_view.specs.declared.changes.ChangesStop.{ChangesStop, TheVariants.{Memory, Before, After}}

-- ---- two images, of which the second one stands behind the first one

-- how many of n bytes are the first one's, by what is at fault in all of them: as many as its sizes say, and all where these are at fault
abbrev pub length_by : ℕ → Option ImageFault → ℕ
length_by n None = n
length_by n (Some (fault.Length len want)) = min n want
length_by n (Some f) = n

abbrev pub first_length : List ℕ → ℕ
first_length images = length_by (length images) (frame_fault_of images)

-- each of them
abbrev pub first_of : List ℕ → List ℕ
first_of images = take (first_length images) images

abbrev pub second_of : List ℕ → List ℕ
second_of images = drop (first_length images) images

-- ---- no picture

-- for want of memory, or by the fault of the first image, or where that has none by the fault of the second one
abbrev pub StopsByOne : Option ImageFault → Option ImageFault → ChangesStop → Type 0
StopsByOne before after (Memory e) = Unit {0}
StopsByOne before after (Before f) = before ≡ Some f
StopsByOne before after (After f) = (before ≡ None) × (after ≡ Some f)
