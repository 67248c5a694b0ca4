-- what is answered to an image that was read as a stream
use Rattle.std.specs.Prelude.{◌≡◌, ℕ, ◌+◌, List, length, None, Some, Result, Ok, Err}
use Rattle.shm_words.specs.declared.geometry.Geometry.{Geometry}
use Rattle.shm_graph.specs.Spots.{see}
use Rattle.shm_audit.specs.{declared.{fault.ImageFault.ImageFault, verdict.Verdict.Verdict}, Faults.image_fault_of}
use Rattle.shm_audit.specs.{Frames.Announces, Images.{geometry_in, numbers_in, words_in}, Verdicts.verdict_of}

-- the verdict on the words of an image without a fault, or its first fault
abbrev pub IsJudged : List ℕ → Result Verdict ImageFault → Type 0
IsJudged image (Ok v) = (image_fault_of image ≡ None) × (v ≡ verdict_of (geometry_in image) (see (geometry_in image) (words_in image)))
IsJudged image (Err f) = image_fault_of image ≡ Some f

-- the same of each image that announces these sizes and has these bytes behind its first 24
abbrev pub JudgesRest : Geometry → List ℕ → Result Verdict ImageFault → Type 0
JudgesRest g rest judged = (image : List ℕ) → Announces g image → length image ≡ 24 + length rest → words_in image ≡ numbers_in rest → IsJudged image judged
