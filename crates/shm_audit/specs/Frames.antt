-- what the first 24 bytes of an image say of all of it
use Rattle.std.specs.Prelude.{◌≡◌, ◌≢◌, List, ℕ, length, Some, None}
use Rattle.shm_words.specs.declared.geometry.Geometry.{Geometry}
use Rattle.shm_audit.specs.{Faults.{frame_fault_of, image_len}, Images.geometry_in}
use Rattle.shm_audit.specs.declared.fault.ImageFault.TheVariants as fault

-- the image announces these sizes: if it is as long as they say nothing is at fault before its words, and otherwise its length is
pub record Announces (g : Geometry) (image : List ℕ) : Type 0 where
  pub sizes : geometry_in image ≡ g
  pub whole : length image ≡ image_len g → frame_fault_of image ≡ None
  pub other : length image ≢ image_len g → frame_fault_of image ≡ Some (fault.Length (length image) (image_len g))
