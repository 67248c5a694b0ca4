-- which images are migrated, and what becomes of them
use Rattle.std.specs.Prelude.{◌≡◌, ℕ, Bool, true, false, List, ◌++◌, codes, Option, Some, None}
use Rattle.shm_graph.specs.Spots.{see}
use Rattle.shm_audit.specs.declared.{fault.ImageFault.ImageFault, verdict.Verdict.{Verdict, TheVariants.Clean}}
use Rattle.shm_audit.specs.{Images.{image_of, geometry_in, words_in}, Faults.image_fault_of, Verdicts.verdict_of}
use Rattle.shm_audit.specs.Texts.{line_end, image_fault_line, verdict_line}
use Rattle.shm_migrate.specs.declared.stop.MigrateStop.{MigrateStop, TheVariants.{Memory, Fault, Already, NotClean}}
use Rattle.shm_migrate.specs.Widened.{wide_of, widened}

-- the verdict on the sizes and words that are read in an image
abbrev pub verdict_in : List ℕ → Verdict
verdict_in image = verdict_of (geometry_in image) (see (geometry_in image) (words_in image))

-- a pool is migrated where the verdict on it is that it is clean
abbrev pub unclean : Verdict → Option MigrateStop
unclean (Clean live refs) = None
unclean verdict = Some (NotClean verdict)

-- what stands against a migration, by the fault, the format and the verdict: the first of these that does
abbrev pub refusal : Option ImageFault → Bool → Verdict → Option MigrateStop
refusal (Some fault) wide verdict = Some (Fault fault)
refusal None true verdict = Some Already
refusal None false verdict = unclean verdict

-- what stands against the migration of an image, if anything does
abbrev pub refusal_of : List ℕ → Option MigrateStop
refusal_of image = refusal (image_fault_of image) (geometry_in image).wide (verdict_in image)

-- the image of the widened words
abbrev pub migrated : List ℕ → List ℕ
migrated image = image_of (wide_of (geometry_in image)) (widened (geometry_in image) (words_in image))

-- a migration stops for want of memory, or by what stands against it
abbrev pub StopsBy : Option MigrateStop → MigrateStop → Type 0
StopsBy refused (Memory e) = Unit {0}
StopsBy refused stop = refused ≡ Some stop

-- the line of a fault; `refused format 2`; `refused` before the line of a verdict; want of memory has no line
abbrev pub stop_line : MigrateStop → List ℕ
stop_line (Memory e) = codes ""
stop_line (Fault fault) = image_fault_line fault
stop_line Already = codes "refused format 2" ++ line_end
stop_line (NotClean verdict) = codes "refused " ++ verdict_line verdict
