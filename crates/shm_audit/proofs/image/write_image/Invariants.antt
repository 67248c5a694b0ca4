use Rattle.std.proofs.Common.{◌≡◌, ◌++◌, take}
use Rattle.std.specs.{List.flat_map, Int.{w64, to_le_bytes}}
use Rattle.shm_audit.proofs.image.write_image.Given as goal

abbrev pub invariant-loop-word : goal.invariant-loop-word
invariant-loop-word l = l.image.items ≡ l.initial.image.items ++ flat_map (to_le_bytes w64) (take l.word-index l.words)
