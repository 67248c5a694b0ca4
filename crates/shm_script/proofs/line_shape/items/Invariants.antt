use Rattle.std.proofs.Common.{◌≡◌}
use Rattle.shm_script.specs.{Pieces.{pieces_left, room_left}, Shapes.items_of}
use Rattle.shm_script.proofs.ManyWords.{with_front}
use Rattle.shm_script.proofs.line_shape.items.Given as goal

abbrev pub invariant-loop-word : goal.invariant-loop-word
invariant-loop-word l = with_front l.items.items (items_of (pieces_left 32 l.rest)) ≡ items_of (pieces_left 32 l.words)

abbrev pub decreases-loop-word : goal.decreases-loop-word
decreases-loop-word l = room_left l.rest
