use Rattle.std.proofs.Common.{◌≡◌}
use Rattle.shm_script.specs.{Pieces.{pieces_left, room_left}, Shapes.numbers_of}
use Rattle.shm_script.proofs.ManyWords.{with_front}
use Rattle.shm_script.proofs.line_shape.numbers.Given as goal

abbrev pub invariant-loop-word : goal.invariant-loop-word
invariant-loop-word l = with_front l.numbers.items (numbers_of (pieces_left 32 l.rest)) ≡ numbers_of (pieces_left 32 l.words)

abbrev pub decreases-loop-word : goal.decreases-loop-word
decreases-loop-word l = room_left l.rest
