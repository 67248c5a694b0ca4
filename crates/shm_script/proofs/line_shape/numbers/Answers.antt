use Rattle.shm_script.specs.{Pieces.pieces_left, Shapes.numbers_of}
use Rattle.shm_script.proofs.ManyWords.{numbers_go_on, numbers_fail, numbers_end}
use Rattle.shm_script.proofs.line_shape.numbers.Goals as goal

pub returns-in_default-number : goal.returns-in_default-number
returns-in_default-number c = numbers_fail c.loop-word.numbers.items (pieces_left 32 c.loop-word.rest) c.in-Some.word.now (pieces_left 32 c.in-Some.after) (numbers_of (pieces_left 32 c.args.words)) c.in-Some.ensures.pieces c.in_default-number.ensures c.loop-word.invariant

pub loop-word-preserved : goal.loop-word-preserved
loop-word-preserved c = rw c.in_ok-push.ensures.items (numbers_go_on c.loop-word.numbers.items (pieces_left 32 c.loop-word.rest) c.in-Some.word.now c.in-Some-number.next (pieces_left 32 c.in-Some.after) (numbers_of (pieces_left 32 c.args.words)) c.in-Some.ensures.pieces c.in-Some-number.ensures c.loop-word.invariant)

pub returns : goal.returns
returns c = numbers_end c.loop-word.numbers.items (pieces_left 32 c.loop-word.rest) (numbers_of (pieces_left 32 c.args.words)) c.in_default.ensures.pieces c.loop-word.invariant
