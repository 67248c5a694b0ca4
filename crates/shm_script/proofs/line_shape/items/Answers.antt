use Rattle.shm_script.specs.{Pieces.pieces_left, Shapes.items_of}
use Rattle.shm_script.proofs.ManyWords.{items_go_on, items_fail, items_end}
use Rattle.shm_script.proofs.line_shape.items.Goals as goal

pub returns-in_default-item : goal.returns-in_default-item
returns-in_default-item c = items_fail c.loop-word.items.items (pieces_left 32 c.loop-word.rest) c.in-Some.word.now (pieces_left 32 c.in-Some.after) (items_of (pieces_left 32 c.args.words)) c.in-Some.ensures.pieces c.in_default-item.ensures c.loop-word.invariant

pub loop-word-preserved : goal.loop-word-preserved
loop-word-preserved c = rw c.in_ok-push.ensures.items (items_go_on c.loop-word.items.items (pieces_left 32 c.loop-word.rest) c.in-Some.word.now c.in-Some-item.next (pieces_left 32 c.in-Some.after) (items_of (pieces_left 32 c.args.words)) c.in-Some.ensures.pieces c.in-Some-item.ensures c.loop-word.invariant)

pub returns : goal.returns
returns c = items_end c.loop-word.items.items (pieces_left 32 c.loop-word.rest) (items_of (pieces_left 32 c.args.words)) c.in_default.ensures.pieces c.loop-word.invariant
