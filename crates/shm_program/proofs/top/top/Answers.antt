use Rattle.std.proofs.Common.{refl}
use Rattle.shm_program.proofs.CallEnds.{replying, unreading}
use Rattle.shm_program.proofs.top.top.Goals as goal

-- the bytes of the trace were read
pub returns-in-Ok-read_input : goal.returns-in-Ok-read_input
returns-in-Ok-read_input g c =
    replying _ _ _ _ _ c.in-Err.job c.in-Ok-read_input.bytes.items c.as_slice.result.now c.answer_waiting.result c.in-Err.ensures.job (rw c.in-Err.ensures.unread at c.in-Ok-read_input.ensures.read)
    c.as_slice.ensures.value c.answer_waiting.ensures c.reply.ensures.finished (rw c.in-Err.ensures.unwritten at c.reply.ensures.written) (rw c.in-Err.ensures.unwritten at c.reply.ensures.wanting)

-- they weren't
pub returns-in-Err-read_input : goal.returns-in-Err-read_input
returns-in-Err-read_input g c =
    unreading _ _ _ _ _ c.in-Err.job c.in-Err-read_input.status c.in-Err.ensures.job (rw c.in-Err.ensures.unread at c.in-Err-read_input.ensures.unread) c.stopped.ensures.status
    (rw c.in-Err.ensures.unwritten refl) (rw c.in-Err.ensures.unwritten refl) c.stopped.ensures.finished
