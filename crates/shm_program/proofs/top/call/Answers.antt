use Rattle.std.proofs.Common.{◌∙◌, ◌≡◌, map, refl, sym}
use Rattle.std.specs.{Prelude.Some, String.string_bytes}
use Rattle.shm_program.specs.Words.{job_of}
use Rattle.shm_program.proofs.CallEnds.{replying, unreading}
use Rattle.shm_program.proofs.top.call.Goals as goal

-- the bytes were read
pub returns-in-Ok : goal.returns-in-Ok
returns-in-Ok g c =
    let asked : job_of (map string_bytes c.args.words.now) ≡ Some c.in-Ok-Some.job = sym c.in-Ok-Some.ensures-1.job ∙ c.in-Ok-Some.field-0-is in
    let read = c.in-Ok.ensures.read in
    record {
      done = replying _ _ _ _ _ c.in-Ok-Some.job read.0 read.0 c.in-Ok.answered asked read.1 refl read.2 c.reply.ensures.finished c.reply.ensures.written c.reply.ensures.wanting;
      job = tt;
      fits = tt;
      waits = tt;
      unread = tt;
      unwritten = tt;
    }

-- they weren't
pub returns-in-Err-answer_input : goal.returns-in-Err-answer_input
returns-in-Err-answer_input g c =
    let asked : job_of (map string_bytes c.args.words.now) ≡ Some c.in-Ok-Some.job = sym c.in-Ok-Some.ensures-1.job ∙ c.in-Ok-Some.field-0-is in
    record {
      done = unreading _ _ _ _ _ c.in-Ok-Some.job c.in-Err-answer_input.status asked c.in-Err-answer_input.ensures.unread c.stopped-in-Err-answer_input.ensures.status refl refl c.stopped-in-Err-answer_input.ensures.finished;
      job = tt;
      fits = tt;
      waits = tt;
      unread = tt;
      unwritten = tt;
    }
