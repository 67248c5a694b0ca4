use Rattle.std.proofs.Common.{drop, inr, map, sym}
use Rattle.std.specs.{IoError.error_kind, String.string_bytes, Vec.Iter.into_iter_items}
use Rattle.shm_program.proofs.CallEnds.{read_ends, unread_ends}
use Rattle.shm_program.proofs.command.run.Goals as goal

-- all words are read
pub returns-clause-words : goal.returns-clause-words
returns-clause-words g c =
    read_ends c.args.args string_bytes (λ all. drop 1 (into_iter_items all)) c.in-Ok.words.items _ _ _ c.in-Ok.ensures.words
    (rw c.exit_code-2.ensures (rw (sym c.as_slice.ensures.value) (inr (c.top.result.finished, c.top.ensures))))

-- one of all words can't be read, and those of the call are none
pub returns-clause-unread : goal.returns-clause-unread
returns-clause-unread g c =
    unread_ends c.args.args error_kind (map string_bytes c.in-Ok.words.items) _ _ _ c.in-Ok.ensures.unread c.in-Ok.ensures.memory
    (rw c.exit_code-2.ensures (rw (sym c.as_slice.ensures.value) (inr (c.top.result.finished, c.top.ensures))))
