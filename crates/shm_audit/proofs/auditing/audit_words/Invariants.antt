use Rattle.std.proofs.Common.{◌+◌, ◌*◌}
use Rattle.shm_words.specs.Layout.{bodies}
use Rattle.shm_audit.specs.{Images.numbers, Streams.Seen}
use Rattle.shm_audit.proofs.auditing.audit_words.Given as goal

abbrev pub invariant-loop-number : goal.invariant-loop-number
invariant-loop-number l = Seen l.geometry (numbers l.words) (bodies l.geometry + 2048 * l.number) l.auditor
