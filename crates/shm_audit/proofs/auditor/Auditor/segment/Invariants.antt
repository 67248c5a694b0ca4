use Rattle.std.proofs.Common.{ℕ, ◌+◌, ◌*◌, List}
use Rattle.shm_words.specs.Layout.{bodies}
use Rattle.shm_audit.specs.{Images.numbers, Streams.Seen, Tallies.AreFrom}
use Rattle.shm_audit.proofs.auditor.Auditor.segment.Given as goal

abbrev pub invariant-loop-p : goal.invariant-loop-p
invariant-loop-p l =
    (ws : List ℕ) → AreFrom ws 0 (numbers l.front) → AreFrom ws (bodies l.geometry + 2048 * l.number) (numbers l.words) → Seen l.geometry ws (bodies l.geometry + 2048 * l.number) l.initial.self
    → Seen l.geometry ws (bodies l.geometry + 2048 * l.number + 128 * l.p) l.self
