use Rattle.std.proofs.Common.{◌≡◌, ◌+◌, ◌*◌, ℕ, List, length}
use Rattle.shm_words.specs.Layout.{bodies}
use Rattle.shm_audit.specs.{Images.{numbers, numbers_in}, Streams.Seen, Tallies.AreFrom}
use Rattle.shm_io.specs.Reading.{TakesFront}
use Rattle.shm_stream.proofs.auditing.read_segments.Given as goal

abbrev pub invariant-loop-number : goal.invariant-loop-number
invariant-loop-number g l =
    record {
      size : length l.segment ≡ 16384;
      count : l.read ≡ 16384 * l.number;
      read : (bytes : List ℕ) × (length bytes ≡ l.read) × TakesFront (g.S.Source.left l.initial.source) (g.S.Source.left l.source) (16384 * l.number) bytes
          × ((ws : List ℕ) → AreFrom ws 0 (numbers l.front) → AreFrom ws (bodies l.geometry) (numbers_in bytes) → Seen l.geometry ws (bodies l.geometry) l.initial.auditor → Seen l.geometry ws (bodies l.geometry + 2048 * l.number) l.auditor);
      faults : g.S.Source.faults l.source ≡ g.S.Source.faults l.initial.source;
    }
