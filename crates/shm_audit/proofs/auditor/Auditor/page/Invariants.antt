use Rattle.std.proofs.Common.{◌≡◌, ℕ, ◌+◌, ◌-◌, ◌%◌, ◌≤◌, List}
use Rattle.shm_audit.specs.{Images.numbers, Streams.{HasPage, Seen}, Tallies.AreFrom}
use Rattle.shm_audit.proofs.auditor.Auditor.page.Given as goal

abbrev pub invariant-loop-k : goal.invariant-loop-k
invariant-loop-k l =
    record {
      start : l.from ≤ l.k;
      end : l.k ≤ l.from + 128;
      block : (l.k - l.from) % l.class ≡ 0;
      seen : (ws : List ℕ) → AreFrom ws l.first (numbers l.words) → HasPage l.geometry ws (l.first + l.from) l.word → Seen l.geometry ws (l.first + l.from) l.initial.self → Seen l.geometry ws (l.first + l.k) l.self;
    }

abbrev pub decreases-loop-k : goal.decreases-loop-k
decreases-loop-k l = l.from + 128 - l.k
