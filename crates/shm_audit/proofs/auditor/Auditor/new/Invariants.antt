use Rattle.std.proofs.Common.{ℕ, List}
use Rattle.shm_audit.specs.{Images.numbers, Tallies.{AreFrom, Tallied}}
use Rattle.shm_audit.proofs.auditor.Auditor.new.Given as goal

abbrev pub invariant-loop-at : goal.invariant-loop-at
invariant-loop-at l = (ws : List ℕ) → AreFrom ws 0 (numbers l.front) → Tallied l.geometry ws l.at l.tally
