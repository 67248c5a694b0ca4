use Rattle.std.proofs.Common.{◌≡◌, ℕ, ◌<◌, List, false}
use Rattle.shm_graph.specs.Spots.{see}
use Rattle.shm_audit.specs.{Images.numbers, Tallies.AreFrom, Verdicts.is_pending}
use Rattle.shm_audit.proofs.checks.first_pending.Given as goal

abbrev pub invariant-loop-c : goal.invariant-loop-c
invariant-loop-c l = (ws : List ℕ) → AreFrom ws 0 (numbers l.front) → (a : ℕ) → a < l.c → is_pending (see l.geometry ws) a ≡ false
