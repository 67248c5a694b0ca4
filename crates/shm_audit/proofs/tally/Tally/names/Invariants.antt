use Rattle.std.proofs.Common.{ℕ, ◌+◌, ◌<◌, ◌≤◌, List, get_or, length}
use Rattle.shm_words.specs.{declared.geometry.Geometry.Geometry, Layout.{GeometryFits, total_of}}
use Rattle.shm_audit.specs.{Images.numbers, Tallies.{AreFrom, IsNaming, Tallied}}
use Rattle.shm_audit.proofs.tally.Tally.names.Given as goal

abbrev pub invariant-loop-k : goal.invariant-loop-k
invariant-loop-k l =
    (g : Geometry) (ws : List ℕ) → GeometryFits g → l.first + l.to ≤ total_of g → AreFrom ws l.first (numbers l.words) → l.to ≤ length l.words
    → ((a : ℕ) → l.first + l.from ≤ a → a < l.first + l.to → IsNaming g ws a (get_or ws a 0)) → Tallied g ws (l.first + l.from) l.initial.self → Tallied g ws (l.first + l.k) l.self
