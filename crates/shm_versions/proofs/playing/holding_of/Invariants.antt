use Rattle.std.proofs.Common.{◌≡◌, ℕ, ◌<◌, List, get_or, length}
use Rattle.shm_tree.specs.{Forests.{HasVersions, version}, Trees.{Tree, size}}
use Rattle.shm_versions.proofs.playing.holding_of.Given as goal

abbrev pub invariant-loop-at : goal.invariant-loop-at
invariant-loop-at l = record {
  long : length l.sizes ≡ 12;
  each : (ts : List Tree) → HasVersions l.forest.registers ts → (k : ℕ) → k < l.at → get_or l.sizes k 0 ≡ size (version ts k);
}
