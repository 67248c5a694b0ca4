use Rattle.std.proofs.Common.{ℕ, ◌≤◌, ◌≡◌, ◌+◌, ◌*◌}
use Rattle.shm_tree.specs.{Standing.{TreeStands, weight}, Trees.Tree, Ways.down, Working.IsReached}
use Rattle.shm_tree.proofs.Building.{Looked}
use Rattle.shm_tree.proofs.find.above.Given as goal

abbrev pub invariant-loop-level : goal.invariant-loop-level
invariant-loop-level l = record {
  passed : Looked l.fn.pool l.pool l.fn.life.left l.life.left;
  steps : l.fn.life.left ≡ l.life.left + 5 * l._level;
  reached : IsReached l.pool l.node;
  stands : (t : Tree) → TreeStands l.fn.pool l.tree t → TreeStands l.pool l.node (down l.wanted t l._level);
  light : (f : ℕ → ℕ) (t : Tree) → TreeStands l.fn.pool l.tree t → weight f l.pool l.node (down l.wanted t l._level) ≤ weight f l.fn.pool l.tree t;
}
