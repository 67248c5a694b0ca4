use Rattle.std.proofs.Common.{ℕ, ◌<◌, ◌≤◌, ◌≡◌, ◌+◌, ◌*◌}
use Rattle.shm_tree.specs.{Standing.{TreeStands, weight}, Trees.Tree, Ways.{IsOther, down}, Working.IsReached}
use Rattle.shm_tree.proofs.{Building.Looked, Ways.height_at}
use Rattle.shm_tree.proofs.find.find.Given as goal

abbrev pub invariant-loop-node : goal.invariant-loop-node
invariant-loop-node l = record {
  passed : Looked l.fn.pool l.pool l.fn.life.left l.life.left;
  steps : l.fn.life.left ≡ l.life.left + 5 * l.depth;
  reached : IsReached l.pool l.node;
  stands : (t : Tree) → TreeStands l.fn.pool l.tree t → TreeStands l.pool l.node (down l.wanted t l.depth);
  light : (f : ℕ → ℕ) (t : Tree) → TreeStands l.fn.pool l.tree t → weight f l.pool l.node (down l.wanted t l.depth) ≤ weight f l.fn.pool l.tree t;
  on : (t : Tree) → TreeStands l.fn.pool l.tree t → (i : ℕ) → i < l.depth → IsOther l.wanted (down l.wanted t i);
}

abbrev pub decreases-loop-node : goal.decreases-loop-node
decreases-loop-node l = height_at l.pool l.node
