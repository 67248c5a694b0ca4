use Rattle.std.proofs.Common.{◌≡◌, ℕ, suc, ◌+◌, ◌*◌, ◌-◌, ◌≤◌}
use Rattle.shm_tree.specs.{Standing.TreeStands, Trees.{Tree, IsSearch}, Ways.{IsDeep, IsEnd, down}, Working.IsReached}
use Rattle.shm_tree.proofs.{Building.Looked, Ways.height_at}
use Rattle.shm_tree.proofs.find.last.Given as goal

abbrev pub invariant-loop-next : goal.invariant-loop-next
invariant-loop-next l = record {
  passed : Looked l.fn.pool l.pool l.fn.life.left l.life.left;
  reached : IsReached l.pool l.lowest.node;
  next_reached : IsReached l.pool l.next;
  steps : l.fn.life.left ≡ l.life.left + 3 * (l.lowest.depth - l.fn.place.depth + 1);
  below : l.fn.place.depth ≤ l.lowest.depth;
  stands : (x : ℕ) (t : Tree) → TreeStands l.fn.pool l.fn.place.node t → IsSearch t → IsEnd x t → TreeStands l.pool l.lowest.node (down x t (l.lowest.depth - l.fn.place.depth));
  next : (x : ℕ) (t : Tree) → TreeStands l.fn.pool l.fn.place.node t → IsSearch t → IsEnd x t → TreeStands l.pool l.next (down x t (suc (l.lowest.depth - l.fn.place.depth)));
  deep : (x : ℕ) (t : Tree) → TreeStands l.fn.pool l.fn.place.node t → IsSearch t → IsEnd x t → IsDeep x t (suc (l.lowest.depth - l.fn.place.depth));
}

abbrev pub decreases-loop-next : goal.decreases-loop-next
decreases-loop-next l = height_at l.pool l.next
