-- One node further behind the node of a key: to the right of that one, and then to the left.
use Rattle.std.proofs.{Common.{◌≡◌, ◌≢◌, Bool, ℕ, cond, refl, sym, subst, arith}, lemmas.Bool.{le-ltb, lt-ltb}}
use Rattle.shm_plain.specs.Pools.{Pool}
use Rattle.shm_tree.specs.{declared.node.Side.TheVariants.{Left, Right}, Keeping.{IsStill, child_of}}
use Rattle.shm_tree.specs.{Standing.TreeStands, Trees.{Tree, Empty, Node, AreAbove}, Ways.{IsEnd, toward}}

left_stands : (p : Pool) (b x : ℕ) (t : Tree) → AreAbove x t → b ≢ 0 → TreeStands p b t → TreeStands p (child_of p b Left) (toward x t)
left_stands p b x Empty above some st = absurd (some st)
left_stands p b x (Node k n l r) above some st = subst (λ (c : Bool). TreeStands p (child_of p b Left) (cond c l r)) (sym (lt-ltb x k above.0)) st.1

right_stands : (p : Pool) (b x : ℕ) (t : Tree) → IsEnd x t → b ≢ 0 → TreeStands p b t → TreeStands p (child_of p b Right) (toward x t)
right_stands p b x Empty e some st = absurd (some st)
right_stands p b x (Node k n l r) e some st = subst (λ (c : Bool). TreeStands p (child_of p b Right) (cond c l r)) (sym (le-ltb x k (omega (arith, e)))) st.2

-- a child that was read
pub left_child : (p r : Pool) (b to x : ℕ) (t : Tree) → IsStill p r → to ≡ child_of p b Left → AreAbove x t → b ≢ 0 → TreeStands p b t → TreeStands r to (toward x t)
left_child p r b to x t still is above some st = still.trees to (toward x t) (subst (λ (c : ℕ). TreeStands p c (toward x t)) (sym is) (left_stands p b x t above some st))

pub right_child : (p r : Pool) (b to x : ℕ) (t : Tree) → IsStill p r → to ≡ child_of p b Right → IsEnd x t → b ≢ 0 → TreeStands p b t → TreeStands r to (toward x t)
right_child p r b to x t still is e some st = still.trees to (toward x t) (subst (λ (c : ℕ). TreeStands p c (toward x t)) (sym is) (right_stands p b x t e some st))

-- the way of some key ends at a node
pub some_end : (t : Tree) → (x : ℕ) × IsEnd x t
some_end Empty = (0, tt)
some_end (Node k n l r) = (k, refl)
