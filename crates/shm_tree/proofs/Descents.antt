-- One node further down, by two calls that only look: the key of the node is read, and then its child on the side of a key.
use Rattle.std.proofs.Common.{◌≡◌, ℕ, ◌+◌, ◌^◌, ◌<◌, ◌≤◌, cond, nat_lt, sym, ap, subst, ◌∙◌, add-one, arith}
use Rattle.shm_graph.specs.declared.spot.Spot.TheVariants.{Body}
use Rattle.shm_plain.specs.Pools.{Pool}
use Rattle.shm_tree.specs.{declared.node.Side.{Side, TheVariants.{Left, Right}}, Keeping.{IsStill, child_of}}
use Rattle.shm_tree.specs.{Standing.{TreeStands, weight, word_of}, Trees.{Tree, Empty, Node, height}, Working.IsWorking}
use Rattle.shm_tree.specs.Ways.{IsDeep, IsEnd, IsOther, IsSome, down, toward}
use Rattle.shm_tree.proofs.Links.{stands_low}
use Rattle.shm_tree.proofs.Ways.{down_lower, height_at, height_at_is, other_some, stands_none, toward_light, toward_lower, toward_stands}
use Rattle.shm_tree.proofs.Weights.{weight_nodes}

same_key : (p q : Pool) (b : ℕ) (t : Tree) → IsStill p q → TreeStands p b t → IsSome t → word_of p (Body b 2) ≡ word_of q (Body b 2)
same_key p q b Empty s st some = absurd some
same_key p q b (Node k n l r) s (m, hl, hr) some = m.key ∙ sym (s.nodes b k n (height (Node k n l r)) m).node.key

module _ (p q r : Pool) (b to x k : ℕ) (side : Side) (first : IsStill p q) (second : IsStill q r) (key : k ≡ word_of p (Body b 2)) (on_side : side ≡ cond (nat_lt x k) Left Right) (child : to ≡ child_of q b side) where
  -- the child's tree stands there
  pub level_stands : (t : Tree) (d : ℕ) → TreeStands p b (down x t d) → IsSome (down x t d) → TreeStands r to (down x t (d + 1))
  level_stands t d st some =
      let at : TreeStands q b (down x t d) = first.trees b (down x t d) st in
      let read : k ≡ word_of q (Body b 2) = key ∙ same_key p q b (down x t d) first st some in
      let is : to ≡ child_of q b (cond (nat_lt x k) Left Right) = child ∙ ap (child_of q b) on_side in
      let P : ℕ → Type 0 = λ y. TreeStands q y (toward x (down x t d)) in
      let there : TreeStands q to (toward x (down x t d)) = subst P (sym is) (toward_stands q b x k (down x t d) at some read) in
      rw add-one (second.trees to (toward x (down x t d)) there)

  -- of no other blocks
  pub level_light : (f : ℕ → ℕ) (t : Tree) (d : ℕ) → TreeStands p b (down x t d) → IsSome (down x t d) → weight f r to (down x t (d + 1)) ≤ weight f p b (down x t d)
  level_light f t d st some =
      let at : TreeStands q b (down x t d) = first.trees b (down x t d) st in
      let read : k ≡ word_of q (Body b 2) = key ∙ same_key p q b (down x t d) first st some in
      let is : to ≡ child_of q b (cond (nat_lt x k) Left Right) = child ∙ ap (child_of q b) on_side in
      let P : ℕ → Type 0 = λ y. TreeStands q y (toward x (down x t d)) in
      let there : TreeStands q to (toward x (down x t d)) = subst P (sym is) (toward_stands q b x k (down x t d) at some read) in
      let Q : ℕ → Type 0 = λ y. weight f q y (toward x (down x t d)) ≤ weight f q b (down x t d) in
      let light : weight f q to (toward x (down x t d)) ≤ weight f q b (down x t d) = subst Q (sym is) (toward_light f q b x k (down x t d) at some read) in
      let a = weight_nodes f q r second.nodes to (toward x (down x t d)) there in
      let e = weight_nodes f p q first.nodes b (down x t d) st in
      rw add-one (omega (arith, light, a, e))

  -- and it is lower
  pub level_lower : (t : Tree) (d : ℕ) → TreeStands p b (down x t d) → IsSome (down x t d) → height_at r to < height_at p b
  level_lower t d st some =
      let there : TreeStands r to (toward x (down x t d)) = rw add-one at (level_stands t d st some) in
      omega (arith, height_at_is r to (toward x (down x t d)) there, height_at_is p b (down x t d) st, toward_lower x (down x t d) some)

-- a way has fewer nodes than a pool has words
pub way_low : (p : Pool) (b x d : ℕ) (t : Tree) → IsWorking p → TreeStands p b t → IsDeep x t d → d < 2 ^ 24
way_low p b x d t w st deep = let i = down_lower x t d deep in let j = stands_low p w t b st in omega (arith, i, j)

pub others_deep : (x d : ℕ) (t : Tree) → ((i : ℕ) → i < d → IsOther x (down x t i)) → IsDeep x t d
others_deep x d t on i lt = other_some x (down x t i) (on i lt)

pub none_end : (p : Pool) (b x : ℕ) (t : Tree) → TreeStands p b t → b ≡ 0 → IsEnd x t
none_end p b x t st none = let P : Tree → Type 0 = λ u. IsEnd x u in subst P (sym (stands_none p b t st none)) tt
