-- Calls after which a tree stands at each live block.
use Rattle.shm_tree.specs.declared.{hints.Hints.Hints, node.{Content.Content, Pair.Pair, Side.Side}, stop.Stop.Stop}
use Rattle.shm_tree.specs.{Building.Builds, Living.KeepsLives, Changing.Changes}
use Rattle.shm_tree.specs.Keeping.{HasTree, IsDropped, IsLinked, IsStill, is_live, node_by}
use Rattle.shm_tree.specs.{Standing.{TreeStands, word_of}, Trees.{Tree, Empty, Node}}
use Rattle.shm_tree.specs.Working.{IsSpent, IsWorking, Went}
use Rattle.shm_tree.proofs.{Eras.spent_stays, Nodes.{body_names, names, working_calm}, Weights.node_left}
use Rattle.std.proofs.Common.{◌≡◌, ℕ, true, [], sym, ◌∙◌, subst, arith, inl, inr, true≢false, Result, Ok, Err}
use Rattle.std.proofs.lemmas.Bool.{cases_Bool, cases_eq}
use Rattle.std.specs.{Prelude.IfOk, List.Contains}
use Rattle.shm_graph.specs.declared.spot.Spot.{Spot, TheVariants.Body}
use Rattle.shm_plain.specs.Pools.{Pool, memo_of}
use Rattle.shm_count.specs.declared.answer.Made.{Made}

pub rests_then : (p q r : Pool) {x y : ℕ} → IsWorking q → IsWorking r → Went q r x y → KeepsLives p q → KeepsLives q r → KeepsLives p r
rests_then p q r wq wr went a b calm d live before =
    let mid : IsSpent (memo_of q 0) → ⊥ = λ s. calm (spent_stays q r wq wr went s) in
    elim (cases_Bool (is_live q d)) [
      | inl l ↦ b calm d live (inr (a mid d l before))
      | inr dead ↦ b calm d live (inl dead)
    ]

pub rests_still : {p q : Pool} → IsStill p q → KeepsLives p q
rests_still s calm d live before =
    elim before [
      | inl dead ↦ absurd (true≢false (sym live ∙ (s.lives d ∙ dead)))
      | inr t ↦ (t.0, s.trees d t.0 t.1)
    ]

pub rests_linked : {c : Content} {s : Side} {trees : Pair} {m : Made} {p q : Pool} → IsLinked c s trees m p q → HasTree p trees.near → HasTree p trees.far → KeepsLives p q
rests_linked {c = c} {s = s} {m = m} {q = q} l near far calm d live before =
    elim (cases_eq d m.block) [
      | inl e ↦ subst (HasTree q) (sym e) (node_by s c near.0 far.0, l.stands near.0 far.0 near.1 far.1)
      | inr ne ↦ elim before [
        | inl dead ↦ absurd (true≢false (sym live ∙ (l.born.lives d ne ∙ dead)))
        | inr t ↦ (t.0, l.born.trees d t.0 t.1)
      ]
    ]

module _ (k : ℕ) (p q : Pool) (work : IsWorking q) (d : IsDropped k p q) where
  -- a tree that a word names
  tree_left : (t : Tree) (b : ℕ) (s : Spot) → names q s ≡ b → TreeStands p b t → TreeStands q b t
  tree_left Empty b s e y = y
  tree_left (Node i n l r) b s e y =
      let kept = node_left k p q work d b i n _ s e y.0 in
      let two = kept.node.refs in (
        kept.node,
        tree_left l (word_of q (Body b 0)) (Body b 0) (body_names q (working_calm q work) b 0 kept.node.live (omega (arith, two))) (subst (λ (z : ℕ). TreeStands p z l) (sym kept.left) y.1),
        tree_left r (word_of q (Body b 1)) (Body b 1) (body_names q (working_calm q work) b 1 kept.node.live (omega (arith, two))) (subst (λ (z : ℕ). TreeStands p z r) (sym kept.right) y.2),
      )

  -- a tree at a live block
  tree_live : (t : Tree) (b : ℕ) → is_live q b ≡ true → (Contains (memo_of q 0).dying b → ⊥) → TreeStands p b t → TreeStands q b t
  tree_live Empty b live counted y = y
  tree_live (Node i n l r) b live counted y =
      let kept = d.nodes b i n _ live counted y.0 in
      let two = kept.node.refs in (
        kept.node,
        tree_left l (word_of q (Body b 0)) (Body b 0) (body_names q (working_calm q work) b 0 kept.node.live (omega (arith, two))) (subst (λ (z : ℕ). TreeStands p z l) (sym kept.left) y.1),
        tree_left r (word_of q (Body b 1)) (Body b 1) (body_names q (working_calm q work) b 1 kept.node.live (omega (arith, two))) (subst (λ (z : ℕ). TreeStands p z r) (sym kept.right) y.2),
      )

  pub rests_dropped : KeepsLives p q
  rests_dropped calm b live before =
      let counted : Contains (memo_of q 0).dying b → ⊥ = λ x. elim work.dying [
        | inl none ↦ (let y : Contains [] b = subst (λ xs. Contains xs b) none x in let l = y.1 in omega (arith, l))
        | inr spent ↦ calm spent
      ] in
      elim before [
        | inl dead ↦ absurd (true≢false (sym (d.lives b live) ∙ dead))
        | inr t ↦ (t.0, tree_live t.0 b live counted t.1)
      ]

-- ---- after calls that read

pub rests_after : {hints : Hints} {T : Type 0} {n c x y : ℕ} (o : Result T Stop) (p q r : Pool) → IsWorking q → IsStill p q → Builds hints n c o q r x y → IfOk o (λ m. KeepsLives q r) → IfOk o (λ m. KeepsLives p r)
rests_after (Ok m) p q r wq s b h = rests_then p q r wq b.working b.went (rests_still s) h
rests_after (Err e) p q r wq s b h = tt

-- a node that was linked, or not
pub rests_link : {hints : Hints} {k x y : ℕ} {L : Pool → Pool → Type 0} (c : Content) (s : Side) (trees : Pair) (o : Result Made Stop) (p q r : Pool) → IsWorking q → IsStill p q → Changes hints k L o q r x y → IfOk o (λ m. IsLinked c s trees m q r) → HasTree q trees.near → HasTree q trees.far → IfOk o (λ m. KeepsLives p r)
rests_link c s trees (Ok m) p q r wq st h l near far = rests_then p q r wq h.working h.went (rests_still st) (rests_linked l near far)
rests_link c s trees (Err e) p q r wq st h l near far = tt
