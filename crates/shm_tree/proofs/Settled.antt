-- Between two lines each live block is a node of a register's tree, where all other roots are empty and references fall.
use Rattle.std.proofs.Common.{◌≡◌, ℕ, ◌<◌, true, List, [], refl, sym, ap, ◌∙◌, subst, arith, inl, inr, true≢false}
use Rattle.std.proofs.lemmas.Bool.{cases_Bool}
use Rattle.std.specs.Prelude.{slice_index}
use Rattle.shm_plain.specs.Pools.{memo_of}
use Rattle.shm_tree.specs.{declared.registers.Registers.Registers, Building.root_block, Falling.AreFalling}
use Rattle.shm_tree.specs.Forests.{IsForest, IsTidy, IsUnspent, KeepsRegisters, block_in, root_at, version}
use Rattle.shm_tree.specs.{Inserting.is_part, Keeping.{AreSameLives, is_live}}
use Rattle.shm_tree.specs.{Living.{AreLivesNodes, AreLivesTrees, AreRootsTrees}, Standing.TreeStands}
use Rattle.shm_tree.specs.Trees.{Tree, Empty, Node}
use Rattle.shm_tree.proofs.{Forests.block_low, Lights.{once, part_weighs, weighs_live}}
use Rattle.shm_tree.proofs.{Named.{falling_nodes, part_stands}, Spares.owner, Ways.stands_one}

-- ---- registers

module _ (f : Registers) (x : IsForest f) (tidy : IsTidy f) (calm : IsUnspent f) (falling : AreFalling f.pool) where
  -- what a root names is a register's tree, or it is empty
  roots_trees : AreRootsTrees f.pool
  roots_trees j low =
      elim (owner f.roots j x.long) [
        | inl o ↦
            (let t : Tree = version x.versions.0 o.0 in
            let same : block_in f.pool (root_at f o.0) ≡ root_block f.pool j = ap (block_in f.pool) o.2 ∙ block_low f.pool j low in
            (t, subst (λ (b : ℕ). TreeStands f.pool b t) same (x.versions.1.each o.0 o.1).stands))
        | inr free ↦ (Empty, tidy j low free)
      ]

  pub settled_nodes : AreLivesNodes f.pool
  settled_nodes =
      let none : (memo_of f.pool 0).dying ≡ [] = elim x.working.dying [ inl e ↦ e | inr s ↦ absurd (calm s) ] in
      falling_nodes f.pool x.working none falling roots_trees

  pub settled_trees : AreLivesTrees f.pool
  settled_trees b live =
      let n = settled_nodes b live in
      let t = part_stands f.pool b (root_block f.pool n.0) n.2 n.3 n.4 in
      (Node t.0 t.1 t.2 t.3, t.4)

  -- a live block is a node of a register's tree
  pub settled_owner : (b : ℕ) → is_live f.pool b ≡ true → (r : ℕ) × (r < 12) × (t : Tree) × TreeStands f.pool (block_in f.pool (root_at f r)) t × (is_part f.pool b (block_in f.pool (root_at f r)) t ≡ true)
  settled_owner b live =
      let n = settled_nodes b live in
      elim (owner f.roots n.0 x.long) [
        | inl o ↦
            (let same : root_block f.pool n.0 ≡ block_in f.pool (root_at f o.0) = sym (ap (block_in f.pool) o.2 ∙ block_low f.pool n.0 n.1) in
            (o.0, o.1, n.2, subst (λ (d : ℕ). TreeStands f.pool d n.2) same n.3, subst (λ (d : ℕ). is_part f.pool b d n.2 ≡ true) same n.4))
        | inr free ↦ absurd (unnamed n.2 (subst (λ (d : ℕ). TreeStands f.pool d n.2) (tidy n.0 n.1 free) n.3) n.4)
      ]
    where
      unnamed : (t : Tree) → TreeStands f.pool 0 t → is_part f.pool b (root_block f.pool (settled_nodes b live).0) t ≡ true → ⊥
      unnamed Empty st e = true≢false (sym e)
      unnamed (Node k i l r) st e = st.0.some refl

-- where registers name the blocks that they named, the same blocks are live
module _ (f g : Registers) (xf : IsForest f) (xg : IsForest g) (tf : IsTidy f) (tg : IsTidy g) (cf : IsUnspent f) (cg : IsUnspent g) (ff : AreFalling f.pool) (fg : AreFalling g.pool) (kept : KeepsRegisters f g) where
  stays : (b : ℕ) → is_live f.pool b ≡ true → is_live g.pool b ≡ true
  stays b live =
      let o = settled_owner f xf tf cf ff b live in
      let k = kept.roots o.0 o.1 in
      let at : ℕ = block_in f.pool (root_at f o.0) in
      let same = k.blocks (once b) o.2 o.3 in
      let some = part_weighs f.pool b at o.2 o.4 in
      weighs_live g.pool b at o.2 (k.trees o.2 o.3) (omega (arith, same, some))

  stayed : (b : ℕ) → is_live g.pool b ≡ true → is_live f.pool b ≡ true
  stayed b live =
      let o = settled_owner g xg tg cg fg b live in
      let k = kept.roots o.0 o.1 in
      let at : ℕ = block_in f.pool (root_at f o.0) in
      let root : root_at g o.0 ≡ root_at f o.0 = ap (λ (ks : List ℕ). slice_index ks o.0) kept.same in
      let here : block_in g.pool (root_at g o.0) ≡ at = ap (block_in g.pool) root ∙ k.same in
      let t : Tree = version xf.versions.0 o.0 in
      let st : TreeStands f.pool at t = (xf.versions.1.each o.0 o.1).stands in
      let there : TreeStands g.pool at o.2 = subst (λ (d : ℕ). TreeStands g.pool d o.2) here o.3 in
      let one : o.2 ≡ t = stands_one g.pool at o.2 t there (k.trees t st) in
      let part : is_part g.pool b at t ≡ true = subst (λ (u : Tree). is_part g.pool b at u ≡ true) one (subst (λ (d : ℕ). is_part g.pool b d o.2 ≡ true) here o.4) in
      let same = k.blocks (once b) t st in
      let some = part_weighs g.pool b at t part in
      weighs_live f.pool b at t st (omega (arith, same, some))

  pub settled_same : AreSameLives f.pool g.pool
  settled_same b =
      elim (cases_Bool (is_live f.pool b)) [
        | inl live ↦ stays b live ∙ sym live
        | inr dead ↦ elim (cases_Bool (is_live g.pool b)) [
          | inl live ↦ absurd (true≢false (sym (stayed b live) ∙ dead))
          | inr gone ↦ gone ∙ sym dead
        ]
      ]
