-- The sizes of the search trees on both sides of a node, read from the words of a pool.
use Rattle.std.proofs.Common.{◌≡◌, ◌≢◌, ℕ, List, ◌+◌, ◌<◌, ◌^◌, get_or, sym, ap, subst, ◌∙◌, arith}
use Rattle.shm_words.specs.Layout.{total_of}
use Rattle.shm_words.proofs.Placing.{total_most_wide}
use Rattle.shm_graph.specs.declared.spot.Spot.TheVariants.{Body}
use Rattle.shm_plain.specs.Pools.{IsRun, Pool}
use Rattle.shm_tree.specs.declared.registers.Registers.{Registers}
use Rattle.shm_tree.specs.{Forests.{HasVersions, IsForest, block_at, block_in, root_at, version}, Holding.HasSearch}
use Rattle.shm_tree.specs.{Standing.{TreeStands, word_of}, Trees.{Tree, Empty, Node, size}}
use Rattle.shm_tree.proofs.{Fitting.size_small, NodeWords.node_word, Ways.{height_at, height_at_is, stands_node}}

-- what was counted of a tree
abbrev pub Sized : Pool → ℕ → ℕ → Type 0
Sized p b n = (t : Tree) → TreeStands p b t → n ≡ size t

pub none_sized : (p : Pool) (b : ℕ) → b ≡ 0 → Sized p b 0
none_sized p b none Empty st = omega arith
none_sized p b none (Node k n l r) (m, hl, hr) = absurd (m.some none)

-- the words of a node that name its children
pub record Children (p : Pool) (b x y : ℕ) : Type 0 where
  pub inside : b + 3 < total_of p.start.geometry
  pub left : word_of p (Body b 0) ≡ x
  pub right : word_of p (Body b 1) ≡ y

module _ (p : Pool) (b : ℕ) (run : IsRun p) (tree : HasSearch p b) (some : b ≢ 0) where
  pub children_at : Children p b (get_or p.words (b + 2) 0) (get_or p.words (b + 3) 0)
  children_at =
      let m = (stands_node p b tree.0 tree.1 some).0 in
      let left = node_word p b 0 m.0 m.1 m.2 run m.3 (omega arith) in
      let right = node_word p b 1 m.0 m.1 m.2 run m.3 (omega arith) in
      let i : b + 2 + 0 ≡ b + 2 = omega arith in
      let j : b + 2 + 1 ≡ b + 3 = omega arith in
      record {
        inside = omega (arith, right.1);
        left = left.0 ∙ ap (λ n. get_or p.words n 0) i;
        right = right.0 ∙ ap (λ n. get_or p.words n 0) j;
      }

  pub block_small : b < 2 ^ 24
  block_small = let c = children_at in let i = c.inside in omega (arith, i, total_most_wide p.start.geometry run.held.at.fits)

module _ (p : Pool) (b x y : ℕ) (c : Children p b x y) where
  pub left_search : HasSearch p b → b ≢ 0 → HasSearch p x
  left_search (Empty, st, se) some = absurd (some st)
  left_search (Node k n l r, (m, hl, hr), (lk, kr, sl, sr)) some = (l, subst (λ (z : ℕ). TreeStands p z l) c.left hl, sl)

  pub right_search : HasSearch p b → b ≢ 0 → HasSearch p y
  right_search (Empty, st, se) some = absurd (some st)
  right_search (Node k n l r, (m, hl, hr), (lk, kr, sl, sr)) some = (r, subst (λ (z : ℕ). TreeStands p z r) c.right hr, sr)

  pub left_lower : HasSearch p b → b ≢ 0 → height_at p x < height_at p b
  left_lower (Empty, st, se) some = absurd (some st)
  left_lower (Node k n l r, (m, hl, hr), se) some =
      let i = height_at_is p x l (subst (λ (z : ℕ). TreeStands p z l) c.left hl) in
      let j = height_at_is p b (Node k n l r) (m, hl, hr) in
      omega (arith, i, j)

  pub right_lower : HasSearch p b → b ≢ 0 → height_at p y < height_at p b
  right_lower (Empty, st, se) some = absurd (some st)
  right_lower (Node k n l r, (m, hl, hr), se) some =
      let i = height_at_is p y r (subst (λ (z : ℕ). TreeStands p z r) c.right hr) in
      let j = height_at_is p b (Node k n l r) (m, hl, hr) in
      omega (arith, i, j)

  pub node_sized : (i j : ℕ) → b ≢ 0 → Sized p x i → Sized p y j → Sized p b (1 + i + j)
  node_sized i j some left right Empty st = absurd (some st)
  node_sized i j some left right (Node k n l r) (m, hl, hr) =
      let a = left l (subst (λ (z : ℕ). TreeStands p z l) c.left hl) in
      let d = right r (subst (λ (z : ℕ). TreeStands p z r) c.right hr) in
      omega (arith, a, d)

pub sized_small : (p : Pool) (b n : ℕ) → IsRun p → HasSearch p b → Sized p b n → n < 2 ^ 24
sized_small p b n run tree is =
    let i = is tree.0 tree.1 in
    omega (arith, i, size_small p b tree.0 run.held.at.fits tree.1 tree.2)

-- ---- registers

forest_tree : (f : Registers) (r : ℕ) → IsForest f → r < 12 → HasSearch f.pool (block_at f r)
forest_tree f r h low =
    let v = h.versions in
    let t = v.1.each r low in
    (version v.0 r, t.stands, t.search)

-- the tree of a register is a search tree, and what was counted of it is the size of its version
module _ (f : Registers) (r k b : ℕ) (h : IsForest f) (low : r < 12) (root : k ≡ root_at f r) (is : b ≡ block_in f.pool k) where
  block_is : block_at f r ≡ b
  block_is = ap (block_in f.pool) (sym root) ∙ sym is

  pub register_search : HasSearch f.pool b
  register_search = subst (λ (x : ℕ). HasSearch f.pool x) block_is (forest_tree f r h low)

  pub register_sized : (n : ℕ) → Sized f.pool b n → (ts : List Tree) → HasVersions f ts → n ≡ size (version ts r)
  register_sized n sized ts v = sized (version ts r) (subst (λ (x : ℕ). TreeStands f.pool x (version ts r)) block_is (v.each r low).stands)
