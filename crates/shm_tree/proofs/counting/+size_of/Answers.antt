use Rattle.std.proofs.Common.{◌≡◌, ℕ, ◌+◌, ◌<◌, ◌^◌, get_or, sym, ap, subst, ◌∙◌, arith}
use Rattle.shm_plain.specs.Pools.{Pool}
use Rattle.shm_tree.specs.Holding.{HasSearch}
use Rattle.shm_tree.proofs.Sizes.{Sized, block_small, children_at, left_lower, left_search, node_sized, none_sized, right_lower, right_search, sized_small}
use Rattle.shm_tree.proofs.{Ways.height_at, counting.+size_of.Goals.After-size_of-right}
use Rattle.shm_tree.proofs.counting.+size_of.Goals as goal

pub returns-then-tree-eq0 : goal.returns-then-tree-eq0
returns-then-tree-eq0 t c = none_sized c.args.pool.now c.args.tree c.if-tree-eq0.true

pub overflow_cast-at : goal.overflow_cast-at
overflow_cast-at t c = omega (arith, block_small c.args.pool.now c.args.tree c.requires.run c.requires.tree c.if-tree-eq0.false)

pub overflow_add-at : goal.overflow_add-at
overflow_add-at t c = omega (arith, block_small c.args.pool.now c.args.tree c.requires.run c.requires.tree c.if-tree-eq0.false)

pub word-requires : goal.word-requires
word-requires t c =
    let kids = children_at c.args.pool.now c.args.tree c.requires.run c.requires.tree c.if-tree-eq0.false in
    omega (arith, kids.inside)

pub size_of-left-requires : goal.size_of-left-requires
size_of-left-requires t c =
    let p : Pool = c.args.pool.now in
    let b : ℕ = c.args.tree in
    let kids = children_at p b c.requires.run c.requires.tree c.if-tree-eq0.false in
    let is : get_or p.words (b + 2) 0 ≡ c.word.result = sym c.word.ensures.is in
    let low : height_at p c.word.result < height_at p b = subst (λ (x : ℕ). height_at p x < height_at p b) is (left_lower p b _ _ kids c.requires.tree c.if-tree-eq0.false) in
    let search : HasSearch p c.word.result = subst (λ (x : ℕ). HasSearch p x) is (left_search p b _ _ kids c.requires.tree c.if-tree-eq0.false) in
    (omega (arith, low, c.decreases), (c.requires.run, search))

pub overflow_add-at-2 : goal.overflow_add-at-2
overflow_add-at-2 t c = omega (arith, block_small c.args.pool.now c.args.tree c.requires.run c.requires.tree c.if-tree-eq0.false)

pub word-requires-2 : goal.word-requires-2
word-requires-2 t c =
    let kids = children_at c.args.pool.now c.args.tree c.requires.run c.requires.tree c.if-tree-eq0.false in
    omega (arith, kids.inside)

pub size_of-right-requires : goal.size_of-right-requires
size_of-right-requires t c =
    let p : Pool = c.args.pool.now in
    let b : ℕ = c.args.tree in
    let kids = children_at p b c.requires.run c.requires.tree c.if-tree-eq0.false in
    let at : b + 3 ≡ b + 2 + 1 = omega arith in
    let is : get_or p.words (b + 3) 0 ≡ c.word-2.result = ap (λ (n : ℕ). get_or p.words n 0) at ∙ sym c.word-2.ensures.is in
    let low : height_at p c.word-2.result < height_at p b = subst (λ (x : ℕ). height_at p x < height_at p b) is (right_lower p b _ _ kids c.requires.tree c.if-tree-eq0.false) in
    let search : HasSearch p c.word-2.result = subst (λ (x : ℕ). HasSearch p x) is (right_search p b _ _ kids c.requires.tree c.if-tree-eq0.false) in
    (omega (arith, low, c.decreases), (c.requires.run, search))

sized : (t : ℕ) (c : After-size_of-right t) → Sized c.args.pool.now c.args.tree (1 + c.size_of-left.result + c.size_of-right.result)
sized t c =
    let p : Pool = c.args.pool.now in
    let b : ℕ = c.args.tree in
    let kids = children_at p b c.requires.run c.requires.tree c.if-tree-eq0.false in
    let at : b + 2 + 1 ≡ b + 3 = omega arith in
    let left : Sized p (get_or p.words (b + 2) 0) c.size_of-left.result = subst (λ (x : ℕ). Sized p x c.size_of-left.result) c.word.ensures.is c.size_of-left.ensures in
    let is : c.word-2.result ≡ get_or p.words (b + 3) 0 = c.word-2.ensures.is ∙ ap (λ (n : ℕ). get_or p.words n 0) at in
    let right : Sized p (get_or p.words (b + 3) 0) c.size_of-right.result = subst (λ (x : ℕ). Sized p x c.size_of-right.result) is c.size_of-right.ensures in
    node_sized p b _ _ kids c.size_of-left.result c.size_of-right.result c.if-tree-eq0.false left right

few : (t : ℕ) (c : After-size_of-right t) → 1 + c.size_of-left.result + c.size_of-right.result < 2 ^ 24
few t c = sized_small c.args.pool.now c.args.tree _ c.requires.run c.requires.tree (sized t c)

pub overflow_add-result : goal.overflow_add-result
overflow_add-result t c = let n = few t (goal.at.overflow_add-result t c).After-size_of-right in omega (arith, n)

pub overflow_add-result-2 : goal.overflow_add-result-2
overflow_add-result-2 t c = let n = few t (goal.at.overflow_add-result-2 t c).After-size_of-right in omega (arith, n)

pub returns : goal.returns
returns t c = sized t (goal.at.returns t c).After-size_of-right
