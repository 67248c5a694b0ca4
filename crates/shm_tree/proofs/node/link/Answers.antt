use Rattle.std.proofs.Common.{◌≡◌, ◌≢◌, ℕ, ◌+◌, max, ap, ◌∙◌, subst, arith}
use Rattle.shm_plain.specs.Pools.{Pool}
use Rattle.shm_count.specs.declared.answer.Made.{Made}
use Rattle.shm_tree.specs.declared.node.{Content.Content, Side.{Side, TheVariants.{Left, Right}}}
use Rattle.shm_tree.specs.Bounds.{link_steps, make_steps, refer_steps}
use Rattle.shm_tree.specs.Keeping.{HasGrown, HasTree, IsBorn, IsMade, IsReferring, child_of, other_side}
use Rattle.shm_tree.specs.{Standing.TreeStands, Trees.{Tree, height}}
use Rattle.shm_tree.proofs.Answering.{reached_then, room_still, tree_still}
use Rattle.shm_tree.proofs.Building.{Looked, looked, looked_then, looks_after}
use Rattle.shm_tree.proofs.Changing.{Changed, changed_looked, changed_then, changes_by, changes_cut, changes_done, changes_first, changes_from}
use Rattle.shm_tree.proofs.Links.{born_grown, born_refers, born_still, heights_fit, linked_of, still_born, still_grown, still_then}
use Rattle.shm_tree.proofs.{Unnamed.tree_other, node.link.Goals.{In_ok-near, In_ok-far, In_ok-made, In_ok-refer}}
use Rattle.shm_tree.proofs.Lasts.{last_after, last_any}
use Rattle.shm_tree.proofs.node.link.Goals as goal

-- ---- before the node is made

pub height-requires-2-clause-tree : goal.height-requires-2-clause-tree
height-requires-2-clause-tree c = tree_still c.args.pool.now c.height.new.pool c.args.trees.far c.in_ok-near.ensures.looks.still c.requires.far

pub height-requires-2-clause-reached : goal.height-requires-2-clause-reached
height-requires-2-clause-reached c = reached_then c.args.pool.now c.height.new.pool c.args.trees.far c.requires.far_reached c.in_ok-near.ensures.looks.reaches

-- the heights are those of the trees as they stood before
nears : (c : In_ok-near) → (t : Tree) → TreeStands c.args.pool.now c.args.trees.near t → c.in_ok-near.near ≡ height t
nears c t y = c.in_ok-near.ensures.is t y

fars : (c : In_ok-far) → (t : Tree) → TreeStands c.args.pool.now c.args.trees.far t → c.in_ok-far.far ≡ height t
fars c t y = c.in_ok-far.ensures.is t (c.in_ok-near.ensures.looks.still.trees c.args.trees.far t y)

read : (c : In_ok-far) → Looked c.args.pool.now c.height-2.new.pool c.args.life.now.left c.height-2.new.life.left
read c = looked_then c.requires.working.run (looked c.in_ok-near.ensures.looks) (looked c.in_ok-far.ensures.looks)

two : (c : In_ok-far) → Changed 4 c.args.pool.now c.height-2.new.pool c.args.life.now.left c.height-2.new.life.left
two c = let a = c.in_ok-near.ensures.steps in let b = c.in_ok-far.ensures.steps in changed_looked 4 (read c) (omega (arith, a, b))

pub overflow_add-high : goal.overflow_add-high
overflow_add-high c =
    let at = (goal.at.overflow_add-high c).In_ok-far in
    let (t, y) = c.requires.near in
    let (u, z) = c.requires.far in
    let fits = heights_fit c.args.pool.now c.requires.working c.args.trees.near c.args.trees.far c.in_ok-near.near c.in_ok-far.far t u y z (nears (goal.at.overflow_add-high c).In_ok-near t y) (fars at u z) in
    let is = c.max-high.ensures in
    omega (arith, fits, is)

pub make-requires-clause-room : goal.make-requires-clause-room
make-requires-clause-room c = room_still c.args.pool.now c.height-2.new.pool (read (goal.at.make-requires-clause-room c).In_ok-far).still c.requires.room

-- ---- the node is made

made : (c : In_ok-made) → IsMade c.args.content (1 + max c.in_ok-near.near c.in_ok-far.far) c.in_ok-made.made c.height-2.new.pool c.make.new.pool
made c = subst (λ z. IsMade c.args.content (1 + z) c.in_ok-made.made c.height-2.new.pool c.make.new.pool) c.max-high.ensures c.in_ok-made.ensures.made

born : (c : In_ok-made) → IsBorn c.in_ok-made.made c.args.pool.now c.make.new.pool
born c =
    let at = read (goal.at.In_ok-made c).In_ok-far in
    still_born c.args.pool.now c.height-2.new.pool c.make.new.pool c.requires.working at.working at.went.start c.in_ok-made.made at.still c.in_ok-made.ensures.made.born

on_made : (c : In_ok-made) → Changed (4 + make_steps c.args.pool.now.start.geometry) c.args.pool.now c.make.new.pool c.args.life.now.left c.make.new.life.left
on_made c = changed_then make_steps c.requires.working (two (goal.at.In_ok-made c).In_ok-far) c.in_ok-made.ensures.changes

-- the new node has no child on either side
bare : (p q : Pool) (n : Made) (d : Content) (h : ℕ) → IsMade d h n p q → (s : Side) → child_of q n.block s ≡ 0
bare p q n d h m Left = m.left
bare p q n d h m Right = m.right

pub refer-requires-clause-latch : goal.refer-requires-clause-latch
refer-requires-clause-latch c = (on_made (goal.at.refer-requires-clause-latch c).In_ok-made).latch ∙ c.requires.latch

pub refer-requires-clause-node : goal.refer-requires-clause-node
refer-requires-clause-node c = (_, _, _, c.in_ok-made.ensures.made.node)

pub refer-requires-clause-named : goal.refer-requires-clause-named
refer-requires-clause-named c = let r = c.in_ok-made.ensures.made.born.rooted in (c.in_ok-made.made.root, r.low, r.names)

pub refer-requires-clause-empty : goal.refer-requires-clause-empty
refer-requires-clause-empty c = bare c.height-2.new.pool c.make.new.pool c.in_ok-made.made c.args.content _ c.in_ok-made.ensures.made c.args.side

pub refer-requires-clause-unnamed : goal.refer-requires-clause-unnamed
refer-requires-clause-unnamed c = c.in_ok-made.ensures.unnamed

-- the new node is none of the trees
other : (c : In_ok-made) (b : ℕ) → HasTree c.args.pool.now b → b ≢ c.in_ok-made.made.block
other c b t = tree_other c.args.pool.now c.in_ok-made.made.block b c.in_ok-made.ensures.made.node.some (born c).fresh t

pub refer-requires-clause-other : goal.refer-requires-clause-other
refer-requires-clause-other c = other (goal.at.refer-requires-clause-other c).In_ok-made c.args.trees.near c.requires.near

pub refer-requires-clause-reached : goal.refer-requires-clause-reached
refer-requires-clause-reached c = reached_then c.args.pool.now c.make.new.pool c.args.trees.near c.requires.near_reached (on_made (goal.at.refer-requires-clause-reached c).In_ok-made).reaches

-- ---- it refers to the first tree

born_one : (c : In_ok-refer) → IsBorn c.in_ok-made.made c.args.pool.now c.refer.new.pool
born_one c =
    let at = (goal.at.In_ok-refer c).In_ok-made in
    let on = on_made at in
    born_refers c.args.pool.now c.make.new.pool c.refer.new.pool c.requires.working on.working on.went.start c.in_ok-made.made c.args.side c.args.trees.near (born at) c.in_ok-refer.ensures.refers

on_one : (c : In_ok-refer) → Changed (4 + make_steps c.args.pool.now.start.geometry + refer_steps c.args.pool.now.start.geometry) c.args.pool.now c.refer.new.pool c.args.life.now.left c.refer.new.life.left
on_one c = changed_then refer_steps c.requires.working (on_made (goal.at.In_ok-refer c).In_ok-made) c.in_ok-refer.ensures.changes

pub refer-requires-2-clause-latch : goal.refer-requires-2-clause-latch
refer-requires-2-clause-latch c = (on_one (goal.at.refer-requires-2-clause-latch c).In_ok-refer).latch ∙ c.requires.latch

pub refer-requires-2-clause-node : goal.refer-requires-2-clause-node
refer-requires-2-clause-node c = (_, _, _, c.in_ok-refer.ensures.refers.node _ _ _ c.in_ok-made.ensures.made.node)

pub refer-requires-2-clause-named : goal.refer-requires-2-clause-named
refer-requires-2-clause-named c =
    let r = c.in_ok-made.ensures.made.born.rooted in
    (c.in_ok-made.made.root, r.low, c.in_ok-refer.ensures.refers.roots c.in_ok-made.made.root ∙ r.names)

pub refer-requires-2-clause-empty : goal.refer-requires-2-clause-empty
refer-requires-2-clause-empty c =
    ap (λ s. child_of c.refer.new.pool c.in_ok-made.made.block s) c.other.ensures
    ∙ (c.in_ok-refer.ensures.refers.other ∙ bare c.height-2.new.pool c.make.new.pool c.in_ok-made.made c.args.content _ c.in_ok-made.ensures.made (other_side c.args.side))

pub refer-requires-2-clause-unnamed : goal.refer-requires-2-clause-unnamed
refer-requires-2-clause-unnamed c = c.in_ok-refer.ensures.unnamed

pub refer-requires-2-clause-other : goal.refer-requires-2-clause-other
refer-requires-2-clause-other c = other (goal.at.refer-requires-2-clause-other c).In_ok-made c.args.trees.far c.requires.far

pub refer-requires-2-clause-reached : goal.refer-requires-2-clause-reached
refer-requires-2-clause-reached c = reached_then c.args.pool.now c.refer.new.pool c.args.trees.far c.requires.far_reached (on_one (goal.at.refer-requires-2-clause-reached c).In_ok-refer).reaches

-- ---- where it stopped

pub returns-in_err-near-clause-changes : goal.returns-in_err-near-clause-changes
returns-in_err-near-clause-changes c = changes_from c.from_residual.result c.from_residual.ensures.1 (changes_first c.in_err-near.ensures.looks (λ e. last_any (link_steps c.args.pool.now.start.geometry) (c.in_err-near.ensures.late e)))

pub returns-in_err-far-clause-changes : goal.returns-in_err-far-clause-changes
returns-in_err-far-clause-changes c =
    let l = c.in_ok-near.ensures.looks in
    let s = c.in_ok-near.ensures.steps in
    changes_from c.from_residual-in_err-far.result c.from_residual-in_err-far.ensures.1 (changes_first (looks_after c.requires.working.run l.went l.latch c.in_err-far.ensures.looks) (λ e. last_after 2 (link_steps c.args.pool.now.start.geometry) (omega arith) c.requires.working l.went (omega (arith, s)) (c.in_err-far.ensures.late e)))

pub returns-in_err-made-clause-changes : goal.returns-in_err-made-clause-changes
returns-in_err-made-clause-changes c =
    let at = (goal.at.returns-in_err-made-clause-changes c).In_ok-far in
    let p = c.args.pool.now in
    let m = c.height-2.new.pool in
    let q = c.make.new.pool in
    let l = read at in
    changes_from c.from_residual-in_err-made.result c.from_residual-in_err-made.ensures.1
    (changes_cut {T = Made} {M = HasGrown 1} {a = 4} make_steps _ (omega arith) c.requires.working (two at) c.in_err-made.ensures.changes (λ s. still_grown 1 p q (still_then p m q c.requires.working l.working l.went.start l.still s)))

pub returns-in_err-refer-clause-changes : goal.returns-in_err-refer-clause-changes
returns-in_err-refer-clause-changes c =
    let at = (goal.at.returns-in_err-refer-clause-changes c).In_ok-made in
    let p = c.args.pool.now in
    let q = c.refer.new.pool in
    let a = c.in_ok-made.made in
    let l = on_made at in
    changes_from c.from_residual-in_err-refer.result c.from_residual-in_err-refer.ensures.1
    (changes_cut {T = Made} {M = HasGrown 1} {a = 4 + make_steps p.start.geometry} refer_steps _ (omega arith) c.requires.working l (changes_by _ c.in_err-refer.ensures.changes) (λ s. born_grown a p q (born_still p c.make.new.pool q c.requires.working l.working l.went.start a (born at) s)))

pub returns-in_err-refer-2-clause-changes : goal.returns-in_err-refer-2-clause-changes
returns-in_err-refer-2-clause-changes c =
    let at = (goal.at.returns-in_err-refer-2-clause-changes c).In_ok-refer in
    let p = c.args.pool.now in
    let q = c.refer-2.new.pool in
    let a = c.in_ok-made.made in
    let l = on_one at in
    changes_from c.from_residual-in_err-refer-2.result c.from_residual-in_err-refer-2.ensures.1
    (changes_cut {T = Made} {M = HasGrown 1} {a = 4 + make_steps p.start.geometry + refer_steps p.start.geometry} refer_steps _ (omega arith) c.requires.working l (changes_by _ c.in_err-refer-2.ensures.changes) (λ s. born_grown a p q (born_still p c.refer.new.pool q c.requires.working l.working l.went.start a (born_one at) s)))

-- ---- it refers to both

pub returns : goal.returns
returns c =
    let at = (goal.at.returns c).In_ok-refer in
    let on = (goal.at.returns c).In_ok-made in
    let first = (goal.at.returns c).In_ok-far in
    let p = c.args.pool.now in
    let b = c.refer.new.pool in
    let q = c.refer-2.new.pool in
    let n = c.in_ok-made.made in
    let s = c.args.side in
    let h = c.in_ok-refer-2.ensures in
    let l = read first in
    let one = on_made on in
    let both = on_one at in
    let other : IsReferring n.block (other_side s) c.args.trees.far b q = subst (λ (z : Side). IsReferring n.block z c.args.trees.far b q) c.other.ensures h.refers in
    record {
      changes = changes_done n (omega arith) (changed_then refer_steps c.requires.working both h.changes);
      linked = linked_of p c.height-2.new.pool c.make.new.pool b q c.args.content s c.args.trees c.in_ok-near.near c.in_ok-far.far n c.requires.working l.working one.working both.working l.went.start one.went.start both.went.start
          l.still (made on) c.in_ok-refer.ensures.refers other (nears (goal.at.returns c).In_ok-near) (fars first);
    }
