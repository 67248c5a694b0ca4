use Rattle.shm_tree.proofs.{Resting.rests_after, Sharings.{fresh_read, weighs_once, weighs_twice}}
use Rattle.shm_tree.proofs.Building.{Looked, at_hand_still, builds_after, builds_died, builds_first, builds_from, built_after, built_more, looked, looked_then, ok_kept, rooms_still, tree_still, went_on}
use Rattle.shm_tree.proofs.Rotations.{child_kept, child_tree, node_of, rotated_once, rotated_twice, tall_some}
use Rattle.shm_tree.proofs.{balance.rotated.Goals.In_ok-far, Lasts.last_more, Spendings.spent_call}
use Rattle.shm_tree.proofs.balance.rotated.Goals as goal
use Rattle.shm_tree.specs.{Sharing.{WeighsFar, WeighsTurned, WeighsTurnedTwice}, declared.node.Side.Side}
use Rattle.shm_tree.specs.Building.{IsAtHand, rooms, StandsOf, StandsTurned, StandsTurnedTwice, from_far}
use Rattle.shm_tree.specs.{Keeping.{HasTree, child_of, other_side}, Standing.TreeStands, Trees.{Tree, height}}
use Rattle.shm_tree.specs.{Working.IsReached, Bounds.{rotated_steps, turned_steps}}
use Rattle.std.proofs.Common.{◌≡◌, ℕ, ◌≢◌, ◌∙◌, lit≤, sym, subst, arith}
use Rattle.shm_count.specs.declared.answer.Made.{Made}

pub children-requires : goal.children-requires
children-requires c = record { working = c.requires.working; latch = c.requires.latch; node = node_of c.args.pool.now c.args.trees.far c.requires.some c.requires.far.0; reached = c.requires.far.1 }

pub height-requires : goal.height-requires
height-requires c =
    let u = c.in_ok-grand.ensures in
    let near = child_tree c.args.pool.now c.args.trees.far c.args.side c.requires.some c.requires.far.0 in
    record { working = u.looks.working; tree = tree_still c.in_ok-grand.grand.near u.looks.still (subst (HasTree c.args.pool.now) (sym u.near) near); reached = u.near_reached }

pub height-requires-2 : goal.height-requires-2
height-requires-2 c =
    let u = c.in_ok-grand.ensures in
    let v = c.in_ok-near.ensures in
    let far = child_tree c.args.pool.now c.args.trees.far (other_side c.args.side) c.requires.some c.requires.far.0 in
    record {
      working = v.looks.working;
      tree = tree_still c.in_ok-grand.grand.far v.looks.still (tree_still c.in_ok-grand.grand.far u.looks.still (subst (HasTree c.args.pool.now) (sym u.far) far));
      reached = λ some. v.looks.reaches _ (u.far_reached some);
    }

pub returns-in_err-grand-clause-builds : goal.returns-in_err-grand-clause-builds
returns-in_err-grand-clause-builds c =
    let e = c.in_err-grand.ensures in
    builds_from c.from_residual.result c.from_residual.ensures.1 (builds_first e.looks (λ d. last_more (rotated_steps c.args.pool.now.start.geometry) (omega arith) (e.late d)))

pub returns-in_err-near-clause-builds : goal.returns-in_err-near-clause-builds
returns-in_err-near-clause-builds c =
    let t = c.in_ok-grand.ensures in
    let e = c.in_err-near.ensures in
    let s = t.steps in
    builds_from c.from_residual-in_err-near.result c.from_residual-in_err-near.ensures.1 (builds_died {a = 6} {b = 0} (omega arith) c.requires.working t.looks.went t.looks.latch (spent_call 6 t.looks.went (omega (arith, s))) e.looks e.late)

pub returns-in_err-far-clause-builds : goal.returns-in_err-far-clause-builds
returns-in_err-far-clause-builds c =
    let run = c.requires.working.run in
    let t = c.in_ok-grand.ensures in
    let u = c.in_ok-near.ensures in
    let e = c.in_err-far.ensures in
    let went = went_on run t.looks.went u.looks.went in
    let s = t.steps in
    let w = u.steps in
    builds_from c.from_residual-in_err-far.result c.from_residual-in_err-far.ensures.1 (builds_died {a = 8} {b = 0} (omega arith) c.requires.working went (u.looks.latch ∙ t.looks.latch) (spent_call 8 went (omega (arith, s, w))) e.looks e.late)

-- ---- once the heights are told

read : (c : In_ok-far) → Looked c.args.pool.now c.height-2.new.pool c.args.life.now.left c.height-2.new.life.left
read c = let run = c.requires.working.run in looked_then run (looked_then run (looked c.in_ok-grand.ensures.looks) (looked c.in_ok-near.ensures.looks)) (looked c.in_ok-far.ensures.looks)

near_tree : (c : In_ok-far) → HasTree c.args.pool.now c.in_ok-grand.grand.near
near_tree c = subst (HasTree c.args.pool.now) (sym c.in_ok-grand.ensures.near) (child_tree c.args.pool.now c.args.trees.far c.args.side c.requires.some c.requires.far.0)

at_hand : (c : In_ok-far) (s : Side) (b : ℕ) → b ≡ child_of c.args.pool.now c.args.trees.far s → IsReached c.children.new.pool b → IsAtHand c.height-2.new.pool b
at_hand c s b is some =
    (tree_still b (read c).still (subst (HasTree c.args.pool.now) (sym is) (child_tree c.args.pool.now c.args.trees.far s c.requires.some c.requires.far.0)), λ n. c.in_ok-far.ensures.looks.reaches _ (c.in_ok-near.ensures.looks.reaches _ (some n)))

told : (c : In_ok-far) (y z : Tree) → TreeStands c.args.pool.now (child_of c.args.pool.now c.args.trees.far c.args.side) y → TreeStands c.args.pool.now (child_of c.args.pool.now c.args.trees.far (other_side c.args.side)) z → (c.in_ok-near.near ≡ height y) × (c.in_ok-far.far ≡ height z)
told c y z sy sz =
    let u = c.in_ok-grand.ensures in
    (c.in_ok-near.ensures.is y (u.looks.still.trees _ y (subst (λ k. TreeStands c.args.pool.now k y) (sym u.near) sy)), c.in_ok-far.ensures.is z (c.in_ok-near.ensures.looks.still.trees _ z (u.looks.still.trees _ z (subst (λ k. TreeStands c.args.pool.now k z) (sym u.far) sz))))

-- the far tree's children are those that were read
kept : (c : In_ok-far) (s : Side) → child_of c.args.pool.now c.args.trees.far s ≡ child_of c.height-2.new.pool c.args.trees.far s
kept c s = sym (child_kept c.args.pool.now c.height-2.new.pool c.args.trees.far s (read c).still.nodes (node_of c.args.pool.now c.args.trees.far c.requires.some c.requires.far.0))

pub double-requires : goal.double-requires
double-requires c =
    let at = (goal.at.double-requires c).In_ok-far in
    let l = read at in
    let same : rooms c.height-2.new.pool ≡ rooms c.args.pool.now = rooms_still l.still in
    record {
      working = l.working;
      latch = l.latch ∙ c.requires.latch;
      room = omega arith;
      near = at_hand_still c.args.trees.near l c.requires.near;
      far = at_hand_still c.args.trees.far l c.requires.far;
      some = c.requires.some;
      grand_near = at_hand at c.args.side _ c.in_ok-grand.ensures.near c.in_ok-grand.ensures.near_reached;
      grand_some = tall_some _ c.in_ok-grand.grand.near c.in_ok-near.near (tree_still c.in_ok-grand.grand.near c.in_ok-grand.ensures.looks.still (near_tree at)) c.in_ok-near.ensures.is (omega arith);
      grand_far = at_hand at (other_side c.args.side) _ c.in_ok-grand.ensures.far c.in_ok-grand.ensures.far_reached;
      near_is = c.in_ok-grand.ensures.near ∙ kept at c.args.side;
      far_is = c.in_ok-grand.ensures.far ∙ kept at (other_side c.args.side);
    }

pub single-requires : goal.single-requires
single-requires c =
    let at = (goal.at.single-requires c).In_ok-far in
    let l = read at in
    let same : rooms c.height-2.new.pool ≡ rooms c.args.pool.now = rooms_still l.still in
    record {
      working = l.working;
      latch = l.latch ∙ c.requires.latch;
      room = omega arith;
      near = at_hand_still c.args.trees.near l c.requires.near;
      far = at_hand_still c.args.trees.far l c.requires.far;
      some = c.requires.some;
      grand_near = at_hand at c.args.side _ c.in_ok-grand.ensures.near c.in_ok-grand.ensures.near_reached;
      grand_far = at_hand at (other_side c.args.side) _ c.in_ok-grand.ensures.far c.in_ok-grand.ensures.far_reached;
      near_is = c.in_ok-grand.ensures.near ∙ kept at c.args.side;
      far_is = c.in_ok-grand.ensures.far ∙ kept at (other_side c.args.side);
    }

pub returns-then-near-far : goal.returns-then-near-far
returns-then-near-far c =
    let p = c.args.pool.now in
    let u = c.in_ok-grand.ensures in
    let v = c.in_ok-near.ensures in
    let w = c.in_ok-far.ensures in
    let run = c.requires.working.run in
    let at = (goal.at.returns-then-near-far c).In_ok-far in
    let l = read at in
    let some = tall_some _ c.in_ok-grand.grand.near c.in_ok-near.near (tree_still c.in_ok-grand.grand.near u.looks.still (near_tree at)) v.is (omega arith) in
    record {
      builds = (let d = u.steps in let e = v.steps in let f = w.steps in builds_after 3 3 10 turned_steps _ (lit≤ tt) (omega arith) c.requires.working l (omega (arith, d, e, f)) c.double.ensures.builds);
      built = ok_kept _ (λ m b. built_after run l.went.run l.went.start l.still b) c.double.ensures.built;
      stands =
          ok_kept {T = Made} {P = λ m. StandsTurnedTwice c.args.middle c.args.side c.args.trees m.block c.height-2.new.pool c.double.new.pool} {Q = λ m. StandsOf (from_far c.args.side c.args.middle) c.args.trees m.block p c.double.new.pool} _ (λ m b. rotated_twice p _ _ c.args.side c.args.middle c.args.trees m.block c.requires.some (subst (λ k. k ≢ 0) u.near some) l.still.trees
          (λ y z sy sz. let h = told at y z sy sz in omega (arith, h.0, h.1)) b) c.double.ensures.stands;
      fresh = fresh_read _ l.still c.double.ensures.fresh;
      weighs =
          ok_kept {T = Made} {P = λ m. WeighsTurnedTwice c.args.middle c.args.side c.args.trees m.block c.height-2.new.pool c.double.new.pool} {Q = λ m. WeighsFar c.args.middle c.args.side c.args.trees m.block p c.double.new.pool} _ (λ m b. weighs_twice p c.height-2.new.pool c.double.new.pool c.args.side c.args.middle c.args.trees m.block c.requires.some (subst (λ k. k ≢ 0) u.near some) l.still
          (λ y z sy sz. let h = told at y z sy sz in omega (arith, h.0, h.1)) b) c.double.ensures.weighs;
      rests = rests_after c.double.result p c.height-2.new.pool c.double.new.pool l.working l.still c.double.ensures.builds c.double.ensures.rests;
    }

pub returns-else-near-far : goal.returns-else-near-far
returns-else-near-far c =
    let p = c.args.pool.now in
    let u = c.in_ok-grand.ensures in
    let v = c.in_ok-near.ensures in
    let w = c.in_ok-far.ensures in
    let run = c.requires.working.run in
    let at = (goal.at.returns-else-near-far c).In_ok-far in
    let l = read at in
    record {
      builds = (let d = u.steps in let e = v.steps in let f = w.steps in builds_after 2 3 10 turned_steps _ (lit≤ tt) (omega arith) c.requires.working l (omega (arith, d, e, f)) c.single.ensures.builds);
      built = ok_kept _ (λ m b. built_more 2 3 (lit≤ tt) (built_after run l.went.run l.went.start l.still b)) c.single.ensures.built;
      stands =
          ok_kept {T = Made} {P = λ m. StandsTurned c.args.middle c.args.side c.args.trees m.block c.height-2.new.pool c.single.new.pool} {Q = λ m. StandsOf (from_far c.args.side c.args.middle) c.args.trees m.block p c.single.new.pool} _ (λ m b. rotated_once p _ _ c.args.side c.args.middle c.args.trees m.block c.requires.some l.still.trees
          (λ y z sy sz. let h = told at y z sy sz in omega (arith, h.0, h.1)) b) c.single.ensures.stands;
      fresh = fresh_read _ l.still c.single.ensures.fresh;
      weighs =
          ok_kept {T = Made} {P = λ m. WeighsTurned c.args.middle c.args.side c.args.trees m.block c.height-2.new.pool c.single.new.pool} {Q = λ m. WeighsFar c.args.middle c.args.side c.args.trees m.block p c.single.new.pool} _ (λ m b. weighs_once p c.height-2.new.pool c.single.new.pool c.args.side c.args.middle c.args.trees m.block c.requires.some l.still
          (λ y z sy sz. let h = told at y z sy sz in omega (arith, h.0, h.1)) b) c.single.ensures.weighs;
      rests = rests_after c.single.result p c.height-2.new.pool c.single.new.pool l.working l.still c.single.ensures.builds c.single.ensures.rests;
    }
