use Rattle.shm_tree.proofs.Resting.{rests_dropped, rests_still, rests_then}
use Rattle.shm_tree.proofs.Sharings.{over_after, renewed_top, renewed_weighs, weighs_after}
use Rattle.shm_tree.proofs.Building.{alive_over, alive_refused, at_hand_still, builds_after, builds_drop, builds_first, builds_from, builds_stuck, built_after, built_cut, cheap_after, cheap_then, looked, rebuilt_alone, rebuilt_over, rooms_still, tree_still, went_on, held_at_hand, rebuilt_stands}
use Rattle.shm_tree.proofs.{Answering.alive_map, balance.renewed.Goals.In_ok-made, Lasts.last_any}
use Rattle.shm_tree.proofs.balance.renewed.Goals as goal
use Rattle.shm_tree.specs.Bounds.{balanced_steps, renewed_steps}
use Rattle.shm_tree.specs.Building.{Builds, IsAtHand, IsCheap, IsHeld, StandsOf, joined_by, IsRebuilt, block_of}
use Rattle.shm_tree.specs.{Keeping.{HasTree, IsStill, child_of, other_side}, Standing.TreeStands}
use Rattle.shm_tree.specs.declared.node.{Pair.Pair, Side.Side}
use Rattle.std.proofs.{Common.{◌+◌, ◌∙◌, lit≤, sym, ap, subst, arith}, lemmas.Result.err_from_is_err_and}
use Rattle.std.specs.Prelude.{Ok, IfSome}
use Rattle.shm_count.specs.declared.answer.Made.{Made}

pub balanced-requires : goal.balanced-requires
balanced-requires c =
    let p = c.args.pool.now in
    let u = c.in_ok-far.ensures in
    let same = rooms_still u.looks.still in
    let far = subst (HasTree p) (sym (u.names ∙ ap (λ (s : Side). child_of p c.args.node s) c.other.ensures)) c.requires.far in
    record {
      working = u.looks.working;
      latch = u.looks.latch ∙ c.requires.latch;
      room = omega arith;
      near = subst (IsAtHand c.child.new.pool) (sym c.block_of.ensures) (at_hand_still (block_of c.args.tree) (looked u.looks) (held_at_hand p c.args.tree c.requires.working c.requires.tree));
      far = (tree_still c.in_ok-far.far u.looks.still far, u.reached);
    }

pub returns-in_err-far-clause-builds : goal.returns-in_err-far-clause-builds
returns-in_err-far-clause-builds c =
    let e = c.in_err-far.ensures in
    builds_from c.from_residual.result c.from_residual.ensures.1 (builds_first e.looks (λ d. last_any (renewed_steps c.args.pool.now.start.geometry) (e.late d)))

pub returns-in_err-made-clause-builds : goal.returns-in_err-made-clause-builds
returns-in_err-made-clause-builds c =
    let u = c.in_ok-far.ensures in
    let d = u.steps in
    builds_from c.from_residual-in_err-made.result c.from_residual-in_err-made.ensures.1 (builds_after 3 3 3 balanced_steps _ (lit≤ tt) (omega arith) c.requires.working (looked u.looks) (omega (arith, d)) c.in_err-made.ensures.builds)

-- until the tree is made
before : (c : In_ok-made) → Builds c.args.hints 3 (3 + balanced_steps c.args.pool.now.start.geometry) (Ok c.in_ok-made.made) c.args.pool.now c.balanced.new.pool c.args.life.now.left c.balanced.new.life.left
before c = let u = c.in_ok-far.ensures in let d = u.steps in builds_after 3 3 3 balanced_steps _ (lit≤ tt) (omega arith) c.requires.working (looked u.looks) (omega (arith, d)) c.in_ok-made.ensures.builds

pub drop_root-requires : goal.drop_root-requires
drop_root-requires c =
    let held = subst (λ o. IfSome o (IsHeld c.args.pool.now)) c.in-Some.is c.requires.tree in
    record { working = c.in_ok-made.ensures.builds.working; root = held.low }

pub returns-in-None : goal.returns-in-None
returns-in-None c =
    let p = c.args.pool.now in
    let u = c.in_ok-far.ensures in
    let m = c.in_ok-made.ensures in
    let run = c.requires.working.run in
    let built = built_after run u.looks.went.run u.looks.went.start u.looks.still m.built in
    let far = u.names ∙ ap (λ (s : Side). child_of p c.args.node s) c.other.ensures in
    let trees : Pair = record { near = block_of c.args.tree; far = child_of p c.args.node (other_side c.args.side) } in
    let others : Pair = record { near = c.block_of.result; far = c.in_ok-far.far } in
    record {
      builds = (let d = u.steps in builds_after 3 3 3 balanced_steps _ (lit≤ tt) (omega arith) c.requires.working (looked u.looks) (omega (arith, d)) m.builds);
      rebuilt = subst (λ o. IsRebuilt 3 o c.in_ok-made.made p c.balanced.new.pool) (sym c.in-None.is) (rebuilt_alone built);
      stands =
          λ x y sx sy.
          m.stands x y (u.looks.still.trees _ x (subst (λ k. TreeStands p k x) (sym c.block_of.ensures) sx)) (u.looks.still.trees _ y (subst (λ k. TreeStands p k y) (sym far) sy));
      cheap = cheap_after trees others run u.looks.went.run u.looks.went.start u.looks.still c.block_of.ensures far m.cheap;
      fresh = sym (u.looks.still.lives c.in_ok-made.made.block) ∙ m.fresh;
      weighs = weighs_after p c.child.new.pool c.balanced.new.pool c.args.side c.args.middle trees others c.in_ok-made.made.block u.looks.still c.block_of.ensures far m.weighs;
      top = over_after p c.child.new.pool c.balanced.new.pool c.args.side trees others c.in_ok-made.made.block u.looks.still c.block_of.ensures far m.top;
      rests = rests_then p c.child.new.pool c.balanced.new.pool u.looks.working m.builds.working m.builds.went (rests_still u.looks.still) m.rests;
    }

pub returns-in_ok-drop_root-in-Some : goal.returns-in_ok-drop_root-in-Some
returns-in_ok-drop_root-in-Some c =
    let p = c.args.pool.now in
    let u = c.in_ok-far.ensures in
    let m = c.in_ok-made.ensures in
    let d = c.in_ok-drop_root-in-Some.ensures in
    let run = c.requires.working.run in
    let held = subst (λ o. IfSome o (IsHeld p)) c.in-Some.is c.requires.tree in
    let built = built_after run u.looks.went.run u.looks.went.start u.looks.still m.built in
    let went = went_on run u.looks.went m.builds.went in
    let far = u.names ∙ ap (λ (s : Side). child_of p c.args.node s) c.other.ensures in
    let trees : Pair = record { near = block_of c.args.tree; far = child_of p c.args.node (other_side c.args.side) } in
    let others : Pair = record { near = c.block_of.result; far = c.in_ok-far.far } in
    let stands : StandsOf (joined_by c.args.side c.args.middle) trees c.in_ok-made.made.block p c.balanced.new.pool =
    λ x y sx sy. m.stands x y (u.looks.still.trees _ x (subst (λ k. TreeStands p k x) (sym c.block_of.ensures) sx)) (u.looks.still.trees _ y (subst (λ k. TreeStands p k y) (sym far) sy)) in
    record {
      builds = builds_drop _ c.requires.working (before (goal.at.returns-in_ok-drop_root-in-Some c).In_ok-made) d.went d.working d.latch d.steps;
      rebuilt = subst (λ o. IsRebuilt 3 o c.in_ok-made.made p c.drop_root.new.pool) (sym c.in-Some.is) (rebuilt_over run went.run went.start held built d.emptied d.dropped d.working);
      stands =
          λ x y sx sy.
          rebuilt_stands _ held built d.dropped
          (m.stands x y (u.looks.still.trees _ x (subst (λ k. TreeStands p k x) (sym c.block_of.ensures) sx)) (u.looks.still.trees _ y (subst (λ k. TreeStands p k y) (sym far) sy)));
      cheap = cheap_then trees run went.run went.start (cheap_after trees others run u.looks.went.run u.looks.went.start u.looks.still c.block_of.ensures far m.cheap) d.dropped.made;
      fresh = sym (u.looks.still.lives c.in_ok-made.made.block) ∙ m.fresh;
      weighs = renewed_weighs p c.balanced.new.pool c.drop_root.new.pool 3 _ c.in_ok-made.made held built d.emptied d.dropped d.working c.args.side c.args.middle trees stands
          (weighs_after p c.child.new.pool c.balanced.new.pool c.args.side c.args.middle trees others c.in_ok-made.made.block u.looks.still c.block_of.ensures far m.weighs);
      top = renewed_top p c.balanced.new.pool c.drop_root.new.pool 3 _ c.in_ok-made.made held built d.emptied d.dropped d.working c.args.side c.args.middle trees stands
          (over_after p c.child.new.pool c.balanced.new.pool c.args.side trees others c.in_ok-made.made.block u.looks.still c.block_of.ensures far m.top);
      rests = rests_then p c.balanced.new.pool c.drop_root.new.pool m.builds.working d.working d.went (rests_then p c.child.new.pool c.balanced.new.pool u.looks.working m.builds.working m.builds.went (rests_still u.looks.still) m.rests) (rests_dropped _ c.balanced.new.pool c.drop_root.new.pool d.working d.dropped);
    }

pub returns-in_err-drop_root-in-Some-clause-builds : goal.returns-in_err-drop_root-in-Some-clause-builds
returns-in_err-drop_root-in-Some-clause-builds c =
    let u = c.in_ok-far.ensures in
    let m = c.in_ok-made.ensures in
    let e = c.in_err-drop_root-in-Some.ensures in
    let run = c.requires.working.run in
    let built = built_after run u.looks.went.run u.looks.went.start u.looks.still m.built in
    builds_from c.from_residual-in_err-drop_root-in-Some.result c.from_residual-in_err-drop_root-in-Some.ensures.1 (builds_stuck _ c.requires.working (before (goal.at.returns-in_err-drop_root-in-Some-clause-builds c).In_ok-made) (built_cut built) e.went e.working e.latch e.still e.refused_steps e.cause e.died e.late)

pub returns-in_err-far-clause-cheap : goal.returns-in_err-far-clause-cheap
returns-in_err-far-clause-cheap c = let d = c.in_err-far.ensures.looks.died in alive_over (IsCheap (record { near = block_of c.args.tree; far = child_of c.args.pool.now c.args.node (other_side c.args.side) }) c.args.pool.now c.child.new.pool) c.from_residual.result c.from_residual.ensures.1 d.0

pub returns-in_err-made-clause-cheap : goal.returns-in_err-made-clause-cheap
returns-in_err-made-clause-cheap c =
    let p = c.args.pool.now in
    let u = c.in_ok-far.ensures in
    let run = c.requires.working.run in
    let far = u.names ∙ ap (λ (s : Side). child_of p c.args.node s) c.other.ensures in
    let trees : Pair = record { near = block_of c.args.tree; far = child_of p c.args.node (other_side c.args.side) } in
    let others : Pair = record { near = c.block_of.result; far = c.in_ok-far.far } in
    let handed = err_from_is_err_and c.from_residual-in_err-made.result c.from_residual-in_err-made.ensures.1 in
    rw (handed.1, handed.2) (alive_map Made Made (IsCheap others c.child.new.pool c.balanced.new.pool) (IsCheap trees p c.balanced.new.pool) _ (λ b. cheap_after trees others run u.looks.went.run u.looks.went.start u.looks.still c.block_of.ensures far b) c.in_err-made.ensures.cheap)

pub returns-in_err-drop_root-in-Some-clause-cheap : goal.returns-in_err-drop_root-in-Some-clause-cheap
returns-in_err-drop_root-in-Some-clause-cheap c =
    let p = c.args.pool.now in
    let u = c.in_ok-far.ensures in
    let m = c.in_ok-made.ensures in
    let run = c.requires.working.run in
    let went = went_on run u.looks.went m.builds.went in
    let far = u.names ∙ ap (λ (s : Side). child_of p c.args.node s) c.other.ensures in
    let trees : Pair = record { near = block_of c.args.tree; far = child_of p c.args.node (other_side c.args.side) } in
    let others : Pair = record { near = c.block_of.result; far = c.in_ok-far.far } in
    let handed = err_from_is_err_and c.from_residual-in_err-drop_root-in-Some.result c.from_residual-in_err-drop_root-in-Some.ensures.1 in
    rw (handed.1, handed.2) (alive_refused (Unit {0}) Made (IsStill c.balanced.new.pool c.drop_root.new.pool) (IsCheap trees p c.drop_root.new.pool) _ (λ s. cheap_then trees run went.run went.start (cheap_after trees others run u.looks.went.run u.looks.went.start u.looks.still c.block_of.ensures far m.cheap) s.made) c.in_err-drop_root-in-Some.ensures.still)
