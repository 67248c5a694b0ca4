use Rattle.std.proofs.Common.{lit≤, sym, subst, arith}
use Rattle.std.specs.Prelude.{Option}
use Rattle.shm_count.specs.declared.answer.Made.{Made}
use Rattle.shm_tree.specs.{Bounds.{remnant_steps, share_steps}, Building.block_of, Keeping.{HasTree, child_of}}
use Rattle.shm_tree.specs.Removing.{IsKept, StandsMoved}
use Rattle.shm_tree.proofs.Building.{builds_after, builds_first, builds_from, looked, ok_kept, rooms_still, tree_still}
use Rattle.shm_tree.proofs.{Resting.rests_after, Removing.{kept_after, moved_after}, Rotations.{child_tree, node_of}}
use Rattle.shm_tree.proofs.Lasts.{last_any}
use Rattle.shm_tree.proofs.remove.remnant.Goals as goal

pub child-requires : goal.child-requires
child-requires c = record { working = c.requires.working; latch = c.requires.latch; node = node_of c.args.pool.now c.args.node c.requires.some c.requires.node.0; reached = c.requires.node.1 }

pub shared-requires : goal.shared-requires
shared-requires c =
    let p = c.args.pool.now in
    let u = c.in_ok-tree.ensures in
    let same = rooms_still u.looks.still in
    let t : HasTree p c.in_ok-tree.tree = subst (HasTree p) (sym u.names) (child_tree p c.args.node c.args.side c.requires.some c.requires.node.0) in
    record { working = u.looks.working; room = omega arith; tree = (tree_still c.in_ok-tree.tree u.looks.still t, u.reached) }

pub returns-in_err-tree-clause-builds : goal.returns-in_err-tree-clause-builds
returns-in_err-tree-clause-builds c =
    let e = c.in_err-tree.ensures in
    builds_from c.from_residual.result c.from_residual.ensures.1 (builds_first e.looks (λ d. last_any (remnant_steps c.args.pool.now.start.geometry) (e.late d)))

pub returns : goal.returns
returns c =
    let p = c.args.pool.now in
    let q = c.child.new.pool in
    let r = c.shared.new.pool in
    let u = c.in_ok-tree.ensures in
    let s = c.shared.ensures in
    let run = c.requires.working.run in
    record {
      builds = (let one = u.steps in builds_after 0 0 3 share_steps _ (lit≤ tt) (omega arith) c.requires.working (looked u.looks) (omega (arith, one)) s.builds);
      kept = ok_kept {T = Option Made} {P = λ o. IsKept 0 o q r} {Q = λ o. IsKept 0 o p r} _ (λ o b. kept_after 0 p q r o run u.looks.went.run u.looks.went.start u.looks.still b) s.kept;
      stands = ok_kept {T = Option Made} {P = λ o. StandsMoved c.in_ok-tree.tree (block_of o) q r} {Q = λ o. StandsMoved (child_of p c.args.node c.args.side) (block_of o) p r} _ (λ o b. moved_after r (child_of p c.args.node c.args.side) c.in_ok-tree.tree (block_of o) u.looks.still u.names b) s.stands;
      rests = rests_after c.shared.result p q r u.looks.working u.looks.still s.builds s.rests;
    }
