use Rattle.std.proofs.Common.{◌≡◌, ℕ, ◌+◌, ◌≤◌, refl, sym, subst, arith, Result, Ok, Err}
use Rattle.std.specs.Prelude.{IfOk}
use Rattle.shm_plain.specs.Pools.{Pool}
use Rattle.shm_tree.specs.declared.{stop.Stop.Stop, node.{Pair.Pair, Side.TheVariants.{Left, Right}}}
use Rattle.shm_tree.specs.{Inserting.{left_of, right_of}, Standing.{TreeStands, weight}, Trees.Tree, Keeping.child_of}
use Rattle.shm_tree.proofs.{Lights.{none_light, trees_light}, Building.{looked_none, looks_done, ok_kept}}
use Rattle.shm_tree.proofs.{Inserting.{no_trees, node_trees}, Rotations.node_of, Counts.taken_most}
use Rattle.shm_tree.proofs.insert.trees_of.Goals as goal

pub returns-then-node-eq0 : goal.returns-then-node-eq0
returns-then-node-eq0 c =
    let p = c.args.pool.now in
    let n = looked_none p c.args.life.now.left c.requires.working in
    record {
      looks = looks_done _ n;
      late = tt;
      steps = omega arith;
      near = λ t s. (no_trees p c.args.node t (omega arith) s).0;
      far = λ t s. (no_trees p c.args.node t (omega arith) s).1;
      near_reached = λ some. absurd (some refl);
      far_reached = λ some. absurd (some refl);
      light = λ f t s. none_light f p c.args.node t (omega arith) s;
    }

pub children-requires : goal.children-requires
children-requires c = record { working = c.requires.working; latch = c.requires.latch; node = node_of c.args.pool.now c.args.node (omega arith) c.requires.node.0; reached = c.requires.node.1 }

both_kept : (p : Pool) (node : ℕ) (o : Result Pair Stop) → IfOk o (λ w. w.near ≡ child_of p node Left) → IfOk o (λ w. w.far ≡ child_of p node Right) → IfOk o (λ w. (f : ℕ → ℕ) (t : Tree) → TreeStands p node t → weight f p w.near (left_of t) + weight f p w.far (right_of t) ≤ weight f p node t)
both_kept p node (Ok w) a b = λ f t s. trees_light f p node w.near w.far t a b
both_kept p node (Err e) a b = tt

pub returns-else-node-eq0 : goal.returns-else-node-eq0
returns-else-node-eq0 c =
    let p = c.args.pool.now in
    let u = c.children.ensures in
    record {
      looks = u.looks;
      late = u.late;
      steps = taken_most 6 c.args.life.now.left c.children.new.life.left c.children.result u.steps;
      near = ok_kept {T = Pair} {P = λ w. w.near ≡ child_of p c.args.node Left} {Q = λ w. (t : Tree) → TreeStands p c.args.node t → TreeStands p w.near (left_of t)} _ (λ w e t s. subst (λ k. TreeStands p k (left_of t)) (sym e) (node_trees p c.args.node t (omega arith) s).0) u.near;
      far = ok_kept {T = Pair} {P = λ w. w.far ≡ child_of p c.args.node Right} {Q = λ w. (t : Tree) → TreeStands p c.args.node t → TreeStands p w.far (right_of t)} _ (λ w e t s. subst (λ k. TreeStands p k (right_of t)) (sym e) (node_trees p c.args.node t (omega arith) s).1) u.far;
      near_reached = u.near_reached;
      far_reached = u.far_reached;
      light = both_kept p c.args.node c.children.result u.near u.far;
    }
