use Rattle.std.proofs.{Common.{◌≡◌, ℕ, suc, ◌+◌, ◌*◌, ◌-◌, ◌∙◌, inl, inr, sym, subst, arith}, lemmas.Bool.cases_eq}
use Rattle.shm_tree.specs.{Standing.TreeStands, Trees.{Tree, height}, Ways.{IsSome, down, toward}}
use Rattle.shm_tree.proofs.{Answering.reached_then, Building.{looked, looked_then, looks_after, looks_done, looks_from}}
use Rattle.shm_tree.proofs.{Descents.way_low, Levels.behind, Onward.{left_child, right_child, some_end}}
use Rattle.shm_tree.proofs.Ways.{down_lower, height_at_is, stands_node, stands_none, toward_lower}
use Rattle.shm_tree.proofs.Lasts.{last_after, last_any, late_from}
use Rattle.shm_tree.proofs.find.last.Goals as goal

pub child-requires : goal.child-requires
child-requires c =
    let t = c.requires.tree in
    record { working = c.requires.working; latch = c.requires.latch; node = (stands_node c.args.pool.now c.args.place.node t.0 t.1 c.requires.some).0; reached = c.requires.reached }

pub loop-next-init : goal.loop-next-init
loop-next-init c =
    let p = c.args.pool.now in
    let q = c.child.new.pool in
    let u = c.in_ok-next.ensures in
    let b = c.args.place.node in
    let d = c.args.place.depth in
    let n = c.in_ok-next.next in
    let none : d - d ≡ 0 = omega arith in
    record {
      passed = looked u.looks;
      reached = reached_then p q b c.requires.reached u.looks.reaches;
      next_reached = u.reached;
      steps = (let s = u.steps in omega (arith, s));
      below = omega arith;
      stands = λ x t st se en. subst (λ (i : ℕ). TreeStands q b (down x t i)) (sym none) (u.looks.still.trees b t st);
      next = λ x t st se en. subst (λ (i : ℕ). TreeStands q n (down x t (suc i))) (sym none) (right_child p q b n x t u.looks.still u.names en c.requires.some st);
      deep = λ x t st se en i lt. (let is : i ≡ 0 = omega (arith, lt) in subst (λ (k : ℕ). IsSome (down x t k)) (sym is) (stands_node p b t st c.requires.some).1);
    }

pub child-requires-in-loop-next : goal.child-requires-in-loop-next
child-requires-in-loop-next c =
    let r = c.loop-next.invariant in
    let t = c.requires.tree in
    let x = some_end t.0 in
    record {
      working = r.passed.working;
      latch = r.passed.latch ∙ c.requires.latch;
      node = (stands_node c.loop-next.pool c.loop-next.next _ (r.next x.0 t.0 t.1 t.2 x.1) c.loop-next-test.true).0;
      reached = r.next_reached;
    }

pub loop-next-preserved : goal.loop-next-preserved
loop-next-preserved c =
    let r = c.loop-next.invariant in
    let u = c.in_ok-next-2.ensures in
    let run = c.requires.working.run in
    let q = c.loop-next.pool in
    let v = c.child-in-loop-next.new.pool in
    let b = c.loop-next.next in
    let n = c.in_ok-next-2.next in
    let d = c.args.place.depth in
    let below = r.below in
    let j : ℕ = c.loop-next.lowest.depth - d in
    let is : (c.loop-next.lowest.depth + 1) - d ≡ suc j = omega arith in
    let some = c.loop-next-test.true in
    record {
      passed = looked_then run r.passed (looked u.looks);
      reached = reached_then q v b r.next_reached u.looks.reaches;
      next_reached = u.reached;
      steps = (let s = r.steps in let v = u.steps in omega (arith, s, v, below));
      below = omega arith;
      stands = λ x t st se en. subst (λ (i : ℕ). TreeStands v b (down x t i)) (sym is) (u.looks.still.trees b (down x t (suc j)) (r.next x t st se en));
      next = λ x t st se en. subst (λ (i : ℕ). TreeStands v n (down x t (suc i))) (sym is) (left_child q v b n x (down x t (suc j)) u.looks.still u.names (behind x t j se en) some (r.next x t st se en));
      deep =
          λ x t st se en i lt. elim (cases_eq i (suc j)) [
            | inl e ↦ subst (λ (k : ℕ). IsSome (down x t k)) (sym e) (stands_node q b (down x t (suc j)) (r.next x t st se en) some).1
            | inr ne ↦ r.deep x t st se en i (omega (arith, lt, is, ne))
          ];
    }

pub loop-next-smaller : goal.loop-next-smaller
loop-next-smaller c =
    let r = c.loop-next.invariant in
    let u = c.in_ok-next-2.ensures in
    let q = c.loop-next.pool in
    let v = c.child-in-loop-next.new.pool in
    let b = c.loop-next.next in
    let n = c.in_ok-next-2.next in
    let j : ℕ = c.loop-next.lowest.depth - c.args.place.depth in
    let t = c.requires.tree in
    let x = some_end t.0 in
    let here = r.next x.0 t.0 t.1 t.2 x.1 in
    let w : Tree = down x.0 t.0 (suc j) in
    let there : TreeStands v n (toward x.0 w) = left_child q v b n x.0 w u.looks.still u.names (behind x.0 t.0 j t.2 x.1) c.loop-next-test.true here in
    omega (arith, height_at_is v n (toward x.0 w) there, height_at_is q b w here, toward_lower x.0 w (stands_node q b w here c.loop-next-test.true).1)

pub overflow_add-lowest : goal.overflow_add-lowest
overflow_add-lowest c =
    let r = c.loop-next.invariant in
    let j : ℕ = c.loop-next.lowest.depth - c.args.place.depth in
    let t = c.requires.tree in
    let x = some_end t.0 in
    let below = r.below in
    let start = c.requires.low in
    let low = way_low c.args.pool.now c.args.place.node x.0 (suc j) t.0 c.requires.working t.1 (r.deep x.0 t.0 t.1 t.2 x.1) in
    omega (arith, low, below, start)

pub returns : goal.returns
returns c =
    let r = c.loop-next.invariant in
    let q = c.loop-next.pool in
    record {
      looks = looks_done _ r.passed;
      late = λ t st se. tt;
      steps = r.steps;
      below = r.below;
      last = λ x t st se en. record { stands = r.stands x t st se en; deep = r.deep x t st se en; end = stands_none q c.loop-next.next _ (r.next x t st se en) (omega arith) };
      reached = r.reached;
    }

pub returns-in_err-next-clause-looks : goal.returns-in_err-next-clause-looks
returns-in_err-next-clause-looks c = looks_from c.from_residual.result c.from_residual.ensures.1 c.in_err-next.ensures.looks

pub returns-in_err-next-2-clause-looks : goal.returns-in_err-next-2-clause-looks
returns-in_err-next-2-clause-looks c =
    let r = c.loop-next.invariant.passed in
    looks_from c.from_residual-in_err-next-2.result c.from_residual-in_err-next-2.ensures.1 (looks_after c.requires.working.run r.went r.latch c.in_err-next-2.ensures.looks)

pub returns-in_err-next-clause-late : goal.returns-in_err-next-clause-late
returns-in_err-next-clause-late c = λ t st se. late_from c.from_residual.result c.from_residual.ensures.1 (λ e. last_any (3 * height t) (c.in_err-next.ensures.late e))

pub returns-in_err-next-2-clause-late : goal.returns-in_err-next-2-clause-late
returns-in_err-next-2-clause-late c =
    let r = c.loop-next.invariant in
    let s = r.steps in
    let j : ℕ = c.loop-next.lowest.depth - c.args.place.depth in
    λ t st se.
    let x = some_end t in
    let low = down_lower x.0 t (suc j) (r.deep x.0 t st se x.1) in
    late_from c.from_residual-in_err-next-2.result c.from_residual-in_err-next-2.ensures.1 (λ e. last_after (3 * (j + 1)) (3 * height t) (omega (arith, low)) c.requires.working r.passed.went (omega (arith, s)) (c.in_err-next-2.ensures.late e))
