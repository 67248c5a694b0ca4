use Rattle.std.proofs.{Common.{ℕ, ◌+◌, ◌*◌, ◌∙◌, inl, inr, sym, subst, arith}, lemmas.Bool.cases_eq}
use Rattle.shm_tree.specs.{Standing.TreeStands, Trees.{Tree, height}, Ways.{IsOther, IsSome, down}}
use Rattle.shm_tree.proofs.Answering.{node_still, reached_then}
use Rattle.shm_tree.proofs.Building.{looked, looked_none, looked_then, looks_after, looks_done, looks_from}
use Rattle.shm_tree.proofs.Descents.{level_light, level_lower, level_stands, none_end, others_deep, way_low}
use Rattle.shm_tree.proofs.{Ways.{down_lower, key_end, key_other, stands_node}, Weights.weight_nodes}
use Rattle.shm_tree.proofs.Lasts.{last_after, late_from}
use Rattle.shm_tree.proofs.find.find.Goals as goal

pub loop-node-init : goal.loop-node-init
loop-node-init c =
    record {
      passed = looked_none c.args.pool.now c.args.life.now.left c.requires.working;
      steps = omega arith;
      reached = c.requires.tree.1;
      stands = λ t st. st;
      light = λ f t st. omega arith;
      on = λ t st i lt. absurd (omega (arith, lt));
    }

pub key-requires : goal.key-requires
key-requires c =
    let r = c.loop-node.invariant in
    let t = c.requires.tree.0 in
    record {
      working = r.passed.working;
      node = (stands_node c.loop-node.pool c.loop-node.node _ (r.stands t.0 t.1) c.loop-node-test.true).0;
      reached = r.reached;
    }

pub child-requires : goal.child-requires
child-requires c =
    let r = c.loop-node.invariant in
    let a = c.in_ok-here.ensures in
    let t = c.requires.tree.0 in
    let node = (stands_node c.loop-node.pool c.loop-node.node _ (r.stands t.0 t.1) c.loop-node-test.true).0 in
    record {
      working = a.looks.working;
      latch = a.looks.latch ∙ (r.passed.latch ∙ c.requires.latch);
      node = node_still c.loop-node.pool c.key.new.pool c.loop-node.node a.looks.still node;
      reached = reached_then c.loop-node.pool c.key.new.pool c.loop-node.node r.reached a.looks.reaches;
    }

pub loop-node-preserved : goal.loop-node-preserved
loop-node-preserved c =
    let r = c.loop-node.invariant in
    let a = c.in_ok-here.ensures in
    let b = c.in_ok-node.ensures in
    let run = c.requires.working.run in
    let p = c.loop-node.pool in
    let q = c.key.new.pool in
    let x = c.args.wanted in
    let d = c.loop-node.depth in
    let some : (t : Tree) → TreeStands c.args.pool.now c.args.tree t → IsSome (down x t d) = λ t st. (stands_node p c.loop-node.node (down x t d) (r.stands t st) c.loop-node-test.true).1 in
    let other : (t : Tree) → TreeStands c.args.pool.now c.args.tree t → IsOther x (down x t d) =
    λ t st. key_other p c.loop-node.node x c.in_ok-here.here (down x t d) (r.stands t st) (some t st) a.is (λ e. omega arith) in
    record {
      passed = looked_then run (looked_then run r.passed (looked a.looks)) (looked b.looks);
      steps = let s = r.steps in let u = a.steps in let v = b.steps in omega (arith, s, u, v);
      reached = b.reached;
      stands = λ t st. level_stands p q c.child.new.pool c.loop-node.node c.in_ok-node.node x c.in_ok-here.here c.of.result a.looks.still b.looks.still a.is c.of.ensures b.names t d (r.stands t st) (some t st);
      light =
          λ f t st.
          (let a1 = level_light p q c.child.new.pool c.loop-node.node c.in_ok-node.node x c.in_ok-here.here c.of.result a.looks.still b.looks.still a.is c.of.ensures b.names f t d (r.stands t st) (some t st) in
          let a2 = r.light f t st in
          omega (arith, a1, a2));
      on =
          λ t st i lt. elim (cases_eq i d) [
            | inl e ↦ subst (λ (j : ℕ). IsOther x (down x t j)) (sym e) (other t st)
            | inr ne ↦ r.on t st i (omega arith)
          ];
    }

pub loop-node-smaller : goal.loop-node-smaller
loop-node-smaller c =
    let r = c.loop-node.invariant in
    let a = c.in_ok-here.ensures in
    let b = c.in_ok-node.ensures in
    let p = c.loop-node.pool in
    let x = c.args.wanted in
    let d = c.loop-node.depth in
    let t = c.requires.tree.0 in
    let st = r.stands t.0 t.1 in
    level_lower p c.key.new.pool c.child.new.pool c.loop-node.node c.in_ok-node.node x c.in_ok-here.here c.of.result a.looks.still b.looks.still a.is c.of.ensures b.names t.0 d st (stands_node p c.loop-node.node (down x t.0 d) st c.loop-node-test.true).1

pub overflow_add-depth : goal.overflow_add-depth
overflow_add-depth c =
    let r = c.loop-node.invariant in
    let x = c.args.wanted in
    let d = c.loop-node.depth in
    let t = c.requires.tree.0 in
    let low = way_low c.args.pool.now c.args.tree x d t.0 c.requires.working t.1 (others_deep x d t.0 (r.on t.0 t.1)) in
    omega (arith, low)

pub returns : goal.returns
returns c =
    let r = c.loop-node.invariant in
    let p = c.loop-node.pool in
    let x = c.args.wanted in
    let d = c.loop-node.depth in
    let t = c.requires.tree.0 in
    record {
      looks = looks_done _ r.passed;
      late = λ t st. tt;
      steps = let s = r.steps in omega (arith, s);
      place = λ u su. record { stands = r.stands u su; end = none_end p c.loop-node.node x (down x u d) (r.stands u su) (omega arith); on = r.on u su };
      low = way_low c.args.pool.now c.args.tree x d t.0 c.requires.working t.1 (others_deep x d t.0 (r.on t.0 t.1));
      reached = r.reached;
      light = r.light;
    }

pub returns-then-here-from : goal.returns-then-here-from
returns-then-here-from c =
    let r = c.loop-node.invariant in
    let a = c.in_ok-here.ensures in
    let p = c.loop-node.pool in
    let x = c.args.wanted in
    let d = c.loop-node.depth in
    let t = c.requires.tree.0 in
    let run = c.requires.working.run in
    let read = looked_then run r.passed (looked a.looks) in
    record {
      looks = looks_done _ read;
      late = λ t st. tt;
      steps = let s = r.steps in let u = a.steps in omega (arith, s, u);
      place =
          λ u su. record {
            stands = a.looks.still.trees c.loop-node.node (down x u d) (r.stands u su);
            end = key_end p c.loop-node.node x c.in_ok-here.here (down x u d) (r.stands u su) a.is (omega arith);
            on = r.on u su;
          };
      low = way_low c.args.pool.now c.args.tree x d t.0 c.requires.working t.1 (others_deep x d t.0 (r.on t.0 t.1));
      reached = reached_then p c.key.new.pool c.loop-node.node r.reached a.looks.reaches;
      light =
          λ f u su.
          (let a1 = weight_nodes f p c.key.new.pool a.looks.still.nodes c.loop-node.node (down x u d) (r.stands u su) in
          let a2 = r.light f u su in
          omega (arith, a1, a2));
    }

pub returns-in_err-here-clause-looks : goal.returns-in_err-here-clause-looks
returns-in_err-here-clause-looks c =
    let r = c.loop-node.invariant.passed in
    looks_from c.from_residual.result c.from_residual.ensures.1 (looks_after c.requires.working.run r.went r.latch c.in_err-here.ensures.looks)

pub returns-in_err-node-clause-looks : goal.returns-in_err-node-clause-looks
returns-in_err-node-clause-looks c =
    let run = c.requires.working.run in
    let r = looked_then run c.loop-node.invariant.passed (looked c.in_ok-here.ensures.looks) in
    looks_from c.from_residual-in_err-node.result c.from_residual-in_err-node.ensures.1 (looks_after run r.went r.latch c.in_err-node.ensures.looks)

pub returns-in_err-here-clause-late : goal.returns-in_err-here-clause-late
returns-in_err-here-clause-late c =
    let i = c.loop-node.invariant in
    let s = i.steps in
    let x = c.args.wanted in
    let d = c.loop-node.depth in
    λ t st.
    let low = down_lower x t d (others_deep x d t (i.on t st)) in
    late_from c.from_residual.result c.from_residual.ensures.1 (λ e. last_after (5 * d) (5 * height t + 2) (omega (arith, low)) c.requires.working i.passed.went (omega (arith, s)) (c.in_err-here.ensures.late e))

pub returns-in_err-node-clause-late : goal.returns-in_err-node-clause-late
returns-in_err-node-clause-late c =
    let i = c.loop-node.invariant in
    let a = c.in_ok-here.ensures in
    let r = looked_then c.requires.working.run i.passed (looked a.looks) in
    let s = i.steps in
    let u = a.steps in
    let x = c.args.wanted in
    let d = c.loop-node.depth in
    λ t st.
    let low = down_lower x t d (others_deep x d t (i.on t st)) in
    late_from c.from_residual-in_err-node.result c.from_residual-in_err-node.ensures.1 (λ e. last_after (5 * d + 2) (5 * height t + 2) (omega (arith, low)) c.requires.working r.went (omega (arith, s, u)) (c.in_err-node.ensures.late e))
