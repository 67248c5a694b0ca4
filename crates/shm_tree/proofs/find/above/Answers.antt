use Rattle.std.proofs.Common.{◌≡◌, ℕ, ◌+◌, ◌*◌, ◌≤◌, ◌∙◌, subst, arith}
use Rattle.shm_tree.specs.{Standing.{TreeStands, weight}, Ways.down}
use Rattle.shm_tree.proofs.Answering.{node_still, reached_then}
use Rattle.shm_tree.proofs.Building.{looked, looked_none, looked_then, looks_after, looks_done, looks_from}
use Rattle.shm_tree.proofs.{Descents.{level_light, level_stands}, Ways.some_node, Lasts.{last_after, late_from}}
use Rattle.shm_tree.proofs.find.above.Goals as goal

pub loop-level-init : goal.loop-level-init
loop-level-init c = record { passed = looked_none c.args.pool.now c.args.life.now.left c.requires.working; steps = omega arith; reached = c.requires.tree.1; stands = λ t st. st; light = λ f t st. omega arith }

pub key-requires : goal.key-requires
key-requires c =
    let r = c.loop-level.invariant in
    let t = c.requires.tree.0 in
    let some = c.requires.deep t.0 t.1 c.loop-level._level (omega arith) in
    record { working = r.passed.working; node = some_node c.loop-level.pool c.loop-level.node _ (r.stands t.0 t.1) some; reached = r.reached }

pub child-requires : goal.child-requires
child-requires c =
    let r = c.loop-level.invariant in
    let a = c.in_ok-here.ensures in
    let t = c.requires.tree.0 in
    let some = c.requires.deep t.0 t.1 c.loop-level._level (omega arith) in
    let node = some_node c.loop-level.pool c.loop-level.node _ (r.stands t.0 t.1) some in
    record {
      working = a.looks.working;
      latch = a.looks.latch ∙ (r.passed.latch ∙ c.requires.latch);
      node = node_still c.loop-level.pool c.key.new.pool c.loop-level.node a.looks.still node;
      reached = reached_then c.loop-level.pool c.key.new.pool c.loop-level.node r.reached a.looks.reaches;
    }

pub loop-level-preserved : goal.loop-level-preserved
loop-level-preserved c =
    let r = c.loop-level.invariant in
    let a = c.in_ok-here.ensures in
    let b = c.in_ok-node.ensures in
    let run = c.requires.working.run in
    let x = c.args.wanted in
    let d = c.loop-level._level in
    record {
      passed = looked_then run (looked_then run r.passed (looked a.looks)) (looked b.looks);
      steps = let s = r.steps in let u = a.steps in let v = b.steps in omega (arith, s, u, v);
      reached = b.reached;
      stands = λ t st. level_stands c.loop-level.pool c.key.new.pool c.child.new.pool c.loop-level.node c.in_ok-node.node x c.in_ok-here.here c.of.result a.looks.still b.looks.still a.is c.of.ensures b.names t d (r.stands t st) (c.requires.deep t st d (omega arith));
      light =
          λ f t st.
          (let a1 = level_light c.loop-level.pool c.key.new.pool c.child.new.pool c.loop-level.node c.in_ok-node.node x c.in_ok-here.here c.of.result a.looks.still b.looks.still a.is c.of.ensures b.names f t d (r.stands t st) (c.requires.deep t st d (omega arith)) in
          let a2 = r.light f t st in
          omega (arith, a1, a2));
    }

pub returns : goal.returns
returns c =
    let r = c.loop-level.invariant in
    let all : c.loop-level._level ≡ c.args.depth = omega arith in
    record {
      looks = looks_done _ r.passed;
      late = tt;
      steps = let s = r.steps in omega (arith, s, all);
      stands = λ t st. subst (λ (i : ℕ). TreeStands c.loop-level.pool c.loop-level.node (down c.args.wanted t i)) all (r.stands t st);
      reached = r.reached;
      light = λ f t st. subst (λ (i : ℕ). weight f c.loop-level.pool c.loop-level.node (down c.args.wanted t i) ≤ weight f c.args.pool.now c.args.tree t) all (r.light f t st);
    }

pub returns-in_err-here-clause-looks : goal.returns-in_err-here-clause-looks
returns-in_err-here-clause-looks c =
    let r = c.loop-level.invariant.passed in
    looks_from c.from_residual.result c.from_residual.ensures.1 (looks_after c.requires.working.run r.went r.latch c.in_err-here.ensures.looks)

pub returns-in_err-node-clause-looks : goal.returns-in_err-node-clause-looks
returns-in_err-node-clause-looks c =
    let run = c.requires.working.run in
    let r = looked_then run c.loop-level.invariant.passed (looked c.in_ok-here.ensures.looks) in
    looks_from c.from_residual-in_err-node.result c.from_residual-in_err-node.ensures.1 (looks_after run r.went r.latch c.in_err-node.ensures.looks)

pub returns-in_err-here-clause-late : goal.returns-in_err-here-clause-late
returns-in_err-here-clause-late c =
    let i = c.loop-level.invariant in
    let s = i.steps in
    late_from c.from_residual.result c.from_residual.ensures.1 (λ e. last_after (5 * c.loop-level._level) (5 * c.args.depth) (omega arith) c.requires.working i.passed.went (omega (arith, s)) (c.in_err-here.ensures.late e))

pub returns-in_err-node-clause-late : goal.returns-in_err-node-clause-late
returns-in_err-node-clause-late c =
    let i = c.loop-level.invariant in
    let a = c.in_ok-here.ensures in
    let r = looked_then c.requires.working.run i.passed (looked a.looks) in
    let s = i.steps in
    let u = a.steps in
    late_from c.from_residual-in_err-node.result c.from_residual-in_err-node.ensures.1 (λ e. last_after (5 * c.loop-level._level + 2) (5 * c.args.depth) (omega arith) c.requires.working r.went (omega (arith, s, u)) (c.in_err-node.ensures.late e))
