use Rattle.std.proofs.Common.{◌≡◌, ◌+◌, false, true, sym, ap, ◌∙◌, arith}
use Rattle.std.specs.Prelude.{Ok, Err}
use Rattle.shm_graph.specs.{declared.ask.Turn.{Turn, TheVariants.{More, Done}}, Laws.{is_died, is_done}}
use Rattle.shm_pool.specs.Endings.{Answer}
use Rattle.shm_recover.specs.Machines.Recovering.{recover}
use Rattle.shm_async.proofs.Recovering.{ends_gone, ends_spent, goes, goes_stepped, none_stepped, not_true, over_stepped, some_left, stepped_then}
use Rattle.shm_async.proofs.recovery.step_some.Goals as goal

more_ok : (t : Turn Answer) → t ≡ More → t ≡ Done (Ok tt) → ⊥
more_ok t is done = let z : More ≡ Done (Ok tt) = sym is ∙ done in absurd (cc)

err_ok : (t : Turn Answer) (e : _) → t ≡ Done (Err e) → t ≡ Done (Ok tt) → ⊥
err_ok t e is done = let z : Done (Err e) ≡ Done (Ok tt) = sym is ∙ done in absurd (cc)

pub loop-made-init : goal.loop-made-init
loop-made-init c = (none_stepped c.args.rescuer.now c.args.life.now, c.requires, omega arith)

pub loop-made-preserved : goal.loop-made-preserved
loop-made-preserved c =
    let i = c.loop-made.invariant in
    let e = c.step.ensures in
    let alive : is_died c.step.result ≡ false = ap is_died c.in-More.is in
    let k = e.turn (some_left c.step.result c.loop-made.life.left e.died.1 alive) in
    let undone = not_true c.step.new.self.done (c.step.result ≡ Done (Ok tt)) (e.done alive).0 (more_ok c.step.result c.in-More.is) in
    let going : recover.finished c.step.new.self.machine ≡ false = e.finished ∙ ap is_done c.in-More.is in
    let less = c.loop-made-test.true in (
      stepped_then false c.loop-made.made 1 c.args.rescuer.now c.loop-made.rescuer c.step.new.self c.args.life.now c.loop-made.life c.step.new.life i.0
          (goes_stepped c.args.pool.now c.loop-made.rescuer c.step.new.self c.loop-made.life c.step.new.life c.step.result i.1 e.same k.0 k.1 k.2 c.in-More.is undone going),
      goes c.args.pool.now c.loop-made.rescuer c.step.new.self c.loop-made.life c.step.new.life c.step.result i.1 e.same k.0 k.1 k.2 c.in-More.is undone going,
      omega arith,
    )

pub returns-in-Done-Ok : goal.returns-in-Done-Ok
returns-in-Done-Ok c =
    let i = c.loop-made.invariant in
    let e = c.step.ensures in
    let is : c.step.result ≡ Done (Ok tt) = c.in-Done-Ok.is ∙ ap Done c.in-Done-Ok.field-0-is in
    let alive : is_died c.step.result ≡ false = ap is_died is in
    let k = e.turn (some_left c.step.result c.loop-made.life.left e.died.1 alive) in
    let less = c.loop-made-test.true in
    record {
      n = c.loop-made.made + 1;
      stepped = stepped_then true c.loop-made.made 1 c.args.rescuer.now c.loop-made.rescuer c.step.new.self c.args.life.now c.loop-made.life c.step.new.life i.0
          (over_stepped c.args.pool.now c.loop-made.rescuer c.step.new.self c.loop-made.life c.step.new.life c.step.result i.1 e.same k.0 k.1 k.2 (Ok tt) is);
      by = (omega arith, (e.done alive).1 is, ends_gone c.args.pool.now c.loop-made.rescuer c.step.new.self c.loop-made.life c.step.new.life c.step.result i.1 e.same k.0 k.1 k.2 is);
    }

pub returns-in-Done-Err : goal.returns-in-Done-Err
returns-in-Done-Err c =
    let i = c.loop-made.invariant in
    let e = c.step.ensures in
    let is : c.step.result ≡ Done (Err c.in-Done-Err.spent) = c.in-Done-Err.is ∙ ap Done c.in-Done-Err.field-0-is in
    let alive : is_died c.step.result ≡ false = ap is_died is in
    let k = e.turn (some_left c.step.result c.loop-made.life.left e.died.1 alive) in
    let less = c.loop-made-test.true in
    record {
      n = c.loop-made.made + 1;
      stepped = stepped_then true c.loop-made.made 1 c.args.rescuer.now c.loop-made.rescuer c.step.new.self c.args.life.now c.loop-made.life c.step.new.life i.0
          (over_stepped c.args.pool.now c.loop-made.rescuer c.step.new.self c.loop-made.life c.step.new.life c.step.result i.1 e.same k.0 k.1 k.2 (Err c.in-Done-Err.spent) is);
      by = (
        not_true c.step.new.self.done (c.step.result ≡ Done (Ok tt)) (e.done alive).0 (err_ok c.step.result c.in-Done-Err.spent is),
        (omega arith, ends_spent c.args.pool.now c.loop-made.rescuer c.step.new.self c.loop-made.life c.step.new.life c.step.result i.1 e.same k.0 k.1 k.2 c.in-Done-Err.spent is),
      );
    }

pub returns : goal.returns
returns c =
    let i = c.loop-made.invariant in
    let all = c.loop-made-test.false in
    record { n = c.loop-made.made; stepped = i.0; by = (omega arith, i.1) }
