use Rattle.std.proofs.Common.{◌≡◌, refl, ap, ◌∙◌, subst, true, Bool, false}
use Rattle.shm_graph.specs.declared.ask.Me.{Me}
use Rattle.shm_plain.specs.Calls.{TookSteps, Ran}
use Rattle.plans.specs.{CallsControl.{calls_control, calls_of, calls_does}, Words.word_control}
use Rattle.shm_count.specs.Roots.{member}
use Rattle.shm_ref.specs.{declared.hold.HoldState.HoldState, Hold.{Control.{holding, hold_steered}, hold_plan}}
use Rattle.shm_tree.proofs.{Alive.{went_alive, went_dead}, Answering.plan_answered, Counts.taken_by}
use Rattle.shm_tree.proofs.{Latches.{held_latch, held_reaches, held_still, held_works, hold_free}, Anytime.always_falls}
use Rattle.shm_tree.proofs.{calls.hold.Goals.After-run, Lasts.last_ran}
use Rattle.shm_tree.proofs.calls.hold.Goals as goal
use Rattle.shm_tree.specs.Falling.{AreFalling}

-- references fall after it, whether it was answered or not
falls : (c : After-run) (answered : Bool) → Ran 0 true answered c.args.pool.now c.run.new.self c.args.life.now.left c.run.new.life.left → AreFalling c.args.pool.now → AreFalling c.run.new.self
falls c answered ran = always_falls (calls_control word_control hold_steered) (calls_does word_control hold_plan) (calls_of hold_steered c.new-holding.result) answered c.args.pool.now c.run.new.self c.args.life.now.left c.run.new.life.left (λ r n s i. tt) c.requires.working ran c.run.ensures.told

pub unreachable-requires : goal.unreachable-requires
unreachable-requires c =
    let p = c.args.pool.now in
    let q = c.run.new.self in
    let (es, on, h) = plan_answered word_control hold_plan (λ (x : Me). holding x 0) p q c.in-Some-Err.field-0 c.me.ensures.is c.new-holding.ensures c.in-Some-Err.field-0-is c.requires.working c.in-Some-Err.ensures.ran (c.in-Some-Err.ensures.at_work tt) c.in-Some-Err.ensures.leaves in
    let made : c.new-holding.result ≡ holding (member p.start.geometry 0) 0 = c.new-holding.ensures ∙ ap (λ (x : Me). holding x 0) c.me.ensures.is in
    hold_free p q es on c.in-Some-Err.field-0-0 c.requires.latch h (subst (λ (s : HoldState). TookSteps (calls_control word_control hold_steered) 0 p (calls_of hold_steered s) q) made c.in-Some-Err.ensures.took)

pub returns-in-None : goal.returns-in-None
returns-in-None c =
    record {
      went = went_dead true c.args.pool.now c.run.new.self _ _ c.requires.working c.in-None.ensures.ran (falls (goal.at.returns-in-None c).After-run false c.in-None.ensures.ran);
      working = tt;
      latch = tt;
      still = tt;
      reaches = tt;
      steps = tt;
      died = (refl, c.in-None.ensures.ran.died refl, c.in-None.ensures.ran.within refl);
      late = λ d. last_ran c.requires.working c.in-None.ensures.ran;
    }

pub returns-in-Some-Ok : goal.returns-in-Some-Ok
returns-in-Some-Ok c =
    let p = c.args.pool.now in
    let q = c.run.new.self in
    let (es, on, h) = plan_answered word_control hold_plan (λ (x : Me). holding x 0) p q c.in-Some-Ok.field-0 c.me.ensures.is c.new-holding.ensures c.in-Some-Ok.field-0-is c.requires.working c.in-Some-Ok.ensures.ran (c.in-Some-Ok.ensures.at_work tt) c.in-Some-Ok.ensures.leaves in
    record {
      went = went_alive true p q _ _ c.in-Some-Ok.ensures.ran (c.in-Some-Ok.ensures.at_work tt) (falls (goal.at.returns-in-Some-Ok c).After-run true c.in-Some-Ok.ensures.ran);
      working = held_works p q es on tt h;
      latch = held_latch p q es on tt h;
      still = held_still p q es on tt h;
      reaches = held_reaches p q es on tt h;
      steps = taken_by _ _ _ _ h.trail (c.in-Some-Ok.ensures.ran.spent (c.in-Some-Ok.ensures.ran.some refl) refl);
      died = tt;
      late = tt;
    }
