use Rattle.std.proofs.Common.{refl, true, Bool, false}
use Rattle.shm_plain.specs.{Pools.memo_of, Calls.Ran}
use Rattle.plans.specs.{Words.word_control, CallsControl.{calls_control, calls_does, calls_of}}
use Rattle.shm_count.specs.Roots.{member}
use Rattle.shm_ref.specs.{Proved.LatchTasks.ReleaseMay, Release.{release_plan, releasing, release_steered}}
use Rattle.shm_client.proofs.Running.{plan_may}
use Rattle.shm_tree.proofs.{Alive.{went_alive, went_dead}, Answering.plan_answered, Counts.taken_by}
use Rattle.shm_tree.proofs.{Latches.{released_still, released_works}, Anytime.always_falls, CutOffs.cut_ran}
use Rattle.shm_tree.proofs.{calls.release.Goals.After-run, Lasts.last_ran}
use Rattle.shm_tree.proofs.calls.release.Goals as goal
use Rattle.shm_tree.specs.Falling.{AreFalling}

-- references fall after it, whether it was answered or not
falls : (c : After-run) (answered : Bool) → Ran 0 true answered c.args.pool.now c.run.new.self c.args.life.now.left c.run.new.life.left → AreFalling c.args.pool.now → AreFalling c.run.new.self
falls c answered ran = always_falls (calls_control word_control release_steered) (calls_does word_control release_plan) (calls_of release_steered c.new-releasing.result) answered c.args.pool.now c.run.new.self c.args.life.now.left c.run.new.life.left (λ r n s i. tt) c.requires.working ran c.run.ensures.told

pub run-requires-clause-may : goal.run-requires-clause-may
run-requires-clause-may c =
    let p = c.args.pool.now in
    plan_may release_plan releasing (member p.start.geometry 0) _ _ _ c.me.ensures.is c.new-releasing.ensures refl ReleaseMay (memo_of p 0) (refl, (0, c.requires.latch))

pub returns-in-None : goal.returns-in-None
returns-in-None c =
    record {
      went = went_dead true c.args.pool.now c.run.new.self _ _ c.requires.working c.in-None.ensures.ran (falls (goal.at.returns-in-None c).After-run false c.in-None.ensures.ran);
      working = tt;
      latch = tt;
      still = tt;
      steps = tt;
      died = (refl, c.in-None.ensures.ran.died refl, cut_ran c.in-None.ensures.ran);
      late = λ d. last_ran c.requires.working c.in-None.ensures.ran;
    }

pub returns-in-Some : goal.returns-in-Some
returns-in-Some c =
    let p = c.args.pool.now in
    let q = c.run.new.self in
    let (es, on, h) = plan_answered word_control release_plan releasing p q tt c.me.ensures.is c.new-releasing.ensures refl c.requires.working c.in-Some.ensures.ran (c.in-Some.ensures.at_work tt) c.in-Some.ensures.leaves in
    record {
      went = went_alive true p q _ _ c.in-Some.ensures.ran (c.in-Some.ensures.at_work tt) (falls (goal.at.returns-in-Some c).After-run true c.in-Some.ensures.ran);
      working = released_works p q es on h;
      latch = h.latch;
      still = released_still p q es on h;
      steps = taken_by _ _ _ _ h.trail (c.in-Some.ensures.ran.spent (c.in-Some.ensures.ran.some refl) refl);
      died = tt;
      late = tt;
    }
