use Rattle.shm_tree.specs.{declared.hints.Hints.TheVariants.Off, Keeping.IsStill, Bounds.drop_steps, Spending.HasSpent}
use Rattle.shm_tree.specs.{Working.{IsSameLatch, IsSpent, IsWorking, Reaches}, Falling.AreFalling}
use Rattle.shm_tree.proofs.Alive.{went_alive, went_dead}
use Rattle.shm_tree.proofs.Answering.{Answered, alive_died, cause_died, emptied_then, reaches_then, refused_died, within_before, plan_answered}
use Rattle.shm_tree.proofs.Drops.{drop_done, drop_kept, drop_latch, drop_spent, drop_torn, drop_works, dropped_then, kept_within}
use Rattle.shm_tree.proofs.{Eras.{spent_stays, spent_went}, Links.{still_then, went_then}, Makes.spent_over}
use Rattle.shm_tree.proofs.{SureCalls.drop_most, Tearings.{done_torn, stopped_torn, torn_then}, Anytime.always_falls}
use Rattle.shm_tree.proofs.{Harmless.drop_keeps, CutOffs.{begun_ran, died_ran, died_then, look_died}}
use Rattle.shm_tree.proofs.calls.drop_root.Goals.{After-new-dropping, In-Some-Ok, In-Some-Err, After-run}
use Rattle.shm_tree.proofs.Lasts.{last_any, last_more, last_ran, last_then, spent_late}
use Rattle.shm_tree.proofs.calls.drop_root.Goals as goal
use Rattle.std.proofs.Common.{◌≡◌, ◌≢◌, ℕ, ◌+◌, ◌≤◌, length, arith, refl, sym, ap, ◌∙◌, subst, inr, true, Bool, false}
use Rattle.std.proofs.lemmas.Result.{err_from_is_err_and}
use Rattle.std.specs.Prelude.{Ok, Err}
use Rattle.shm_graph.specs.{declared.ask.Me.Me, Asks.IsWithin, Bounds.redo_steps}
use Rattle.plans.specs.CallsControl.{calls_control, calls_of, calls_does}
use Rattle.shm_plain.specs.{Calls.{Ran, TookSteps}, Pools.{Pool, memo_of}}
use Rattle.shm_count.specs.{Roots.{member, root_word}, Tear.Events.frees}
use Rattle.shm_ref.specs.{declared.drop_root.DropState.DropState, DropRoot.Control.{drop_parts, dropping, drop_steered}}
use Rattle.shm_ref.specs.{DropRoot.{DropLeaves, drop_plan}, Proved.RootTasks.DropMay}
use Rattle.shm_ref.proofs.RefusedDrops.{spent_some}
use Rattle.shm_client.proofs.Running.{plan_may}

-- references fall after it, whether it was answered or not
falls : (c : After-run) (answered : Bool) → Ran 0 true answered c.args.pool.now c.run.new.self c.args.life.now.left c.run.new.life.left → AreFalling c.args.pool.now → AreFalling c.run.new.self
falls c answered ran = always_falls (calls_control drop_parts drop_steered) (calls_does drop_parts drop_plan) (calls_of drop_steered c.new-dropping.result) answered c.args.pool.now c.run.new.self c.args.life.now.left c.run.new.life.left drop_keeps c.requires.working ran c.run.ensures.told

pub run-requires-clause-may : goal.run-requires-clause-may
run-requires-clause-may c =
    plan_may drop_plan (λ (x : Me). dropping x c.args.root) (member c.args.pool.now.start.geometry 0) _ _ _ c.me.ensures.is c.new-dropping.ensures refl DropMay (memo_of c.args.pool.now 0) (refl, c.requires.root)

dropped : (c : In-Some-Ok) → Answered drop_plan (dropping (member c.args.pool.now.start.geometry 0) c.args.root) c.args.pool.now c.run.new.self (Ok c.in-Some-Ok.field-0-0)
dropped c = let x = c.in-Some-Ok in plan_answered drop_parts drop_plan (λ (z : Me). dropping z c.args.root) c.args.pool.now c.run.new.self x.field-0 c.me.ensures.is c.new-dropping.ensures x.field-0-is c.requires.working x.ensures.ran (x.ensures.at_work tt) x.ensures.leaves

spent : (c : In-Some-Err) → Answered drop_plan (dropping (member c.args.pool.now.start.geometry 0) c.args.root) c.args.pool.now c.run.new.self (Err c.in-Some-Err.spent)
spent c = let x = c.in-Some-Err in plan_answered drop_parts drop_plan (λ (z : Me). dropping z c.args.root) c.args.pool.now c.run.new.self x.field-0 c.me.ensures.is c.new-dropping.ensures x.field-0-is c.requires.working x.ensures.ran (x.ensures.at_work tt) x.ensures.leaves

-- no exchange of it failed
took_most : (c : After-new-dropping) (n : ℕ) (q : Pool) (y : ℕ) → TookSteps (calls_control drop_parts drop_steered) 0 c.args.pool.now (calls_of drop_steered c.new-dropping.result) q → Ran 0 true true c.args.pool.now q c.args.life.now.left y → IsWithin n (memo_of q 0).call → c.args.life.now.left ≤ y + n
took_most c n q y took ran most =
    let p = c.args.pool.now in
    let made : c.new-dropping.result ≡ dropping (member p.start.geometry 0) c.args.root = c.new-dropping.ensures ∙ ap (λ (z : Me). dropping z c.args.root) c.me.ensures.is in
    drop_most n p q c.args.root c.args.life.now.left y c.requires.working (refl, c.requires.root) (subst (λ (z : DropState). TookSteps (calls_control drop_parts drop_steered) 0 p (calls_of drop_steered z) q) made took) ran most

working : (c : In-Some-Err) → IsWorking c.run.new.self
working c = let (es, on, h) = spent c in drop_works c.args.pool.now c.run.new.self es on c.args.root (Err c.in-Some-Err.spent) h

latch : (c : In-Some-Err) → IsSameLatch c.args.pool.now c.run.new.self
latch c = let (es, on, h) = spent c in drop_latch c.args.pool.now c.run.new.self es on c.args.root (Err c.in-Some-Err.spent) h

spent_era : (c : In-Some-Err) → IsSpent (memo_of c.run.new.self 0)
spent_era c = let (es, on, h) = spent c in drop_spent c.args.pool.now c.run.new.self es on c.args.root c.in-Some-Err.spent h

-- what the drop took that was refused
stopped_spent : (c : In-Some-Err) → TookSteps (calls_control drop_parts drop_steered) 0 c.args.pool.now (calls_of drop_steered c.new-dropping.result) c.run.new.self → Ran 0 true true c.args.pool.now c.run.new.self c.args.life.now.left c.run.new.life.left → HasSpent (8 + redo_steps c.args.pool.now.start.geometry.wide) c.args.pool.now c.run.new.self c.args.life.now.left c.run.new.life.left
stopped_spent c took ran =
    let (es, on, h) = spent c in
    record {
      told = es;
      did = on.did;
      left = length h.0;
      none = inr (spent_era c);
      most = (let most = took_most (goal.at.In-Some-Err c).After-new-dropping _ c.run.new.self _ took ran h.1.bound in omega (arith, most));
    }

pub root_of-requires-clause-working : goal.root_of-requires-clause-working
root_of-requires-clause-working c = working (goal.at.root_of-requires-clause-working c).In-Some-Err

pub returns-in-None : goal.returns-in-None
returns-in-None c =
    record {
      went = went_dead true c.args.pool.now c.run.new.self _ _ c.requires.working c.in-None.ensures.ran (falls (goal.at.returns-in-None c).After-run false c.in-None.ensures.ran);
      working = tt;
      latch = tt;
      emptied = tt;
      dropped = tt;
      still = tt;
      reaches = tt;
      steps = tt;
      refused_steps = tt;
      spent = tt;
      cause = tt;
      died = died_ran _ c.in-None.ensures.ran;
      late = λ d. last_any (drop_steps c.args.pool.now.start.geometry 0) (last_ran c.requires.working c.in-None.ensures.ran);
      begun = begun_ran _ c.in-None.ensures.ran;
    }

pub returns-in-Some-Ok : goal.returns-in-Some-Ok
returns-in-Some-Ok c =
    let p = c.args.pool.now in
    let q = c.run.new.self in
    let k = c.args.root in
    let z = c.in-Some-Ok.field-0-0 in
    let (es, on, h) = dropped (goal.at.returns-in-Some-Ok c).In-Some-Ok in
    let done = drop_done p q es on k z h in
    let wide = p.start.geometry.wide in
    let most = took_most (goal.at.returns-in-Some-Ok c).After-new-dropping _ q _ c.in-Some-Ok.ensures.took c.in-Some-Ok.ensures.ran h.bound in
    record {
      went = went_alive true p q _ _ c.in-Some-Ok.ensures.ran (c.in-Some-Ok.ensures.at_work tt) (falls (goal.at.returns-in-Some-Ok c).After-run true c.in-Some-Ok.ensures.ran);
      working = drop_works p q es on k (Ok z) h;
      latch = drop_latch p q es on k (Ok z) h;
      emptied = done.0;
      dropped = done.1;
      still = tt;
      reaches = tt;
      steps = (frees es, done_torn p q es on k z h, omega (arith, most));
      refused_steps = tt;
      spent = tt;
      cause = tt;
      died = tt;
      late = tt;
      begun = tt;
    }

-- the root that was asked: no word step was left for it
pub returns-in_err-tree-in-Some-Err : goal.returns-in_err-tree-in-Some-Err
returns-in_err-tree-in-Some-Err c =
    let p = c.args.pool.now in
    let m = c.run.new.self in
    let q = c.root_of.new.pool in
    let first = (goal.at.returns-in_err-tree-in-Some-Err c).In-Some-Err in
    let died = c.in_err-tree-in-Some-Err.ensures.looks.died in
    let handed = err_from_is_err_and c.from_residual.result c.from_residual.ensures.1 in
    rw (handed.1, handed.2) (record {
      went = went_then p m q _ _ _ c.requires.working.run (went_alive true p m _ _ c.in-Some-Err.ensures.ran (c.in-Some-Err.ensures.at_work tt) (falls (goal.at.returns-in_err-tree-in-Some-Err c).After-run true c.in-Some-Err.ensures.ran)) c.in_err-tree-in-Some-Err.ensures.looks.went;
      working = alive_died (Unit {0}) (IsWorking q) _ died.0;
      latch = alive_died (Unit {0}) (IsSameLatch p q) _ died.0;
      emptied = tt;
      dropped = tt;
      still = refused_died (Unit {0}) (IsStill p q) _ died.0;
      reaches = refused_died (Unit {0}) (Reaches p q) _ died.0;
      steps = tt;
      refused_steps = refused_died (Unit {0}) _ _ died.0;
      spent = refused_died (Unit {0}) (IsSpent (memo_of q 0)) _ died.0;
      cause = cause_died Off p q _ died.0;
      died = died_then p m q _ _ (latch first) (look_died m q _ _ died);
      late = λ e. last_more (drop_steps p.start.geometry 0) (omega arith) (last_then (λ g. 0) c.requires.working (went_alive true p m _ _ c.in-Some-Err.ensures.ran (c.in-Some-Err.ensures.at_work tt) (falls (goal.at.returns-in_err-tree-in-Some-Err c).After-run true c.in-Some-Err.ensures.ran)) (stopped_spent first c.in-Some-Err.ensures.took c.in-Some-Err.ensures.ran) (c.in_err-tree-in-Some-Err.ensures.late e));
      begun = λ e. inr (inr (spent_went m q (working first) c.in_err-tree-in-Some-Err.ensures.looks.went (spent_era first)));
    })

-- it was empty: the drop was done
pub returns-then-tree-eq0 : goal.returns-then-tree-eq0
returns-then-tree-eq0 c =
    let p = c.args.pool.now in
    let m = c.run.new.self in
    let q = c.root_of.new.pool in
    let k = c.args.root in
    let s = c.in-Some-Err.spent in
    let first = (goal.at.returns-then-tree-eq0 c).In-Some-Err in
    let (es, on, h) = spent first in
    let asked = c.in_ok-tree-in-Some-Err.ensures in
    let empty : root_word 0 (memo_of m 0) k ≡ 0 = sym asked.names ∙ c.if-tree-eq0.true in
    let torn = drop_torn p m es on k s h empty in
    let most = took_most (goal.at.returns-then-tree-eq0 c).After-new-dropping _ m _ c.in-Some-Err.ensures.took c.in-Some-Err.ensures.ran h.1.bound in
    let more = asked.steps in
    record {
      went = went_then p m q _ _ _ c.requires.working.run (went_alive true p m _ _ c.in-Some-Err.ensures.ran (c.in-Some-Err.ensures.at_work tt) (falls (goal.at.returns-then-tree-eq0 c).After-run true c.in-Some-Err.ensures.ran)) asked.looks.went;
      working = asked.looks.working;
      latch = asked.looks.latch ∙ drop_latch p m es on k (Err s) h;
      emptied = emptied_then k p m q torn.0 asked.looks.still;
      dropped = dropped_then k p m q c.requires.working (working first) on.start torn.1 asked.looks.still;
      still = tt;
      reaches = tt;
      steps = (frees es + length h.0, torn_then k (frees es + length h.0) p m q c.requires.working (working first) on.start (stopped_torn p m es on k s h empty (spent_some 0 k (memo_of p 0) (memo_of m 0) es s.era h.0 h.1.at)) asked.quiet asked.looks.still, omega (arith, most, more));
      refused_steps = tt;
      spent = tt;
      cause = tt;
      died = tt;
      late = tt;
      begun = tt;
    }

-- it names its tree still: nothing was done
pub returns-else-tree-eq0 : goal.returns-else-tree-eq0
returns-else-tree-eq0 c =
    let p = c.args.pool.now in
    let m = c.run.new.self in
    let q = c.root_of.new.pool in
    let k = c.args.root in
    let s = c.in-Some-Err.spent in
    let first = (goal.at.returns-else-tree-eq0 c).In-Some-Err in
    let (es, on, h) = spent first in
    let asked = c.in_ok-tree-in-Some-Err.ensures in
    let some : root_word 0 (memo_of m 0) k ≢ 0 = λ e. c.if-tree-eq0.false (asked.names ∙ e) in
    let kept = drop_kept p m es on k s h some in
    let most = took_most (goal.at.returns-else-tree-eq0 c).After-new-dropping _ m _ c.in-Some-Err.ensures.took c.in-Some-Err.ensures.ran (kept_within p m es on k s h some) in
    let more = asked.steps in
    record {
      went = went_then p m q _ _ _ c.requires.working.run (went_alive true p m _ _ c.in-Some-Err.ensures.ran (c.in-Some-Err.ensures.at_work tt) (falls (goal.at.returns-else-tree-eq0 c).After-run true c.in-Some-Err.ensures.ran)) asked.looks.went;
      working = asked.looks.working;
      latch = asked.looks.latch ∙ drop_latch p m es on k (Err s) h;
      emptied = tt;
      dropped = tt;
      still = still_then p m q c.requires.working (working first) on.start kept.0 asked.looks.still;
      reaches = reaches_then p m q kept.1 asked.looks.reaches;
      steps = tt;
      refused_steps = omega (arith, most, more);
      spent = spent_stays m q (working first) asked.looks.working asked.looks.went (drop_spent p m es on k s h);
      cause = inr (inr (inr (k, within_before (λ r0 r tr xs. DropLeaves (dropping (member p.start.geometry 0) k) r0 r tr xs (Err s)) p m q es on h asked.looks.went.did)));
      died = spent_over s.era p q c.root_of.new.life.left;
      late = spent_late s.era p q c.args.life.now.left;
      begun = λ e. absurd cc;
    }
