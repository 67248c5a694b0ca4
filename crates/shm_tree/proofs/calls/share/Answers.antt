use Rattle.std.proofs.Common.{◌≡◌, ℕ, true, refl, ap, ◌∙◌, subst, inl, inr, Bool, false}
use Rattle.std.specs.Prelude.{Some, Ok, Err, Result}
use Rattle.shm_graph.specs.declared.ask.Me.{Me}
use Rattle.plans.specs.CallsControl.{calls_control, calls_of, calls_does}
use Rattle.shm_plain.specs.{Calls.{TookSteps, Ran, IsAtWork}, Pools.memo_of}
use Rattle.shm_count.specs.{declared.{up_root.RootingState.RootingState, answer.ShareFault.ShareFault}, Roots.member}
use Rattle.shm_count.specs.{Proved.ShareTask.ShareMay, UpRoot.Control.{rooting, rooting_parts, rooting_steered}}
use Rattle.shm_count.specs.UpRoot.{rooting_plan}
use Rattle.shm_count.specs.declared.answer.ShareFault.TheVariants as fault
use Rattle.shm_client.proofs.{Reaching.reached_small, Running.{plan_may, MachineLeft}}
use Rattle.shm_tree.proofs.{Alive.went_alive, Answering.{Answered, plan_answered}}
use Rattle.shm_tree.proofs.Shares.{share_cause, share_latch, share_reaches, share_room, share_shared, share_still, share_works}
use Rattle.shm_tree.proofs.{CutShort.unanswered, SureCalls.share_within, Anytime.always_falls, Harmless.share_keeps}
use Rattle.shm_tree.proofs.{CutOffs.changes_dead, calls.share.Goals.After-run}
use Rattle.shm_tree.proofs.calls.share.Goals as goal
use Rattle.shm_tree.specs.Falling.{AreFalling}

-- references fall after it, whether it was answered or not
falls : (c : After-run) (answered : Bool) → Ran 0 true answered c.args.pool.now c.run.new.self c.args.life.now.left c.run.new.life.left → AreFalling c.args.pool.now → AreFalling c.run.new.self
falls c answered ran = always_falls (calls_control rooting_parts rooting_steered) (calls_does rooting_parts rooting_plan) (calls_of rooting_steered c.new-sharing.result) answered c.args.pool.now c.run.new.self c.args.life.now.left c.run.new.life.left share_keeps c.requires.working ran c.run.ensures.told

-- its turns, by the plan as it was made
took : (c : After-run) → TookSteps (calls_control rooting_parts rooting_steered) 0 c.args.pool.now (calls_of rooting_steered c.new-sharing.result) c.run.new.self → TookSteps (calls_control rooting_parts rooting_steered) 0 c.args.pool.now (calls_of rooting_steered (rooting (member c.args.pool.now.start.geometry 0) c.args.tree)) c.run.new.self
took c t = subst (λ (s : RootingState). TookSteps (calls_control rooting_parts rooting_steered) 0 c.args.pool.now (calls_of rooting_steered s) c.run.new.self) (c.new-sharing.ensures ∙ ap (λ (z : Me). rooting z c.args.tree) c.me.ensures.is) t

pub new-sharing-requires-clause-block : goal.new-sharing-requires-clause-block
new-sharing-requires-clause-block c = reached_small c.args.pool.now 0 c.requires.working.work c.requires.working.run c.args.tree (c.requires.reached c.requires.some)

pub run-requires-clause-may : goal.run-requires-clause-may
run-requires-clause-may c =
    plan_may rooting_plan (λ (x : Me). rooting x c.args.tree) (member c.args.pool.now.start.geometry 0) _ _ _ c.me.ensures.is c.new-sharing.ensures refl
    ShareMay (memo_of c.args.pool.now 0) (refl, c.requires.working.client, c.requires.reached c.requires.some)

-- what is left where it answered a, which is b
left : (c : After-run) (a b : Result ℕ ShareFault) → a ≡ b → Ran 0 true true c.args.pool.now c.run.new.self c.args.life.now.left c.run.new.life.left → IsAtWork 0 c.run.new.self → MachineLeft rooting_parts rooting_plan (calls_of rooting_steered c.new-sharing.result) 0 c.args.pool.now c.run.new.self (Some a)
    → Answered rooting_plan (rooting (member c.args.pool.now.start.geometry 0) c.args.tree) c.args.pool.now c.run.new.self b
left c a b is ran at h = plan_answered rooting_parts rooting_plan (λ (z : Me). rooting z c.args.tree) c.args.pool.now c.run.new.self a c.me.ensures.is c.new-sharing.ensures is c.requires.working ran at h

pub unreachable-requires : goal.unreachable-requires
unreachable-requires c =
    let x = c.in-Some-Err-RootsFull in
    let (es, on, h) = left (goal.at.unreachable-requires c).After-run x.field-0 (Err fault.RootsFull) (x.field-0-is ∙ ap Err x.field-0-0-is) x.ensures.ran (x.ensures.at_work tt) x.ensures.leaves in
    share_room c.args.pool.now c.run.new.self es on c.args.tree c.requires.room h

pub returns-in-None : goal.returns-in-None
returns-in-None c =
    record {
      changes = changes_dead c.requires.working c.in-None.ensures.ran (falls (goal.at.returns-in-None c).After-run false c.in-None.ensures.ran);
      block = tt;
      shared = tt;
      begun = λ e. unanswered c.args.pool.now c.run.new.self c.in-None.ensures.ran;
    }

pub returns-in-Some-Ok : goal.returns-in-Some-Ok
returns-in-Some-Ok c =
    let p = c.args.pool.now in
    let q = c.run.new.self in
    let b = c.args.tree in
    let x = c.in-Some-Ok in
    let k = x.root in
    let (es, on, h) = left (goal.at.returns-in-Some-Ok c).After-run x.field-0 (Ok k) x.field-0-is x.ensures.ran (x.ensures.at_work tt) x.ensures.leaves in
    record {
      changes =
          record {
            went = went_alive true p q _ _ x.ensures.ran (x.ensures.at_work tt) (falls (goal.at.returns-in-Some-Ok c).After-run true x.ensures.ran);
            working = share_works p q es on b (Ok k) h;
            latch = share_latch p q es on b (Ok k) h;
            reaches = share_reaches p q es on b (Ok k) h;
            refused = tt;
            steps = share_within p q b _ _ es (Ok k) c.requires.working (refl, c.requires.working.client, c.requires.reached c.requires.some) (took (goal.at.returns-in-Some-Ok c).After-run x.ensures.took) x.ensures.ran h;
            cause = tt;
            died = tt;
            late = tt;
          };
      block = refl;
      shared = share_shared p q es on b k h;
      begun = tt;
    }

pub returns-in-Some-Err-EraSpent : goal.returns-in-Some-Err-EraSpent
returns-in-Some-Err-EraSpent c =
    let p = c.args.pool.now in
    let q = c.run.new.self in
    let b = c.args.tree in
    let x = c.in-Some-Err-EraSpent in
    let f = fault.EraSpent x.era in
    let (es, on, h) = left (goal.at.returns-in-Some-Err-EraSpent c).After-run x.field-0 (Err f) (x.field-0-is ∙ ap Err x.field-0-0-is) x.ensures.ran (x.ensures.at_work tt) x.ensures.leaves in
    record {
      changes =
          record {
            went = went_alive true p q _ _ x.ensures.ran (x.ensures.at_work tt) (falls (goal.at.returns-in-Some-Err-EraSpent c).After-run true x.ensures.ran);
            working = share_works p q es on b (Err f) h;
            latch = share_latch p q es on b (Err f) h;
            reaches = share_reaches p q es on b (Err f) h;
            refused = share_still p q es on b f h;
            steps = share_within p q b _ _ es (Err f) c.requires.working (refl, c.requires.working.client, c.requires.reached c.requires.some) (took (goal.at.returns-in-Some-Err-EraSpent c).After-run x.ensures.took) x.ensures.ran h;
            cause = inr (inr (inl (share_cause p q es on b f h)));
            died = λ e. absurd cc;
            late = λ e. absurd cc;
          };
      block = tt;
      shared = tt;
      begun = λ e. absurd cc;
    }

pub returns-in-Some-Err-CountFull : goal.returns-in-Some-Err-CountFull
returns-in-Some-Err-CountFull c =
    let p = c.args.pool.now in
    let q = c.run.new.self in
    let b = c.args.tree in
    let x = c.in-Some-Err-CountFull in
    let f = fault.CountFull x.block x.count in
    let (es, on, h) = left (goal.at.returns-in-Some-Err-CountFull c).After-run x.field-0 (Err f) (x.field-0-is ∙ ap Err x.field-0-0-is) x.ensures.ran (x.ensures.at_work tt) x.ensures.leaves in
    record {
      changes =
          record {
            went = went_alive true p q _ _ x.ensures.ran (x.ensures.at_work tt) (falls (goal.at.returns-in-Some-Err-CountFull c).After-run true x.ensures.ran);
            working = share_works p q es on b (Err f) h;
            latch = share_latch p q es on b (Err f) h;
            reaches = share_reaches p q es on b (Err f) h;
            refused = share_still p q es on b f h;
            steps = share_within p q b _ _ es (Err f) c.requires.working (refl, c.requires.working.client, c.requires.reached c.requires.some) (took (goal.at.returns-in-Some-Err-CountFull c).After-run x.ensures.took) x.ensures.ran h;
            cause = inr (share_cause p q es on b f h);
            died = λ e. absurd cc;
            late = λ e. absurd cc;
          };
      block = tt;
      shared = tt;
      begun = λ e. absurd cc;
    }
