use Rattle.std.proofs.Common.{◌≡◌, true, refl, ap, ◌∙◌, Bool, false}
use Rattle.std.specs.Prelude.{Ok}
use Rattle.shm_graph.specs.{declared.ask.Me.Me, Reach.is_reached}
use Rattle.shm_plain.specs.{Pools.memo_of, Calls.Ran}
use Rattle.plans.specs.{Words.word_control, CallsControl.{calls_control, calls_does, calls_of}}
use Rattle.shm_count.specs.Roots.{member}
use Rattle.shm_ref.specs.{Proved.LatchTasks.LookMay, Look.{look_plan, looking, look_steered}}
use Rattle.shm_client.proofs.{Reaching.reached_small, Running.plan_may}
use Rattle.shm_tree.specs.{Keeping.side_word, Falling.AreFalling}
use Rattle.shm_tree.proofs.{Alive.went_alive, Answering.plan_answered, Counts.taken_by}
use Rattle.shm_tree.proofs.Findings.{look_names, look_only, look_refused, look_still, look_works, read_reaches}
use Rattle.shm_tree.proofs.{Anytime.always_falls, CutOffs.looks_dead}
use Rattle.shm_tree.proofs.{calls.child.Goals.{After-me, After-new-looking, After-run}, Lasts.last_ran}
use Rattle.shm_tree.proofs.calls.child.Goals as goal

-- references fall after it, whether it was answered or not
falls : (c : After-run) (answered : Bool) → Ran 0 true answered c.args.pool.now c.run.new.self c.args.life.now.left c.run.new.life.left → AreFalling c.args.pool.now → AreFalling c.run.new.self
falls c answered ran = always_falls (calls_control word_control look_steered) (calls_does word_control look_plan) (calls_of look_steered c.new-looking.result) answered c.args.pool.now c.run.new.self c.args.life.now.left c.run.new.life.left (λ r n s i. tt) c.requires.working ran c.run.ensures.told

reached : (c : After-me) → is_reached 0 (memo_of c.args.pool.now 0) c.args.node ≡ true
reached c = c.requires.reached c.requires.node.3.some

planned : (c : After-new-looking) → c.new-looking.result ≡ looking c.me.result c.args.node (side_word c.args.side)
planned c = c.new-looking.ensures ∙ ap (λ k. looking c.me.result c.args.node k) c.word.ensures

pub new-looking-requires-clause-block : goal.new-looking-requires-clause-block
new-looking-requires-clause-block c = reached_small c.args.pool.now 0 c.requires.working.work c.requires.working.run c.args.node (reached (goal.at.new-looking-requires-clause-block c).After-me)

pub run-requires-clause-may : goal.run-requires-clause-may
run-requires-clause-may c =
    let at = goal.at.run-requires-clause-may c in
    plan_may look_plan (λ (x : Me). looking x c.args.node (side_word c.args.side)) (member c.args.pool.now.start.geometry 0) _ _ _ c.me.ensures.is (planned at.After-new-looking) refl
    LookMay (memo_of c.args.pool.now 0) (refl, reached at.After-me)

pub unreachable-requires : goal.unreachable-requires
unreachable-requires c =
    let p = c.args.pool.now in
    let q = c.run.new.self in
    let (es, on, h) = plan_answered word_control look_plan (λ (x : Me). looking x c.args.node (side_word c.args.side)) p q c.in-Some-Err.field-0 c.me.ensures.is (planned (goal.at.unreachable-requires c).After-new-looking) c.in-Some-Err.field-0-is c.requires.working c.in-Some-Err.ensures.ran (c.in-Some-Err.ensures.at_work tt) c.in-Some-Err.ensures.leaves in
    look_refused p q es on c.args.node c.args.side (memo_of q 0).call c.in-Some-Err.field-0-0 c.requires.node c.requires.latch h

pub returns-in-None : goal.returns-in-None
returns-in-None c =
    record {
      looks = looks_dead c.requires.working c.in-None.ensures.ran (falls (goal.at.returns-in-None c).After-run false c.in-None.ensures.ran);
      late = λ d. last_ran c.requires.working c.in-None.ensures.ran;
      names = tt;
      reached = tt;
      steps = tt;
    }

pub returns-in-Some-Ok : goal.returns-in-Some-Ok
returns-in-Some-Ok c =
    let p = c.args.pool.now in
    let q = c.run.new.self in
    let (es, on, h) = plan_answered word_control look_plan (λ (x : Me). looking x c.args.node (side_word c.args.side)) p q c.in-Some-Ok.field-0 c.me.ensures.is (planned (goal.at.returns-in-Some-Ok c).After-new-looking) c.in-Some-Ok.field-0-is c.requires.working c.in-Some-Ok.ensures.ran (c.in-Some-Ok.ensures.at_work tt) c.in-Some-Ok.ensures.leaves in
    let tr = (memo_of q 0).call in
    let b = c.args.node in
    let k = side_word c.args.side in
    let v = c.in-Some-Ok.child in
    let only = look_only p q es on b k tr (Ok v) h in
    record {
      looks =
          record {
            went = went_alive true p q _ _ c.in-Some-Ok.ensures.ran (c.in-Some-Ok.ensures.at_work tt) (falls (goal.at.returns-in-Some-Ok c).After-run true c.in-Some-Ok.ensures.ran);
            working = look_works p q es on b k tr (Ok v) h;
            latch = only.latch;
            still = look_still p q es on b k tr (Ok v) h;
            reaches = read_reaches p q es on only;
            died = tt;
          };
      late = tt;
      names = look_names p q es on b c.args.side tr v c.requires.node h;
      reached = h.reach;
      steps = taken_by _ _ _ _ h.trail (c.in-Some-Ok.ensures.ran.spent (c.in-Some-Ok.ensures.ran.some refl) refl);
    }
