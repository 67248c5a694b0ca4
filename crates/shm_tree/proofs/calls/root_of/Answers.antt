use Rattle.std.proofs.Common.{refl, subst, true, Bool, false}
use Rattle.shm_graph.specs.declared.ask.Me.{Me}
use Rattle.shm_plain.specs.Calls.{Did, Ran}
use Rattle.plans.specs.{Words.word_control, CallsControl.{calls_control, calls_does, calls_of}}
use Rattle.shm_ref.specs.RootOf.{naming, naming_plan, naming_steered}
use Rattle.shm_tree.proofs.{Alive.went_alive, Answering.plan_answered, Counts.taken_by, CutShort.unanswered}
use Rattle.shm_tree.proofs.Latches.{named_latch, named_reached, named_reaches, named_still, named_works}
use Rattle.shm_tree.proofs.{Anytime.always_falls, CutOffs.looks_dead, calls.root_of.Goals.After-run, Lasts.last_ran}
use Rattle.shm_tree.proofs.calls.root_of.Goals as goal
use Rattle.shm_tree.specs.Falling.{AreFalling}

-- references fall after it, whether it was answered or not
falls : (c : After-run) (answered : Bool) → Ran 0 true answered c.args.pool.now c.run.new.self c.args.life.now.left c.run.new.life.left → AreFalling c.args.pool.now → AreFalling c.run.new.self
falls c answered ran = always_falls (calls_control word_control naming_steered) (calls_does word_control naming_plan) (calls_of naming_steered c.new-naming.result) answered c.args.pool.now c.run.new.self c.args.life.now.left c.run.new.life.left (λ r n s i. tt) c.requires.working ran c.run.ensures.told

pub returns-in-None : goal.returns-in-None
returns-in-None c =
    record {
      looks = looks_dead c.requires.working c.in-None.ensures.ran (falls (goal.at.returns-in-None c).After-run false c.in-None.ensures.ran);
      late = λ d. last_ran c.requires.working c.in-None.ensures.ran;
      names = tt;
      reached = tt;
      steps = tt;
      quiet = tt;
      begun = unanswered c.args.pool.now c.run.new.self c.in-None.ensures.ran;
    }

pub returns-in-Some : goal.returns-in-Some
returns-in-Some c =
    let p = c.args.pool.now in
    let q = c.run.new.self in
    let k = c.args.root in
    let b = c.in-Some.tree in
    let (es, on, h) = plan_answered word_control naming_plan (λ (x : Me). naming x c.args.root) p q b c.me.ensures.is c.new-naming.ensures refl c.requires.working c.in-Some.ensures.ran (c.in-Some.ensures.at_work tt) c.in-Some.ensures.leaves in
    record {
      looks =
          record {
            went = went_alive true p q _ _ c.in-Some.ensures.ran (c.in-Some.ensures.at_work tt) (falls (goal.at.returns-in-Some c).After-run true c.in-Some.ensures.ran);
            working = named_works p q es on k b h;
            latch = named_latch p q es on k b h;
            still = named_still p q es on k b h;
            reaches = named_reaches p q es on k b h;
            died = tt;
          };
      late = tt;
      names = h.names;
      reached = named_reached p q es on k b h c.requires.root;
      steps = taken_by _ _ _ _ h.trail (c.in-Some.ensures.ran.spent (c.in-Some.ensures.ran.some refl) refl);
      quiet = subst (Did 0 p q) h.none on.did;
      begun = tt;
    }
