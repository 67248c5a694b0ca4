use Rattle.std.proofs.Common.{refl, arith}
use Rattle.shm_tree.proofs.{Costing.{costs_dropped, costs_none}, Forests.{calls_none, dropped_calls, root_self}}
use Rattle.shm_tree.proofs.{Moving.{emptied_others, emptied_root}, Refusals.{refused_both, spends_still}}
use Rattle.shm_tree.proofs.sweeping.emptied.Goals as goal
use Rattle.shm_tree.specs.Bounds.{drop_steps}

pub returns-then-root-eq-NONE : goal.returns-then-root-eq-NONE
returns-then-root-eq-NONE c =
    let p = c.args.pool.now in
    record {
      begun = tt;
      idle = λ e. refl;
      calls = calls_none _ p c.args.life.now.left c.requires.working (λ k ne. root_self p k);
      others = λ k ne. refl;
      empty = λ lt. absurd (omega arith);
      still = tt;
      costs = costs_none _ p c.args.life.now.left c.requires.working;
      refused = tt;
      late = tt;
    }

pub returns-else-root-eq-NONE : goal.returns-else-root-eq-NONE
returns-else-root-eq-NONE c =
    let d = c.drop_root.ensures in
    record {
      begun = d.begun;
      idle = λ e. absurd (c.if-root-eq-NONE.false e);
      calls = dropped_calls c.args.root _ d.went d.working d.latch d.emptied d.dropped d.still d.cause d.died;
      others = emptied_others c.args.root c.args.pool.now c.drop_root.new.pool _ d.emptied;
      empty = emptied_root _ c.args.root c.args.pool.now c.drop_root.new.pool _ d.emptied;
      still = d.still;
      late = d.late;
      costs = costs_dropped _ _ _ _ c.args.root _ d.working d.dropped d.steps;
      refused = refused_both _ (λ s few. spends_still (drop_steps c.args.pool.now.start.geometry 0) d.went s few) d.still d.refused_steps;
    }
