use Rattle.std.proofs.Common.{refl}
use Rattle.shm_tree.proofs.Costing.{costs_dropped, costs_none}
use Rattle.shm_tree.proofs.Forests.{calls_kept, calls_none, dropped_calls, root_self}
use Rattle.shm_tree.proofs.Moving.{emptied_others, emptied_root, free_by, taken_by}
use Rattle.shm_tree.proofs.Refusals.{refused_both, spends_still}
use Rattle.shm_tree.proofs.sweeping.drop_other.Goals as goal
use Rattle.shm_tree.specs.Bounds.{drop_steps}

pub returns-then-contains : goal.returns-then-contains
returns-then-contains c =
    let p = c.args.pool.now in
    record {
      calls = calls_none _ p c.args.life.now.left c.requires.working (λ r lt. root_self p _);
      others = λ k ne. refl;
      empty = λ free. absurd (taken_by c.args.roots c.args.root c.contains.result c.requires.long c.contains.ensures.cases c.if-contains.true free);
      costs = costs_none _ p c.args.life.now.left c.requires.working;
      refused = tt;
      late = tt;
      spent = tt;
    }

pub returns-else-contains : goal.returns-else-contains
returns-else-contains c =
    let d = c.drop_root.ensures in
    let free = free_by c.args.roots c.args.root c.contains.result c.requires.long c.contains.ensures.cases c.if-contains.false in
    record {
      calls = calls_kept _ (λ h r lt. h _ (λ lo. free r lt)) (dropped_calls c.args.root _ d.went d.working d.latch d.emptied d.dropped d.still d.cause d.died);
      others = emptied_others c.args.root c.args.pool.now c.drop_root.new.pool _ d.emptied;
      empty = emptied_root _ c.args.root c.args.pool.now c.drop_root.new.pool _ d.emptied;
      costs = costs_dropped _ _ _ _ c.args.root _ d.working d.dropped d.steps;
      refused = refused_both _ (λ s few. spends_still (drop_steps c.args.pool.now.start.geometry 0) d.went s few) d.still d.refused_steps;
      spent = d.spent;
      late = d.late;
    }
