use Rattle.std.proofs.Common.{◌≡◌, ◌⊎◌, ◌∙◌, ◌≤◌, ◌+◌, sym, arith}
use Rattle.shm_tree.proofs.{Building.{looked, rooms_some, rooms_still}, Costing.costs_copied}
use Rattle.shm_tree.proofs.Forests.{calls_died, calls_from, copied_rooted, copied_stands, shared_grows}
use Rattle.shm_tree.proofs.{CutShort.{copied_off, handed_err}, Moving.copied_some}
use Rattle.shm_tree.proofs.Refusals.{alive_refusals, all_of, handed_over, none_least, refused_both, spends_more, spends_still, spends_then}
use Rattle.shm_tree.proofs.{Lasts.{last_any, late_from, late_then}, Spendings.spent_call}
use Rattle.shm_tree.proofs.registers.copied.Goals as goal
use Rattle.shm_tree.specs.{declared.stop.Stop.Stop, Bounds.share_steps, Costing.copied_steps}
use Rattle.shm_tree.specs.Working.{AreSameRoots, IsInCall}
use Rattle.shm_tree.specs.declared.stop.Stop.TheVariants as stop

pub share-requires : goal.share-requires
share-requires c =
    let t = c.in_ok-tree.ensures in
    let same = rooms_still t.looks.still in
    record { working = t.looks.working; room = rooms_some t.looks.working (omega arith); some = λ e. c.requires.some (sym t.names ∙ e); reached = t.reached }

pub returns-in_err-tree-clause-calls : goal.returns-in_err-tree-clause-calls
returns-in_err-tree-clause-calls c = let e = c.in_err-tree.ensures in calls_from c.from_residual.result c.from_residual.ensures.1 (calls_died _ e.looks.went (e.looks.died.0, e.looks.died.1))

pub returns-in_err-tree-clause-refused : goal.returns-in_err-tree-clause-refused
returns-in_err-tree-clause-refused c = handed_over _ c.from_residual.result c.from_residual.ensures.1 c.in_err-tree.ensures.looks.died.0

pub returns-in_err-tree-clause-late : goal.returns-in_err-tree-clause-late
returns-in_err-tree-clause-late c = late_from c.from_residual.result c.from_residual.ensures.1 (λ e. last_any (copied_steps c.args.pool.now.start.geometry) (c.in_err-tree.ensures.late e))

pub returns-in_err-tree-clause-off : goal.returns-in_err-tree-clause-off
returns-in_err-tree-clause-off c = handed_err (λ (e : Stop). e ≡ stop.Died → IsInCall c.root_of.new.pool ⊎ AreSameRoots c.args.pool.now c.root_of.new.pool) c.from_residual.result c.from_residual.ensures.1 (λ d. c.in_err-tree.ensures.begun)

pub returns : goal.returns
returns c =
    let t = c.in_ok-tree.ensures in
    let s = c.share.ensures in
    let b = c.in_ok-tree.tree in
    record {
      off = copied_off c.args.pool.now c.root_of.new.pool c.share.new.pool c.share.result t.looks.still.roots s.begun;
      late = (let one = t.steps in late_then c.share.new.pool (copied_steps c.args.pool.now.start.geometry) share_steps c.share.result (all_of (copied_steps c.args.pool.now.start.geometry)) c.requires.working t.looks.went (spent_call 1 t.looks.went (omega (arith, one))) s.changes.late);
      calls = shared_grows b _ c.requires.working (looked t.looks) s.changes s.shared;
      rooted = copied_rooted c.share.new.pool b _ t.looks.still s.block s.shared;
      some = copied_some _ (λ e. c.requires.some (sym t.names ∙ e)) s.block;
      is = copied_stands c.share.new.pool b _ _ t.looks.still t.names s.block s.shared;
      refused = (let one = t.steps in refused_both _ (λ still few. spends_more 0 (copied_steps c.args.pool.now.start.geometry) (none_least 0) (all_of (copied_steps c.args.pool.now.start.geometry)) (spends_then share_steps c.requires.working t.looks.went s.changes.went (spends_still 1 t.looks.went t.looks.still (omega (arith, one))) (spends_still (share_steps c.root_of.new.pool.start.geometry) s.changes.went still few))) s.changes.refused (alive_refusals (c.root_of.new.life.left ≤ c.share.new.life.left + share_steps c.root_of.new.pool.start.geometry) _ s.changes.steps));
      costs = (let one = t.steps in costs_copied b _ c.requires.working (looked t.looks) (omega (arith, one)) s.changes s.shared);
    }
