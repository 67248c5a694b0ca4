use Rattle.std.proofs.Common.{◌*◌, ℕ, arith}
use Rattle.shm_words.specs.declared.geometry.Geometry.{Geometry}
use Rattle.shm_tree.specs.Bounds.{drop_steps}
use Rattle.shm_tree.proofs.{Costing.{swept_all, swept_more, swept_none}, Forests.{calls_from, sweeping_stop}}
use Rattle.shm_tree.proofs.Refusals.{handed, none_least, one_root, spends_more, spends_of, spends_then}
use Rattle.shm_tree.proofs.Lasts.{last_more, last_then, late_from}
use Rattle.shm_tree.proofs.sweeping.swept.Goals as goal

pub loop-root-init : goal.loop-root-init
loop-root-init c = swept_none c.args.roots c.args.pool.now c.args.life.now.left c.requires.working

pub drop_other-requires : goal.drop_other-requires
drop_other-requires c = record { working = c.loop-root.invariant.swept.working; long = c.requires.long; root = omega arith }

pub loop-root-preserved : goal.loop-root-preserved
loop-root-preserved c =
    let d = c.in_ok-drop_other.ensures in
    swept_more c.args.roots c.loop-root.root c.requires.working c.loop-root.invariant d.calls.went d.calls.working d.calls.latch d.calls.kept d.others d.empty d.costs

pub returns-in_err-drop_other-clause-calls : goal.returns-in_err-drop_other-clause-calls
returns-in_err-drop_other-clause-calls c =
    calls_from c.from_residual.result c.from_residual.ensures.1 (sweeping_stop (Unit {0}) c.args.roots c.loop-root.root _ c.requires.working c.loop-root.invariant.swept c.in_err-drop_other.ensures.calls)

pub returns-in_err-drop_other-clause-refused : goal.returns-in_err-drop_other-clause-refused
returns-in_err-drop_other-clause-refused c =
    let d = c.in_err-drop_other.ensures in
    let a = c.loop-root.invariant in
    let one : ℕ = drop_steps c.args.pool.now.start.geometry 0 in
    handed (Unit {0}) _ _ c.from_residual.result c.from_residual.ensures.1 (λ r. spends_more 0 (16 * one) (none_least 0) (one_root c.loop-root.root one (omega arith))
    (spends_then (λ (e : Geometry). drop_steps e 0) c.requires.working a.swept.went d.calls.went (spends_of a.costs) r)) d.refused

pub returns-in_err-drop_other-clause-spent : goal.returns-in_err-drop_other-clause-spent
returns-in_err-drop_other-clause-spent c = handed (Unit {0}) _ _ c.from_residual.result c.from_residual.ensures.1 (λ r. r) c.in_err-drop_other.ensures.spent

pub returns : goal.returns
returns c =
    let r = c.loop-root.invariant.swept in
    record {
      calls = record { went = r.went; working = r.working; latch = r.latch; kept = r.kept; cause = tt; died = tt };
      empty = λ k lt free. r.empty k (omega arith) free;
      costs = swept_all c.args.roots c.loop-root.root (omega arith) c.loop-root.invariant;
      refused = tt;
      late = tt;
      spent = tt;
    }

pub returns-in_err-drop_other-clause-late : goal.returns-in_err-drop_other-clause-late
returns-in_err-drop_other-clause-late c =
    let a = c.loop-root.invariant in
    let one : ℕ = drop_steps c.args.pool.now.start.geometry 0 in
    late_from c.from_residual.result c.from_residual.ensures.1 (λ e. last_more (16 * one) (one_root c.loop-root.root one (omega arith)) (last_then (λ (g : Geometry). drop_steps g 0) c.requires.working a.swept.went a.costs.spent (c.in_err-drop_other.ensures.late e)))
