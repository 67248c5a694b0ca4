use Rattle.std.proofs.Common.{◌*◌, arith}
use Rattle.std.specs.Prelude.{IfOk, Option, Result}
use Rattle.shm_tree.specs.{declared.{remove.Removed.Removed, stop.Stop.Stop}, Bounds.remove_steps, Building.Builds}
use Rattle.shm_tree.specs.{Costing.pruned_steps, Living.KeepsLives, Removing.IsRemoved, Standing.TreeStands}
use Rattle.shm_tree.specs.Trees.{Tree, height}
use Rattle.shm_tree.proofs.{Building.{looked, ok_kept, rooms_still, went_on}, Costing.removed_made}
use Rattle.shm_tree.proofs.{Forests.{calls_died, calls_from, quiet}, Moving.{pruned_is, registered, removed_named}}
use Rattle.shm_tree.proofs.Refusals.{handed_over}
use Rattle.shm_tree.proofs.Releasing.{Entered, entered, entered_stands, held_on, released_calls, released_costs, released_late, released_off, released_ok, released_refused, released_spends}
use Rattle.shm_tree.proofs.{registers.pruned.Goals.In_ok-tree, Lasts.{last_after, last_any, late_from}}
use Rattle.shm_tree.proofs.registers.pruned.Goals as goal

-- what the calls left before the tree was built
entry : (c : In_ok-tree) → Entered c.args.root c.in_ok-tree.tree c.args.pool.now c.tree_in.new.pool c.args.life.now.left c.tree_in.new.life.left
entry c =
    let h = c.in_ok-hold.ensures in
    let t = c.in_ok-tree.ensures in
    entered c.args.root c.in_ok-tree.tree c.requires.working (quiet h.went h.working h.still) h.latch h.steps (looked t.looks) t.names t.steps

pub remove-removed-requires-clause-room : goal.remove-removed-requires-clause-room
remove-removed-requires-clause-room c = let l = rooms_still (entry (goal.at.remove-removed-requires-clause-room c).In_ok-tree).quiet.still in omega arith

pub remove-removed-requires-clause-tree : goal.remove-removed-requires-clause-tree
remove-removed-requires-clause-tree c =
    let n = entry (goal.at.remove-removed-requires-clause-tree c).In_ok-tree in
    registered c.args.root c.in_ok-tree.tree c.requires.tree.0 c.requires.root n.quiet.still n.named c.requires.tree.1

-- ---- no word step was left

pub returns-in_err-hold-clause-calls : goal.returns-in_err-hold-clause-calls
returns-in_err-hold-clause-calls c = let e = c.in_err-hold.ensures in calls_from c.from_residual.result c.from_residual.ensures.1 (calls_died _ e.went (e.died.0, e.died.1))

pub returns-in_err-tree-clause-calls : goal.returns-in_err-tree-clause-calls
returns-in_err-tree-clause-calls c =
    let e = c.in_err-tree.ensures in
    calls_from c.from_residual-in_err-tree.result c.from_residual-in_err-tree.ensures.1 (calls_died _ (went_on c.requires.working.run c.in_ok-hold.ensures.went e.looks.went) (e.looks.died.0, e.looks.died.1))

pub returns-in_err-hold-clause-refused : goal.returns-in_err-hold-clause-refused
returns-in_err-hold-clause-refused c = handed_over _ c.from_residual.result c.from_residual.ensures.1 c.in_err-hold.ensures.died.0

pub returns-in_err-tree-clause-refused : goal.returns-in_err-tree-clause-refused
returns-in_err-tree-clause-refused c = handed_over _ c.from_residual-in_err-tree.result c.from_residual-in_err-tree.ensures.1 c.in_err-tree.ensures.looks.died.0

pub returns-in_err-hold-clause-late : goal.returns-in_err-hold-clause-late
returns-in_err-hold-clause-late c = λ t w. late_from c.from_residual.result c.from_residual.ensures.1 (λ e. last_any (pruned_steps (height t) c.args.pool.now.start.geometry) (c.in_err-hold.ensures.late e))

pub returns-in_err-tree-clause-late : goal.returns-in_err-tree-clause-late
returns-in_err-tree-clause-late c =
    let h = c.in_ok-hold.ensures in
    let s = h.steps in
    λ t w. late_from c.from_residual-in_err-tree.result c.from_residual-in_err-tree.ensures.1 (λ e. last_after 2 (pruned_steps (height t) c.args.pool.now.start.geometry) (omega arith) c.requires.working h.went (omega (arith, s)) (c.in_err-tree.ensures.late e))

-- ---- the latch is given back

pub released-requires : goal.released-requires
released-requires c =
    let n = entry (goal.at.released-requires c).In_ok-tree in
    let b = c.remove-removed.ensures.builds c.requires.tree.0 (entered_stands n c.requires.tree.0 c.requires.tree.1.stands) in
    record { working = b.working; latch = held_on c.remove-removed.result n.held b }

pub returns : goal.returns
returns c =
    let p = c.args.pool.now in
    let q = c.tree_in.new.pool in
    let r = c.remove-removed.new.pool in
    let x = c.args.key in
    let a = c.remove-removed.result in
    let o = c.released.result in
    let y = c.tree_in.new.life.left in
    let z = c.remove-removed.new.life.left in
    let h = c.remove-removed.ensures in
    let rel = c.released.ensures in
    let wp = c.requires.working in
    let n = entry (goal.at.returns c).In_ok-tree in
    let l = n.quiet in
    let (t0, w0) = c.requires.tree in
    let s0 = entered_stands n t0 w0.stands in
    let Taken : Result (Option Removed) Stop → Type 0 = λ v. IfOk v (λ m. (t : Tree) → TreeStands q c.in_ok-tree.tree t → IsRemoved x t m q r) in
    let Builds' : Result (Option Removed) Stop → Type 0 = λ v. (t : Tree) → TreeStands q c.in_ok-tree.tree t → Builds c.args.hints (3 * height t) (remove_steps (height t) q.start.geometry) v q r y z in
    record {
      off = released_off a wp n (h.builds t0 s0) o rel;
      late = λ t w. released_late (remove_steps (height t)) a wp n (h.builds t (entered_stands n t w.stands)) o rel;
      calls = released_calls a wp n (h.builds t0 s0) c.requires.latch (ok_kept a (λ m b. removed_named x t0 m q r (b t0 s0)) h.removed) o rel;
      pruned = released_ok Taken o rel h.removed (λ m b g. pruned_is p q r c.released.new.pool x c.in_ok-tree.tree c.args.root l.still g.still n.named c.requires.tree m b);
      costs = released_ok (λ v. Builds' v × Taken v × IfOk v (λ m. KeepsLives q r)) o rel (h.builds, h.removed, h.rests) (λ m f g t w. let st = entered_stands n t w.stands in released_costs (remove_steps (height t)) wp n g (f.0 t st) (removed_made x t m q r (f.1 t st)) f.2);
      refused = released_refused Builds' o rel h.builds (λ e alive f g t w. released_spends (remove_steps (height t)) wp n g e alive (f t (entered_stands n t w.stands)));
    }
