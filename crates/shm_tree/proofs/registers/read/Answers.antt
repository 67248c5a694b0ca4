use Rattle.std.proofs.Common.{◌+◌, ◌*◌, arith}
use Rattle.shm_tree.specs.{Costing.read_steps, Trees.height}
use Rattle.shm_tree.proofs.{Building.{looked, went_on}, Costing.costs_still, Forests.{Quiet, quiet, quiet_then}}
use Rattle.shm_tree.proofs.Releasing.{Entered, entered, entered_stands}
use Rattle.shm_tree.proofs.{registers.read.Goals.{In_ok-number, In_ok-tree}, Lasts.{last_after, last_any, late_from}}
use Rattle.shm_tree.proofs.registers.read.Goals as goal

-- what the calls left before the number was read
entry : (c : In_ok-tree) → Entered c.args.root c.in_ok-tree.tree c.args.pool.now c.tree_in.new.pool c.args.life.now.left c.tree_in.new.life.left
entry c =
    let h = c.in_ok-hold.ensures in
    let t = c.in_ok-tree.ensures in
    entered c.args.root c.in_ok-tree.tree c.requires.working (quiet h.went h.working h.still) h.latch h.steps (looked t.looks) t.names t.steps

-- and before the latch was given back
looks : (c : In_ok-number) → Quiet c.args.pool.now c.number_at.new.pool c.args.life.now.left c.number_at.new.life.left
looks c = let n = c.in_ok-number.ensures.looks in quiet_then c.requires.working (entry (goal.at.In_ok-number c).In_ok-tree).quiet (quiet n.went n.working n.still)

pub returns-in_err-tree-clause-went : goal.returns-in_err-tree-clause-went
returns-in_err-tree-clause-went c = went_on c.requires.working.run c.in_ok-hold.ensures.went c.in_err-tree.ensures.looks.went

pub returns-in_err-number-clause-went : goal.returns-in_err-number-clause-went
returns-in_err-number-clause-went c =
    let run = c.requires.working.run in
    went_on run (entry (goal.at.returns-in_err-number-clause-went c).In_ok-tree).quiet.went c.in_err-number.ensures.looks.went

pub returns-in_err-release-clause-went : goal.returns-in_err-release-clause-went
returns-in_err-release-clause-went c = went_on c.requires.working.run (looks (goal.at.returns-in_err-release-clause-went c).In_ok-number).went c.in_err-release.ensures.went

pub returns-clause-went : goal.returns-clause-went
returns-clause-went c = went_on c.requires.working.run (looks (goal.at.returns-clause-went c).In_ok-number).went c.in_ok-release.ensures.went

pub returns-clause-still : goal.returns-clause-still
returns-clause-still c =
    let r = c.in_ok-release.ensures in
    (quiet_then c.requires.working (looks (goal.at.returns-clause-still c).In_ok-number) (quiet r.went r.working r.still)).still

pub returns-clause-costs : goal.returns-clause-costs
returns-clause-costs c =
    let w = c.requires.working in
    let e = entry (goal.at.returns-clause-costs c).In_ok-tree in
    let n = c.in_ok-number.ensures in
    let r = c.in_ok-release.ensures in
    let all = quiet_then w (looks (goal.at.returns-clause-costs c).In_ok-number) (quiet r.went r.working r.still) in
    λ u st.
    let few = n.steps u (entered_stands e u st) in
    let one = e.few in
    let two = r.steps in
    costs_still (read_steps (height u)) all.went all.still (omega (arith, few, one, two))

-- no word step was left
pub returns-in_err-hold-clause-late : goal.returns-in_err-hold-clause-late
returns-in_err-hold-clause-late c = λ t st. late_from c.from_residual.result c.from_residual.ensures.1 (λ e. last_any (read_steps (height t)) (c.in_err-hold.ensures.late e))

pub returns-in_err-tree-clause-late : goal.returns-in_err-tree-clause-late
returns-in_err-tree-clause-late c =
    let h = c.in_ok-hold.ensures in
    let s = h.steps in
    λ t st. late_from c.from_residual-in_err-tree.result c.from_residual-in_err-tree.ensures.1 (λ e. last_after 2 (read_steps (height t)) (omega arith) c.requires.working h.went (omega (arith, s)) (c.in_err-tree.ensures.late e))

pub returns-in_err-number-clause-late : goal.returns-in_err-number-clause-late
returns-in_err-number-clause-late c =
    let n = entry (goal.at.returns-in_err-number-clause-late c).In_ok-tree in
    let few = n.few in
    λ t st. late_from c.from_residual-in_err-number.result c.from_residual-in_err-number.ensures.1 (λ e. last_after 3 (read_steps (height t)) (omega arith) c.requires.working n.quiet.went (omega (arith, few)) (c.in_err-number.ensures.late t (entered_stands n t st) e))

pub returns-in_err-release-clause-late : goal.returns-in_err-release-clause-late
returns-in_err-release-clause-late c =
    let n = entry (goal.at.returns-in_err-release-clause-late c).In_ok-tree in
    let one = n.few in
    λ t st.
    let few = c.in_ok-number.ensures.steps t (entered_stands n t st) in
    late_from c.from_residual-in_err-release.result c.from_residual-in_err-release.ensures.1 (λ e. last_after (5 * height t + 7) (read_steps (height t)) (omega arith) c.requires.working (looks (goal.at.returns-in_err-release-clause-late c).In_ok-number).went (omega (arith, few, one)) (c.in_err-release.ensures.late e))
