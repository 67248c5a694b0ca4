use Rattle.std.proofs.Common.{◌+◌, ◌*◌, ◌∙◌, sym, arith, ◌≤◌}
use Rattle.shm_tree.proofs.{Building.{looked, looked_then, looks_after, looks_done, looks_from}, Descents.others_deep}
use Rattle.shm_tree.proofs.Ways.{down_lower, down_found, end_none, end_some, stands_node}
use Rattle.shm_tree.proofs.{find.number_at.Goals.In_ok-place, Lasts.{last_after, last_more, late_from}}
use Rattle.shm_tree.proofs.find.number_at.Goals as goal
use Rattle.shm_tree.specs.{Standing.TreeStands, Trees.{Tree, height}}

pub find-requires : goal.find-requires
find-requires c = record { working = c.requires.working; latch = c.requires.latch; tree = c.requires.tree }

pub number-requires : goal.number-requires
number-requires c =
    let f = c.in_ok-place.ensures in
    let t = c.requires.tree.0 in
    record { working = f.looks.working; node = (stands_node c.find.new.pool c.in_ok-place.place.node _ (f.place t.0 t.1).stands (omega arith)).0; reached = f.reached }

-- the place is at most as deep as the tree is high
depth_high : (c : In_ok-place) (t : Tree) → TreeStands c.args.pool.now c.args.tree t → c.in_ok-place.place.depth ≤ height t
depth_high c t st =
    let w = c.in_ok-place.ensures.place t st in
    let lower = down_lower c.args.wanted t c.in_ok-place.place.depth (others_deep c.args.wanted c.in_ok-place.place.depth t w.on) in
    omega (arith, lower)

pub returns-then-place-eq0 : goal.returns-then-place-eq0
returns-then-place-eq0 c =
    let f = c.in_ok-place.ensures in
    let x = c.args.wanted in
    record {
      looks = looks_done _ (looked f.looks);
      late = λ t st. tt;
      steps = λ t st. (let d = depth_high (goal.at.returns-then-place-eq0 c).In_ok-place t st in let s = f.steps in omega (arith, d, s));
      is = λ t st. (let w = f.place t st in end_none c.find.new.pool c.in_ok-place.place.node x _ w.stands (omega arith) ∙ sym (down_found x t c.in_ok-place.place.depth w.on));
    }

pub returns-in_ok-number : goal.returns-in_ok-number
returns-in_ok-number c =
    let f = c.in_ok-place.ensures in
    let n = c.in_ok-number.ensures in
    let run = c.requires.working.run in
    let x = c.args.wanted in
    let read = looked_then run (looked f.looks) (looked n.looks) in
    record {
      looks = looks_done _ read;
      late = λ t st. tt;
      steps = λ t st. (let d = depth_high (goal.at.returns-in_ok-number c).In_ok-place t st in let s = f.steps in let u = n.steps in omega (arith, d, s, u));
      is = λ t st. (let w = f.place t st in end_some c.find.new.pool c.in_ok-place.place.node x c.in_ok-number.number _ w.stands w.end (omega arith) n.is ∙ sym (down_found x t c.in_ok-place.place.depth w.on));
    }

pub returns-in_err-place-clause-looks : goal.returns-in_err-place-clause-looks
returns-in_err-place-clause-looks c = looks_from c.from_residual.result c.from_residual.ensures.1 c.in_err-place.ensures.looks

pub returns-in_err-number-clause-looks : goal.returns-in_err-number-clause-looks
returns-in_err-number-clause-looks c =
    let f = c.in_ok-place.ensures.looks in
    looks_from c.from_residual-in_err-number.result c.from_residual-in_err-number.ensures.1 (looks_after c.requires.working.run f.went f.latch c.in_err-number.ensures.looks)

pub returns-in_err-place-clause-late : goal.returns-in_err-place-clause-late
returns-in_err-place-clause-late c = λ t st. late_from c.from_residual.result c.from_residual.ensures.1 (λ e. last_more (5 * height t + 4) (omega arith) (c.in_err-place.ensures.late t st e))

pub returns-in_err-number-clause-late : goal.returns-in_err-number-clause-late
returns-in_err-number-clause-late c =
    let f = c.in_ok-place.ensures in
    let s = f.steps in
    let n = c.in_ok-place.place.depth in
    λ t st.
    let d = depth_high (goal.at.returns-in_err-number-clause-late c).In_ok-place t st in
    late_from c.from_residual-in_err-number.result c.from_residual-in_err-number.ensures.1 (λ e. last_after (5 * n + 2) (5 * height t + 4) (omega (arith, d)) c.requires.working f.looks.went (omega (arith, s)) (c.in_err-number.ensures.late e))
