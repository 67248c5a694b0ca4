use Rattle.shm_tree.proofs.Resting.{rests_dropped, rests_linked, rests_then}
use Rattle.shm_tree.proofs.Weights.{fresh_under, weigh_link, weight_nodes, weight_root}
use Rattle.shm_tree.proofs.Building.{apart, at_hand_linked, born_built, builds_cut, builds_drop, builds_from, builds_link, builds_on, builds_stuck, built_cut, built_over, cut_then, linked_at_hand, linked_some, looked_none, rooms_rooted, rooms_some, still_cut, top_stands}
use Rattle.shm_tree.proofs.{Spendings.spent_call, balance.raised.Goals.{In_ok-lower, In_ok-made}}
use Rattle.shm_tree.proofs.balance.raised.Goals as goal
use Rattle.shm_tree.specs.{Keeping.node_by, Trees.Tree, Bounds.link_steps, Building.{Builds, IsBuilt}}
use Rattle.std.proofs.Common.{◌+◌, ◌∙◌, lit≤, arith}
use Rattle.std.specs.Prelude.{Ok}
use Rattle.shm_count.specs.declared.answer.Made.{Made}

pub link-requires-clause-room : goal.link-requires-clause-room
link-requires-clause-room c = rooms_some c.requires.working (omega arith)

pub link-requires-clause-near : goal.link-requires-clause-near
link-requires-clause-near c = c.requires.near.0

pub link-requires-clause-near_reached : goal.link-requires-clause-near_reached
link-requires-clause-near_reached c = c.requires.near.1

pub link-requires-clause-far : goal.link-requires-clause-far
link-requires-clause-far c = c.requires.middle.0

pub link-requires-clause-far_reached : goal.link-requires-clause-far_reached
link-requires-clause-far_reached c = c.requires.middle.1

pub link-requires-2 : goal.link-requires-2
link-requires-2 c =
    let l = c.in_ok-lower.ensures in
    let low = linked_at_hand l.linked c.requires.near.0 c.requires.middle.0 l.changes.working in
    let far = at_hand_linked c.args.far l.linked l.changes.reaches c.requires.far in
    let less = rooms_rooted l.linked.born.rooted in
    record {
      working = l.changes.working;
      latch = l.changes.latch ∙ c.requires.latch;
      room = rooms_some l.changes.working (omega arith);
      near = low.0;
      near_reached = low.1;
      far = far.0;
      far_reached = far.1;
    }

pub drop_root-requires : goal.drop_root-requires
drop_root-requires c = record { working = c.in_ok-made.ensures.changes.working; root = c.in_ok-lower.ensures.linked.born.rooted.low }

low : (c : In_ok-lower) → IsBuilt 1 c.in_ok-lower.lower c.args.pool.now c.link.new.pool
low c = born_built (linked_some c.in_ok-lower.ensures.linked c.requires.near.0 c.requires.middle.0) c.in_ok-lower.ensures.linked.born

high : (c : In_ok-made) → IsBuilt 1 c.in_ok-made.made c.link.new.pool c.link-2.new.pool
high c =
    let l = c.in_ok-lower.ensures in
    let far = at_hand_linked c.args.far l.linked l.changes.reaches c.requires.far in
    let node = linked_at_hand l.linked c.requires.near.0 c.requires.middle.0 l.changes.working in
    born_built (linked_some c.in_ok-made.ensures.linked node.0 far.0) c.in_ok-made.ensures.linked.born

-- both nodes
both : (c : In_ok-made) → Builds c.args.hints 2 (link_steps c.args.pool.now.start.geometry + link_steps c.args.pool.now.start.geometry) (Ok c.in_ok-made.made) c.args.pool.now c.link-2.new.pool c.args.life.now.left c.link-2.new.life.left
both c =
    let l = c.in_ok-lower.ensures in
    let m = c.in_ok-made.ensures in
    builds_on link_steps c.requires.working (builds_link (Ok c.in_ok-lower.lower) l.changes) (builds_link (Ok c.in_ok-made.made) m.changes)

pub returns-clause-builds : goal.returns-clause-builds
returns-clause-builds c =
    let d = c.in_ok-drop_root.ensures in
    builds_drop c.in_ok-lower.lower.root c.requires.working (both (goal.at.returns-clause-builds c).In_ok-made) d.went d.working d.latch d.steps

pub returns-clause-built : goal.returns-clause-built
returns-clause-built c =
    let at = (goal.at.returns-clause-built c).In_ok-made in
    let l = c.in_ok-lower.ensures in
    let m = c.in_ok-made.ensures in
    let d = c.in_ok-drop_root.ensures in
    built_over c.requires.working.run l.changes.went.run l.changes.went.start m.changes.went.run m.changes.went.start (low (goal.at.returns-clause-built c).In_ok-lower) (high at) d.emptied d.dropped d.working

pub returns-clause-stands : goal.returns-clause-stands
returns-clause-stands c =
    λ x y z sx sy sz.
    let l = c.in_ok-lower.ensures in
    let m = c.in_ok-made.ensures in
    let d = c.in_ok-drop_root.ensures in
    let far = l.linked.born.trees _ z sz in
    top_stands _ (linked_some l.linked c.requires.near.0 c.requires.middle.0) l.linked.born.rooted m.linked.born.rooted d.dropped (m.linked.stands _ z (l.linked.stands x y sx sy) far)

pub returns-in_err-lower-clause-builds : goal.returns-in_err-lower-clause-builds
returns-in_err-lower-clause-builds c =
    let e = c.in_err-lower.ensures in
    let n = looked_none c.args.pool.now c.args.life.now.left c.requires.working in
    builds_from c.from_residual.result c.from_residual.ensures.1 (builds_cut Made 1 link_steps {T = Made} {n = 0} {k = 2} _ (lit≤ tt) (omega arith) c.requires.working n.went n.latch (still_cut n.still) (spent_call 0 n.went (omega arith)) (builds_link _ e.changes))

pub returns-in_err-made-clause-builds : goal.returns-in_err-made-clause-builds
returns-in_err-made-clause-builds c =
    let l = c.in_ok-lower.ensures in
    let e = c.in_err-made.ensures in
    builds_from c.from_residual-in_err-made.result c.from_residual-in_err-made.ensures.1 (builds_cut Made 1 link_steps {T = Made} {n = 1} {k = 2} _ (lit≤ tt) (omega arith) c.requires.working l.changes.went l.changes.latch (built_cut (low (goal.at.returns-in_err-made-clause-builds c).In_ok-lower)) (spent_call _ l.changes.went l.changes.steps) (builds_link _ e.changes))

pub returns-in_err-drop_root-clause-builds : goal.returns-in_err-drop_root-clause-builds
returns-in_err-drop_root-clause-builds c =
    let at = (goal.at.returns-in_err-drop_root-clause-builds c).In_ok-made in
    let l = c.in_ok-lower.ensures in
    let e = c.in_err-drop_root.ensures in
    let cut = cut_then c.requires.working.run l.changes.went.run l.changes.went.start (built_cut (low (goal.at.returns-in_err-drop_root-clause-builds c).In_ok-lower)) (built_cut (high at)) in
    builds_from c.from_residual-in_err-drop_root.result c.from_residual-in_err-drop_root.ensures.1 (builds_stuck _ c.requires.working (both at) cut e.went e.working e.latch e.still e.refused_steps e.cause e.died e.late)

pub returns-clause-fresh : goal.returns-clause-fresh
returns-clause-fresh c =
    let l = c.in_ok-lower.ensures in
    let m = c.in_ok-made.ensures in
    fresh_under c.in_ok-made.made.block l.linked.born m.linked.born.fresh

pub returns-clause-weighs : goal.returns-clause-weighs
returns-clause-weighs c =
    λ f x y z count sx sy sz.
    let s = c.args.side in
    let l = c.in_ok-lower.ensures in
    let m = c.in_ok-made.ensures in
    let d = c.in_ok-drop_root.ensures in
    let under : Tree = node_by s c.args.below.content x y in
    let sl = l.linked.stands x y sx sy in
    let far = l.linked.born.trees c.args.far z sz in
    let low = weigh_link f x y l.linked sx sy in
    let high = weigh_link f under z m.linked sl far in
    let same = weight_nodes f c.args.pool.now c.link.new.pool l.linked.born.nodes c.args.far z sz in
    let named = d.emptied.others c.in_ok-made.made.root (apart (linked_some l.linked c.requires.near.0 c.requires.middle.0) l.linked.born.rooted m.linked.born.rooted) ∙ m.linked.born.rooted.names in
    let top = weight_root c.in_ok-lower.lower.root c.link-2.new.pool c.drop_root.new.pool d.working d.dropped f (node_by s c.args.top under z) c.in_ok-made.made.root c.in_ok-made.made.block named (m.linked.stands under z sl far) in
    let a = count c.in_ok-lower.lower.block in
    let b = count c.in_ok-made.made.block in
    omega (arith, low, high, same, top, a, b)

pub returns-clause-rests : goal.returns-clause-rests
returns-clause-rests c =
    let p = c.args.pool.now in
    let l = c.in_ok-lower.ensures in
    let m = c.in_ok-made.ensures in
    let d = c.in_ok-drop_root.ensures in
    let far = at_hand_linked c.args.far l.linked l.changes.reaches c.requires.far in
    let node = linked_at_hand l.linked c.requires.near.0 c.requires.middle.0 l.changes.working in
    rests_then p c.link-2.new.pool c.drop_root.new.pool m.changes.working d.working d.went
    (rests_then p c.link.new.pool c.link-2.new.pool l.changes.working m.changes.working m.changes.went (rests_linked l.linked c.requires.near.0 c.requires.middle.0) (rests_linked m.linked node.0 far.0))
    (rests_dropped c.in_ok-lower.lower.root c.link-2.new.pool c.drop_root.new.pool d.working d.dropped)
