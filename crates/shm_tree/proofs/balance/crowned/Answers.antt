use Rattle.shm_tree.proofs.Resting.{rests_dropped, rests_linked, rests_then}
use Rattle.shm_tree.proofs.Weights.{fresh_under, weigh_link, weight_nodes, weight_root}
use Rattle.shm_tree.proofs.Building.{apart, at_hand_linked, born_built, builds_cut, builds_drop, builds_from, builds_link, builds_on, builds_stuck, built_cut, built_over, cut_then, linked_at_hand, linked_some, looked_none, rooms_rooted, rooms_some, still_cut, top_stands}
use Rattle.shm_tree.proofs.{Rotations.node_other, Spendings.spent_call, balance.crowned.Goals.{In_ok-lower, In_ok-made}}
use Rattle.shm_tree.proofs.balance.crowned.Goals as goal
use Rattle.shm_tree.specs.{Trees.Tree, declared.node.Side.Side, Keeping.{node_by, other_side}}
use Rattle.shm_tree.specs.{Standing.{TreeStands, weight}, Bounds.{link_steps, raised_steps}, Building.{Builds, IsBuilt}}
use Rattle.std.proofs.Common.{◌≡◌, ◌+◌, ◌∙◌, lit≤, ap, subst, arith}
use Rattle.std.specs.Prelude.{Ok}
use Rattle.shm_count.specs.declared.answer.Made.{Made}

pub link-requires-clause-room : goal.link-requires-clause-room
link-requires-clause-room c = rooms_some c.requires.working (omega arith)

pub link-requires-clause-near : goal.link-requires-clause-near
link-requires-clause-near c = c.requires.near_near.0

pub link-requires-clause-near_reached : goal.link-requires-clause-near_reached
link-requires-clause-near_reached c = c.requires.near_near.1

pub link-requires-clause-far : goal.link-requires-clause-far
link-requires-clause-far c = c.requires.near_far.0

pub link-requires-clause-far_reached : goal.link-requires-clause-far_reached
link-requires-clause-far_reached c = c.requires.near_far.1

pub raised-requires : goal.raised-requires
raised-requires c =
    let l = c.in_ok-lower.ensures in
    let less = rooms_rooted l.linked.born.rooted in
    record {
      working = l.changes.working;
      latch = l.changes.latch ∙ c.requires.latch;
      room = omega arith;
      near = at_hand_linked c.args.far.trees.near l.linked l.changes.reaches c.requires.far_near;
      middle = at_hand_linked c.args.far.trees.far l.linked l.changes.reaches c.requires.far_far;
      far = linked_at_hand l.linked c.requires.near_near.0 c.requires.near_far.0 l.changes.working;
    }

pub drop_root-requires : goal.drop_root-requires
drop_root-requires c = record { working = c.in_ok-made.ensures.builds.working; root = c.in_ok-lower.ensures.linked.born.rooted.low }

low : (c : In_ok-lower) → IsBuilt 1 c.in_ok-lower.lower c.args.pool.now c.link.new.pool
low c = born_built (linked_some c.in_ok-lower.ensures.linked c.requires.near_near.0 c.requires.near_far.0) c.in_ok-lower.ensures.linked.born

-- the nodes
both : (c : In_ok-made) → Builds c.args.hints 3 (link_steps c.args.pool.now.start.geometry + raised_steps c.args.pool.now.start.geometry) (Ok c.in_ok-made.made) c.args.pool.now c.raised.new.pool c.args.life.now.left c.raised.new.life.left
both c = let l = c.in_ok-lower.ensures in builds_on raised_steps c.requires.working (builds_link (Ok c.in_ok-lower.lower) l.changes) c.in_ok-made.ensures.builds

pub returns-clause-builds : goal.returns-clause-builds
returns-clause-builds c =
    let d = c.in_ok-drop_root.ensures in
    builds_drop c.in_ok-lower.lower.root c.requires.working (both (goal.at.returns-clause-builds c).In_ok-made) d.went d.working d.latch d.steps

pub returns-clause-built : goal.returns-clause-built
returns-clause-built c =
    let l = c.in_ok-lower.ensures in
    let m = c.in_ok-made.ensures.builds in
    let d = c.in_ok-drop_root.ensures in
    built_over c.requires.working.run l.changes.went.run l.changes.went.start m.went.run m.went.start (low (goal.at.returns-clause-built c).In_ok-lower) c.in_ok-made.ensures.built d.emptied d.dropped d.working

pub returns-clause-stands : goal.returns-clause-stands
returns-clause-stands c =
    λ x y z t sx sy sz st.
    let s = c.args.side in
    let l = c.in_ok-lower.ensures in
    let m = c.in_ok-made.ensures in
    let d = c.in_ok-drop_root.ensures in
    let o : c.other.result ≡ other_side s = c.other.ensures in
    let low = node_by s c.args.near.content x y in
    let made = m.stands z t low (l.linked.born.trees _ z sz) (l.linked.born.trees _ t st) (l.linked.stands x y sx sy) in
    let turned =
    ap (λ (v : Side). node_by v c.args.top (node_by v c.args.far.content z t) low) o
    ∙ node_other s c.args.top (node_by (other_side s) c.args.far.content z t) low in
    top_stands _ (linked_some l.linked c.requires.near_near.0 c.requires.near_far.0) l.linked.born.rooted m.built.rooted d.dropped
    (subst (λ v. TreeStands c.raised.new.pool c.in_ok-made.made.block v) turned made)

pub returns-in_err-lower-clause-builds : goal.returns-in_err-lower-clause-builds
returns-in_err-lower-clause-builds c =
    let e = c.in_err-lower.ensures in
    let n = looked_none c.args.pool.now c.args.life.now.left c.requires.working in
    builds_from c.from_residual.result c.from_residual.ensures.1 (builds_cut Made 1 link_steps {T = Made} {n = 0} {k = 3} _ (lit≤ tt) (omega arith) c.requires.working n.went n.latch (still_cut n.still) (spent_call 0 n.went (omega arith)) (builds_link _ e.changes))

pub returns-in_err-made-clause-builds : goal.returns-in_err-made-clause-builds
returns-in_err-made-clause-builds c =
    let l = c.in_ok-lower.ensures in
    let e = c.in_err-made.ensures.builds in
    builds_from c.from_residual-in_err-made.result c.from_residual-in_err-made.ensures.1 (builds_cut Made 2 raised_steps {T = Made} {n = 1} {k = 3} _ (lit≤ tt) (omega arith) c.requires.working l.changes.went l.changes.latch (built_cut (low (goal.at.returns-in_err-made-clause-builds c).In_ok-lower)) (spent_call _ l.changes.went l.changes.steps) e)

pub returns-in_err-drop_root-clause-builds : goal.returns-in_err-drop_root-clause-builds
returns-in_err-drop_root-clause-builds c =
    let at = (goal.at.returns-in_err-drop_root-clause-builds c).In_ok-made in
    let l = c.in_ok-lower.ensures in
    let e = c.in_err-drop_root.ensures in
    let cut = cut_then c.requires.working.run l.changes.went.run l.changes.went.start (built_cut (low (goal.at.returns-in_err-drop_root-clause-builds c).In_ok-lower)) (built_cut c.in_ok-made.ensures.built) in
    builds_from c.from_residual-in_err-drop_root.result c.from_residual-in_err-drop_root.ensures.1 (builds_stuck _ c.requires.working (both at) cut e.went e.working e.latch e.still e.refused_steps e.cause e.died e.late)

pub returns-clause-fresh : goal.returns-clause-fresh
returns-clause-fresh c =
    let l = c.in_ok-lower.ensures in
    let m = c.in_ok-made.ensures in
    fresh_under c.in_ok-made.made.block l.linked.born m.fresh

pub returns-clause-weighs : goal.returns-clause-weighs
returns-clause-weighs c =
    λ f x y z t count sx sy sz st.
    let s = c.args.side in
    let p = c.args.pool.now in
    let q = c.link.new.pool in
    let r = c.raised.new.pool in
    let l = c.in_ok-lower.ensures in
    let m = c.in_ok-made.ensures in
    let d = c.in_ok-drop_root.ensures in
    let o : c.other.result ≡ other_side s = c.other.ensures in
    let under : Tree = node_by s c.args.near.content x y in
    let first : Tree = node_by c.other.result c.args.top (node_by c.other.result c.args.far.content z t) under in
    let last : Tree = node_by s c.args.top under (node_by (other_side s) c.args.far.content z t) in
    let turned : first ≡ last =
    ap (λ (v : Side). node_by v c.args.top (node_by v c.args.far.content z t) under) o
    ∙ node_other s c.args.top (node_by (other_side s) c.args.far.content z t) under in
    let sl = l.linked.stands x y sx sy in
    let zq = l.linked.born.trees c.args.far.trees.near z sz in
    let tq = l.linked.born.trees c.args.far.trees.far t st in
    let low = weigh_link f x y l.linked sx sy in
    let most = m.weighs f z t under count zq tq sl in
    let i = weight_nodes f p q l.linked.born.nodes c.args.far.trees.near z sz in
    let j = weight_nodes f p q l.linked.born.nodes c.args.far.trees.far t st in
    let k : weight f r c.in_ok-made.made.block first ≡ weight f r c.in_ok-made.made.block last = ap (λ (u : Tree). weight f r c.in_ok-made.made.block u) turned in
    let stands : TreeStands r c.in_ok-made.made.block last = subst (λ (u : Tree). TreeStands r c.in_ok-made.made.block u) turned (m.stands z t under zq tq sl) in
    let named = d.emptied.others c.in_ok-made.made.root (apart (linked_some l.linked c.requires.near_near.0 c.requires.near_far.0) l.linked.born.rooted m.built.rooted) ∙ m.built.rooted.names in
    let top = weight_root c.in_ok-lower.lower.root r c.drop_root.new.pool d.working d.dropped f last c.in_ok-made.made.root c.in_ok-made.made.block named stands in
    let a = count c.in_ok-lower.lower.block in
    omega (arith, low, most, i, j, k, top, a)

pub returns-clause-rests : goal.returns-clause-rests
returns-clause-rests c =
    let p = c.args.pool.now in
    let l = c.in_ok-lower.ensures in
    let m = c.in_ok-made.ensures in
    let d = c.in_ok-drop_root.ensures in
    rests_then p c.raised.new.pool c.drop_root.new.pool m.builds.working d.working d.went
    (rests_then p c.link.new.pool c.raised.new.pool l.changes.working m.builds.working m.builds.went (rests_linked l.linked c.requires.near_near.0 c.requires.near_far.0) m.rests)
    (rests_dropped c.in_ok-lower.lower.root c.raised.new.pool c.drop_root.new.pool d.working d.dropped)
