use Rattle.shm_tree.proofs.{Resting.rests_after, Sharings.{fresh_read, weighs_single}}
use Rattle.shm_tree.proofs.Building.{at_hand_still, builds_after, builds_first, builds_from, built_after, looked, ok_kept, rooms_still}
use Rattle.shm_tree.proofs.{Rotations.{content_is, node_of, parts}, Lasts.last_more}
use Rattle.shm_tree.proofs.balance.single.Goals as goal
use Rattle.shm_tree.specs.{Sharing.{WeighsRaised, WeighsTurned}, declared.node.Content.Content}
use Rattle.shm_tree.specs.{Building.{StandsRaised, StandsTurned}, Keeping.node_by, Standing.TreeStands}
use Rattle.shm_tree.specs.Bounds.{raised_steps, turned_steps}
use Rattle.std.proofs.Common.{◌≡◌, ◌∙◌, lit≤, sym, subst, arith}
use Rattle.shm_count.specs.declared.answer.Made.{Made}

pub content_of-requires : goal.content_of-requires
content_of-requires c = record { working = c.requires.working; node = node_of c.args.pool.now c.args.trees.far c.requires.some c.requires.far.0; reached = c.requires.far.1 }

pub raised-requires : goal.raised-requires
raised-requires c =
    let t = c.in_ok-top.ensures in
    let read = looked t.looks in
    let same = rooms_still t.looks.still in
    record {
      working = t.looks.working;
      latch = t.looks.latch ∙ c.requires.latch;
      room = omega arith;
      near = at_hand_still c.args.trees.near read c.requires.near;
      middle = at_hand_still c.args.grand.near read c.requires.grand_near;
      far = at_hand_still c.args.grand.far read c.requires.grand_far;
    }

pub returns-clause-builds : goal.returns-clause-builds
returns-clause-builds c =
    let t = c.in_ok-top.ensures in
    let e = t.steps in
    builds_after 2 2 4 raised_steps _ (lit≤ tt) (omega arith) c.requires.working (looked t.looks) (omega (arith, e)) c.raised.ensures.builds

pub returns-clause-built : goal.returns-clause-built
returns-clause-built c =
    let run = c.requires.working.run in
    let t = c.in_ok-top.ensures in
    ok_kept _ (λ m b. built_after run t.looks.went.run t.looks.went.start t.looks.still b) c.raised.ensures.built

pub returns-clause-stands : goal.returns-clause-stands
returns-clause-stands c =
    ok_kept {T = Made} {P = λ m. StandsRaised c.in_ok-top.top c.args.side (record { content = c.args.middle; trees = record { near = c.args.trees.near; far = c.args.grand.near } }) c.args.grand.far m.block c.content_of.new.pool c.raised.new.pool} {Q = λ m. StandsTurned c.args.middle c.args.side c.args.trees m.block c.args.pool.now c.raised.new.pool} _ (λ m b. λ x y z d sx sn.
    let s = c.args.side in
    let t = c.in_ok-top.ensures in
    let w = parts c.args.pool.now c.args.trees.far s d y z sn in
    let is : c.in_ok-top.top ≡ d = content_is (t.key ∙ w.key) (t.number ∙ w.number) in
    let sy = subst (λ e. TreeStands c.args.pool.now e y) (sym c.requires.near_is) w.near in
    let sz = subst (λ e. TreeStands c.args.pool.now e z) (sym c.requires.far_is) w.far in
    subst (λ (v : Content). TreeStands c.raised.new.pool m.block (node_by s v (node_by s c.args.middle x y) z)) is
    (b x y z (t.looks.still.trees _ x sx) (t.looks.still.trees _ y sy) (t.looks.still.trees _ z sz))) c.raised.ensures.stands

pub returns-in_err-top-clause-builds : goal.returns-in_err-top-clause-builds
returns-in_err-top-clause-builds c =
    let e = c.in_err-top.ensures in
    builds_from c.from_residual.result c.from_residual.ensures.1 (builds_first e.looks (λ d. last_more (turned_steps c.args.pool.now.start.geometry) (omega arith) (e.late d)))

pub returns-clause-fresh : goal.returns-clause-fresh
returns-clause-fresh c =
    let t = c.in_ok-top.ensures in
    fresh_read _ t.looks.still c.raised.ensures.fresh

pub returns-clause-weighs : goal.returns-clause-weighs
returns-clause-weighs c =
    let t = c.in_ok-top.ensures in
    ok_kept {T = Made} {P = λ m. WeighsRaised c.in_ok-top.top c.args.side (record { content = c.args.middle; trees = record { near = c.args.trees.near; far = c.args.grand.near } }) c.args.grand.far m.block c.content_of.new.pool c.raised.new.pool} {Q = λ m. WeighsTurned c.args.middle c.args.side c.args.trees m.block c.args.pool.now c.raised.new.pool} _
    (λ m b. weighs_single c.args.pool.now c.content_of.new.pool c.raised.new.pool c.args.side c.args.middle c.in_ok-top.top c.args.trees c.args.grand m.block t.looks.still t.key t.number c.requires.near_is c.requires.far_is b) c.raised.ensures.weighs

pub returns-clause-rests : goal.returns-clause-rests
returns-clause-rests c =
    let t = c.in_ok-top.ensures in
    rests_after c.raised.result c.args.pool.now c.content_of.new.pool c.raised.new.pool t.looks.working t.looks.still c.raised.ensures.builds c.raised.ensures.rests
