use Rattle.shm_tree.proofs.{Resting.rests_after, Sharings.{fresh_read, weighs_double}}
use Rattle.shm_tree.proofs.Building.{Looked, at_hand_still, builds_after, builds_died, builds_first, builds_from, built_after, looked, looked_then, ok_kept, rooms_still, tree_still, went_on}
use Rattle.shm_tree.proofs.Rotations.{child_at, content_is, node_of, node_other, parts}
use Rattle.shm_tree.proofs.{balance.double.Goals.In_ok-outer, Lasts.last_more, Spendings.spent_call}
use Rattle.shm_tree.proofs.balance.double.Goals as goal
use Rattle.shm_tree.specs.{Sharing.{WeighsCrowned, WeighsTurnedTwice}, declared.node.Content.Content}
use Rattle.shm_tree.specs.{Building.{rooms, StandsCrowned, StandsTurnedTwice}, Keeping.{node_by, other_side}}
use Rattle.shm_tree.specs.{Standing.TreeStands, Trees.Tree, Bounds.{crowned_steps, turned_steps}}
use Rattle.std.proofs.Common.{◌≡◌, ◌∙◌, lit≤, sym, ap, subst, arith}
use Rattle.shm_count.specs.declared.answer.Made.{Made}

pub content_of-requires : goal.content_of-requires
content_of-requires c = record { working = c.requires.working; node = node_of c.args.pool.now c.args.grand.near c.requires.grand_some c.requires.grand_near.0; reached = c.requires.grand_near.1 }

pub children-requires : goal.children-requires
children-requires c =
    let t = c.in_ok-top.ensures in
    let g = at_hand_still c.args.grand.near (looked t.looks) c.requires.grand_near in
    record { working = t.looks.working; latch = t.looks.latch ∙ c.requires.latch; node = node_of _ c.args.grand.near c.requires.grand_some g.0; reached = g.1 }

pub content_of-requires-2 : goal.content_of-requires-2
content_of-requires-2 c =
    let run = c.requires.working.run in
    let t = c.in_ok-top.ensures in
    let u = c.in_ok-parts.ensures in
    let read = looked_then run (looked t.looks) (looked u.looks) in
    let f = at_hand_still c.args.trees.far read c.requires.far in
    record { working = u.looks.working; node = node_of _ c.args.trees.far c.requires.some f.0; reached = f.1 }

-- what was read
read : (c : In_ok-outer) → Looked c.args.pool.now c.content_of-2.new.pool c.args.life.now.left c.content_of-2.new.life.left
read c = let run = c.requires.working.run in looked_then run (looked_then run (looked c.in_ok-top.ensures.looks) (looked c.in_ok-parts.ensures.looks)) (looked c.in_ok-outer.ensures.looks)

pub crowned-requires : goal.crowned-requires
crowned-requires c =
    let t = c.in_ok-top.ensures in
    let u = c.in_ok-parts.ensures in
    let v = c.in_ok-outer.ensures in
    let first = looked t.looks in
    let last = looked v.looks in
    let l = read (goal.at.crowned-requires c).In_ok-outer in
    let g = at_hand_still c.args.grand.near first c.requires.grand_near in
    let near = child_at c.args.side c.args.grand.near c.in_ok-parts.parts.near t.looks.working c.requires.grand_some g.0 u.near in
    let far = child_at (other_side c.args.side) c.args.grand.near c.in_ok-parts.parts.far t.looks.working c.requires.grand_some g.0 u.far in
    let same : rooms c.content_of-2.new.pool ≡ rooms c.args.pool.now = rooms_still l.still in
    record {
      working = v.looks.working;
      latch = v.looks.latch ∙ (u.looks.latch ∙ (t.looks.latch ∙ c.requires.latch));
      room = omega arith;
      near_near = at_hand_still c.args.trees.near l c.requires.near;
      near_far = at_hand_still c.in_ok-parts.parts.near last (tree_still c.in_ok-parts.parts.near u.looks.still near, u.near_reached);
      far_near = at_hand_still c.args.grand.far l c.requires.grand_far;
      far_far = at_hand_still c.in_ok-parts.parts.far last (tree_still c.in_ok-parts.parts.far u.looks.still far, u.far_reached);
    }

pub returns-clause-builds : goal.returns-clause-builds
returns-clause-builds c =
    let t = c.in_ok-top.ensures in
    let u = c.in_ok-parts.ensures in
    let v = c.in_ok-outer.ensures in
    let l = read (goal.at.returns-clause-builds c).In_ok-outer in
    let d = t.steps in
    let e = u.steps in
    let f = v.steps in
    builds_after 3 3 14 crowned_steps _ (lit≤ tt) (omega arith) c.requires.working l (omega (arith, d, e, f)) c.crowned.ensures.builds

pub returns-clause-built : goal.returns-clause-built
returns-clause-built c =
    let run = c.requires.working.run in
    let l = read (goal.at.returns-clause-built c).In_ok-outer in
    ok_kept _ (λ m b. built_after run l.went.run l.went.start l.still b) c.crowned.ensures.built

pub returns-clause-stands : goal.returns-clause-stands
returns-clause-stands c =
    ok_kept {T = Made} {P = λ m. StandsCrowned c.in_ok-top.top c.args.side (record { content = c.args.middle; trees = record { near = c.args.trees.near; far = c.in_ok-parts.parts.near } }) (record { content = c.in_ok-outer.outer; trees = record { near = c.args.grand.far; far = c.in_ok-parts.parts.far } }) m.block c.content_of-2.new.pool c.crowned.new.pool} {Q = λ m. StandsTurnedTwice c.args.middle c.args.side c.args.trees m.block c.args.pool.now c.crowned.new.pool} _ (λ m b. λ x y z w d e sx sn.
    let s = c.args.side in
    let p = c.args.pool.now in
    let t = c.in_ok-top.ensures in
    let u = c.in_ok-parts.ensures in
    let v = c.in_ok-outer.ensures in
    let far = parts p c.args.trees.far s d (node_by s e y z) w sn in
    let sg = subst (λ k. TreeStands p k (node_by s e y z)) (sym c.requires.near_is) far.near in
    let sw = subst (λ k. TreeStands p k w) (sym c.requires.far_is) far.far in
    let here = parts p c.args.grand.near s e y z sg in
    let top_is : c.in_ok-top.top ≡ e = content_is (t.key ∙ here.key) (t.number ∙ here.number) in
    let mid = parts _ c.args.grand.near s e y z (t.looks.still.trees _ _ sg) in
    let sy = subst (λ k. TreeStands c.content_of.new.pool k y) (sym u.near) mid.near in
    let sz = subst (λ k. TreeStands c.content_of.new.pool k z) (sym u.far) mid.far in
    let out = parts _ c.args.trees.far s d (node_by s e y z) w (u.looks.still.trees _ _ (t.looks.still.trees _ _ sn)) in
    let outer_is : c.in_ok-outer.outer ≡ d = content_is (v.key ∙ out.key) (v.number ∙ out.number) in
    let made = b x y w z (v.looks.still.trees _ _ (u.looks.still.trees _ _ (t.looks.still.trees _ x sx))) (v.looks.still.trees _ _ (u.looks.still.trees _ _ sy)) (v.looks.still.trees _ _ (u.looks.still.trees _ _ (t.looks.still.trees _ w sw))) (v.looks.still.trees _ _ (u.looks.still.trees _ _ sz)) in
    let turned = ap (λ (o : Tree). node_by s c.in_ok-top.top (node_by s c.args.middle x y) o) (node_other s c.in_ok-outer.outer w z) in
    let right = ap (λ (o : Content). node_by s c.in_ok-top.top (node_by s c.args.middle x y) (node_by s o z w)) outer_is in
    let over = ap (λ (o : Content). node_by s o (node_by s c.args.middle x y) (node_by s d z w)) top_is in
    subst (λ (k : Tree). TreeStands c.crowned.new.pool m.block k) (turned ∙ (right ∙ over)) made) c.crowned.ensures.stands

pub returns-in_err-top-clause-builds : goal.returns-in_err-top-clause-builds
returns-in_err-top-clause-builds c =
    let e = c.in_err-top.ensures in
    builds_from c.from_residual.result c.from_residual.ensures.1 (builds_first e.looks (λ d. last_more (turned_steps c.args.pool.now.start.geometry) (omega arith) (e.late d)))

pub returns-in_err-parts-clause-builds : goal.returns-in_err-parts-clause-builds
returns-in_err-parts-clause-builds c =
    let t = c.in_ok-top.ensures in
    let e = c.in_err-parts.ensures in
    let s = t.steps in
    builds_from c.from_residual-in_err-parts.result c.from_residual-in_err-parts.ensures.1 (builds_died {a = 4} {b = 6} (omega arith) c.requires.working t.looks.went t.looks.latch (spent_call 4 t.looks.went (omega (arith, s))) e.looks e.late)

pub returns-in_err-outer-clause-builds : goal.returns-in_err-outer-clause-builds
returns-in_err-outer-clause-builds c =
    let run = c.requires.working.run in
    let t = c.in_ok-top.ensures in
    let u = c.in_ok-parts.ensures in
    let e = c.in_err-outer.ensures in
    let went = went_on run t.looks.went u.looks.went in
    let s = t.steps in
    let w = u.steps in
    builds_from c.from_residual-in_err-outer.result c.from_residual-in_err-outer.ensures.1 (builds_died {a = 10} {b = 4} (omega arith) c.requires.working went (u.looks.latch ∙ t.looks.latch) (spent_call 10 went (omega (arith, s, w))) e.looks e.late)

pub returns-clause-fresh : goal.returns-clause-fresh
returns-clause-fresh c =
    let l = read (goal.at.returns-clause-fresh c).In_ok-outer in
    fresh_read _ l.still c.crowned.ensures.fresh

pub returns-clause-weighs : goal.returns-clause-weighs
returns-clause-weighs c =
    let t = c.in_ok-top.ensures in
    let u = c.in_ok-parts.ensures in
    let v = c.in_ok-outer.ensures in
    let l = read (goal.at.returns-clause-weighs c).In_ok-outer in
    ok_kept {T = Made} {P = λ m. WeighsCrowned c.in_ok-top.top c.args.side (record { content = c.args.middle; trees = record { near = c.args.trees.near; far = c.in_ok-parts.parts.near } }) (record { content = c.in_ok-outer.outer; trees = record { near = c.args.grand.far; far = c.in_ok-parts.parts.far } }) m.block c.content_of-2.new.pool c.crowned.new.pool} {Q = λ m. WeighsTurnedTwice c.args.middle c.args.side c.args.trees m.block c.args.pool.now c.crowned.new.pool} _
    (λ m b. weighs_double c.args.pool.now c.content_of.new.pool c.children.new.pool c.content_of-2.new.pool c.crowned.new.pool c.args.side c.args.middle c.in_ok-top.top c.in_ok-outer.outer c.args.trees c.args.grand c.in_ok-parts.parts m.block t.looks.still u.looks.still l.still c.requires.grand_some t.key t.number u.near u.far v.key v.number c.requires.near_is c.requires.far_is b) c.crowned.ensures.weighs

pub returns-clause-rests : goal.returns-clause-rests
returns-clause-rests c =
    let l = read (goal.at.returns-clause-rests c).In_ok-outer in
    rests_after c.crowned.result c.args.pool.now c.content_of-2.new.pool c.crowned.new.pool l.working l.still c.crowned.ensures.builds c.crowned.ensures.rests
