use Rattle.shm_tree.proofs.Resting.{rests_after, rests_link}
use Rattle.shm_tree.proofs.Sharings.{fresh_read, weighs_far, weighs_flat, weighs_near}
use Rattle.shm_tree.proofs.Building.{Looked, alive_any, alive_kept, alive_over, at_hand_still, born_built, builds_after, builds_died, builds_first, builds_from, builds_link, built_after, built_more, cheap_after, link_cheap, linked_some, looked, looked_then, ok_any, ok_kept, rooms_some, rooms_still}
use Rattle.shm_tree.proofs.Rotations.{joined_far, joined_flat, joined_near, joined_stands, seen_back, tall_some}
use Rattle.shm_tree.proofs.{balance.balanced.Goals.In_ok-far, Lasts.last_any, Spendings.spent_call}
use Rattle.shm_tree.proofs.balance.balanced.Goals as goal
use Rattle.shm_tree.specs.{Sharing.{IsOver, IsFresh, WeighsFar, WeighsJoined}, declared.node.Side.Side}
use Rattle.shm_tree.specs.{Standing.TreeStands, Trees.{Tree, height}}
use Rattle.shm_tree.specs.Building.{rooms, IsBuilt, IsCheap, StandsOf, from_far, joined_by}
use Rattle.shm_tree.specs.{Keeping.{IsLinked, node_by}, Bounds.{balanced_steps, link_steps, rotated_steps}}
use Rattle.std.proofs.Common.{◌≡◌, ◌∙◌, lit≤, refl, sym, ap, subst, arith}
use Rattle.shm_count.specs.declared.answer.Made.{Made}

pub height-requires : goal.height-requires
height-requires c = record { working = c.requires.working; tree = c.requires.near.0; reached = c.requires.near.1 }

pub height-requires-2 : goal.height-requires-2
height-requires-2 c =
    let u = c.in_ok-near.ensures in
    let far = at_hand_still c.args.trees.far (looked u.looks) c.requires.far in
    record { working = u.looks.working; tree = far.0; reached = far.1 }

pub returns-in_err-near-clause-builds : goal.returns-in_err-near-clause-builds
returns-in_err-near-clause-builds c =
    let e = c.in_err-near.ensures in
    builds_from c.from_residual.result c.from_residual.ensures.1 (builds_first e.looks (λ d. last_any (balanced_steps c.args.pool.now.start.geometry) (e.late d)))

pub returns-in_err-far-clause-builds : goal.returns-in_err-far-clause-builds
returns-in_err-far-clause-builds c =
    let u = c.in_ok-near.ensures in
    let e = c.in_err-far.ensures in
    let s = u.steps in
    builds_from c.from_residual-in_err-far.result c.from_residual-in_err-far.ensures.1 (builds_died {a = 2} {b = 0} (omega arith) c.requires.working u.looks.went u.looks.latch (spent_call 2 u.looks.went (omega (arith, s))) e.looks e.late)

-- what was read
read : (c : In_ok-far) → Looked c.args.pool.now c.height-2.new.pool c.args.life.now.left c.height-2.new.life.left
read c = looked_then c.requires.working.run (looked c.in_ok-near.ensures.looks) (looked c.in_ok-far.ensures.looks)

told : (c : In_ok-far) (x y : Tree) → TreeStands c.args.pool.now c.args.trees.near x → TreeStands c.args.pool.now c.args.trees.far y → (c.in_ok-near.near ≡ height x) × (c.in_ok-far.far ≡ height y)
told c x y sx sy = (c.in_ok-near.ensures.is x sx, c.in_ok-far.ensures.is y (c.in_ok-near.ensures.looks.still.trees _ y sy))

pub rotated-requires : goal.rotated-requires
rotated-requires c =
    let u = c.in_ok-near.ensures in
    let v = c.in_ok-far.ensures in
    let r = read (goal.at.rotated-requires c).In_ok-far in
    let same : rooms c.height-2.new.pool ≡ rooms c.args.pool.now = rooms_still r.still in
    let far = at_hand_still c.args.trees.far (looked u.looks) c.requires.far in
    record {
      working = r.working;
      latch = r.latch ∙ c.requires.latch;
      room = omega arith;
      near = at_hand_still c.args.trees.near r c.requires.near;
      far = at_hand_still c.args.trees.far r c.requires.far;
      some = tall_some _ c.args.trees.far c.in_ok-far.far far.0 v.is (omega arith);
    }

pub rotated-requires-then-saturating_sub-gt1-2 : goal.rotated-requires-then-saturating_sub-gt1-2
rotated-requires-then-saturating_sub-gt1-2 c =
    let u = c.in_ok-near.ensures in
    let r = read (goal.at.rotated-requires-then-saturating_sub-gt1-2 c).In_ok-far in
    let same : rooms c.height-2.new.pool ≡ rooms c.args.pool.now = rooms_still r.still in
    record {
      working = r.working;
      latch = r.latch ∙ c.requires.latch;
      room = omega arith;
      near = at_hand_still c.args.trees.far r c.requires.far;
      far = at_hand_still c.args.trees.near r c.requires.near;
      some = tall_some _ c.args.trees.near c.in_ok-near.near c.requires.near.0 u.is (omega arith);
    }

pub link-requires : goal.link-requires
link-requires c =
    let r = read (goal.at.link-requires c).In_ok-far in
    let same : rooms c.height-2.new.pool ≡ rooms c.args.pool.now = rooms_still r.still in
    let near = at_hand_still c.args.trees.near r c.requires.near in
    let far = at_hand_still c.args.trees.far r c.requires.far in
    record {
      working = r.working;
      latch = r.latch ∙ c.requires.latch;
      room = rooms_some r.working (omega arith);
      near = near.0;
      near_reached = near.1;
      far = far.0;
      far_reached = far.1;
    }

pub returns-then-saturating_sub-gt1 : goal.returns-then-saturating_sub-gt1
returns-then-saturating_sub-gt1 c =
    let p = c.args.pool.now in
    let u = c.in_ok-near.ensures in
    let v = c.in_ok-far.ensures in
    let run = c.requires.working.run in
    let at = (goal.at.returns-then-saturating_sub-gt1 c).In_ok-far in
    let r = read at in
    record {
      builds = (let d = u.steps in let e = v.steps in builds_after 3 3 4 rotated_steps _ (lit≤ tt) (omega arith) c.requires.working r (omega (arith, d, e)) c.rotated.ensures.builds);
      built = ok_kept _ (λ m b. built_after run r.went.run r.went.start r.still b) c.rotated.ensures.built;
      stands =
          ok_kept {T = Made} {P = λ m. StandsOf (from_far c.args.side c.args.middle) c.args.trees m.block c.height-2.new.pool c.rotated.new.pool} {Q = λ m. StandsOf (joined_by c.args.side c.args.middle) c.args.trees m.block p c.rotated.new.pool} _ (λ m b. joined_stands (from_far c.args.side c.args.middle) p _ _ c.args.side c.args.middle c.args.trees m.block r.still.trees
          (λ x y sx sy. let h = told at x y sx sy in joined_far c.args.side c.args.middle x y (omega (arith, h.0, h.1))) b) c.rotated.ensures.stands;
      cheap =
          alive_any {T = Made} {P = IsCheap c.args.trees p c.rotated.new.pool} _ (λ x y sx sy n. let h = told at x y sx sy in absurd (omega (arith, h.0, h.1, n.left, n.right)));
      fresh = fresh_read _ r.still c.rotated.ensures.fresh;
      weighs =
          ok_kept {T = Made} {P = λ m. WeighsFar c.args.middle c.args.side c.args.trees m.block c.height-2.new.pool c.rotated.new.pool} {Q = λ m. WeighsJoined c.args.middle c.args.side c.args.trees m.block p c.rotated.new.pool} _ (λ m b. weighs_far p c.height-2.new.pool c.rotated.new.pool c.args.side c.args.middle c.args.trees m.block r.still
          (λ x y sx sy. let h = told at x y sx sy in omega (arith, h.0, h.1)) b) c.rotated.ensures.weighs;
      top =
          ok_any {T = Made} {P = λ m. IsOver c.args.trees c.args.side m.block p c.rotated.new.pool} _ (λ m x y sx sy n. let h = told at x y sx sy in absurd (omega (arith, h.0, h.1, n.left, n.right)));
      rests = rests_after c.rotated.result p c.height-2.new.pool c.rotated.new.pool r.working r.still c.rotated.ensures.builds c.rotated.ensures.rests;
    }

pub returns-then-saturating_sub-gt1-2 : goal.returns-then-saturating_sub-gt1-2
returns-then-saturating_sub-gt1-2 c =
    let p = c.args.pool.now in
    let s = c.args.side in
    let u = c.in_ok-near.ensures in
    let v = c.in_ok-far.ensures in
    let run = c.requires.working.run in
    let at = (goal.at.returns-then-saturating_sub-gt1-2 c).In_ok-far in
    let r = read at in
    record {
      builds = (let d = u.steps in let e = v.steps in builds_after 3 3 4 rotated_steps _ (lit≤ tt) (omega arith) c.requires.working r (omega (arith, d, e)) c.rotated-then-saturating_sub-gt1-2.ensures.builds);
      built = ok_kept _ (λ m b. built_after run r.went.run r.went.start r.still b) c.rotated-then-saturating_sub-gt1-2.ensures.built;
      stands =
          ok_kept {T = Made} {P = λ m. StandsOf (from_far c.other.result c.args.middle) (record { near = c.args.trees.far; far = c.args.trees.near }) m.block c.height-2.new.pool c.rotated-then-saturating_sub-gt1-2.new.pool} {Q = λ m. StandsOf (joined_by c.args.side c.args.middle) c.args.trees m.block p c.rotated-then-saturating_sub-gt1-2.new.pool} _ (λ m b. joined_stands (λ x y. from_far c.other.result c.args.middle y x) p _ _ s c.args.middle c.args.trees m.block r.still.trees
          (λ x y sx sy. let h = told at x y sx sy in joined_near s c.args.middle x y (omega (arith, h.0, h.1)) ∙ ap (λ (o : Side). from_far o c.args.middle y x) (sym c.other.ensures)) (seen_back (from_far c.other.result c.args.middle) c.args.trees m.block _ _ b)) c.rotated-then-saturating_sub-gt1-2.ensures.stands;
      cheap =
          alive_any {T = Made} {P = IsCheap c.args.trees p c.rotated-then-saturating_sub-gt1-2.new.pool} _ (λ x y sx sy n. let h = told at x y sx sy in absurd (omega (arith, h.0, h.1, n.left, n.right)));
      fresh = fresh_read _ r.still c.rotated-then-saturating_sub-gt1-2.ensures.fresh;
      weighs =
          ok_kept {T = Made} {P = λ m. WeighsFar c.args.middle c.other.result (record { near = c.args.trees.far; far = c.args.trees.near }) m.block c.height-2.new.pool c.rotated-then-saturating_sub-gt1-2.new.pool} {Q = λ m. WeighsJoined c.args.middle s c.args.trees m.block p c.rotated-then-saturating_sub-gt1-2.new.pool} _ (λ m b. weighs_near p c.height-2.new.pool c.rotated-then-saturating_sub-gt1-2.new.pool s c.args.middle c.args.trees m.block r.still
          (λ x y sx sy. let h = told at x y sx sy in omega (arith, h.0, h.1)) (subst (λ (o : Side). WeighsFar c.args.middle o (record { near = c.args.trees.far; far = c.args.trees.near }) m.block c.height-2.new.pool c.rotated-then-saturating_sub-gt1-2.new.pool) c.other.ensures b)) c.rotated-then-saturating_sub-gt1-2.ensures.weighs;
      top =
          ok_any {T = Made} {P = λ m. IsOver c.args.trees c.args.side m.block p c.rotated-then-saturating_sub-gt1-2.new.pool} _ (λ m x y sx sy n. let h = told at x y sx sy in absurd (omega (arith, h.0, h.1, n.left, n.right)));
      rests = rests_after c.rotated-then-saturating_sub-gt1-2.result p c.height-2.new.pool c.rotated-then-saturating_sub-gt1-2.new.pool r.working r.still c.rotated-then-saturating_sub-gt1-2.ensures.builds c.rotated-then-saturating_sub-gt1-2.ensures.rests;
    }

pub returns-else-saturating_sub-gt1-2 : goal.returns-else-saturating_sub-gt1-2
returns-else-saturating_sub-gt1-2 c =
    let p = c.args.pool.now in
    let s = c.args.side in
    let u = c.in_ok-near.ensures in
    let v = c.in_ok-far.ensures in
    let l = c.link.ensures in
    let run = c.requires.working.run in
    let at = (goal.at.returns-else-saturating_sub-gt1-2 c).In_ok-far in
    let r = read at in
    let near = at_hand_still c.args.trees.near r c.requires.near in
    let far = at_hand_still c.args.trees.far r c.requires.far in
    record {
      builds = (let d = u.steps in let e = v.steps in builds_after 1 3 4 link_steps _ (lit≤ tt) (omega arith) c.requires.working r (omega (arith, d, e)) (builds_link _ l.changes));
      built = ok_kept {T = Made} {P = λ m. IsLinked c.args.middle c.args.side c.args.trees m c.height-2.new.pool c.link.new.pool} {Q = λ m. IsBuilt 3 m p c.link.new.pool} _ (λ m b. built_more 1 3 (lit≤ tt) (built_after run r.went.run r.went.start r.still (born_built (linked_some b near.0 far.0) b.born))) l.linked;
      stands =
          ok_kept {T = Made} {P = λ m. IsLinked c.args.middle c.args.side c.args.trees m c.height-2.new.pool c.link.new.pool} {Q = λ m. StandsOf (joined_by c.args.side c.args.middle) c.args.trees m.block p c.link.new.pool} _ (λ m b. joined_stands (node_by s c.args.middle) p _ _ s c.args.middle c.args.trees m.block r.still.trees
          (λ x y sx sy. let h = told at x y sx sy in joined_flat s c.args.middle x y (omega (arith, h.0, h.1)) (omega (arith, h.0, h.1))) b.stands) l.linked;
      cheap = alive_kept _ (λ b. cheap_after c.args.trees c.args.trees run r.went.run r.went.start r.still refl refl b) (link_cheap c.args.middle s c.args.trees _ _ _ l.linked l.changes.refused);
      fresh = ok_kept {T = Made} {P = λ m. IsLinked c.args.middle s c.args.trees m c.height-2.new.pool c.link.new.pool} {Q = IsFresh p} _ (λ m b. sym (r.still.lives m.block) ∙ b.born.fresh) l.linked;
      weighs =
          ok_kept {T = Made} {P = λ m. IsLinked c.args.middle s c.args.trees m c.height-2.new.pool c.link.new.pool} {Q = λ m. WeighsJoined c.args.middle s c.args.trees m.block p c.link.new.pool} _ (λ m b. weighs_flat p c.height-2.new.pool c.link.new.pool s c.args.middle c.args.trees m r.still
          (λ x y sx sy. let h = told at x y sx sy in (omega (arith, h.0, h.1), omega (arith, h.0, h.1))) b) l.linked;
      top = ok_kept {T = Made} {P = λ m. IsLinked c.args.middle s c.args.trees m c.height-2.new.pool c.link.new.pool} {Q = λ m. IsOver c.args.trees s m.block p c.link.new.pool} _ (λ m b x y sx sy n. b.near) l.linked;
      rests = rests_link c.args.middle s c.args.trees c.link.result p c.height-2.new.pool c.link.new.pool r.working r.still l.changes l.linked near.0 far.0;
    }

pub returns-in_err-near-clause-cheap : goal.returns-in_err-near-clause-cheap
returns-in_err-near-clause-cheap c = let d = c.in_err-near.ensures.looks.died in alive_over (IsCheap c.args.trees c.args.pool.now c.height.new.pool) c.from_residual.result c.from_residual.ensures.1 d.0

pub returns-in_err-far-clause-cheap : goal.returns-in_err-far-clause-cheap
returns-in_err-far-clause-cheap c = let d = c.in_err-far.ensures.looks.died in alive_over (IsCheap c.args.trees c.args.pool.now c.height-2.new.pool) c.from_residual-in_err-far.result c.from_residual-in_err-far.ensures.1 d.0
