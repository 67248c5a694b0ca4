use Rattle.shm_tree.proofs.{Resting.rests_link, Weights.{weigh_link, weight_nodes}}
use Rattle.shm_tree.proofs.Building.{born_built, builds_after, builds_first, builds_from, builds_link, built_after, linked_some, looked, ok_kept, rooms_some, rooms_still}
use Rattle.shm_tree.proofs.{Inserting.inserted_low, Lasts.last_more}
use Rattle.shm_tree.proofs.insert.lowest.Goals as goal
use Rattle.shm_tree.specs.{Sharing.IsFresh, declared.node.Side.TheVariants.Left, Building.IsBuilt}
use Rattle.shm_tree.specs.{Inserting.{StandsLowest, WeighsLowest, left_of, right_of}, Keeping.{HasTree, IsLinked}}
use Rattle.shm_tree.specs.{Standing.{TreeStands, weight}, Trees.{Tree, Node, inserted}}
use Rattle.shm_tree.specs.Bounds.{link_steps, lowest_steps}
use Rattle.std.proofs.Common.{◌≡◌, ◌∙◌, lit≤, sym, ap, subst, arith}
use Rattle.shm_count.specs.declared.answer.Made.{Made}

pub trees_of-requires : goal.trees_of-requires
trees_of-requires c = record { working = c.requires.working; latch = c.requires.latch; node = c.requires.node }

pub link-requires : goal.link-requires
link-requires c =
    let u = c.in_ok-trees.ensures in
    let t = c.requires.node.0 in
    let same = rooms_still u.looks.still in
    record {
      working = u.looks.working;
      latch = u.looks.latch ∙ c.requires.latch;
      room = rooms_some u.looks.working (omega arith);
      near = (left_of t.0, u.looks.still.trees _ _ (u.near t.0 t.1));
      near_reached = u.near_reached;
      far = (right_of t.0, u.looks.still.trees _ _ (u.far t.0 t.1));
      far_reached = u.far_reached;
    }

pub returns-in_err-trees-clause-builds : goal.returns-in_err-trees-clause-builds
returns-in_err-trees-clause-builds c =
    let e = c.in_err-trees.ensures in
    builds_from c.from_residual.result c.from_residual.ensures.1 (builds_first e.looks (λ d. last_more (lowest_steps c.args.pool.now.start.geometry) (omega arith) (e.late d)))

pub returns : goal.returns
returns c =
    let u = c.in_ok-trees.ensures in
    let l = c.link.ensures in
    let run = c.requires.working.run in
    let t = c.requires.node.0 in
    let near : HasTree c.trees_of.new.pool c.in_ok-trees.trees.near = (left_of t.0, u.looks.still.trees _ _ (u.near t.0 t.1)) in
    let far : HasTree c.trees_of.new.pool c.in_ok-trees.trees.far = (right_of t.0, u.looks.still.trees _ _ (u.far t.0 t.1)) in
    record {
      builds = (let e = u.steps in builds_after 1 1 6 link_steps _ (lit≤ tt) (omega arith) c.requires.working (looked u.looks) (omega (arith, e)) (builds_link _ l.changes));
      built = ok_kept {T = Made} {P = λ m. IsLinked c.args.content Left c.in_ok-trees.trees m c.trees_of.new.pool c.link.new.pool} {Q = λ m. IsBuilt 1 m c.args.pool.now c.link.new.pool} _ (λ m b. built_after run u.looks.went.run u.looks.went.start u.looks.still (born_built (linked_some b near far) b.born)) l.linked;
      stands =
          ok_kept {T = Made} {P = λ m. IsLinked c.args.content Left c.in_ok-trees.trees m c.trees_of.new.pool c.link.new.pool} {Q = λ m. StandsLowest c.args.content.key c.args.content.number c.args.node m.block c.args.pool.now c.link.new.pool} _ (λ m b. λ v sv end.
          subst (TreeStands c.link.new.pool m.block) (sym (inserted_low c.args.content.key c.args.content.number v end)) (b.stands (left_of v) (right_of v) (u.looks.still.trees _ _ (u.near v sv)) (u.looks.still.trees _ _ (u.far v sv)))) l.linked;
      fresh = ok_kept {T = Made} {P = λ m. IsLinked c.args.content Left c.in_ok-trees.trees m c.trees_of.new.pool c.link.new.pool} {Q = IsFresh c.args.pool.now} _ (λ m b. sym (u.looks.still.lives m.block) ∙ b.born.fresh) l.linked;
      weighs =
          ok_kept {T = Made} {P = λ m. IsLinked c.args.content Left c.in_ok-trees.trees m c.trees_of.new.pool c.link.new.pool} {Q = λ m. WeighsLowest c.args.content.key c.args.content.number c.args.node m.block c.args.pool.now c.link.new.pool} _ (λ m b. λ f v count sv end.
          let p = c.args.pool.now in
          let q = c.trees_of.new.pool in
          let near' = u.near v sv in
          let far' = u.far v sv in
          let one = weigh_link f (left_of v) (right_of v) b (u.looks.still.trees _ _ near') (u.looks.still.trees _ _ far') in
          let a1 = weight_nodes f p q u.looks.still.nodes c.in_ok-trees.trees.near (left_of v) near' in
          let a2 = weight_nodes f p q u.looks.still.nodes c.in_ok-trees.trees.far (right_of v) far' in
          let light = u.light f v sv in
          let new = count m.block in
          let is : weight f c.link.new.pool m.block (inserted c.args.content.key c.args.content.number v) ≡ weight f c.link.new.pool m.block (Node c.args.content.key c.args.content.number (left_of v) (right_of v)) =
          ap (λ (z : Tree). weight f c.link.new.pool m.block z) (inserted_low c.args.content.key c.args.content.number v end) in
          omega (arith, one, a1, a2, light, new, is)) l.linked;
      rests = rests_link c.args.content Left c.in_ok-trees.trees c.link.result c.args.pool.now c.trees_of.new.pool c.link.new.pool u.looks.working u.looks.still l.changes l.linked near far;
    }
