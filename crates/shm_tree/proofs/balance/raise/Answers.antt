use Rattle.std.proofs.Common.{◌∙◌, lit≤, arith}
use Rattle.shm_count.specs.declared.answer.Made.{Made}
use Rattle.shm_tree.specs.{declared.node.Side.Side, Bounds.{raise_steps, renewed_steps}}
use Rattle.shm_tree.specs.{Building.{IsRebuilt, StandsOf, block_of, joined_by}, Keeping.{child_of, other_side}}
use Rattle.shm_tree.specs.{Raising.{IsCheapAt, IsOverAt, StandsAgain, WeighsAgain}, Sharing.{IsOver, WeighsJoined}}
use Rattle.shm_tree.proofs.Building.{alive_kept, alive_over, at_hand_still, builds_after, builds_first, builds_from, looked, ok_kept, rooms_still}
use Rattle.shm_tree.proofs.{Resting.rests_after, Sharings.fresh_read}
use Rattle.shm_tree.proofs.Raising.{again_up, cheap_up, over_up, rebuilt_after, some_held, weighs_up}
use Rattle.shm_tree.proofs.{Rotations.{child_tree, node_of}, Lasts.last_more}
use Rattle.shm_tree.proofs.balance.raise.Goals as goal

pub content_of-requires : goal.content_of-requires
content_of-requires c = record { working = c.requires.working; node = node_of c.args.pool.now c.args.node c.requires.some c.requires.node.0; reached = c.requires.node.1 }

pub renewed-requires : goal.renewed-requires
renewed-requires c =
    let t = c.in_ok-own.ensures in
    let same = rooms_still t.looks.still in
    let node = at_hand_still c.args.node (looked t.looks) c.requires.node in
    record {
      working = t.looks.working;
      latch = t.looks.latch ∙ c.requires.latch;
      room = omega arith;
      node = node_of _ c.args.node c.requires.some node.0;
      far = child_tree _ c.args.node (other_side c.of-side.result) c.requires.some node.0;
      reached = node.1;
      tree = some_held c.args.below t.looks.still c.requires.below;
    }

pub returns-in_err-own-clause-builds : goal.returns-in_err-own-clause-builds
returns-in_err-own-clause-builds c =
    let e = c.in_err-own.ensures in
    builds_from c.from_residual.result c.from_residual.ensures.1 (builds_first e.looks (λ d. last_more (raise_steps c.args.pool.now.start.geometry) (omega arith) (e.late d)))

pub returns : goal.returns
returns c =
    let p = c.args.pool.now in
    let q = c.content_of.new.pool in
    let r = c.renewed.new.pool in
    let t = c.in_ok-own.ensures in
    let s : Side = c.of-side.result in
    let run = c.requires.working.run in
    let n = c.renewed.ensures in
    record {
      builds = (let e = t.steps in builds_after 3 3 4 renewed_steps _ (lit≤ tt) (omega arith) c.requires.working (looked t.looks) (omega (arith, e)) n.builds);
      rebuilt = ok_kept {T = Made} {P = λ m. IsRebuilt 3 c.args.below m q r} {Q = λ m. IsRebuilt 3 c.args.below m p r} _ (λ m b. rebuilt_after c.args.below run t.looks.went.run t.looks.went.start t.looks.still b) n.rebuilt;
      stands =
          ok_kept {T = Made} {P = λ m. StandsOf (joined_by s c.content_or.result) (record { near = block_of c.args.below; far = child_of q c.args.node (other_side s) }) m.block q r} {Q = λ m. StandsAgain c.args.wanted c.args.told c.args.node (block_of c.args.below) m.block p r} _
          (λ m b. again_up r c.args.wanted c.args.node (block_of c.args.below) m.block c.args.told c.in_ok-own.own c.content_or.result s c.requires.some c.content_or.ensures c.of-side.ensures t.key t.number t.looks.still.trees b) n.stands;
      cheap = alive_kept _ (λ b. cheap_up c.args.wanted c.args.node (block_of c.args.below) c.in_ok-own.own s run t.looks.went.run t.looks.went.start c.of-side.ensures t.key t.looks.still b) n.cheap;
      fresh = fresh_read _ t.looks.still n.fresh;
      rests = rests_after c.renewed.result p q r t.looks.working t.looks.still n.builds n.rests;
      weighs =
          ok_kept {T = Made} {P = λ m. WeighsJoined c.content_or.result s (record { near = block_of c.args.below; far = child_of q c.args.node (other_side s) }) m.block q r} {Q = λ m. WeighsAgain c.args.wanted c.args.told c.args.node (block_of c.args.below) m.block p r} _
          (λ m b. weighs_up p q r c.args.wanted c.args.node (block_of c.args.below) m.block c.args.told c.in_ok-own.own c.content_or.result s c.content_or.ensures c.of-side.ensures t.key t.number t.looks.still c.requires.some b) n.weighs;
      top =
          ok_kept {T = Made} {P = λ m. IsOver (record { near = block_of c.args.below; far = child_of q c.args.node (other_side s) }) s m.block q r} {Q = λ m. IsOverAt c.args.wanted c.args.node (block_of c.args.below) m.block p r} _
          (λ m b. over_up p q r c.args.wanted c.args.node (block_of c.args.below) m.block c.in_ok-own.own s c.of-side.ensures t.key t.looks.still b) n.top;
    }

pub returns-in_err-own-clause-cheap : goal.returns-in_err-own-clause-cheap
returns-in_err-own-clause-cheap c = let d = c.in_err-own.ensures.looks.died in alive_over (IsCheapAt c.args.wanted c.args.node (block_of c.args.below) c.args.pool.now c.content_of.new.pool) c.from_residual.result c.from_residual.ensures.1 d.0
