use Rattle.std.proofs.Common.{arith, ◌∙◌, length-take}
use Rattle.shm_io.proofs.ReadSteps.{skips_end, skips_on}
use Rattle.shm_io.proofs.full.skip_to_limit.Goals as goal

pub returns-then-n-room-clause-front : goal.returns-then-n-room-clause-front
returns-then-n-room-clause-front g c =
    let k = length-take c.min-room.result c.loop-skipped.piece in
    let n = c.in_ok-n.ensures.count in
    skips_end _ _ _ c.loop-skipped.skipped _ c.in_ok-n.n c.args.limit c.read_full.new.into c.loop-skipped.invariant.read c.in_ok-n.ensures.front (omega arith) (omega arith) (omega arith)

pub loop-skipped-preserved : goal.loop-skipped-preserved
loop-skipped-preserved g c =
    let k = length-take c.min-room.result c.loop-skipped.piece in
    let n = c.in_ok-n.ensures.count in
    record {
      size = omega arith;
      read = skips_on _ _ _ c.loop-skipped.skipped _ c.in_ok-n.n c.read_full.new.into c.loop-skipped.invariant.read c.in_ok-n.ensures.front (omega arith) (omega arith);
      faults = c.in_ok-n.ensures.no_fault ∙ c.loop-skipped.invariant.faults;
    }
