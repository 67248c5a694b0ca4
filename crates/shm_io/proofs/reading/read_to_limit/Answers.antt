use Rattle.std.proofs.{Common.{arith, ◌∙◌}, lemmas.List.length-take}
use Rattle.shm_io.proofs.ReadSteps.{ReadsOn-more, TakesFront-end}
use Rattle.shm_io.proofs.reading.read_to_limit.Goals as goal

pub loop-piece-preserved : goal.loop-piece-preserved
loop-piece-preserved g c = record {
  size = omega (arith, length-take c.min-room.result c.loop-piece.piece, c.in_ok-read_piece.ensures.count);
  read = rw c.in_ok-read_piece.ensures.count.1 (ReadsOn-more _ _ _ _ _ _ _ c.loop-piece.invariant.read c.in_ok-read_piece.ensures.bytes);
  faults = c.in_ok-read_piece.ensures.no_fault ∙ c.loop-piece.invariant.faults;
}

pub returns-then-branch-eq0-clause-front : goal.returns-then-branch-eq0-clause-front
returns-then-branch-eq0-clause-front g c =
    rw c.fitted.ensures (TakesFront-end _ _ _ _ _ _ _ _ c.loop-piece.invariant.read c.in_ok-read_piece.ensures.bytes (c.in_ok-read_piece.ensures.end c.if-branch-eq0.true) c.loop-piece.invariant.size)
