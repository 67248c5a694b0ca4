use Rattle.std.proofs.Common.{refl, inl, inr}
use Rattle.shm_tree.proofs.{Moving.{alive_is, refused_is}, Refusals.spends_of}
use Rattle.shm_tree.proofs.registers.Registers.undone.Goals as goal

pub returns-in-Ok : goal.returns-in-Ok
returns-in-Ok c =
    let s = c.in-Ok.ensures in
    record { went = s.moves.went; kept = λ alive. (s.moves.forest, s.same); why = inl refl; died = λ e. absurd (c.requires.alive e); late = λ e. absurd (c.requires.alive e); spends = λ alive. spends_of s.costs; swept = λ alive calm. s.told }

pub returns-in-Err : goal.returns-in-Err
returns-in-Err c =
    let e = c.in-Err.ensures in
    let m = e.moves in
    record {
      went = m.went;
      kept = λ alive. (alive_is (Unit {0}) _ alive m.forest, refused_is (Unit {0}) _ alive m.kept);
      why = inr m.cause;
      died = m.died;
      late = e.late;
      spends = λ alive. refused_is (Unit {0}) _ alive e.refused;
      swept = λ alive calm. absurd (calm (refused_is (Unit {0}) _ alive e.spent));
    }
