use Rattle.t_calls.specs.Stages.{IsStage}
use Rattle.t_calls.proofs.read_all.Given as goal

abbrev pub invariant-loop-line : goal.invariant-loop-line
invariant-loop-line l = IsStage l.stage
