use Rattle.std.specs.Prelude.{Some}
use Rattle.shm_agents.specs.TurnsLeft.{turns_by}
use Rattle.shm_team.specs.Working.{AreAtWork}
use Rattle.shm_team.proofs.worker.work.Given as goal

abbrev pub invariant-loop-agents : goal.invariant-loop-agents
invariant-loop-agents g l = AreAtWork l.script l.initial.post l.initial.agents l.post l.agents

abbrev pub decreases-loop-agents : goal.decreases-loop-agents
decreases-loop-agents g l = turns_by l.agents (Some l.script)
