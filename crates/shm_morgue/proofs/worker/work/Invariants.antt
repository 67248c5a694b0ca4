use Rattle.std.proofs.Common.{◌≡◌, ◌⊎◌, true}
use Rattle.std.specs.Prelude.{Some}
use Rattle.shm_agents.specs.{Agents.is_client, TurnsLeft.turns_by}
use Rattle.shm_team.specs.Working.{AreAtWork}
use Rattle.shm_morgue.specs.Dead.{HasParted}
use Rattle.shm_morgue.proofs.worker.work.Given as goal

abbrev pub invariant-loop-agents : goal.invariant-loop-agents
invariant-loop-agents g l = record {
  work : AreAtWork l.script l.initial.post l.initial.agents l.post l.agents;
  parts : (is_client l.agents ≡ true) ⊎ HasParted l.script l.agents l.post.account;
}

abbrev pub decreases-loop-agents : goal.decreases-loop-agents
decreases-loop-agents g l = turns_by l.agents (Some l.script)
