use Rattle.std.specs.Prelude.{Option}
use Rattle.std.proofs.Common.{subst}
use Rattle.shm_graph.specs.Runs.{account_at}
use Rattle.shm_script.specs.Values.{Scripted}
use Rattle.shm_team.specs.Rans.{HasAgents}
use Rattle.shm_outcomes.proofs.Crewing.{closer_alone, crew}
use Rattle.shm_outcomes.proofs.runs.agents_are_of_lines.Goals as goal

pub returns-clause-scripts : goal.returns-clause-scripts
returns-clause-scripts c = λ t p ls r who s below is. crew p t.scripts ls who s r.logs is (subst (λ (x : Option Scripted). HasAgents x (account_at p.accounts who)) is (r.agents who below))

pub returns-clause-others : goal.returns-clause-others
returns-clause-others c = λ t p ls r who below is. closer_alone (account_at p.accounts who) (subst (λ (x : Option Scripted). HasAgents x (account_at p.accounts who)) is (r.agents who below))
