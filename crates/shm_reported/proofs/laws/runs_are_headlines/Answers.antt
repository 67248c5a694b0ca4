use Rattle.shm_reported.proofs.Headed.{limited_headed, limited_reported, replay_headed, replay_reported, team_headed, team_reported}
use Rattle.shm_reported.proofs.laws.runs_are_headlines.Goals as goal

pub returns-clause-replay : goal.returns-clause-replay
returns-clause-replay c = replay_headed

pub returns-clause-team : goal.returns-clause-team
returns-clause-team c = team_headed

pub returns-clause-replay_told : goal.returns-clause-replay_told
returns-clause-replay_told c = replay_reported

pub returns-clause-team_told : goal.returns-clause-team_told
returns-clause-team_told c = team_reported

pub returns-clause-limited : goal.returns-clause-limited
returns-clause-limited c = limited_headed

pub returns-clause-limited_told : goal.returns-clause-limited_told
returns-clause-limited_told c = limited_reported
