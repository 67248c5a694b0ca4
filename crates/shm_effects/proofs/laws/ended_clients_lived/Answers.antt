use Rattle.shm_effects.proofs.{Replays.replay_ended, TeamEnded.team_ended}
use Rattle.shm_effects.proofs.laws.ended_clients_lived.Goals as goal

pub returns-clause-replay : goal.returns-clause-replay
returns-clause-replay c t p ls trace r = replay_ended c.command_maps.ensures.runs c.command_foretells.ensures t trace p ls r

pub returns-clause-team : goal.returns-clause-team
returns-clause-team c t p ls trace r = team_ended t trace p ls r
