use Rattle.shm_effects.proofs.{Interleaved.interleaved_takes, Replays.{interleaved, replay_takes}, TeamTaken.team_takes}
use Rattle.shm_effects.proofs.laws.logs_take_effect.Goals as goal

pub returns-clause-replay : goal.returns-clause-replay
returns-clause-replay c t p ls trace r = replay_takes c.command_maps.ensures.runs c.command_foretells.ensures t trace p ls r

pub returns-clause-interleaved : goal.returns-clause-interleaved
returns-clause-interleaved c t p ls trace r = interleaved_takes c.command_maps.ensures.runs c.command_foretells.ensures t trace p ls r

pub returns-clause-team : goal.returns-clause-team
returns-clause-team c t p ls trace r = team_takes c.command_maps.ensures.runs c.command_foretells.ensures t trace p ls r

pub returns-clause-one_such : goal.returns-clause-one_such
returns-clause-one_such c t p ls trace r = interleaved c.command_maps.ensures.runs c.command_foretells.ensures t trace p ls r
