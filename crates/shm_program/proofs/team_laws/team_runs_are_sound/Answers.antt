use Rattle.shm_program.specs.Replays.{team_pool}
use Rattle.shm_program.proofs.SoundTurns.{first_sound, turn_sound, word_event}
use Rattle.shm_program.proofs.team_laws.team_runs_are_sound.Goals as goal

pub returns-clause-first : goal.returns-clause-first
returns-clause-first c how t finished r = first_sound (team_pool r.run r.turns) r.team.closed.run

pub returns-clause-states : goal.returns-clause-states
returns-clause-states c how t finished r = turn_sound (team_pool r.run r.turns) r.team.closed.run

pub returns-clause-events : goal.returns-clause-events
returns-clause-events c how t finished r = word_event (team_pool r.run r.turns) r.team.closed.run
