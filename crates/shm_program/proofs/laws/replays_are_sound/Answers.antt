use Rattle.shm_program.proofs.SoundTurns.{first_sound, turn_sound, word_event}
use Rattle.shm_program.proofs.laws.replays_are_sound.Goals as goal

pub returns-clause-first : goal.returns-clause-first
returns-clause-first c t finished r = first_sound r.run.closed r.replay.closed.run

pub returns-clause-states : goal.returns-clause-states
returns-clause-states c t finished r = turn_sound r.run.closed r.replay.closed.run

pub returns-clause-events : goal.returns-clause-events
returns-clause-events c t finished r = word_event r.run.closed r.replay.closed.run
