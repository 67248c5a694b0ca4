use Rattle.shm_replay.proofs.SameReplays.{replay_same}
use Rattle.shm_replay.proofs.laws.replays_are_determined.Goals as goal

pub returns-clause-pool : goal.returns-clause-pool
returns-clause-pool c t p q ls ms a b = (replay_same t p q ls ms a b).0

pub returns-clause-logs : goal.returns-clause-logs
returns-clause-logs c t p q ls ms a b = (replay_same t p q ls ms a b).1
