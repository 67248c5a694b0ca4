use Rattle.shm_recover.proofs.Departing.{departed_status, departed_idle, departed_roots, departed_hold, departed_latches, departed_segments, departed_zero_counts, departed_sends, departed_takes, departed_losses}
use Rattle.shm_recover.proofs.departures.departed_hold_nothing.Goals as goal

pub returns-clause-status : goal.returns-clause-status
returns-clause-status c = departed_status

pub returns-clause-idle : goal.returns-clause-idle
returns-clause-idle c = departed_idle

pub returns-clause-roots : goal.returns-clause-roots
returns-clause-roots c = departed_roots

pub returns-clause-hold : goal.returns-clause-hold
returns-clause-hold c = departed_hold

pub returns-clause-latches : goal.returns-clause-latches
returns-clause-latches c = departed_latches

pub returns-clause-segments : goal.returns-clause-segments
returns-clause-segments c = departed_segments

pub returns-clause-zero_counts : goal.returns-clause-zero_counts
returns-clause-zero_counts c = departed_zero_counts

pub returns-clause-sends : goal.returns-clause-sends
returns-clause-sends c = departed_sends

pub returns-clause-takes : goal.returns-clause-takes
returns-clause-takes c = departed_takes

pub returns-clause-losses : goal.returns-clause-losses
returns-clause-losses c = departed_losses
