use Rattle.shm_graph.proofs.States.GoneStates.{gone_idle, gone_closed, gone_roots, gone_hold, gone_latches, gone_segments, gone_zero_counts, gone_sends, gone_takes}
use Rattle.shm_graph.proofs.sound.gone_leaves_nothing.Goals as goal

pub returns-clause-idle : goal.returns-clause-idle
returns-clause-idle c = gone_idle

pub returns-clause-closed : goal.returns-clause-closed
returns-clause-closed c = gone_closed

pub returns-clause-roots : goal.returns-clause-roots
returns-clause-roots c = gone_roots

pub returns-clause-hold : goal.returns-clause-hold
returns-clause-hold c = gone_hold

pub returns-clause-latches : goal.returns-clause-latches
returns-clause-latches c = gone_latches

pub returns-clause-segments : goal.returns-clause-segments
returns-clause-segments c = gone_segments

pub returns-clause-zero_counts : goal.returns-clause-zero_counts
returns-clause-zero_counts c = gone_zero_counts

pub returns-clause-sends : goal.returns-clause-sends
returns-clause-sends c = gone_sends

pub returns-clause-takes : goal.returns-clause-takes
returns-clause-takes c = gone_takes
