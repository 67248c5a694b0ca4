use Rattle.std.proofs.Common.{refl}
use Rattle.clap.proofs.OnLiterals.{clap_on_literals}
use Rattle.shm_reported.proofs.Told.{headed, headed_cut}
use Rattle.shm_reported.proofs.calls.headline.Goals as goal

pub returns-clause-whole : goal.returns-clause-whole
returns-clause-whole c = headed

pub returns-clause-limited : goal.returns-clause-limited
returns-clause-limited c = headed_cut

pub returns-clause-replay : goal.returns-clause-replay
unfolding clap_on_literals
returns-clause-replay c = refl

pub returns-clause-run : goal.returns-clause-run
unfolding clap_on_literals
returns-clause-run c = refl

pub returns-clause-medics : goal.returns-clause-medics
unfolding clap_on_literals
returns-clause-medics c = refl

pub returns-clause-poll : goal.returns-clause-poll
unfolding clap_on_literals
returns-clause-poll c = refl
