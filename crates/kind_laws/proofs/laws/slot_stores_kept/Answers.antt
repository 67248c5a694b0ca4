use Rattle.kind_laws.proofs.{HomeStore.{home_kept, home_quiet}, QueueStore.{queue_kept, queue_quiet}}
use Rattle.kind_laws.proofs.laws.slot_stores_kept.Goals as goal

pub returns-clause-home : goal.returns-clause-home
returns-clause-home c = home_kept

pub returns-clause-queue : goal.returns-clause-queue
returns-clause-queue c = queue_kept

pub returns-clause-home_quiet : goal.returns-clause-home_quiet
returns-clause-home_quiet c = home_quiet

pub returns-clause-queue_quiet : goal.returns-clause-queue_quiet
returns-clause-queue_quiet c = queue_quiet
