use Rattle.shm_recover.proofs.Spent.{spent_era, spent_leaving, spent_leaving_roots, spent_leaving_words, spent_recovery, spent_received, spent_half_taken, spent_order, spent_unfreed}
use Rattle.shm_recover.proofs.departures.spent_departures.Goals as goal

pub returns-clause-era : goal.returns-clause-era
returns-clause-era c = spent_era

pub returns-clause-leaving_drops : goal.returns-clause-leaving_drops
returns-clause-leaving_drops c me r0 r tr es e g = g

pub returns-clause-leaving : goal.returns-clause-leaving
returns-clause-leaving c = spent_leaving

pub returns-clause-leaving_roots : goal.returns-clause-leaving_roots
returns-clause-leaving_roots c = spent_leaving_roots

pub returns-clause-leaving_words : goal.returns-clause-leaving_words
returns-clause-leaving_words c = spent_leaving_words

pub returns-clause-recovery : goal.returns-clause-recovery
returns-clause-recovery c = spent_recovery

pub returns-clause-received : goal.returns-clause-received
returns-clause-received c = spent_received

pub returns-clause-half_taken : goal.returns-clause-half_taken
returns-clause-half_taken c = spent_half_taken

pub returns-clause-order : goal.returns-clause-order
returns-clause-order c = spent_order

pub returns-clause-unfreed : goal.returns-clause-unfreed
returns-clause-unfreed c = spent_unfreed
