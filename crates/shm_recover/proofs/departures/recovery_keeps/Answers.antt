use Rattle.shm_recover.proofs.Departing.{kept_sent, kept_tails, kept_received, kept_half_taken, kept_home, kept_rows}
use Rattle.shm_recover.proofs.departures.recovery_keeps.Goals as goal

pub returns-clause-sent : goal.returns-clause-sent
returns-clause-sent c = kept_sent

pub returns-clause-tails : goal.returns-clause-tails
returns-clause-tails c = kept_tails

pub returns-clause-received : goal.returns-clause-received
returns-clause-received c = kept_received

pub returns-clause-half_taken : goal.returns-clause-half_taken
returns-clause-half_taken c = kept_half_taken

pub returns-clause-home : goal.returns-clause-home
returns-clause-home c = kept_home

pub returns-clause-rows : goal.returns-clause-rows
returns-clause-rows c = kept_rows
