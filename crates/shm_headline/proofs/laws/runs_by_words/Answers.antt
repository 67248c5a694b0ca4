use Rattle.shm_headline.proofs.{Deaths.{died_told, ended_told}, Going.{leads_goes, run_goes}}
use Rattle.shm_headline.proofs.laws.runs_by_words.Goals as goal

pub returns-clause-leads : goal.returns-clause-leads
returns-clause-leads c = leads_goes

pub returns-clause-runs : goal.returns-clause-runs
returns-clause-runs c = run_goes

pub returns-clause-died : goal.returns-clause-died
returns-clause-died c = died_told

pub returns-clause-ended : goal.returns-clause-ended
returns-clause-ended c = ended_told
