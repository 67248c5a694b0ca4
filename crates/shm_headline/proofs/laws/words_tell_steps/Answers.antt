use Rattle.shm_headline.proofs.{Named.{given_told, owed_told, names_told}, Exact.{exact_told, held_exact}}
use Rattle.shm_headline.proofs.laws.words_tell_steps.Goals as goal

pub returns-clause-given : goal.returns-clause-given
returns-clause-given c = given_told

pub returns-clause-owed : goal.returns-clause-owed
returns-clause-owed c = owed_told

pub returns-clause-names : goal.returns-clause-names
returns-clause-names c = names_told

pub returns-clause-exact : goal.returns-clause-exact
returns-clause-exact c = exact_told

pub returns-clause-held : goal.returns-clause-held
returns-clause-held c = held_exact
