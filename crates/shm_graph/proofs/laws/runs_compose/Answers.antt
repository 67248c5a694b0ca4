use Rattle.shm_graph.proofs.Runs.Running.{Leads-more, Leads-append, Leads-split, Leads-held}
use Rattle.shm_graph.proofs.laws.runs_compose.Goals as goal

pub returns-clause-more : goal.returns-clause-more
returns-clause-more c = Leads-more

pub returns-clause-append : goal.returns-clause-append
returns-clause-append c = Leads-append

pub returns-clause-split : goal.returns-clause-split
returns-clause-split c = Leads-split

pub returns-clause-held : goal.returns-clause-held
returns-clause-held c = Leads-held
