use Rattle.shm_table.proofs.TakenBack.{else_back, home_back, root_back}
use Rattle.shm_table.proofs.refusals.taken_back.Goals as goal

pub returns-clause-roots : goal.returns-clause-roots
returns-clause-roots x c l before after es h = root_back c l before after es h

pub returns-clause-home : goal.returns-clause-home
returns-clause-home x c l before after es h = home_back c l before after es h

pub returns-clause-others : goal.returns-clause-others
returns-clause-others x c l before after es h = else_back c l before after es h
