use Rattle.shm_recover.proofs.Spent.{scan_found, scan_freed, scan_none, scan_stopped}
use Rattle.shm_recover.proofs.departures.scan_frees_all.Goals as goal

pub returns-clause-found : goal.returns-clause-found
returns-clause-found c = scan_found

pub returns-clause-freed : goal.returns-clause-freed
returns-clause-freed c = scan_freed

pub returns-clause-none : goal.returns-clause-none
returns-clause-none c = scan_none

pub returns-clause-stopped : goal.returns-clause-stopped
returns-clause-stopped c = scan_stopped
