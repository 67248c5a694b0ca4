use Rattle.std.proofs.Common.{false}
use Rattle.shm_sitting.specs.Tables.{tables}
use Rattle.shm_sessions.proofs.Running.{goes, leads}
use Rattle.shm_shared.proofs.Between.{IsBetween}
use Rattle.shm_shared.proofs.Tabled.{IsTabled, WorkFits, WorkGives, first_tabled, tables_kept, work_laws}
use Rattle.shm_shared.proofs.laws.table_sessions_lead.Goals as goal

pub returns-clause-leads : goal.returns-clause-leads
returns-clause-leads c s fit era made = leads tables WorkFits WorkGives IsTabled (IsBetween false) tables_kept work_laws s fit era (first_tabled s made)

pub returns-clause-goes : goal.returns-clause-goes
returns-clause-goes c s fit era made = goes tables WorkFits WorkGives IsTabled (IsBetween false) tables_kept work_laws s fit era (first_tabled s made)
