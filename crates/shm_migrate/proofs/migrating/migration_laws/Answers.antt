use Rattle.shm_migrate.proofs.Formats.{clean_kept, verdict_kept, header_kept, found_kept, table_kept}
use Rattle.shm_migrate.proofs.migrating.migration_laws.Goals as goal

pub returns-clause-clean : goal.returns-clause-clean
returns-clause-clean c = clean_kept

pub returns-clause-verdict : goal.returns-clause-verdict
returns-clause-verdict c = verdict_kept

pub returns-clause-header : goal.returns-clause-header
returns-clause-header c = λ g ws b f o clean. header_kept g ws f o b

pub returns-clause-found : goal.returns-clause-found
returns-clause-found c = λ g ws b f o clean. found_kept g ws f o clean b

pub returns-clause-table : goal.returns-clause-table
returns-clause-table c = λ g ws table f o clean. table_kept g ws f o clean table
