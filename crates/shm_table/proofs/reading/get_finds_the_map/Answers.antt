use Rattle.shm_table.proofs.GetMaps.{found_by_command, found_in_run}
use Rattle.shm_table.proofs.reading.get_finds_the_map.Goals as goal

pub returns-clause-get : goal.returns-clause-get
returns-clause-get c = found_in_run

pub returns-clause-command : goal.returns-clause-command
returns-clause-command c = found_by_command
