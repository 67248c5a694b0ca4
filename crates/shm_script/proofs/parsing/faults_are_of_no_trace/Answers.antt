use Rattle.shm_script.proofs.Complete.{faultless, no_fault_is_text}
use Rattle.shm_script.proofs.parsing.faults_are_of_no_trace.Goals as goal

pub returns-clause-text : goal.returns-clause-text
returns-clause-text c = faultless

pub returns-clause-fault : goal.returns-clause-fault
returns-clause-fault c = no_fault_is_text
