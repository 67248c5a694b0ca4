use Rattle.shm_audit.proofs.Cleaning.{clean_no_fault, clean_is_told, fault_free_clean}
use Rattle.shm_audit.proofs.auditing.clean_where_verdict_is.Goals as goal
use Rattle.shm_graph.specs.{Blocks.classes, References.{references, references_in_all, live_count}, Spots.see}

pub returns : goal.returns
returns c = λ g ws f. (λ h. (clean_no_fault g ws f h, (live_count g (see g ws), references_in_all g (classes (see g ws)) (references g.wide (see g ws)), clean_is_told g (see g ws) h)), λ h. fault_free_clean g ws f h.0 h.1)
