use Rattle.std.proofs.Common.{◌≡◌, ℕ, List, Some, subst, inr}
use Rattle.shm_audit.specs.Faults.{image_fault_of}
use Rattle.view_program.proofs.top.show_changes.Goals as goal

-- the fault is the second image's
pub returns-in-Err-After-clause-refused : goal.returns-in-Err-After-clause-refused
returns-in-Err-After-clause-refused g c h =
    let stops = rw c.in-Err-After.field-0-is at c.in-Err-After.ensures.err in
    inr (c.in-Err-After.fault, subst (λ (x : List ℕ). image_fault_of x ≡ Some c.in-Err-After.fault) c.split_images.ensures.second stops.1)
