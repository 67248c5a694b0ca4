use Rattle.std.proofs.Common.{ℕ, List, subst}
use Rattle.view_program.specs.Calls.{AreFaultless}
use Rattle.view_program.proofs.top.view_changes.Goals as goal

-- what was read are the images that were shown
pub returns-in-Ok-clause-shown : goal.returns-in-Ok-clause-shown
returns-in-Ok-clause-shown g c h = ((c.in-Ok.images.items, c.in-Ok.ensures.read, subst (λ (x : List ℕ). AreFaultless x) c.as_slice.ensures.value (c.show_changes.ensures.shown h).0), (c.show_changes.ensures.shown h).1)
