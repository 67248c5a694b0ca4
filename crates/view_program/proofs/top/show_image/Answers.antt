use Rattle.std.proofs.Common.{List, ℕ, sym, subst}
use Rattle.view_program.specs.Calls.{ShowsImage}
use Rattle.view_program.proofs.top.show_image.Goals as goal

-- what was written is what was made of the image

pub returns-in-Ok-clause-written : goal.returns-in-Ok-clause-written
returns-in-Ok-clause-written g c h =
    (c.as_slice.result.now, c.write.ensures.text h, subst (λ (text : List ℕ). ShowsImage c.args.form c.args.image.now text) (sym c.as_slice.ensures.value) c.in-Ok.ensures.shown)
