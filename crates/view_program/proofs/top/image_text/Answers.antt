use Rattle.std.proofs.Common.{List, ℕ, sym, subst}
use Rattle.view_program.specs.declared.job.ImageForm.{ImageForm}
use Rattle.view_program.specs.Calls.{ShowsImage}
use Rattle.view_program.proofs.top.image_text.Goals as goal

-- the figures are those of the image

pub returns-in_ok-stats_text-in-Text-clause-shown : goal.returns-in_ok-stats_text-in-Text-clause-shown
returns-in_ok-stats_text-in-Text-clause-shown c =
    subst (λ (f : ImageForm). ShowsImage f c.args.image.now c.in_ok-stats_text-in-Text.field-0.items) (sym c.in-Text.is)
    (c.in_ok-image_stats-in-Text.field-0, c.in_ok-image_stats-in-Text.ensures.ok, c.in_ok-stats_text-in-Text.ensures)

pub returns-in_ok-stats_json-in-Json-clause-shown : goal.returns-in_ok-stats_json-in-Json-clause-shown
returns-in_ok-stats_json-in-Json-clause-shown c =
    subst (λ (f : ImageForm). ShowsImage f c.args.image.now c.in_ok-stats_json-in-Json.field-0.items) (sym c.in-Json.is)
    (c.in_ok-image_stats-in-Json.field-0, c.in_ok-image_stats-in-Json.ensures.ok, c.in_ok-stats_json-in-Json.ensures.text, c.in_ok-stats_json-in-Json.ensures.parses)
