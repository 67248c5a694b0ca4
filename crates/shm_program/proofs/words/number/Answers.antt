use Rattle.std.proofs.Common.{◌∙◌, subst, ◌≡◌, ◌≢◌, get_or, List, ℕ, true}
use Rattle.shm_script.specs.Numbers.{leads_well}
use Rattle.shm_program.proofs.Numerals.{plain_number}
use Rattle.shm_program.proofs.words.number.Goals as goal

pub returns-then-leads_well : goal.returns-then-leads_well
returns-then-leads_well c =
    let well : (leads_well c.args.word.now ≡ true) × (get_or c.args.word.now 0 0 ≢ 43) = subst (λ (w : List ℕ). (leads_well w ≡ true) × (get_or w 0 0 ≢ 43)) c.as_bytes.ensures.value (c.leads_well.ensures.yes c.if-leads_well.true) in
    c.ok.ensures.value ∙ plain_number c.args.word.now c.parse.result c.parse.ensures.value.0 well.0 well.1
