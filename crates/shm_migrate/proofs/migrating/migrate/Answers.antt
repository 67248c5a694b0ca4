use Rattle.std.proofs.{Common.{◌≡◌, ℕ, ◌^◌, ◌<◌, get_or, rules, sym, ◌∙◌, arith}, lemmas.Grind.common_steps}
use Rattle.shm_words.specs.Layout.{GeometryFits}
use Rattle.shm_audit.specs.{Images.{image_of, geometry_in, words_in, numbers}, Verdicts.IsCleanVerdict}
use Rattle.shm_migrate.specs.{Migrations.verdict_in, Widened.{wide_of, widened}}
use Rattle.shm_migrate.proofs.Migrated.{image_clean, migrated_faultless, migrated_verdict}
use Rattle.shm_migrate.proofs.migrating.migrate.Goals as goal

pub widened_image-requires-clause-clean : goal.widened_image-requires-clause-clean
widened_image-requires-clause-clean c =
    let fits : GeometryFits c.in_ok-geometry.geometry = first_of (search rules, grind (arith, common_steps)) in
    let sizes : c.in_ok-geometry.geometry ≡ geometry_in c.args.image.now = first_of (search rules, grind (arith, common_steps)) in
    let words : numbers c.in_ok-geometry.words.now ≡ words_in c.args.image.now = first_of (search rules, grind (arith, common_steps)) in
    let told : IsCleanVerdict (verdict_in c.args.image.now) = (c.in-Clean.live, c.in-Clean.refs, sym c.in-Ok.ensures.ok.1 ∙ c.in-Clean.is) in
    image_clean c.args.image.now c.in_ok-geometry.geometry (numbers c.in_ok-geometry.words.now) fits sizes words c.in-Ok.ensures.ok.0 told

pub returns-in_ok-migrated-in-Clean-clause-faultless : goal.returns-in_ok-migrated-in-Clean-clause-faultless
returns-in_ok-migrated-in-Clean-clause-faultless c =
    let fits : GeometryFits c.in_ok-geometry.geometry = first_of (search rules, grind (arith, common_steps)) in
    let sizes : c.in_ok-geometry.geometry ≡ geometry_in c.args.image.now = first_of (search rules, grind (arith, common_steps)) in
    let words : numbers c.in_ok-geometry.words.now ≡ words_in c.args.image.now = first_of (search rules, grind (arith, common_steps)) in
    let told : IsCleanVerdict (verdict_in c.args.image.now) = (c.in-Clean.live, c.in-Clean.refs, sym c.in-Ok.ensures.ok.1 ∙ c.in-Clean.is) in
    let made : c.in_ok-migrated-in-Clean.migrated.items ≡ image_of (wide_of c.in_ok-geometry.geometry) (widened c.in_ok-geometry.geometry (numbers c.in_ok-geometry.words.now)) = first_of (search rules, grind (arith, common_steps)) in
    let small : ((i : ℕ) → get_or (widened c.in_ok-geometry.geometry (numbers c.in_ok-geometry.words.now)) i 0 < 2 ^ 64) = first_of (search rules, grind (arith, common_steps)) in
    migrated_faultless c.args.image.now c.in_ok-migrated-in-Clean.migrated.items c.in_ok-geometry.geometry (numbers c.in_ok-geometry.words.now) fits (sym c.is_wide.ensures ∙ c.if-is_wide.false) sizes words c.in-Ok.ensures.ok.0 told small made

pub returns-in_ok-migrated-in-Clean-clause-verdict : goal.returns-in_ok-migrated-in-Clean-clause-verdict
returns-in_ok-migrated-in-Clean-clause-verdict c =
    let fits : GeometryFits c.in_ok-geometry.geometry = first_of (search rules, grind (arith, common_steps)) in
    let sizes : c.in_ok-geometry.geometry ≡ geometry_in c.args.image.now = first_of (search rules, grind (arith, common_steps)) in
    let words : numbers c.in_ok-geometry.words.now ≡ words_in c.args.image.now = first_of (search rules, grind (arith, common_steps)) in
    let told : IsCleanVerdict (verdict_in c.args.image.now) = (c.in-Clean.live, c.in-Clean.refs, sym c.in-Ok.ensures.ok.1 ∙ c.in-Clean.is) in
    let made : c.in_ok-migrated-in-Clean.migrated.items ≡ image_of (wide_of c.in_ok-geometry.geometry) (widened c.in_ok-geometry.geometry (numbers c.in_ok-geometry.words.now)) = first_of (search rules, grind (arith, common_steps)) in
    let small : ((i : ℕ) → get_or (widened c.in_ok-geometry.geometry (numbers c.in_ok-geometry.words.now)) i 0 < 2 ^ 64) = first_of (search rules, grind (arith, common_steps)) in
    migrated_verdict c.args.image.now c.in_ok-migrated-in-Clean.migrated.items c.in_ok-geometry.geometry (numbers c.in_ok-geometry.words.now) fits (sym c.is_wide.ensures ∙ c.if-is_wide.false) sizes words c.in-Ok.ensures.ok.0 told small made
