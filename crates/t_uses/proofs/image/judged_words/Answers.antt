use Rattle.std.proofs.{Common.{◌≡◌, ℕ, ◌^◌, ◌<◌, ◌∙◌, rules, Ok}, lemmas.Result.{IfErr-weaker, IfOk-weaker}}
use Rattle.std.specs.Prelude.{slice_index}
use Rattle.shm_audit.specs.Images.{image_of}
use Rattle.t_uses.proofs.{Auditing.{image_clean, image_stops, words_small}, image.judged_words.Goals.After-audit}
use Rattle.t_uses.proofs.image.judged_words.Goals as goal

-- the bytes that are audited are the image of the words
written : (c : After-audit) → c.as_slice.result.now ≡ image_of c.args.geometry c.args.words.now
written c =
    let e : c.write_image.result ≡ Ok c.in_ok-image.image = search rules in
    c.as_slice.ensures.value ∙ (rw e at c.write_image.ensures)

pub returns-clause-clean : goal.returns-clause-clean
returns-clause-clean c =
    let at = (goal.at.returns-clause-clean c).After-audit in
    let g = c.args.geometry in
    let ws = c.args.words.now in
    let small : (i : ℕ) → slice_index ws i < 2 ^ 64 = words_small g ws c.requires.whole c.requires.small in
    IfOk-weaker c.audit.result _ _ (λ v h. image_clean g ws c.as_slice.result.now (written at) c.requires.clean
    (c.image_reads_back.ensures.frame g ws c.requires.fits c.requires.whole small)
    (c.image_reads_back.ensures.sizes g ws c.requires.fits small)
    (c.image_reads_back.ensures.words g ws c.requires.fits small)
    (c.clean_where_verdict_is.ensures g ws c.requires.fits) v h.1) c.audit.ensures.ok

pub returns-clause-memory : goal.returns-clause-memory
returns-clause-memory c =
    let at = (goal.at.returns-clause-memory c).After-audit in
    let g = c.args.geometry in
    let ws = c.args.words.now in
    let small : (i : ℕ) → slice_index ws i < 2 ^ 64 = words_small g ws c.requires.whole c.requires.small in
    IfErr-weaker c.audit.result _ _ (λ e h. image_stops g ws c.as_slice.result.now (written at) c.requires.clean
    (c.image_reads_back.ensures.frame g ws c.requires.fits c.requires.whole small)
    (c.image_reads_back.ensures.sizes g ws c.requires.fits small)
    (c.image_reads_back.ensures.words g ws c.requires.fits small)
    (c.clean_where_verdict_is.ensures g ws c.requires.fits) e h) c.audit.ensures.err
