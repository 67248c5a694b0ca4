use Rattle.std.proofs.{Common.{sym, ap, ◌∙◌, arith}, lemmas.Bool.{not-true, not-false}}
use Rattle.shm_words.specs.{Headers.header_of, Tags.tag_of}
use Rattle.shm_words.proofs.Placing.{total_most_wide}
use Rattle.shm_graph.proofs.Spots.{Spotting.block_within, WordsAt.refs_dead}
use Rattle.shm_report.proofs.PoolReading.{refs_live, block_tag, has_tag}
use Rattle.shm_report.proofs.pool_words.block_refs.Goals as goal

pub overflow_add-block : goal.overflow_add-block
overflow_add-block c =
    let w = (block_within _ _ _ c.requires.is).1 in
    let m = total_most_wide c.args.geometry c.requires.fits in
    omega arith

pub returns-then-not-unpack : goal.returns-then-not-unpack
returns-then-not-unpack c = λ pool. sym (refs_dead c.args.geometry c.args.words.now c.args.block c.requires.is (ap (λ w. (header_of w).live) (sym c.word.ensures) ∙ (ap (λ h. h.live) (sym c.unpack.ensures.is) ∙ not-true _ c.if-not-unpack.true)))

pub returns-in-Some : goal.returns-in-Some
returns-in-Some c = λ pool.
    let live = ap (λ w. (header_of w).live) (sym c.word.ensures) ∙ (ap (λ h. h.live) (sym c.unpack.ensures.is) ∙ not-false _ c.if-not-unpack.false) in
    let t = block_tag c.args.geometry c.args.words.now c.args.block pool c.requires.is live in
    sym (refs_live c.args.geometry c.args.words.now c.args.block c.in-Some.tag c.requires.is live (ap (tag_of c.args.geometry.wide) (t ∙ sym c.word-2.ensures) ∙ (sym c.read_tag.ensures ∙ c.in-Some.is)))

pub returns-in-None : goal.returns-in-None
returns-in-None c = λ pool.
    let live = ap (λ w. (header_of w).live) (sym c.word.ensures) ∙ (ap (λ h. h.live) (sym c.unpack.ensures.is) ∙ not-false _ c.if-not-unpack.false) in
    let t = block_tag c.args.geometry c.args.words.now c.args.block pool c.requires.is live in
    absurd (has_tag c.args.geometry c.args.words.now c.args.block pool c.requires.is live (ap (tag_of c.args.geometry.wide) (t ∙ sym c.word-2.ensures) ∙ (sym c.read_tag.ensures ∙ c.in-None.is)))
