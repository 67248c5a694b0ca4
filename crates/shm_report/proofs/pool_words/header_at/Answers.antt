use Rattle.std.proofs.Common.{sym, ap, ◌∙◌}
use Rattle.shm_words.specs.Headers.{header_of}
use Rattle.shm_graph.proofs.Spots.WordsAt.{head_word, no_head}
use Rattle.shm_report.proofs.PoolReading.{zero_header}
use Rattle.shm_report.proofs.pool_words.header_at.Goals as goal

pub returns-in-Head : goal.returns-in-Head
returns-in-Head c =
    let e = head_word c.args.geometry c.args.words.now c.args.at c.in-Head.b (sym c.spot.ensures ∙ c.in-Head.is) in
    c.unpack-in-Head.ensures.is ∙ ap header_of (c.word-in-Head.ensures ∙ sym e)

pub returns-in_default : goal.returns-in_default
returns-in_default c = c.unpack-in_default.ensures.is ∙ ap header_of (sym (no_head c.args.geometry c.args.words.now c.args.at (λ b e. c.in_default.not-Head b (c.spot.ensures ∙ e))))

pub returns-then-word-eq0 : goal.returns-then-word-eq0
returns-then-word-eq0 c = c.unpack.ensures.is ∙ ap header_of (sym (zero_header c.args.geometry c.args.words.now c.args.at (sym c.word.ensures ∙ c.if-word-eq0.true)))
