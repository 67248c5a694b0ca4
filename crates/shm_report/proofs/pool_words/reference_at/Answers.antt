use Rattle.std.proofs.Common.{refl, sym, ap, ◌∙◌, inl, inr, arith}
use Rattle.shm_graph.specs.{declared.spot.Spot.TheVariants.Body, Spots.{see, classes_in}}
use Rattle.shm_graph.specs.References.{words_of, references}
use Rattle.shm_graph.proofs.Spots.{Seeing.see_at, WordsAt.other_reference}
use Rattle.shm_report.proofs.{Counting.not_body, PoolReading.zero_word}
use Rattle.shm_report.proofs.pool_words.reference_at.Goals as goal

pub returns-then-word-eq0 : goal.returns-then-word-eq0
returns-then-word-eq0 c = (let b = c.requires.before in sym (zero_word c.args.geometry c.args.words.now c.args.at (omega arith) (sym c.word.ensures ∙ c.if-word-eq0.true)))

pub returns-in-Home : goal.returns-in-Home
returns-in-Home c =
    let g = c.args.geometry in
    let ws = c.args.words.now in
    let e = sym c.spot.ensures in
    let b = c.requires.before in
    let there = see_at g ws c.args.at in
    elim c.in-Home.is [
      | inl h ↦ c.word-in-Home.ensures ∙ sym (ap (references g.wide (see g ws)) (e ∙ h.1) ∙ there _ (omega arith) (e ∙ h.1))
      | inr o ↦ elim o [
        | inl h ↦ c.word-in-Home.ensures ∙ sym (ap (references g.wide (see g ws)) (e ∙ h.2) ∙ there _ (omega arith) (e ∙ h.2))
        | inr h ↦ c.word-in-Home.ensures ∙ sym (ap (references g.wide (see g ws)) (e ∙ h.3) ∙ there _ (omega arith) (e ∙ h.3))
      ]
    ]

pub returns-in_default : goal.returns-in_default
returns-in_default c =
    let g = c.args.geometry in
    let ws = c.args.words.now in
    let e = sym c.spot.ensures in
    sym (ap (references g.wide (see g ws)) e ∙ other_reference (words_of g.wide (see g ws)) c.spot.result c.in_default.not-Home c.in_default.not-Root c.in_default.not-Slot
    (λ d i h. not_body g (classes_in g ws) c.args.at (Body d i) c.requires.before refl (e ∙ h)))
