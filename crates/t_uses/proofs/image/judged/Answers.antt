use Rattle.std.proofs.Common.{ℕ, sym, subst, List}
use Rattle.shm_words.specs.declared.geometry.Geometry.{Geometry}
use Rattle.t_uses.specs.Images.{AreClean}
use Rattle.t_uses.proofs.image.judged.Goals as goal

pub judged_words-requires : goal.judged_words-requires
judged_words-requires c =
    let end = c.words-words.ensures.end in
    let h = end.run.held in
    subst (λ (g : Geometry). AreClean g c.words-words.result.now) (sym c.geometry-geometry.ensures.is)
    (subst (λ (ws : List ℕ). AreClean c.args.closed.now.start.geometry ws) (sym c.words-words.ensures.is)
    (record { fits = h.at.fits; whole = h.words; small = h.at.small; clean = end.clean }))
