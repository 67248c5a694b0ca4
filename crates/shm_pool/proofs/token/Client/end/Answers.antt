use Rattle.std.proofs.Common.{◌≡◌, ℕ, ◌<◌, sym, ap, ◌∙◌, subst}
use Rattle.shm_words.specs.Layout.{GeometryFits, address}
use Rattle.shm_words.specs.declared.place.Place.TheVariants as place
use Rattle.shm_graph.specs.declared.run.Start.{Start}
use Rattle.shm_pool.specs.{Rules.alone, Tokens.{Acting, Its}}
use Rattle.shm_pool.proofs.token.Client.end.Goals.{After-top}
use Rattle.shm_pool.proofs.token.Client.end.Goals as goal

made : (c : After-top) → c.top.result.now.key ≡ c.self.inside.start
made c = c.top.ensures.1 ∙ (sym (ap (λ (n : Its). n.start) c.requires.pool) ∙ sym (ap (λ (t : Acting). t.of.start) c.self.view_is))

pub load_status-requires-clause-fits : goal.load_status-requires-clause-fits
load_status-requires-clause-fits c = subst (λ (s : Start). GeometryFits s.geometry) (sym (made (goal.at.load_status-requires-clause-fits c).After-top)) c.self.invariant.0.fits

pub load_status-requires-clause-at : goal.load_status-requires-clause-at
load_status-requires-clause-at c =
    let m = made (goal.at.load_status-requires-clause-at c).After-top in
    let i = c.self.invariant.0 in
    let below : (alone c.self.inside.place).who < c.self.inside.start.geometry.clients = subst (λ (n : ℕ). n < c.self.inside.start.geometry.clients) i.who i.below in (
      subst (λ (s : Start). (alone c.self.inside.place).who < s.geometry.clients) (sym m) below,
      c.status-at.ensures ∙ (λ j. address (sym m j).geometry (place.Status (i.who j))),
    )
