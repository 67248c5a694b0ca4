use Rattle.std.proofs.Common.{◌<◌, sym, ap, ◌∙◌, subst}
use Rattle.shm_words.specs.{declared.geometry.Geometry.Geometry, Layout.GeometryFits}
use Rattle.shm_graph.specs.declared.run.Start.{Start}
use Rattle.t_calls.specs.declared.standing.Standing.TheVariants.{Fallen}
use Rattle.t_calls.proofs.Stands.{stand_alone}
use Rattle.t_calls.proofs.run.fall.Goals as goal

pub returns : goal.returns
returns c =
    let p = c.args.run.now.pool in
    let q = c.die.new.pool in
    let who = c.in_ok-who.who in
    let start = sym c.die.ensures.start in
    let low : who < p.start.geometry.clients = subst (λ n. who < n) (c.clients.ensures ∙ ap (λ (g : Geometry). g.clients) c.geometry.ensures.is) c.in_ok-who.ensures in
    rw c.place.ensures.first (rw c.place.ensures.second (stand_alone Fallen who q (subst (λ (s : Start). GeometryFits s.geometry) start c.requires.stand.geometry) (subst (λ (s : Start). who < s.geometry.clients) start low, c.die.ensures.fell)))
