use Rattle.std.proofs.Common.{ap, ◌∙◌}
use Rattle.shm_graph.specs.declared.ask.Me.{Me}
use Rattle.shm_async.proofs.Making.{new_stands}
use Rattle.shm_async.proofs.identity.CourseFuture.new.Goals as goal

pub of-requires-clause-me : goal.of-requires-clause-me
of-requires-clause-me g c = ap (λ (m : Me). m.who) c.in-Ok.ensures.me ∙ (c.new-me.ensures.who ∙ c.client.ensures.is)

pub of-requires-clause-stands : goal.of-requires-clause-stands
of-requires-clause-stands g c =
    new_stands c.args.pool.now c.args.token c.args.script.now c.new-me.result c.in-Ok.agents c.requires.of c.requires.first c.requires.era c.requires.tables c.requires.client c.requires.script
    (c.new-me.ensures.geometry ∙ c.geometry.ensures.is) (c.new-me.ensures.who ∙ c.client.ensures.is) c.in-Ok.ensures.stands
