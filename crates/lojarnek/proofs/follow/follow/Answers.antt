use Rattle.std.proofs.Common.{◌∙◌}
use Rattle.lojarnek.specs.Standing.{acts_of}
use Rattle.lojarnek.proofs.{Follows.{follow_came, follow_died, follow_kept}, Setting.{ended_came, named_then}}
use Rattle.lojarnek.proofs.follow.follow.Goals as goal

pub returns-in_default : goal.returns-in_default
returns-in_default c = ended_came _ _ _ _ c.args.roots.now.named c.in_default.ensures

pub follow_held-requires-clause-pool : goal.follow_held-requires-clause-pool
follow_held-requires-clause-pool c = c.in-Done.ensures.0.of ∙ c.requires.pool

pub follow_held-requires-clause-held : goal.follow_held-requires-clause-held
follow_held-requires-clause-held c = c.in-Done.ensures.1

pub follow_held-requires-clause-knows : goal.follow_held-requires-clause-knows
follow_held-requires-clause-knows c = λ k low. c.in-Done.ensures.2 k ∙ c.requires.knows c.requires.at.kind c.requires.at.alive k low

pub follow_held-requires-clause-block : goal.follow_held-requires-clause-block
follow_held-requires-clause-block c =
    named_then (acts_of c.args.token.now c.args.life.now.left) (acts_of c.take.new.token c.take.new.life.left) c.args.block c.in-Done.ensures.2 c.requires.block

pub returns-in_default-follow_held : goal.returns-in_default-follow_held
returns-in_default-follow_held c =
    follow_died c.args.author c.args.block c.args.word (acts_of c.args.token.now c.args.life.now.left) (acts_of c.take.new.token c.take.new.life.left) (acts_of c.follow_held.new.token c.follow_held.new.life.left)
    (acts_of c.follow_held.new.token c.follow_held.new.life.left) c.follow_held.new.roots.named c.in-Done.ensures c.in_default-follow_held.ensures

pub give-requires-clause-pool : goal.give-requires-clause-pool
give-requires-clause-pool c = c.in-Done-follow_held.ensures.0.of ∙ (c.in-Done.ensures.0.of ∙ c.requires.pool)

pub give-requires-clause-held : goal.give-requires-clause-held
give-requires-clause-held c = (c.args.author, c.in-Done-follow_held.ensures.1)

pub returns-in_default-give : goal.returns-in_default-give
returns-in_default-give c =
    rw c.is_ok-done.ensures.value (
    follow_kept c.args.author c.args.block c.args.word (acts_of c.args.token.now c.args.life.now.left) (acts_of c.take.new.token c.take.new.life.left) (acts_of c.follow_held.new.token c.follow_held.new.life.left)
    (acts_of c.give.new.token c.give.new.life.left) c.follow_held.new.roots.named c.in-Done.ensures c.in-Done-follow_held.answer c.in-Done-follow_held.ensures c.in_default-give.ensures
    )

pub returns : goal.returns
returns c =
    follow_came c.args.author c.args.block c.args.word (acts_of c.args.token.now c.args.life.now.left) (acts_of c.take.new.token c.take.new.life.left) (acts_of c.follow_held.new.token c.follow_held.new.life.left)
    (acts_of c.give.new.token c.give.new.life.left) c.follow_held.new.roots.named c.in-Done.ensures c.in-Done-follow_held.answer c.in-Done-follow_held.ensures c.in-Done-give.ensures
