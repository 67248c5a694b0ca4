use Rattle.std.proofs.Common.{sym, ◌∙◌, subst}
use Rattle.shm_words.specs.Layout.{GeometryFits}
use Rattle.shm_plain.proofs.pool.PlainPool.me.Goals as goal

pub returns-clause-is : goal.returns-clause-is
returns-clause-is c = let g = c.new.ensures.geometry ∙ c.geometry.ensures.is in (λ i. record { geometry = g i; who = c.new.ensures.who i })

pub returns-clause-fits : goal.returns-clause-fits
returns-clause-fits c = subst GeometryFits (sym (c.new.ensures.geometry ∙ c.geometry.ensures.is)) c.geometry.ensures.run.held.at.fits
