use Rattle.lojarnek.proofs.Lists.{all_push}
use Rattle.lojarnek.proofs.desks.push.Goals as goal

pub returns-clause-of : goal.returns-clause-of
returns-clause-of c = rw c.in_default.ensures.items (all_push _ _ _ c.requires.of c.requires.token.0)
