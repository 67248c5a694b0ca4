use Rattle.std.proofs.Common.{◌≡◌, ap, ◌∙◌}
use Rattle.shm_pool.specs.{Rules.alone, Tokens.{Acting, its, me_of}}
use Rattle.shm_pool.proofs.token.Client.me.Goals as goal

pub returns-clause-is : goal.returns-clause-is
returns-clause-is c =
    let s = c.self.inside.place in
    let is : c.new.result ≡ me_of (its s.table_id c.self.inside.start) (alone s) = (λ j. record { geometry = c.new.ensures.geometry j; who = (c.new.ensures.who ∙ c.self.invariant.0.who) j }) in
    is ∙ ap (λ (t : Acting). me_of t.of t.account) c.self.view_is
