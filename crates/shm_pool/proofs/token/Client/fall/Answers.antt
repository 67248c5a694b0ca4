use Rattle.std.proofs.Common.{sym, ap, ◌∙◌}
use Rattle.shm_pool.specs.{Rules.alone, Tokens.{Acting, has_left}}
use Rattle.shm_pool.proofs.Calling.{serving_acts}
use Rattle.shm_pool.proofs.token.Client.fall.Goals as goal

pub invariant_of-result : goal.invariant_of-result
invariant_of-result c =
    (c.self.invariant.0, serving_acts c.self.inside.dead (alone c.self.inside.place).memo c.self.invariant.1 (λ d. ap (λ (t : Acting). has_left t.account.memo) c.self.view_is ∙ c.requires (sym (ap (λ (t : Acting). t.dead) c.self.view_is) ∙ d)))
