use Rattle.std.proofs.Common.{◌≡◌, false, sym, ap, ◌∙◌}
use Rattle.shm_pool.specs.{Tokens.{Acting, has_left}, Rules.alone}
use Rattle.shm_pool.proofs.Calling.{acts_here}
use Rattle.shm_pool.proofs.token.Client.leave_by.Goals as goal

pub end_by-requires-clause-acts : goal.end_by-requires-clause-acts
end_by-requires-clause-acts g c =
    let alive : c.args.self.dead ≡ false = sym (ap (λ (t : Acting). t.dead) c.self.view_is) ∙ c.if-dead.false in
    let here : has_left (alone c.self.inside.place).memo ≡ false = ap (λ (t : Acting). has_left t.account.memo) c.self.view_is ∙ (c.requires.machine alive).3 in
    acts_here (alone c.self.inside.place).memo c.self.invariant.1.acts here

pub stop-requires-clause-fallen : goal.stop-requires-clause-fallen
stop-requires-clause-fallen g c = acts_here (alone c.self.inside.place).memo c.self.invariant.1.acts (c.self.invariant.1.there c.if-dead.true)
