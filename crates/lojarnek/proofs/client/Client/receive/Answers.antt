use Rattle.std.proofs.{Common.{◌≢◌, ◌<◌, sym, subst, ◌∙◌}, lemmas.Result.err_from_is_err_and}
use Rattle.lojarnek.specs.{Passing.WhyNotReceived, Roots.IsAtBlocks, Standing.Acts}
use Rattle.lojarnek.proofs.Comes.{came_err, came_ok, came_tested, first_denied, first_tested}
use Rattle.lojarnek.proofs.Tests.{queue_alone, queue_dead}
use Rattle.lojarnek.proofs.client.Client.receive.Goals as goal

pub returns-in_err-may_pass-clause-tested : goal.returns-in_err-may_pass-clause-tested
returns-in_err-may_pass-clause-tested c = let p = err_from_is_err_and c.from_residual.result c.from_residual.ensures.1 in rw (p.1, p.2) (first_tested _ _ _ _ (queue_alone _ _ _ c.in_err-may_pass.ensures.err.0 c.in_err-may_pass.ensures.err.1))

pub returns-in_err-may_pass-clause-refused : goal.returns-in_err-may_pass-clause-refused
returns-in_err-may_pass-clause-refused c = let p = err_from_is_err_and c.from_residual.result c.from_residual.ensures.1 in rw (p.1, p.2) (first_denied WhyNotReceived _ _ c.in_err-may_pass.ensures.err.1)

pub returns-in_err-may_call-clause-tested : goal.returns-in_err-may_call-clause-tested
returns-in_err-may_call-clause-tested c = let p = err_from_is_err_and c.from_residual-in_err-may_call.result c.from_residual-in_err-may_call.ensures.1 in rw (p.1, p.2) (first_tested _ _ _ _ (queue_dead _ _ _ c.in_ok-may_pass.ensures.ok.2 c.in_err-may_call.ensures.err))

pub returns-in_err-may_call-clause-refused : goal.returns-in_err-may_call-clause-refused
returns-in_err-may_call-clause-refused c = let p = err_from_is_err_and c.from_residual-in_err-may_call.result c.from_residual-in_err-may_call.ensures.1 in rw (p.1, p.2) (first_denied WhyNotReceived _ _ c.in_err-may_call.ensures.err.why)

pub receive-result-requires-clause-pool : goal.receive-result-requires-clause-pool
receive-result-requires-clause-pool c = sym c.self.invariant.0.0

pub receive-result-requires-clause-at : goal.receive-result-requires-clause-at
receive-result-requires-clause-at c = subst (λ (a : Acts). IsAtBlocks a.token) (sym c.self.view_is) c.in_ok-may_call.ensures.ok.0

pub receive-result-requires-clause-knows : goal.receive-result-requires-clause-knows
receive-result-requires-clause-knows c = c.self.invariant.3

pub receive-result-requires-clause-from : goal.receive-result-requires-clause-from
receive-result-requires-clause-from c = subst (λ (a : Acts). (c.args.from < a.token.of.start.geometry.clients) × (c.args.from ≢ a.token.account.who)) (sym c.self.view_is) (c.in_ok-may_pass.ensures.ok.0, c.in_ok-may_pass.ensures.ok.1)

pub invariant_of-self : goal.invariant_of-self
invariant_of-self c =
    let h = c.receive-result.ensures in
    ((c.self.invariant.0.0 ∙ sym h.same.of, c.self.invariant.0.1 ∙ sym h.same.who), c.is_death-self-inside.ensures ∙ sym h.dead, h.ready, h.knows)

pub returns-clause-tested : goal.returns-clause-tested
returns-clause-tested c = came_tested _ _ _ _ _ _ _ c.in_ok-may_pass.ensures.ok.2 c.in_ok-may_call.ensures.ok.0.alive (rw c.self.view_is at c.receive-result.ensures)

pub returns-clause-received : goal.returns-clause-received
returns-clause-received c = came_ok _ _ _ _ _ _ (rw c.self.view_is at c.receive-result.ensures)

pub returns-clause-refused : goal.returns-clause-refused
returns-clause-refused c = came_err _ _ _ _ _ _ (rw c.self.view_is at c.receive-result.ensures)

pub returns-clause-stays : goal.returns-clause-stays
returns-clause-stays c = let h = rw c.self.view_is at c.receive-result.ensures in h.same
