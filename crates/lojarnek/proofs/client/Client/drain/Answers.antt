use Rattle.std.proofs.{Common.{sym, subst, ◌∙◌}, lemmas.Result.err_from_is_err_and}
use Rattle.lojarnek.specs.{Blocks.{KeepsRoots, Spent}, Roots.IsAtBlocks, Standing.Acts}
use Rattle.lojarnek.proofs.Comes.{came_err, came_first, came_second, came_tested, first_denied, first_tested}
use Rattle.lojarnek.proofs.client.Client.drain.Goals as goal

pub returns-in_err-may_call-clause-tested : goal.returns-in_err-may_call-clause-tested
returns-in_err-may_call-clause-tested c = let p = err_from_is_err_and c.from_residual.result c.from_residual.ensures.1 in rw (p.1, p.2) (first_tested _ _ _ _ c.in_err-may_call.ensures.err)

pub returns-in_err-may_call-clause-refused : goal.returns-in_err-may_call-clause-refused
returns-in_err-may_call-clause-refused c = let p = err_from_is_err_and c.from_residual.result c.from_residual.ensures.1 in rw (p.1, p.2) (first_denied (Spent KeepsRoots) _ _ c.in_err-may_call.ensures.err.why)

pub drain-result-requires-clause-pool : goal.drain-result-requires-clause-pool
drain-result-requires-clause-pool c = sym c.self.invariant.0.0

pub drain-result-requires-clause-at : goal.drain-result-requires-clause-at
drain-result-requires-clause-at c = subst (λ (a : Acts). IsAtBlocks a.token) (sym c.self.view_is) c.in_ok-may_call.ensures.ok.0

pub invariant_of-self : goal.invariant_of-self
invariant_of-self c =
    let h = c.drain-result.ensures c.self.inside.roots.named c.self.invariant.3 in
    ((c.self.invariant.0.0 ∙ sym h.same.of, c.self.invariant.0.1 ∙ sym h.same.who), c.is_death-self-inside.ensures ∙ sym h.dead, h.ready, h.knows)

pub returns-clause-tested : goal.returns-clause-tested
returns-clause-tested c = came_tested _ _ _ _ _ _ _ c.in_ok-may_call.ensures.ok.1 c.in_ok-may_call.ensures.ok.0.alive (rw c.self.view_is at (c.drain-result.ensures c.self.inside.roots.named c.self.invariant.3))

pub returns-clause-drained : goal.returns-clause-drained
returns-clause-drained c = came_first _ _ _ _ _ _ _ (rw c.self.view_is at (c.drain-result.ensures c.self.inside.roots.named c.self.invariant.3))

pub returns-clause-roots : goal.returns-clause-roots
returns-clause-roots c = rw (← c.self.view_is) (came_second _ _ _ _ _ _ _ (c.drain-result.ensures c.self.inside.roots.named c.self.invariant.3))

pub returns-clause-refused : goal.returns-clause-refused
returns-clause-refused c = came_err _ _ _ _ _ _ (rw c.self.view_is at (c.drain-result.ensures c.self.inside.roots.named c.self.invariant.3))

pub returns-clause-stays : goal.returns-clause-stays
returns-clause-stays c = let h = rw c.self.view_is at (c.drain-result.ensures c.self.inside.roots.named c.self.invariant.3) in h.same
