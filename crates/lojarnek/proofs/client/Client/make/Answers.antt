use Rattle.std.proofs.{Common.{sym, subst, ◌∙◌}, lemmas.Result.err_from_is_err_and}
use Rattle.lojarnek.specs.{Blocks.WhyNotMade, Roots.IsAtBlocks, Standing.Acts}
use Rattle.lojarnek.proofs.Comes.{came_err, came_ok, came_tested, first_denied, first_tested}
use Rattle.lojarnek.proofs.client.Client.make.Goals as goal

pub returns-in_err-may_make-clause-tested : goal.returns-in_err-may_make-clause-tested
returns-in_err-may_make-clause-tested c = let p = err_from_is_err_and c.from_residual.result c.from_residual.ensures.1 in rw (p.1, p.2) (first_tested _ _ _ _ (c.in_err-may_make.ensures.err))

pub returns-in_err-may_make-clause-refused : goal.returns-in_err-may_make-clause-refused
returns-in_err-may_make-clause-refused c = let p = err_from_is_err_and c.from_residual.result c.from_residual.ensures.1 in rw (p.1, p.2) (first_denied WhyNotMade _ _ c.in_err-may_make.ensures.err.why)

pub make-result-requires-clause-pool : goal.make-result-requires-clause-pool
make-result-requires-clause-pool c = sym c.self.invariant.0.0

pub make-result-requires-clause-at : goal.make-result-requires-clause-at
make-result-requires-clause-at c = subst (λ (a : Acts). IsAtBlocks a.token) (sym c.self.view_is) c.in_ok-may_make.ensures.ok.0

pub make-result-requires-clause-knows : goal.make-result-requires-clause-knows
make-result-requires-clause-knows c = c.self.invariant.3

pub invariant_of-self : goal.invariant_of-self
invariant_of-self c =
    let h = c.make-result.ensures in
    ((c.self.invariant.0.0 ∙ sym h.same.of, c.self.invariant.0.1 ∙ sym h.same.who), c.is_death-self-inside.ensures ∙ sym h.dead, h.ready, h.knows)

pub returns-clause-tested : goal.returns-clause-tested
returns-clause-tested c = came_tested _ _ _ _ _ _ _ (c.in_ok-may_make.ensures.ok.3) c.in_ok-may_make.ensures.ok.0.alive (rw c.self.view_is at c.make-result.ensures)

pub returns-clause-made : goal.returns-clause-made
returns-clause-made c = came_ok _ _ _ _ _ _ (rw c.self.view_is at c.make-result.ensures)

pub returns-clause-refused : goal.returns-clause-refused
returns-clause-refused c = came_err _ _ _ _ _ _ (rw c.self.view_is at c.make-result.ensures)

pub returns-clause-stays : goal.returns-clause-stays
returns-clause-stays c = let h = rw c.self.view_is at c.make-result.ensures in h.same
