use Rattle.std.proofs.{Common.{sym, subst, ◌∙◌}, lemmas.Result.err_from_is_err_and}
use Rattle.lojarnek.specs.{Blocks.{OnlyRoot, Spent}, Roots.IsAtBlocks, Standing.Acts}
use Rattle.lojarnek.proofs.Comes.{came_err, came_first, came_second, came_tested, first_denied, first_tested}
use Rattle.lojarnek.proofs.client.Client.drop_root.Goals as goal

pub returns-in_err-block_of-clause-tested : goal.returns-in_err-block_of-clause-tested
returns-in_err-block_of-clause-tested c = let p = err_from_is_err_and c.from_residual.result c.from_residual.ensures.1 in rw (p.1, p.2) (first_tested _ _ _ _ c.in_err-block_of.ensures.err)

pub returns-in_err-block_of-clause-refused : goal.returns-in_err-block_of-clause-refused
returns-in_err-block_of-clause-refused c = let p = err_from_is_err_and c.from_residual.result c.from_residual.ensures.1 in rw (p.1, p.2) (first_denied (Spent (OnlyRoot c.args.root)) _ _ c.in_err-block_of.ensures.err.why)

pub empty-result-requires-clause-pool : goal.empty-result-requires-clause-pool
empty-result-requires-clause-pool c = sym c.self.invariant.0.0

pub empty-result-requires-clause-at : goal.empty-result-requires-clause-at
empty-result-requires-clause-at c = subst (λ (a : Acts). IsAtBlocks a.token) (sym c.self.view_is) c.in_ok-block_of.ensures.ok.0.at

pub empty-result-requires-clause-knows : goal.empty-result-requires-clause-knows
empty-result-requires-clause-knows c = c.self.invariant.3

pub empty-result-requires-clause-root : goal.empty-result-requires-clause-root
empty-result-requires-clause-root c = c.in_ok-block_of.ensures.ok.0.low

pub invariant_of-self : goal.invariant_of-self
invariant_of-self c =
    let h = c.empty-result.ensures in
    ((c.self.invariant.0.0 ∙ sym h.same.of, c.self.invariant.0.1 ∙ sym h.same.who), c.is_death-self-inside.ensures ∙ sym h.dead, h.ready, h.knows)

pub returns-clause-tested : goal.returns-clause-tested
returns-clause-tested c = came_tested _ _ _ _ _ _ _ c.in_ok-block_of.ensures.ok.1 c.in_ok-block_of.ensures.ok.0.at.alive (rw c.self.view_is at c.empty-result.ensures)

pub returns-clause-dropped : goal.returns-clause-dropped
returns-clause-dropped c = came_first _ _ _ _ _ _ _ (rw c.self.view_is at c.empty-result.ensures)

pub returns-clause-others : goal.returns-clause-others
returns-clause-others c = rw (← c.self.view_is) (came_second _ _ _ _ _ _ _ c.empty-result.ensures)

pub returns-clause-refused : goal.returns-clause-refused
returns-clause-refused c = came_err _ _ _ _ _ _ (rw c.self.view_is at c.empty-result.ensures)

pub returns-clause-stays : goal.returns-clause-stays
returns-clause-stays c = let h = rw c.self.view_is at c.empty-result.ensures in h.same
