use Rattle.std.proofs.{Common.{sym, subst, ◌∙◌}, lemmas.Result.err_from_is_err_and}
use Rattle.lojarnek.specs.{Blocks.names, Roots.{IsAtBlocks, IsNamed}, Setting.{WhyNotSet, set_wrong}, Standing.Acts}
use Rattle.lojarnek.proofs.Comes.{block_named, came_err, came_first, came_second, came_tested, first_denied, first_tested}
use Rattle.lojarnek.proofs.Tests.{set_first, set_right, set_then}
use Rattle.lojarnek.proofs.client.Client.set.Goals as goal

pub returns-in_err-block-clause-tested : goal.returns-in_err-block-clause-tested
returns-in_err-block-clause-tested c = let p = err_from_is_err_and c.from_residual.result c.from_residual.ensures.1 in rw (p.1, p.2) (first_tested _ _ _ _ (set_first _ _ _ _ _ c.in_err-block.ensures.err))

pub returns-in_err-block-clause-refused : goal.returns-in_err-block-clause-refused
returns-in_err-block-clause-refused c = let p = err_from_is_err_and c.from_residual.result c.from_residual.ensures.1 in rw (p.1, p.2) (first_denied (WhyNotSet (names c.args.self.now c.args.root) c.args.word (names c.args.self.now c.args.to)) _ _ c.in_err-block.ensures.err.why)

pub returns-in_err-to-clause-tested : goal.returns-in_err-to-clause-tested
returns-in_err-to-clause-tested c = let p = err_from_is_err_and c.from_residual-in_err-to.result c.from_residual-in_err-to.ensures.1 in rw (p.1, p.2) (first_tested _ _ _ _ (set_then _ _ _ _ _ c.in_ok-block.ensures.ok.1 c.in_ok-block.ensures.ok.0.at.alive c.in_err-to.ensures.err))

pub returns-in_err-to-clause-refused : goal.returns-in_err-to-clause-refused
returns-in_err-to-clause-refused c = let p = err_from_is_err_and c.from_residual-in_err-to.result c.from_residual-in_err-to.ensures.1 in rw (p.1, p.2) (first_denied (WhyNotSet (names c.args.self.now c.args.root) c.args.word (names c.args.self.now c.args.to)) _ _ c.in_err-to.ensures.err.why)

pub set-result-requires-clause-pool : goal.set-result-requires-clause-pool
set-result-requires-clause-pool c = sym c.self.invariant.0.0

pub set-result-requires-clause-at : goal.set-result-requires-clause-at
set-result-requires-clause-at c = subst (λ (a : Acts). IsAtBlocks a.token) (sym c.self.view_is) c.in_ok-block.ensures.ok.0.at

pub set-result-requires-clause-block : goal.set-result-requires-clause-block
set-result-requires-clause-block c = subst (λ (a : Acts). IsNamed c.in_ok-block.block a.token) (sym c.self.view_is) (block_named _ _ _ c.in_ok-block.ensures.ok.0)

pub set-result-requires-clause-to : goal.set-result-requires-clause-to
set-result-requires-clause-to c = λ some. subst (λ (a : Acts). IsNamed c.in_ok-to.to a.token) (sym c.self.view_is) (block_named _ _ _ c.in_ok-to.ensures.ok.0)

pub invariant_of-self : goal.invariant_of-self
invariant_of-self c =
    let h = c.set-result.ensures c.self.inside.roots.named c.self.invariant.3 in
    ((c.self.invariant.0.0 ∙ sym h.same.of, c.self.invariant.0.1 ∙ sym h.same.who), c.is_death-self-inside.ensures ∙ sym h.dead, h.ready, h.knows)

pub returns-clause-tested : goal.returns-clause-tested
returns-clause-tested c = came_tested _ _ (set_wrong c.args.self.now c.args.root c.args.word c.args.to) c.args.self.now _ _ _ (set_right c.args.self.now c.args.root c.args.word c.args.to c.in_ok-block.ensures.ok.1 c.in_ok-block.ensures.ok.0.at.alive c.in_ok-to.ensures.ok.1) c.in_ok-block.ensures.ok.0.at.alive (rw c.self.view_is at (c.set-result.ensures c.self.inside.roots.named c.self.invariant.3))

pub returns-clause-set : goal.returns-clause-set
returns-clause-set c = rw (c.in_ok-block.ensures.ok.0.named, c.in_ok-to.ensures.ok.0.named) (came_first _ _ _ _ _ _ _ (rw c.self.view_is at (c.set-result.ensures c.self.inside.roots.named c.self.invariant.3)))

pub returns-clause-roots : goal.returns-clause-roots
returns-clause-roots c = rw (← c.self.view_is) (came_second _ _ _ _ _ _ _ (c.set-result.ensures c.self.inside.roots.named c.self.invariant.3))

pub returns-clause-refused : goal.returns-clause-refused
returns-clause-refused c = rw (c.in_ok-block.ensures.ok.0.named, c.in_ok-to.ensures.ok.0.named) (came_err _ _ _ _ _ _ (rw c.self.view_is at (c.set-result.ensures c.self.inside.roots.named c.self.invariant.3)))

pub returns-clause-stays : goal.returns-clause-stays
returns-clause-stays c = let h = rw c.self.view_is at (c.set-result.ensures c.self.inside.roots.named c.self.invariant.3) in h.same
