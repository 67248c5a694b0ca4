use Rattle.std.proofs.{Common.{◌<◌, sym, subst, ◌∙◌}, lemmas.Result.err_from_is_err_and}
use Rattle.lojarnek.specs.{Blocks.names, Following.WhyNotFollowed, Roots.{IsAtBlocks, IsNamed}, Standing.Acts}
use Rattle.lojarnek.proofs.Comes.{block_named, came_err, came_ok, came_tested, first_denied, first_tested}
use Rattle.lojarnek.proofs.client.Client.follow.Goals as goal

pub returns-in_err-block-clause-tested : goal.returns-in_err-block-clause-tested
returns-in_err-block-clause-tested c = let p = err_from_is_err_and c.from_residual.result c.from_residual.ensures.1 in rw (p.1, p.2) (first_tested _ _ _ _ c.in_err-block.ensures.err)

pub returns-in_err-block-clause-refused : goal.returns-in_err-block-clause-refused
returns-in_err-block-clause-refused c = let p = err_from_is_err_and c.from_residual.result c.from_residual.ensures.1 in rw (p.1, p.2) (first_denied (WhyNotFollowed c.args.author (names c.args.self.now c.args.root) c.args.word) _ _ c.in_err-block.ensures.err.why)

pub follow-result-requires-clause-pool : goal.follow-result-requires-clause-pool
follow-result-requires-clause-pool c = sym c.self.invariant.0.0

pub follow-result-requires-clause-at : goal.follow-result-requires-clause-at
follow-result-requires-clause-at c = subst (λ (a : Acts). IsAtBlocks a.token) (sym c.self.view_is) c.in_ok-block.ensures.ok.0.at

pub follow-result-requires-clause-knows : goal.follow-result-requires-clause-knows
follow-result-requires-clause-knows c = c.self.invariant.3

pub follow-result-requires-clause-block : goal.follow-result-requires-clause-block
follow-result-requires-clause-block c = subst (λ (a : Acts). IsNamed c.in_ok-block.block a.token) (sym c.self.view_is) (block_named _ _ _ c.in_ok-block.ensures.ok.0)

pub follow-result-requires-clause-author : goal.follow-result-requires-clause-author
follow-result-requires-clause-author c = subst (λ (a : Acts). c.args.author < a.token.of.start.geometry.clients) (sym c.self.view_is) c.in_ok-block.ensures.ok.1

pub invariant_of-self : goal.invariant_of-self
invariant_of-self c =
    let h = c.follow-result.ensures in
    ((c.self.invariant.0.0 ∙ sym h.same.of, c.self.invariant.0.1 ∙ sym h.same.who), c.is_death-self-inside.ensures ∙ sym h.dead, h.ready, h.knows)

pub returns-clause-tested : goal.returns-clause-tested
returns-clause-tested c = came_tested _ _ _ _ _ _ _ c.in_ok-block.ensures.ok.2 c.in_ok-block.ensures.ok.0.at.alive (rw c.self.view_is at c.follow-result.ensures)

pub returns-clause-followed : goal.returns-clause-followed
returns-clause-followed c = rw c.in_ok-block.ensures.ok.0.named (came_ok _ _ _ _ _ _ (rw c.self.view_is at c.follow-result.ensures))

pub returns-clause-refused : goal.returns-clause-refused
returns-clause-refused c = rw c.in_ok-block.ensures.ok.0.named (came_err _ _ _ _ _ _ (rw c.self.view_is at c.follow-result.ensures))

pub returns-clause-stays : goal.returns-clause-stays
returns-clause-stays c = let h = rw c.self.view_is at c.follow-result.ensures in h.same
