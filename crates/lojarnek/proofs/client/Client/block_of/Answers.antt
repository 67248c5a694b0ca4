use Rattle.std.proofs.Common.{true, false, sym, ◌∙◌}
use Rattle.lojarnek.specs.Standing.{acts_of}
use Rattle.lojarnek.proofs.Tests.{block_there, kind_is, root_beyond, root_dead, root_empty, root_tables}
use Rattle.lojarnek.proofs.client.Client.block_of.Goals as goal

pub returns-then-self-clause-err : goal.returns-then-self-clause-err
returns-then-self-clause-err c =
    let s = c.self.inside in
    rw (← c.self.view_is) (root_tables (acts_of s.token s.life.left) c.args.root (kind_is s.place s.token.of true c.self.invariant.0.0 c.if-self.true))

pub returns-then-root-ge16-clause-err : goal.returns-then-root-ge16-clause-err
returns-then-root-ge16-clause-err c =
    let s = c.self.inside in
    rw (← c.self.view_is) (rw c.from.ensures (root_beyond (acts_of s.token s.life.left) c.args.root (kind_is s.place s.token.of false c.self.invariant.0.0 c.if-self.false) c.if-root-ge16.true))

pub returns-then-self-2-clause-err : goal.returns-then-self-2-clause-err
returns-then-self-2-clause-err c =
    let s = c.self.inside in
    rw (← c.self.view_is) (root_dead (acts_of s.token s.life.left) c.args.root (kind_is s.place s.token.of false c.self.invariant.0.0 c.if-self.false) c.if-root-ge16.false (sym c.self.invariant.1 ∙ c.if-self-2.true))

pub returns-then-block-eq0-clause-err : goal.returns-then-block-eq0-clause-err
returns-then-block-eq0-clause-err c =
    let s = c.self.inside in
    let blocks = kind_is s.place s.token.of false c.self.invariant.0.0 c.if-self.false in
    let alive = sym c.self.invariant.1 ∙ c.if-self-2.false in
    rw (← c.self.view_is) (root_empty (acts_of s.token s.life.left) c.args.root blocks c.if-root-ge16.false alive (c.self.invariant.3 blocks alive c.args.root c.if-root-ge16.false ∙ (sym c.of-block.ensures ∙ c.if-block-eq0.true)))

pub returns-clause-ok : goal.returns-clause-ok
returns-clause-ok c =
    let s = c.self.inside in
    let blocks = kind_is s.place s.token.of false c.self.invariant.0.0 c.if-self.false in
    let alive = sym c.self.invariant.1 ∙ c.if-self-2.false in
    rw (← c.self.view_is) (block_there (acts_of s.token s.life.left) c.args.root c.of-block.result (record { ready = c.self.invariant.2; kind = blocks; alive = alive }) c.if-root-ge16.false c.if-block-eq0.false (c.self.invariant.3 blocks alive c.args.root c.if-root-ge16.false ∙ sym c.of-block.ensures))
