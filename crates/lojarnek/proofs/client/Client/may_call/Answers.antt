use Rattle.std.proofs.Common.{true, false, sym, ◌∙◌}
use Rattle.lojarnek.specs.Standing.{acts_of}
use Rattle.lojarnek.proofs.Tests.{kind_blocks, kind_dead, kind_is, kind_tables}
use Rattle.lojarnek.proofs.client.Client.may_call.Goals as goal

pub returns-then-self-clause-err : goal.returns-then-self-clause-err
returns-then-self-clause-err c =
    let s = c.self.inside in
    rw (← c.self.view_is) (kind_tables (acts_of s.token s.life.left) (kind_is s.place s.token.of true c.self.invariant.0.0 c.if-self.true))

pub returns-then-self-2-clause-err : goal.returns-then-self-2-clause-err
returns-then-self-2-clause-err c =
    let s = c.self.inside in
    rw (← c.self.view_is) (kind_dead (acts_of s.token s.life.left) (kind_is s.place s.token.of false c.self.invariant.0.0 c.if-self.false) (sym c.self.invariant.1 ∙ c.if-self-2.true))

pub returns-clause-ok : goal.returns-clause-ok
returns-clause-ok c =
    let s = c.self.inside in
    rw (← c.self.view_is) ((record { ready = c.self.invariant.2; kind = kind_is s.place s.token.of false c.self.invariant.0.0 c.if-self.false; alive = sym c.self.invariant.1 ∙ c.if-self-2.false }, kind_blocks (acts_of s.token s.life.left) (kind_is s.place s.token.of false c.self.invariant.0.0 c.if-self.false)))
