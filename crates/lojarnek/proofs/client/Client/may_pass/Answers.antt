use Rattle.std.proofs.Common.{true, false, refl, sym, ap, ◌∙◌}
use Rattle.lojarnek.specs.Standing.{Acts, acts_of}
use Rattle.lojarnek.proofs.Tests.{kind_is, other_why, queue_kind, queue_other}
use Rattle.lojarnek.proofs.client.Client.may_pass.Goals as goal

pub returns-then-self-clause-err : goal.returns-then-self-clause-err
returns-then-self-clause-err c =
    let s = c.self.inside in
    let tables = kind_is s.place s.token.of true c.self.invariant.0.0 c.if-self.true in
    rw (← c.self.view_is) (queue_kind (acts_of s.token s.life.left) c.args.client tables, tables)

pub returns-in-Some-clause-err : goal.returns-in-Some-clause-err
returns-in-Some-clause-err c =
    let s = c.self.inside in
    let is = sym c.in-Some.ensures.is in
    (queue_other c.args.self.now c.args.client (ap (λ (a : Acts). a.token.of.start.tables) (sym c.self.view_is) ∙ kind_is s.place s.token.of false c.self.invariant.0.0 c.if-self.false) ∙ is, other_why c.args.self.now c.args.client c.in-Some.error is)

pub returns-in-None-clause-ok : goal.returns-in-None-clause-ok
returns-in-None-clause-ok c =
    let s = c.self.inside in
    let is = sym c.in-None.ensures.is in
    (c.in-None.ensures.known refl, c.in-None.ensures.other refl, queue_other c.args.self.now c.args.client (ap (λ (a : Acts). a.token.of.start.tables) (sym c.self.view_is) ∙ kind_is s.place s.token.of false c.self.invariant.0.0 c.if-self.false) ∙ is)
