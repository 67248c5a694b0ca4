use Rattle.std.proofs.Common.{true, false, sym, ◌∙◌}
use Rattle.lojarnek.specs.Standing.{acts_of}
use Rattle.lojarnek.proofs.Tests.{alloc_tables, kind_is, may_make, plains_beyond, refs_beyond, sizes_dead}
use Rattle.lojarnek.proofs.client.Client.may_make.Goals as goal

pub returns-then-self-clause-err : goal.returns-then-self-clause-err
returns-then-self-clause-err c =
    let s = c.self.inside in
    rw (← c.self.view_is) (alloc_tables (acts_of s.token s.life.left) c.args.refs c.args.count (kind_is s.place s.token.of true c.self.invariant.0.0 c.if-self.true))

pub returns-then-refs-gt16-clause-err : goal.returns-then-refs-gt16-clause-err
returns-then-refs-gt16-clause-err c =
    let s = c.self.inside in
    rw (← c.self.view_is) (rw c.from.ensures (refs_beyond (acts_of s.token s.life.left) c.args.refs c.args.count (kind_is s.place s.token.of false c.self.invariant.0.0 c.if-self.false) c.if-refs-gt16.true))

pub returns-then-count-gt8-clause-err : goal.returns-then-count-gt8-clause-err
returns-then-count-gt8-clause-err c =
    let s = c.self.inside in
    rw (← c.self.view_is) (plains_beyond (acts_of s.token s.life.left) c.args.refs c.args.count (kind_is s.place s.token.of false c.self.invariant.0.0 c.if-self.false) c.if-refs-gt16.false c.if-count-gt8.true)

pub returns-then-self-2-clause-err : goal.returns-then-self-2-clause-err
returns-then-self-2-clause-err c =
    let s = c.self.inside in
    rw (← c.self.view_is) (sizes_dead (acts_of s.token s.life.left) c.args.refs c.args.count (kind_is s.place s.token.of false c.self.invariant.0.0 c.if-self.false) c.if-refs-gt16.false c.if-count-gt8.false (sym c.self.invariant.1 ∙ c.if-self-2.true))

pub returns-clause-ok : goal.returns-clause-ok
returns-clause-ok c =
    let s = c.self.inside in
    rw (← c.self.view_is) (may_make (acts_of s.token s.life.left) c.args.refs c.args.count (record { ready = c.self.invariant.2; kind = kind_is s.place s.token.of false c.self.invariant.0.0 c.if-self.false; alive = sym c.self.invariant.1 ∙ c.if-self-2.false }) c.if-refs-gt16.false c.if-count-gt8.false)
