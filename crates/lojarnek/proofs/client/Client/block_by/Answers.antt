use Rattle.std.proofs.Common.{true, false, refl, sym, ap, ◌∙◌}
use Rattle.lojarnek.specs.Standing.{Acts, acts_of}
use Rattle.lojarnek.proofs.Comes.{if_err_then}
use Rattle.lojarnek.proofs.Tests.{follow_there, follow_tables, follow_unknown, follow_word, kind_is}
use Rattle.lojarnek.proofs.client.Client.block_by.Goals as goal

pub returns-then-self-clause-err : goal.returns-then-self-clause-err
returns-then-self-clause-err c =
    let s = c.self.inside in
    rw (← c.self.view_is) (follow_tables (acts_of s.token s.life.left) c.args.author c.args.root c.args.word (kind_is s.place s.token.of true c.self.invariant.0.0 c.if-self.true))

pub returns-in-Some-clause-err : goal.returns-in-Some-clause-err
returns-in-Some-clause-err c =
    let s = c.self.inside in
    follow_unknown c.args.self.now c.args.author c.args.root c.args.word c.in-Some.error (ap (λ (a : Acts). a.token.of.start.tables) (sym c.self.view_is) ∙ kind_is s.place s.token.of false c.self.invariant.0.0 c.if-self.false) (sym c.in-Some.ensures.is)

pub returns-clause-ok : goal.returns-clause-ok
returns-clause-ok c =
    let s = c.self.inside in
    follow_there c.args.self.now c.args.author c.args.root c.args.word (ap (λ (a : Acts). a.token.of.start.tables) (sym c.self.view_is) ∙ kind_is s.place s.token.of false c.self.invariant.0.0 c.if-self.false) (sym c.in_default.ensures.is) (c.in_default.ensures.known refl) c.block_with.result c.block_with.ensures.ok

pub returns-clause-err : goal.returns-clause-err
returns-clause-err c =
    let s = c.self.inside in
    if_err_then _ _ _ c.block_with.ensures.err (λ e x. follow_word c.args.self.now c.args.author c.args.root c.args.word e (ap (λ (a : Acts). a.token.of.start.tables) (sym c.self.view_is) ∙ kind_is s.place s.token.of false c.self.invariant.0.0 c.if-self.false) (sym c.in_default.ensures.is) x)
