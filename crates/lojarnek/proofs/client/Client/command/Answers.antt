use Rattle.std.proofs.Common.{◌≡◌, false, sym, ap, ◌∙◌, subst, inr}
use Rattle.shm_script.specs.Ranges.{LineFits}
use Rattle.shm_pool.specs.Tokens.{Its}
use Rattle.lojarnek.specs.{Running.had_effect, Standing.Acts}
use Rattle.lojarnek.proofs.{Naming.{knows_dead, knows_tables}, Tested.tested_ran}
use Rattle.lojarnek.proofs.client.Client.command.Goals as goal

pub carry-requires-clause-pool : goal.carry-requires-clause-pool
carry-requires-clause-pool c = sym c.self.invariant.0.0

pub carry-requires-clause-ready : goal.carry-requires-clause-ready
carry-requires-clause-ready c = c.self.invariant.2

pub carry-requires-clause-tables : goal.carry-requires-clause-tables
carry-requires-clause-tables c = ap (λ (a : Acts). a.token.of.start.tables) c.self.view_is ∙ c.requires.may.tables

pub carry-requires-clause-fits : goal.carry-requires-clause-fits
carry-requires-clause-fits c = subst (λ (a : Acts). LineFits a.token.of.start.geometry.clients a.token.account.who c.args.line.now) (sym c.self.view_is) c.requires.fits

pub invariant_of-self : goal.invariant_of-self
invariant_of-self c =
    let same = c.in-Done.ensures.same in
    let alive : c.self.inside.token.dead ≡ false = ap (λ (a : Acts). a.token.dead) c.self.view_is ∙ c.requires.may.alive in
    ((c.self.invariant.0.0 ∙ sym same.0, c.self.invariant.0.1 ∙ sym same.1), c.self.invariant.1 ∙ alive ∙ sym c.in-Done.ensures.lives, c.in-Done.ensures.ready, knows_tables c.carry.new.token c.self.inside.roots.named (ap (λ (p : Its). p.start.tables) same.0 ∙ (ap (λ (a : Acts). a.token.of.start.tables) c.self.view_is ∙ c.requires.may.tables)))

pub invariant_of-self-in-Died : goal.invariant_of-self-in-Died
invariant_of-self-in-Died c =
    let same = c.in-Died.ensures.same in
    ((c.self.invariant.0.0 ∙ sym same.0, c.self.invariant.0.1 ∙ sym same.1), sym (c.in-Died.ensures.died tt), c.in-Died.ensures.ready, knows_dead c.carry.new.token c.self.inside.roots.named (c.in-Died.ensures.died tt))

pub returns-in-Done-clause-tested : goal.returns-in-Done-clause-tested
returns-in-Done-clause-tested c = tested_ran _ _ _ _ c.requires.right c.requires.may.alive c.in-Done.ensures.lives

pub returns-in-Done-clause-ran : goal.returns-in-Done-clause-ran
returns-in-Done-clause-ran c = record { may = c.requires.may; called = rw (← c.self.view_is) c.in-Done.ensures.called }

pub returns-in-Died-clause-tested : goal.returns-in-Died-clause-tested
returns-in-Died-clause-tested c = tested_ran _ _ _ _ c.requires.right c.requires.may.alive tt

pub returns-in-Died-clause-ran : goal.returns-in-Died-clause-ran
returns-in-Died-clause-ran c = inr (record { may = c.requires.may; called = rw (← c.self.view_is) c.in-Died.ensures.called }, c.had_effect.ensures ∙ ap (had_effect c.args.line.now) c.effect.ensures.is)
