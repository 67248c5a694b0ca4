use Rattle.std.proofs.Common.{refl, sym, ap, ◌∙◌, Ok, Err}
use Rattle.shm_pool.specs.Tokens.{Its}
use Rattle.lojarnek.specs.{Pending.showing, Standing.acts_of}
use Rattle.lojarnek.specs.declared.error.Error.TheVariants as error
use Rattle.lojarnek.proofs.{Piecewise.{answered, answered_died}, Says.run_stays}
use Rattle.lojarnek.proofs.pending.Call.go.Goals as goal

pub go-requires-clause-pool : goal.go-requires-clause-pool
go-requires-clause-pool c = sym c.self.invariant.0.0

pub go-requires-clause-amid : goal.go-requires-clause-amid
go-requires-clause-amid c = (c.self.inside.line, c.self.inside.from.value, c.self.invariant.3)

pub invariant_of-result : goal.invariant_of-result
invariant_of-result c =
    let i = c.self.invariant in
    let h = c.in-More.ensures.gone c.self.inside.line c.self.inside.from.value i.3 i.1 i.2 in
    ((i.0.0 ∙ (i.3.same.0 ∙ sym h.same.0), i.0.1 ∙ (i.3.same.1 ∙ sym h.same.1)), i.1, i.2, h)

pub returns-in-More : goal.returns-in-More
returns-in-More c = rw (← c.self.view_is) (record { from = refl; line = refl; steps = c.in-More.ensures.steps refl })

pub after-client-requires-clause-home : goal.after-client-requires-clause-home
after-client-requires-clause-home c =
    let i = c.self.invariant in
    let h = c.in-Done.ensures.gone c.self.inside.line c.self.inside.from.value i.3 i.1 i.2 in
    let s = run_stays c.self.inside.line c.self.inside.from.value (acts_of c.go.new.token c.go.new.life.left) (Ok c.in-Done.answer) h.0 in
    (i.0.0 ∙ (i.3.same.0 ∙ sym s.of), i.0.1 ∙ (i.3.same.1 ∙ sym s.who))

pub after-client-requires-clause-ready : goal.after-client-requires-clause-ready
after-client-requires-clause-ready c = let i = c.self.invariant in (c.in-Done.ensures.gone c.self.inside.line c.self.inside.from.value i.3 i.1 i.2).1

pub after-client-requires-clause-dead : goal.after-client-requires-clause-dead
after-client-requires-clause-dead c = let i = c.self.invariant in sym (c.in-Done.ensures.gone c.self.inside.line c.self.inside.from.value i.3 i.1 i.2).2

pub after-client-requires-clause-tables : goal.after-client-requires-clause-tables
after-client-requires-clause-tables c =
    let i = c.self.invariant in
    let h = c.in-Done.ensures.gone c.self.inside.line c.self.inside.from.value i.3 i.1 i.2 in
    let s = run_stays c.self.inside.line c.self.inside.from.value (acts_of c.go.new.token c.go.new.life.left) (Ok c.in-Done.answer) h.0 in
    ap (λ (p : Its). p.start.tables) s.of ∙ i.2

pub returns-in-Done : goal.returns-in-Done
returns-in-Done c =
    let i = c.self.invariant in
    let h = c.in-Done.ensures.gone c.self.inside.line c.self.inside.from.value i.3 i.1 i.2 in
    rw (c.after-client.ensures, c.outcome_of.ensures, ← c.self.view_is) (answered c.self.inside.line c.self.inside.from.value (acts_of c.go.new.token c.go.new.life.left) c.in-Done.answer h.0 h.2)

pub after-client-requires-in-Died-clause-home : goal.after-client-requires-in-Died-clause-home
after-client-requires-in-Died-clause-home c =
    let i = c.self.invariant in
    let h = c.in-Died.ensures.gone c.self.inside.line c.self.inside.from.value i.3 i.1 i.2 in
    let s = run_stays c.self.inside.line c.self.inside.from.value (showing _ (acts_of c.go.new.token c.go.new.life.left)) (Err (error.Died _)) h.0 in
    (i.0.0 ∙ (i.3.same.0 ∙ sym s.of), i.0.1 ∙ (i.3.same.1 ∙ sym s.who))

pub after-client-requires-in-Died-clause-ready : goal.after-client-requires-in-Died-clause-ready
after-client-requires-in-Died-clause-ready c = let i = c.self.invariant in (c.in-Died.ensures.gone c.self.inside.line c.self.inside.from.value i.3 i.1 i.2).1

pub after-client-requires-in-Died-clause-dead : goal.after-client-requires-in-Died-clause-dead
after-client-requires-in-Died-clause-dead c = let i = c.self.invariant in sym (c.in-Died.ensures.gone c.self.inside.line c.self.inside.from.value i.3 i.1 i.2).2

pub after-client-requires-in-Died-clause-tables : goal.after-client-requires-in-Died-clause-tables
after-client-requires-in-Died-clause-tables c =
    let i = c.self.invariant in
    let h = c.in-Died.ensures.gone c.self.inside.line c.self.inside.from.value i.3 i.1 i.2 in
    let s = run_stays c.self.inside.line c.self.inside.from.value (showing _ (acts_of c.go.new.token c.go.new.life.left)) (Err (error.Died _)) h.0 in
    ap (λ (p : Its). p.start.tables) s.of ∙ i.2

pub returns : goal.returns
returns c =
    let i = c.self.invariant in
    let h = c.in-Died.ensures.gone c.self.inside.line c.self.inside.from.value i.3 i.1 i.2 in
    rw (c.after-client-in-Died.ensures, c.had_effect-done.ensures, c.effect.ensures, ← c.self.view_is) (answered_died c.self.inside.line c.self.inside.from.value (acts_of c.go.new.token c.go.new.life.left) _ _ h.0)
