use Rattle.std.proofs.Common.{◌≡◌, Option, Some, None, false, true, refl, sym, ap, ◌∙◌, arith}
use Rattle.shm_graph.specs.{declared.ask.Turn.Turn, Laws.{turn_of, is_died}}
use Rattle.shm_plain.proofs.pool.PlainPool.step.Goals as goal

lives : {A : Type 0} (o : Option A) (t : Turn A) → t ≡ turn_of o → is_died t ≡ true → ⊥
lives None t is h = let e : false ≡ true = sym (ap is_died is) ∙ h in cc
lives (Some a) t is h = let e : false ≡ true = sym (ap is_died is) ∙ h in cc

pub returns-then-life-eq0-clause-died : goal.returns-then-life-eq0-clause-died
returns-then-life-eq0-clause-died g c = (λ _. c.if-life-eq0.true, λ _. refl)

pub returns-then-life-eq0-clause-stays : goal.returns-then-life-eq0-clause-stays
returns-then-life-eq0-clause-stays g c = λ _. (refl, refl, refl)

pub returns-then-life-eq0-clause-turn : goal.returns-then-life-eq0-clause-turn
returns-then-life-eq0-clause-turn g c = λ some. absurd (omega (arith, c.if-life-eq0.true, some))

pub returns-then-life-eq0-clause-fits : goal.returns-then-life-eq0-clause-fits
returns-then-life-eq0-clause-fits g c = λ some. absurd (omega (arith, c.if-life-eq0.true, some))

pub turn-requires-clause-fits : goal.turn-requires-clause-fits
turn-requires-clause-fits g c = c.requires.fits

pub returns-clause-died : goal.returns-clause-died
returns-clause-died g c = (λ h. absurd (lives _ c.turn.result c.turn.ensures.turn.2 h), λ none. absurd (omega (arith, c.if-life-eq0.false, none)))

pub returns-clause-stays : goal.returns-clause-stays
returns-clause-stays g c = λ h. absurd (lives _ c.turn.result c.turn.ensures.turn.2 h)

pub returns-clause-turn : goal.returns-clause-turn
returns-clause-turn g c = λ some. (omega (arith, some), c.turn.ensures.turn.0, c.turn.ensures.turn.1, c.turn.ensures.turn.2)

pub returns-clause-fits : goal.returns-clause-fits
returns-clause-fits g c = λ some r0 fit. rw c.turn.ensures.turn.1 (c.turn.ensures.learns r0 fit)
