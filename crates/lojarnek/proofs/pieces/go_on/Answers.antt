use Rattle.std.proofs.Common.{◌≡◌, ◌≢◌, ◌+◌, ◌<◌, ℕ, refl, sym, ap, ◌∙◌, subst, arith, inl, inr}
use Rattle.std.proofs.lemmas.Bool.{true≢false}
use Rattle.shm_graph.specs.declared.ask.{Life.Life, Turn.TheVariants.{Died, Done, More}}
use Rattle.shm_graph.proofs.Machines.Composing.{none_of, some_of}
use Rattle.lojarnek.proofs.Amid.{amid_cut, amid_died, amid_done, amid_more}
use Rattle.lojarnek.proofs.pieces.go_on.Goals as goal

pub goes-init : goal.goes-init
goes-init g c = record { same = refl; some = c.requires.amid; amid = λ n x h. h; down = refl }

pub step-requires-clause-pool : goal.step-requires-clause-pool
step-requires-clause-pool g c = c.goes.invariant.same ∙ c.requires.pool

pub step-requires-clause-machine : goal.step-requires-clause-machine
step-requires-clause-machine g c = λ alive. c.goes.invariant.some.2.asks

pub step-requires-clause-fits : goal.step-requires-clause-fits
step-requires-clause-fits g c = λ alive. (_, c.goes.invariant.some.2.suits)

pub goes-preserved : goal.goes-preserved
goes-preserved g c =
    let M = g.O.Machine in
    let O = g.O.Operation in
    let i = c.goes.invariant in
    let e = c.in-More.ensures in
    let ne : c.goes.life.left ≢ 0 = (λ z. true≢false (sym (e.died.1 (inl z)))) in
    let lt : 0 < c.goes.life.left = omega arith in
    let k = e.turn lt i.some.2.alive in
    let none = none_of (M.control.turns c.goes.operation k.2.seen) (sym k.2.turn) in
    let below = subst (λ (z : ℕ). z < c.goes.token.of.start.geometry.clients) c.client.ensures.is c.client.ensures.below in
    record {
      same = e.same.0 ∙ i.same;
      some = (i.some.0, i.some.1, amid_more M.control M.fits M.gives O.may O.does O.leaves O.rests g.met.O.Machine.laws g.met.O.Operation.operates i.some.0 c.goes.operation c.step.new.m i.some.1 c.goes.token c.step.new.self c.goes.life.left c.step.new.life.left More i.some.2 below e.same e.effect k.1 c.client.ensures.serves k.0 k.2 none);
      amid = λ n x h. amid_more M.control M.fits M.gives O.may O.does O.leaves O.rests g.met.O.Machine.laws g.met.O.Operation.operates n c.goes.operation c.step.new.m x c.goes.token c.step.new.self c.goes.life.left c.step.new.life.left More (i.amid n x h) below e.same e.effect k.1 c.client.ensures.serves k.0 k.2 none;
      down = let d : c.goes.life.left + c.args.steps ≡ c.args.life.now.left + c.goes.rest = i.down in let k0 : c.step.new.life.left + 1 ≡ c.goes.life.left = k.0 in omega arith;
    }

pub returns-in-Done-clause-gone : goal.returns-in-Done-clause-gone
returns-in-Done-clause-gone g c = λ n x first.
    let M = g.O.Machine in
    let O = g.O.Operation in
    let i = c.goes.invariant in
    let e = c.in-Done.ensures in
    let ne : c.goes.life.left ≢ 0 = (λ z. true≢false (sym (e.died.1 (inl z)))) in
    let lt : 0 < c.goes.life.left = omega arith in
    let k = e.turn lt i.some.2.alive in
    let h = i.amid n x first in
    let some = some_of (M.control.turns c.goes.operation k.2.seen) c.in-Done.answer (sym k.2.turn) in
    let below = subst (λ (z : ℕ). z < c.goes.token.of.start.geometry.clients) c.client.ensures.is c.client.ensures.below in (
      amid_done M.control M.fits M.gives O.may O.does O.leaves O.rests g.met.O.Machine.laws g.met.O.Operation.operates n c.goes.operation c.step.new.m x c.goes.token c.step.new.self c.goes.life.left c.step.new.life.left (Done c.in-Done.answer) h below e.same e.effect k.1 c.client.ensures.serves k.0 k.2 c.in-Done.answer e.stood some,
      e.effect ∙ h.effect,
    )

pub returns-in-Died-clause-gone : goal.returns-in-Died-clause-gone
returns-in-Died-clause-gone g c = λ n x first.
    let M = g.O.Machine in
    let O = g.O.Operation in
    let i = c.goes.invariant in
    let e = c.in-Died.ensures in
    let s = e.stays refl in
    let h = i.amid n x first in
    let spent : c.goes.life.left ≡ 0 = elim (e.died.0 refl) [ inl z ↦ z | inr d ↦ absurd (true≢false (sym d ∙ h.alive)) ] in
    let unspent : c.step.new.life.left ≡ c.goes.life.left = ap (λ (z : Life). z.left) s.2 in
    let below = subst (λ (z : ℕ). z < c.goes.token.of.start.geometry.clients) c.client.ensures.is c.client.ensures.below in (
      amid_died M.control M.fits M.gives O.may O.does O.leaves O.rests g.met.O.Machine.laws g.met.O.Operation.operates n c.goes.operation c.step.new.m x c.goes.token c.step.new.self c.goes.life.left c.step.new.life.left Died h below e.same e.effect s.3 s.0 s.1 (unspent ∙ spent) unspent e.stood,
      amid_cut M.control M.fits M.gives O.may O.does O.leaves O.rests g.met.O.Machine.laws g.met.O.Operation.operates n c.goes.operation c.step.new.m x c.goes.token c.step.new.self c.goes.life.left c.step.new.life.left Died h below e.same e.effect s.3 s.0 s.1 (unspent ∙ spent) unspent,
      e.effect ∙ h.effect,
    )

pub returns-clause-gone : goal.returns-clause-gone
returns-clause-gone g c = c.goes.invariant.amid
