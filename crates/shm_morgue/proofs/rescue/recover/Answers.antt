use Rattle.std.proofs.Common.{◌≡◌, ◌+◌, false, sym, ap, ◌∙◌, subst, arith}
use Rattle.std.specs.Prelude.{Ok}
use Rattle.shm_graph.specs.declared.{ask.Turn.{Turn, TheVariants.{More, Done}}, run.Account.Account}
use Rattle.shm_graph.specs.Laws.{is_died, is_done}
use Rattle.shm_recover.specs.Machines.Recovering.{recover}
use Rattle.shm_pool.specs.{Endings.Answer, Tokens.me_of}
use Rattle.shm_team.specs.{declared.left.Left.Left, Lefts.token_in}
use Rattle.shm_morgue.specs.Dead.{IsNext, left_by}
use Rattle.shm_morgue.proofs.Mending.{works_first}
use Rattle.shm_morgue.proofs.Recovered.{left_of, next_dead, next_gone, not_true, some_left, works_on}
use Rattle.shm_morgue.proofs.rescue.recover.Goals as goal

more_ok : (t : Turn Answer) → t ≡ More → t ≡ Done (Ok tt) → ⊥
more_ok t is done = let z : More ≡ Done (Ok tt) = sym is ∙ done in absurd (cc)

pub steps-init : goal.steps-init
steps-init g c =
    let p = c.start-rescuer.ensures in
    record {
      of = p.of.0 ∙ c.requires;
      who = ap (λ (a : Account). a.who) p.of.1;
      going = ap recover.finished p.machine;
      undone = p.of.3;
      working = λ on. works_first c.args.corpse.account (me_of c.args.corpse.of c.args.corpse.account) c.args.steps c.of-life.result.left c.start-rescuer.result on (let z = c.of-life.ensures in omega arith) p.of.2 p.of.1 p.machine p.fits;
    }

pub steps-preserved : goal.steps-preserved
steps-preserved g c =
    let i = c.steps.invariant in
    let e = c.step.ensures in
    let is = c.in-More.is in
    let alive : is_died c.step.result ≡ false = ap is_died is in
    let k = e.turn (some_left c.step.result c.steps.life.left e.died.1 alive) in
    record {
      of = e.same.0 ∙ i.of;
      who = e.same.1 ∙ i.who;
      going = e.finished ∙ ap is_done is;
      undone = not_true c.step.new.self.done (c.step.result ≡ Done (Ok tt)) (e.done alive).0 (more_ok c.step.result is);
      working = λ on. works_on (me_of c.args.corpse.of c.args.corpse.account) c.args.corpse.account c.args.steps c.steps.life.left c.step.new.life.left c.steps.rescuer c.step.new.self on k.0 k.1 (i.working on) c.step.result k.2 is;
    }

pub returns-in-Died-clause-of : goal.returns-in-Died-clause-of
returns-in-Died-clause-of g c = ap (λ (k : Left). (token_in k).of) c.give_back.ensures ∙ (left_of c.step.new.self ∙ (c.step.ensures.same.0 ∙ c.steps.invariant.of))

pub returns-in-Died-clause-next : goal.returns-in-Died-clause-next
returns-in-Died-clause-next g c = λ s n l at h.
    let i = c.steps.invariant in
    let e = c.step.ensures in
    let died = ap is_died c.in-Died.is in
    let same = (e.stays died).0 in
    subst (IsNext c.args.pool.now s (n + 1) l) (sym (c.give_back.ensures ∙ ap left_by same))
    (next_dead c.args.pool.now s n l c.args.corpse h c.args.steps at c.steps.rescuer i.of i.who i.undone c.steps.life.left (e.died.0 died) (i.working h.acts))

pub returns-in-Done-Ok-clause-of : goal.returns-in-Done-Ok-clause-of
returns-in-Done-Ok-clause-of g c = ap (λ (k : Left). (token_in k).of) c.give_back-in-Done-Ok.ensures ∙ (left_of c.step.new.self ∙ (c.step.ensures.same.0 ∙ c.steps.invariant.of))

pub returns-in-Done-Ok-clause-next : goal.returns-in-Done-Ok-clause-next
returns-in-Done-Ok-clause-next g c = λ s n l at h.
    let i = c.steps.invariant in
    let e = c.step.ensures in
    let is : c.step.result ≡ Done (Ok tt) = c.in-Done-Ok.is ∙ ap Done c.in-Done-Ok.field-0-is in
    let alive : is_died c.step.result ≡ false = ap is_died is in
    let k = e.turn (some_left c.step.result c.steps.life.left e.died.1 alive) in
    subst (IsNext c.args.pool.now s (n + 1) l) (sym c.give_back-in-Done-Ok.ensures)
    (next_gone c.args.pool.now s n l c.args.corpse h c.args.steps at c.steps.rescuer c.step.new.self (e.same.0 ∙ i.of) (e.same.1 ∙ i.who) ((e.done alive).1 is) c.steps.life.left c.step.new.life.left k.0 (i.working h.acts) c.step.result k.2 is)
