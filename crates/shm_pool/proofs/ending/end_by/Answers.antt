use Rattle.std.proofs.Common.{◌≡◌, false, refl, ap, sym, ◌∙◌, subst, inr}
use Rattle.std.specs.Prelude.{Ok}
use Rattle.atomic_table.specs.Seated.{TableId}
use Rattle.shm_graph.specs.{declared.{memo.{Memo.Memo, Status.TheVariants.Gone}, run.Start.Start}, Agents.acts}
use Rattle.shm_graph.specs.{Runs.Stood, Whole.gives_now}
use Rattle.shm_pool.specs.{declared.{token.Cause.Cause, reply.Reply.TheVariants.Done}, Rules.alone}
use Rattle.shm_pool.specs.{Tokens.{Its, Token, its, token_of}, Endings.{Answer, HasStopped}}
use Rattle.shm_pool.proofs.{Calling.acts_leave, Driving.asked, Seating.seated_on, ending.end_by.Given.Over}
use Rattle.shm_pool.proofs.ending.end_by.Goals.{In-Some-Ok}
use Rattle.shm_pool.proofs.ending.end_by.Goals as goal

gave_ok : (g : Over) (c : In-Some-Ok g) → gives_now g.M.Machine.gives c.args.m.now (alone c.args.place).memo (alone c.run_place.new.place).memo (Ok tt)
gave_ok g c = subst (λ (a : Answer). gives_now g.M.Machine.gives c.args.m.now (alone c.args.place).memo (alone c.run_place.new.place).memo a) c.in-Some-Ok.field-0-is c.in-Some-Ok.ensures.gives

left_gone : (g : Over) (c : In-Some-Ok g) → (alone c.run_place.new.place).memo.status ≡ Gone
left_gone g c = c.requires.leaves.ok (alone c.run_place.new.place).memo (gave_ok g c)

pub invariant_of-result : goal.invariant_of-result
invariant_of-result g c =
    let r : Memo = (alone c.run_place.new.place).memo in
    let gone = left_gone g c in
    let made : c.top.result.now.key ≡ c.args.start = c.top.ensures.1 ∙ sym (ap (λ (n : Its). n.start) c.requires.pool) in
    let still : acts r ≡ false = acts_leave r gone c.in-Some-Ok.ensures.acts in (
      seated_on c.args.start c.args.who c.args.place c.run_place.new.place c.requires.seated c.in-Some-Ok.ensures.place.2 c.in-Some-Ok.ensures.who (subst (λ (z : Start). Stood z (alone c.run_place.new.place)) made c.in-Some-Ok.ensures.stood),
      (inr gone, still),
    )

pub returns-in-Some-Ok-clause-ended : goal.returns-in-Some-Ok-clause-ended
returns-in-Some-Ok-clause-ended g c =
    let e = c.in-Some-Ok.ensures in
    record {
      same = (ap (λ (z : TableId). its z c.args.start) e.place.0 ∙ c.requires.pool, e.who);
      gone = left_gone g c;
      answered = record {
        call = e.call.call;
        machine = c.run_place.new.m;
        driven = e.call.driven;
        asked = λ first. asked g.M.Machine.control g.M.Machine.fits c.args.m.now c.run_place.new.m (alone c.args.place) (alone c.run_place.new.place) c.args.life.now.left c.run_place.new.life.left (Done (Ok tt)) first e.call;
        gave = gave_ok g c;
        told = e.told;
      };
    }

pub returns-in-Some-Err-clause-stopped : goal.returns-in-Some-Err-clause-stopped
returns-in-Some-Err-clause-stopped g c =
    let M = g.M.Machine in
    let e = c.in-Some-Err.ensures in
    let stopped : Cause → Token → Type 0 = HasStopped M.control M.fits (gives_now M.gives) c.args.m.now c.args.pool.now (alone c.args.place) c.args.life.now.left c.run_place.new.life.left in
    subst (λ (t : Token). stopped c.stop.result.cause t) (sym c.stop.ensures.0)
    (subst (λ (x : Cause). stopped x (token_of c.args.start c.run_place.new.place)) (sym c.stop.ensures.1)
    (record {
      same = (ap (λ (z : TableId). its z c.args.start) e.place.0 ∙ c.requires.pool, e.who);
      by = record {
        call = e.call.call;
        machine = c.run_place.new.m;
        driven = e.call.driven;
        asked = λ first. asked M.control M.fits c.args.m.now c.run_place.new.m (alone c.args.place) (alone c.run_place.new.place) c.args.life.now.left c.run_place.new.life.left (Done (Ok tt)) first e.call;
        gave = subst (λ (a : Answer). gives_now M.gives c.args.m.now (alone c.args.place).memo (alone c.run_place.new.place).memo a) c.in-Some-Err.field-0-is e.gives;
        told = e.told;
      };
    }))

pub returns-in-None-clause-stopped : goal.returns-in-None-clause-stopped
returns-in-None-clause-stopped g c =
    let M = g.M.Machine in
    let e = c.in-None.ensures in
    let stopped : Cause → Token → Type 0 = HasStopped M.control M.fits (gives_now M.gives) c.args.m.now c.args.pool.now (alone c.args.place) c.args.life.now.left c.run_place.new.life.left in
    subst (λ (t : Token). stopped c.stop-in-None.result.cause t) (sym c.stop-in-None.ensures.0)
    (subst (λ (x : Cause). stopped x (token_of c.args.start c.run_place.new.place)) (sym c.stop-in-None.ensures.1)
    (record {
      same = (ap (λ (z : TableId). its z c.args.start) e.place.0 ∙ c.requires.pool, e.who);
      by = record { call = e.call.call; machine = c.run_place.new.m; driven = e.call.driven; spent = e.spent refl };
    }))
