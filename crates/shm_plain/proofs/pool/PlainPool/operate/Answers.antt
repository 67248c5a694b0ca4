use Rattle.std.proofs.Common.{subst, refl}
use Rattle.shm_graph.specs.{declared.ask.Me.Me, Idle.IsIdle, Tells.happens_along}
use Rattle.shm_plain.specs.{Pools.memo_of, Calls.Did}
use Rattle.shm_plain.proofs.Called.{Answered, answered, call_fits, fits_first, ready}
use Rattle.shm_plain.proofs.pool.PlainPool.operate.Goals.{After-call}
use Rattle.shm_plain.proofs.pool.PlainPool.operate.Goals as goal

pub call-requires-clause-fits : goal.call-requires-clause-fits
call-requires-clause-fits g c =
    let k = g.O.Machine.control in
    let l = g.met.O.Operation.operates in
    let p = c.args.self.now in
    let r = memo_of p c.args.who in
    let work = c.requires.at_work in
    let is = ready p c.args.who c.geometry.ensures.run work (k.me c.args.operation) c.requires.me in
    call_fits k g.O.Machine.fits g.O.Machine.gives c.args.who p work.geometry work.who work.acts c.args.operation (l.fresh c.args.operation r c.requires.may) (l.begins c.args.operation r is c.requires.may) c.args.operation refl

-- what the call leaves
done : (g : _) (c : After-call g) → Answered g.O.Machine.control g.O.Machine.gives g.O.Operation.does c.args.who c.args.self.now c.args.operation c.call.new.self c.args.life.now.left c.call.new.life.left c.call.result
done g c =
    let k = g.O.Machine.control in
    let l = g.met.O.Operation.operates in
    let p = c.args.self.now in
    let r = memo_of p c.args.who in
    let work = c.requires.at_work in
    let is = ready p c.args.who c.geometry.ensures.run work (k.me c.args.operation) c.requires.me in
    answered k g.O.Machine.fits g.O.Machine.gives c.args.who p work.geometry work.who work.acts c.args.operation (l.fresh c.args.operation r c.requires.may) (l.begins c.args.operation r is c.requires.may) c.args.operation refl
    c.call.new.self c.args.life.now.left c.call.new.life.left c.call.result (record { gave = c.call.ensures.gives; ran = c.call.ensures.ran; took = c.call.ensures.took; events = c.call.ensures.events })
    g.O.Operation.does l.tells

pub returns-clause-leaves : goal.returns-clause-leaves
returns-clause-leaves g c =
    let k = g.O.Machine.control in
    let l = g.met.O.Operation.operates in
    let p = c.args.self.now in
    let r0 = memo_of p c.args.who in
    let r = memo_of c.call.new.self c.args.who in
    let is = ready p c.args.who c.geometry.ensures.run c.requires.at_work (k.me c.args.operation) c.requires.me in
    (done g (goal.at.returns-clause-leaves g c).After-call).told (λ a. let es = happens_along k g.O.Operation.does c.args.operation r.call in Did c.args.who p c.call.new.self es × g.O.Operation.leaves c.args.operation r0 r r.call es a)
    (λ a h d. (d, l.leads c.args.operation r0 r r.call a is c.requires.may h))

pub returns-clause-gives : goal.returns-clause-gives
returns-clause-gives g c = (done g (goal.at.returns-clause-gives g c).After-call).gives

pub returns-clause-at_work : goal.returns-clause-at_work
returns-clause-at_work g c =
    let k = g.O.Machine.control in
    let l = g.met.O.Operation.operates in
    let p = c.args.self.now in
    let r0 = memo_of p c.args.who in
    let r = memo_of c.call.new.self c.args.who in
    let is = ready p c.args.who c.geometry.ensures.run c.requires.at_work (k.me c.args.operation) c.requires.me in
    let es = happens_along k g.O.Operation.does c.args.operation r.call in
    (done g (goal.at.returns-clause-at_work g c).After-call).rests (λ a. g.O.Operation.rests c.args.operation a)
    (λ a h e. subst (λ (x : Me). IsIdle x.who r) c.requires.me (l.rests c.args.operation r0 r r.call es a is c.requires.may (l.leads c.args.operation r0 r r.call a is c.requires.may h) e))

pub returns-clause-cut : goal.returns-clause-cut
returns-clause-cut g c = λ none.
    let k = g.O.Machine.control in
    let l = g.met.O.Operation.operates in
    let p = c.args.self.now in
    let r = memo_of p c.args.who in
    let work = c.requires.at_work in
    let is = ready p c.args.who c.geometry.ensures.run work (k.me c.args.operation) c.requires.me in
    let fit = fits_first k g.O.Machine.fits g.O.Machine.gives c.args.who p work.geometry work.who work.acts c.args.operation (l.fresh c.args.operation r c.requires.may) (l.begins c.args.operation r is c.requires.may) c.args.operation refl in
    let h = c.call.ensures.cut none in
    (c.call.new.m, h.0, h.1 r fit)

pub returns-clause-told : goal.returns-clause-told
returns-clause-told g c = (done g (goal.at.returns-clause-told g c).After-call).events
