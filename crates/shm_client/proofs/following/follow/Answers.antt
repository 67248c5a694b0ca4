use Rattle.std.proofs.Common.{sym, ap, ◌∙◌, subst}
use Rattle.std.specs.{Prelude.IfSome, Option.is_some}
use Rattle.shm_graph.specs.{Tells.happens_along, Whole.{fits_now, gives_now}}
use Rattle.plans.specs.{CallsControl.calls_control, CallsFit.{CallsFits, CallsGives}}
use Rattle.shm_plain.specs.{Pools.{IsOf, memo_of, readied}, Calls.{Did, Ran, TookSteps}}
use Rattle.shm_client.proofs.following.follow.Goals as goal

pub call-requires-clause-me : goal.call-requires-clause-me
call-requires-clause-me g c = subst (λ m. IsOf c.args.pool.now c.args.who (calls_control g.P.Call.Machine.control g.P.Plan.plan.steered) m) (sym c.new.ensures) c.requires.me

pub call-requires-clause-fits : goal.call-requires-clause-fits
call-requires-clause-fits g c =
    let k = g.P.Call.Machine.control in
    let q = g.P.Plan.plan in
    let (r0, fit) = c.requires.fits in
    (r0, subst (λ m. fits_now (calls_control k q.steered) (CallsFits k q) m r0 (memo_of (readied c.args.pool.now c.args.who) c.args.who)) (sym c.new.ensures) fit)

pub returns : goal.returns
returns g c =
    let k = g.P.Call.Machine.control in
    let q = g.P.Plan.plan in
    let who = c.args.who in
    let p = c.args.pool.now in
    let after = c.call.new.self in
    let call = c.call.ensures in
    record {
      gives = λ r0 fit. subst (λ m. IfSome c.call.result (λ a. gives_now (CallsGives k q) m r0 (memo_of after who) a)) c.new.ensures
          (call.gives r0 (subst (λ m. fits_now (calls_control k q.steered) (CallsFits k q) m r0 (memo_of (readied p who) who)) (sym c.new.ensures) fit));
      cut = λ none.
          let h = call.cut none in
          (c.call.new.m, h.0, λ r0 fit. h.1 r0 (subst (λ m. fits_now (calls_control k q.steered) (CallsFits k q) m r0 (memo_of (readied p who) who)) (sym c.new.ensures) fit));
      ran = subst (λ m. Ran who ((calls_control k q.steered).fresh m) (is_some c.call.result) p after c.args.life.now.left c.call.new.life.left) c.new.ensures call.ran;
      spent = λ some fresh. call.spent some (ap (calls_control k q.steered).fresh c.new.ensures ∙ fresh);
      took = λ some. subst (λ m. TookSteps (calls_control k q.steered) who p m after) c.new.ensures (call.took some);
      events = λ some fresh does tells. subst (λ m. Did who p after (happens_along (calls_control k q.steered) does m (memo_of after who).call)) c.new.ensures (call.events some (ap (calls_control k q.steered).fresh c.new.ensures ∙ fresh) does tells);
    }
