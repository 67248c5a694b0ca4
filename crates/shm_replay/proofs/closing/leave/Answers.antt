use Rattle.std.proofs.Common.{◌≡◌, ◌^◌, ◌≤◌, refl, sym, ap, ◌∙◌, subst, arith, ◌+◌, Bool, true, Option}
use Rattle.std.specs.{Prelude.{Ok, IfSome, IsSome}, Option.is_some}
use Rattle.shm_graph.specs.{declared.memo.Memo.Memo, Agents.steps_made, Whole.fits_now}
use Rattle.plans.specs.{declared.calls.Calls.Calls, CallsControl.{calls_control, calls_of}}
use Rattle.plans.specs.CallsFit.{CallsFits, CallsGives}
use Rattle.shm_count.specs.Roots.{member}
use Rattle.shm_recover.specs.declared.leave.LeaveState.{LeaveState}
use Rattle.shm_recover.specs.Leave.{Control.{LeaveCall, leave_parts, leaving, leave_steered}, leave_plan}
use Rattle.shm_plain.specs.{Calls.{Ran, TookSteps}, Pools.{IsOf, memo_of, readied}}
use Rattle.shm_plain.proofs.Calling.{fits_acting, may_acting}
use Rattle.shm_alone.proofs.Lasting.{Lasts}
use Rattle.shm_replay.proofs.Visiting.{leave_fits, leave_ok}
use Rattle.shm_replay.proofs.closing.leave.Goals.{After-new-2, After-call, After-unwrap, After-unwrap-2}
use Rattle.shm_replay.proofs.{Enough.{answers_in_time, leave_lasts}, SomeSteps.some_steps}
use Rattle.shm_replay.proofs.closing.leave.Goals as goal

abbrev Machine : Type 0
Machine = Calls LeaveState LeaveCall

abbrev machine : (c : After-new-2) → Machine
machine c = calls_of leave_steered (leaving (member c.args.pool.now.start.geometry c.args.me.who))

state : (c : After-new-2) → c.new-2.result ≡ machine c
state c = c.new-2.ensures ∙ ap (λ x. calls_of leave_steered x) (c.new.ensures ∙ ap leaving (λ i. record { geometry = c.requires.geometry i; who = c.args.me.who }))

fit : (c : After-new-2) → let r : Memo = memo_of c.args.pool.now c.args.me.who in fits_now (calls_control leave_parts leave_steered) (CallsFits leave_parts leave_plan) c.new-2.result r (memo_of (readied c.args.pool.now c.args.me.who) c.args.me.who)
fit c =
    let p = c.args.pool.now in
    let r : Memo = memo_of p c.args.me.who in
    subst (λ (x : Machine). fits_now (calls_control leave_parts leave_steered) (CallsFits leave_parts leave_plan) x r (memo_of (readied p c.args.me.who) c.args.me.who)) (sym (state c))
    (fits_acting (calls_control leave_parts leave_steered) (CallsFits leave_parts leave_plan) (CallsGives leave_parts leave_plan) c.args.me.who p (machine c) c.requires.here.acts refl (leave_fits p c.args.me.who c.geometry.ensures.run c.requires.who c.requires.here))

pub call-requires-clause-fits : goal.call-requires-clause-fits
call-requires-clause-fits c = (memo_of c.args.pool.now c.args.me.who, fit (goal.at.call-requires-clause-fits c).After-new-2)

-- it has answered, and so many word steps of its life went
enough : (c : After-call) → IsSome c.call.result × (c.args.life.now.left ≤ c.call.new.life.left + 2 ^ 38)
enough c =
    let at = (goal.at.After-call c).After-new-2 in
    let p = c.args.pool.now in
    let who = c.args.me.who in
    answers_in_time (calls_control leave_parts leave_steered) (CallsFits leave_parts leave_plan) c.new-2.result
    (subst (λ (x : Machine). Lasts (calls_control leave_parts leave_steered) (CallsFits leave_parts leave_plan) x) (sym (state at)) (leave_lasts (member p.start.geometry who)))
    who p c.call.new.self (memo_of p who) (is_some c.call.result) c.args.life.now.left c.call.new.life.left c.geometry.ensures.run (may_acting p who c.requires.here.acts)
    (subst (λ (x : Machine). IsOf p who (calls_control leave_parts leave_steered) x) (sym (state at)) (refl, c.requires.who, refl))
    (fit at) (ap (λ (x : Machine). (calls_control leave_parts leave_steered).fresh x) (state at)) c.call.ensures.ran c.call.ensures.took c.call.ensures.spent c.requires.enough

-- its clauses, where it has answered
ran : (c : After-call) → Ran c.args.me.who true true c.args.pool.now c.call.new.self c.args.life.now.left c.call.new.life.left
ran c =
    let at = (goal.at.After-call c).After-new-2 in
    subst (λ (b : Bool). Ran c.args.me.who b true c.args.pool.now c.call.new.self c.args.life.now.left c.call.new.life.left) (ap (λ (x : Machine). (calls_control leave_parts leave_steered).fresh x) (state at))
    (subst (λ (b : Bool). Ran c.args.me.who ((calls_control leave_parts leave_steered).fresh c.new-2.result) b c.args.pool.now c.call.new.self c.args.life.now.left c.call.new.life.left) (enough c).0 c.call.ensures.ran)

-- where the machine was made
abbrev new : (c : After-unwrap) → After-new-2
new c = (goal.at.After-call (goal.at.After-unwrap c).After-call).After-new-2

gives : (c : After-unwrap) → let r : Memo = memo_of c.call.new.self c.args.me.who in CallsGives leave_parts leave_plan (machine (new c)) (memo_of c.args.pool.now c.args.me.who) r r.call c.unwrap.result
gives c =
    let at = new c in
    let r : Memo = memo_of c.call.new.self c.args.me.who in
    subst (λ (x : Machine). CallsGives leave_parts leave_plan x (memo_of c.args.pool.now c.args.me.who) r r.call c.unwrap.result) (state at)
    (subst (λ (o : Option _). IfSome o (λ a. CallsGives leave_parts leave_plan c.new-2.result (memo_of c.args.pool.now c.args.me.who) r r.call a)) c.unwrap.ensures (c.call.ensures.gives (memo_of c.args.pool.now c.args.me.who) (fit at)))

few : (c : After-call) → steps_made (memo_of c.call.new.self c.args.me.who) ≤ 2 ^ 43
few c = let made = c.call.ensures.ran.made in let most = c.requires.few in omega arith

pub unwrap-requires : goal.unwrap-requires
unwrap-requires c = (enough (goal.at.unwrap-requires c).After-call).0

pub unwrap-requires-2 : goal.unwrap-requires-2
unwrap-requires-2 c =
    leave_ok c.args.pool.now c.args.me.who c.geometry.ensures.run c.requires.who c.requires.here c.call.new.self c.call.ensures.ran.start c.call.ensures.ran.run c.requires.era (few (goal.at.After-unwrap (goal.at.unwrap-requires-2 c).After-unwrap).After-call) _ _
    c.unwrap.result (gives (goal.at.unwrap-requires-2 c).After-unwrap).leaves

-- what it gives, by what it answered
gave : (c : After-unwrap-2) → let r : Memo = memo_of c.call.new.self c.args.me.who in CallsGives leave_parts leave_plan (machine (new (goal.at.After-unwrap-2 c).After-unwrap)) (memo_of c.args.pool.now c.args.me.who) r r.call (Ok c.unwrap-2.result)
gave c =
    let at = (goal.at.After-unwrap-2 c).After-unwrap in
    let r : Memo = memo_of c.call.new.self c.args.me.who in
    subst (CallsGives leave_parts leave_plan (machine (new at)) (memo_of c.args.pool.now c.args.me.who) r r.call) c.unwrap-2.ensures (gives at)

-- where the call has ended
abbrev called : (c : After-unwrap-2) → After-call
called c = (goal.at.After-unwrap (goal.at.After-unwrap-2 c).After-unwrap).After-call

pub returns-clause-whole : goal.returns-clause-whole
returns-clause-whole c =
    let call = called (goal.at.returns-clause-whole c).After-unwrap-2 in
    let r = ran call in
    let took : TookSteps (calls_control leave_parts leave_steered) c.args.me.who c.args.pool.now (machine (goal.at.After-call call).After-new-2) c.call.new.self = subst (λ (x : Machine). TookSteps (calls_control leave_parts leave_steered) c.args.me.who c.args.pool.now x c.call.new.self) (state (goal.at.After-call call).After-new-2) (c.call.ensures.took (r.some refl)) in
    record {
      start = r.start;
      took = took;
      some = some_steps (calls_control leave_parts leave_steered) c.args.me.who c.args.pool.now _ c.call.new.self c.args.life.now.left c.call.new.life.left refl r took;
      over = r.over refl;
      run = r.run;
    }

pub returns-clause-ran : goal.returns-clause-ran
returns-clause-ran c = ran (called (goal.at.returns-clause-ran c).After-unwrap-2)

pub returns-clause-gone : goal.returns-clause-gone
returns-clause-gone c = (gave (goal.at.returns-clause-gone c).After-unwrap-2).leaves.status

pub returns-clause-part : goal.returns-clause-part
returns-clause-part c = (gave (goal.at.returns-clause-part c).After-unwrap-2).leaves.part
