use Rattle.std.proofs.Common.{◌≡◌, ℕ, ◌^◌, ◌<◌, ◌≤◌, Bool, true, ◌++◌, length, refl, sym, ap, ◌∙◌, subst, arith, ◌+◌, Option}
use Rattle.std.specs.{Prelude.{Ok, IfSome, IsSome}, Option.is_some}
use Rattle.shm_graph.specs.{declared.memo.Memo.Memo, Agents.steps_made, Asks.call_before, Whole.fits_now}
use Rattle.plans.specs.{CallsControl.{calls_control, calls_of}, CallsFit.{CallsFits, CallsGives}}
use Rattle.shm_count.specs.Roots.{member}
use Rattle.shm_recover.specs.Recover.{Control.{recover_parts, recovering, recover_steered}, recover_plan}
use Rattle.shm_plain.specs.{Calls.{Ran, TookSteps}, Pools.{IsOf, memo_of, readied}}
use Rattle.shm_alone.proofs.Lasting.{Lasts}
use Rattle.shm_agents.specs.Work.{RecoverCalls}
use Rattle.shm_replay.proofs.Aside.{told_first}
use Rattle.shm_replay.proofs.Reviving.{may_begin, r0, revive_fits, revive_ok, revive_out, revive_table, still}
use Rattle.shm_replay.proofs.closing.recover.Goals.{After-new-2, After-call, After-unwrap, After-unwrap-2}
use Rattle.shm_replay.proofs.{Enough.{answers_in_time, recover_lasts}, SomeSteps.some_steps}
use Rattle.shm_replay.proofs.closing.recover.Goals as goal

abbrev machine : (c : After-new-2) → RecoverCalls
machine c = calls_of recover_steered (recovering (member c.args.pool.now.start.geometry c.args.me.who))

state : (c : After-new-2) → c.new-2.result ≡ machine c
state c = c.new-2.ensures ∙ ap (λ x. calls_of recover_steered x) (c.new.ensures.state ∙ ap recovering (λ i. record { geometry = c.requires.geometry i; who = c.args.me.who }))

abbrev start : (c : After-new-2) → Memo
start c = r0 c.args.pool.now c.args.me.who c.geometry.ensures.run c.requires.who c.requires.dead

fit : (c : After-new-2) → fits_now (calls_control recover_parts recover_steered) (CallsFits recover_parts recover_plan) c.new-2.result (start c) (memo_of (readied c.args.pool.now c.args.me.who) c.args.me.who)
fit c =
    let p = c.args.pool.now in
    subst (λ (x : RecoverCalls). fits_now (calls_control recover_parts recover_steered) (CallsFits recover_parts recover_plan) x (start c) (memo_of (readied p c.args.me.who) c.args.me.who)) (sym (state c))
    (revive_fits p c.args.me.who c.geometry.ensures.run c.requires.who c.requires.dead)

pub call-requires-clause-agent : goal.call-requires-clause-agent
call-requires-clause-agent c = may_begin c.args.pool.now c.args.me.who c.geometry.ensures.run c.requires.who c.requires.dead

pub call-requires-clause-fits : goal.call-requires-clause-fits
call-requires-clause-fits c = let at = (goal.at.call-requires-clause-fits c).After-new-2 in (start at, fit at)

-- it has answered, and so many word steps of its life went
enough : (c : After-call) → IsSome c.call.result × (c.args.life.now.left ≤ c.call.new.life.left + 2 ^ 38)
enough c =
    let at = (goal.at.After-call c).After-new-2 in
    let p = c.args.pool.now in
    let who = c.args.me.who in
    answers_in_time (calls_control recover_parts recover_steered) (CallsFits recover_parts recover_plan) c.new-2.result
    (subst (λ (x : RecoverCalls). Lasts (calls_control recover_parts recover_steered) (CallsFits recover_parts recover_plan) x) (sym (state at)) (recover_lasts (member p.start.geometry who)))
    who p c.call.new.self (start at) (is_some c.call.result) c.args.life.now.left c.call.new.life.left c.geometry.ensures.run (may_begin p who c.geometry.ensures.run c.requires.who c.requires.dead)
    (subst (λ (x : RecoverCalls). IsOf p who (calls_control recover_parts recover_steered) x) (sym (state at)) (refl, c.requires.who, refl))
    (fit at) (ap (λ (x : RecoverCalls). (calls_control recover_parts recover_steered).fresh x) (state at)) c.call.ensures.ran c.call.ensures.took c.call.ensures.spent c.requires.enough

-- its clauses, where it has answered
ran : (c : After-call) → Ran c.args.me.who true true c.args.pool.now c.call.new.self c.args.life.now.left c.call.new.life.left
ran c =
    let at = (goal.at.After-call c).After-new-2 in
    subst (λ (b : Bool). Ran c.args.me.who b true c.args.pool.now c.call.new.self c.args.life.now.left c.call.new.life.left) (ap (λ (x : RecoverCalls). (calls_control recover_parts recover_steered).fresh x) (state at))
    (subst (λ (b : Bool). Ran c.args.me.who ((calls_control recover_parts recover_steered).fresh c.new-2.result) b c.args.pool.now c.call.new.self c.args.life.now.left c.call.new.life.left) (enough c).0 c.call.ensures.ran)

-- where the machine was made
abbrev new : (c : After-unwrap) → After-new-2
new c = (goal.at.After-call (goal.at.After-unwrap c).After-call).After-new-2

gives : (c : After-unwrap) → let r : Memo = memo_of c.call.new.self c.args.me.who in CallsGives recover_parts recover_plan (machine (new c)) (start (new c)) r r.call c.unwrap.result
gives c =
    let at = new c in
    let r : Memo = memo_of c.call.new.self c.args.me.who in
    subst (λ (x : RecoverCalls). CallsGives recover_parts recover_plan x (start at) r r.call c.unwrap.result) (state at)
    (subst (λ (o : Option _). IfSome o (λ a. CallsGives recover_parts recover_plan c.new-2.result (start at) r r.call a)) c.unwrap.ensures (c.call.ensures.gives (start at) (fit at)))

few : (c : After-call) → steps_made (memo_of c.call.new.self c.args.me.who) ≤ 2 ^ 42
few c = let made = c.call.ensures.ran.made in let most = c.requires.dead.few in let life = c.requires.life in omega arith

pub unwrap-requires : goal.unwrap-requires
unwrap-requires c = (enough (goal.at.unwrap-requires c).After-call).0

pub unwrap-requires-2 : goal.unwrap-requires-2
unwrap-requires-2 c =
    let at = (goal.at.unwrap-requires-2 c).After-unwrap in
    let most = few (goal.at.After-unwrap at).After-call in
    revive_ok c.args.pool.now c.args.me.who c.geometry.ensures.run c.requires.who c.requires.dead c.call.new.self c.call.ensures.ran.start c.call.ensures.ran.run c.requires.era (omega arith) _ _
    c.unwrap.result (gives at).leaves

-- what it gives, by what it answered
left : (c : After-unwrap-2) → let at = new (goal.at.After-unwrap-2 c).After-unwrap in let r : Memo = memo_of c.call.new.self c.args.me.who in CallsGives recover_parts recover_plan (machine at) (start at) r r.call (Ok c.unwrap-2.result)
left c =
    let at = (goal.at.After-unwrap-2 c).After-unwrap in
    let r : Memo = memo_of c.call.new.self c.args.me.who in
    subst (CallsGives recover_parts recover_plan (machine (new at)) (start (new at)) r r.call) c.unwrap-2.ensures (gives at)

-- where the call has ended
abbrev called : (c : After-unwrap-2) → After-call
called c = (goal.at.After-unwrap (goal.at.After-unwrap-2 c).After-unwrap).After-call

pub returns-clause-whole : goal.returns-clause-whole
returns-clause-whole c =
    let call = called (goal.at.returns-clause-whole c).After-unwrap-2 in
    let r = ran call in
    let took : TookSteps (calls_control recover_parts recover_steered) c.args.me.who c.args.pool.now (machine (goal.at.After-call call).After-new-2) c.call.new.self = subst (λ (x : RecoverCalls). TookSteps (calls_control recover_parts recover_steered) c.args.me.who c.args.pool.now x c.call.new.self) (state (goal.at.After-call call).After-new-2) (c.call.ensures.took (r.some refl)) in
    record {
      start = r.start;
      took = took;
      some = some_steps (calls_control recover_parts recover_steered) c.args.me.who c.args.pool.now _ c.call.new.self c.args.life.now.left c.call.new.life.left refl r took;
      over = r.over refl;
      run = r.run;
    }

pub returns-clause-ran : goal.returns-clause-ran
returns-clause-ran c = ran (called (goal.at.returns-clause-ran c).After-unwrap-2)

pub returns-clause-out : goal.returns-clause-out
returns-clause-out c =
    let at = (goal.at.returns-clause-out c).After-unwrap-2 in
    let r = ran (called at) in
    let most = few (called at) in
    revive_out c.args.pool.now c.args.me.who c.geometry.ensures.run c.requires.who c.requires.dead c.call.new.self r.start r.run c.requires.era (omega arith) _ _
    c.unwrap-2.result (left at).leaves (r.gone refl) most

pub returns-clause-table : goal.returns-clause-table
returns-clause-table c =
    revive_table c.args.pool.now c.args.me.who c.geometry.ensures.run c.requires.who c.requires.dead _ _ _ c.unwrap-2.result (left (goal.at.returns-clause-table c).After-unwrap-2).leaves

-- the recoverer made a word step, and its first one told the line of the dead agent
pub returns-clause-told : goal.returns-clause-told
returns-clause-told c =
    let call = called (goal.at.returns-clause-told c).After-unwrap-2 in
    let made = (goal.at.After-call call).After-new-2 in
    let p = c.args.pool.now in
    let who = c.args.me.who in
    let r = ran call in
    let fresh : (calls_control recover_parts recover_steered).fresh c.new-2.result ≡ true = ap (λ (x : RecoverCalls). (calls_control recover_parts recover_steered).fresh x) (state made) in
    let took = c.call.ensures.took (r.some refl) in
    let many : length took.trail ≡ length (memo_of c.call.new.self who).call = sym (ap length (took.call ∙ ap (λ (b : Bool). call_before b (memo_of (readied p who) who).call ++ took.trail) fresh)) in
    let spent = r.spent (r.some refl) refl in
    let less = r.less refl in
    told_first (calls_control recover_parts recover_steered) who p c.new-2.result c.call.new.self c.geometry.ensures.run r.run r.start
    (subst (λ (n : ℕ). who < n) (sym c.geometry.ensures.run.held.accounts) c.requires.who)
    (still p who c.geometry.ensures.run c.requires.who c.requires.dead)
    (ap (λ (x : RecoverCalls). ((calls_control recover_parts recover_steered).me x).who) (state made)) fresh took.trail (omega arith) took.grew
