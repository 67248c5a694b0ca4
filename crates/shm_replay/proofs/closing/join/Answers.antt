use Rattle.std.proofs.Common.{◌≡◌, ◌+◌, ◌^◌, ◌≤◌, Bool, true, cond, Option, refl, sym, ap, ◌∙◌, subst}
use Rattle.std.specs.{Prelude.{IfSome, IsSome}, Option.is_some}
use Rattle.shm_graph.specs.declared.memo.{Kind.TheVariants.{Recoverer, Client}, Memo.Memo}
use Rattle.shm_graph.specs.{declared.memo.Status.TheVariants.{Gone, Live}, Asks.call_before, Runs.MayBegin}
use Rattle.shm_count.specs.Roots.{member}
use Rattle.shm_recover.specs.declared.join.JoinState.{JoinState}
use Rattle.shm_recover.specs.Join.{JoinFits, JoinGives, is_start, join_control, join_fresh}
use Rattle.shm_plain.specs.{Calls.{Ran, TookSteps}, Pools.{IsOf, MayStep, memo_of, readied}}
use Rattle.shm_alone.proofs.Lasting.{Lasts}
use Rattle.shm_replay.proofs.{Enough.{answers_in_time, join_lasts}, SomeSteps.some_steps}
use Rattle.shm_replay.proofs.Visiting.{join_fits, join_in, join_part}
use Rattle.shm_replay.proofs.closing.join.Goals.{After-new, After-call, After-unwrap}
use Rattle.shm_replay.proofs.closing.join.Goals as goal

state : (c : After-new) → c.new.result ≡ join_fresh (member c.args.pool.now.start.geometry c.args.me.who)
state c = c.new.ensures.state ∙ ap join_fresh (λ i. record { geometry = c.requires.geometry i; who = c.args.me.who })

fit : (c : After-new) → let r : Memo = memo_of (readied c.args.pool.now c.args.me.who) c.args.me.who in JoinFits c.new.result r r (call_before (is_start c.new.result.point) r.call)
fit c =
    subst (λ (x : JoinState). let r : Memo = memo_of (readied c.args.pool.now c.args.me.who) c.args.me.who in JoinFits x r r (call_before (is_start x.point) r.call)) (sym (state c))
    (join_fits c.args.pool.now c.args.me.who c.geometry.ensures.run c.requires.who c.requires.out)

pub call-requires-clause-fits : goal.call-requires-clause-fits
call-requires-clause-fits c = (memo_of (readied c.args.pool.now c.args.me.who) c.args.me.who, fit (goal.at.call-requires-clause-fits c).After-new)

-- a client may begin
may : (c : After-call) → MayStep c.args.pool.now c.args.me.who
may c e = subst (λ (b : Bool). MayBegin (cond b Recoverer Client) (memo_of c.args.pool.now c.args.me.who)) (sym c.requires.out.whole) c.requires.out.status

-- it has answered, and so many word steps of its life went
enough : (c : After-call) → IsSome c.call.result × (c.args.life.now.left ≤ c.call.new.life.left + 2 ^ 38)
enough c =
    let at = (goal.at.After-call c).After-new in
    let p = c.args.pool.now in
    let who = c.args.me.who in
    let r0 : Memo = memo_of (readied p who) who in
    answers_in_time join_control JoinFits c.new.result
    (subst (λ (x : JoinState). Lasts join_control JoinFits x) (sym (state at)) (join_lasts (member p.start.geometry who)))
    who p c.call.new.self r0 (is_some c.call.result) c.args.life.now.left c.call.new.life.left c.geometry.ensures.run (may c)
    (subst (λ (x : JoinState). IsOf p who join_control x) (sym (state at)) (refl, c.requires.who, refl))
    (fit at) (ap (λ (x : JoinState). join_control.fresh x) (state at)) c.call.ensures.ran c.call.ensures.took c.call.ensures.spent c.requires.enough

-- its clauses, where it has answered
ran : (c : After-call) → Ran c.args.me.who true true c.args.pool.now c.call.new.self c.args.life.now.left c.call.new.life.left
ran c =
    let at = (goal.at.After-call c).After-new in
    subst (λ (b : Bool). Ran c.args.me.who b true c.args.pool.now c.call.new.self c.args.life.now.left c.call.new.life.left) (ap (λ (x : JoinState). join_control.fresh x) (state at))
    (subst (λ (b : Bool). Ran c.args.me.who (join_control.fresh c.new.result) b c.args.pool.now c.call.new.self c.args.life.now.left c.call.new.life.left) (enough c).0 c.call.ensures.ran)

pub unwrap-requires : goal.unwrap-requires
unwrap-requires c = (enough (goal.at.unwrap-requires c).After-call).0

-- where the call has ended
abbrev called : (c : After-unwrap) → After-call
called c = (goal.at.After-unwrap c).After-call

gives : (c : After-unwrap) → let r : Memo = memo_of c.call.new.self c.args.me.who in JoinGives (join_fresh (member c.args.pool.now.start.geometry c.args.me.who)) (memo_of (readied c.args.pool.now c.args.me.who) c.args.me.who) r r.call c.unwrap.result
gives c =
    let at = (goal.at.After-call (called c)).After-new in
    let r0 : Memo = memo_of (readied c.args.pool.now c.args.me.who) c.args.me.who in
    let r : Memo = memo_of c.call.new.self c.args.me.who in
    subst (λ (x : JoinState). JoinGives x r0 r r.call c.unwrap.result) (state at)
    (subst (λ (o : Option (Unit {0})). IfSome o (λ a. JoinGives c.new.result r0 r r.call a)) c.unwrap.ensures (c.call.ensures.gives r0 (fit at)))

pub returns-clause-whole : goal.returns-clause-whole
returns-clause-whole c =
    let call = called (goal.at.returns-clause-whole c).After-unwrap in
    let r = ran call in
    let took : TookSteps join_control c.args.me.who c.args.pool.now (join_fresh (member c.args.pool.now.start.geometry c.args.me.who)) c.call.new.self = subst (λ (x : JoinState). TookSteps join_control c.args.me.who c.args.pool.now x c.call.new.self) (state (goal.at.After-call call).After-new) (c.call.ensures.took (r.some refl)) in
    record {
      start = r.start;
      took = took;
      some = some_steps join_control c.args.me.who c.args.pool.now _ c.call.new.self c.args.life.now.left c.call.new.life.left refl r took;
      over = r.over refl;
      run = r.run;
    }

pub returns-clause-ran : goal.returns-clause-ran
returns-clause-ran c = ran (called (goal.at.returns-clause-ran c).After-unwrap)

pub returns-clause-rest : goal.returns-clause-rest
returns-clause-rest c = (enough (called (goal.at.returns-clause-rest c).After-unwrap)).1

pub returns-clause-here : goal.returns-clause-here
returns-clause-here c =
    let at = (goal.at.returns-clause-here c).After-unwrap in
    let g = gives at in
    join_in c.args.pool.now c.args.me.who c.geometry.ensures.run c.requires.who c.requires.out _ _ g ((ran (called at)).acts refl (λ x. let z : Live ≡ Gone = sym g.idle.live ∙ x in absurd (cc)))

pub returns-clause-part : goal.returns-clause-part
returns-clause-part c =
    let at = (goal.at.returns-clause-part c).After-unwrap in
    join_part c.args.pool.now c.args.me.who c.geometry.ensures.run c.requires.who c.requires.out _ _ (gives at)
