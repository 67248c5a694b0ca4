use Rattle.std.proofs.Common.{◌≡◌, ◌<◌, refl, sym, ap, ◌∙◌, subst, List, length}
use Rattle.std.specs.Prelude.{IfSome}
use Rattle.shm_words.specs.declared.geometry.Geometry.{Geometry}
use Rattle.shm_graph.specs.declared.{ask.Me.Me, memo.{Kind.TheVariants.Recoverer, Memo.Memo}}
use Rattle.shm_graph.specs.{Agents.{died, entered, recovers}, Asks.call_before, Events.Event}
use Rattle.shm_graph.proofs.Memos.MemoSteps.{recovers-entered}
use Rattle.shm_plain.specs.{Pools.{MayStep, Pool, after_fall, memo_of, readied}, Calls.Did}
use Rattle.shm_plain.proofs.Called.{Called}
use Rattle.plans.specs.{CallsControl.{calls_control, calls_of}, CallsFit.{CallsFits, CallsGives}}
use Rattle.shm_count.specs.Roots.{member}
use Rattle.shm_recover.specs.{declared.mend.MendState.MendState, Mend.Control.{mend_parts, mending, mend_steered}}
use Rattle.shm_recover.specs.Mend.{IsMended, MayMend, mend_plan}
use Rattle.shm_client.proofs.Falling.{fits_then, may_recover, mend_answer, recovers_then}
use Rattle.shm_client.specs.Following.{IsFollower}
use Rattle.shm_client.proofs.mending.mend_fallen.Goals.{After-new-2}
use Rattle.shm_client.proofs.mending.mend_fallen.Goals as goal

-- the machine makes the calls of the plan
made : (c : After-new-2) → c.new-2.result ≡ mending (member c.args.pool.now.start.geometry c.args.who)
made c =
    let g = c.new.ensures.geometry ∙ c.geometry-geometry.ensures.is in
    let me : c.new.result ≡ member c.args.pool.now.start.geometry c.args.who = (λ i. record { geometry = g i; who = c.new.ensures.who i }) in
    c.new-2.ensures ∙ ap (λ (x : Me). mending x) me

state : (c : After-new-2) → calls_of mend_steered c.new-2.result ≡ calls_of mend_steered (mending (member c.args.pool.now.start.geometry c.args.who))
state c = ap (λ (x : MendState). calls_of mend_steered x) (made c)

-- the identity has an account, before its agent fell and after it
there : (c : After-new-2) → c.args.who < length c.args.pool.now.accounts
there c = subst (λ n. c.args.who < n) (sym c.geometry-geometry.ensures.run.held.accounts) c.requires.who

there_then : (c : After-new-2) → c.args.who < length (after_fall c.args.pool.now c.args.who).accounts
there_then c =
    subst (λ (p : Pool). c.args.who < length p.accounts) c.fall.ensures.fallen
    (subst (λ n. c.args.who < n) (sym c.fall.ensures.run.held.accounts) (subst (λ (p : Pool). c.args.who < p.start.geometry.clients) (sym c.fall.ensures.fallen) c.requires.who))

-- its memo is that of a recoverer
ready : (c : After-new-2) → memo_of (readied c.fall.new.self c.args.who) c.args.who ≡ entered Recoverer (died (memo_of c.args.pool.now c.args.who))
ready c =
    ap (λ (p : Pool). memo_of (readied p c.args.who) c.args.who) c.fall.ensures.fallen
    ∙ recovers_then c.args.pool.now c.args.who (there c) c.requires.acts (there_then c)

may : (c : After-new-2) → MayMend (member c.args.pool.now.start.geometry c.args.who) (memo_of (readied c.fall.new.self c.args.who) c.args.who)
may c =
    record {
      geometry = c.requires.geometry;
      who = c.requires.who;
      recoverer = ap recovers (ready c) ∙ recovers-entered Recoverer (died (memo_of c.args.pool.now c.args.who));
    }

pub follow-requires-clause-me : goal.follow-requires-clause-me
follow-requires-clause-me c =
    let at = (goal.at.follow-requires-clause-me c).After-new-2 in
    let p : Pool = c.fall.new.self in
    let same : p.start.geometry ≡ c.args.pool.now.start.geometry = ap (λ (z : Pool). z.start.geometry) c.fall.ensures.fallen in
    subst (λ (x : MendState). IsFollower mend_parts mend_plan x c.args.who p) (sym (made at))
    (subst (λ (g : Geometry). member c.args.pool.now.start.geometry c.args.who ≡ member g c.args.who) (sym same) refl, subst (λ (g : Geometry). c.args.who < g.clients) (sym same) c.requires.who, refl)

pub follow-requires-clause-agent : goal.follow-requires-clause-agent
follow-requires-clause-agent c =
    let at = (goal.at.follow-requires-clause-agent c).After-new-2 in
    subst (λ (p : Pool). MayStep p c.args.who) (sym c.fall.ensures.fallen) (may_recover c.args.pool.now c.args.who (there at) c.requires.acts)

pub follow-requires-clause-fits : goal.follow-requires-clause-fits
follow-requires-clause-fits c =
    let at = (goal.at.follow-requires-clause-fits c).After-new-2 in
    let k = calls_control mend_parts mend_steered in
    let r : Memo = memo_of (readied c.fall.new.self c.args.who) c.args.who in
    (r, subst (λ x. CallsFits mend_parts mend_plan x r r (call_before (k.fresh x) r.call)) (sym (state at)) (fits_then c.fall.new.self c.fall.new.self c.args.who (member c.args.pool.now.start.geometry c.args.who) 0 0 (may at)))

pub returns-clause-mended : goal.returns-clause-mended
returns-clause-mended c =
    let at = (goal.at.returns-clause-mended c).After-new-2 in
    let p : Pool = c.fall.new.self in
    let q : Pool = c.follow.new.pool in
    let me : Me = member c.args.pool.now.start.geometry c.args.who in
    let said : Called (calls_control mend_parts mend_steered) (CallsFits mend_parts mend_plan) (CallsGives mend_parts mend_plan) c.args.who p (calls_of mend_steered c.new-2.result) q c.args.life.now.left c.follow.new.life.left c.follow.result =
    record { gave = c.follow.ensures.gives; ran = c.follow.ensures.ran; took = c.follow.ensures.took; events = c.follow.ensures.events } in
    let call = subst (λ x. Called (calls_control mend_parts mend_steered) (CallsFits mend_parts mend_plan) (CallsGives mend_parts mend_plan) c.args.who p x q c.args.life.now.left c.follow.new.life.left c.follow.result) (state at) said in
    subst (λ (z : Pool). IfSome c.follow.result (λ a. (es : List Event) × Did c.args.who z q es × IsMended me (entered Recoverer (died (memo_of c.args.pool.now c.args.who))) (memo_of q c.args.who) (memo_of q c.args.who).call es)) c.fall.ensures.fallen
    (subst (λ (r : Memo). IfSome c.follow.result (λ a. (es : List Event) × Did c.args.who p q es × IsMended me r (memo_of q c.args.who) (memo_of q c.args.who).call es)) (ready at)
    (mend_answer p q c.args.who me c.args.life.now.left c.follow.new.life.left c.follow.result (may at) call))
