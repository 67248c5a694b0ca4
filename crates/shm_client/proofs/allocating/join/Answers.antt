use Rattle.std.specs.Option.{is_some}
use Rattle.std.proofs.Common.{◌≡◌, ℕ, ◌+◌, ◌<◌, ◌⊎◌, Bool, cond, length, true, List, refl, sym, ap, ◌∙◌, subst}
use Rattle.shm_words.specs.Layout.{GeometryFits}
use Rattle.shm_graph.specs.declared.{run.Start.Start, ask.Me.Me, memo.{Memo.Memo, Status.Status as AStatus}}
use Rattle.shm_graph.specs.{declared.memo.Status.TheVariants.{New, Live, Gone}, Events.Event}
use Rattle.shm_graph.specs.{Agents.{entered, is_recoverer, recovers}, Asks.{Trail, call_before}}
use Rattle.shm_graph.proofs.Memos.MemoSteps.{recovers-entered}
use Rattle.shm_recover.specs.declared.join.JoinState.{JoinState}
use Rattle.shm_recover.specs.Join.{JoinFits, JoinGives, is_start, join_control, join_fresh}
use Rattle.shm_recover.specs.Proved.Join.Keeps.{join_begins}
use Rattle.shm_plain.specs.{Pools.{memo_of, readied}, Calls.{Did, Ran}, Tracks.kind_next}
use Rattle.shm_plain.proofs.{Answering.of_done, Calling.ready_status, Turning.ready_memo, Called.{Called, ran_fresh}}
use Rattle.shm_client.proofs.JoinEvents.{join_tells, none_along, none_of}
use Rattle.shm_client.proofs.allocating.join.Goals.{After-new-join, After-call}
use Rattle.shm_client.proofs.allocating.join.Goals as goal

state : (c : After-new-join) → c.new-join.result ≡ join_fresh (record { geometry = c.args.pool.now.start.geometry; who = c.args.who })
state c =
    let g = c.new.ensures.geometry ∙ c.geometry.ensures.is in
    let me : c.new.result ≡ record { geometry = c.args.pool.now.start.geometry; who = c.args.who } = (λ i. record { geometry = g i; who = c.new.ensures.who i }) in
    c.new-join.ensures.state ∙ ap join_fresh me

fit : (c : After-new-join) → let r : Memo = memo_of (readied c.args.pool.now c.args.who) c.args.who in JoinFits c.new-join.result r r (call_before (is_start c.new-join.result.point) r.call)
fit c =
    let me : Me = record { geometry = c.args.pool.now.start.geometry; who = c.args.who } in
    let r : Memo = memo_of (readied c.args.pool.now c.args.who) c.args.who in
    let long : c.args.who < length c.args.pool.now.accounts = subst (λ n. c.args.who < n) (sym c.geometry.ensures.run.held.accounts) c.requires.who in
    let may : (r.status ≡ New) ⊎ (r.status ≡ Gone) = subst (λ (s : AStatus). (s ≡ New) ⊎ (s ≡ Gone)) (sym (ready_status c.args.pool.now c.args.who long)) c.requires.status in
    subst (λ (x : JoinState). JoinFits x r r (call_before (is_start x.point) r.call)) (sym (state c)) (join_begins me r (record { member = record { geometry = c.requires.geometry; who = c.requires.who }; status = may }))

pub call-requires-clause-fits : goal.call-requires-clause-fits
call-requires-clause-fits c = (memo_of (readied c.args.pool.now c.args.who) c.args.who, fit (goal.at.call-requires-clause-fits c).After-new-join)

-- what the call says of it
called : (c : After-call) → Called join_control JoinFits JoinGives c.args.who c.args.pool.now c.new-join.result c.call.new.self c.args.life.now.left c.call.new.life.left c.call.result
called c = record { gave = c.call.ensures.gives; ran = c.call.ensures.ran; took = c.call.ensures.took; events = c.call.ensures.events }

fresh : (c : After-call) → join_control.fresh c.new-join.result ≡ true
fresh c = ap (λ (m : JoinState). is_start m.point) (state (goal.at.After-call c).After-new-join)

ran : (c : After-call) → Ran c.args.who true (is_some c.call.result) c.args.pool.now c.call.new.self c.args.life.now.left c.call.new.life.left
ran c = ran_fresh join_control JoinFits JoinGives c.args.who c.args.pool.now c.new-join.result c.call.new.self c.args.life.now.left c.call.new.life.left c.call.result (called c) (fresh c)

pub returns-clause-gives : goal.returns-clause-gives
returns-clause-gives c e =
    let a = (goal.at.returns-clause-gives c).After-call in
    let r0 : Memo = memo_of (readied c.args.pool.now c.args.who) c.args.who in
    let r : Memo = memo_of c.call.new.self c.args.who in
    subst (λ (x : JoinState). JoinGives x r0 r r.call tt) (state (goal.at.After-call a).After-new-join)
    (of_done (λ a. JoinGives c.new-join.result r0 r r.call a) c.call.result (sym c.is_some.ensures ∙ e) (c.call.ensures.gives r0 (fit (goal.at.After-call a).After-new-join)))

pub returns-clause-ran : goal.returns-clause-ran
returns-clause-ran c =
    subst (λ (b : Bool). Ran c.args.who true b c.args.pool.now c.call.new.self c.args.life.now.left c.call.new.life.left) (sym c.is_some.ensures) (ran (goal.at.returns-clause-ran c).After-call)

pub returns-clause-at_work : goal.returns-clause-at_work
returns-clause-at_work c e =
    let n = returns-clause-ran c in
    let idle = (returns-clause-gives c e).idle in
    record {
      geometry = subst (λ (s : Start). GeometryFits s.geometry) (sym n.start) c.requires.geometry;
      who = subst (λ (s : Start). c.args.who < s.geometry.clients) (sym n.start) c.requires.who;
      idle = idle;
      acts = n.acts e (λ g. let live : Live ≡ Gone = sym idle.live ∙ g in absurd (cc));
    }

pub returns-clause-client : goal.returns-clause-client
returns-clause-client c e none kind =
    let p = c.args.pool.now in
    let long : c.args.who < length p.accounts = subst (λ n. c.args.who < n) (sym c.geometry.ensures.run.held.accounts) c.requires.who in
    let m : Memo = memo_of p c.args.who in
    (returns-clause-ran c).kind e ∙ (ap recovers (ready_memo p c.args.who long)
    ∙ (ap (λ (b : Bool). recovers (cond b m (entered (kind_next m) m))) none ∙ (recovers-entered (kind_next m) m ∙ ap is_recoverer kind)))

pub returns-clause-spent : goal.returns-clause-spent
returns-clause-spent c e =
    let r : Memo = memo_of c.call.new.self c.args.who in
    let one : length r.call ≡ 1 = ap (λ (tr : Trail). length tr) (returns-clause-gives c e).trail in
    ap (λ (n : ℕ). c.call.new.life.left + n) (sym one) ∙ (returns-clause-ran c).spent ((returns-clause-ran c).some e) refl

pub returns-clause-events : goal.returns-clause-events
returns-clause-events c e =
    let at = (goal.at.returns-clause-events c).After-call in
    subst (λ (es : List Event). Did c.args.who c.args.pool.now c.call.new.self es) (none_along join_control c.new-join.result (memo_of c.call.new.self c.args.who).call)
    (c.call.ensures.events ((returns-clause-ran c).some e) (fresh at) none_of join_tells)
