use Rattle.std.proofs.Common.{◌≡◌, ℕ, ◌+◌, ◌<◌, Bool, true, [], List, length, refl, sym, ap, ◌∙◌, subst, arith}
use Rattle.shm_graph.specs.declared.memo.{Kind.TheVariants.Client, Memo.Memo, Status.TheVariants.{Live, Gone}}
use Rattle.shm_graph.specs.{declared.{run.Start.Start, spot.Spot.TheVariants.{Era, Root}}, Agents.{entered, recovers}}
use Rattle.shm_graph.specs.{Asks.{Trail, call_before}, Held.is_loose, Runs.{first_memo, first_part}, Views.own_word}
use Rattle.shm_graph.specs.Events.{Event}
use Rattle.shm_graph.proofs.Memos.MemoSteps.{recovers-entered}
use Rattle.shm_recover.specs.declared.join.JoinState.{JoinState}
use Rattle.shm_recover.specs.Join.{JoinFits, JoinGives, is_start, join_control, join_fresh}
use Rattle.shm_plain.specs.{Pools.{Pool, first_pool, memo_of, readied, MayStep}, Calls.{Did, Ran}}
use Rattle.shm_words.specs.Layout.{GeometryFits}
use Rattle.shm_client.proofs.{Cut.long, JoinEvents.{join_tells, none_along, none_of}}
use Rattle.shm_client.proofs.FirstJoin.{may_first, join_fits, join_over, long_first, memo_first, ready_first, first_own_era}
use Rattle.shm_client.proofs.driving.joined.Goals.{After-new-join, In-Some}
use Rattle.shm_client.proofs.driving.joined.Goals as goal

pub call-requires-clause-agent : goal.call-requires-clause-agent
call-requires-clause-agent c =
    let s : Start = record { geometry = c.args.geometry; first_era = c.args.first_era; tables = c.args.tables } in
    subst (λ (p : Pool). MayStep p c.args.who) (sym c.in_ok-pool.ensures.first) (may_first s c.args.who c.requires.who)

state : (c : After-new-join) → c.new-join.result ≡ join_fresh (record { geometry = c.args.geometry; who = c.args.who })
state c =
    let me : c.new.result ≡ record { geometry = c.args.geometry; who = c.args.who } = (λ i. record { geometry = c.new.ensures.geometry i; who = c.new.ensures.who i }) in
    c.new-join.ensures.state ∙ ap join_fresh me

fit : (c : After-new-join) → let r : Memo = memo_of (readied c.in_ok-pool.pool c.args.who) c.args.who in JoinFits c.new-join.result r r (call_before (is_start c.new-join.result.point) r.call)
fit c =
    let s : Start = record { geometry = c.args.geometry; first_era = c.args.first_era; tables = c.args.tables } in
    subst (λ (x : JoinState). let r : Memo = memo_of (readied c.in_ok-pool.pool c.args.who) c.args.who in JoinFits x r r (call_before (is_start x.point) r.call)) (sym (state c))
    (subst (λ (p : Pool). let r : Memo = memo_of (readied p c.args.who) c.args.who in JoinFits (join_fresh (record { geometry = s.geometry; who = c.args.who })) r r []) (sym c.in_ok-pool.ensures.first)
    (join_fits s c.args.who c.requires.geometry c.requires.who))

pub call-requires-clause-fits : goal.call-requires-clause-fits
call-requires-clause-fits c = (memo_of (readied c.in_ok-pool.pool c.args.who) c.args.who, fit (goal.at.call-requires-clause-fits c).After-new-join)

-- what the call says of the first pool
start : (c : In-Some) → c.call.new.self.start ≡ record { geometry = c.args.geometry; first_era = c.args.first_era; tables = c.args.tables }
start c = c.in-Some.ensures.ran.start ∙ ap (λ (p : Pool). p.start) c.in_ok-pool.ensures.first

first : (c : In-Some) → c.in_ok-pool.pool ≡ first_pool c.call.new.self.start
first c = c.in_ok-pool.ensures.first ∙ ap first_pool (sym (start c))

fresh : (c : In-Some) → join_control.fresh c.new-join.result ≡ true
fresh c = ap (λ (m : JoinState). is_start m.point) (state (goal.at.In-Some c).After-new-join)

ran : (c : In-Some) → Ran c.args.who true true c.in_ok-pool.pool c.call.new.self c.args.life.now.left c.call.new.life.left
ran c = subst (λ (b : Bool). Ran c.args.who b true c.in_ok-pool.pool c.call.new.self c.args.life.now.left c.call.new.life.left) (fresh c) c.in-Some.ensures.ran

gives : (c : In-Some) → let r : Memo = memo_of c.call.new.self c.args.who in JoinGives (join_fresh (record { geometry = c.args.geometry; who = c.args.who })) (entered Client (first_memo c.call.new.self.start c.args.who)) r r.call tt
gives c =
    let s : Start = record { geometry = c.args.geometry; first_era = c.args.first_era; tables = c.args.tables } in
    let a = (goal.at.In-Some c).After-new-join in
    let r : Memo = memo_of c.call.new.self c.args.who in
    let before : memo_of (readied c.in_ok-pool.pool c.args.who) c.args.who ≡ entered Client (first_memo c.call.new.self.start c.args.who) =
    ap (λ (p : Pool). memo_of (readied p c.args.who) c.args.who) c.in_ok-pool.ensures.first
    ∙ (ready_first s c.args.who c.requires.who ∙ ap (λ (z : Start). entered Client (first_memo z c.args.who)) (sym (start c))) in
    subst (λ (x : JoinState). JoinGives x (entered Client (first_memo c.call.new.self.start c.args.who)) r r.call tt) (state a)
    (subst (λ (x : Memo). JoinGives c.new-join.result x r r.call tt) before
    (c.in-Some.ensures.gives (memo_of (readied c.in_ok-pool.pool c.args.who) c.args.who) (fit a)))

pub returns-in-Some-clause-others : goal.returns-in-Some-clause-others
returns-in-Some-clause-others c d l n =
    let s : Start = record { geometry = c.args.geometry; first_era = c.args.first_era; tables = c.args.tables } in
    let at = (goal.at.returns-in-Some-clause-others c).In-Some in
    (ran at).others d n ∙ (ap (λ (p : Pool). memo_of p d) c.in_ok-pool.ensures.first ∙ (memo_first s d l ∙ ap (λ (z : Start). first_memo z d) (sym (start at))))

pub returns-in-Some-clause-gives : goal.returns-in-Some-clause-gives
returns-in-Some-clause-gives c = gives (goal.at.returns-in-Some-clause-gives c).In-Some

pub returns-in-Some-clause-start : goal.returns-in-Some-clause-start
returns-in-Some-clause-start c = start (goal.at.returns-in-Some-clause-start c).In-Some

pub returns-in-Some-clause-run : goal.returns-in-Some-clause-run
returns-in-Some-clause-run c = c.in-Some.ensures.ran.run

pub returns-in-Some-clause-at_work : goal.returns-in-Some-clause-at_work
returns-in-Some-clause-at_work c =
    let at = (goal.at.returns-in-Some-clause-at_work c).In-Some in
    let n = ran at in
    let idle = (gives at).idle in
    record {
      geometry = subst (λ (z : Start). GeometryFits z.geometry) (sym (start at)) c.requires.geometry;
      who = subst (λ (z : Start). c.args.who < z.geometry.clients) (sym (start at)) c.requires.who;
      idle = idle;
      acts = n.acts refl (λ e. let live : Live ≡ Gone = sym idle.live ∙ e in absurd (cc));
    }

pub returns-in-Some-clause-client : goal.returns-in-Some-clause-client
returns-in-Some-clause-client c =
    let s : Start = record { geometry = c.args.geometry; first_era = c.args.first_era; tables = c.args.tables } in
    (ran (goal.at.returns-in-Some-clause-client c).In-Some).kind refl
    ∙ (ap (λ (p : Pool). recovers (memo_of (readied p c.args.who) c.args.who)) c.in_ok-pool.ensures.first
    ∙ (ap recovers (ready_first s c.args.who c.requires.who) ∙ recovers-entered Client (first_memo s c.args.who)))

pub returns-in-Some-clause-ran : goal.returns-in-Some-clause-ran
returns-in-Some-clause-ran c =
    let at = (goal.at.returns-in-Some-clause-ran c).In-Some in
    subst (λ (p : Pool). Ran c.args.who true true p c.call.new.self c.args.life.now.left c.call.new.life.left) (first at) (ran at)

pub returns-in-Some-clause-events : goal.returns-in-Some-clause-events
returns-in-Some-clause-events c =
    let at = (goal.at.returns-in-Some-clause-events c).In-Some in
    subst (λ (p : Pool). Did c.args.who p c.call.new.self []) (first at)
    (subst (λ (es : List Event). Did c.args.who c.in_ok-pool.pool c.call.new.self es) (none_along join_control c.new-join.result (memo_of c.call.new.self c.args.who).call)
    (c.in-Some.ensures.events ((ran at).some refl) (fresh at) none_of join_tells))

pub returns-in-Some-clause-era : goal.returns-in-Some-clause-era
returns-in-Some-clause-era c =
    let at = (goal.at.returns-in-Some-clause-era c).In-Some in
    ap (λ (x : Memo). own_word x.own (Era c.args.who c.args.who)) (gives at).rest ∙ (first_own_era c.call.new.self.start c.args.who ∙ ap (λ (z : Start). z.first_era) (start at))

pub returns-in-Some-clause-roots : goal.returns-in-Some-clause-roots
returns-in-Some-clause-roots c k = ap (λ (x : Memo). own_word x.own (Root c.args.who k)) (gives (goal.at.returns-in-Some-clause-roots c).In-Some).rest

pub returns-in-Some-clause-loose : goal.returns-in-Some-clause-loose
returns-in-Some-clause-loose c single =
    let at = (goal.at.returns-in-Some-clause-loose c).In-Some in
    ap (λ (x : Memo). is_loose x.part) (gives at).rest ∙ (ap (λ (z : Start). is_loose (first_part z.tables)) (start at) ∙ ap (λ b. is_loose (first_part b)) single)

pub returns-in-Some-clause-spent : goal.returns-in-Some-clause-spent
returns-in-Some-clause-spent c =
    let at = (goal.at.returns-in-Some-clause-spent c).In-Some in
    let one : length (memo_of c.call.new.self c.args.who).call ≡ 1 = ap (λ (tr : Trail). length tr) (gives at).trail in
    ap (λ (n : ℕ). c.call.new.life.left + n) (sym one) ∙ (ran at).spent ((ran at).some refl) refl

pub returns-in-None-clause-answers : goal.returns-in-None-clause-answers
returns-in-None-clause-answers c some =
    let s : Start = record { geometry = c.args.geometry; first_era = c.args.first_era; tables = c.args.tables } in
    let who = c.args.who in
    let p = c.in_ok-pool.pool in
    let q = c.call.new.self in
    let ran = c.in-None.ensures.ran in
    let cut = c.in-None.ensures.cut refl in
    let before : who < length p.accounts = subst (λ (z : Pool). who < length z.accounts) (sym c.in_ok-pool.ensures.first) (long_first s who c.requires.who) in
    let there : who < p.start.geometry.clients = subst (λ (z : Pool). who < z.start.geometry.clients) (sym c.in_ok-pool.ensures.first) c.requires.who in
    let fits = cut.1 (memo_of (readied p who) who) (fit (goal.at.returns-in-None-clause-answers c).After-new-join) in
    let none = join_over who p q c.args.life.now.left c.call.new.life.left (join_control.fresh c.new-join.result) c.call.new.m _ before (long who p q ran.start ran.run there) ran cut.0 fits in
    absurd (omega (arith, none, some))
