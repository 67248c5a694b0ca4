use Rattle.std.proofs.Common.{arith, refl, ◌≡◌, ℕ, ◌<◌, Bool, true, false, cond, rules, sym, ap, ◌∙◌, subst, []}
use Rattle.shm_graph.specs.declared.{ask.Me.Me, memo.{Kind.TheVariants.Client, Memo.Memo}, run.Account.Account}
use Rattle.shm_graph.specs.{declared.run.Start.Start, Agents.{acts, is_gone, recovers}, Asks.call_before}
use Rattle.shm_graph.specs.Runs.{account_entered}
use Rattle.shm_graph.proofs.Memos.MemoSteps.{acts-entered, recovers-entered}
use Rattle.shm_recover.specs.declared.join.JoinState.{JoinState}
use Rattle.shm_recover.specs.Join.{IsMember, JoinFits, JoinGives, is_over, is_start, join_control, join_fresh}
use Rattle.shm_recover.specs.{Proved.Join.Keeps.join_begins, Leave.MayLeave}
use Rattle.shm_pool.specs.{Rules.alone, Calls.{CallSteps, shown}, Tokens.{Its, Token, has_left, its, me_of}}
use Rattle.shm_pool.proofs.{Calling.{acts_stay, live_here}, Joining.{joined_may_leave, joins_once}}
use Rattle.shm_pool.proofs.token.Vacant.join.Goals.{After-top-2}
use Rattle.shm_pool.proofs.token.Vacant.join.Goals as goal

-- what the pool was made of is what the token says, and whose account it is stays
made : (c : After-top-2) → c.self.inside.start ≡ c.top-2.result.now.key
made c = ap (λ (t : Token). t.of.start) c.self.view_is ∙ (ap (λ (n : Its). n.start) c.requires.pool ∙ sym c.top-2.ensures.1)

pub run_place-requires-clause-me : goal.run_place-requires-clause-me
run_place-requires-clause-me c =
    let i = c.self.invariant.0 in
    let s = made (goal.at.run_place-requires-clause-me c).After-top-2 in
    let e = c.note_client.ensures.account in
    let w : c.self.inside.who ≡ (alone c.note_client.new.place).who = i.who ∙ sym (ap (λ (z : Account). z.who) e) in (
      ap (λ (m : JoinState). m.me) c.new-machine.ensures.state ∙ (λ j. record { geometry = (c.new.ensures.geometry ∙ ap (λ (x : Start). x.geometry) s) j; who = (c.new.ensures.who ∙ w) j }),
      subst (λ (n : ℕ). n < c.top-2.result.now.key.geometry.clients) w (subst (λ (z : Start). c.self.inside.who < z.geometry.clients) s i.below),
      ap (λ (m : JoinState). is_over m.point) c.new-machine.ensures.state,
      ap (λ (z : Account). acts z.memo) e ∙ acts-entered Client (alone c.self.inside.place).memo,
    )

pub run_place-requires-clause-fits : goal.run_place-requires-clause-fits
run_place-requires-clause-fits c =
    let i = c.self.invariant in
    let me : Me = c.new.result in
    let member : IsMember me = subst IsMember (sym (λ j. record { geometry = c.new.ensures.geometry j; who = c.new.ensures.who j })) (record { geometry = i.0.fits; who = i.0.below }) in
    subst (λ (m : JoinState). JoinFits m (alone c.note_client.new.place).memo (alone c.note_client.new.place).memo (call_before (is_start m.point) (alone c.note_client.new.place).memo.call)) (sym c.new-machine.ensures.state)
    (subst (λ (e : Account). JoinFits (join_fresh me) e.memo e.memo []) (sym c.note_client.ensures.account)
    (join_begins me (account_entered Client (alone c.self.inside.place)).memo (record { member = member; status = i.1.0 })))

pub invariant_of-result : goal.invariant_of-result
invariant_of-result c =
    let m : Memo = (alone c.run_place.new.place).memo in
    let acting : acts m ≡ true = acts_stay m (ap is_gone c.in-Some.ensures.gives.idle.live) c.in-Some.ensures.acts in
    let kind : recovers m ≡ false = c.in-Some.ensures.kind ∙ (ap (λ (e : Account). recovers e.memo) c.note_client.ensures.account ∙ recovers-entered Client (alone c.self.inside.place).memo) in
    let here : has_left m ≡ false = live_here m c.in-Some.ensures.gives.idle.live in
    (search rules, record { kind = kind; acts = acting ∙ ap (λ (b : Bool). cond b false true) (sym here); there = λ d. here }, λ d. refl)

pub returns-in-Some-clause-leaves : goal.returns-in-Some-clause-leaves
returns-in-Some-clause-leaves c =
    let i = c.self.invariant.0 in
    let e : Account = alone c.self.inside.place in
    let e' : Account = alone c.run_place.new.place in
    let p : Its = its c.run_place.new.place.table_id c.self.inside.start in
    let me : c.new.result ≡ me_of p e = (λ j. record { geometry = c.new.ensures.geometry j; who = (c.new.ensures.who ∙ i.who) j }) in
    let entered : JoinGives c.new-machine.result (account_entered Client e).memo e'.memo e'.memo.call tt = subst (λ (x : Account). JoinGives c.new-machine.result x.memo e'.memo e'.memo.call tt) c.note_client.ensures.account c.in-Some.ensures.gives in
    let gives : JoinGives (join_fresh (me_of p e)) (account_entered Client e).memo e'.memo e'.memo.call tt = subst (λ (m : JoinState). JoinGives m (account_entered Client e).memo e'.memo e'.memo.call tt) (c.new-machine.ensures.state ∙ ap (λ (x : Me). join_fresh x) me) entered in
    let below : e.who < c.self.inside.start.geometry.clients = subst (λ (n : ℕ). n < c.self.inside.start.geometry.clients) i.who i.below in
    let same : e'.who ≡ e.who = c.in-Some.ensures.who ∙ ap (λ (x : Account). x.who) c.note_client.ensures.account in
    let may : MayLeave (me_of p e) e'.memo = joined_may_leave p e e'.memo e'.memo.call i.stood i.fits below c.self.invariant.1.0 gives in
    let fresh : is_start c.new-machine.result.point ≡ true = ap (λ (m : JoinState). is_start m.point) c.new-machine.ensures.state in (
      subst (λ (n : ℕ). let y : Me = record { geometry = c.self.inside.start.geometry; who = n } in MayLeave y e'.memo) (sym same) may,
      (c.in-Some.ensures.told fresh).over,
    )

pub returns-in-Some-clause-call : goal.returns-in-Some-clause-call
returns-in-Some-clause-call c =
    let i = c.self.invariant.0 in
    let e : Account = alone c.self.inside.place in
    let e' : Account = alone c.run_place.new.place in
    let p : Its = its c.self.inside.place.table_id c.self.inside.start in
    let me : c.new.result ≡ me_of p e = (λ j. record { geometry = c.new.ensures.geometry j; who = (c.new.ensures.who ∙ i.who) j }) in
    subst (λ (t : Token). CallSteps (shown join_control (join_fresh (me_of t.of t.account))) (account_entered Client t.account) e' true c.args.life.now.left c.run_place.new.life.left) c.self.view_is
    (subst (λ (m : JoinState). CallSteps (shown join_control m) (account_entered Client e) e' true c.args.life.now.left c.run_place.new.life.left) (c.new-machine.ensures.state ∙ ap (λ (x : Me). join_fresh x) me)
    (subst (λ (x : Account). CallSteps (shown join_control c.new-machine.result) x e' true c.args.life.now.left c.run_place.new.life.left) c.note_client.ensures.account c.in-Some.ensures.call.call))

pub returns-in-None-clause-lives : goal.returns-in-None-clause-lives
returns-in-None-clause-lives c = λ some.
    let same : c.run_place.new.life.left ≡ c.args.life.now.left = joins_once c.new-machine.result c.run_place.new.m (alone c.note_client.new.place) (alone c.run_place.new.place) c.args.life.now.left c.run_place.new.life.left c.in-None.ensures.call in
    let spent : c.run_place.new.life.left ≡ 0 = c.in-None.ensures.spent refl in
    absurd (omega arith)
