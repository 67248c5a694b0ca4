use Rattle.std.proofs.{Common.{◌≡◌, ◌<◌, sym, ap, ◌∙◌, subst}, lemmas.Result.{IfErr-weaker, IfOk-weaker}}
use Rattle.std.specs.Prelude.{IfErr, IfOk}
use Rattle.shm_words.specs.Layout.{GeometryFits}
use Rattle.plans.specs.{CallsControl.{calls_control, calls_does, calls_of}, CallsFit.{CallsFits, CallsGives}}
use Rattle.plans.specs.Proved.CallsKeep.{calls_tells}
use Rattle.shm_graph.specs.{declared.{ask.Me.Me, memo.{Kind.TheVariants.Recoverer, Memo.Memo}}, Runs.account_died}
use Rattle.shm_graph.specs.Whole.{fits_now, gives_now}
use Rattle.shm_graph.proofs.Memos.MemoSteps.{recovers-entered}
use Rattle.shm_pool.specs.{Endings.{HasEnded, HasStopped, LeavesGone}, Lasts.{HasMade, HasNotMade}}
use Rattle.shm_pool.specs.Tokens.{Its, begun_account, me_of, recovering_account}
use Rattle.shm_pool.proofs.{Lasting.{fits_first, is_mine, unfinished}, Told.{end_told, stop_told}}
use Rattle.shm_pool.proofs.token.Corpse.recover_as.{Given.Over, Goals.After-new-last}
use Rattle.shm_pool.proofs.token.Corpse.recover_as.Goals as goal

abbrev who : (g : Over) (c : After-new-last g) → Me
who g c = me_of c.args.self.of c.args.self.account

sizes : (g : Over) (c : After-new-last g) → c.geometry.result ≡ c.args.self.of.start.geometry
sizes g c = c.geometry.ensures.is ∙ sym (ap (λ (n : Its). n.start.geometry) c.requires.pool)

-- the machine is that of the plan of the corpse's identity
state : (g : Over) (c : After-new-last g) → c.new-last.result ≡ calls_of g.P.Plan.plan.steered (g.P.Last.made (who g c))
state g c =
    let me : c.new-me.result ≡ who g c = (λ j. record { geometry = (c.new-me.ensures.geometry ∙ sizes g c) j; who = (c.new-me.ensures.who ∙ c.client.ensures.is) j }) in
    c.new-last.ensures ∙ ap (λ x. calls_of g.P.Plan.plan.steered x) (c.of.ensures ∙ ap (λ (x : Me). g.P.Last.made x) me)

-- the plan may begin once a recoverer has begun
may : (g : Over) (c : After-new-last g) → g.P.Last.may (who g c) (recovering_account c.args.self.account).memo
may g c =
    let e = c.args.self.account in
    c.requires.may (who g c) (recovering_account e).memo (subst GeometryFits (sizes g c) c.geometry.ensures.fits) (subst (λ n. n < c.args.self.of.start.geometry.clients) c.client.ensures.is c.client.ensures.below) (recovers-entered Recoverer (account_died (begun_account e)).memo)

pub recover_by-requires-clause-machine : goal.recover_by-requires-clause-machine
recover_by-requires-clause-machine g c =
    let x = (goal.at.recover_by-requires-clause-machine g c).After-new-last in
    let k = g.P.Call.Machine.control in
    let q = g.P.Plan.plan in
    let l = g.met.P.Last.lasts in (
      ap (calls_control k q.steered).me (state g x) ∙ is_mine k q g.met.P.Plan.laws g.P.Last.made g.P.Last.may l (who g x),
      ap (calls_control k q.steered).finished (state g x) ∙ unfinished k q g.met.P.Plan.laws g.P.Last.made g.P.Last.may l (who g x),
    )

pub recover_by-requires-clause-fits : goal.recover_by-requires-clause-fits
recover_by-requires-clause-fits g c =
    let x = (goal.at.recover_by-requires-clause-fits g c).After-new-last in
    let k = g.P.Call.Machine.control in
    let q = g.P.Plan.plan in
    let r : Memo = (recovering_account c.args.self.account).memo in
    subst (λ m. fits_now (calls_control k q.steered) (CallsFits k q) m r r) (sym (state g x)) (fits_first k q g.met.P.Plan.laws g.P.Last.made g.P.Last.may g.met.P.Last.lasts (who g x) r (may g x))

pub recover_by-requires-clause-leaves : goal.recover_by-requires-clause-leaves
recover_by-requires-clause-leaves g c =
    let x = (goal.at.recover_by-requires-clause-leaves g c).After-new-last in
    let r : Memo = (recovering_account c.args.self.account).memo in
    subst (λ m. LeavesGone (gives_now (CallsGives g.P.Call.Machine.control g.P.Plan.plan)) m r) (sym (state g x)) (g.met.P.Last.lasts.leaves (who g x) r (may g x))

pub returns-clause-recovered : goal.returns-clause-recovered
returns-clause-recovered g c =
    let x = (goal.at.returns-clause-recovered g c).After-new-last in
    let k = g.P.Call.Machine.control in
    let q = g.P.Plan.plan in
    let p = c.args.self.of in
    let e = recovering_account c.args.self.account in
    let n = c.args.life.now.left in
    let l = c.recover_by.new.life.left in
    let m = calls_of q.steered (g.P.Last.made (who g x)) in
    IfOk-weaker c.recover_by.result (HasEnded (calls_control k q.steered) (CallsFits k q) (gives_now (CallsGives k q)) m p e n l) (HasMade k q g.P.Last.made (who g x) p e n l)
    (end_told (calls_control k q.steered) (CallsFits k q) (gives_now (CallsGives k q)) (calls_does k q) (calls_tells k q g.met.P.Plan.laws) m p e n l)
    (subst (λ z. IfOk c.recover_by.result (HasEnded (calls_control k q.steered) (CallsFits k q) (gives_now (CallsGives k q)) z p e n l)) (state g x) c.recover_by.ensures.ended)

pub returns-clause-stopped : goal.returns-clause-stopped
returns-clause-stopped g c = λ some.
    let x = (goal.at.returns-clause-stopped g c).After-new-last in
    let k = g.P.Call.Machine.control in
    let q = g.P.Plan.plan in
    let p = c.args.self.of in
    let e = recovering_account c.args.self.account in
    let n = c.args.life.now.left in
    let l = c.recover_by.new.life.left in
    let m = calls_of q.steered (g.P.Last.made (who g x)) in
    IfErr-weaker c.recover_by.result (λ s. HasStopped (calls_control k q.steered) (CallsFits k q) (gives_now (CallsGives k q)) m p e n l s.cause s.corpse) (λ s. HasNotMade k q g.P.Last.made (who g x) p e n l s.cause s.corpse)
    (λ s. stop_told (calls_control k q.steered) (CallsFits k q) (gives_now (CallsGives k q)) (calls_does k q) (calls_tells k q g.met.P.Plan.laws) m p e n l s.cause s.corpse)
    (subst (λ z. IfErr c.recover_by.result (λ s. HasStopped (calls_control k q.steered) (CallsFits k q) (gives_now (CallsGives k q)) z p e n l s.cause s.corpse)) (state g x) (c.recover_by.ensures.stopped some))
