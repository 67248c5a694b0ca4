use Rattle.std.proofs.{Common.{◌≡◌, sym, ap, ◌∙◌, subst}, lemmas.Result.{IfErr-weaker, IfOk-weaker}}
use Rattle.std.specs.Prelude.{IfErr, IfOk}
use Rattle.plans.specs.{CallsControl.{calls_control, calls_does, calls_of}, CallsFit.{CallsFits, CallsGives}}
use Rattle.plans.specs.Proved.CallsKeep.{calls_tells}
use Rattle.shm_graph.specs.{declared.{ask.Me.Me, memo.Memo.Memo}, Whole.{fits_now, gives_now}}
use Rattle.shm_pool.specs.{Endings.{HasEnded, HasStopped, LeavesGone}, Lasts.{HasMade, HasNotMade}}
use Rattle.shm_pool.specs.Tokens.{IsFor, me_of}
use Rattle.shm_pool.proofs.{Lasting.{fits_first, is_mine, unfinished}, Told.{end_told, stop_told}}
use Rattle.shm_pool.proofs.token.Client.leave_as.{Given.Over, Goals.After-new-last}
use Rattle.shm_pool.proofs.token.Client.leave_as.Goals as goal

abbrev who : (g : Over) (c : After-new-last g) → Me
who g c = me_of c.args.self.of c.args.self.account

-- the machine is that of the plan of the client's identity
state : (g : Over) (c : After-new-last g) → c.new-last.result ≡ calls_of g.P.Plan.plan.steered (g.P.Last.made (who g c))
state g c = c.new-last.ensures ∙ ap (λ x. calls_of g.P.Plan.plan.steered x) (c.of.ensures ∙ ap (λ (x : Me). g.P.Last.made x) c.me.ensures.is)

pub leave_by-requires-clause-machine : goal.leave_by-requires-clause-machine
leave_by-requires-clause-machine g c = λ alive.
    let x = (goal.at.leave_by-requires-clause-machine g c).After-new-last in
    let k = g.P.Call.Machine.control in
    let q = g.P.Plan.plan in
    let last = g.met.P.Last.lasts in
    let may = c.requires.may alive in
    subst (λ m. IsFor c.args.self.of c.args.self.account (calls_control k q.steered) m) (sym (state g x))
    (is_mine k q g.met.P.Plan.laws g.P.Last.made g.P.Last.may last (who g x), unfinished k q g.met.P.Plan.laws g.P.Last.made g.P.Last.may last (who g x), (λ first. may.1), last.here (who g x) c.args.self.account.memo may.0 c.me.ensures.kind)

pub leave_by-requires-clause-fits : goal.leave_by-requires-clause-fits
leave_by-requires-clause-fits g c = λ alive.
    let x = (goal.at.leave_by-requires-clause-fits g c).After-new-last in
    let k = g.P.Call.Machine.control in
    let q = g.P.Plan.plan in
    let r : Memo = c.args.self.account.memo in
    subst (λ m. fits_now (calls_control k q.steered) (CallsFits k q) m r r) (sym (state g x)) (fits_first k q g.met.P.Plan.laws g.P.Last.made g.P.Last.may g.met.P.Last.lasts (who g x) r (c.requires.may alive).0)

pub leave_by-requires-clause-leaves : goal.leave_by-requires-clause-leaves
leave_by-requires-clause-leaves g c = λ alive.
    let x = (goal.at.leave_by-requires-clause-leaves g c).After-new-last in
    let r : Memo = c.args.self.account.memo in
    subst (λ m. LeavesGone (gives_now (CallsGives g.P.Call.Machine.control g.P.Plan.plan)) m r) (sym (state g x)) (g.met.P.Last.lasts.leaves (who g x) r (c.requires.may alive).0)

pub returns-clause-left : goal.returns-clause-left
returns-clause-left g c =
    let x = (goal.at.returns-clause-left g c).After-new-last in
    let k = g.P.Call.Machine.control in
    let q = g.P.Plan.plan in
    let p = c.args.self.of in
    let e = c.args.self.account in
    let n = c.args.life.now.left in
    let l = c.leave_by.new.life.left in
    let m = calls_of q.steered (g.P.Last.made (who g x)) in
    IfOk-weaker c.leave_by.result (HasEnded (calls_control k q.steered) (CallsFits k q) (gives_now (CallsGives k q)) m p e n l) (HasMade k q g.P.Last.made (who g x) p e n l)
    (end_told (calls_control k q.steered) (CallsFits k q) (gives_now (CallsGives k q)) (calls_does k q) (calls_tells k q g.met.P.Plan.laws) m p e n l)
    (subst (λ z. IfOk c.leave_by.result (HasEnded (calls_control k q.steered) (CallsFits k q) (gives_now (CallsGives k q)) z p e n l)) (state g x) c.leave_by.ensures.ended)

pub returns-clause-stopped : goal.returns-clause-stopped
returns-clause-stopped g c = λ alive.
    let x = (goal.at.returns-clause-stopped g c).After-new-last in
    let k = g.P.Call.Machine.control in
    let q = g.P.Plan.plan in
    let p = c.args.self.of in
    let e = c.args.self.account in
    let n = c.args.life.now.left in
    let l = c.leave_by.new.life.left in
    let m = calls_of q.steered (g.P.Last.made (who g x)) in
    IfErr-weaker c.leave_by.result (λ s. HasStopped (calls_control k q.steered) (CallsFits k q) (gives_now (CallsGives k q)) m p e n l s.cause s.corpse) (λ s. HasNotMade k q g.P.Last.made (who g x) p e n l s.cause s.corpse)
    (λ s. stop_told (calls_control k q.steered) (CallsFits k q) (gives_now (CallsGives k q)) (calls_does k q) (calls_tells k q g.met.P.Plan.laws) m p e n l s.cause s.corpse)
    (subst (λ z. IfErr c.leave_by.result (λ s. HasStopped (calls_control k q.steered) (CallsFits k q) (gives_now (CallsGives k q)) z p e n l s.cause s.corpse)) (state g x) (c.leave_by.ensures.stopped alive))
