use Rattle.std.proofs.Common.{◌≡◌, ℕ, ◌<◌, Bool, cond, refl, ap, subst, inr}
use Rattle.shm_graph.specs.declared.memo.{Fate.TheVariants.Ended, Kind.TheVariants.{Client, Recoverer}}
use Rattle.shm_graph.specs.{declared.run.Account.Account, Runs.{account_died, account_entered}, Whole.gives_now}
use Rattle.shm_graph.proofs.Memos.MemoSteps.{recovers-entered}
use Rattle.plans.specs.{CallsControl.{calls_does, calls_of}, CallsFit.{CallsFits, CallsGives}}
use Rattle.shm_recover.specs.{Machines.Recovering.recover, Recover.Control.{recover_parts, recovering, recover_steered}}
use Rattle.shm_recover.specs.Recover.{recover_plan}
use Rattle.shm_pool.specs.{Calls.shown, Endings.EndIsTold, Tokens.{me_of, recovering_account}}
use Rattle.shm_team.proofs.{Staying.{stayed_begins, stayed_then}, Visiting.{ends_gone, recover_stayed, run_first}}
use Rattle.shm_team.proofs.closing.recover.{Given.Over, Goals.In-Ok}
use Rattle.shm_team.proofs.closing.recover.Goals as goal

-- what the recovery gave, from where its recoverer had begun
told : (g : Over) (c : In-Ok g) → let e : Account = c.args.corpse.account in EndIsTold recover (CallsFits recover_parts recover_plan) (gives_now (CallsGives recover_parts recover_plan)) (calls_does recover_parts recover_plan) (calls_of recover_steered (recovering (me_of c.args.corpse.of e))) c.args.corpse.of (account_entered Recoverer (account_died e)) c.of.result.left c.recover.new.life.left c.in-Ok.token
told g c =
    let e = c.args.corpse.account in
    let m = calls_of recover_steered (recovering (me_of c.args.corpse.of e)) in
    let same : recovering_account e ≡ account_entered Recoverer (account_died e) = ap (λ (b : Bool). account_entered Recoverer (account_died (cond b e (account_entered Client e)))) c.requires.acts in
    subst (λ (z : Account). EndIsTold recover (CallsFits recover_parts recover_plan) (gives_now (CallsGives recover_parts recover_plan)) (calls_does recover_parts recover_plan) m c.args.corpse.of z c.of.result.left c.recover.new.life.left c.in-Ok.token) same c.in-Ok.ensures.recovered

pub returns-in-Ok-clause-ran : goal.returns-in-Ok-clause-ran
returns-in-Ok-clause-ran g c =
    let e = c.args.corpse.account in
    let f = c.in-Ok.token.account in
    let m = calls_of recover_steered (recovering (me_of c.args.corpse.of e)) in
    let x = told g (goal.at.returns-in-Ok-clause-ran g c).In-Ok in
    let left = x.answered.gave.leaves in
    run_first Recoverer (shown recover m) (account_died e) f c.of.result.left c.recover.new.life.left Ended (inr (inr (inr refl))) x.answered.call (x.answered.told refl)
    (ends_gone f.memo.status x.gone)
    (record { map = λ key. ap (λ h. h key) left.map; loose = left.loose })

pub returns-in-Ok-clause-stayed : goal.returns-in-Ok-clause-stayed
returns-in-Ok-clause-stayed g c =
    let e = account_died c.args.corpse.account in
    let x = told g (goal.at.returns-in-Ok-clause-stayed g c).In-Ok in
    let left = x.answered.gave.leaves in
    let low = subst (λ (n : ℕ). n < c.args.corpse.of.start.geometry.clients) c.client.ensures.is c.client.ensures.below in
    stayed_then e (account_entered Recoverer e) c.in-Ok.token.account (stayed_begins Recoverer e)
    (recover_stayed (account_entered Recoverer e) c.in-Ok.token c.args.corpse.of _ _ c.client.ensures.stood.held.at.fits low (recovers-entered Recoverer e.memo) x (record { map = λ key. ap (λ h. h key) left.map; loose = left.loose }))
