use Rattle.std.proofs.Common.{◌≡◌, ◌^◌, ◌<◌, ◌≤◌, refl, sym, ap, ◌∙◌, subst, arith}
use Rattle.plans.specs.{CallsControl.calls_of, CallsFit.{CallsFits, CallsGives}}
use Rattle.shm_recover.specs.declared.recover.RecoverState.{RecoverState}
use Rattle.shm_recover.specs.Recover.{Control.{recover_parts, recovering, recover_steered}, recover_plan}
use Rattle.shm_plain.proofs.Called.{Called}
use Rattle.shm_count.specs.Roots.{member}
use Rattle.shm_client.specs.Following.{IsFollower}
use Rattle.shm_tree.specs.Ending.{IsRevived}
use Rattle.shm_tree.proofs.Ending.{recover_answers, recover_control, recover_fits, recover_revived, recoverer}
use Rattle.shm_tree.proofs.{Opening.some_is, Roomy.{revived_ok, young_room}}
use Rattle.shm_tree.proofs.closing.recover_dead.Goals.{After-new-recovery, After-follow, After-unwrap}
use Rattle.shm_tree.proofs.closing.recover_dead.Goals as goal

plan : (c : After-new-recovery) → c.new-recovery.result ≡ recovering (member c.args.pool.now.start.geometry 0)
plan c = c.new-recovery.ensures.state ∙ ap recovering c.me.ensures.is

made : (c : After-new-recovery) → calls_of recover_steered c.new-recovery.result ≡ recoverer c.args.pool.now
made c = ap (λ (x : RecoverState). calls_of recover_steered x) (plan c)

who : (c : After-new-recovery) → 0 < c.args.pool.now.start.geometry.clients
who c = let one = c.requires.one in omega arith

pub follow-requires-clause-me : goal.follow-requires-clause-me
follow-requires-clause-me c =
    let at = (goal.at.follow-requires-clause-me c).After-new-recovery in
    subst (λ (x : RecoverState). IsFollower recover_parts recover_plan x 0 c.args.pool.now) (sym (plan at)) (refl, who at, refl)

pub follow-requires-clause-fits : goal.follow-requires-clause-fits
follow-requires-clause-fits c =
    let at = (goal.at.follow-requires-clause-fits c).After-new-recovery in
    recover_fits c.args.pool.now c.me.ensures.run (who at) c.requires.fell (calls_of recover_steered c.new-recovery.result) (made at)

-- what its call says
say : (c : After-follow) → Called recover_control (CallsFits recover_parts recover_plan) (CallsGives recover_parts recover_plan) 0 c.args.pool.now (calls_of recover_steered c.new-recovery.result) c.follow.new.pool c.of.result.left c.follow.new.life.left c.follow.result
say c = record { gave = c.follow.ensures.gives; ran = c.follow.ensures.ran; took = c.follow.ensures.took; events = c.follow.ensures.events }

pub unwrap-requires : goal.unwrap-requires
unwrap-requires c =
    let at = (goal.at.unwrap-requires c).After-follow in
    let new = (goal.at.After-follow at).After-new-recovery in
    let long : 2 ^ 38 < c.of.result.left = let life = c.of.ensures in omega arith in
    recover_answers c.args.pool.now c.me.ensures.run (who new) c.requires.fell (calls_of recover_steered c.new-recovery.result) (made new) c.follow.new.pool c.of.result.left c.follow.new.life.left c.follow.result (say at) c.follow.ensures.spent long

revived : (c : After-unwrap) → IsRevived c.args.pool.now c.follow.new.pool c.unwrap.result
revived c =
    let at = (goal.at.After-unwrap c).After-follow in
    let new = (goal.at.After-follow at).After-new-recovery in
    some_is (IsRevived c.args.pool.now c.follow.new.pool) c.follow.result c.unwrap.result c.unwrap.ensures
    (recover_revived c.args.pool.now c.me.ensures.run (who new) c.requires.fell (calls_of recover_steered c.new-recovery.result) (made new) c.follow.new.pool c.of.result.left c.follow.new.life.left c.follow.result (say at))

pub returns-clause-revived : goal.returns-clause-revived
returns-clause-revived c = revived (goal.at.returns-clause-revived c).After-unwrap

pub returns-clause-roomy : goal.returns-clause-roomy
returns-clause-roomy c young =
    let p = c.args.pool.now in
    let ran = c.follow.ensures.ran in
    let life : c.of.result.left ≤ 2 ^ 40 = let is = c.of.ensures in omega (arith, is) in
    revived_ok p c.follow.new.pool c.unwrap.result (revived (goal.at.returns-clause-roomy c).After-unwrap)
    (young_room p c.follow.new.pool _ _ ran.run (who (goal.at.After-follow (goal.at.returns-clause-roomy c).After-follow).After-new-recovery) ran.start ran.made life young)
