use Rattle.std.proofs.Common.{◌≡◌, ◌^◌, ◌<◌, ◌≤◌, refl, sym, ap, ◌∙◌, subst, arith}
use Rattle.plans.specs.{CallsControl.calls_of, CallsFit.{CallsFits, CallsGives}}
use Rattle.shm_recover.specs.{declared.leave.LeaveState.LeaveState, Leave.Control.{leave_parts, leaving, leave_steered}}
use Rattle.shm_recover.specs.Leave.{leave_plan}
use Rattle.shm_plain.proofs.Called.{Called}
use Rattle.shm_count.specs.Roots.{member}
use Rattle.shm_client.specs.Following.{IsFollower}
use Rattle.shm_tree.specs.Ending.{HasParted}
use Rattle.shm_tree.proofs.{Ending.{leave_answers, leave_control, leave_fits, leave_parted, leaver}, Opening.some_is}
use Rattle.shm_tree.proofs.Roomy.{parted_ok, young_room}
use Rattle.shm_tree.proofs.closing.leave.Goals.{After-new-leaving, After-follow, After-unwrap}
use Rattle.shm_tree.proofs.closing.leave.Goals as goal

plan : (c : After-new-leaving) → c.new-leaving.result ≡ leaving (member c.args.pool.now.start.geometry 0)
plan c = c.new-leaving.ensures ∙ ap leaving c.me.ensures.is

made : (c : After-new-leaving) → calls_of leave_steered c.new-leaving.result ≡ leaver c.args.pool.now
made c = ap (λ (x : LeaveState). calls_of leave_steered x) (plan c)

pub follow-requires-clause-me : goal.follow-requires-clause-me
follow-requires-clause-me c =
    let at = (goal.at.follow-requires-clause-me c).After-new-leaving in
    subst (λ (x : LeaveState). IsFollower leave_parts leave_plan x 0 c.args.pool.now) (sym (plan at)) (refl, c.requires.working.work.who, refl)

pub follow-requires-clause-fits : goal.follow-requires-clause-fits
follow-requires-clause-fits c =
    let at = (goal.at.follow-requires-clause-fits c).After-new-leaving in
    leave_fits c.args.pool.now c.requires.working c.requires.latch c.requires.dying (calls_of leave_steered c.new-leaving.result) (made at)

-- what its call says
say : (c : After-follow) → Called leave_control (CallsFits leave_parts leave_plan) (CallsGives leave_parts leave_plan) 0 c.args.pool.now (calls_of leave_steered c.new-leaving.result) c.follow.new.pool c.of.result.left c.follow.new.life.left c.follow.result
say c = record { gave = c.follow.ensures.gives; ran = c.follow.ensures.ran; took = c.follow.ensures.took; events = c.follow.ensures.events }

pub unwrap-requires : goal.unwrap-requires
unwrap-requires c =
    let at = (goal.at.unwrap-requires c).After-follow in
    let long : 2 ^ 38 < c.of.result.left = let life = c.of.ensures in omega arith in
    leave_answers c.args.pool.now c.requires.working c.requires.latch c.requires.dying (calls_of leave_steered c.new-leaving.result) (made (goal.at.After-follow at).After-new-leaving) c.follow.new.pool c.of.result.left c.follow.new.life.left c.follow.result (say at) c.follow.ensures.spent long

parted : (c : After-unwrap) → HasParted c.args.pool.now c.follow.new.pool c.unwrap.result
parted c =
    let at = (goal.at.After-unwrap c).After-follow in
    some_is (HasParted c.args.pool.now c.follow.new.pool) c.follow.result c.unwrap.result c.unwrap.ensures
    (leave_parted c.args.pool.now c.requires.working c.requires.latch c.requires.dying (calls_of leave_steered c.new-leaving.result) (made (goal.at.After-follow at).After-new-leaving) c.follow.new.pool c.of.result.left c.follow.new.life.left c.follow.result (say at))

pub returns-clause-parted : goal.returns-clause-parted
returns-clause-parted c = parted (goal.at.returns-clause-parted c).After-unwrap

pub returns-clause-roomy : goal.returns-clause-roomy
returns-clause-roomy c young =
    let p = c.args.pool.now in
    let ran = c.follow.ensures.ran in
    let life : c.of.result.left ≤ 2 ^ 40 = let is = c.of.ensures in omega (arith, is) in
    parted_ok p c.follow.new.pool c.unwrap.result (parted (goal.at.returns-clause-roomy c).After-unwrap) (young_room p c.follow.new.pool _ _ ran.run c.requires.working.work.who ran.start ran.made life young)
