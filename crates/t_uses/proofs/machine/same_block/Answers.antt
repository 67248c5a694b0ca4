use Rattle.std.proofs.Common.{◌≡◌, ◌==◌, Bool, refl, subst, []}
use Rattle.std.specs.Prelude.{IfSome}
use Rattle.shm_graph.specs.{declared.{ask.Me.Me, memo.Memo.Memo}, Core.core}
use Rattle.shm_plain.specs.{Calls.{Did, IsAtWork}, Pools.memo_of}
use Rattle.shm_plain.proofs.Answering.{some_map}
use Rattle.shm_count.specs.Roots.{member, root_word}
use Rattle.shm_client.proofs.Running.{PlanLeft, plan_may, plan_said}
use Rattle.t_uses.specs.declared.machine.CompareState.{CompareState}
use Rattle.t_uses.specs.Compare.{CompareMay, compare_plan, comparing, root_of}
use Rattle.t_uses.proofs.machine.same_block.Goals.{After-run}
use Rattle.t_uses.proofs.machine.same_block.Goals as goal

pub run-requires-clause-may : goal.run-requires-clause-may
run-requires-clause-may c =
    plan_may compare_plan (λ (x : Me). comparing x c.args.first c.args.second) (member c.args.pool.now.start.geometry c.args.who) _ _ _ c.me.ensures.is c.new-comparing.ensures refl
    CompareMay (memo_of c.args.pool.now c.args.who) (refl, c.requires.first, c.requires.second)

-- the plan as it was made
abbrev plan : (c : After-run) → CompareState
plan c = comparing (member c.args.pool.now.start.geometry c.args.who) c.args.first c.args.second

-- what it left
abbrev Left : (c : After-run) → Bool → Type 0
Left c = PlanLeft compare_plan (plan c) c.args.who c.args.pool.now c.run.new.self

left : (c : After-run) → IfSome c.run.result (Left c)
left c =
    (plan_said compare_plan (λ (x : Me). comparing x c.args.first c.args.second) (member c.args.pool.now.start.geometry c.args.who) _ _ _ c.me.ensures.is c.new-comparing.ensures refl
    root_of c.args.who c.args.pool.now c.run.new.self _ _ c.run.result c.run.ensures.ran c.run.ensures.at_work c.run.ensures.leaves).left

pub returns-clause-is : goal.returns-clause-is
returns-clause-is c =
    let at = (goal.at.returns-clause-is c).After-run in
    let r : Memo = memo_of c.args.pool.now c.args.who in
    some_map (Left at) (λ a. a ≡ (root_word c.args.who r c.args.first == root_word c.args.who r c.args.second)) c.run.result (λ a z. z.2.is) (left at)

pub returns-clause-same : goal.returns-clause-same
returns-clause-same c =
    let at = (goal.at.returns-clause-same c).After-run in
    some_map (Left at) (λ a. core (memo_of c.run.new.self c.args.who) ≡ core (memo_of c.args.pool.now c.args.who)) c.run.result (λ a z. z.2.memo) (left at)

pub returns-clause-at_work : goal.returns-clause-at_work
returns-clause-at_work c = some_map (λ a. Unit {0} → IsAtWork c.args.who c.run.new.self) (λ a. IsAtWork c.args.who c.run.new.self) c.run.result (λ a work. work tt) c.run.ensures.at_work

pub returns-clause-events : goal.returns-clause-events
returns-clause-events c =
    let at = (goal.at.returns-clause-events c).After-run in
    some_map (Left at) (λ a. Did c.args.who c.args.pool.now c.run.new.self []) c.run.result (λ a z. subst (Did c.args.who c.args.pool.now c.run.new.self) z.2.none z.1) (left at)
