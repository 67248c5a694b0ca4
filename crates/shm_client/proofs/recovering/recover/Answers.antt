use Rattle.std.proofs.Common.{◌≡◌, ◌<◌, refl, sym, ap, ◌∙◌, subst, true, false, List, [], length, Result}
use Rattle.std.specs.{Prelude.{Option, Some, None, Ok, Err, IfOk, IfSome}, Option.is_some}
use Rattle.shm_graph.specs.declared.{ask.Me.Me, memo.{Kind.TheVariants.Recoverer, Memo.Memo, Status.TheVariants.Gone}}
use Rattle.shm_graph.specs.{Agents.entered, Asks.Trail, Events.Event}
use Rattle.shm_graph.proofs.Memos.MemoSteps.{recovers-entered}
use Rattle.kind_parts.specs.Reparting.{map_in}
use Rattle.shm_plain.specs.{Pools.{Pool, memo_of}, Calls.{Did, Ran}}
use Rattle.shm_plain.proofs.Called.{Called}
use Rattle.plans.specs.{CallsControl.{calls_control, calls_does, calls_of}, CallsFit.{CallsFits, CallsGives}}
use Rattle.plans.specs.{Proved.CallsKeep.{calls_begin, calls_tells}, Plans.PlanLaws}
use Rattle.shm_count.specs.{declared.answer.EraSpent.EraSpent, Roots.member}
use Rattle.shm_ref.specs.Proved.DropRoots.Laws.{roots_laws}
use Rattle.shm_recover.specs.{declared.recover.RecoverState.RecoverState, Proved.FinishTakes.Laws.finish_laws}
use Rattle.shm_recover.specs.Proved.{GiveUp.Laws.give_laws, Mend.Laws.mend_laws}
use Rattle.shm_recover.specs.Proved.{Recover.Laws.{recover_begin, recover_laws}, Scan.Laws.scan_laws}
use Rattle.shm_recover.specs.{Proved.TakeBack.Laws.back_laws, Machines.Recovering.RecoverGives}
use Rattle.shm_recover.specs.Recover.{Control.{recover_parts, recovering, recover_steered}, RecoverLeaves, recover_plan}
use Rattle.shm_recover.proofs.Steady.{recover_steady}
use Rattle.shm_client.proofs.Cut.{cut_map, either_way, long}
use Rattle.shm_client.proofs.Fallen.{fallen_first, fallen_fits, fallen_gave, fallen_ran, fallen_told, may_begin}
use Rattle.shm_client.specs.Following.{IsFollower}
use Rattle.shm_client.proofs.recovering.recover.Goals.{After-new-2, After-follow}
use Rattle.shm_client.proofs.recovering.recover.Goals as goal

laws : PlanLaws recover_parts recover_plan
laws = recover_laws mend_laws roots_laws back_laws finish_laws scan_laws give_laws

-- the machine makes the calls of the plan
abbrev plan : (c : After-new-2) → RecoverState
plan c = recovering (member c.args.pool.now.start.geometry c.args.who)

made : (c : After-new-2) → c.new-2.result ≡ plan c
made c =
    let g = c.new.ensures.geometry ∙ c.geometry-geometry.ensures.is in
    let me : c.new.result ≡ member c.args.pool.now.start.geometry c.args.who = (λ i. record { geometry = g i; who = c.new.ensures.who i }) in
    c.new-2.ensures.state ∙ ap (λ (x : Me). recovering x) me

state : (c : After-new-2) → calls_of recover_steered c.new-2.result ≡ calls_of recover_steered (plan c)
state c = ap (λ (x : RecoverState). calls_of recover_steered x) (made c)

-- which fits the memo of the recoverer
fit : (c : After-new-2) → let r : Memo = entered Recoverer (memo_of c.args.pool.now c.args.who) in CallsFits recover_parts recover_plan (calls_of recover_steered (plan c)) r r []
fit c =
    let r : Memo = entered Recoverer (memo_of c.args.pool.now c.args.who) in
    calls_begin recover_parts recover_plan laws (plan c) r refl refl
    (recover_begin (member c.args.pool.now.start.geometry c.args.who) r (record { geometry = c.requires.geometry; who = c.requires.who; recoverer = recovers-entered Recoverer (memo_of c.args.pool.now c.args.who) }))

pub follow-requires-clause-me : goal.follow-requires-clause-me
follow-requires-clause-me c =
    let at = (goal.at.follow-requires-clause-me c).After-new-2 in
    subst (λ (x : RecoverState). IsFollower recover_parts recover_plan x c.args.who c.args.pool.now) (sym (made at)) (refl, c.requires.who, refl)

pub follow-requires-clause-agent : goal.follow-requires-clause-agent
follow-requires-clause-agent c = may_begin c.args.pool.now c.args.who c.geometry-geometry.ensures.run c.requires.who c.requires.fell

pub follow-requires-clause-fits : goal.follow-requires-clause-fits
follow-requires-clause-fits c =
    let at = (goal.at.follow-requires-clause-fits c).After-new-2 in
    fallen_fits c.args.pool.now c.args.who c.geometry-geometry.ensures.run c.requires.who c.requires.fell (calls_control recover_parts recover_steered) (CallsFits recover_parts recover_plan) (CallsGives recover_parts recover_plan) (calls_of recover_steered (plan at)) refl (fit at) (calls_of recover_steered c.new-2.result) (state at)

-- ---- what the call leaves

module _ (c : After-follow) where
  abbrev at : After-new-2
  at = (goal.at.After-follow c).After-new-2

  abbrev then : Pool
  then = c.follow.new.pool

  say : Called (calls_control recover_parts recover_steered) (CallsFits recover_parts recover_plan) (CallsGives recover_parts recover_plan) c.args.who c.args.pool.now (calls_of recover_steered c.new-2.result) then c.args.life.now.left c.follow.new.life.left c.follow.result
  say = record { gave = c.follow.ensures.gives; ran = c.follow.ensures.ran; took = c.follow.ensures.took; events = c.follow.ensures.events }

  ran : Ran c.args.who true (is_some c.follow.result) c.args.pool.now then c.args.life.now.left c.follow.new.life.left
  ran =
      fallen_ran c.args.pool.now c.args.who c.geometry-geometry.ensures.run c.requires.who c.requires.fell (calls_control recover_parts recover_steered) (CallsFits recover_parts recover_plan) (CallsGives recover_parts recover_plan) (calls_of recover_steered (plan at)) refl (fit at) (calls_of recover_steered c.new-2.result) (state at)
      then c.args.life.now.left c.follow.new.life.left c.follow.result say

  gave : IfSome c.follow.result (λ a. RecoverGives (member c.args.pool.now.start.geometry c.args.who) (entered Recoverer (memo_of c.args.pool.now c.args.who)) (memo_of then c.args.who) (memo_of then c.args.who).call a)
  gave =
      fallen_gave c.args.pool.now c.args.who c.geometry-geometry.ensures.run c.requires.who c.requires.fell (calls_control recover_parts recover_steered) (CallsFits recover_parts recover_plan) (CallsGives recover_parts recover_plan) (calls_of recover_steered (plan at)) refl (fit at) (calls_of recover_steered c.new-2.result) (state at)
      then c.args.life.now.left c.follow.new.life.left c.follow.result say

  -- with its events
  abbrev Left : Result (Unit {0}) EraSpent → Type 0
  Left a = (es : List Event) × Did c.args.who c.args.pool.now then es × RecoverLeaves (plan at) (entered Recoverer (memo_of c.args.pool.now c.args.who)) (memo_of then c.args.who) (memo_of then c.args.who).call es a

  left : IfSome c.follow.result Left
  left =
      fallen_told c.args.pool.now c.args.who c.geometry-geometry.ensures.run c.requires.who c.requires.fell (calls_control recover_parts recover_steered) (CallsFits recover_parts recover_plan) (CallsGives recover_parts recover_plan) (calls_of recover_steered (plan at)) refl (fit at) (calls_of recover_steered c.new-2.result) (state at)
      then c.args.life.now.left c.follow.new.life.left c.follow.result say (calls_does recover_parts recover_plan) (calls_tells recover_parts recover_plan laws) Left (λ a g d. (_, d, g.leaves))

-- what follows from what is left
left_of : (A : Type 0) (P Q : A → Type 0) (o : Option A) → ((a : A) → P a → Q a) → IfSome o P → IfSome o Q
left_of A P Q None f h = tt
left_of A P Q (Some a) f h = f a h

gone_by : (m : RecoverState) (r0 r : Memo) (tr : Trail) (es : List Event) (a : Result (Unit {0}) EraSpent) → RecoverLeaves m r0 r tr es a → IfOk a (λ u. r.status ≡ Gone)
gone_by m r0 r tr es (Ok u) h = h.status
gone_by m r0 r tr es (Err e) h = tt

map_by : (m : RecoverState) (r0 r : Memo) (tr : Trail) (es : List Event) (a : Result (Unit {0}) EraSpent) → RecoverLeaves m r0 r tr es a → map_in r.part ≡ map_in r0.part
map_by m r0 r tr es (Ok u) h = h.map
map_by m r0 r tr es (Err e) h = h.map

pub returns-clause-gives : goal.returns-clause-gives
returns-clause-gives c = gave (goal.at.returns-clause-gives c).After-follow

pub returns-clause-ran : goal.returns-clause-ran
returns-clause-ran c = ran (goal.at.returns-clause-ran c).After-follow

pub returns-clause-gone : goal.returns-clause-gone
returns-clause-gone c =
    let at = (goal.at.returns-clause-gone c).After-follow in
    left_of (Result (Unit {0}) EraSpent) (Left at) (λ a. IfOk a (λ u. (memo_of c.follow.new.pool c.args.who).status ≡ Gone)) c.follow.result (λ a h. gone_by (plan (goal.at.After-follow at).After-new-2) _ _ _ _ a h.2) (left at)

-- where it was cut off the map is as it was
cut : (c : After-follow) → is_some c.follow.result ≡ false → map_in (memo_of c.follow.new.pool c.args.who).part ≡ map_in (memo_of c.args.pool.now c.args.who).part
cut c none =
    let at = (goal.at.After-follow c).After-new-2 in
    let left = c.follow.ensures.cut none in
    let first = fallen_first c.args.pool.now c.args.who c.geometry-geometry.ensures.run c.requires.who c.requires.fell (calls_control recover_parts recover_steered) (CallsFits recover_parts recover_plan) (CallsGives recover_parts recover_plan) (calls_of recover_steered (plan at)) refl (fit at) (calls_of recover_steered c.new-2.result) (state at) in
    let many : c.args.who < length c.follow.new.pool.accounts = long c.args.who c.args.pool.now c.follow.new.pool c.follow.ensures.ran.start c.follow.ensures.ran.run c.requires.who in
    cut_map (calls_control recover_parts recover_steered) (CallsFits recover_parts recover_plan) recover_steady left.0 (entered Recoverer (memo_of c.args.pool.now c.args.who)) c.follow.new.pool c.args.who many left.1 (left.2 (entered Recoverer (memo_of c.args.pool.now c.args.who)) first)

pub returns-clause-map : goal.returns-clause-map
returns-clause-map c =
    let at = (goal.at.returns-clause-map c).After-follow in
    let P : Type 0 = map_in (memo_of c.follow.new.pool c.args.who).part ≡ map_in (memo_of c.args.pool.now c.args.who).part in
    either_way P c.follow.result (left_of (Result (Unit {0}) EraSpent) (Left at) (λ a. P) c.follow.result (λ a h. map_by (plan (goal.at.After-follow at).After-new-2) _ _ _ _ a h.2) (left at)) (cut at)

pub returns-clause-events : goal.returns-clause-events
returns-clause-events c = left (goal.at.returns-clause-events c).After-follow
