-- No exchange fails where the one client of a pool shares a block, sets a reference or drops a root: how many word steps that takes at most.
use Rattle.std.proofs.Common.{ℕ, ◌+◌, ◌≤◌, true, false, refl, List, arith}
use Rattle.std.specs.Prelude.{Result, Ok, Err}
use Rattle.shm_graph.specs.{declared.spot.Spot.{Spot, TheVariants.{Body, Root}}, Asks.IsWithin, Events.Event}
use Rattle.shm_plain.specs.{Calls.{Ran, TookSteps}, Pools.{Pool, memo_of}}
use Rattle.plans.specs.{CallsControl.{calls_control, calls_of}, Either.{OrFits, or_control}}
use Rattle.plans.specs.Words.{WordFits, word_control}
use Rattle.shm_count.specs.declared.{answer.ShareFault.ShareFault, point.Aim.TheVariants.Up}
use Rattle.shm_count.specs.declared.up_root.RootingPoint.{RootingPoint, TheVariants.{Era, Look, Step}}
use Rattle.shm_count.specs.{declared.up_root.RootingState.RootingState, Roots.member}
use Rattle.shm_count.specs.Proved.{ShareTask.{ShareMay, share_task}, UpRoot.Laws.rooting_laws}
use Rattle.shm_count.specs.Step.Control.{first_point, step_control}
use Rattle.shm_count.specs.Step.{Machines.{down_answer, down_control, up_answer, up_control}, StepFits}
use Rattle.shm_count.specs.{StepsAt.{ChangeFitsAt, DownFitsAt, UpFitsAt}, StepsFrom.FitsFrom, Tear.Control.tear_control}
use Rattle.shm_count.specs.Tear.{TearFits}
use Rattle.shm_count.specs.UpRoot.Control.{RootingCall, is_era, rooting, rooting_call, rooting_parts, rooting_steered}
use Rattle.shm_count.specs.UpRoot.{UpRootLeaves, rooting_part, rooting_plan}
use Rattle.shm_count.specs.declared.answer.ShareFault.TheVariants as share
use Rattle.shm_ref.specs.declared.{drop_root.{DropPoint.DropPoint, DropState.DropState}, set_ref.SetPoint.SetPoint}
use Rattle.shm_ref.specs.declared.set_ref.SetState.{SetState}
use Rattle.shm_ref.specs.DropRoot.Control.{DropCall, drop_call_at, drop_parts, dropping, is_load, drop_steered}
use Rattle.shm_ref.specs.{DropRoot.drop_plan, Proved.DropRoot.Laws.drop_laws}
use Rattle.shm_ref.specs.Proved.{RootTasks.{DropMay, SetMay, drop_task, set_task}, SetRef.Laws.set_laws}
use Rattle.shm_ref.specs.SetRef.{Control.{SetCall, is_tag, set_call_at, set_parts, setting, set_steered}, set_plan}
use Rattle.shm_ref.specs.declared.drop_root.DropPoint.TheVariants as drop
use Rattle.shm_ref.specs.declared.set_ref.SetPoint.TheVariants as set
use Rattle.shm_tree.specs.{Bounds.share_steps, Working.IsWorking}
use Rattle.shm_tree.proofs.Sure.{AreSure, CallsSure, fewer_sure, mapped_sure, or_knows, or_sure, word_knows, word_sure}
use Rattle.shm_tree.proofs.SureRuns.{plan_most}
use Rattle.shm_tree.proofs.SureSteps.{first_knows, from_sure, step_knows, step_sure, tear_knows, tear_sure}

-- ---- count steps at p

up_sure : (p : Spot) → AreSure up_control step_knows (UpFitsAt p)
up_sure p = mapped_sure up_answer step_control (UpFitsAt p) step_knows (fewer_sure step_control (StepFits p) (UpFitsAt p) step_knows (λ m r0 r tr h. h.1) (step_sure p))

down_sure : (p : Spot) → AreSure down_control step_knows (DownFitsAt p)
down_sure p = mapped_sure down_answer step_control (DownFitsAt p) step_knows (fewer_sure step_control (StepFits p) (DownFitsAt p) step_knows (λ m r0 r tr h. h.1) (step_sure p))

change_sure : (p : Spot) → AreSure step_control step_knows (ChangeFitsAt p)
change_sure p = fewer_sure step_control (StepFits p) (ChangeFitsAt p) step_knows (λ m r0 r tr h. h.1) (step_sure p)

-- ---- a share

abbrev rooting_knows : RootingCall → (Spot → ℕ) → Type 0
rooting_knows = or_knows word_knows step_knows

rooting_sure : CallsSure rooting_parts rooting_plan rooting_knows
rooting_sure = record { parts = λ m. parts m m.point; begins = λ m w. begins m m.point w }
  where
    taken : (m : RootingState) → AreSure rooting_parts rooting_knows (OrFits (WordFits false) (FitsFrom (Root m.me.who m.root) (first_point m.me m.era)))
    taken m =
        or_sure word_control up_control (WordFits false) (FitsFrom (Root m.me.who m.root) (first_point m.me m.era)) word_knows step_knows (word_sure false)
        (mapped_sure up_answer step_control (FitsFrom (Root m.me.who m.root) (first_point m.me m.era)) step_knows (from_sure (Root m.me.who m.root) (first_point m.me m.era)))

    parts : (m : RootingState) (y : RootingPoint) → AreSure rooting_parts rooting_knows (rooting_part m y).fits
    parts m Era = or_sure word_control up_control (WordFits (is_era Era)) (UpFitsAt (Root m.me.who m.root)) word_knows step_knows (word_sure (is_era Era)) (up_sure (Root m.me.who m.root))
    parts m Look = taken m
    parts m Step = taken m

    begins : (m : RootingState) (y : RootingPoint) (w : Spot → ℕ) → rooting_knows (rooting_call m y) w
    begins m Era w = refl
    begins m Look w = refl
    begins m Step w = first_knows (Up m.block) m.me.geometry.wide m.era w

pub share_most : (n : ℕ) (p r : Pool) (b x y : ℕ) → IsWorking p → ShareMay (rooting (member p.start.geometry 0) b) (memo_of p 0) → TookSteps (calls_control rooting_parts rooting_steered) 0 p (calls_of rooting_steered (rooting (member p.start.geometry 0) b)) r → Ran 0 true true p r x y → IsWithin n (memo_of r 0).call → x ≤ y + n
share_most n p r b x y h may t ran most = plan_most rooting_parts rooting_plan rooting_laws ShareMay (λ m a. Unit {0}) share_task rooting_knows rooting_sure n p r (rooting (member p.start.geometry 0) b) x y h refl may t ran most

-- ---- the setting of a reference

abbrev set_knows : SetCall → (Spot → ℕ) → Type 0
set_knows = or_knows word_knows (or_knows (or_knows step_knows step_knows) (or_knows step_knows tear_knows))

set_sure : CallsSure set_parts set_plan set_knows
set_sure = record { parts = parts; begins = λ m w. begins m m.point w }
  where
    parts : (m : SetState) → AreSure set_parts set_knows (set_plan.part m).fits
    parts m =
        let p : Spot = Body m.block m.word in
        or_sure word_control (or_control (or_control up_control down_control) (or_control step_control tear_control)) (WordFits (is_tag m.point)) (OrFits (OrFits (UpFitsAt p) (DownFitsAt p)) (OrFits (ChangeFitsAt p) TearFits)) word_knows (or_knows (or_knows step_knows step_knows) (or_knows step_knows tear_knows))
        (word_sure (is_tag m.point))
        (or_sure (or_control up_control down_control) (or_control step_control tear_control) (OrFits (UpFitsAt p) (DownFitsAt p)) (OrFits (ChangeFitsAt p) TearFits) (or_knows step_knows step_knows) (or_knows step_knows tear_knows)
        (or_sure up_control down_control (UpFitsAt p) (DownFitsAt p) step_knows step_knows (up_sure p) (down_sure p))
        (or_sure step_control tear_control (ChangeFitsAt p) TearFits step_knows tear_knows (change_sure p) tear_sure))

    begins : (m : SetState) (y : SetPoint) (w : Spot → ℕ) → set_knows (set_call_at m y) w
    begins m set.Tag w = refl
    begins m set.Held w = refl
    begins m set.Look w = refl
    begins m set.Raise w = tt
    begins m set.Lower w = tt
    begins m set.Change w = tt
    begins m set.Tear w = tt

pub set_most : (n : ℕ) (p r : Pool) (b i c x y : ℕ) → IsWorking p → SetMay (setting (member p.start.geometry 0) b i c) (memo_of p 0) → TookSteps (calls_control set_parts set_steered) 0 p (calls_of set_steered (setting (member p.start.geometry 0) b i c)) r → Ran 0 true true p r x y → IsWithin n (memo_of r 0).call → x ≤ y + n
set_most n p r b i c x y h may t ran most = plan_most set_parts set_plan set_laws SetMay (λ m a. Unit {0}) set_task set_knows set_sure n p r (setting (member p.start.geometry 0) b i c) x y h refl may t ran most

-- ---- a drop of a root

abbrev drop_knows : DropCall → (Spot → ℕ) → Type 0
drop_knows = or_knows word_knows (or_knows step_knows tear_knows)

drop_sure : CallsSure drop_parts drop_plan drop_knows
drop_sure = record { parts = parts; begins = λ m w. begins m m.point w }
  where
    parts : (m : DropState) → AreSure drop_parts drop_knows (drop_plan.part m).fits
    parts m =
        let p : Spot = Root m.me.who m.root in
        or_sure word_control (or_control down_control tear_control) (WordFits (is_load m.point)) (OrFits (DownFitsAt p) TearFits) word_knows (or_knows step_knows tear_knows)
        (word_sure (is_load m.point))
        (or_sure down_control tear_control (DownFitsAt p) TearFits step_knows tear_knows (down_sure p) tear_sure)

    begins : (m : DropState) (y : DropPoint) (w : Spot → ℕ) → drop_knows (drop_call_at m y) w
    begins m drop.Load w = refl
    begins m drop.Lower w = tt
    begins m drop.Tear w = tt

pub drop_most : (n : ℕ) (p r : Pool) (k x y : ℕ) → IsWorking p → DropMay (dropping (member p.start.geometry 0) k) (memo_of p 0) → TookSteps (calls_control drop_parts drop_steered) 0 p (calls_of drop_steered (dropping (member p.start.geometry 0) k)) r → Ran 0 true true p r x y → IsWithin n (memo_of r 0).call → x ≤ y + n
drop_most n p r k x y h may t ran most = plan_most drop_parts drop_plan drop_laws DropMay (λ m a. Unit {0}) drop_task drop_knows drop_sure n p r (dropping (member p.start.geometry 0) k) x y h refl may t ran most

-- ---- how many word steps each takes at most

pub share_within : (p r : Pool) (b x y : ℕ) (es : List Event) (a : Result ℕ ShareFault) → IsWorking p → ShareMay (rooting (member p.start.geometry 0) b) (memo_of p 0) → TookSteps (calls_control rooting_parts rooting_steered) 0 p (calls_of rooting_steered (rooting (member p.start.geometry 0) b)) r → Ran 0 true true p r x y
    → UpRootLeaves (member p.start.geometry 0) b (memo_of p 0) (memo_of r 0) (memo_of r 0).call es a → x ≤ y + share_steps p.start.geometry
share_within p r b x y es a h may t ran l =
    share_most (share_steps p.start.geometry) p r b x y h may t ran (within a l)
  where
    within : (f : Result ℕ ShareFault) → UpRootLeaves (member p.start.geometry 0) b (memo_of p 0) (memo_of r 0) (memo_of r 0).call es f → IsWithin (share_steps p.start.geometry) (memo_of r 0).call
    within (Ok k) z = let low = z.low in let bound = z.bound in omega (arith, low, bound)
    within (Err (share.EraSpent e)) z = let bound = z.bound in omega (arith, bound)
    within (Err share.RootsFull) z = let bound = z.bound in omega (arith, bound)
    within (Err (share.CountFull d n)) z = z.bound
