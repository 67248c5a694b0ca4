use Rattle.std.proofs.Common.{◌≡◌, ℕ, ◌<◌, ◌^◌, subst, arith, Bool}
use Rattle.std.specs.Prelude.{Ok}
use Rattle.shm_graph.specs.{declared.{memo.Memo.Memo, spot.Spot.TheVariants.{Era, Root}}, Asks.Trail, Views.own_word}
use Rattle.shm_count.specs.declared.point.{Aim.{Aim, TheVariants.Down}, StepState.StepState}
use Rattle.shm_count.specs.{Proved.Retaining.slot_known, Roots.RootLowered, Step.{Done, StepGives}}
use Rattle.shm_count.proofs.RootLeaves.{root_leaves}
use Rattle.shm_count.proofs.lasting.root_down_retains.Goals as goal

lowered : (k t : ℕ) (m : StepState) (r0 r : Memo) (tr : Trail) (z : Bool) → StepGives (Root m.me.who k) m r0 r tr (Ok z) → m.aim ≡ Down t → own_word r0.own (Era m.me.who m.me.who) < 2 ^ 47 → RootLowered m.me.who k t z r0 r
lowered k t m r0 r tr z g aim era =
    let who = g.can.who in
    let most = g.can.geometry.clients in
    root_leaves m.me m.slot k t r0 r z (omega arith) era (subst (λ (x : Aim). Done m.me m.slot x (Root m.me.who k) r0 r z) aim g.gives)

pub returns-clause-root : goal.returns-clause-root
returns-clause-root c k t m r0 r tr z g aim era = let l = lowered k t m r0 r tr z g aim era in (l.root, l.dying)

pub returns-clause-words : goal.returns-clause-words
returns-clause-words c k t m r0 r tr z g aim era = (lowered k t m r0 r tr z g aim era).words

pub returns-clause-values : goal.returns-clause-values
returns-clause-values c k t m r0 r tr z g aim era = (lowered k t m r0 r tr z g aim era).values

pub returns-clause-slots : goal.returns-clause-slots
returns-clause-slots c k t m r0 r tr z g aim era p x = slot_known r0 r p x (lowered k t m r0 r tr z g aim era).slots
