-- what is owed of count steps at own roots: each is a part that needs what the memo shows between two calls
use Rattle.std.proofs.Common.{◌≡◌, ◌≢◌, ℕ, ◌^◌, ◌<◌, ◌≤◌, true, false, refl, sym, ◌∙◌, subst, arith, inr}
use Rattle.std.proofs.lemmas.Bool.{true≢false}
use Rattle.shm_words.specs.Layout.{address}
use Rattle.shm_words.specs.declared.place.Place.TheVariants as place
use Rattle.shm_graph.specs.{declared.{ask.Me.Me, memo.Memo.Memo, spot.Spot.TheVariants.{Era, Root}}, Agents.recovers}
use Rattle.shm_graph.specs.{Operations.IsReady, Reach.is_reached, Views.own_word}
use Rattle.plans.specs.{Plans.PlanLaws, Tasks.TaskLaws}
use Rattle.shm_count.specs.declared.point.{Aim.{Aim, TheVariants.{Up, Down, Change}}, Half.TheVariants.First}
use Rattle.shm_count.specs.Proved.{Idles.{is_here, step_idle}, Slots.Parts.era_room, UpRoot.Laws.reach_inside}
use Rattle.shm_count.specs.{Roots.root_word, Slots.Parts.{change_slot_laws, down_slot_laws, up_slot_laws}}
use Rattle.shm_count.specs.Slots.{IsSlotFor, MayStepAt}
use Rattle.shm_count.specs.Step.Control.{AimFits, IsInside, block_at, last_era, raises, step_control}
use Rattle.shm_count.specs.Step.{Machines.{down_control, down_told, up_control, up_told}, CanAim, CanStep}
use Rattle.shm_count.proofs.RootSpots.{can_root, fits_root}
use Rattle.shm_ref.specs.declared.root_steps.{ChangingState.ChangingState, LoweringState.LoweringState}
use Rattle.shm_ref.specs.{declared.root_steps.RaisingState.RaisingState, Proved.RootParts.root_names}
use Rattle.shm_ref.specs.RootSteps.{ChangingMay, LoweringMay, RaisingMay, change_call, change_me, change_part, changing_plan, lower_call, lower_me, lower_part, lowering_plan, raise_call, raise_me, raise_part, raising_plan, step_at}
use Rattle.shm_ref.specs.Single.{single_laws, single_task}

module _ (me : Me) (k : ℕ) (r : Memo) (ready : IsReady me r) (low : k < 16) where
  -- a block that the root names lies in the pool
  names_inside : (b : ℕ) → root_word me.who r k ≡ b → b ≢ 0 → IsInside me b
  names_inside b names some = subst (λ (x : ℕ). IsInside me x) names (root_names me k ready.who low r ready.held ready.idle.op (λ z. some (sym names ∙ z))).0

  -- a step at the root may begin, where the memo shows the root to be so
  step_needs : (x : Aim) → (raises x First ≡ true → recovers r ≡ false) → AimFits me x → (own_word r.own (Era me.who me.who) ≤ last_era x → CanAim me.geometry.wide me.geometry.clients me.who r x (Root me.who k))
      → (raises x First ≡ true → is_reached me.who r (block_at x First) ≡ true) → IsSlotFor me.who x (Root me.who k) false → MayStepAt (Root me.who k) false (step_at me k x) r
  step_needs x client inside aim reach at =
      let can : CanStep me (address me.geometry (place.Root me.who k)) x (Root me.who k) r = can_root me.geometry me.who k ready.geometry ready.who low x r ready.idle client inside aim reach in
      record {
        step = record { made = refl; knows = (fits_root me.geometry me.who k ready.geometry ready.who low x r inside can).knows; can = can };
        at = at;
        era = era_room me r ready.held ready.who ready.idle.op;
      }

  up_needs : (b : ℕ) → recovers r ≡ false → root_word me.who r k ≡ 0 → is_reached me.who r b ≡ true → MayStepAt (Root me.who k) false (step_at me k (Up b)) r
  up_needs b client empty reach =
      step_needs (Up b) (λ e. client) (reach_inside me b r ready.held ready.who reach)
      (λ room. (refl, record { here = is_here me.who r ready.idle; idle = ready.idle.op; root = low; empty = empty; room = omega arith; source = inr reach }))
      (λ e. reach) refl

  down_needs : (b : ℕ) → root_word me.who r k ≡ b → b ≢ 0 → MayStepAt (Root me.who k) false (step_at me k (Down b)) r
  down_needs b names some =
      step_needs (Down b) (λ e. absurd (true≢false (sym e))) (names_inside b names some)
      (λ room. (refl, record { here = is_here me.who r ready.idle; idle = ready.idle.op; some = some; root = names; room = omega arith }))
      (λ e. absurd (true≢false (sym e))) refl

  change_needs : (a b : ℕ) → recovers r ≡ false → root_word me.who r k ≡ a → a ≢ 0 → a ≢ b → is_reached me.who r b ≡ true → MayStepAt (Root me.who k) false (step_at me k (Change a b)) r
  change_needs a b client names some other reach =
      step_needs (Change a b) (λ e. client) (names_inside a names some, reach_inside me b r ready.held ready.who reach)
      (λ room. (refl, record { may = record { here = is_here me.who r ready.idle; idle = ready.idle.op; room = omega arith }; some = some; root = names; other = other; source = reach }))
      (λ e. reach) refl

-- ---- an empty root comes to name a block

pub raising_laws : PlanLaws up_control raising_plan
raising_laws = single_laws raise_me raise_call raise_part up_control (λ m. refl) (λ m. refl) (λ (m : RaisingState). up_slot_laws (Root m.me.who m.root) false true)

pub raising_task : TaskLaws up_control raising_plan RaisingMay (λ m a. Unit {0})
raising_task =
    single_task raise_me raise_call raise_part up_control RaisingMay (λ m. refl) (λ m r ready h. (refl, up_needs m.me m.root r ready h.0 m.block h.1 h.2 h.3))
    (λ m r0 r tr es a ready l. step_idle m.me (Up m.block) (Root m.me.who m.root) false r0 r es (up_told a) l.did ready.idle)

-- ---- a root that names a block comes to be empty

pub lowering_laws : PlanLaws down_control lowering_plan
lowering_laws = single_laws lower_me lower_call lower_part down_control (λ m. refl) (λ m. refl) (λ (m : LoweringState). down_slot_laws (Root m.me.who m.root) false true)

pub lowering_task : TaskLaws down_control lowering_plan LoweringMay (λ m a. Unit {0})
lowering_task =
    single_task lower_me lower_call lower_part down_control LoweringMay (λ m. refl) (λ m r ready h. (refl, down_needs m.me m.root r ready h.0 m.block h.1 h.2))
    (λ m r0 r tr es a ready l. step_idle m.me (Down m.block) (Root m.me.who m.root) false r0 r es (down_told a) l.did ready.idle)

-- ---- a root that names a block comes to name another one

pub changing_laws : PlanLaws step_control changing_plan
changing_laws = single_laws change_me change_call change_part step_control (λ m. refl) (λ m. refl) (λ (m : ChangingState). change_slot_laws (Root m.me.who m.root) false true)

pub changing_task : TaskLaws step_control changing_plan ChangingMay (λ m a. Unit {0})
changing_task =
    single_task change_me change_call change_part step_control ChangingMay (λ m. refl) (λ m r ready h. (refl, change_needs m.me m.root r ready h.0 m.before m.after h.1 h.2 h.3 h.4 h.5))
    (λ m r0 r tr es a ready l. step_idle m.me (Change m.before m.after) (Root m.me.who m.root) false r0 r es a l.did ready.idle)
