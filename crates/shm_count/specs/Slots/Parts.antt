-- count steps at each kind of slot as parts, by what they leave of the memo
use Rattle.std.proofs.Common.{◌≡◌, ◌<◌, ◌≤◌, refl, sym, ap, ◌∙◌, subst, arith, Bool, cond, List}
use Rattle.std.specs.Prelude.{Result, Ok, Err}
use Rattle.shm_graph.specs.{declared.{ask.Me.Me, spot.Spot.Spot, memo.{Memo.Memo, Stored.Stored}}, Events.Event}
use Rattle.shm_graph.specs.{Views.own_word, Core.core}
use Rattle.shm_graph.specs.declared.spot.Spot.TheVariants as spot
use Rattle.plans.specs.{Parts.{Part, PartLaws, weaker}, Proved.Parts.weaker_laws}
use Rattle.shm_count.specs.declared.{answer.{EraSpent.EraSpent, UpFault.UpFault}, point.Aim.Aim}
use Rattle.shm_count.specs.declared.point.{Aim.TheVariants.{Up, Down, Change}, StepState.StepState}
use Rattle.shm_count.specs.CountParts.{down_part, down_part_laws, up_part, up_part_laws, change_part, change_part_laws}
use Rattle.shm_count.specs.Proved.{Step.{Bound.step_bound, Parts.lasting_not}, Slots.Ups.up_leaves}
use Rattle.shm_count.specs.{Proved.Slots.{Downs.down_leaves_at, Changes.change_leaves_at}, Step.Control.step_control}
use Rattle.shm_count.specs.Step.{Events.own_events, Gives, Refused}
use Rattle.shm_count.specs.Step.Machines.{down_control, up_control, down_told, up_told, IsDown, IsUp, IsChange}
use Rattle.shm_count.specs.Slots.{IsSlotFor, MayStepAt, StepCause, StepDid, StepLeft, Untouched}
use Rattle.shm_count.specs.declared.answer.UpFault.TheVariants as fault

-- nothing was done
pub untouched : (me : Me) (x : Aim) (p : Spot) (h : Bool) (m r : Memo) (f : UpFault) → Refused me x m r f → Untouched me.who m r × StepCause me x m f
untouched me x p h m r (fault.EraSpent e) (same, is, late) = (
  record {
    rest = same ∙ ap (λ (o : List Stored). core (record m { own = o })) (sym (ap (λ (u : Memo). u.own) same));
    own = λ s l. ap (λ (u : Memo). own_word u.own s) same;
    rows = λ j. subst (λ y. own_word m.own (spot.Era me.who j) ≤ y) (sym (ap (λ (u : Memo). own_word u.own (spot.Era me.who j)) same)) (omega arith);
  },
  (is, late),
)
untouched me x p h m r (fault.CountFull b n) (full, is, up, (v, rows)) = (
  record {
    rest = rows.rest;
    own = λ s l. let y = lasting_not me.who s l in rows.own s y.1 ∙ ap (λ k. cond k v (own_word m.own s)) y.2;
    rows = rows.more;
  },
  (full, is, up),
)

-- ---- the parts

module _ (p : Spot) (h : Bool) where
  -- what a step did that gave this, in the words of its slot
  did_at : (m : StepState) (rs r : Memo) (es : List Event) (a : Result Bool UpFault) → MayStepAt p h m rs → Gives m.me m.slot m.aim p rs r a → es ≡ own_events m.me m.aim p a → StepDid m.me m.aim p h rs r es a
  did_at m rs r es a n gives events = go m.aim a refl gives events
    where
      small : m.me.who < 64
      small = let u = n.step.can.geometry.clients in let l = n.step.can.who in omega arith

      go : (x : Aim) (b : Result Bool UpFault) → m.aim ≡ x → Gives m.me m.slot x p rs r b → es ≡ own_events m.me x p b → StepDid m.me x p h rs r es b
      go (Up b) (Ok z) e g d = (up_leaves m.me m.slot b p rs r z (subst (λ (y : Aim). IsSlotFor m.me.who y p h) e n.at) n.step.can.idle g, d)
      go (Down b) (Ok z) e g d = (down_leaves_at m.me h m.slot b p rs r z (subst (λ (y : Aim). IsSlotFor m.me.who y p h) e n.at) small (let u = n.era in omega arith) g, d)
      go (Change a2 b) (Ok z) e g d = (change_leaves_at m.me m.slot a2 b p h rs r z (subst (λ (y : Aim). IsSlotFor m.me.who y p h) e n.at) small n.era g, d)
      go (Up b) (Err f) e g d = let y = untouched m.me (Up b) p h rs r f g in (y.0, y.1, d)
      go (Down b) (Err f) e g d = let y = untouched m.me (Down b) p h rs r f g in (y.0, y.1, d)
      go (Change a2 b) (Err f) e g d = let y = untouched m.me (Change a2 b) p h rs r f g in (y.0, y.1, d)

  abbrev pub up_slot_part : Part StepState (Result (Unit {0}) UpFault)
  up_slot_part = weaker (up_part p) (λ m r. IsUp m × MayStepAt p h m r) (λ m rs r t es a. StepLeft m.me m.aim p h rs r t es (up_told a))

  pub up_slot_laws : (first : Bool) → PartLaws first up_control up_slot_part
  up_slot_laws first =
      weaker_laws first up_control (up_part p) (λ m r. IsUp m × MayStepAt p h m r) (λ m rs r t es a. StepLeft m.me m.aim p h rs r t es (up_told a))
      (λ m r n. (n.0, n.1.step)) (λ m rs r t es a n s held same. record { did = did_at m rs r es (up_told a) n.1 s.gives s.events; status = s.status; grows = s.grows; bound = step_bound m.me m.slot m.aim t (up_told a) s.trail }) (up_part_laws p first)

  abbrev pub down_slot_part : Part StepState (Result Bool EraSpent)
  down_slot_part = weaker (down_part p) (λ m r. IsDown m × MayStepAt p h m r) (λ m rs r t es a. StepLeft m.me m.aim p h rs r t es (down_told a))

  pub down_slot_laws : (first : Bool) → PartLaws first down_control down_slot_part
  down_slot_laws first =
      weaker_laws first down_control (down_part p) (λ m r. IsDown m × MayStepAt p h m r) (λ m rs r t es a. StepLeft m.me m.aim p h rs r t es (down_told a))
      (λ m r n. (n.0, n.1.step)) (λ m rs r t es a n s held same. record { did = did_at m rs r es (down_told a) n.1 s.gives s.events; status = s.status; grows = s.grows; bound = step_bound m.me m.slot m.aim t (down_told a) s.trail }) (down_part_laws p first)

  abbrev pub change_slot_part : Part StepState (Result Bool UpFault)
  change_slot_part = weaker (change_part p) (λ m r. IsChange m × MayStepAt p h m r) (λ m rs r t es a. StepLeft m.me m.aim p h rs r t es a)

  pub change_slot_laws : (first : Bool) → PartLaws first step_control change_slot_part
  change_slot_laws first =
      weaker_laws first step_control (change_part p) (λ m r. IsChange m × MayStepAt p h m r) (λ m rs r t es a. StepLeft m.me m.aim p h rs r t es a)
      (λ m r n. (n.0, n.1.step)) (λ m rs r t es a n s held same. record { did = did_at m rs r es a n.1 s.gives s.events; status = s.status; grows = s.grows; bound = step_bound m.me m.slot m.aim t a s.trail }) (change_part_laws p first)
