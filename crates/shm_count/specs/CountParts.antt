-- count steps and tear-downs as parts of larger machines
use Rattle.std.proofs.Common.{◌≡◌, Bool, true, sym, ap, ◌∙◌, subst, List}
use Rattle.std.specs.Prelude.{Result}
use Rattle.shm_graph.specs.{declared.{spot.Spot.Spot, memo.Memo.Memo}, Asks.Trail, Events.Event, Tells.happens_along}
use Rattle.plans.specs.{Proved.{CallTells.mapped_events, Placed.placed}, Grown.Grows, Parts.{Part, PartLaws}}
use Rattle.shm_count.specs.declared.{answer.{EraSpent.EraSpent, UpFault.UpFault}, point.StepPoint.TheVariants.Era}
use Rattle.shm_count.specs.declared.{point.StepState.StepState, tear_point.TearPoint.TheVariants.Begin}
use Rattle.shm_count.specs.{declared.tear_point.TearState.TearState, Step.Control.{StepInRange, step_control}}
use Rattle.shm_count.specs.Step.{Events.{step_event, own_events}, CanStep, Gives, StepGives}
use Rattle.shm_count.specs.Step.Machines.{IsUp, IsDown, IsChange, up_answer, up_control, up_told, down_answer, down_control, down_told}
use Rattle.shm_count.specs.Step.Asks.{step_trail}
use Rattle.shm_count.specs.StepsAt.{UpFitsAt, UpGivesAt, up_laws_at, up_tells_at, up_gave, DownFitsAt, DownGivesAt, down_laws_at, down_tells_at, down_gave, ChangeFitsAt, ChangeGivesAt, change_laws_at, change_tells_at}
use Rattle.shm_count.specs.Tear.{Events.tear_event, CanTear, TearFits, TearGives, TearLeaves, Asks.tear_trail}
use Rattle.shm_count.specs.Proved.Step.Going as steps

-- ---- count steps at the spot p

-- it is made, and may begin
pub record IsStep (p : Spot) (m : StepState) (r : Memo) : Type 0 where
  pub made : m.point ≡ Era
  pub knows : StepInRange m
  pub can : CanStep m.me m.slot m.aim p r

-- it is done or nothing is, with the events of its answer; the agent and the status are what they were
pub record StepLeaves (p : Spot) (m : StepState) (rs r : Memo) (t : Trail) (es : List Event) (a : Result Bool UpFault) : Type 0 where
  pub gives : Gives m.me m.slot m.aim p rs r a
  pub grows : Grows true rs r
  pub status : r.status ≡ rs.status
  pub events : es ≡ own_events m.me m.aim p a
  pub trail : step_trail m.me m.slot m.aim t a

module _ (p : Spot) where
  pub step_left : (m : StepState) (rs r : Memo) (t : Trail) (a : Result Bool UpFault) → m.point ≡ Era → StepGives p m rs r t a → StepLeaves p m rs r t (happens_along step_control (step_event p) m t) a
  step_left m rs r t a e g = record { gives = g.gives; grows = g.grows; status = g.status; events = ap (λ y. happens_along step_control (step_event p) (record m { point = y }) t) e ∙ g.events; trail = g.trail }

  abbrev pub down_part : Part StepState (Result Bool EraSpent)
  down_part = record { fits = DownFitsAt p; gives = DownGivesAt p; does = step_event p; needs = λ m r. IsDown m × IsStep p m r; leaves = λ m rs r t es b. StepLeaves p m rs r t es (down_told b); asks = λ m t b. step_trail m.me m.slot m.aim t (down_told b) }

  pub down_part_laws : (first : Bool) → PartLaws first down_control down_part
  down_part_laws first =
      record {
        placed = placed first down_control (DownFitsAt p) (DownGivesAt p) (down_laws_at p);
        tells = down_tells_at p;
        begins = λ m r n. (n.0, steps.begins p m r n.1.made n.1.knows n.1.can);
        ends = λ m rs r t b n g held same. subst (λ (es : List Event). StepLeaves p m rs r t es (down_told b)) (sym (mapped_events down_answer step_control (step_event p) m t)) (step_left m rs r t (down_told b) n.1.made (down_gave p m rs r t b g));
        asked = λ m rs r t b n g. (down_gave p m rs r t b g).trail;
      }

  abbrev pub up_part : Part StepState (Result (Unit {0}) UpFault)
  up_part = record { fits = UpFitsAt p; gives = UpGivesAt p; does = step_event p; needs = λ m r. IsUp m × IsStep p m r; leaves = λ m rs r t es b. StepLeaves p m rs r t es (up_told b); asks = λ m t b. step_trail m.me m.slot m.aim t (up_told b) }

  pub up_part_laws : (first : Bool) → PartLaws first up_control up_part
  up_part_laws first =
      record {
        placed = placed first up_control (UpFitsAt p) (UpGivesAt p) (up_laws_at p);
        tells = up_tells_at p;
        begins = λ m r n. (n.0, steps.begins p m r n.1.made n.1.knows n.1.can);
        ends = λ m rs r t b n g held same. subst (λ (es : List Event). StepLeaves p m rs r t es (up_told b)) (sym (mapped_events up_answer step_control (step_event p) m t)) (step_left m rs r t (up_told b) n.1.made (up_gave p m rs r t b g));
        asked = λ m rs r t b n g. (up_gave p m rs r t b g).trail;
      }

  abbrev pub change_part : Part StepState (Result Bool UpFault)
  change_part = record { fits = ChangeFitsAt p; gives = ChangeGivesAt p; does = step_event p; needs = λ m r. IsChange m × IsStep p m r; leaves = StepLeaves p; asks = λ m t b. step_trail m.me m.slot m.aim t b }

  pub change_part_laws : (first : Bool) → PartLaws first step_control change_part
  change_part_laws first =
      record {
        placed = placed first step_control (ChangeFitsAt p) (ChangeGivesAt p) (change_laws_at p);
        tells = change_tells_at p;
        begins = λ m r n. (n.0, steps.begins p m r n.1.made n.1.knows n.1.can);
        ends = λ m rs r t b n g held same. step_left m rs r t b n.1.made g.1;
        asked = λ m rs r t b n g. g.1.trail;
      }

-- ---- tear-downs

-- it is made, and may begin
pub record IsTear (m : TearState) (r : Memo) : Type 0 where
  pub made : m ≡ record { me = m.me; first = m.first; block = m.first; point = Begin }
  pub can : CanTear m.me m.first r

abbrev pub tear_part : Part TearState (Result (Unit {0}) EraSpent)
tear_part = record { fits = TearFits; gives = TearGives; does = tear_event; needs = IsTear; leaves = λ m rs r t es a. TearLeaves m.me m.first rs r es t a; asks = λ m. tear_trail m.me m.first }
