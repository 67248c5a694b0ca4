-- count steps at a spot that is known, as calls of larger machines: when each fits, what it gives, its laws, and the events that it tells of
use Rattle.std.proofs.Common.{Bool, ap, ◌∙◌, subst}
use Rattle.std.specs.Prelude.{Result}
use Rattle.shm_graph.specs.{declared.{spot.Spot.Spot, memo.Memo.Memo}, Asks.Trail, Laws.Laws}
use Rattle.shm_graph.specs.Mapped.{OnTheWay, AtTheEnd, MappedGives, AmongFits, AmongGives}
use Rattle.shm_graph.specs.{Proved.Mapped.{mapped_laws, among_laws}, Tells.Tells}
use Rattle.shm_count.specs.declared.{answer.{EraSpent.EraSpent, UpFault.UpFault}, point.StepState.StepState}
use Rattle.shm_count.specs.Step.{Control.step_control, Events.step_event, StepFits, StepGives}
use Rattle.shm_count.specs.Step.Machines.{IsUp, IsDown, IsChange, up_answer, down_answer, up_control, down_control, up_told, down_told}
use Rattle.shm_count.specs.Proved.Step.{Keeps.step_keeps, Laws.{step_steady, step_inside, step_back}}
use Rattle.shm_count.specs.Proved.Step.{Machines.{up_same, down_same}, Tells.step_tells}

module _ (p : Spot) where
  step_laws : Laws step_control (StepFits p) (StepGives p)
  step_laws = record { steady = step_steady; inside = step_inside p; back = step_back p; keeps = step_keeps p }

  -- a step down at p
  abbrev pub DownFitsAt : OnTheWay StepState
  DownFitsAt = AmongFits IsDown (StepFits p)

  abbrev pub DownGivesAt : AtTheEnd StepState (Result Bool EraSpent)
  DownGivesAt = MappedGives down_answer (AmongGives IsDown (StepGives p))

  pub down_laws_at : Laws down_control DownFitsAt DownGivesAt
  down_laws_at = mapped_laws down_answer step_control DownFitsAt (AmongGives IsDown (StepGives p)) (among_laws step_control (StepFits p) (StepGives p) IsDown (λ m n q. q) (λ m n q. q) step_laws)

  pub down_tells_at : Tells down_control DownFitsAt (step_event p)
  down_tells_at m r0 tr w r f going st fit = step_tells p m r0 tr w r f going st fit.1

  -- what it gives by its answer
  pub down_gave : (m : StepState) (r0 r : Memo) (tr : Trail) (b : Result Bool EraSpent) → DownGivesAt m r0 r tr b → StepGives p m r0 r tr (down_told b)
  down_gave m r0 r tr b g = subst (StepGives p m r0 r tr) (down_same p m r0 r tr g.0 g.2.0 g.2.1 ∙ ap down_told g.1) g.2.1

  -- a step up at p
  abbrev pub UpFitsAt : OnTheWay StepState
  UpFitsAt = AmongFits IsUp (StepFits p)

  abbrev pub UpGivesAt : AtTheEnd StepState (Result (Unit {0}) UpFault)
  UpGivesAt = MappedGives up_answer (AmongGives IsUp (StepGives p))

  pub up_laws_at : Laws up_control UpFitsAt UpGivesAt
  up_laws_at = mapped_laws up_answer step_control UpFitsAt (AmongGives IsUp (StepGives p)) (among_laws step_control (StepFits p) (StepGives p) IsUp (λ m n q. q) (λ m n q. q) step_laws)

  pub up_tells_at : Tells up_control UpFitsAt (step_event p)
  up_tells_at m r0 tr w r f going st fit = step_tells p m r0 tr w r f going st fit.1

  pub up_gave : (m : StepState) (r0 r : Memo) (tr : Trail) (b : Result (Unit {0}) UpFault) → UpGivesAt m r0 r tr b → StepGives p m r0 r tr (up_told b)
  up_gave m r0 r tr b g = subst (StepGives p m r0 r tr) (up_same p m r0 r tr g.0 g.2.0 g.2.1 ∙ ap up_told g.1) g.2.1

  -- a change at p
  abbrev pub ChangeFitsAt : OnTheWay StepState
  ChangeFitsAt = AmongFits IsChange (StepFits p)

  abbrev pub ChangeGivesAt : AtTheEnd StepState (Result Bool UpFault)
  ChangeGivesAt = AmongGives IsChange (StepGives p)

  pub change_laws_at : Laws step_control ChangeFitsAt ChangeGivesAt
  change_laws_at = among_laws step_control (StepFits p) (StepGives p) IsChange (λ m n q. q) (λ m n q. q) step_laws

  pub change_tells_at : Tells step_control ChangeFitsAt (step_event p)
  change_tells_at m r0 tr w r f going st fit = step_tells p m r0 tr w r f going st fit.1
