-- the machines of count steps: their controls, when each fits, what it gives, and its laws: what is proved of it
use Rattle.std.proofs.{Common.{◌≡◌, ℕ, Bool, true, false, refl, sym, ap}, lemmas.Bool.true≢false}
use Rattle.std.specs.Prelude.{Result, Ok, Err}
use Rattle.shm_graph.specs.{declared.{ask.Me.Me, spot.Spot.Spot, memo.Memo.Memo}, Asks.Trail}
use Rattle.shm_graph.specs.{Laws.{Laws, EachStepKeeps}, Mapped.{SomeFits, SomeGives, AmongFits, AmongGives}}
use Rattle.shm_graph.specs.Proved.Mapped.{mapped_laws, some_laws, among_laws}
use Rattle.shm_count.specs.declared.{answer.{EraSpent.EraSpent, UpFault.UpFault}, point.Aim.Aim}
use Rattle.shm_count.specs.declared.point.{Aim.TheVariants.{Up, Down, Change}, StepState.StepState}
use Rattle.shm_count.specs.Step.{Control.step_control, StepFits, StepGives, Done, Refused}
use Rattle.shm_count.specs.Step.Machines.{is_up, is_down, IsUp, IsDown, IsChange, up_answer, down_answer, up_control, down_control, UpFits, DownFits, ChangeFits, UpGives, DownGives, ChangeGives, up_told, down_told}
use Rattle.shm_count.specs.Proved.Step.Laws.{step_steady, step_inside, step_back}
use Rattle.shm_count.specs.declared.answer.UpFault.TheVariants as fault

-- ---- what an answer of a step up or down says: it tells all that the control's own answer says

-- no count comes to 0 where one goes up
up_zero : (me : Me) (slot : ℕ) (x : Aim) (p : Spot) (r0 r : Memo) (z : Bool) → is_up x ≡ true → Done me slot x p r0 r z → z ≡ false
up_zero me slot (Up b) p r0 r z u d = d.6
up_zero me slot (Down b) p r0 r z u d = absurd (true≢false (sym u))
up_zero me slot (Change a b) p r0 r z u d = absurd (true≢false (sym u))

-- the answer of a step up tells the whole answer of its control
pub up_same : (p : Spot) (m : StepState) (r0 r : Memo) (tr : Trail) (a : Result Bool UpFault) → IsUp m → StepGives p m r0 r tr a → a ≡ up_told (up_answer a)
up_same p m r0 r tr (Ok z) u g = ap (λ (y : Bool). Ok y) (up_zero m.me m.slot m.aim p r0 r z u g.gives)
up_same p m r0 r tr (Err f) u g = refl

-- no count is full where one goes down
down_full : (me : Me) (x : Aim) (r0 r : Memo) (b n : ℕ) → is_down x ≡ true → Refused me x r0 r (fault.CountFull b n) → ⊥
down_full me (Up c) r0 r b n u d = true≢false (sym u)
down_full me (Down c) r0 r b n u d = true≢false (sym d.2)
down_full me (Change a c) r0 r b n u d = true≢false (sym u)

-- the answer of a step down tells the whole answer of its control
pub down_same : (p : Spot) (m : StepState) (r0 r : Memo) (tr : Trail) (a : Result Bool UpFault) → IsDown m → StepGives p m r0 r tr a → a ≡ down_told (down_answer a)
down_same p m r0 r tr (Ok z) u g = refl
down_same p m r0 r tr (Err (fault.EraSpent e)) u g = refl
down_same p m r0 r tr (Err (fault.CountFull b n)) u g = absurd (down_full m.me m.aim r0 r b n u g.gives)

-- ---- the laws, from the one of the steps

module _ (keeps : (p : Spot) → EachStepKeeps step_control (StepFits p) (StepGives p)) where
  -- the laws of a step at some spot
  step_laws : Laws step_control (SomeFits StepFits) (SomeGives StepGives)
  step_laws = some_laws step_control StepFits StepGives step_steady step_inside step_back keeps

  -- the laws of those steps whose states are among Q
  among : (Q : StepState → Type 0) → ((m : StepState) (n : ℕ) → Q m → Q (step_control.after m n)) → ((m : StepState) (n : ℕ) → Q (step_control.after m n) → Q m) → Laws step_control (AmongFits Q (SomeFits StepFits)) (AmongGives Q (SomeGives StepGives))
  among Q stays came = among_laws step_control (SomeFits StepFits) (SomeGives StepGives) Q stays came step_laws

  -- the laws of the three machines
  pub up_laws : Laws up_control UpFits UpGives
  up_laws = mapped_laws up_answer step_control UpFits (AmongGives IsUp (SomeGives StepGives)) (among IsUp (λ m n q. q) (λ m n q. q))

  pub down_laws : Laws down_control DownFits DownGives
  down_laws = mapped_laws down_answer step_control DownFits (AmongGives IsDown (SomeGives StepGives)) (among IsDown (λ m n q. q) (λ m n q. q))

  pub change_laws : Laws step_control ChangeFits ChangeGives
  change_laws = among IsChange (λ m n q. q) (λ m n q. q)
