-- the machines of count steps: their controls, when each fits, what it gives, and its laws
use Rattle.std.proofs.Common.{◌≡◌, Bool, true, false}
use Rattle.std.specs.Prelude.{Result, Ok, Err}
use Rattle.shm_graph.specs.{declared.{spot.Spot.Spot, memo.Memo.Memo}, Asks.Trail, Laws.Control, Mapped.mapped}
use Rattle.shm_count.specs.declared.{answer.{EraSpent.EraSpent, UpFault.UpFault}, point.Aim.Aim}
use Rattle.shm_count.specs.declared.point.{Aim.TheVariants.{Up, Down, Change}, StepState.StepState}
use Rattle.shm_count.specs.Step.{Control.{step_control, spent}, StepFits, StepGives}
use Rattle.shm_count.specs.declared.answer.UpFault.TheVariants as fault

-- ---- which of the three it is

-- whether a word comes to name a block, comes to be empty, or comes to name another block
abbrev pub is_up : Aim → Bool
is_up (Up b) = true
is_up x = false

abbrev pub is_down : Aim → Bool
is_down (Down b) = true
is_down x = false

abbrev pub is_change : Aim → Bool
is_change (Change a b) = true
is_change x = false

-- the state is one of such a step
abbrev pub IsUp : StepState → Type 0
IsUp m = is_up m.aim ≡ true

abbrev pub IsDown : StepState → Type 0
IsDown m = is_down m.aim ≡ true

abbrev pub IsChange : StepState → Type 0
IsChange m = is_change m.aim ≡ true

-- ---- what is answered

-- of a step up no count comes to 0
abbrev pub up_answer : Result Bool UpFault → Result (Unit {0}) UpFault
up_answer (Ok z) = Ok tt
up_answer (Err f) = Err f

-- of a step down no count is full
abbrev pub down_answer : Result Bool UpFault → Result Bool EraSpent
down_answer (Ok z) = Ok z
down_answer (Err f) = Err (spent f)

-- the controls of steps up and down
abbrev pub up_control : Control StepState (Result (Unit {0}) UpFault)
up_control = mapped up_answer step_control

abbrev pub down_control : Control StepState (Result Bool EraSpent)
down_control = mapped down_answer step_control

-- ---- when each fits, and what it gives: its slot is some spot

-- a step up, down, or of a change could begin at some spot, and is on its way there
abbrev pub UpFits : StepState → Memo → Memo → Trail → Type 0
UpFits m r0 r tr = IsUp m × ((p : Spot) × StepFits p m r0 r tr)

abbrev pub DownFits : StepState → Memo → Memo → Trail → Type 0
DownFits m r0 r tr = IsDown m × ((p : Spot) × StepFits p m r0 r tr)

abbrev pub ChangeFits : StepState → Memo → Memo → Trail → Type 0
ChangeFits m r0 r tr = IsChange m × ((p : Spot) × StepFits p m r0 r tr)

-- a step up, down, or of a change at some spot is done, or nothing is, as the answer tells
abbrev pub UpGives : StepState → Memo → Memo → Trail → Result (Unit {0}) UpFault → Type 0
UpGives m r0 r tr b = (a : Result Bool UpFault) × (up_answer a ≡ b) × (IsUp m × ((p : Spot) × StepGives p m r0 r tr a))

abbrev pub DownGives : StepState → Memo → Memo → Trail → Result Bool EraSpent → Type 0
DownGives m r0 r tr b = (a : Result Bool UpFault) × (down_answer a ≡ b) × (IsDown m × ((p : Spot) × StepGives p m r0 r tr a))

abbrev pub ChangeGives : StepState → Memo → Memo → Trail → Result Bool UpFault → Type 0
ChangeGives m r0 r tr a = IsChange m × ((p : Spot) × StepGives p m r0 r tr a)

-- ---- what an answer of a step up or down says: it tells all that the control's own answer says

-- the answers of the control that the answers of a step up and of a step down tell
abbrev pub up_told : Result (Unit {0}) UpFault → Result Bool UpFault
up_told (Ok t) = Ok false
up_told (Err f) = Err f

abbrev pub down_told : Result Bool EraSpent → Result Bool UpFault
down_told (Ok z) = Ok z
down_told (Err e) = Err (fault.EraSpent e.era)
