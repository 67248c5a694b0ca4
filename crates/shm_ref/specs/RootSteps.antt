-- count steps at an own root as plans of one call: what they are, and when they may begin
use Rattle.std.specs.Prelude.{◌≡◌, ◌≢◌, ℕ, ◌<◌, Bool, true, false, List, Result}
use Rattle.shm_words.specs.Layout.{GeometryFits, address, address_limit}
use Rattle.shm_words.specs.declared.place.Place.TheVariants as place
use Rattle.shm_graph.specs.{declared.{ask.Me.Me, memo.Memo.Memo, spot.Spot.TheVariants.Root}, Agents.recovers}
use Rattle.shm_graph.specs.{Asks.Trail, Events.Event, Reach.is_reached}
use Rattle.plans.specs.{Parts.Part, Plans.Planned, Steering.Steered}
use Rattle.shm_count.specs.declared.{answer.{EraSpent.EraSpent, UpFault.UpFault}, point.Aim.Aim}
use Rattle.shm_count.specs.declared.point.{Aim.TheVariants.{Up, Down, Change}, StepPoint.TheVariants.Era}
use Rattle.shm_count.specs.{declared.point.StepState.StepState, Roots.root_word}
use Rattle.shm_count.specs.Slots.{Parts.{change_slot_part, down_slot_part, up_slot_part}, StepLeft}
use Rattle.shm_count.specs.Step.Machines.{down_told, up_told}
use Rattle.shm_ref.specs.declared.root_steps.{ChangingState.ChangingState, LoweringState.LoweringState}
use Rattle.shm_ref.specs.{declared.root_steps.RaisingState.RaisingState, Single.{single_plan, single_steered}}

-- the step with an aim at root k, before its first word step
abbrev pub step_at : Me → ℕ → Aim → StepState
step_at me k x = record { me = me; slot = address me.geometry (place.Root me.who k); aim = x; point = Era }

-- ---- an empty root comes to name a block

-- before its call
abbrev pub raising : Me → ℕ → ℕ → RaisingState
raising me k b = record { me = me; root = k; block = b }

-- what the control keeps in range
pub record RaisingInRange (m : RaisingState) : Type 0 where
  pub geometry : GeometryFits m.me.geometry
  pub who : m.me.who < m.me.geometry.clients
  pub root : m.root < 16
  pub block : m.block < address_limit

-- a client may have an empty root name a block in reach
abbrev pub RaisingMay : RaisingState → Memo → Type 0
RaisingMay m r = (m.root < 16) × (recovers r ≡ false) × (root_word m.me.who r m.root ≡ 0) × (is_reached m.me.who r m.block ≡ true)

-- its identity, its call, and the part that this is
abbrev pub raise_me : RaisingState → Me
raise_me m = m.me

abbrev pub raise_call : RaisingState → StepState
raise_call m = step_at m.me m.root (Up m.block)

abbrev pub raise_part : RaisingState → Part StepState (Result (Unit {0}) UpFault)
raise_part m = up_slot_part (Root m.me.who m.root) false

-- the step at the root leaves what its answer says
abbrev pub RaiseLeaves : RaisingState → Memo → Memo → Trail → List Event → Result (Unit {0}) UpFault → Type 0
RaiseLeaves m r0 r tr es a = StepLeft m.me (Up m.block) (Root m.me.who m.root) false r0 r tr es (up_told a)

abbrev pub raising_plan : Planned RaisingState StepState (Result (Unit {0}) UpFault) (Result (Unit {0}) UpFault)
raising_plan = single_plan raise_me raise_call raise_part

-- ---- a root that names a block comes to be empty

-- before its call
abbrev pub lowering : Me → ℕ → ℕ → LoweringState
lowering me k b = record { me = me; root = k; block = b }

-- what the control keeps in range
pub record LoweringInRange (m : LoweringState) : Type 0 where
  pub geometry : GeometryFits m.me.geometry
  pub who : m.me.who < m.me.geometry.clients
  pub root : m.root < 16
  pub block : m.block < address_limit

-- an identity may have a root lose the block that it names
abbrev pub LoweringMay : LoweringState → Memo → Type 0
LoweringMay m r = (m.root < 16) × (root_word m.me.who r m.root ≡ m.block) × (m.block ≢ 0)

-- its identity, its call, and the part that this is
abbrev pub lower_me : LoweringState → Me
lower_me m = m.me

abbrev pub lower_call : LoweringState → StepState
lower_call m = step_at m.me m.root (Down m.block)

abbrev pub lower_part : LoweringState → Part StepState (Result Bool EraSpent)
lower_part m = down_slot_part (Root m.me.who m.root) false

-- the step at the root leaves what its answer says
abbrev pub LowerLeaves : LoweringState → Memo → Memo → Trail → List Event → Result Bool EraSpent → Type 0
LowerLeaves m r0 r tr es a = StepLeft m.me (Down m.block) (Root m.me.who m.root) false r0 r tr es (down_told a)

abbrev pub lowering_steered : Steered LoweringState StepState (Result Bool EraSpent) (Result Bool EraSpent)
lowering_steered = single_steered lower_me lower_call

abbrev pub lowering_plan : Planned LoweringState StepState (Result Bool EraSpent) (Result Bool EraSpent)
lowering_plan = single_plan lower_me lower_call lower_part

-- ---- a root that names a block comes to name another one

-- before its call
abbrev pub changing : Me → ℕ → ℕ → ℕ → ChangingState
changing me k a b = record { me = me; root = k; before = a; after = b }

-- what the control keeps in range
pub record ChangingInRange (m : ChangingState) : Type 0 where
  pub geometry : GeometryFits m.me.geometry
  pub who : m.me.who < m.me.geometry.clients
  pub root : m.root < 16
  pub before : m.before < address_limit
  pub after : m.after < address_limit

-- a client may have a root that names a block name another one, which is in reach
abbrev pub ChangingMay : ChangingState → Memo → Type 0
ChangingMay m r = (m.root < 16) × (recovers r ≡ false) × (root_word m.me.who r m.root ≡ m.before) × (m.before ≢ 0) × (m.before ≢ m.after) × (is_reached m.me.who r m.after ≡ true)

-- its identity, its call, and the part that this is
abbrev pub change_me : ChangingState → Me
change_me m = m.me

abbrev pub change_call : ChangingState → StepState
change_call m = step_at m.me m.root (Change m.before m.after)

abbrev pub change_part : ChangingState → Part StepState (Result Bool UpFault)
change_part m = change_slot_part (Root m.me.who m.root) false

-- the step at the root leaves what its answer says
abbrev pub ChangeLeaves : ChangingState → Memo → Memo → Trail → List Event → Result Bool UpFault → Type 0
ChangeLeaves m = StepLeft m.me (Change m.before m.after) (Root m.me.who m.root) false

abbrev pub changing_plan : Planned ChangingState StepState (Result Bool UpFault) (Result Bool UpFault)
changing_plan = single_plan change_me change_call change_part
