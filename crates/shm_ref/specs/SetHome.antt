-- setting the own home as a plan: its control, what is known before each call, and what is left
use Rattle.std.specs.Prelude.{◌≡◌, ◌≢◌, ℕ, ◌+◌, ◌%◌, ◌^◌, ◌<◌, Bool, true, false, ◌==◌, if◌then◌else◌, Option, None, Some, Result, Ok, Err, List, [], ◌∷◌}
use Rattle.shm_words.specs.Layout.{GeometryFits, address_limit}
use Rattle.shm_graph.specs.declared.{ask.Me.Me, memo.{Memo.Memo, Op.TheVariants.Nothing}}
use Rattle.shm_graph.specs.{declared.spot.Spot.TheVariants.{Era, Home}, Agents.recovers, Asks.{Trail, IsWithin}}
use Rattle.shm_graph.specs.{Bounds.up_steps, Core.core, Events.Event, Laws.Control, Reach.is_reached}
use Rattle.shm_graph.specs.{MemoAfterRead.home_read, Views.own_word}
use Rattle.shm_graph.specs.declared.ask.Ask.TheVariants as ask
use Rattle.shm_graph.specs.Events as event
use Rattle.plans.specs.declared.{or.Or.{Or, TheVariants.{First, Second}}, word.Word.Word}
use Rattle.plans.specs.{Either.{or_control, or_part}, Plans.Planned, Words.word_control, Steering.Steered}
use Rattle.kind_parts.specs.Conditions.{IsHere}
use Rattle.shm_count.specs.declared.answer.UpFault.{UpFault, TheVariants.{EraSpent, CountFull}}
use Rattle.shm_count.specs.declared.point.{Aim.TheVariants.Up, StepState.StepState}
use Rattle.shm_count.specs.{Slots.{Filled, StepCause, Untouched, Parts.up_slot_part}, Step.Control.IsInside}
use Rattle.shm_count.specs.Step.{KeepsPart, Machines.up_control}
use Rattle.shm_count.specs.declared.point.StepPoint.TheVariants as point
use Rattle.shm_ref.specs.declared.{answer.HomeFault.HomeFault, set_home.HomePoint.HomePoint}
use Rattle.shm_ref.specs.declared.set_home.{HomePoint.TheVariants.{Load, Raise}, HomeState.HomeState}
use Rattle.shm_ref.specs.HomeParts.{home_address, home_part}
use Rattle.shm_ref.specs.declared.answer.HomeFault.TheVariants as fault

-- ---- the control

-- its calls, and what they answer
abbrev pub HomeCall : Type 0
HomeCall = Or Word StepState

abbrev pub HomeAnswer : Type 0
HomeAnswer = Or ℕ (Result (Unit {0}) UpFault)

-- before its first call
abbrev pub homing : Me → ℕ → HomeState
homing me b = record { me = me; block = b; point = Load }

abbrev pub home_call_at : HomeState → HomePoint → HomeCall
home_call_at m Load = First (record { me = m.me; ask = ask.Load (home_address m.me); over = false })
home_call_at m Raise = Second (record { me = m.me; slot = home_address m.me; aim = Up m.block; point = point.Era })

abbrev pub home_after : HomeState → HomeAnswer → HomeState
home_after m (First n) = record m { point = Raise }
home_after m (Second a) = m

-- a step up that was refused
abbrev pub home_fault : UpFault → HomeFault
home_fault (EraSpent e) = fault.EraSpent e
home_fault (CountFull b n) = fault.CountFull b n

abbrev pub home_turns : HomeState → HomeAnswer → Option (Result (Unit {0}) HomeFault)
home_turns m (First n) = if n == 0 then None else Some (Err (fault.HomeSet (n % address_limit)))
home_turns m (Second (Ok done)) = Some (Ok tt)
home_turns m (Second (Err f)) = Some (Err (home_fault f))

abbrev pub is_load : HomePoint → Bool
is_load Load = true
is_load y = false

-- what the control keeps in range
pub record HomeInRange (m : HomeState) : Type 0 where
  pub geometry : GeometryFits m.me.geometry
  pub who : m.me.who < m.me.geometry.clients
  pub block : m.block < address_limit

-- the control of its calls
abbrev pub home_parts : Control HomeCall HomeAnswer
home_parts = or_control word_control up_control

-- ---- when it may begin, and on the way

-- no step is in progress, the agent is a client, and the block is in reach; where the home is empty the step up keeps the partition
pub record MaySetHome (me : Me) (b : ℕ) (r : Memo) : Type 0 where
  pub geometry : GeometryFits me.geometry
  pub who : me.who < me.geometry.clients
  pub here : IsHere r
  pub idle : r.op ≡ Nothing
  pub client : recovers r ≡ false
  pub inside : IsInside me b
  pub reach : is_reached me.who r b ≡ true
  pub part : own_word r.own (Home me.who) ≡ 0 → KeepsPart me.geometry.wide me.who r (Up b) (Home me.who)

-- the home is empty, and nothing was done yet
pub record IsHomeless (me : Me) (b : ℕ) (r0 r : Memo) (tr : Trail) (es : List Event) : Type 0 where
  pub may : MaySetHome me b r0
  pub same : core r ≡ core r0
  pub client : recovers r ≡ false
  pub empty : own_word r0.own (Home me.who) ≡ 0
  pub era : own_word r.own (Era me.who me.who) + 1 < 2 ^ 47
  pub none : es ≡ []
  pub bound : IsWithin 1 tr

abbrev pub HomeKnows : HomeState → HomePoint → Memo → Memo → Trail → List Event → Type 0
HomeKnows m Load r0 r tr es = MaySetHome m.me m.block r0 × (r ≡ r0) × (tr ≡ []) × (es ≡ [])
HomeKnows m Raise r0 r tr es = IsHomeless m.me m.block r0 r tr es

-- ---- what it leaves

-- the home was empty, and names the block
pub record HomeFilled (me : Me) (b : ℕ) (r0 r : Memo) (tr : Trail) (es : List Event) : Type 0 where
  pub empty : own_word r0.own (Home me.who) ≡ 0
  pub filled : Filled me.who (Home me.who) b r0 r
  pub events : es ≡ event.Up me.who (Home me.who) b ∷ []
  pub bound : IsWithin (1 + up_steps me.geometry.wide) tr

-- the home named a block, which is a look where the own latch is held; or it was empty, and the step up was refused
abbrev pub HomeStays : Me → ℕ → Memo → Memo → HomeFault → Type 0
HomeStays me b r0 r (fault.HomeSet x) = (x ≡ own_word r0.own (Home me.who)) × (x ≢ 0) × (core r ≡ core (home_read r0 me.who x))
HomeStays me b r0 r (fault.EraSpent e) = (own_word r0.own (Home me.who) ≡ 0) × Untouched me.who r0 r × StepCause me (Up b) r0 (EraSpent e)
HomeStays me b r0 r (fault.CountFull d n) = (own_word r0.own (Home me.who) ≡ 0) × Untouched me.who r0 r × StepCause me (Up b) r0 (CountFull d n)

-- a refusal is no event
pub record HomeRefused (me : Me) (b : ℕ) (r0 r : Memo) (tr : Trail) (es : List Event) (f : HomeFault) : Type 0 where
  pub stays : HomeStays me b r0 r f
  pub none : es ≡ []
  pub bound : IsWithin (1 + up_steps me.geometry.wide) tr

abbrev pub HomeLeaves : HomeState → Memo → Memo → Trail → List Event → Result (Unit {0}) HomeFault → Type 0
HomeLeaves m r0 r tr es (Ok done) = HomeFilled m.me m.block r0 r tr es
HomeLeaves m r0 r tr es (Err f) = HomeRefused m.me m.block r0 r tr es f

-- ---- the plan

abbrev pub home_steered : Steered HomeState HomeCall HomeAnswer (Result (Unit {0}) HomeFault)
home_steered =
    record {
      me = λ m. m.me;
      line = λ m. [];
      first = λ m. is_load m.point;
      start = λ m. record m { point = Load };
      call = λ m. home_call_at m m.point;
      after = home_after;
      turns = home_turns;
    }

abbrev pub home_plan : Planned HomeState HomeCall HomeAnswer (Result (Unit {0}) HomeFault)
home_plan =
    record {
      steered = home_steered;
      part = λ m. or_part (home_part m.me (is_load m.point)) (up_slot_part (Home m.me.who) false);
      knows = λ m. HomeKnows m m.point;
      leaves = HomeLeaves;
    }
