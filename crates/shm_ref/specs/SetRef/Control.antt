-- the control of setting a reference word of an own block: which call comes next, and where it goes by what that call answered
use Rattle.std.specs.Prelude.{ℕ, ◌+◌, ◌%◌, ◌<◌, ◌≤◌, Bool, true, false, ◌==◌, nat_le, if◌then◌else◌, Option, Some, None, Result, Ok, Err, []}
use Rattle.shm_words.specs.{Layout.{GeometryFits, address, total_of, address_limit}, Tags.{tag_author, tag_refs}}
use Rattle.shm_words.specs.declared.place.Place.TheVariants as place
use Rattle.shm_graph.specs.{declared.ask.{Ask.Ask, Me.Me}, Laws.Control}
use Rattle.shm_graph.specs.declared.ask.Ask.TheVariants as ask
use Rattle.plans.specs.{declared.{or.Or.{Or, TheVariants.{First, Second}}, word.Word.Word}, Either.or_control}
use Rattle.plans.specs.{Words.word_control, Steering.Steered}
use Rattle.shm_count.specs.declared.answer.{EraSpent.EraSpent as ASpent, UpFault.UpFault}
use Rattle.shm_count.specs.declared.{answer.UpFault.TheVariants.{EraSpent, CountFull}, point.StepPoint.TheVariants.Era}
use Rattle.shm_count.specs.declared.{point.StepState.StepState, tear_point.TearPoint.TheVariants.Begin}
use Rattle.shm_count.specs.{declared.tear_point.TearState.TearState, Step.Control.step_control}
use Rattle.shm_count.specs.{Step.Machines.{down_control, up_control}, Tear.Control.tear_control}
use Rattle.shm_count.specs.declared.point.Aim.TheVariants as aims
use Rattle.shm_ref.specs.declared.{answer.SetFault.SetFault, set_ref.SetPoint.SetPoint}
use Rattle.shm_ref.specs.declared.set_ref.SetPoint.TheVariants.{Tag, Held, Look, Raise, Lower, Change, Tear}
use Rattle.shm_ref.specs.declared.set_ref.SetState.{SetState}
use Rattle.shm_ref.specs.declared.answer.SetFault.TheVariants as fault

-- its calls, and what they answer
abbrev pub SetCall : Type 0
SetCall = Or Word (Or (Or StepState StepState) (Or StepState TearState))

abbrev pub SetAnswer : Type 0
SetAnswer = Or ℕ (Or (Or (Result (Unit {0}) UpFault) (Result Bool ASpent)) (Or (Result Bool UpFault) (Result (Unit {0}) ASpent)))

-- before its first call
abbrev pub setting : Me → ℕ → ℕ → ℕ → SetState
setting me b k to = record { me = me; block = b; word = k; to = to; before = 0; point = Tag }

-- ---- its calls

-- the word step at a point
abbrev pub set_ask : SetState → SetPoint → Ask
set_ask m Tag = ask.Load (m.block + 1)
set_ask m Held = ask.Load (address m.me.geometry (place.Hold m.me.who))
set_ask m y = ask.Load (m.block + 2 + m.word)

abbrev pub set_call_at : SetState → SetPoint → SetCall
set_call_at m Raise = Second (First (First (record { me = m.me; slot = m.block + 2 + m.word; aim = aims.Up m.to; point = Era })))
set_call_at m Lower = Second (First (Second (record { me = m.me; slot = m.block + 2 + m.word; aim = aims.Down m.before; point = Era })))
set_call_at m Change = Second (Second (First (record { me = m.me; slot = m.block + 2 + m.word; aim = aims.Change m.before m.to; point = Era })))
set_call_at m Tear = Second (Second (Second (record { me = m.me; first = m.before; block = m.before; point = Begin })))
set_call_at m y = First (record { me = m.me; ask = set_ask m y; over = false })

-- ---- where it goes

-- the count step by which a word that names `old` comes to be `to`
abbrev pub step_point : ℕ → ℕ → SetPoint
step_point old to = if old == 0 then Raise else if to == 0 then Lower else Change

-- by the word that was found
abbrev pub found_after : SetState → SetPoint → ℕ → SetState
found_after m Tag n = record m { point = Held }
found_after m Held n = record m { point = Look }
found_after m y n = record m { before = n % address_limit; point = step_point (n % address_limit) m.to }

abbrev pub found_turns : SetState → SetPoint → ℕ → Option (Result (Unit {0}) SetFault)
found_turns m Tag n = if tag_author m.me.geometry.wide n == m.me.who then (if nat_le (tag_refs m.me.geometry.wide n) m.word then Some (Err (fault.NoSuchRef (tag_refs m.me.geometry.wide n))) else None) else Some (Err (fault.NotAuthor (tag_author m.me.geometry.wide n)))
found_turns m Held n = if n == m.me.who + 1 then None else Some (Err fault.NotHeld)
found_turns m y n = if n % address_limit == m.to then Some (Ok tt) else None

-- by whether the count of the old block came to 0
abbrev pub lowered_after : SetState → Bool → SetState
lowered_after m true = record m { point = Tear }
lowered_after m false = m

abbrev pub lowered_turns : Bool → Option (Result (Unit {0}) SetFault)
lowered_turns true = None
lowered_turns false = Some (Ok tt)

-- a refusal of a count step, and of a step down
abbrev pub set_fault : UpFault → SetFault
set_fault (EraSpent e) = fault.EraSpent e
set_fault (CountFull b n) = fault.CountFull b n

abbrev pub spent_fault : ASpent → SetFault
spent_fault e = fault.EraSpent e.era

abbrev pub set_after : SetState → SetAnswer → SetState
set_after m (First n) = found_after m m.point n
set_after m (Second (First (Second (Ok z)))) = lowered_after m z
set_after m (Second (Second (First (Ok z)))) = lowered_after m z
set_after m _ = m

abbrev pub set_turns : SetState → SetAnswer → Option (Result (Unit {0}) SetFault)
set_turns m (First n) = found_turns m m.point n
set_turns m (Second (First (First (Ok done)))) = Some (Ok tt)
set_turns m (Second (First (First (Err f)))) = Some (Err (set_fault f))
set_turns m (Second (First (Second (Ok z)))) = lowered_turns z
set_turns m (Second (First (Second (Err e)))) = Some (Err (spent_fault e))
set_turns m (Second (Second (First (Ok z)))) = lowered_turns z
set_turns m (Second (Second (First (Err f)))) = Some (Err (set_fault f))
set_turns m (Second (Second (Second (Ok done)))) = Some (Ok tt)
set_turns m (Second (Second (Second (Err e)))) = Some (Err (spent_fault e))

abbrev pub is_tag : SetPoint → Bool
is_tag Tag = true
is_tag y = false

-- what the control keeps in range
pub record SetInRange (m : SetState) : Type 0 where
  pub geometry : GeometryFits m.me.geometry
  pub who : m.me.who < m.me.geometry.clients
  pub block : m.block + 2 ≤ total_of m.me.geometry
  pub word : m.word < 256
  pub to : m.to < address_limit
  pub before : m.before < address_limit

-- the control of its calls
abbrev pub set_parts : Control SetCall SetAnswer
set_parts = or_control word_control (or_control (or_control up_control down_control) (or_control step_control tear_control))

-- what the plan does: its identity and its line, its calls, and where it goes by their answers
abbrev pub set_steered : Steered SetState SetCall SetAnswer (Result (Unit {0}) SetFault)
set_steered =
    record {
      me = λ m. m.me;
      line = λ m. [];
      first = λ m. is_tag m.point;
      start = λ m. record m { before = 0; point = Tag };
      call = λ m. set_call_at m m.point;
      after = set_after;
      turns = set_turns;
    }
