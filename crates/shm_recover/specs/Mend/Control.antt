-- the control of mending: which call comes next, and where it goes by what that call answered
use Rattle.std.specs.Prelude.{◌≡◌, ℕ, ◌+◌, ◌%◌, ◌^◌, ◌<◌, Bool, true, false, not, if◌then◌else◌, Option, Some, None, []}
use Rattle.shm_words.specs.{declared.redo.Redo.Redo as ARedo, Layout.{GeometryFits, address}, Redos.redo_of}
use Rattle.shm_words.specs.declared.place.Place.TheVariants as place
use Rattle.shm_words.specs.declared.redo.Redo.TheVariants as redos
use Rattle.shm_graph.specs.{declared.ask.{Ask.Ask, Me.Me}, Laws.Control}
use Rattle.shm_graph.specs.declared.ask.Ask.TheVariants as ask
use Rattle.plans.specs.declared.{calls.Calls.Calls, or.Or.{Or, TheVariants.{First, Second}}, word.Word.Word}
use Rattle.plans.specs.{CallsControl.{calls_control, calls_of}, Either.or_control, Words.word_control, Steering.Steered}
use Rattle.shm_count.specs.declared.commit_test.Commit.{Commit, TheVariants.{Committed, NotCommitted}}
use Rattle.shm_count.specs.declared.commit_test.TestingState.{TestingState}
use Rattle.shm_count.specs.CommitTest.Control.{testing, testing_steered, is_first_half}
use Rattle.shm_recover.specs.declared.mend.MendPoint.{MendPoint}
use Rattle.shm_recover.specs.declared.mend.MendPoint.TheVariants.{Dead, Era, Redo, More, Test, Slot, Close, Lower, Unlatch}
use Rattle.shm_recover.specs.declared.{mend.MendState.MendState, mend_lower.MendLowerState.MendLowerState}
use Rattle.shm_recover.specs.declared.mend_unlatch.MendUnlatchState.{MendUnlatchState}
use Rattle.shm_recover.specs.MendLower.Control.{lowering, lowering_steered}
use Rattle.shm_recover.specs.MendUnlatch.Control.{unlatching, unlatching_steered}

-- its calls, and what they answer
abbrev pub MendCall : Type 0
MendCall = Or Word (Or (Calls TestingState Word) (Or (Calls MendLowerState Word) (Calls MendUnlatchState Word)))

abbrev pub MendAnswer : Type 0
MendAnswer = Or ℕ (Or Commit (Or (Unit {0}) (Unit {0})))

-- the control of its calls
abbrev pub mend_parts : Control MendCall MendAnswer
mend_parts = or_control word_control (or_control (calls_control word_control testing_steered) (or_control (calls_control word_control lowering_steered) (calls_control word_control unlatching_steered)))

-- before its first call
abbrev pub mending : Me → MendState
mending me = record { me = me; era = 0; first = 0; redo = redos.Idle; point = Dead }

-- ---- what a redo record says at an own era

abbrev pub is_first : ARedo → ℕ → Bool
is_first (redos.Change parity p a b) e = is_first_half parity e
is_first r e = false

abbrev pub is_second : ARedo → ℕ → Bool
is_second (redos.Change parity p a b) e = not (is_first_half parity e)
is_second r e = false

-- the block whose count the step changes
abbrev pub block_of : ARedo → ℕ → ℕ
block_of redos.Idle e = 0
block_of (redos.Up p b) e = b
block_of (redos.Down p b) e = b
block_of (redos.Change parity p a b) e = if is_first_half parity e then b else a

-- the block that the second half of a change lowers
abbrev pub before_of : ARedo → ℕ
before_of (redos.Change parity p a b) = a
before_of r = 0

-- the store of the step's slot: its address, and what it comes to hold
abbrev pub slot_at : ARedo → ℕ
slot_at redos.Idle = 0
slot_at (redos.Up p b) = p
slot_at (redos.Down p b) = p
slot_at (redos.Change parity p a b) = p

abbrev pub value_at : ARedo → ℕ
value_at redos.Idle = 0
value_at (redos.Up p b) = b
value_at (redos.Down p b) = 0
value_at (redos.Change parity p a b) = b

abbrev pub write : ARedo → Ask
write r = ask.Store (slot_at r) (value_at r)

-- ---- the calls

-- the word step at a point
abbrev pub mend_ask : Me → ℕ → ARedo → MendPoint → Ask
mend_ask me e r Dead = ask.Store (address me.geometry (place.Status me.who)) 2
mend_ask me e r Redo = ask.Load (address me.geometry (place.Redo me.who))
mend_ask me e r More = ask.Load (address me.geometry (place.RedoMore me.who))
mend_ask me e r Slot = write r
mend_ask me e r Close = ask.Store (address me.geometry (place.Era me.who me.who)) (e + 1)
mend_ask me e r y = ask.Load (address me.geometry (place.Era me.who me.who))

abbrev pub mend_call : MendState → MendPoint → MendCall
mend_call m Test = Second (First (calls_of testing_steered (testing m.me (block_of m.redo m.era) m.era)))
mend_call m Lower = Second (Second (First (calls_of lowering_steered (lowering m.me (before_of m.redo) m.era))))
mend_call m Unlatch = Second (Second (Second (calls_of unlatching_steered (unlatching m.me))))
mend_call m y = First (record { me = m.me; ask = mend_ask m.me m.era m.redo y; over = false })

-- ---- where it goes

-- by the redo record that was found
abbrev pub found_by : MendState → Option ARedo → MendState
found_by m None = record m { point = Unlatch }
found_by m (Some redos.Idle) = record m { point = Unlatch }
found_by m (Some r) = record m { redo = r; point = Test }

abbrev pub found : MendState → ℕ → ℕ → MendState
found m first second = found_by m (redo_of m.me.geometry.wide first second)

-- in format 2 it has a second word
abbrev pub first_found : MendState → ℕ → MendState
first_found m n = if m.me.geometry.wide then record m { first = n; point = More } else found m n 0

-- by the commit test
abbrev pub tested_at : Commit → Bool → MendPoint
tested_at (Committed by) second = if second then Close else Slot
tested_at NotCommitted second = if second then Lower else Unlatch

abbrev pub tested : MendState → Commit → MendState
tested m x = record m { point = tested_at x (is_second m.redo m.era) }

-- once the own era is stored: the first half of a change leads to its second one
abbrev pub closed : MendState → MendState
closed m = if is_first m.redo m.era then record m { era = (m.era + 1) % 2 ^ 47; point = Lower } else record m { point = Unlatch }

abbrev pub mend_after_word : MendState → MendPoint → ℕ → MendState
mend_after_word m Era n = record m { era = n % 2 ^ 47; point = Redo }
mend_after_word m Redo n = first_found m n
mend_after_word m More n = found m m.first n
mend_after_word m Slot n = record m { point = Close }
mend_after_word m Close n = closed m
mend_after_word m y n = record m { point = Era }

abbrev pub mend_after : MendState → MendAnswer → MendState
mend_after m (First n) = mend_after_word m m.point n
mend_after m (Second (First x)) = tested m x
mend_after m (Second (Second (First done))) = record m { point = Unlatch }
mend_after m (Second (Second (Second done))) = m

abbrev pub mend_turns : MendState → MendAnswer → Option (Unit {0})
mend_turns m (Second (Second (Second done))) = Some tt
mend_turns m a = None

abbrev pub is_dead : MendPoint → Bool
is_dead Dead = true
is_dead y = false

-- only a redo record of format 2 has a second word
abbrev pub HasMore : Me → MendPoint → Type 0
HasMore me More = me.geometry.wide ≡ true
HasMore me y = Unit {0}

-- what the control keeps in range
pub record MendInRange (m : MendState) : Type 0 where
  pub geometry : GeometryFits m.me.geometry
  pub who : m.me.who < m.me.geometry.clients
  pub era : m.era < 2 ^ 47
  pub more : HasMore m.me m.point

-- what the plan does: its identity and its line, its calls, and where it goes by their answers
abbrev pub mend_steered : Steered MendState MendCall MendAnswer (Unit {0})
mend_steered =
    record {
      me = λ m. m.me;
      line = λ m. [];
      first = λ m. is_dead m.point;
      start = λ m. record m { era = 0; first = 0; redo = redos.Idle; point = Dead };
      call = λ m. mend_call m m.point;
      after = mend_after;
      turns = mend_turns;
    }
