-- the control of blocks that are taken back: which call comes next, and where it goes by what that call answered
use Rattle.std.specs.Prelude.{ℕ, ◌+◌, ◌-◌, ◌%◌, ◌<◌, Bool, true, false, ◌==◌, ◌&&◌, nat_lt, if◌then◌else◌, Option, Some, None, Result, Ok, Err, []}
use Rattle.shm_words.specs.Layout.{GeometryFits, address, address_limit}
use Rattle.shm_words.specs.declared.place.Place.TheVariants as place
use Rattle.shm_graph.specs.{declared.ask.{Ask.Ask, Me.Me}, Laws.Control}
use Rattle.shm_graph.specs.declared.ask.Ask.TheVariants as ask
use Rattle.plans.specs.{declared.{or.Or.{Or, TheVariants.{First, Second}}, word.Word.Word}, Either.or_control}
use Rattle.plans.specs.{Words.word_control, Steering.Steered}
use Rattle.shm_count.specs.declared.{answer.EraSpent.EraSpent, point.{StepPoint.TheVariants.Era, StepState.StepState}}
use Rattle.shm_count.specs.declared.tear_point.{TearPoint.TheVariants.Begin, TearState.TearState}
use Rattle.shm_count.specs.{Step.Machines.down_control, Tear.Control.tear_control}
use Rattle.shm_count.specs.declared.point.Aim.TheVariants as aims
use Rattle.shm_recover.specs.declared.take_back.BackPoint.{BackPoint, TheVariants.{Tail, Head, Slot, Lower, Tear}}
use Rattle.shm_recover.specs.{declared.take_back.BackState.BackState, Others.other_at}

-- its calls, and what they answer
abbrev pub BackCall : Type 0
BackCall = Or Word (Or StepState TearState)

abbrev pub BackAnswer : Type 0
BackAnswer = Or ℕ (Or (Result Bool EraSpent) (Result (Unit {0}) EraSpent))

-- the control of its calls
abbrev pub back_parts : Control BackCall BackAnswer
back_parts = or_control word_control (or_control down_control tear_control)

-- before its first call
abbrev pub taking_back : Me → BackState
taking_back me = record { me = me; passed = 0; at = 0; block = 0; point = Tail }

-- to whom the queue is
abbrev pub to_of : BackState → ℕ
to_of m = other_at m.me.who m.passed

-- the addresses of its tail, its head and the slot at the tail
abbrev pub tail_at : BackState → ℕ
tail_at m = address m.me.geometry (place.Tail m.me.who (to_of m))

abbrev pub head_at : BackState → ℕ
head_at m = address m.me.geometry (place.Head m.me.who (to_of m))

abbrev pub slot_at : BackState → ℕ
slot_at m = address m.me.geometry (place.Slot m.me.who (to_of m) (m.at % 8))

-- the word step at a point
abbrev pub back_ask : BackState → BackPoint → Ask
back_ask m Head = ask.Load (head_at m)
back_ask m Slot = ask.Load (slot_at m)
back_ask m y = ask.Load (tail_at m)

abbrev pub back_call_at : BackState → BackPoint → BackCall
back_call_at m Tail = First (record { me = m.me; ask = ask.Load (tail_at m); over = false })
back_call_at m Head = First (record { me = m.me; ask = ask.Load (head_at m); over = false })
back_call_at m Slot = First (record { me = m.me; ask = ask.Load (slot_at m); over = false })
back_call_at m Lower = Second (First (record { me = m.me; slot = slot_at m; aim = aims.Down m.block; point = Era }))
back_call_at m Tear = Second (Second (record { me = m.me; first = m.block; block = m.block; point = Begin }))

-- on to the next queue, or the last one is done
abbrev pub is_last : BackState → Bool
is_last m = m.passed + 2 == m.me.geometry.clients

abbrev pub passed : BackState → BackState
passed m = if is_last m then m else record m { passed = m.passed + 1; point = Tail }

abbrev pub passed_answer : BackState → Option (Result (Unit {0}) EraSpent)
passed_answer m = if is_last m then Some (Ok tt) else None

-- by a word that was found: the queue has room where tail and head differ by less than 8, and a block waits for its tail where the slot isn't empty
abbrev pub after_word : BackState → BackPoint → ℕ → BackState
after_word m Tail n = record m { at = n; point = Head }
after_word m Head n = if nat_lt (m.at - n) 8 then record m { point = Slot } else passed m
after_word m y n = if n % address_limit == 0 then passed m else record m { block = n % address_limit; point = Lower }

abbrev pub turns_word : BackState → BackPoint → ℕ → Option (Result (Unit {0}) EraSpent)
turns_word m Tail n = None
turns_word m Head n = if nat_lt (m.at - n) 8 then None else passed_answer m
turns_word m y n = if n % address_limit == 0 then passed_answer m else None

abbrev pub back_after : BackState → BackAnswer → BackState
back_after m (First n) = after_word m m.point n
back_after m (Second (First (Ok true))) = record m { point = Tear }
back_after m (Second (First (Ok false))) = passed m
back_after m (Second (First (Err e))) = m
back_after m (Second (Second (Ok done))) = passed m
back_after m (Second (Second (Err e))) = m

abbrev pub back_turns : BackState → BackAnswer → Option (Result (Unit {0}) EraSpent)
back_turns m (First n) = turns_word m m.point n
back_turns m (Second (First (Ok true))) = None
back_turns m (Second (First (Ok false))) = passed_answer m
back_turns m (Second (First (Err e))) = Some (Err e)
back_turns m (Second (Second (Ok done))) = passed_answer m
back_turns m (Second (Second (Err e))) = Some (Err e)

abbrev pub is_tail : BackPoint → Bool
is_tail Tail = true
is_tail y = false

abbrev pub is_first : BackState → Bool
is_first m = (m.passed == 0) && is_tail m.point

-- what the control keeps in range
pub record BackInRange (m : BackState) : Type 0 where
  pub geometry : GeometryFits m.me.geometry
  pub who : m.me.who < m.me.geometry.clients
  pub passed : m.passed + 1 < m.me.geometry.clients
  pub block : m.block < address_limit

-- what the plan does: its identity and its line, its calls, and where it goes by their answers
abbrev pub back_steered : Steered BackState BackCall BackAnswer (Result (Unit {0}) EraSpent)
back_steered =
    record {
      me = λ m. m.me;
      line = λ m. [];
      first = is_first;
      start = λ m. record m { passed = 0; at = 0; block = 0; point = Tail };
      call = λ m. back_call_at m m.point;
      after = back_after;
      turns = back_turns;
    }
