-- the control of the takes that are finished: which word step comes next, and where it goes by what was found
use Rattle.std.specs.Prelude.{ℕ, ◌+◌, ◌%◌, ◌^◌, ◌<◌, Bool, true, false, ◌==◌, ◌&&◌, nat_lt, if◌then◌else◌, Option, Some, None, []}
use Rattle.shm_words.specs.Layout.{GeometryFits, address}
use Rattle.shm_words.specs.declared.place.Place.TheVariants as place
use Rattle.shm_graph.specs.declared.ask.{Ask.Ask, Me.Me}
use Rattle.shm_graph.specs.declared.ask.Ask.TheVariants as ask
use Rattle.plans.specs.{declared.word.Word.Word, Steering.Steered}
use Rattle.shm_recover.specs.declared.finish_takes.FinishPoint.{FinishPoint, TheVariants.{Head, Tail, Slot, Store}}
use Rattle.shm_recover.specs.{declared.finish_takes.FinishState.FinishState, Others.other_at}

-- before its first word step
abbrev pub finishing : Me → FinishState
finishing me = record { me = me; passed = 0; at = 0; point = Head }

-- from whom the queue is
abbrev pub from_of : FinishState → ℕ
from_of m = other_at m.me.who m.passed

-- the addresses of its head, its tail and the slot at the head
abbrev pub head_at : FinishState → ℕ
head_at m = address m.me.geometry (place.Head (from_of m) m.me.who)

abbrev pub tail_at : FinishState → ℕ
tail_at m = address m.me.geometry (place.Tail (from_of m) m.me.who)

abbrev pub slot_at : FinishState → ℕ
slot_at m = address m.me.geometry (place.Slot (from_of m) m.me.who (m.at % 8))

-- the word step at a point
abbrev pub finish_ask : FinishState → FinishPoint → Ask
finish_ask m Head = ask.Load (head_at m)
finish_ask m Tail = ask.Load (tail_at m)
finish_ask m Slot = ask.Load (slot_at m)
finish_ask m Store = ask.Store (head_at m) ((m.at + 1) % 2 ^ 64)

abbrev pub finish_call : FinishState → FinishPoint → Word
finish_call m y = record { me = m.me; ask = finish_ask m y; over = false }

-- on to the next queue, or the last one is done
abbrev pub is_last : FinishState → Bool
is_last m = m.passed + 2 == m.me.geometry.clients

abbrev pub passed : FinishState → FinishState
passed m = if is_last m then m else record m { passed = m.passed + 1; point = Head }

abbrev pub passed_answer : FinishState → Option (Unit {0})
passed_answer m = if is_last m then Some tt else None

-- by the word found: an item waits for its head where the head is below the tail and its slot is empty
abbrev pub after_word : FinishState → FinishPoint → ℕ → FinishState
after_word m Head n = record m { at = n; point = Tail }
after_word m Tail n = if nat_lt m.at n then record m { point = Slot } else passed m
after_word m Slot n = if n == 0 then record m { point = Store } else passed m
after_word m Store n = passed m

abbrev pub turns_word : FinishState → FinishPoint → ℕ → Option (Unit {0})
turns_word m Head n = None
turns_word m Tail n = if nat_lt m.at n then None else passed_answer m
turns_word m Slot n = if n == 0 then None else passed_answer m
turns_word m Store n = passed_answer m

abbrev pub is_head : FinishPoint → Bool
is_head Head = true
is_head y = false

abbrev pub is_first : FinishState → Bool
is_first m = (m.passed == 0) && is_head m.point

-- what the control keeps in range
pub record FinishInRange (m : FinishState) : Type 0 where
  pub geometry : GeometryFits m.me.geometry
  pub who : m.me.who < m.me.geometry.clients
  pub passed : m.passed + 1 < m.me.geometry.clients

-- what the plan does: its identity and its line, its calls, and where it goes by their answers
abbrev pub finish_steered : Steered FinishState Word ℕ (Unit {0})
finish_steered =
    record {
      me = λ m. m.me;
      line = λ m. [];
      first = is_first;
      start = λ m. record m { passed = 0; at = 0; point = Head };
      call = λ m. finish_call m m.point;
      after = λ m n. after_word m m.point n;
      turns = λ m n. turns_word m m.point n;
    }
