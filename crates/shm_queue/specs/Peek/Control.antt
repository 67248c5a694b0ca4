-- the control of a peek: which call comes next, and where it goes by what that call answered
use Rattle.std.specs.Prelude.{ℕ, ◌%◌, ◌<◌, Bool, true, false, ◌==◌, if◌then◌else◌, Option, Some, None, Result, Ok, Err, []}
use Rattle.shm_words.specs.Layout.{GeometryFits, address, address_limit}
use Rattle.shm_words.specs.declared.place.Place.TheVariants as place
use Rattle.shm_graph.specs.{declared.ask.Me.Me, Laws.Control}
use Rattle.shm_graph.specs.declared.ask.Ask.TheVariants as ask
use Rattle.plans.specs.{declared.{or.Or.{Or, TheVariants.{First, Second}}, word.Word.Word}, CallsControl.calls_of}
use Rattle.plans.specs.{Either.or_control, Words.word_control, Steering.Steered}
use Rattle.shm_count.specs.declared.answer.{Made.Made, ShareFault.ShareFault}
use Rattle.shm_count.specs.UpRoot.{Control.{rooting, rooting_steered}, AsPart.{RootingCalls, up_root}}
use Rattle.shm_queue.specs.declared.{answer.PeekFault.{PeekFault, TheVariants.Empty}, peek.PeekPoint.PeekPoint}
use Rattle.shm_queue.specs.declared.peek.{PeekPoint.TheVariants.{Head, Tail, Slot, Share}, PeekState.PeekState}
use Rattle.shm_queue.specs.Answers.{peek_fault}

-- its calls, and what they answer
abbrev pub PeekCall : Type 0
PeekCall = Or Word RootingCalls

abbrev pub PeekAnswer : Type 0
PeekAnswer = Or ℕ (Result ℕ ShareFault)

-- before its first call
abbrev pub peeking : Me → ℕ → PeekState
peeking me s = record { me = me; from = s; at = 0; block = 0; point = Head }

-- the addresses of the head, the tail and the slot at the head
abbrev pub head_at : PeekState → ℕ
head_at m = address m.me.geometry (place.Head m.from m.me.who)

abbrev pub tail_at : PeekState → ℕ
tail_at m = address m.me.geometry (place.Tail m.from m.me.who)

abbrev pub slot_at : PeekState → ℕ
slot_at m = address m.me.geometry (place.Slot m.from m.me.who (m.at % 8))

abbrev pub peek_call_at : PeekState → PeekPoint → PeekCall
peek_call_at m Head = First (record { me = m.me; ask = ask.Load (head_at m); over = false })
peek_call_at m Tail = First (record { me = m.me; ask = ask.Load (tail_at m); over = false })
peek_call_at m Slot = First (record { me = m.me; ask = ask.Load (slot_at m); over = false })
peek_call_at m Share = Second (calls_of rooting_steered (rooting m.me m.block))

-- by a word that was found: the queue is empty where the tail is the own head
abbrev pub after_word : PeekState → PeekPoint → ℕ → PeekState
after_word m Head n = record m { at = n; point = Tail }
after_word m Tail n = record m { point = Slot }
after_word m y n = record m { block = n % address_limit; point = Share }

abbrev pub turns_word : PeekState → PeekPoint → ℕ → Option (Result Made PeekFault)
turns_word m Tail n = if n == m.at then Some (Err (Empty m.at)) else None
turns_word m y n = None

abbrev pub peek_after : PeekState → PeekAnswer → PeekState
peek_after m (First n) = after_word m m.point n
peek_after m (Second a) = m

abbrev pub peek_turns : PeekState → PeekAnswer → Option (Result Made PeekFault)
peek_turns m (First n) = turns_word m m.point n
peek_turns m (Second (Ok k)) = Some (Ok (record { root = k; block = m.block }))
peek_turns m (Second (Err f)) = Some (Err (peek_fault f))

abbrev pub is_head : PeekPoint → Bool
is_head Head = true
is_head y = false

-- what the control keeps in range
pub record PeekInRange (m : PeekState) : Type 0 where
  pub geometry : GeometryFits m.me.geometry
  pub who : m.me.who < m.me.geometry.clients
  pub from : m.from < m.me.geometry.clients
  pub block : m.block < address_limit

-- the control of its calls
abbrev pub peek_parts : Control PeekCall PeekAnswer
peek_parts = or_control word_control up_root

-- what the plan does: its identity and its line, its calls, and where it goes by their answers
abbrev pub peek_steered : Steered PeekState PeekCall PeekAnswer (Result Made PeekFault)
peek_steered =
    record {
      me = λ m. m.me;
      line = λ m. [];
      first = λ m. is_head m.point;
      start = λ m. record m { at = 0; block = 0; point = Head };
      call = λ m. peek_call_at m m.point;
      after = peek_after;
      turns = peek_turns;
    }
