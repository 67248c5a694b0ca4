-- the control of giving the value block at the head of a queue a root: which call comes next, and where it goes by what that call answered
use Rattle.std.specs.Prelude.{ℕ, ◌%◌, ◌<◌, Bool, true, false, ◌==◌, if◌then◌else◌, Option, Some, None, Result, Ok, Err, []}
use Rattle.shm_words.specs.Layout.{GeometryFits, address, address_limit}
use Rattle.shm_words.specs.declared.place.Place.TheVariants as place
use Rattle.shm_graph.specs.{declared.ask.{Ask.{Ask, TheVariants.Load}, Me.Me}, Laws.Control}
use Rattle.plans.specs.{declared.{or.Or.{Or, TheVariants.{First, Second}}, word.Word.Word}, CallsControl.calls_of}
use Rattle.plans.specs.{Either.or_control, Words.word_control, Steering.Steered}
use Rattle.shm_count.specs.{declared.answer.ShareFault.ShareFault, UpRoot.Control.{rooting, rooting_steered}}
use Rattle.shm_count.specs.UpRoot.AsPart.{RootingCalls, up_root}
use Rattle.shm_table.specs.declared.fetch_head.FetchHeadPoint.{FetchHeadPoint}
use Rattle.shm_table.specs.declared.fetch_head.FetchHeadPoint.TheVariants.{Head, Tail, Slot, Number, Share}
use Rattle.shm_table.specs.declared.fetch_head.{FetchHeadState.FetchHeadState, FetchedHead.FetchedHead}
use Rattle.shm_table.specs.declared.fetch_head.FetchedHead.TheVariants.{Empty, Refused, Rooted}
use Rattle.shm_table.specs.{Fetch.Control.shared_fault, Find.Control.word_ask}

-- its calls, and what they answer
abbrev pub FetchHeadCall : Type 0
FetchHeadCall = Or Word RootingCalls

abbrev pub FetchHeadAnswer : Type 0
FetchHeadAnswer = Or ℕ (Result ℕ ShareFault)

-- before its first call
abbrev pub fetching_head : Me → ℕ → FetchHeadState
fetching_head me s = record { me = me; from = s; at = 0; block = 0; number = 0; point = Head }

-- the addresses of the head, the tail and the slot at the head
abbrev pub head_at : FetchHeadState → ℕ
head_at m = address m.me.geometry (place.Head m.from m.me.who)

abbrev pub tail_at : FetchHeadState → ℕ
tail_at m = address m.me.geometry (place.Tail m.from m.me.who)

abbrev pub slot_at : FetchHeadState → ℕ
slot_at m = address m.me.geometry (place.Slot m.from m.me.who (m.at % 8))

-- the word that is loaded
abbrev pub fetch_head_ask : FetchHeadState → FetchHeadPoint → Ask
fetch_head_ask m Head = Load (head_at m)
fetch_head_ask m Tail = Load (tail_at m)
fetch_head_ask m Slot = Load (slot_at m)
fetch_head_ask m y = word_ask m.block 0

abbrev pub fetch_head_call : FetchHeadState → FetchHeadPoint → FetchHeadCall
fetch_head_call m Share = Second (calls_of rooting_steered (rooting m.me m.block))
fetch_head_call m y = First (record { me = m.me; ask = fetch_head_ask m y; over = false })

-- by a word that was found: the queue is empty where the tail is the own head
abbrev pub read_after : FetchHeadState → FetchHeadPoint → ℕ → FetchHeadState
read_after m Head n = record m { at = n; point = Tail }
read_after m Tail n = record m { point = Slot }
read_after m Slot n = record m { block = n % address_limit; point = Number }
read_after m y n = record m { number = n; point = Share }

abbrev pub read_turns : FetchHeadState → FetchHeadPoint → ℕ → Option FetchedHead
read_turns m Tail n = if n == m.at then Some (Empty m.at) else None
read_turns m y n = None

abbrev pub fetch_head_after : FetchHeadState → FetchHeadAnswer → FetchHeadState
fetch_head_after m (First n) = read_after m m.point n
fetch_head_after m (Second a) = m

abbrev pub fetch_head_turns : FetchHeadState → FetchHeadAnswer → Option FetchedHead
fetch_head_turns m (First n) = read_turns m m.point n
fetch_head_turns m (Second (Ok k)) = Some (Rooted k m.block m.number m.at)
fetch_head_turns m (Second (Err f)) = Some (Refused (shared_fault f))

abbrev pub is_head : FetchHeadPoint → Bool
is_head Head = true
is_head y = false

-- what the control keeps in range
pub record FetchHeadInRange (m : FetchHeadState) : Type 0 where
  pub geometry : GeometryFits m.me.geometry
  pub who : m.me.who < m.me.geometry.clients
  pub from : m.from < m.me.geometry.clients
  pub block : m.block < address_limit

-- the control of its calls
abbrev pub fetch_head_parts : Control FetchHeadCall FetchHeadAnswer
fetch_head_parts = or_control word_control up_root

-- what the plan does: its identity and its line, its calls, and where it goes by their answers
abbrev pub fetch_head_steered : Steered FetchHeadState FetchHeadCall FetchHeadAnswer FetchedHead
fetch_head_steered =
    record {
      me = λ m. m.me;
      line = λ m. [];
      first = λ m. is_head m.point;
      start = λ m. fetching_head m.me m.from;
      call = λ m. fetch_head_call m m.point;
      after = fetch_head_after;
      turns = fetch_head_turns;
    }
