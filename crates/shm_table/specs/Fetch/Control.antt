-- the control of reading what a key has and giving it a root: which call comes next, and where it goes by what that call answered
use Rattle.std.specs.Prelude.{ℕ, ◌%◌, ◌<◌, Bool, true, false, Option, Some, None, Result, Ok, Err, []}
use Rattle.shm_words.specs.Layout.{GeometryFits, address_limit}
use Rattle.shm_graph.specs.{declared.ask.{Ask.Ask, Me.Me}, Laws.Control}
use Rattle.plans.specs.{declared.{or.Or.{Or, TheVariants.{First, Second}}, word.Word.Word}, CallsControl.calls_of}
use Rattle.plans.specs.{Either.or_control, Words.word_control, Steering.Steered}
use Rattle.shm_count.specs.{declared.answer.ShareFault.ShareFault, UpRoot.Control.{rooting, rooting_steered}}
use Rattle.shm_count.specs.UpRoot.AsPart.{RootingCalls, up_root}
use Rattle.shm_count.specs.declared.answer.ShareFault.TheVariants as share
use Rattle.shm_table.specs.declared.answer.PutFault.{PutFault, TheVariants.{EraSpent, RootsFull, CountFull}}
use Rattle.shm_table.specs.declared.fetch.FetchPoint.{FetchPoint, TheVariants.{Search, Value, Number, Share, Give}}
use Rattle.shm_table.specs.declared.fetch.{FetchState.FetchState, Fetched.Fetched}
use Rattle.shm_table.specs.declared.{fetch.Fetched.TheVariants.{Missing, Refused, Rooted}, find.Found.Found}
use Rattle.shm_table.specs.{declared.find.Found.TheVariants.{Absent, At}, Find.Control.word_ask}
use Rattle.shm_table.specs.Locate.Control.{locating, locate_steered, LocateCalls, locate_control}
use Rattle.shm_table.specs.Unlatch.Control.{UnlatchCalls, unlatch_control, unlatching, unlatch_steered}

-- its calls, and what they answer
abbrev pub FetchCall : Type 0
FetchCall = Or LocateCalls (Or Word (Or RootingCalls UnlatchCalls))

abbrev pub FetchAnswer : Type 0
FetchAnswer = Or Found (Or ℕ (Or (Result ℕ ShareFault) (Unit {0})))

-- before its first call
abbrev pub fetching : Me → ℕ → ℕ → FetchState
fetching me a key = record { me = me; author = a; key = key; entry = 0; block = 0; number = 0; outcome = Missing; point = Search }

-- the word that is loaded: the value word of the entry, or the number of its value block
abbrev pub fetch_ask : FetchState → FetchPoint → Ask
fetch_ask m Value = word_ask m.entry 1
fetch_ask m y = word_ask m.block 0

abbrev pub fetch_call : FetchState → FetchPoint → FetchCall
fetch_call m Search = First (calls_of locate_steered (locating m.me m.author m.key))
fetch_call m Share = Second (Second (First (calls_of rooting_steered (rooting m.me m.block))))
fetch_call m Give = Second (Second (Second (calls_of unlatch_steered (unlatching m.me m.author))))
fetch_call m y = Second (First (record { me = m.me; ask = fetch_ask m y; over = false }))

-- where it goes by the word that was loaded
abbrev pub read_after : FetchState → FetchPoint → ℕ → FetchState
read_after m Value n = record m { block = n % address_limit; point = Number }
read_after m y n = record m { number = n; point = Share }

-- why the value block got no root
abbrev pub shared_fault : ShareFault → PutFault
shared_fault (share.EraSpent e) = EraSpent e
shared_fault share.RootsFull = RootsFull
shared_fault (share.CountFull b n) = CountFull b n

-- what it answers once the latch is given back
abbrev pub fetch_outcome : FetchState → Result ℕ ShareFault → Fetched
fetch_outcome m (Ok k) = Rooted k m.block m.number
fetch_outcome m (Err f) = Refused (shared_fault f)

abbrev pub fetch_after : FetchState → FetchAnswer → FetchState
fetch_after m (First (At e b w)) = record m { entry = e % address_limit; point = Value }
fetch_after m (First (Absent home first)) = record m { outcome = Missing; point = Give }
fetch_after m (Second (First n)) = read_after m m.point n
fetch_after m (Second (Second (First a))) = record m { outcome = fetch_outcome m a; point = Give }
fetch_after m (Second (Second (Second done))) = m

abbrev pub fetch_turns : FetchState → FetchAnswer → Option Fetched
fetch_turns m (Second (Second (Second done))) = Some m.outcome
fetch_turns m a = None

abbrev pub is_search : FetchPoint → Bool
is_search Search = true
is_search y = false

-- what the control keeps in range
pub record FetchInRange (m : FetchState) : Type 0 where
  pub geometry : GeometryFits m.me.geometry
  pub who : m.me.who < m.me.geometry.clients
  pub author : m.author < m.me.geometry.clients
  pub entry : m.entry < address_limit
  pub block : m.block < address_limit

-- the control of its calls
abbrev pub fetch_parts : Control FetchCall FetchAnswer
fetch_parts = or_control locate_control (or_control word_control (or_control up_root unlatch_control))

-- what the plan does: its identity and its line, its calls, and where it goes by their answers
abbrev pub fetch_steered : Steered FetchState FetchCall FetchAnswer Fetched
fetch_steered =
    record {
      me = λ m. m.me;
      line = λ m. [];
      first = λ m. is_search m.point;
      start = λ m. fetching m.me m.author m.key;
      call = λ m. fetch_call m m.point;
      after = fetch_after;
      turns = fetch_turns;
    }
