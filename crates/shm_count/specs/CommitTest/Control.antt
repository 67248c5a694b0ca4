-- the control of a commit test
use Rattle.std.specs.Prelude.{ℕ, ◌+◌, ◌<◌, Bool, true, false, ◌&&◌, ◌==◌, nat_lt, if◌then◌else◌, Option, Some, None, [], not}
use Rattle.shm_words.specs.{Headers.header_of, Layout.{GeometryFits, address}}
use Rattle.shm_words.specs.declared.place.Place.TheVariants as place
use Rattle.shm_graph.specs.{declared.ask.{Ask.{Ask, TheVariants.Load}, Me.Me}, MemoAfterRead.next_row, Held.odd}
use Rattle.plans.specs.{declared.word.Word.Word, Steering.Steered}
use Rattle.shm_count.specs.declared.commit_test.Commit.{Commit, TheVariants.{Committed, NotCommitted}}
use Rattle.shm_count.specs.declared.commit_test.TestingPoint.{TestingPoint, TheVariants.{Header, Row}}
use Rattle.shm_count.specs.declared.commit_test.TestingState.{TestingState}
use Rattle.shm_count.specs.declared.commit_test.Proof.TheVariants as proof

-- whether a change with this parity is in its first half at own era e
abbrev pub is_first_half : Bool → ℕ → Bool
is_first_half parity e = if parity then odd e else not (odd e)

-- a test of the step of era e on block b, before its first load
abbrev pub testing : Me → ℕ → ℕ → TestingState
testing me b e = record { me = me; block = b; era = e; row = 0; point = Header }

-- the load at a point
abbrev pub test_ask : Me → ℕ → ℕ → TestingPoint → Ask
test_ask me b k Header = Load b
test_ask me b k Row = Load (address me.geometry (place.Era k me.who))

abbrev pub test_call : TestingState → TestingPoint → Word
test_call m y = record { me = m.me; ask = test_ask m.me m.block m.row y; over = false }

-- on to the first row of another client from row k on, and after the last one to the answer
abbrev pub test_next : TestingState → ℕ → TestingState
test_next m k = if nat_lt (next_row m.me.who k) m.me.geometry.clients then record m { row = next_row m.me.who k; point = Row } else m

abbrev pub test_step : TestingState → ℕ → Option Commit
test_step m k = if nat_lt (next_row m.me.who k) m.me.geometry.clients then None else Some NotCommitted

-- the header shows the client with this era
abbrev pub is_shown : ℕ → ℕ → ℕ → Bool
is_shown c e n = ((header_of n).client == c) && ((header_of n).era == e)

abbrev pub test_after : TestingState → TestingPoint → ℕ → TestingState
test_after m Header n = if is_shown m.me.who m.era n then m else test_next m 0
test_after m Row n = if nat_lt n m.era then test_next m (m.row + 1) else m

abbrev pub test_turns : TestingState → TestingPoint → ℕ → Option Commit
test_turns m Header n = if is_shown m.me.who m.era n then Some (Committed proof.Header) else test_step m 0
test_turns m Row n = if nat_lt n m.era then test_step m (m.row + 1) else Some (Committed (proof.Row m.row))

abbrev pub is_header : TestingPoint → Bool
is_header Header = true
is_header Row = false

-- what the control keeps in range
pub record TestingInRange (m : TestingState) : Type 0 where
  pub geometry : GeometryFits m.me.geometry
  pub who : m.me.who < m.me.geometry.clients
  pub row : m.row < m.me.geometry.clients

-- what the plan does: its identity and its line, its calls, and where it goes by their answers
abbrev pub testing_steered : Steered TestingState Word ℕ Commit
testing_steered =
    record {
      me = λ m. m.me;
      line = λ m. [];
      first = λ m. is_header m.point;
      start = λ m. record m { row = 0; point = Header };
      call = λ m. test_call m m.point;
      after = λ m. test_after m m.point;
      turns = λ m. test_turns m m.point;
    }
