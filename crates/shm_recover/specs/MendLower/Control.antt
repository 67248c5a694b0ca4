-- the control of the second half of a change that a recoverer makes
use Rattle.std.specs.Prelude.{ℕ, ◌+◌, ◌-◌, ◌^◌, ◌<◌, Bool, true, false, ◌==◌, nat_lt, if◌then◌else◌, Option, Some, None, []}
use Rattle.shm_words.specs.{declared.header.Header.Header as AHeader, Headers.{header_of, header_word}}
use Rattle.shm_words.specs.Layout.{GeometryFits, address}
use Rattle.shm_words.specs.declared.place.Place.TheVariants as place
use Rattle.shm_graph.specs.declared.ask.{Ask.Ask, Me.Me}
use Rattle.shm_graph.specs.declared.ask.Ask.TheVariants as ask
use Rattle.plans.specs.{declared.word.Word.Word, Steering.Steered}
use Rattle.shm_count.specs.Step.Control.{row_address}
use Rattle.shm_recover.specs.declared.mend_lower.MendLowerPoint.{MendLowerPoint}
use Rattle.shm_recover.specs.declared.mend_lower.MendLowerPoint.TheVariants.{Header, Row, Show, Exchange, Close}
use Rattle.shm_recover.specs.declared.mend_lower.MendLowerState.{MendLowerState}

-- before its first word step
abbrev pub lowering : Me → ℕ → ℕ → MendLowerState
lowering me b e = record { me = me; block = b; era = e; header = 0; point = Header }

-- the header that a word is
abbrev pub header : ℕ → AHeader
header n = header_of n

-- the word of the header that the block comes to have
abbrev pub lowered : ℕ → ℕ → ℕ → ℕ
lowered c e n = header_word (record { live = true; client = c; count = (header_of n).count - 1; era = e })

-- the word step at a point, where the header n was found last
abbrev pub lowering_ask : Me → ℕ → ℕ → ℕ → MendLowerPoint → Ask
lowering_ask me b e n Header = ask.Load b
lowering_ask me b e n Row = ask.Load (row_address me (header_of n).client)
lowering_ask me b e n Show = ask.Store (row_address me (header_of n).client) (header_of n).era
lowering_ask me b e n Exchange = ask.Exchange b n (lowered me.who e n)
lowering_ask me b e n Close = ask.Store (address me.geometry (place.Era me.who me.who)) (e + 1)

abbrev pub lowering_call : MendLowerState → MendLowerPoint → Word
lowering_call m y = record { me = m.me; ask = lowering_ask m.me m.block m.era m.header y; over = false }

-- a header was found: another client's is shown in the own row first
abbrev pub found : MendLowerState → ℕ → MendLowerState
found m n = record m { header = n; point = if (header_of n).client == m.me.who then Exchange else Row }

abbrev pub lowering_after : MendLowerState → MendLowerPoint → ℕ → MendLowerState
lowering_after m Header n = found m n
lowering_after m Row n = record m { point = if nat_lt n (header_of m.header).era then Show else Exchange }
lowering_after m Show n = record m { point = Exchange }
lowering_after m Exchange n = if n == m.header then record m { point = Close } else found m n
lowering_after m Close n = m

abbrev pub lowering_turns : MendLowerPoint → Option (Unit {0})
lowering_turns Close = Some tt
lowering_turns y = None

abbrev pub is_header : MendLowerPoint → Bool
is_header Header = true
is_header y = false

-- what the control keeps in range
pub record LoweringInRange (m : MendLowerState) : Type 0 where
  pub geometry : GeometryFits m.me.geometry
  pub who : m.me.who < m.me.geometry.clients
  pub era : m.era < 2 ^ 47

-- what the plan does: its identity and its line, its calls, and where it goes by their answers
abbrev pub lowering_steered : Steered MendLowerState Word ℕ (Unit {0})
lowering_steered =
    record {
      me = λ m. m.me;
      line = λ m. [];
      first = λ m. is_header m.point;
      start = λ m. record m { header = 0; point = Header };
      call = λ m. lowering_call m m.point;
      after = λ m. lowering_after m m.point;
      turns = λ m n. lowering_turns m.point;
    }
