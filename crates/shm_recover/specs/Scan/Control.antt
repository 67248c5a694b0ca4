-- the control of a scan: which call comes next, and where it goes by what that call answered
use Rattle.std.specs.Prelude.{ℕ, ◌+◌, ◌*◌, ◌%◌, ◌^◌, ◌<◌, Bool, true, false, ◌==◌, ◌&&◌, nat_lt, if◌then◌else◌, Option, Some, None, Result, Ok, Err, []}
use Rattle.shm_words.specs.{Headers.header_of, Layout.{GeometryFits, address, bodies}}
use Rattle.shm_words.specs.declared.place.Place.TheVariants as place
use Rattle.shm_graph.specs.{declared.ask.{Ask.Ask, Me.Me}, Laws.Control}
use Rattle.shm_graph.specs.declared.ask.Ask.TheVariants as ask
use Rattle.plans.specs.{declared.{or.Or.{Or, TheVariants.{First, Second}}, word.Word.Word}, Either.or_control}
use Rattle.plans.specs.{Words.word_control, Steering.Steered}
use Rattle.shm_count.specs.declared.{answer.EraSpent.EraSpent, tear_point.TearPoint.TheVariants.Begin}
use Rattle.shm_count.specs.{declared.tear_point.TearState.TearState, Tear.Control.tear_control}
use Rattle.shm_recover.specs.declared.scan.ScanPoint.{ScanPoint, TheVariants.{Page, Header, Tear}}
use Rattle.shm_recover.specs.declared.scan.ScanState.{ScanState}

-- its calls, and what they answer
abbrev pub ScanCall : Type 0
ScanCall = Or Word TearState

abbrev pub ScanAnswer : Type 0
ScanAnswer = Or ℕ (Result (Unit {0}) EraSpent)

-- the control of its calls
abbrev pub scan_parts : Control ScanCall ScanAnswer
scan_parts = or_control word_control tear_control

-- before its first call
abbrev pub scanning : Me → ScanState
scanning me = record { me = me; segment = 0; page = 0; class = 0; offset = 0; found = 0; point = Page }

-- how many words of the pages come before word i of page q of segment s, and its address
abbrev pub words_before : ℕ → ℕ → ℕ → ℕ
words_before s q i = 2048 * s + 128 * q + i

abbrev pub place_in : Me → ℕ → ℕ → ℕ → ℕ
place_in me s q i = bodies me.geometry + 2048 * s + 128 * q + i

-- the address of the block
abbrev pub block_at : ScanState → ℕ
block_at m = place_in m.me m.segment m.page m.offset

-- whether a header is that of a block of c whose count is 0
abbrev pub is_lost : ℕ → ℕ → Bool
is_lost c n = (header_of n).live && ((header_of n).count == 0) && ((header_of n).client == c)

-- the word step at a point
abbrev pub scan_ask : ScanState → ScanPoint → Ask
scan_ask m Page = ask.Load (address m.me.geometry (place.Page m.segment m.page))
scan_ask m y = ask.Load (block_at m)

abbrev pub scan_call_at : ScanState → ScanPoint → ScanCall
scan_call_at m Page = First (record { me = m.me; ask = scan_ask m Page; over = false })
scan_call_at m Header = First (record { me = m.me; ask = scan_ask m Header; over = false })
scan_call_at m Tear = Second (record { me = m.me; first = block_at m; block = block_at m; point = Begin })

-- on to the next page, or the last one is done
abbrev pub is_last : ScanState → Bool
is_last m = m.segment + 1 == m.me.geometry.segments

abbrev pub page_passed : ScanState → ScanState
page_passed m = if nat_lt m.page 15 then record m { page = m.page + 1; point = Page } else if is_last m then record m { point = Page } else record m { segment = m.segment + 1; page = 0; point = Page }

abbrev pub page_answer : ScanState → Option (Result ℕ EraSpent)
page_answer m = if nat_lt m.page 15 then None else if is_last m then Some (Ok m.found) else None

-- on to the next block of the page, or to the next page
abbrev pub block_passed : ScanState → ScanState
block_passed m = if nat_lt (m.offset + m.class) 128 then record m { offset = m.offset + m.class; point = Header } else page_passed m

abbrev pub block_answer : ScanState → Option (Result ℕ EraSpent)
block_answer m = if nat_lt (m.offset + m.class) 128 then None else page_answer m

-- by a word that was found: the class of the page, or the header of the block
abbrev pub after_word : ScanState → ScanPoint → ℕ → ScanState
after_word m Page n = if n == 0 then page_passed m else record m { class = n % 64; offset = 0; point = Header }
after_word m y n = if is_lost m.me.who n then record m { found = (m.found + 1) % 2 ^ 32; point = Tear } else block_passed m

abbrev pub turns_word : ScanState → ScanPoint → ℕ → Option (Result ℕ EraSpent)
turns_word m Page n = if n == 0 then page_answer m else None
turns_word m y n = if is_lost m.me.who n then None else block_answer m

abbrev pub scan_after : ScanState → ScanAnswer → ScanState
scan_after m (First n) = after_word m m.point n
scan_after m (Second (Ok done)) = block_passed m
scan_after m (Second (Err e)) = m

abbrev pub scan_turns : ScanState → ScanAnswer → Option (Result ℕ EraSpent)
scan_turns m (First n) = turns_word m m.point n
scan_turns m (Second (Ok done)) = block_answer m
scan_turns m (Second (Err e)) = Some (Err e)

abbrev pub is_page : ScanPoint → Bool
is_page Page = true
is_page y = false

abbrev pub is_first : ScanState → Bool
is_first m = (m.segment == 0) && ((m.page == 0) && is_page m.point)

-- what the control keeps in range
pub record ScanInRange (m : ScanState) : Type 0 where
  pub geometry : GeometryFits m.me.geometry
  pub who : m.me.who < m.me.geometry.clients
  pub segment : m.segment < m.me.geometry.segments
  pub page : m.page < 16
  pub class : m.class < 64
  pub offset : m.offset < 128

-- what the plan does: its identity and its line, its calls, and where it goes by their answers
abbrev pub scan_steered : Steered ScanState ScanCall ScanAnswer (Result ℕ EraSpent)
scan_steered =
    record {
      me = λ m. m.me;
      line = λ m. [];
      first = is_first;
      start = λ m. record m { segment = 0; page = 0; class = 0; offset = 0; found = 0; point = Page };
      call = λ m. scan_call_at m m.point;
      after = scan_after;
      turns = scan_turns;
    }
