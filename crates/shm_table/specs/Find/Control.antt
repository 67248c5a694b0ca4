-- the control of looking for a key, and what is asked
use Rattle.std.specs.Prelude.{ℕ, ◌+◌, ◌%◌, ◌<◌, Bool, true, false, ◌==◌, if◌then◌else◌, Option, Some, None, List, [], ◌∷◌}
use Rattle.shm_words.specs.Layout.{GeometryFits, address, address_limit}
use Rattle.shm_words.specs.declared.place.Place.TheVariants as place
use Rattle.shm_graph.specs.declared.{ask.{Ask.{Ask, TheVariants.Load}, Me.Me}, spot.Spot.{Spot, TheVariants.Body}}
use Rattle.shm_graph.specs.Asks.{Trail, pair}
use Rattle.plans.specs.{declared.word.Word.Word, Steering.Steered}
use Rattle.shm_table.specs.declared.find.FindPoint.{FindPoint, TheVariants.{Home, Bucket, Key, Next}}
use Rattle.shm_table.specs.declared.find.{FindState.FindState, Found.{Found, TheVariants.{Absent, At}}}

-- before its first word step
abbrev pub finding : Me → ℕ → ℕ → FindState
finding me a key = record { me = me; author = a; key = key; home = 0; first = 0; entry = 0; before = 0; word = 0; point = Home }

-- ---- the word steps

-- the home of a is loaded, and word i of a block
abbrev pub home_ask : Me → ℕ → Ask
home_ask me a = Load (address me.geometry (place.Home a))

abbrev pub word_ask : ℕ → ℕ → Ask
word_ask b i = Load (b + 2 + i)

-- the word step at a point
abbrev pub find_ask : FindState → FindPoint → Ask
find_ask m Home = home_ask m.me m.author
find_ask m Bucket = word_ask m.home (m.key % 16)
find_ask m Key = word_ask m.entry 2
find_ask m Next = word_ask m.entry 0

abbrev pub find_call : FindState → FindPoint → Word
find_call m y = record { me = m.me; ask = find_ask m y; over = false }

-- where it goes, by the block that a reference word names
abbrev pub find_goes : FindState → FindPoint → ℕ → FindState
find_goes m Home b = record m { home = b; point = Bucket }
find_goes m Bucket b = record m { first = b; entry = b; before = m.home; word = m.key % 16; point = Key }
find_goes m Key b = record m { point = Next }
find_goes m Next b = record m { before = m.entry; word = 0; entry = b; point = Key }

-- what it answers, by the word found, and the block that it names
abbrev pub find_answers : FindState → FindPoint → ℕ → ℕ → Option Found
find_answers m Home n b = if b == 0 then Some (Absent 0 0) else None
find_answers m Bucket n b = if b == 0 then Some (Absent m.home 0) else None
find_answers m Key n b = if n == m.key then Some (At m.entry m.before m.word) else None
find_answers m Next n b = if b == 0 then Some (Absent m.home m.first) else None

abbrev pub find_after : FindState → FindPoint → ℕ → FindState
find_after m y n = find_goes m y (n % address_limit)

abbrev pub find_turns : FindState → FindPoint → ℕ → Option Found
find_turns m y n = find_answers m y n (n % address_limit)

abbrev pub is_home : FindPoint → Bool
is_home Home = true
is_home y = false

-- what the control keeps in range
pub record FindInRange (m : FindState) : Type 0 where
  pub geometry : GeometryFits m.me.geometry
  pub who : m.me.who < m.me.geometry.clients
  pub author : m.author < m.me.geometry.clients
  pub directory : m.home < address_limit
  pub block : m.entry < address_limit

-- ---- all that is asked, with what it finds

-- an entry of another key: its block, and the key that was read there
pub record Passed : Type 0 where
  pub block : ℕ
  pub key : ℕ

-- where entries begin that end before a block
abbrev pub begin_of : List Passed → ℕ → ℕ
begin_of [] at = at
begin_of (p ∷ ps) at = p.block

-- the key word and the next word of each, up to a block or to 0
abbrev pub passed_trail : List Passed → ℕ → Trail
passed_trail [] at = []
passed_trail (p ∷ ps) at = pair (word_ask p.block 2) p.key ∷ pair (word_ask p.block 0) (begin_of ps at) ∷ passed_trail ps at

-- the home, which names a directory, the bucket's word, and then the entries
abbrev pub walk_trail : Me → ℕ → ℕ → ℕ → List Passed → ℕ → Trail
walk_trail me a key home ps at = pair (home_ask me a) home ∷ pair (word_ask home (key % 16)) (begin_of ps at) ∷ passed_trail ps at

-- the word that leads on from them, where they begin at word i of block d
abbrev pub led_from : ℕ → ℕ → List Passed → Spot
led_from d i [] = Body d i
led_from d i (p ∷ ps) = led_from p.block 0 ps

-- what the plan does: its identity and its line, its calls, and where it goes by their answers
abbrev pub find_steered : Steered FindState Word ℕ Found
find_steered =
    record {
      me = λ m. m.me;
      line = λ m. [];
      first = λ m. is_home m.point;
      start = λ m. finding m.me m.author m.key;
      call = λ m. find_call m m.point;
      after = λ m. find_after m m.point;
      turns = λ m. find_turns m m.point;
    }
