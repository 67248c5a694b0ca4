-- a plain word of a block as a plan: its control, what is known before each word step, and what is left
use Rattle.std.specs.Prelude.{◌≡◌, ℕ, ◌+◌, ◌<◌, ◌≤◌, nat_lt, Bool, true, false, if◌then◌else◌, Option, None, Some, Result, Ok, Err, List, [], ◌∷◌}
use Rattle.shm_words.specs.{Layout.{GeometryFits, address_limit}, Tags.{tag_plain, tag_refs}}
use Rattle.shm_graph.specs.declared.{ask.{Ask.{Ask, TheVariants.Load}, Me.Me}, spot.Spot.TheVariants.{Body, Tag}}
use Rattle.shm_graph.specs.{declared.memo.Memo.Memo, Asks.{Trail, pair}, Core.core, Events.Event, Reach.learnt}
use Rattle.kind_parts.specs.WordParts.{WordLoaded, as_known}
use Rattle.plans.specs.{declared.word.Word.Word, Parts.Part, Plans.Planned, Words.word_part, Steering.Steered}
use Rattle.shm_count.specs.Tear.Control.{tag_read}
use Rattle.shm_ref.specs.declared.{answer.NoSuchWord.NoSuchWord, read.ReadPoint.{ReadPoint, TheVariants.{Shape, Plain}}}
use Rattle.shm_ref.specs.{declared.read.ReadState.ReadState, AskedParts.asked_part, ReadParts.{IsTag, MayRead, tagged}}

-- ---- the control

-- before its first word step
abbrev pub reading : Me → ℕ → ℕ → ReadState
reading me b k = record { me = me; block = b; index = k; refs = 0; point = Shape }

-- the word step at a point; i is how many words of the block come before the one that is read
abbrev pub read_ask : ℕ → ℕ → ReadPoint → Ask
read_ask b i Shape = Load (b + 1)
read_ask b i Plain = Load (b + 2 + i)

abbrev pub read_call : ReadState → ReadPoint → Word
read_call m y = record { me = m.me; ask = read_ask m.block (m.refs + m.index) y; over = false }

abbrev pub read_after : ReadState → ReadPoint → ℕ → ReadState
read_after m Shape n = record m { refs = (tag_read m.me.geometry.wide n).refs; point = Plain }
read_after m Plain n = m

abbrev pub read_turns : ReadState → ReadPoint → ℕ → Option (Result ℕ NoSuchWord)
read_turns m Shape n = if nat_lt m.index (tag_read m.me.geometry.wide n).plain then None else Some (Err (record { plain = (tag_read m.me.geometry.wide n).plain }))
read_turns m Plain n = Some (Ok n)

abbrev pub is_shape : ReadPoint → Bool
is_shape Shape = true
is_shape y = false

-- what the control keeps in range
pub record ReadInRange (m : ReadState) : Type 0 where
  pub geometry : GeometryFits m.me.geometry
  pub who : m.me.who < m.me.geometry.clients
  pub block : m.block < address_limit

-- ---- on the way

-- The tag of the block is x, and has a plain word k; nothing came of its load but that it is known
pub record IsReading (me : Me) (b k h x : ℕ) (r0 r : Memo) (tr : Trail) (es : List Event) : Type 0 where
  pub may : MayRead me b r0
  pub refs : h ≡ tag_refs me.geometry.wide x
  pub low : k < tag_plain me.geometry.wide x
  pub known : as_known (Tag b) r0 x
  pub tag : IsTag me b x r
  pub same : core r ≡ core (tagged b x r0)
  pub none : es ≡ []
  pub trail : tr ≡ pair (read_ask b 0 Shape) x ∷ []

abbrev pub ReadKnows : ReadState → ReadPoint → Memo → Memo → Trail → List Event → Type 0
ReadKnows m Shape r0 r tr es = MayRead m.me m.block r0 × (r ≡ r0) × (tr ≡ []) × (es ≡ [])
ReadKnows m Plain r0 r tr es = (x : ℕ) × IsReading m.me m.block m.index m.refs x r0 r tr es

-- ---- what it leaves

-- The tag of the block is x, which tells of plain word k, and v is that word. Both are known now, and are what was known of them before; nothing else of the memo changed
pub record WasRead (me : Me) (b k : ℕ) (r0 r : Memo) (tr : Trail) (es : List Event) (v : ℕ) : Type 0 where
  pub x : ℕ
  pub low : k < tag_plain me.geometry.wide x
  pub tag : as_known (Tag b) r0 x
  pub word : as_known (Body b (tag_refs me.geometry.wide x + k)) (tagged b x r0) v
  pub memo : core r ≡ core (record r0 { known = learnt (Body b (tag_refs me.geometry.wide x + k)) v (learnt (Tag b) x r0.known) })
  pub none : es ≡ []
  pub trail : tr ≡ pair (read_ask b 0 Shape) x ∷ pair (read_ask b (tag_refs me.geometry.wide x + k) Plain) v ∷ []

-- the tag of the block is x, which tells of n plain words and none of index k; it is known now, and nothing else of the memo changed
pub record HasNoWord (me : Me) (b k n : ℕ) (r0 r : Memo) (tr : Trail) (es : List Event) : Type 0 where
  pub x : ℕ
  pub plain : n ≡ tag_plain me.geometry.wide x
  pub high : n ≤ k
  pub tag : as_known (Tag b) r0 x
  pub memo : core r ≡ core (tagged b x r0)
  pub none : es ≡ []
  pub trail : tr ≡ pair (read_ask b 0 Shape) x ∷ []

abbrev pub ReadLeaves : ReadState → Memo → Memo → Trail → List Event → Result ℕ NoSuchWord → Type 0
ReadLeaves m r0 r tr es (Ok v) = WasRead m.me m.block m.index r0 r tr es v
ReadLeaves m r0 r tr es (Err e) = HasNoWord m.me m.block m.index e.plain r0 r tr es

-- what holds after each word step, by the memo before, the word found and the memo
abbrev pub ReadFound : ReadState → ReadPoint → Memo → ℕ → Memo → Type 0
ReadFound m Shape = WordLoaded (Tag m.block)
ReadFound m Plain = WordLoaded (Body m.block (m.refs + m.index))

-- the part that the word step at a point is
abbrev pub read_part : ReadState → ReadPoint → Part Word ℕ
read_part m y = asked_part (word_part (is_shape y) m.me (read_ask m.block (m.refs + m.index) y) (ReadFound m y))

abbrev pub read_steered : Steered ReadState Word ℕ (Result ℕ NoSuchWord)
read_steered =
    record {
      me = λ m. m.me;
      line = λ m. [];
      first = λ m. is_shape m.point;
      start = λ m. record m { refs = 0; point = Shape };
      call = λ m. read_call m m.point;
      after = λ m. read_after m m.point;
      turns = λ m. read_turns m m.point;
    }

abbrev pub read_plan : Planned ReadState Word ℕ (Result ℕ NoSuchWord)
read_plan =
    record {
      steered = read_steered;
      part = λ m. read_part m m.point;
      knows = λ m. ReadKnows m m.point;
      leaves = ReadLeaves;
    }
