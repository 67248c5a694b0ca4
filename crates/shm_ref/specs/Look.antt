-- a reference word of a block as a plan: its control, what is known before each word step, and what is left
use Rattle.std.specs.Prelude.{◌≡◌, ◌≢◌, ℕ, ◌+◌, ◌%◌, ◌<◌, ◌≤◌, ◌==◌, nat_lt, Bool, true, false, if◌then◌else◌, Option, None, Some, Result, Ok, Err, List, [], ◌∷◌}
use Rattle.shm_words.specs.{Layout.{GeometryFits, address, total_of, address_limit}, Tags.{tag_author, tag_refs}}
use Rattle.shm_words.specs.declared.place.Place.TheVariants as place
use Rattle.shm_graph.specs.declared.{ask.{Ask.{Ask, TheVariants.Load}, Me.Me}, spot.Spot.TheVariants.{Body, Hold, Tag}}
use Rattle.shm_graph.specs.{declared.memo.Memo.Memo, Asks.{Trail, pair}, Core.core, Events.Event, Reach.is_reached}
use Rattle.shm_graph.specs.{MemoAfterRead.reference_read, Views.own_word}
use Rattle.kind_parts.specs.WordParts.{OwnLoaded, ReferenceLoaded, WordLoaded, as_known}
use Rattle.plans.specs.{declared.word.Word.Word, Parts.Part, Plans.Planned, Words.word_part, Steering.Steered}
use Rattle.shm_count.specs.Tear.Control.{tag_read}
use Rattle.shm_ref.specs.declared.answer.LookFault.{LookFault, TheVariants.{NoSuchRef, NotHeld}}
use Rattle.shm_ref.specs.declared.look.LookPoint.{LookPoint, TheVariants.{Shape, Whose, Reference}}
use Rattle.shm_ref.specs.{declared.look.LookState.LookState, AskedParts.asked_part}
use Rattle.shm_ref.specs.ReadParts.{IsTag, MayAsk, MayRead, tagged}

-- ---- the control

-- before its first word step
abbrev pub looking : Me → ℕ → ℕ → LookState
looking me b k = record { me = me; block = b; index = k; author = 0; point = Shape }

-- the word step at a point
abbrev pub look_ask : Me → ℕ → ℕ → LookPoint → Ask
look_ask me b k Shape = Load (b + 1)
look_ask me b k Whose = Load (address me.geometry (place.Hold me.who))
look_ask me b k Reference = Load (b + 2 + k)

abbrev pub look_call : LookState → LookPoint → Word
look_call m y = record { me = m.me; ask = look_ask m.me m.block m.index y; over = false }

abbrev pub look_after : LookState → LookPoint → ℕ → LookState
look_after m Shape n = record m { author = (tag_read m.me.geometry.wide n).author; point = Whose }
look_after m Whose n = record m { point = Reference }
look_after m Reference n = m

abbrev pub look_turns : LookState → LookPoint → ℕ → Option (Result ℕ LookFault)
look_turns m Shape n = if nat_lt m.index (tag_read m.me.geometry.wide n).refs then None else Some (Err (NoSuchRef (tag_read m.me.geometry.wide n).refs))
look_turns m Whose n = if n == m.author + 1 then None else Some (Err NotHeld)
look_turns m Reference n = Some (Ok (n % address_limit))

abbrev pub is_shape : LookPoint → Bool
is_shape Shape = true
is_shape y = false

-- what the control keeps in range
pub record LookInRange (m : LookState) : Type 0 where
  pub geometry : GeometryFits m.me.geometry
  pub who : m.me.who < m.me.geometry.clients
  pub block : m.block < address_limit

-- ---- when it may begin, and on the way

-- the block is in reach, and the hold word names the latch that is held
pub record MayLook (me : Me) (b : ℕ) (r : Memo) : Type 0 where
  pub ask : MayAsk me r
  pub read : MayRead me b r

-- The tag of the block is x, of author a, and has a reference word k; nothing came of what was read so far but that the tag is known
pub record IsLooking (me : Me) (b k a x : ℕ) (seen : Trail) (r0 r : Memo) (tr : Trail) (es : List Event) : Type 0 where
  pub may : MayLook me b r0
  pub author : a ≡ tag_author me.geometry.wide x
  pub low : k < tag_refs me.geometry.wide x
  pub known : as_known (Tag b) r0 x
  pub tag : IsTag me b x r
  pub same : core r ≡ core (tagged b x r0)
  pub none : es ≡ []
  pub trail : tr ≡ seen

-- all that is asked, with what it sees
abbrev pub tag_trail : Me → ℕ → ℕ → ℕ → Trail
tag_trail me b k x = pair (look_ask me b k Shape) x ∷ []

abbrev pub whose_trail : Me → ℕ → ℕ → ℕ → ℕ → Trail
whose_trail me b k x n = pair (look_ask me b k Shape) x ∷ pair (look_ask me b k Whose) n ∷ []

abbrev pub LookKnows : LookState → LookPoint → Memo → Memo → Trail → List Event → Type 0
LookKnows m Shape r0 r tr es = MayLook m.me m.block r0 × (r ≡ r0) × (tr ≡ []) × (es ≡ [])
LookKnows m Whose r0 r tr es = (x : ℕ) × IsLooking m.me m.block m.index m.author x (tag_trail m.me m.block m.index x) r0 r tr es
LookKnows m Reference r0 r tr es = (x : ℕ) × IsLooking m.me m.block m.index m.author x (whose_trail m.me m.block m.index x (tag_author m.me.geometry.wide x + 1)) r0 r tr es × (r0.latch ≡ Some (tag_author m.me.geometry.wide x))

-- ---- what it leaves

-- The tag of the block is x, which tells of reference word k, and the latch of its author is held; the word names v, or nothing where v is 0. The tag and the word are known now, and are what was known of them before; the looks have grown by v, which is in reach then, and nothing else of the memo changed
pub record Looked (me : Me) (b k : ℕ) (r0 r : Memo) (tr : Trail) (es : List Event) (v : ℕ) : Type 0 where
  pub x : ℕ
  pub low : k < tag_refs me.geometry.wide x
  pub held : r0.latch ≡ Some (tag_author me.geometry.wide x)
  pub tag : as_known (Tag b) r0 x
  pub word : as_known (Body b k) (tagged b x r0) v
  pub memo : core r ≡ core (reference_read (tagged b x r0) b k v)
  pub reach : v ≢ 0 → is_reached me.who r v ≡ true
  pub room : v ≢ 0 → v + 2 ≤ total_of me.geometry
  pub none : es ≡ []
  pub trail : tr ≡ pair (look_ask me b k Shape) x ∷ pair (look_ask me b k Whose) (tag_author me.geometry.wide x + 1) ∷ pair (look_ask me b k Reference) v ∷ []

-- the tag of the block is x, which tells of n reference words and none of index k; it is known now, and nothing else of the memo changed
pub record HasNoRef (me : Me) (b k n : ℕ) (r0 r : Memo) (tr : Trail) (es : List Event) : Type 0 where
  pub x : ℕ
  pub refs : n ≡ tag_refs me.geometry.wide x
  pub high : n ≤ k
  pub tag : as_known (Tag b) r0 x
  pub memo : core r ≡ core (tagged b x r0)
  pub none : es ≡ []
  pub trail : tr ≡ tag_trail me b k x

-- the tag of the block is x, which tells of reference word k, and the own hold word isn't that of its author; the tag is known now, and nothing else of the memo changed
pub record IsUnheld (me : Me) (b k : ℕ) (r0 r : Memo) (tr : Trail) (es : List Event) : Type 0 where
  pub x : ℕ
  pub low : k < tag_refs me.geometry.wide x
  pub other : own_word r0.own (Hold me.who) ≢ tag_author me.geometry.wide x + 1
  pub tag : as_known (Tag b) r0 x
  pub memo : core r ≡ core (tagged b x r0)
  pub none : es ≡ []
  pub trail : tr ≡ whose_trail me b k x (own_word r0.own (Hold me.who))

abbrev pub LookLeaves : LookState → Memo → Memo → Trail → List Event → Result ℕ LookFault → Type 0
LookLeaves m r0 r tr es (Ok v) = Looked m.me m.block m.index r0 r tr es v
LookLeaves m r0 r tr es (Err (NoSuchRef n)) = HasNoRef m.me m.block m.index n r0 r tr es
LookLeaves m r0 r tr es (Err NotHeld) = IsUnheld m.me m.block m.index r0 r tr es

-- what holds after each word step, by the memo before, the word found and the memo
abbrev pub LookFound : LookState → LookPoint → Memo → ℕ → Memo → Type 0
LookFound m Shape = WordLoaded (Tag m.block)
LookFound m Whose = OwnLoaded (Hold m.me.who)
LookFound m Reference = ReferenceLoaded m.block m.index

-- the part that the word step at a point is
abbrev pub look_part : LookState → LookPoint → Part Word ℕ
look_part m y = asked_part (word_part (is_shape y) m.me (look_ask m.me m.block m.index y) (LookFound m y))

abbrev pub look_steered : Steered LookState Word ℕ (Result ℕ LookFault)
look_steered =
    record {
      me = λ m. m.me;
      line = λ m. [];
      first = λ m. is_shape m.point;
      start = λ m. record m { author = 0; point = Shape };
      call = λ m. look_call m m.point;
      after = λ m. look_after m m.point;
      turns = λ m. look_turns m m.point;
    }

abbrev pub look_plan : Planned LookState Word ℕ (Result ℕ LookFault)
look_plan =
    record {
      steered = look_steered;
      part = λ m. look_part m m.point;
      knows = λ m. LookKnows m m.point;
      leaves = LookLeaves;
    }
