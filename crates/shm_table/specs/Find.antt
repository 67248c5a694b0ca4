-- looking for a key as a plan: when it may begin, what is known before each word step, and what is left
pub mod Control
pub mod Bound
pub mod Tells
use Rattle.std.specs.Prelude.{◌≡◌, ◌≢◌, ℕ, ◌+◌, ◌%◌, ◌<◌, ◌⊎◌, Some, None, false, List, [], ◌∷◌, ◌++◌}
use Rattle.std.specs.List.{All, Contains}
use Rattle.shm_words.specs.Layout.{GeometryFits, total_of}
use Rattle.shm_graph.specs.declared.{ask.Me.Me, spot.Spot.{Spot, TheVariants.{Home, Body}}, memo.{Look.Look, Memo.Memo}}
use Rattle.shm_graph.specs.declared.{memo.{Op.TheVariants.Nothing, Stored.Stored}, table.Entry.Entry}
use Rattle.shm_graph.specs.{Asks.{Trail, pair}, Core.core, Events.Event, Held.is_loose}
use Rattle.shm_graph.specs.{Telling.{Directory, Entry as AnEntry}, Views.own_word}
use Rattle.kind_parts.specs.{Conditions.IsHere, Reparting.{sight, map_in, IsKnown}, Walking.{IsIn, IsSeeking, IsVacant}}
use Rattle.kind_parts.specs.WordParts.{HomeLooked, ReferenceLoaded, WordLoaded}
use Rattle.plans.specs.{declared.word.Word.Word, Parts.Part, Plans.Planned, Words.word_part}
use Rattle.shm_ref.specs.AskedParts.{asked_part}
use Rattle.shm_table.specs.declared.find.{FindPoint.FindPoint, FindState.FindState, Found.Found}
use Rattle.shm_table.specs.{declared.find.Found.TheVariants.{Absent, At}, EntryReads.EntryRead}
use Rattle.shm_table.specs.Find.Control.{home_ask, word_ask, find_ask, is_home, Passed, begin_of, walk_trail, led_from, find_steered}
use Rattle.shm_table.specs.declared.find.FindPoint.TheVariants as point

-- ---- when it may begin

-- the latch of a is held in a pool for tables, and no step is in progress
pub record MayFind (me : Me) (a : ℕ) (r : Memo) : Type 0 where
  pub geometry : GeometryFits me.geometry
  pub who : me.who < me.geometry.clients
  pub author : a < me.geometry.clients
  pub here : IsHere r
  pub idle : r.op ≡ Nothing
  pub latch : r.latch ≡ Some a
  pub table : is_loose r.part ≡ false

-- nothing of the memo changed but that more words are known, and more blocks are looked at
pub record OnlyReads (r0 r : Memo) : Type 0 where
  pub memo : core r ≡ core (record r0 { looks = r.looks; known = r.known })
  pub known : (s : Stored) → Contains r0.known s → Contains r.known s
  pub looked : (k : Look) → Contains r0.looks k → Contains r.looks k

-- a block was read from this word under the latch
abbrev pub IsLook : Memo → Spot → ℕ → Type 0
IsLook r p b = Contains r.looks (record { block = b; from = p })

-- so were these entries and the block after them, from word i of block d on, and the keys of these entries are known
abbrev pub IsChainRead : Memo → ℕ → ℕ → List Passed → ℕ → Type 0
IsChainRead r d i [] at = IsLook r (Body d i) at
IsChainRead r d i (p ∷ ps) at = IsLook r (Body d i) p.block × Contains r.known (record { spot = Body p.block 2; value = p.key }) × IsChainRead r p.block 0 ps at

-- ---- on the way

-- no entry that was passed has the key
abbrev pub AreOthers : ℕ → List Passed → Type 0
AreOthers key = All (λ (p : Passed). p.key ≢ key)

-- the home names a directory, the own one where it is the own home
pub record IsAtBucket (m : FindState) (r0 r : Memo) (tr : Trail) (es : List Event) : Type 0 where
  pub may : MayFind m.me m.author r0
  pub reads : OnlyReads r0 r
  pub none : es ≡ []
  pub some : m.home ≢ 0
  pub here : IsIn r Directory m.home
  pub look : IsLook r (Home m.author) m.home
  pub room : m.home + 17 < total_of m.me.geometry
  pub own : m.author ≡ m.me.who → own_word r.own (Home m.me.who) ≡ m.home
  pub trail : tr ≡ pair (home_ask m.me m.author) m.home ∷ []

-- where a walk along the own chain is
abbrev pub IsOwnWalk : FindState → Memo → List Entry → Entry → List Entry → Type 0
IsOwnWalk m r xs e ys = IsSeeking m.me.who r m.key m.first (Body m.before m.word) m.entry xs (e ∷ ys)

-- it is at an entry; these ones were passed
pub record IsAtEntry (m : FindState) (ps : List Passed) (r0 r : Memo) (es : List Event) : Type 0 where
  pub may : MayFind m.me m.author r0
  pub reads : OnlyReads r0 r
  pub none : es ≡ []
  pub directory : m.home ≢ 0
  pub some : m.entry ≢ 0
  pub here : IsIn r AnEntry m.entry
  pub look : IsLook r (Home m.author) m.home
  pub chain : IsChainRead r m.home (m.key % 16) ps m.entry
  pub room : m.entry + 4 < total_of m.me.geometry
  pub others : AreOthers m.key ps
  pub first : m.first ≡ begin_of ps m.entry
  pub led : Body m.before m.word ≡ led_from m.home (m.key % 16) ps
  pub own : m.author ≡ m.me.who → own_word r.own (Home m.me.who) ≡ m.home

abbrev pub FindKnows : FindState → FindPoint → Memo → Memo → Trail → List Event → Type 0
FindKnows m point.Home r0 r tr es = MayFind m.me m.author r0 × (r ≡ r0) × (tr ≡ []) × (es ≡ [])
FindKnows m point.Bucket r0 r tr es = IsAtBucket m r0 r tr es
FindKnows m point.Key r0 r tr es = (ps : List Passed) × IsAtEntry m ps r0 r es × (tr ≡ walk_trail m.me m.author m.key m.home ps m.entry)
    × (m.author ≡ m.me.who → (xs : List Entry) × (e : Entry) × (ys : List Entry) × IsOwnWalk m r xs e ys)
FindKnows m point.Next r0 r tr es = (ps : List Passed) × (x : ℕ) × IsAtEntry m ps r0 r es × (x ≢ m.key) × IsKnown (sight m.me.who r) (Body m.entry 2) x × (tr ≡ walk_trail m.me m.author m.key m.home ps m.entry ++ pair (word_ask m.entry 2) x ∷ [])
    × (m.author ≡ m.me.who → (xs : List Entry) × (e : Entry) × (ys : List Entry) × IsOwnWalk m r xs e ys × (e.key ≢ m.key))

-- ---- what it leaves

-- the home was read as 0, or a whole chain that begins at `first`, in which no entry has the key
abbrev pub EndsNowhere : Me → ℕ → ℕ → ℕ → ℕ → Trail → Type 0
EndsNowhere me a key home first tr =
    ((home ≡ 0) × (first ≡ 0) × (tr ≡ pair (home_ask me a) 0 ∷ [])) ⊎ ((home ≢ 0) × ((ps : List Passed) × AreOthers key ps × (first ≡ begin_of ps 0) × (tr ≡ walk_trail me a key home ps 0)))

-- no entry has the key; where it is the own table, its partition hasn't
pub record IsAbsent (me : Me) (a key home first : ℕ) (r0 r : Memo) (tr : Trail) (es : List Event) : Type 0 where
  pub reads : OnlyReads r0 r
  pub none : es ≡ []
  pub ends : EndsNowhere me a key home first tr
  pub directory : a ≡ me.who → own_word r.own (Home me.who) ≡ home
  pub absent : a ≡ me.who → map_in r.part key ≡ None
  pub vacant : a ≡ me.who → home ≢ 0 → IsVacant me.who r key first

-- the entry has the key, and was reached by this word; where it is the own table, the walk along its partition is there
pub record IsFound (me : Me) (a key entry before word : ℕ) (r0 r : Memo) (tr : Trail) (es : List Event) : Type 0 where
  pub reads : OnlyReads r0 r
  pub none : es ≡ []
  pub home : ℕ
  pub passed : List Passed
  pub directory : home ≢ 0
  pub others : AreOthers key passed
  pub led : Body before word ≡ led_from home (key % 16) passed
  pub trail : tr ≡ walk_trail me a key home passed entry ++ pair (word_ask entry 2) key ∷ []
  pub some : entry ≢ 0
  pub latch : r.latch ≡ Some a
  pub table : is_loose r.part ≡ false
  pub here : IsIn r AnEntry entry
  pub look : IsLook r (Home a) home
  pub chain : IsChainRead r home (key % 16) passed entry
  pub room : entry + 4 < total_of me.geometry
  pub known : IsKnown (sight me.who r) (Body entry 2) key
  pub own : a ≡ me.who → (first : ℕ) × (xs : List Entry) × (e : Entry) × (ys : List Entry) × IsSeeking me.who r key first (Body before word) entry xs (e ∷ ys) × (e.key ≡ key)

abbrev pub FindLeaves : FindState → Memo → Memo → Trail → List Event → Found → Type 0
FindLeaves m r0 r tr es (Absent home first) = IsAbsent m.me m.author m.key home first r0 r tr es
FindLeaves m r0 r tr es (At entry before word) = IsFound m.me m.author m.key entry before word r0 r tr es

-- ---- the plan

-- what holds after each word step, by the memo before, the word found and the memo
abbrev pub FindFinds : FindState → FindPoint → Memo → ℕ → Memo → Type 0
FindFinds m point.Home = HomeLooked m.me.who m.author
FindFinds m point.Bucket = ReferenceLoaded m.home (m.key % 16)
FindFinds m point.Key = λ r n x. WordLoaded (Body m.entry 2) r n x × EntryRead m.me.who m.key m.entry 2 r n x
FindFinds m point.Next = λ r n x. ReferenceLoaded m.entry 0 r n x × EntryRead m.me.who m.key m.entry 0 r n x

-- the part that the word step at a point is
abbrev pub find_part : FindState → FindPoint → Part Word ℕ
find_part m y = asked_part (word_part (is_home y) m.me (find_ask m y) (FindFinds m y))

abbrev pub find_plan : Planned FindState Word ℕ Found
find_plan =
    record {
      steered = find_steered;
      part = λ m. find_part m m.point;
      knows = λ m. FindKnows m m.point;
      leaves = FindLeaves;
    }
