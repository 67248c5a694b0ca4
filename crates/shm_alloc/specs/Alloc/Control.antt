-- the control of an allocation: which word it asks for, and where it goes by the word found
use Rattle.std.specs.Prelude.{◌≡◌, ℕ, ◌+◌, ◌-◌, ◌*◌, ◌/◌, ◌%◌, ◌^◌, ◌<◌, ◌≤◌, Bool, true, false, ◌==◌, nat_lt, if◌then◌else◌, Option, Some, None, Result, Ok, Err, [], slice_index}
use Rattle.shm_words.specs.{declared.redo.Redo.Redo as ARedo, Layout.{GeometryFits, address, total_of, bodies}}
use Rattle.shm_words.specs.{Classes.class_for, Tags.tag_word, Headers.header_word, Redos.{first_word, second_word}}
use Rattle.shm_words.specs.declared.place.Place.TheVariants as place
use Rattle.shm_words.specs.declared.redo.Redo.TheVariants as redos
use Rattle.shm_count.specs.declared.answer.Made.{Made}
use Rattle.shm_graph.specs.{declared.ask.{Ask.{Ask, TheVariants.{Load, Store, Exchange}}, Me.Me}, Laws.Control}
use Rattle.shm_alloc.specs.declared.alloc.AllocFault.{AllocFault, TheVariants.{EraSpent, RootsFull, Full}}
use Rattle.shm_alloc.specs.declared.{request.Request.Request, point.{Goal.Goal, Search.Search, AllocPoint.AllocPoint}}
use Rattle.shm_alloc.specs.declared.point.AllocPoint.TheVariants.{Era, Root, Segment, Claim, Page, Class, Header, Tag, Reference, Plain, More, Redo, Commit, Slot, Close, Over}
use Rattle.shm_alloc.specs.declared.point.{AllocState.AllocState, AllocNext.{AllocNext, TheVariants.{Point, Answer}}}

-- ---- what is asked for

-- the class of the new block
abbrev pub class_asked : Request → ℕ
class_asked q = class_for q.refs q.count

-- its tag, as the identity c writes it, in format 2 (`true`) or format 1
abbrev pub tag_asked : Bool → Request → ℕ → ℕ
tag_asked wide q c = tag_word wide (record { refs = q.refs; plain = q.count; author = c; link = 0 })

-- its header once it is live, as c makes it at era e
abbrev pub header_made : ℕ → ℕ → ℕ
header_made c e = header_word (record { live = true; client = c; count = 1; era = e })

-- which of n is number j, where they are counted from number d on, and behind the last one from the first on
unfoldable pub turned : ℕ → ℕ → ℕ → ℕ
turned n d j = if d == 0 then j else (j + d) % n

-- the segment, the page and the block of a page that a search goes to as number j, by its hint
abbrev pub segment_at : Me → Request → ℕ → ℕ
segment_at me q j = turned me.geometry.segments q.near.segment j

abbrev pub page_at : Request → ℕ → ℕ
page_at q j = turned 16 q.near.page j

abbrev pub index_at : Request → ℕ → ℕ
index_at q j = turned (128 / class_asked q) q.near.index j

-- the block that is number i of a page
abbrev pub block_of : Me → Request → Search → ℕ → ℕ → ℕ
block_of me q s p i = address me.geometry (place.Body (segment_at me q s.segment) (page_at q p) 0) + class_asked q * index_at q i

-- the redo record of the new block, which root k is to name
abbrev pub redo_asked : Me → ℕ → ℕ → ARedo
redo_asked me k b = redos.Up (address me.geometry (place.Root me.who k)) b

-- ---- the steps

-- the word step that is asked for at a point
abbrev pub alloc_ask_at : Me → Request → AllocPoint → Ask
alloc_ask_at me q Era = Load (address me.geometry (place.Era me.who me.who))
alloc_ask_at me q (Root e k) = Load (address me.geometry (place.Root me.who k))
alloc_ask_at me q (Segment g s) = Load (address me.geometry (place.Segment (segment_at me q s.segment)))
alloc_ask_at me q (Claim g s) = Exchange (address me.geometry (place.Segment (segment_at me q s.segment))) 0 (me.who + 1)
alloc_ask_at me q (Page g s p) = Load (address me.geometry (place.Page (segment_at me q s.segment) (page_at q p)))
alloc_ask_at me q (Class g s p) = Store (address me.geometry (place.Page (segment_at me q s.segment) (page_at q p))) (class_asked q)
alloc_ask_at me q (Header g s p i) = Load (block_of me q s p i)
alloc_ask_at me q (Tag g b) = Store (b + 1) (tag_asked me.geometry.wide q me.who)
alloc_ask_at me q (Reference g b i) = Store (b + 2 + i) 0
alloc_ask_at me q (Plain g b i) = Store (b + 2 + q.refs + i) (slice_index q.plain i)
alloc_ask_at me q (More g b) = Store (address me.geometry (place.RedoMore me.who)) (second_word me.geometry.wide (redo_asked me g.root b))
alloc_ask_at me q (Redo g b) = Store (address me.geometry (place.Redo me.who)) (first_word me.geometry.wide (redo_asked me g.root b))
alloc_ask_at me q (Commit g b) = Exchange b 0 (header_made me.who g.era)
alloc_ask_at me q (Slot g b) = Store (address me.geometry (place.Root me.who g.root)) b
alloc_ask_at me q (Close g b) = Store (address me.geometry (place.Era me.who me.who)) (g.era + 1)
alloc_ask_at me q Over = Load 0

-- and the one that an allocation asks for
abbrev pub alloc_ask : AllocState → Ask
alloc_ask m = alloc_ask_at m.me m.request m.point

-- ---- where the search goes

-- the segment is the own one: its first page is next
abbrev pub first_page : Goal → Search → AllocNext
first_page g s = Point (Page g s 0)

-- the page has the class: its first header is next
abbrev pub first_header : Goal → Search → ℕ → AllocNext
first_header g s p = Point (Header g s p 0)

-- the segment has no free block of the class
abbrev pub segment_over : Me → Goal → Search → AllocNext
segment_over me g s =
    if nat_lt (s.segment + 1) me.geometry.segments then Point (Segment g (record s { segment = s.segment + 1 }))
    else Answer (Err (Full s.taken s.used))

-- the segment is another's
abbrev pub segment_taken : Me → Goal → Search → AllocNext
segment_taken me g s = segment_over me g (record s { taken = s.taken + 1 })

-- the page has no free block of the class
abbrev pub page_over : Me → Goal → Search → ℕ → AllocNext
page_over me g s p = if nat_lt p 15 then Point (Page g s (p + 1)) else segment_over me g s

-- by the own era that was read: it is spent, or the first root is next
abbrev pub era_next : ℕ → AllocNext
era_next n = if nat_lt (2 ^ 47 - 3) n then Answer (Err (EraSpent n)) else Point (Root n 0)

-- by the root that was read: it is empty, and the search begins, or the next one is next, or all are set
abbrev pub root_next : ℕ → ℕ → ℕ → AllocNext
root_next e k n =
    if n == 0 then Point (Segment (record { era = e; root = k }) (record { segment = 0; taken = 0; used = 0 }))
    else if nat_lt k 15 then Point (Root e (k + 1))
    else Answer (Err RootsFull)

-- by the owner that was read: the segment is nobody's, an own one or another's
abbrev pub segment_next : Me → Goal → Search → ℕ → AllocNext
segment_next me g s n = if n == 0 then Point (Claim g s) else if n == me.who + 1 then first_page g s else segment_taken me g s

-- by the owner that the exchange found: the segment is the own one now, or another's
abbrev pub claim_next : Me → Goal → Search → ℕ → AllocNext
claim_next me g s n = if n == 0 then first_page g s else segment_taken me g s

-- by the class that was read: the page has none, the one that is asked for, or another
abbrev pub page_next : Me → Request → Goal → Search → ℕ → ℕ → AllocNext
page_next me q g s p n = if n == 0 then Point (Class g s p) else if n == class_asked q then first_header g s p else page_over me g s p

-- a header that isn't free was read
abbrev pub header_used : Me → Request → Goal → Search → ℕ → ℕ → AllocNext
header_used me q g s p i = if nat_lt (i + 1) (128 / class_asked q) then Point (Header g s p (i + 1)) else page_over me g s p

-- by the header that was read: the block is free, or it isn't
abbrev pub header_next : Me → Request → Goal → Search → ℕ → ℕ → ℕ → AllocNext
header_next me q g s p i n = if n == 0 then Point (Tag g (block_of me q s p i)) else header_used me q g (record s { used = s.used + 1 }) p i

-- ---- where the making goes

-- all words are stored: the redo record is next, in format 2 its second word
abbrev pub first_point : Bool → Goal → ℕ → AllocPoint
first_point wide g b = if wide then More g b else Redo g b

-- so many plain words are stored
abbrev pub plain_from : Bool → Request → Goal → ℕ → ℕ → AllocPoint
plain_from wide q g b i = if nat_lt i q.count then Plain g b i else first_point wide g b

-- so many reference words are stored
abbrev pub references_from : Bool → Request → Goal → ℕ → ℕ → AllocPoint
references_from wide q g b i = if nat_lt i q.refs then Reference g b i else plain_from wide q g b 0

-- ---- all

-- where an allocation goes from a point, by the word found
abbrev pub alloc_next_at : Me → Request → AllocPoint → ℕ → AllocNext
alloc_next_at me q Era n = era_next n
alloc_next_at me q (Root e k) n = root_next e k n
alloc_next_at me q (Segment g s) n = segment_next me g s n
alloc_next_at me q (Claim g s) n = claim_next me g s n
alloc_next_at me q (Page g s p) n = page_next me q g s p n
alloc_next_at me q (Class g s p) n = first_header g s p
alloc_next_at me q (Header g s p i) n = header_next me q g s p i n
alloc_next_at me q (Tag g b) n = Point (references_from me.geometry.wide q g b 0)
alloc_next_at me q (Reference g b i) n = Point (references_from me.geometry.wide q g b (i + 1))
alloc_next_at me q (Plain g b i) n = Point (plain_from me.geometry.wide q g b (i + 1))
alloc_next_at me q (More g b) n = Point (Redo g b)
alloc_next_at me q (Redo g b) n = Point (Commit g b)
alloc_next_at me q (Commit g b) n = Point (Slot g b)
alloc_next_at me q (Slot g b) n = Point (Close g b)
alloc_next_at me q (Close g b) n = Answer (Ok (record { root = g.root; block = b }))
alloc_next_at me q Over n = Point Over

-- and where it goes from the point that it is at
abbrev pub alloc_next : AllocState → ℕ → AllocNext
alloc_next m n = alloc_next_at m.me m.request m.point n

-- the point that is next; after an answer it is over
abbrev pub point_of : AllocNext → AllocPoint
point_of (Point p) = p
point_of (Answer a) = Over

-- the answer, if it is one
abbrev pub answer_of : AllocNext → Option (Result Made AllocFault)
answer_of (Point p) = None
answer_of (Answer a) = Some a

-- the point of the first step
abbrev pub is_first : AllocPoint → Bool
is_first Era = true
is_first p = false

-- no free block is found yet
abbrev pub is_search : AllocPoint → Bool
is_search Era = true
is_search (Root e k) = true
is_search (Segment g s) = true
is_search (Claim g s) = true
is_search (Page g s p) = true
is_search (Class g s p) = true
is_search (Header g s p i) = true
is_search p = false

-- the answer was given
abbrev pub is_over : AllocPoint → Bool
is_over Over = true
is_over p = false

-- the control of an allocation
abbrev pub alloc_control : Control AllocState (Result Made AllocFault)
alloc_control =
    record {
      me = λ m. m.me;
      line = λ m. [];
      fresh = λ m. is_first m.point;
      finished = λ m. is_over m.point;
      asks = alloc_ask;
      after = λ m n. record m { point = point_of (alloc_next m n) };
      turns = λ m n. answer_of (alloc_next m n);
    }

-- ---- what the control keeps in range

-- the request has as many reference words and plain words as a block may have, and its plain words are words
pub record RequestFits (q : Request) : Type 0 where
  pub refs : q.refs ≤ 16
  pub count : q.count ≤ 8
  pub small : (i : ℕ) → slice_index q.plain i < 2 ^ 64

-- the era leaves room for the two that a step takes, and the root is one of the 16
pub record GoalFits (g : Goal) : Type 0 where
  pub era : g.era + 3 ≤ 2 ^ 47
  pub root : g.root < 16

-- the segment is one of the pool's, and at most so many headers were read
pub record SearchFits (me : Me) (s : Search) (most : ℕ) : Type 0 where
  pub segment : s.segment < me.geometry.segments
  pub taken : s.taken ≤ s.segment
  pub used : s.used ≤ 512 * s.segment + most

-- what the control keeps in range at a point
abbrev pub PointFits : Me → Request → AllocPoint → Type 0
PointFits me q Era = Unit {0}
PointFits me q (Root e k) = (e + 3 ≤ 2 ^ 47) × (k < 16)
PointFits me q (Segment g s) = GoalFits g × SearchFits me s 0
PointFits me q (Claim g s) = GoalFits g × SearchFits me s 0
PointFits me q (Page g s p) = GoalFits g × SearchFits me s (32 * p) × (p < 16)
PointFits me q (Class g s p) = GoalFits g × SearchFits me s (32 * p) × (p < 16)
PointFits me q (Header g s p i) = GoalFits g × SearchFits me s (32 * p + i) × (p < 16) × (i < 128 / class_asked q)
PointFits me q (Tag g b) = GoalFits g × (b + class_asked q ≤ total_of me.geometry) × (bodies me.geometry ≤ b)
PointFits me q (Reference g b i) = GoalFits g × (b + class_asked q ≤ total_of me.geometry) × (i < q.refs) × (bodies me.geometry ≤ b)
PointFits me q (Plain g b i) = GoalFits g × (b + class_asked q ≤ total_of me.geometry) × (i < q.count) × (bodies me.geometry ≤ b)
PointFits me q (More g b) = GoalFits g × (b + class_asked q ≤ total_of me.geometry) × (bodies me.geometry ≤ b) × (me.geometry.wide ≡ true)
PointFits me q (Redo g b) = GoalFits g × (b + class_asked q ≤ total_of me.geometry) × (bodies me.geometry ≤ b)
PointFits me q (Commit g b) = GoalFits g × (b + class_asked q ≤ total_of me.geometry) × (bodies me.geometry ≤ b)
PointFits me q (Slot g b) = GoalFits g × (b + class_asked q ≤ total_of me.geometry) × (bodies me.geometry ≤ b)
PointFits me q (Close g b) = GoalFits g × (b + class_asked q ≤ total_of me.geometry) × (bodies me.geometry ≤ b)
PointFits me q Over = Unit {0}

-- the geometry, the identity, the request and the point are in range
pub record AllocInRange (m : AllocState) : Type 0 where
  pub geometry : GeometryFits m.me.geometry
  pub who : m.me.who < m.me.geometry.clients
  pub request : RequestFits m.request
  pub point : PointFits m.me m.request m.point
