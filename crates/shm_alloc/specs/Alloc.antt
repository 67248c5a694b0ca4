-- when an allocation may begin, what its memo shows on the way, and what it leaves
pub mod Control
pub mod Asks
pub mod Events
pub mod Passing
pub mod Counts
pub mod Seen
pub mod AsPart
use Rattle.std.specs.Prelude.{Bool, if◌then◌else◌, true, ◌≡◌, ◌≢◌, ℕ, ◌+◌, ◌-◌, ◌/◌, ◌^◌, ◌<◌, ◌≤◌, ◌==◌, Some, None, Result, Ok, Err, List, [], ◌∷◌, ◌++◌, slice_index}
use Rattle.std.specs.List.{Contains}
use Rattle.shm_words.specs.{Layout.{GeometryFits, address}, Redos.{first_word, second_word}}
use Rattle.shm_words.specs.declared.place.Place.TheVariants as place
use Rattle.shm_graph.specs.declared.{ask.{Me.Me, Ask.TheVariants.Exchange}, memo.{Stored.Stored, Making.Making}}
use Rattle.shm_graph.specs.{declared.memo.{Memo.Memo, First.TheVariants.{Begun, Committed, Written}, Op.Op}, Asks.Trail}
use Rattle.shm_graph.specs.{Trails.{Asked, Chosen}, Idle.IsIdle, Tells.{after_all, happens_along}, Views.own_word}
use Rattle.shm_graph.specs.{MemoAfterStore.{class_read, class_told}, MemoAfterExchange.values_with}
use Rattle.shm_graph.specs.declared.spot.Spot.TheVariants as spot
use Rattle.shm_graph.specs.declared.memo.Op.TheVariants as op
use Rattle.shm_count.specs.declared.answer.Made.{Made}
use Rattle.shm_alloc.specs.declared.alloc.AllocFault.{AllocFault, TheVariants.{EraSpent, RootsFull, Full}}
use Rattle.shm_alloc.specs.declared.{request.Request.Request, point.{Goal.Goal, Search.Search, AllocPoint.AllocPoint}}
use Rattle.shm_alloc.specs.declared.point.AllocPoint.TheVariants.{Era, Root, Segment, Claim, Page, Class, Header, Tag, Reference, Plain, More, Redo, Commit, Slot, Close, Over}
use Rattle.shm_alloc.specs.declared.point.{AllocState.AllocState, AllocNext.{AllocNext, TheVariants.{Point, Answer}}}
use Rattle.shm_alloc.specs.Alloc.Control.{class_asked, tag_asked, redo_asked, segment_at, page_at, AllocInRange, alloc_control}
use Rattle.shm_alloc.specs.Alloc.Events.{alloc_event, alloc_start, events_at, own_events}
use Rattle.shm_alloc.specs.Alloc.Asks.{AllocTrails, alloc_trail, root_trail, segment_trail, page_trail, header_trail, block_trail, reference_trail, plain_trail, live_trail, more_trail, commit_trail, slot_trail, close_trail, class_trail}
use Rattle.plans.specs.Grown.{Grows}

-- ---- what the memo shows on the way

-- the era that was read is the own era and leaves room for the step, the root is empty, and the roots before it are set
pub record GoalHas (c : ℕ) (r : Memo) (g : Goal) : Type 0 where
  pub room : g.era + 3 ≤ 2 ^ 47
  pub number : g.root < 16
  pub era : g.era ≡ own_word r.own (spot.Era c c)
  pub empty : own_word r.own (spot.Root c g.root) ≡ 0
  pub before : (j : ℕ) → j < g.root → own_word r.own (spot.Root c j) ≢ 0

-- of the block that is prepared so many reference words and so many plain words are stored, and its tag
pub record IsPrepared (wide : Bool) (c : ℕ) (q : Request) (b refs plain : ℕ) (k : Making) : Type 0 where
  pub block : k.block ≡ b
  pub class : k.class ≡ class_asked q
  pub tag : Contains k.words (record { spot = spot.Tag b; value = tag_asked wide q c })
  pub zeros : (j : ℕ) → j < refs → Contains k.words (record { spot = spot.Body b j; value = 0 })
  pub words : (j : ℕ) → j < plain → Contains k.words (record { spot = spot.Body b (q.refs + j); value = slice_index q.plain j })

-- that block is prepared in the memo
abbrev pub Prepares : Bool → ℕ → Request → ℕ → ℕ → ℕ → Memo → Type 0
Prepares wide c q b refs plain r = (k : Making) × (r.making ≡ Some k) × IsPrepared wide c q b refs plain k

-- the words of the new block are known
abbrev pub Knows : Bool → ℕ → Request → ℕ → Memo → Memo → Type 0
Knows wide c q b r0 r = (k : Making) × (r.known ≡ k.words ++ r0.known) × IsPrepared wide c q b q.refs q.count k

-- the redo word, as it is stored
abbrev pub redo_stored : Me → Goal → ℕ → Stored
redo_stored me g b = record { spot = spot.Redo me.who; value = first_word me.geometry.wide (redo_asked me g.root b) }

-- in format 2 its second word, which is stored before
abbrev pub more_stored : Me → Goal → ℕ → Stored
more_stored me g b = record { spot = spot.RedoMore me.who; value = second_word me.geometry.wide (redo_asked me g.root b) }

-- the own words where the redo word is to be stored
abbrev pub readied : Me → Goal → ℕ → List Stored → List Stored
readied me g b own = if me.geometry.wide then more_stored me g b ∷ own else own

-- the step in progress at a point
abbrev pub op_at : ℕ → AllocPoint → Op
op_at c (Commit g b) = op.Alloc Begun (spot.Root c g.root) b g.era
op_at c (Slot g b) = op.Alloc Committed (spot.Root c g.root) b g.era
op_at c (Close g b) = op.Alloc Written (spot.Root c g.root) b g.era
op_at c p = op.Nothing

-- the own words with those that are stored up to a point
abbrev pub own_at : Me → AllocPoint → List Stored → List Stored
own_at me (Redo g b) own = readied me g b own
own_at me (Commit g b) own = redo_stored me g b ∷ readied me g b own
own_at me (Slot g b) own = redo_stored me g b ∷ readied me g b own
own_at me (Close g b) own = record { spot = spot.Root me.who g.root; value = b } ∷ redo_stored me g b ∷ readied me g b own
own_at me p own = own

-- what neither the search nor the making changes; segments are claimed, and stay so
pub record AllocStays (r0 r : Memo) : Type 0 where
  pub status : r.status ≡ r0.status
  pub latch : r.latch ≡ r0.latch
  pub looks : r.looks ≡ r0.looks
  pub dying : r.dying ≡ r0.dying
  pub sent : r.sent ≡ r0.sent
  pub received : r.received ≡ r0.received
  pub unsent : r.unsent ≡ r0.unsent
  pub untaken : r.untaken ≡ r0.untaken
  pub part : r.part ≡ r0.part
  pub owned : (new : List ℕ) × (r.owned ≡ new ++ r0.owned)

-- no block is prepared, and what is known is what was
pub record Searches (r0 r : Memo) : Type 0 where
  pub making : r.making ≡ None
  pub known : r.known ≡ r0.known
  pub values : r.values ≡ r0.values

-- what the memo shows at a point
abbrev pub PointHas : Me → Request → Memo → Memo → AllocPoint → Type 0
PointHas me q r0 r Era = Searches r0 r
PointHas me q r0 r (Root e k) = Searches r0 r × (e ≡ own_word r.own (spot.Era me.who me.who)) × ((j : ℕ) → j < k → own_word r.own (spot.Root me.who j) ≢ 0)
PointHas me q r0 r (Segment g s) = Searches r0 r × GoalHas me.who r g
PointHas me q r0 r (Claim g s) = Searches r0 r × GoalHas me.who r g
PointHas me q r0 r (Page g s p) = Searches r0 r × GoalHas me.who r g × Contains r.owned (segment_at me q s.segment)
PointHas me q r0 r (Class g s p) = Searches r0 r × GoalHas me.who r g × Contains r.owned (segment_at me q s.segment) × Contains r.zeros (spot.Page (segment_at me q s.segment) (page_at q p))
PointHas me q r0 r (Header g s p i) = Searches r0 r × GoalHas me.who r g × Contains r.owned (segment_at me q s.segment) × (class_read r.facts (segment_at me q s.segment) (page_at q p) ≡ class_asked q)
PointHas me q r0 r (Tag g b) = Searches r0 r × GoalHas me.who r g × Contains r.zeros (spot.Head b) × (class_told me.geometry r.facts b ≡ class_asked q)
PointHas me q r0 r (Reference g b i) = (r.known ≡ r0.known) × (r.values ≡ r0.values) × GoalHas me.who r g × Prepares me.geometry.wide me.who q b i 0 r
PointHas me q r0 r (Plain g b i) = (r.known ≡ r0.known) × (r.values ≡ r0.values) × GoalHas me.who r g × Prepares me.geometry.wide me.who q b q.refs i r
PointHas me q r0 r (More g b) = (r.known ≡ r0.known) × (r.values ≡ r0.values) × GoalHas me.who r g × Prepares me.geometry.wide me.who q b q.refs q.count r × (me.geometry.wide ≡ true)
PointHas me q r0 r (Redo g b) = (r.known ≡ r0.known) × (r.values ≡ r0.values) × GoalHas me.who r0 g × Prepares me.geometry.wide me.who q b q.refs q.count r
PointHas me q r0 r (Commit g b) = (r.known ≡ r0.known) × (r.values ≡ r0.values) × GoalHas me.who r0 g × Prepares me.geometry.wide me.who q b q.refs q.count r
PointHas me q r0 r (Slot g b) = (r.making ≡ None) × (r.values ≡ values_with me.geometry.wide r0 b (tag_asked me.geometry.wide q me.who)) × GoalHas me.who r0 g × Knows me.geometry.wide me.who q b r0 r × Contains r.made b
PointHas me q r0 r (Close g b) = (r.making ≡ None) × (r.values ≡ values_with me.geometry.wide r0 b (tag_asked me.geometry.wide q me.who)) × GoalHas me.who r0 g × Knows me.geometry.wide me.who q b r0 r × Contains r.made b
PointHas me q r0 r Over = Unit {0}

-- what follows where a segment has no free block, by how many headers were read
abbrev pub segments_after : Me → Request → Goal → Search → ℕ → AllocTrails
segments_after me q g s used = segment_trail me q (me.geometry.segments - (s.segment + 1)) (s.segment + 1) g.era g.root s.taken used

-- what follows where a page has no free block: the pages after it, and then the segments
abbrev pub pages_after : Me → Request → Goal → Search → ℕ → ℕ → AllocTrails
pages_after me q g s p used = page_trail me q (15 - p) (p + 1) (segment_at me q s.segment) g.era g.root used (segments_after me q g s)

-- a segment that is nobody's is claimed
abbrev pub claim_trail : Me → Request → Goal → Search → AllocTrails
claim_trail me q g s =
    Asked (Exchange (address me.geometry (place.Segment (segment_at me q s.segment))) 0 (me.who + 1)) (λ y.
    Chosen (y == 0) (page_trail me q 16 0 (segment_at me q s.segment) g.era g.root s.used (segments_after me q g s)) (segment_trail me q (me.geometry.segments - (s.segment + 1)) (s.segment + 1) g.era g.root (s.taken + 1) s.used))

-- the trails from a point on
abbrev pub point_trail : Me → Request → AllocPoint → AllocTrails
point_trail me q Era = alloc_trail me q
point_trail me q (Root e k) = root_trail me q (16 - k) k e
point_trail me q (Segment g s) = segment_trail me q (me.geometry.segments - s.segment) s.segment g.era g.root s.taken s.used
point_trail me q (Claim g s) = claim_trail me q g s
point_trail me q (Page g s p) = page_trail me q (16 - p) p (segment_at me q s.segment) g.era g.root s.used (segments_after me q g s)
point_trail me q (Class g s p) = class_trail me q (segment_at me q s.segment) (page_at q p) g.era g.root s.used (pages_after me q g s p)
point_trail me q (Header g s p i) = header_trail me q (128 / class_asked q - i) i (address me.geometry (place.Body (segment_at me q s.segment) (page_at q p) 0)) g.era g.root s.used (pages_after me q g s p)
point_trail me q (Tag g b) = block_trail me q g.era g.root b
point_trail me q (Reference g b i) = reference_trail me q (q.refs - i) i g.era g.root b
point_trail me q (Plain g b i) = plain_trail me q (q.count - i) i g.era g.root b
point_trail me q (More g b) = more_trail me q g.era g.root b
point_trail me q (Redo g b) = live_trail me q g.era g.root b
point_trail me q (Commit g b) = commit_trail me q g.era g.root b
point_trail me q (Slot g b) = slot_trail me q g.era g.root b
point_trail me q (Close g b) = close_trail me q g.era g.root b
point_trail me q Over = λ tr a. ⊥

-- ---- an allocation

-- the identity is one of the pool's, and between two calls
pub record CanAlloc (me : Me) (r : Memo) : Type 0 where
  pub geometry : GeometryFits me.geometry
  pub who : me.who < me.geometry.clients
  pub idle : IsIdle me.who r

-- what holds of the memo at a point
pub record PointHolds (me : Me) (q : Request) (r0 r : Memo) (p : AllocPoint) : Type 0 where
  pub stays : AllocStays r0 r
  pub op : r.op ≡ op_at me.who p
  pub own : r.own ≡ own_at me p r0.own
  pub has : PointHas me q r0 r p

-- it could begin, the memo shows what the point needs, and what was asked is the first part of a trail that goes on from the point, leads there, and tells of the events up to it
pub record AllocFits (m : AllocState) (r0 r : Memo) (tr : Trail) : Type 0 where
  pub can : CanAlloc m.me r0
  pub knows : AllocInRange m
  pub begun : m.point ≢ Era → tr ≢ []
  pub grows : Grows true r0 r
  pub holds : PointHolds m.me m.request r0 r m.point
  pub trail : (rest : Trail) (a : Result Made AllocFault) → point_trail m.me m.request m.point rest a → alloc_trail m.me m.request (tr ++ rest) a
  pub course : after_all alloc_control (alloc_start m) tr ≡ m
  pub events : happens_along alloc_control alloc_event (alloc_start m) tr ≡ events_at m.me m.point

-- the own era and the root of an answer
abbrev pub goal_of : Me → Memo → Made → Goal
goal_of me r0 a = record { era = own_word r0.own (spot.Era me.who me.who); root = a.root }

-- a block was made: the own era left room, the block is named by the least empty root, its words are known, it is one that the call made, and the own era is the next one
pub record MadeGives (me : Me) (q : Request) (r0 r : Memo) (a : Made) : Type 0 where
  pub room : own_word r0.own (spot.Era me.who me.who) ≤ 2 ^ 47 - 3
  pub root : a.root < 16
  pub empty : own_word r0.own (spot.Root me.who a.root) ≡ 0
  pub before : (j : ℕ) → j < a.root → own_word r0.own (spot.Root me.who j) ≢ 0
  pub own : r.own ≡ record { spot = spot.Era me.who me.who; value = own_word r0.own (spot.Era me.who me.who) + 1 } ∷ record { spot = spot.Root me.who a.root; value = a.block } ∷ redo_stored me (goal_of me r0 a) a.block ∷ readied me (goal_of me r0 a) a.block r0.own
  pub knows : Knows me.geometry.wide me.who q a.block r0 r
  pub values : r.values ≡ values_with me.geometry.wide r0 a.block (tag_asked me.geometry.wide q me.who)
  pub made : Contains r.made a.block

-- nothing was made: own words and what is known are as they were
pub record RefusedGives (r0 r : Memo) : Type 0 where
  pub own : r.own ≡ r0.own
  pub known : r.known ≡ r0.known
  pub values : r.values ≡ r0.values

-- why: the own era is spent, all roots are set, or neither and no segment had a free block, as the trail tells
abbrev pub Cause : ℕ → Memo → AllocFault → Type 0
Cause c r0 (EraSpent e) = (e ≡ own_word r0.own (spot.Era c c)) × (2 ^ 47 - 3 < e)
Cause c r0 RootsFull = (own_word r0.own (spot.Era c c) ≤ 2 ^ 47 - 3) × ((j : ℕ) → j < 16 → own_word r0.own (spot.Root c j) ≢ 0)
Cause c r0 (Full taken used) = (own_word r0.own (spot.Era c c) ≤ 2 ^ 47 - 3) × ((k : ℕ) × (k < 16) × (own_word r0.own (spot.Root c k) ≡ 0))

-- what an answer says of the memos before and after
abbrev pub Gives : Me → Request → Memo → Memo → Result Made AllocFault → Type 0
Gives me q r0 r (Ok a) = MadeGives me q r0 r a
Gives me q r0 r (Err f) = RefusedGives r0 r × Cause me.who r0 f

-- what holds of the memo once it has answered
pub record AnswerHolds (me : Me) (q : Request) (r0 r : Memo) (a : Result Made AllocFault) : Type 0 where
  pub idle : IsIdle me.who r
  pub stays : AllocStays r0 r
  pub gives : Gives me q r0 r a

-- what holds of the memo after a step
abbrev pub NextHolds : Me → Request → Memo → Memo → AllocNext → Type 0
NextHolds me q r0 r (Point p) = PointHolds me q r0 r p
NextHolds me q r0 r (Answer a) = AnswerHolds me q r0 r a

-- the identity is between two calls, its agent is what it was, what was read of tails and heads stays, its trail is whole, and its own events are those of the answer
pub record AllocGives (m : AllocState) (r0 r : Memo) (tr : Trail) (a : Result Made AllocFault) : Type 0 where
  pub holds : AnswerHolds m.me m.request r0 r a
  pub grows : Grows true r0 r
  pub trail : alloc_trail m.me m.request tr a
  pub events : happens_along alloc_control alloc_event (alloc_start m) tr ≡ own_events m.me a
