-- what single word steps find, and what they leave of the memo of their identity, one kind after the other
use Rattle.std.specs.Prelude.{Bool, ◌≡◌, ◌≢◌, ℕ, ◌+◌, ◌%◌, ◌<◌, ◌≤◌, true, ◌==◌, if◌then◌else◌, ◌⊎◌, None, Some, [], ◌∷◌, ◌++◌, slice_index}
use Rattle.std.specs.List.{Contains, filter}
use Rattle.shm_words.specs.declared.geometry.Geometry.{Geometry}
use Rattle.shm_graph.specs.declared.spot.Spot.{Spot}
use Rattle.shm_graph.specs.declared.spot.Spot.TheVariants.{Hold, Home, Era, Tail, QueueHead, Slot, Page, Head, Body}
use Rattle.shm_graph.specs.declared.memo.{Fact.TheVariants.{Header as HeaderRead, Counter, Class}, Memo.Memo, Op.Op}
use Rattle.shm_graph.specs.{declared.memo.Op.TheVariants.Nothing, Agents.recovers, Core.core}
use Rattle.shm_graph.specs.{Events.{Event, ChangeDown, Nothing as NoEvent}, MemoAfterExchange.committed}
use Rattle.shm_graph.specs.{Held.status_word, Laws.GoneNow, Reach.{is_reached, learnt, unlatched}}
use Rattle.shm_graph.specs.{MemoAfterRead.{op_refused, reference_read, test_from, test_on, valued}, Spots.segment_of}
use Rattle.shm_graph.specs.MemoAfterStore.{with_own, written, tail_stored, head_stored, not_segment, era_stored, op_closed, without_looks}
use Rattle.shm_graph.specs.{Telling.{Claim, claims}, Views.{own_word, owner_is}}
use Rattle.shm_graph.specs.declared.memo.Status.TheVariants as status

-- ---- the form

-- Of the memo before, the word found and the memo after: what the memo before shows of the word; nothing of the memo is other than in the one made, but for its call, its agents and what it has read; and what was read is among that
pub record Leaves (finds : Memo → ℕ → Type 0) (makes : Memo → ℕ → Memo) (reads : Memo → ℕ → Memo → Type 0) (m : Memo) (n : ℕ) (x : Memo) : Type 0 where
  pub found : finds m n
  pub left : core x ≡ core (makes m n)
  pub read : reads m n x

-- the word may be any, the memo stays, and nothing is told of what was read
abbrev pub any_word : Memo → ℕ → Type 0
any_word m n = Unit {0}

abbrev pub same_memo : Memo → ℕ → Memo
same_memo m n = m

abbrev pub nothing_read : Memo → ℕ → Memo → Type 0
nothing_read m n x = Unit {0}

-- the memo shows the word at a spot of its own
abbrev pub own_at : Spot → Memo → ℕ → Type 0
own_at p m n = n ≡ own_word m.own p

-- what is known of a word is what is found
abbrev pub as_known : Spot → Memo → ℕ → Type 0
as_known p m n = (y : ℕ) → Contains m.known (record { spot = p; value = y }) → n ≡ y

-- a step that finds nothing leaves this
abbrev pub Makes : (Memo → Memo) → Memo → ℕ → Memo → Type 0
Makes F = Leaves any_word (λ m n. F m) nothing_read

-- ---- own words

-- an own word is loaded, of which nothing else comes: the redo record, a root, the home while the own latch isn't held, the hold word of a client or with no step in progress
abbrev pub OwnLoaded : Spot → Memo → ℕ → Memo → Type 0
OwnLoaded p = Leaves (own_at p) same_memo nothing_read

-- the status is loaded
abbrev pub StatusLoaded : Memo → ℕ → Memo → Type 0
StatusLoaded = Leaves (λ m n. n ≡ status_word m.status) same_memo nothing_read

-- a recoverer loads the hold word: a step that isn't committed ends
abbrev pub HoldLoaded : ℕ → Memo → ℕ → Memo → Type 0
HoldLoaded c = Leaves (own_at (Hold c)) (λ m n. if recovers m then record m { op = Nothing } else m) nothing_read

-- the hold word is stored
abbrev pub HoldStored : ℕ → ℕ → Memo → ℕ → Memo → Type 0
HoldStored c v = Makes (λ m. with_own m (Hold c) v)

-- the status is stored: live, dead, gone
abbrev pub LiveStored : Memo → ℕ → Memo → Type 0
LiveStored = Makes (λ m. record m { status = status.Live })

abbrev pub DeadStored : Memo → ℕ → Memo → Type 0
DeadStored = Makes (λ m. record m { status = status.Dead; making = None; known = []; values = [] })

abbrev pub GoneStored : ℕ → Memo → ℕ → Memo → Type 0
GoneStored c = Leaves any_word (λ m n. record m { status = status.Gone }) (λ m n x. GoneNow c x)

-- the own row is raised for another identity
abbrev pub RowStored : ℕ → ℕ → ℕ → Memo → ℕ → Memo → Type 0
RowStored c j v = Makes (λ m. with_own m (Era c j) v)

-- the own era is stored, one more: it closes the step in progress, or a half of it
abbrev pub EraStored : ℕ → Memo → ℕ → Memo → Type 0
EraStored c = Makes (λ m. era_stored c m (Era c c) (own_word m.own (Era c c) + 1))

-- so where the step lowers nothing, and where it lowers, whose looks are over
abbrev pub EraClosed : ℕ → Memo → ℕ → Memo → Type 0
EraClosed c = Makes (λ m. record (with_own m (Era c c) (own_word m.own (Era c c) + 1)) { op = op_closed m.op (own_word m.own (Era c c) + 1) })

abbrev pub EraClosedLowering : ℕ → Memo → ℕ → Memo → Type 0
EraClosedLowering c = Makes (λ m. without_looks c (record (with_own m (Era c c) (own_word m.own (Era c c) + 1)) { op = op_closed m.op (own_word m.own (Era c c) + 1) }))

-- ---- counters: eras of rows, tails and heads

-- one is loaded, and joins what was read; the memo shows an own one
abbrev pub CountLoaded : ℕ → Spot → Memo → ℕ → Memo → Type 0
CountLoaded c p = Leaves (λ m n. owner_is c p ≡ true → own_at p m n) same_memo (λ m n x. Contains x.facts (Counter p n))

-- ---- homes and latches

-- a home is loaded under its author's latch: its block joins the looks
abbrev pub HomeLooked : ℕ → ℕ → Memo → ℕ → Memo → Type 0
HomeLooked c a = Leaves (λ m n. a ≡ c → own_at (Home a) m n) (λ m n. if n == 0 then m else record m { looks = m.looks ++ record { block = n; from = Home a } ∷ [] }) nothing_read

-- a home is loaded without it
abbrev pub HomeLoaded : ℕ → ℕ → Memo → ℕ → Memo → Type 0
HomeLoaded c a = Leaves (λ m n. a ≡ c → own_at (Home a) m n) same_memo nothing_read

-- a latch is loaded: it is the identity's where the memo says so
abbrev pub LatchLoaded : ℕ → ℕ → Memo → ℕ → Memo → Type 0
LatchLoaded c a = Leaves (λ m n. (n ≡ c + 1 → m.latch ≡ Some a) × (m.latch ≡ Some a → n ≡ c + 1)) same_memo nothing_read

-- a latch that was nobody's is the identity's, and another stays whose it is
abbrev pub LatchTaken : ℕ → Memo → ℕ → Memo → Type 0
LatchTaken a = Leaves any_word (λ m n. if n == 0 then record m { latch = Some a } else m) nothing_read

-- the latch is given back
abbrev pub LatchGiven : Bool → ℕ → Memo → ℕ → Memo → Type 0
LatchGiven wide c = Makes (unlatched wide c)

-- ---- segments and pages

-- a segment's word is loaded: it is the identity's where the memo lists it
abbrev pub SegmentLoaded : ℕ → ℕ → Memo → ℕ → Memo → Type 0
SegmentLoaded c s = Leaves (λ m n. (n ≡ c + 1 → Contains m.owned s) × (Contains m.owned s → n ≡ c + 1)) same_memo nothing_read

-- a segment that was nobody's is the identity's, and another stays whose it is
abbrev pub SegmentTaken : ℕ → Memo → ℕ → Memo → Type 0
SegmentTaken s = Leaves any_word (λ m n. if n == 0 then record m { owned = s ∷ m.owned } else m) nothing_read

-- a segment is given up
abbrev pub SegmentGiven : ℕ → Memo → ℕ → Memo → Type 0
SegmentGiven s = Makes (λ m. record m { owned = filter (not_segment s) m.owned })

-- a page's class is loaded, and joins what was read; in an own segment 0 does too
abbrev pub PageLoaded : ℕ → ℕ → Memo → ℕ → Memo → Type 0
PageLoaded s q = Leaves any_word same_memo (λ m n x. (n ≢ 0 → Contains x.facts (Class s q n)) × (n ≡ 0 → Contains m.owned s → Contains x.zeros (Page s q)))

-- ---- queues

-- slot k is the next one of the queue to another of the n clients, no step is in progress, and there is room: a block waits there for its tail, or a head that was read leaves some
pub record IsTailSlot (n c : ℕ) (m : Memo) (i k : ℕ) : Type 0 where
  pub to : i < n
  pub other : c ≢ i
  pub idle : m.op ≡ Nothing
  pub next : k ≡ own_word m.own (Tail c i) % 8
  pub room : (slice_index m.unsent i ≢ 0) ⊎ ((y : ℕ) × Contains m.facts (Counter (QueueHead c i) y) × (own_word m.own (Tail c i) < y + 8))

-- slot k is the head slot of the queue from another of the n clients, no step is in progress, a tail that was read is above the head, and the item isn't taken
pub record IsHeadSlot (n c : ℕ) (m : Memo) (s k : ℕ) : Type 0 where
  pub from : s < n
  pub other : s ≢ c
  pub idle : m.op ≡ Nothing
  pub place : k ≡ own_word m.own (QueueHead s c) % 8
  pub left : slice_index m.untaken s ≡ 0
  pub some : (y : ℕ) × Contains m.facts (Counter (Tail s c) y) × (own_word m.own (QueueHead s c) < y)

-- the slot at an own tail is loaded: it has the block whose tail isn't stored
abbrev pub TailSlotLoaded : ℕ → Memo → ℕ → Memo → Type 0
TailSlotLoaded r = Leaves (λ m n. n ≡ slice_index m.unsent r) same_memo nothing_read

-- the head slot of a queue that isn't empty is loaded: its block is known
abbrev pub HeadSlotLoaded : ℕ → ℕ → ℕ → Memo → ℕ → Memo → Type 0
HeadSlotLoaded c s k = Leaves (λ m n. (n ≢ 0) × as_known (Slot s c k) m n) (λ m n. record m { known = learnt (Slot s c k) n m.known; values = valued m.part n m.values }) nothing_read

-- the tail of a queue to another is stored, one more: the block that waited is sent
abbrev pub TailStored : ℕ → ℕ → Memo → ℕ → Memo → Type 0
TailStored c i = Makes (λ m. tail_stored m (Tail c i) i (own_word m.own (Tail c i) + 1))

-- the head of a queue from another is stored, one more: the block that was taken is received
abbrev pub HeadStored : ℕ → ℕ → Memo → ℕ → Memo → Type 0
HeadStored c i = Makes (λ m. head_stored m (QueueHead i c) i (own_word m.own (QueueHead i c) + 1))

-- ---- blocks

-- word i of block b is one after its reference words, as the memo tells it
abbrev pub IsPlainWord : Bool → ℕ → Memo → ℕ → ℕ → Type 0
IsPlainWord wide c m b i = (k : Claim) × Contains (claims wide c m) k × (k.block ≡ b) × (k.refs ≤ i) × (i < k.refs + k.plain)

-- word i of block b is a word of a zero-count block of the identity, as the memo tells it
abbrev pub IsDyingWord : Bool → ℕ → Memo → ℕ → ℕ → Type 0
IsDyingWord wide c m b i = Contains m.dying b × ((k : Claim) × Contains (claims wide c m) k × (k.block ≡ b) × (i < k.refs + k.plain))

-- word i of block b is a reference word, and the latch of the block's author is held, which is told too; the block is in reach
abbrev pub IsLatchedWord : Bool → ℕ → Memo → ℕ → ℕ → Type 0
IsLatchedWord wide c m b i = (is_reached c m b ≡ true) × ((k : Claim) × (a : ℕ) × Contains (claims wide c m) k × (k.block ≡ b) × (i < k.refs) × (k.author ≡ Some a) × (m.latch ≡ Some a))

-- a header joins what was read; in an own segment 0 does too
abbrev pub HeaderRemains : Geometry → ℕ → Memo → ℕ → Memo → Type 0
HeaderRemains g b m n x = Contains x.facts (HeaderRead n) × (n ≡ 0 → Contains m.owned (segment_of g b) → Contains x.zeros (Head b))

-- a header is loaded: a step ends that is to raise the block and finds its count full
abbrev pub HeaderLoaded : Geometry → ℕ → Memo → ℕ → Memo → Type 0
HeaderLoaded g b = Leaves any_word (λ m n. record m { op = op_refused m b n }) (HeaderRemains g b)

-- where no step could end so the memo stays
abbrev pub HeaderSeen : Geometry → ℕ → Memo → ℕ → Memo → Type 0
HeaderSeen g b = Leaves any_word same_memo (HeaderRemains g b)

-- a tag, a plain word, or a word of a zero-count block is loaded: it is known
abbrev pub WordLoaded : Spot → Memo → ℕ → Memo → Type 0
WordLoaded p = Leaves (as_known p) (λ m n. record m { known = learnt p n m.known }) nothing_read

-- a reference word is loaded under its author's latch: it is known, and its block joins the looks
abbrev pub ReferenceLoaded : ℕ → ℕ → Memo → ℕ → Memo → Type 0
ReferenceLoaded b i = Leaves (as_known (Body b i)) (λ m n. reference_read m b i n) nothing_read

-- ---- slots of steps in progress

-- the new value is stored into a root or the home, into a slot of a queue, and into a word of a block
abbrev pub NamedStored : Spot → ℕ → Memo → ℕ → Memo → Type 0
NamedStored p v = Makes (λ m. written (with_own m p v))

abbrev pub SlotStored : Memo → ℕ → Memo → Type 0
SlotStored = Makes written

abbrev pub BodyStored : ℕ → ℕ → ℕ → Memo → ℕ → Memo → Type 0
BodyStored b i v = Makes (λ m. record (written m) { known = learnt (Body b i) v m.known })

-- ---- the second half of a change

-- the header of the block before is exchanged: the change loses the reference that it holds over, or another header was found, which joins what was read
abbrev pub FormerLowered : Bool → ℕ → Op → ℕ → ℕ → Memo → ℕ → Memo → Type 0
FormerLowered wide c o from to = Leaves any_word (λ m n. if n == from then committed wide c m o to else m) (λ m n x. n ≢ from → Contains x.facts (HeaderRead n))

-- which is the event, where the exchange succeeds
abbrev pub former_event : ℕ → ℕ → ℕ → ℕ → Event
former_event c a from n = if n == from then ChangeDown c a else NoEvent

-- ---- the commit test

-- a recoverer loads the header of a block: the test begins where the header doesn't show the own era; word 0 is no block's header, and begins none
abbrev pub TestBegun : Geometry → ℕ → ℕ → Memo → ℕ → Memo → Type 0
TestBegun g c b = Leaves any_word same_memo (λ m n x. b ≢ 0 → (x.test ≡ test_from c (own_word m.own (Era c c)) b n) × HeaderRemains g b m n x)

-- a recoverer loads the row of another identity: the test goes on where it is the next one and doesn't show the own era
abbrev pub TestGoesOn : ℕ → ℕ → Memo → ℕ → Memo → Type 0
TestGoesOn c k = Leaves any_word same_memo (λ m n x. (x.test ≡ test_on c (own_word m.own (Era c c)) m.test k n) × Contains x.facts (Counter (Era k c) n))
