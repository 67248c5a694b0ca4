-- the invariant of a pool: every clause, each over the parts that it reads
use Rattle.std.specs.Prelude.{◌≡◌, ◌≢◌, ℕ, ◌+◌, ◌%◌, ◌^◌, ◌<◌, ◌≤◌, Bool, true, false, ◌==◌, ◌⊎◌, List, [], ◌∷◌, length, slice_index, slice_index_or, Option, Some, None, take}
use Rattle.std.specs.List.{All, Contains}
use Rattle.shm_words.specs.declared.{geometry.Geometry.Geometry, header.Header.Header, redo.Redo.Redo as ARedo}
use Rattle.shm_words.specs.{Redos.{redo_of, kind_of, odd_of}, Headers.header_of}
use Rattle.shm_words.specs.{Tags.{tag_refs, tag_plain, tag_author, tag_link, tag_limit}, Classes.{IsClass, class_for}}
use Rattle.shm_words.specs.Layout.{GeometryFits}
use Rattle.shm_words.specs.declared.redo.Redo.TheVariants as redos
use Rattle.shm_graph.specs.declared.spot.Spot.{Spot}
use Rattle.shm_graph.specs.declared.spot.Spot.TheVariants.{Spare, Status, Redo, RedoMore, Hold, Latch, Home, Era, Root, Tail, QueueHead, Slot, Segment, Page, Unused, Head, Tag, Body}
use Rattle.shm_graph.specs.declared.memo.{Status.Status as AStatus, First.First}
use Rattle.shm_graph.specs.declared.memo.First.TheVariants.{Begun, Committed, Written}
use Rattle.shm_graph.specs.declared.memo.{ChangeStage.TheVariants.{Raising, Lowering}, Op.Op}
use Rattle.shm_graph.specs.declared.memo.{Op.TheVariants.{Nothing, Alloc, Up, Down, Change}, Stored.Stored, Look.Look}
use Rattle.shm_graph.specs.declared.memo.{Making.Making, Fact.Fact}
use Rattle.shm_graph.specs.declared.memo.{Fact.TheVariants.{Header as HeaderRead, Counter, Class}, Test.Test}
use Rattle.shm_graph.specs.declared.table.Part.{Part, TheVariants.{Loose, Table}}
use Rattle.shm_graph.specs.{Spots.{IsAt, class_at, spot_address, segment_of}, Blocks.IsBlock}
use Rattle.shm_graph.specs.{References.{Words, words_of}, Tables.{Contents, contents_of, HasShape, IsPartition}}
use Rattle.shm_graph.specs.Ops.{word_at, is_op, slot_of, up_slot, indegree}
use Rattle.shm_graph.specs.Views.{View, own_word, owner_is, targets, held_overs, ons}
use Rattle.shm_graph.specs.declared.memo.Status.TheVariants as status

-- ---- words that have few values

pub record SmallSound (n : ℕ) (hold latch segment : ℕ → ℕ) (class : ℕ → ℕ → ℕ) : Type 0 where
  pub holds : (c : ℕ) → hold c ≤ n
  pub latches : (a : ℕ) → latch a ≤ n
  pub segments : (s : ℕ) → segment s ≤ n
  pub classes : (s p : ℕ) → class s p ≢ 0 → IsClass (class s p)

abbrev pub status_word : AStatus → ℕ
status_word status.New = 0
status_word status.Live = 1
status_word status.Dead = 2
status_word status.Gone = 3

-- ---- what the words show of one identity

pub record LatchTie (latch hold : ℕ → ℕ) (c : ℕ) (held : Option ℕ) : Type 0 where
  pub some : (a : ℕ) → held ≡ Some a → (latch a ≡ c + 1) × (hold c ≡ a + 1)
  pub all : (a : ℕ) → latch a ≡ c + 1 → held ≡ Some a

pub record SegmentTie (segment : ℕ → ℕ) (c : ℕ) (owned : List ℕ) : Type 0 where
  pub listed : (s : ℕ) → Contains owned s → segment s ≡ c + 1
  pub all : (s : ℕ) → segment s ≡ c + 1 → Contains owned s

-- a header is that of a dying block of c
abbrev pub IsDying : Header → ℕ → Type 0
IsDying h c = (h.live ≡ true) × (h.count ≡ 0) × (h.client ≡ c)

pub record DyingTie (head : ℕ → Header) (c : ℕ) (dying : List ℕ) : Type 0 where
  pub listed : (b : ℕ) → Contains dying b → IsDying (head b) c
  pub all : (b : ℕ) → IsDying (head b) c → Contains dying b

-- a word of the block that is prepared
abbrev pub InBlock : (ℕ → ℕ) → (ℕ → ℕ → ℕ) → ℕ → ℕ → Spot → ℕ → Type 0
InBlock tag body b k (Tag d) x = (d ≡ b) × (tag d ≡ x)
InBlock tag body b k (Body d i) x = (d ≡ b) × (i + 2 < k) × (body d i ≡ x)
InBlock tag body b k _ x = ⊥

pub record MakingSound (g : Geometry) (class : ℕ → ℕ → ℕ) (segment word tag : ℕ → ℕ) (body : ℕ → ℕ → ℕ) (c : ℕ) (m : Making) : Type 0 where
  pub free : word m.block ≡ 0
  pub block : IsBlock g class m.block
  pub mine : segment (segment_of g m.block) ≡ c + 1
  pub sized : class_at g class m.block ≡ m.class
  pub stored : All (λ (s : Stored). InBlock tag body m.block m.class s.spot s.value) m.words

abbrev pub MakingTie : Geometry → (ℕ → ℕ → ℕ) → (ℕ → ℕ) → (ℕ → ℕ) → (ℕ → ℕ) → (ℕ → ℕ → ℕ) → ℕ → Option Making → Type 0
MakingTie g class segment word tag body c None = Unit {0}
MakingTie g class segment word tag body c (Some m) = MakingSound g class segment word tag body c m

-- ---- blocks, counts, eras

pub record TagSound (wide : Bool) (n k t : ℕ) : Type 0 where
  pub small : t < tag_limit wide
  pub refs : tag_refs wide t ≤ 16
  pub plain : tag_plain wide t ≤ 8
  pub author : tag_author wide t < n
  pub fits : class_for (tag_refs wide t) (tag_plain wide t) ≡ k

pub record BlockSound (g : Geometry) (class : ℕ → ℕ → ℕ) (word tag : ℕ → ℕ) : Type 0 where
  pub plain : (b : ℕ) → (header_of (word b)).live ≡ false → word b ≡ 0
  pub tagged : (b : ℕ) → (header_of (word b)).live ≡ true → TagSound g.wide g.clients (class_at g class b) (tag b)
  pub link : (b : ℕ) → (header_of (word b)).live ≡ true → (header_of (word b)).count ≢ 0 → tag_link g.wide (tag b) ≡ 0

pub record CountSound (g : Geometry) (class : ℕ → ℕ → ℕ) (head : ℕ → Header) (t : Spot → ℕ) (l : ℕ → ℕ) : Type 0 where
  pub counts : (b : ℕ) → (head b).live ≡ true → (head b).count ≡ indegree g class t l b
  pub targets : (p : Spot) → t p ≢ 0 → (head (t p)).live ≡ true
  pub held_overs : (c : ℕ) → c < g.clients → l c ≢ 0 → (head (l c)).live ≡ true

-- an era of j that was seen, with the block where it was seen
pub record Committing (era : ℕ → ℕ → ℕ) (on : ℕ → Option ℕ) (j x b : ℕ) : Type 0 where
  pub most : x ≤ era j j
  pub equal : x ≡ era j j → on j ≡ Some b

-- an era of j that was seen, wherever
pub record Bound (era : ℕ → ℕ → ℕ) (on : ℕ → Option ℕ) (j x : ℕ) : Type 0 where
  pub most : x ≤ era j j
  pub equal : x ≡ era j j → (b : ℕ) × (on j ≡ Some b)

-- the header shows (c, its own era), or another row shows that era of c
abbrev pub Shown : ℕ → (ℕ → ℕ → ℕ) → Header → ℕ → Type 0
Shown n era h c = ((h.client ≡ c) × (h.era ≡ era c c)) ⊎ ((k : ℕ) × (k < n) × (k ≢ c) × (era c c ≤ era k c))

pub record EraSound (n : ℕ) (head : ℕ → Header) (era : ℕ → ℕ → ℕ) (on : ℕ → Option ℕ) : Type 0 where
  pub client : (b : ℕ) → (head b).live ≡ true → (head b).client < n
  pub age : (b : ℕ) → (head b).live ≡ true → 1 ≤ (head b).era
  pub header : (b : ℕ) → (head b).live ≡ true → Committing era on (head b).client (head b).era b
  pub row : (i j : ℕ) → i < n → j < n → i ≢ j → Bound era on j (era i j)
  pub shown : (c b : ℕ) → c < n → on c ≡ Some b → Shown n era (head b) c

-- what an op needs above the own era, so that its eras still have a word
abbrev pub room_of : Op → ℕ
room_of Nothing = 2
room_of (Change (Raising s) p a b e) = 4
room_of _ = 3

pub record OwnSound (own : ℕ) (o : Op) : Type 0 where
  pub some : 1 ≤ own
  pub room : own + room_of o ≤ 2 ^ 47

-- ---- ops

abbrev pub odd : ℕ → Bool
odd e = e % 2 == 1

-- the word of the slot
abbrev pub value_from : First → ℕ → ℕ → ℕ
value_from Begun old new = old
value_from Committed old new = old
value_from Written old new = new

-- the blocks that a redo record names are blocks
abbrev pub Names : Geometry → (ℕ → ℕ → ℕ) → ARedo → Type 0
Names g class redos.Idle = Unit {0}
Names g class (redos.Up p b) = IsBlock g class b
Names g class (redos.Down p b) = IsBlock g class b
Names g class (redos.Change parity p a b) = IsBlock g class a × IsBlock g class b

pub record OpSound (g : Geometry) (class : ℕ → ℕ → ℕ) (redo more own held : ℕ) (p : Spot) (spelling : ARedo) (e value : ℕ) : Type 0 where
  pub spelled : redo_of g.wide redo more ≡ Some spelling
  pub blocks : Names g class spelling
  pub current : e ≡ own
  pub at : IsAt g class p
  pub word : held ≡ value

-- while there is no op; in format 2 the second word may be another record's then, and the first word alone tells the parity
abbrev pub IdleSound : ℕ → ℕ → Type 0
IdleSound redo own = kind_of redo ≡ 3 → odd_of redo ≡ odd own

abbrev pub OpTie : Geometry → (ℕ → ℕ → ℕ) → ℕ → ℕ → ℕ → Words → Op → Type 0
OpTie g class redo more own x Nothing = IdleSound redo own
OpTie g class redo more own x (Alloc s p b e) = OpSound g class redo more own (word_at x p) p (redos.Up (spot_address g p) b) e (value_from s 0 b)
OpTie g class redo more own x (Up s p b e) = OpSound g class redo more own (word_at x p) p (redos.Up (spot_address g p) b) e (value_from s 0 b)
OpTie g class redo more own x (Down s p b e) = OpSound g class redo more own (word_at x p) p (redos.Down (spot_address g p) b) e (value_from s b 0)
OpTie g class redo more own x (Change (Raising s) p a b e) = OpSound g class redo more own (word_at x p) p (redos.Change (odd e) (spot_address g p) a b) e (value_from s a b)
OpTie g class redo more own x (Change (Lowering s) p a b e) = OpSound g class redo more own (word_at x p) p (redos.Change (odd (e + 1)) (spot_address g p) a b) e b

-- the second word of a redo record is 0 or names a block
abbrev pub IsSecond : Geometry → (ℕ → ℕ → ℕ) → ℕ → Type 0
IsSecond g class x = (x ≡ 0) ⊎ IsBlock g class x

-- in format 2 the block before is 0 while the words are of two records: one that raises a block has 0 as its second word
abbrev pub IsBefore : Geometry → (ℕ → ℕ → ℕ) → ℕ → Type 0
IsBefore g class a = ((g.wide ≡ true) × (a ≡ 0)) ⊎ IsBlock g class a

abbrev pub MayName : Geometry → (ℕ → ℕ → ℕ) → ARedo → Type 0
MayName g class redos.Idle = Unit {0}
MayName g class (redos.Up p b) = IsBlock g class b
MayName g class (redos.Down p b) = IsBefore g class b
MayName g class (redos.Change parity p a b) = IsBefore g class a × IsBlock g class b

-- the blocks that the first word names
abbrev pub FirstNames : Geometry → (ℕ → ℕ → ℕ) → ARedo → Type 0
FirstNames g class redos.Idle = Unit {0}
FirstNames g class (redos.Up p b) = IsBlock g class b
FirstNames g class (redos.Down p b) = g.wide ≡ false → IsBlock g class b
FirstNames g class (redos.Change parity p a b) = (g.wide ≡ false → IsBlock g class a) × IsBlock g class b

-- with whichever second word the first one stands: in format 2 the second word is stored first, and then belongs to the next record
pub record RedoTie (g : Geometry) (class : ℕ → ℕ → ℕ) (redo more : ℕ) : Type 0 where
  pub second : IsSecond g class more
  pub first : (x : ℕ) (r : ARedo) → redo_of g.wide redo x ≡ Some r → FirstNames g class r

abbrev pub is_root : Spot → Bool
is_root (Root c k) = true
is_root _ = false

abbrev pub is_home : Spot → Bool
is_home (Home c) = true
is_home _ = false

abbrev pub is_slot : Spot → Bool
is_slot (Slot s r k) = true
is_slot _ = false

abbrev pub is_slot_to : ℕ → Spot → Bool
is_slot_to c (Slot s r k) = r == c
is_slot_to c _ = false

-- which slots a kind of op has
abbrev pub Allowed : ℕ → Op → Type 0
Allowed c Nothing = Unit {0}
Allowed c (Alloc s p b e) = is_root p ≡ true
Allowed c (Up s p b e) = is_slot_to c p ≡ false
Allowed c (Down s p b e) = is_home p ≡ false
Allowed c (Change h p a b e) = (is_slot p ≡ false) × (is_home p ≡ false) × (a ≢ b)

-- ---- reach, slots, looks

-- c has the block in a root, in its home or at the head of a queue to it
abbrev pub Named : (ℕ → ℕ) → ℕ → (ℕ → ℕ → ℕ) → (ℕ → ℕ) → (ℕ → ℕ) → ℕ → Type 0
Named root home slot tail queue_head b = (b ≢ 0) × (((k : ℕ) × (root k ≡ b)) ⊎ ((home ≡ b) ⊎ ((s : ℕ) × (queue_head s < tail s) × (slot s (queue_head s % 8) ≡ b))))

abbrev pub named_by : (Spot → ℕ) → (ℕ → ℕ → ℕ) → (ℕ → ℕ → ℕ) → ℕ → ℕ → Type 0
named_by t tail queue_head c b = Named (λ k. t (Root c k)) (t (Home c)) (λ s k. t (Slot s c k)) (λ s. tail s c) (λ s. queue_head s c) b

abbrev pub InLooks : List Look → ℕ → Type 0
InLooks looks b = (k : Look) × Contains looks k × (k.block ≡ b)

-- a block was read from this word, and the word still holds it
abbrev pub LookAt : (ℕ → ℕ) → (ℕ → ℕ → ℕ) → (ℕ → ℕ) → Option ℕ → (ℕ → Type 0) → Spot → ℕ → Type 0
LookAt home body author latch reach (Home a) block = (block ≢ 0) × (latch ≡ Some a) × (home a ≡ block)
LookAt home body author latch reach (Body b i) block = (block ≢ 0) × (latch ≡ Some (author b)) × (body b i ≡ block) × reach b
LookAt home body author latch reach _ block = ⊥

-- each look, where the looks before it are in `earlier`
abbrev pub LooksSound : (ℕ → ℕ) → (ℕ → ℕ → ℕ) → (ℕ → ℕ) → Option ℕ → (ℕ → Type 0) → List Look → List Look → Type 0
LooksSound home body author latch named earlier [] = Unit {0}
LooksSound home body author latch named earlier (k ∷ ks) = LookAt home body author latch (λ b. named b ⊎ InLooks earlier b) k.from k.block × LooksSound home body author latch named (k ∷ earlier) ks

-- the word is one that c may store
abbrev pub SlotOf : Bool → ℕ → (ℕ → Header) → (ℕ → ℕ) → Option ℕ → (ℕ → ℕ → ℕ) → (ℕ → ℕ → ℕ) → (ℕ → Type 0) → Spot → Type 0
SlotOf wide c head tag latch tail queue_head reach (Root d k) = d ≡ c
SlotOf wide c head tag latch tail queue_head reach (Home d) = d ≡ c
SlotOf wide c head tag latch tail queue_head reach (Slot s r k) = (s ≢ r) × (((s ≡ c) × (k ≡ tail s r % 8) × (tail s r < queue_head s r + 8)) ⊎ ((r ≡ c) × (k ≡ queue_head s r % 8) × (queue_head s r < tail s r)))
SlotOf wide c head tag latch tail queue_head reach (Body b i) = ((head b).live ≡ true) × (i < tag_refs wide (tag b)) × ((((head b).count ≡ 0) × ((head b).client ≡ c)) ⊎ ((tag_author wide (tag b) ≡ c) × (latch ≡ Some c) × reach b))
SlotOf wide c head tag latch tail queue_head reach _ = ⊥

-- ---- queues, calls, what is known

pub record LaneSound (t : ℕ → ℕ) (tail queue_head : ℕ) (sent : List ℕ) (unsent : ℕ) (received : List ℕ) (untaken : ℕ) : Type 0 where
  pub all_sent : tail ≡ length sent
  pub all_received : queue_head ≡ length received
  pub order : queue_head ≤ tail
  pub room : tail ≤ queue_head + 8
  pub prefix : received ≡ take queue_head sent
  pub some : All (λ b. b ≢ 0) sent
  pub items : (n : ℕ) → queue_head ≤ n → n < tail → (untaken ≡ 0) × (n ≡ queue_head) → t (n % 8) ≡ slice_index sent n
  pub later : (n : ℕ) → queue_head < n → n < tail → t (n % 8) ≡ slice_index sent n
  pub taken : untaken ≢ 0 → (queue_head < tail) × (slice_index sent queue_head ≡ untaken) × (t (queue_head % 8) ≡ 0)
  pub outside : (n : ℕ) → tail < n → n < queue_head + 8 → t (n % 8) ≡ 0
  pub next : tail < queue_head + 8 → t (tail % 8) ≡ unsent
  pub full : tail ≡ queue_head + 8 → unsent ≡ 0

-- what was read of a counter is at most what it is
abbrev pub CounterAt : (ℕ → ℕ → ℕ) → (ℕ → ℕ → ℕ) → (ℕ → ℕ → ℕ) → Spot → ℕ → Type 0
CounterAt era tail queue_head (Era i j) x = x ≤ era i j
CounterAt era tail queue_head (Tail s r) x = x ≤ tail s r
CounterAt era tail queue_head (QueueHead s r) x = x ≤ queue_head s r
CounterAt era tail queue_head _ x = Unit {0}

abbrev pub FactAt : ℕ → (ℕ → ℕ → ℕ) → (ℕ → Option ℕ) → (ℕ → ℕ → ℕ) → (ℕ → ℕ → ℕ) → (ℕ → ℕ → ℕ) → Fact → Type 0
FactAt n era on tail queue_head class (HeaderRead x) = (header_of x).live ≡ true → ((header_of x).client < n) × Bound era on (header_of x).client (header_of x).era
FactAt n era on tail queue_head class (Counter p x) = CounterAt era tail queue_head p x
FactAt n era on tail queue_head class (Class s p k) = (k ≢ 0) × (class s p ≡ k)

-- a page or a header of an own segment was read as 0
abbrev pub ZeroAt : Geometry → (ℕ → ℕ → ℕ) → (ℕ → ℕ) → (ℕ → ℕ) → ℕ → Spot → Type 0
ZeroAt g class segment word c (Page s p) = (class s p ≡ 0) × (segment s ≡ c + 1)
ZeroAt g class segment word c (Head b) = (word b ≡ 0) × IsBlock g class b × (segment (segment_of g b) ≡ c + 1)
ZeroAt g class segment word c _ = ⊥

abbrev pub TestAt : ℕ → (ℕ → ℕ → ℕ) → Option ℕ → ℕ → Option Test → Type 0
TestAt n era on c None = Unit {0}
TestAt n era on c (Some t) = on ≡ Some t.block → (k : ℕ) × (t.next ≤ k) × (k < n) × (k ≢ c) × (era c c ≤ era k c)

-- what c knows of a word that only it may change, or nobody
abbrev pub KnownAt : Bool → ℕ → (ℕ → ℕ) → (ℕ → ℕ → ℕ) → (ℕ → ℕ → ℕ → ℕ) → (ℕ → ℕ → ℕ) → (ℕ → ℕ → ℕ) → (ℕ → ℕ) → Option ℕ → (ℕ → Type 0) → List ℕ → Spot → ℕ → Type 0
KnownAt wide c tag body slot tail queue_head untaken latch reach dying (Tag b) x = (tag b ≡ x) × (Contains dying b ⊎ reach b)
KnownAt wide c tag body slot tail queue_head untaken latch reach dying (Body b i) x = (body b i ≡ x) × (Contains dying b ⊎ (reach b × ((tag_refs wide (tag b) ≤ i) ⊎ ((tag_author wide (tag b) ≡ c) ⊎ (latch ≡ Some (tag_author wide (tag b)))))))
KnownAt wide c tag body slot tail queue_head untaken latch reach dying (Slot s r k) x = (r ≡ c) × (s ≢ c) × (k ≡ queue_head s c % 8) × (queue_head s c < tail s c) × (untaken s ≡ 0) × (x ≢ 0) × (slot s c k ≡ x)
KnownAt wide c tag body slot tail queue_head untaken latch reach dying _ x = ⊥

-- ---- an identity that has not begun, has ended, or is between calls

pub record Fresh (c : ℕ) (own : List Stored) (o : Op) (latch : Option ℕ) (looks : List Look) (making : Option Making) (owned dying : List ℕ) (unsent untaken : ℕ → ℕ) : Type 0 where
  pub words : (p : Spot) → owner_is c p ≡ true → p ≢ Era c c → own_word own p ≡ 0
  pub idle : o ≡ Nothing
  pub latched : latch ≡ None
  pub looked : looks ≡ []
  pub made : making ≡ None
  pub segments : owned ≡ []
  pub dyings : dying ≡ []
  pub sends : (r : ℕ) → unsent r ≡ 0
  pub takes : (s : ℕ) → untaken s ≡ 0

pub record Gone (c : ℕ) (own : List Stored) (o : Op) (latch : Option ℕ) (owned dying : List ℕ) (unsent untaken : ℕ → ℕ) : Type 0 where
  pub roots : (k : ℕ) → own_word own (Root c k) ≡ 0
  pub hold : own_word own (Hold c) ≡ 0
  pub idle : o ≡ Nothing
  pub latched : latch ≡ None
  pub segments : owned ≡ []
  pub dyings : dying ≡ []
  pub sends : (r : ℕ) → unsent r ≡ 0
  pub takes : (s : ℕ) → untaken s ≡ 0

-- ---- the rule

abbrev pub reach_of : (Spot → ℕ) → (ℕ → ℕ → ℕ) → (ℕ → ℕ → ℕ) → (ℕ → List Look) → ℕ → ℕ → Type 0
reach_of t tail queue_head looks c b = named_by t tail queue_head c b ⊎ InLooks (looks c) b

-- ---- tables

abbrev pub is_loose : Part → Bool
is_loose Loose = true
is_loose (Table chains) = false

-- the part of a memo is the partition that the words hold
abbrev pub PartTie : Contents → ℕ → ℕ → Part → Type 0
PartTie x c home Loose = Unit {0}
PartTie x c home (Table chains) = IsPartition x c home (λ b. slice_index_or chains b [])

-- a value block in reach
abbrev pub ValueAt : Contents → (ℕ → Type 0) → ℕ → Type 0
ValueAt x reach b = HasShape x 0 1 b × reach b

-- a block that the call made: a root of its author is the one reference to it
abbrev pub MadeAt : (ℕ → Header) → (ℕ → ℕ) → ℕ → Type 0
MadeAt head root b = ((head b).count ≡ 1) × ((k : ℕ) × (root k ≡ b))

-- ---- bounds of the tails, which the own era outruns

abbrev pub TailSound : ℕ → ℕ → ℕ → ℕ → ℕ → Op → Type 0
TailSound c r own tail unsent o = (tail + 1 ≤ own) × (unsent ≢ 0 → up_slot o ≢ Slot c r (tail % 8) → tail + 2 ≤ own)

-- the words of a queue from an identity to itself are 0
abbrev pub IsUnusedLane : ℕ → ℕ → (ℕ → ℕ) → Type 0
IsUnusedLane tail queue_head t = (tail ≡ 0) × (queue_head ≡ 0) × ((k : ℕ) → t k ≡ 0)

-- nothing waits to be sent or received where the pool has no queue: between an identity and itself, or one beyond the clients
abbrev pub NothingWaits : ℕ → ℕ → (ℕ → ℕ) → (ℕ → ℕ) → Type 0
NothingWaits n c unsent untaken = (r : ℕ) → (r ≡ c) ⊎ (n ≤ r) → (unsent r ≡ 0) × (untaken r ≡ 0)

-- ---- the invariant

-- what holds between any two word steps, of the words and of the memos
pub record HeldAt (g : Geometry) (w : Spot → ℕ) (v : View) : Type 0 where
  -- the sizes are in range
  pub fits : GeometryFits g
  -- each word has 64 bits
  pub small : (p : Spot) → w p < 2 ^ 64
  -- a word that isn't 0 has a place in the pool
  pub there : (p : Spot) → w p ≢ 0 → IsAt g (λ s q. w (Page s q)) p
  -- the spare word is 0
  pub spare : w Spare ≡ 0
  -- the words of pages without a class are 0
  pub unused : (a : ℕ) → w (Unused a) ≡ 0
  -- hold, latch and segment words are in range, and page words are classes
  pub sizes : SmallSound g.clients (λ c. w (Hold c)) (λ a. w (Latch a)) (λ s. w (Segment s)) (λ s q. w (Page s q))
  -- the own words of a memo are the words
  pub mine : (c : ℕ) → c < g.clients → (p : Spot) → owner_is c p ≡ true → own_word (v.own c) p ≡ w p
  -- the status of a memo is the status word
  pub state : (c : ℕ) → c < g.clients → status_word (v.status c) ≡ w (Status c)
  -- the latch of a memo is the latch whose word names its identity, and its hold word tells it
  pub latch : (c : ℕ) → c < g.clients → LatchTie (λ a. w (Latch a)) (λ d. w (Hold d)) c (v.latch c)
  -- the segments of a memo are those whose words name its identity
  pub segments : (c : ℕ) → c < g.clients → SegmentTie (λ s. w (Segment s)) c (v.owned c)
  -- the zero-count blocks of a memo are those that its identity wrote last
  pub dying : (c : ℕ) → c < g.clients → DyingTie (λ b. header_of (w (Head b))) c (v.dying c)
  -- the block that is prepared is free, in an own segment, and has the words that were stored
  pub making : (c : ℕ) → c < g.clients → MakingTie g (λ s q. w (Page s q)) (λ s. w (Segment s)) (λ b. w (Head b)) (λ b. w (Tag b)) (λ b i. w (Body b i)) c (v.making c)
  -- headers are 0 or live; live blocks have tags of their class, with link 0 while their count isn't 0
  pub blocks : BlockSound g (λ s q. w (Page s q)) (λ b. w (Head b)) (λ b. w (Tag b))
  -- eras seen in headers and rows are at most the own era of their client, and equal it only for a committed step; such a step is seen in a header or a row
  pub era : EraSound g.clients (λ b. header_of (w (Head b))) (λ i j. w (Era i j)) (ons v)
  -- the own era is at least 1 and leaves room for the step in progress
  pub own : (c : ℕ) → c < g.clients → OwnSound (w (Era c c)) (v.op c)
  -- the redo record spells the step in progress at the own era, and its slot holds the value of its stage
  pub op : (c : ℕ) → c < g.clients → OpTie g (λ s q. w (Page s q)) (w (Redo c)) (w (RedoMore c)) (w (Era c c)) (words_of g.wide w) (v.op c)
  -- the blocks that the words of a redo record name are blocks, but for a 0 between two records
  pub redo : (c : ℕ) → c < g.clients → RedoTie g (λ s q. w (Page s q)) (w (Redo c)) (w (RedoMore c))
  -- each kind of step has the slots that it may have
  pub allowed : (c : ℕ) → c < g.clients → Allowed c (v.op c)
  -- the count of each live block is the number of references to it; references name live blocks
  pub count : CountSound g (λ s q. w (Page s q)) (λ b. header_of (w (Head b))) (targets g w v) (held_overs v)
  -- the slot of a step in progress is one that its identity may store
  pub slots : (c : ℕ) → c < g.clients → is_op (v.op c) ≡ true → SlotOf g.wide c (λ b. header_of (w (Head b))) (λ b. w (Tag b)) (v.latch c) (λ s r. w (Tail s r)) (λ s r. w (QueueHead s r)) (reach_of (targets g w v) (λ s r. w (Tail s r)) (λ s r. w (QueueHead s r)) v.looks c) (slot_of (v.op c))
  -- each block of the looks is named by the word that it was read from
  pub looks : (c : ℕ) → c < g.clients → LooksSound (λ a. targets g w v (Home a)) (λ b i. targets g w v (Body b i)) (λ b. tag_author g.wide (w (Tag b))) (v.latch c) (named_by (targets g w v) (λ s r. w (Tail s r)) (λ s r. w (QueueHead s r)) c) [] (v.looks c)
  -- queues agree with what was sent and received
  pub lanes : (s r : ℕ) → s < g.clients → r < g.clients → s ≢ r → LaneSound (λ k. targets g w v (Slot s r k)) (w (Tail s r)) (w (QueueHead s r)) (v.sent s r) (v.unsent s r) (v.received r s) (v.untaken r s)
  -- what is known of words of blocks and head slots is what they hold
  pub known : (c : ℕ) → c < g.clients → All (λ (k : Stored). KnownAt g.wide c (λ b. w (Tag b)) (λ b i. w (Body b i)) (λ s r k. w (Slot s r k)) (λ s r. w (Tail s r)) (λ s r. w (QueueHead s r)) (v.untaken c) (v.latch c) (reach_of (targets g w v) (λ s r. w (Tail s r)) (λ s r. w (QueueHead s r)) v.looks c) (v.dying c) k.spot k.value) (v.known c)
  -- what was read of eras, tails, heads and classes still bounds them
  pub facts : (c : ℕ) → c < g.clients → All (FactAt g.clients (λ i j. w (Era i j)) (ons v) (λ s r. w (Tail s r)) (λ s r. w (QueueHead s r)) (λ s q. w (Page s q))) (v.facts c)
  -- pages and headers of own segments that were read as 0 are 0
  pub zeros : (c : ℕ) → c < g.clients → All (ZeroAt g (λ s q. w (Page s q)) (λ s. w (Segment s)) (λ b. w (Head b)) c) (v.zeros c)
  -- a step of a dead client that its header doesn't show is shown by a row that the commit test has still to read
  pub test : (c : ℕ) → c < g.clients → TestAt g.clients (λ i j. w (Era i j)) (ons v c) c (v.test c)
  -- an identity that nobody joined has nothing
  pub fresh : (c : ℕ) → c < g.clients → v.status c ≡ status.New → Fresh c (v.own c) (v.op c) (v.latch c) (v.looks c) (v.making c) (v.owned c) (v.dying c) (v.unsent c) (v.untaken c)
  -- an identity that is gone has nothing left to finish
  pub gone : (c : ℕ) → c < g.clients → v.status c ≡ status.Gone → Gone c (v.own c) (v.op c) (v.latch c) (v.owned c) (v.dying c) (v.unsent c) (v.untaken c)
  -- queues from an identity to itself are unused
  pub self_lanes : (c : ℕ) → c < g.clients → IsUnusedLane (w (Tail c c)) (w (QueueHead c c)) (λ k. targets g w v (Slot c c k))
  -- where there is no queue nothing waits to be sent or received
  pub no_queue : (c : ℕ) → c < g.clients → NothingWaits g.clients c (v.unsent c) (v.untaken c)
  -- tails stay below the own era, so that they have a successor
  pub tails : (c r : ℕ) → c < g.clients → r < g.clients → TailSound c r (w (Era c c)) (w (Tail c r)) (v.unsent c r) (v.op c)
  -- all parts of a pool for tables are partitions, or none is
  pub parts : (c d : ℕ) → c < g.clients → d < g.clients → is_loose (v.part c) ≡ is_loose (v.part d)
  -- the part of a memo is the partition that the words hold
  pub part : (c : ℕ) → c < g.clients → PartTie (contents_of g.wide w (targets g w v)) c (targets g w v (Home c)) (v.part c)
  -- in a pool for tables queues hold value blocks
  pub queued : (c : ℕ) → c < g.clients → is_loose (v.part c) ≡ false → (s r k : ℕ) → targets g w v (Slot s r k) ≢ 0 → HasShape (contents_of g.wide w (targets g w v)) 0 1 (targets g w v (Slot s r k))
  -- value blocks that were read are value blocks in reach
  pub values : (c : ℕ) → c < g.clients → All (ValueAt (contents_of g.wide w (targets g w v)) (reach_of (targets g w v) (λ s r. w (Tail s r)) (λ s r. w (QueueHead s r)) v.looks c)) (v.values c)
  -- the blocks that a call made have count 1
  pub made : (c : ℕ) → c < g.clients → All (MadeAt (λ b. header_of (w (Head b))) (λ k. targets g w v (Root c k))) (v.made c)
