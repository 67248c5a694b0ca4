-- count steps in progress: what each does to the references
use Rattle.std.specs.Prelude.{ℕ, zero, suc, ◌+◌, Bool, true, false, ◌==◌, nat_lt, if◌then◌else◌, Option, Some, None}
use Rattle.shm_words.specs.declared.geometry.Geometry.{Geometry}
use Rattle.shm_graph.specs.declared.{spot.Spot.{Spot, TheVariants.{Spare, Home, Root, Slot, Body}}, memo.First.First}
use Rattle.shm_graph.specs.declared.memo.{First.TheVariants.{Begun, Committed, Written}, Second.Second}
use Rattle.shm_graph.specs.declared.memo.Second.TheVariants.{Open, Closed}
use Rattle.shm_graph.specs.declared.memo.{ChangeStage.TheVariants.{Raising, Lowering}, Op.Op}
use Rattle.shm_graph.specs.{declared.memo.Op.TheVariants.{Nothing, Alloc, Up, Down, Change}, Spots.same_spot}
use Rattle.shm_graph.specs.References.{Words, sum_below, one_if, references_to}

-- the word at a spot that may be a reference word
abbrev pub word_at : Words → Spot → ℕ
word_at x (Home c) = x.home c
word_at x (Root c k) = x.root c k
word_at x (Slot s r k) = x.slot s r k
word_at x (Body b i) = x.body b i
word_at x _ = 0

-- the word that a count step changes
abbrev pub slot_of : Op → Spot
slot_of Nothing = Spare
slot_of (Alloc s p b e) = p
slot_of (Up s p b e) = p
slot_of (Down s p b e) = p
slot_of (Change h p a b e) = p

-- the slot into which a step puts a reference where none was
abbrev pub up_slot : Op → Spot
up_slot (Up s p b e) = p
up_slot _ = Spare

-- the step, if there is one, has done no more than store its redo record
abbrev pub IsUncommitted : Op → Type 0
IsUncommitted Nothing = Unit {0}
IsUncommitted (Alloc Begun p b e) = Unit {0}
IsUncommitted (Up Begun p b e) = Unit {0}
IsUncommitted (Down Begun p b e) = Unit {0}
IsUncommitted (Change (Raising Begun) p a b e) = Unit {0}
IsUncommitted _ = ⊥

-- the word that an op covers, and the value that it gives it
pub data Cover : Type 0 where
  Quiet : Cover
  On : (p : Spot) (new : ℕ) → Cover

abbrev pub cover_from : First → Spot → ℕ → Cover
cover_from Begun p x = Quiet
cover_from Committed p x = On p x
cover_from Written p x = On p x

abbrev pub cover_of : Op → Cover
cover_of Nothing = Quiet
cover_of (Alloc s p b e) = cover_from s p b
cover_of (Up s p b e) = cover_from s p b
cover_of (Down s p b e) = cover_from s p 0
cover_of (Change (Raising s) p a b e) = cover_from s p b
cover_of (Change (Lowering s) p a b e) = Quiet

abbrev pub cover : Cover → Spot → ℕ → ℕ
cover Quiet p x = x
cover (On q new) p x = if same_spot q p then new else x

-- the word with what the steps of the first identities give it
abbrev pub covered : (ℕ → Cover) → ℕ → Spot → ℕ → ℕ
covered ps zero p x = x
covered ps (suc c) p x = cover (ps c) p (covered ps c p x)

-- what a reference word names while count steps are in progress: a committed step's slot has its new value as its target
abbrev pub target : ℕ → Words → (ℕ → Cover) → Spot → ℕ
target n x ps (Home c) = covered ps n (Home c) (x.home c)
target n x ps (Root c k) = covered ps n (Root c k) (x.root c k)
target n x ps (Slot s r k) = covered ps n (Slot s r k) (x.slot s r k)
target n x ps (Body b i) = if nat_lt i (x.refs b) then covered ps n (Body b i) (x.body b i) else 0
target n x ps _ = 0

abbrev pub held_over_from : First → ℕ → ℕ
held_over_from Begun b = 0
held_over_from Committed b = b
held_over_from Written b = b

abbrev pub held_over_till : Second → ℕ → ℕ
held_over_till Open b = b
held_over_till Closed b = 0

-- the reference that a change holds over between its halves, a block or 0
abbrev pub held_over_of : Op → ℕ
held_over_of Nothing = 0
held_over_of (Alloc s p b e) = 0
held_over_of (Up s p b e) = 0
held_over_of (Down s p b e) = 0
held_over_of (Change (Raising s) p a b e) = held_over_from s a
held_over_of (Change (Lowering s) p a b e) = held_over_till s a

abbrev pub on_from : First → ℕ → Option ℕ
on_from Begun b = None
on_from Committed b = Some b
on_from Written b = Some b

abbrev pub on_till : Second → ℕ → Option ℕ
on_till Open b = None
on_till Closed b = Some b

-- the block on which the op of the own era is committed and not closed
abbrev pub on_of : Op → Option ℕ
on_of Nothing = None
on_of (Alloc s p b e) = on_from s b
on_of (Up s p b e) = on_from s b
on_of (Down s p b e) = on_from s b
on_of (Change (Raising s) p a b e) = on_from s b
on_of (Change (Lowering s) p a b e) = on_till s a

-- whether a step is in progress
abbrev pub is_op : Op → Bool
is_op Nothing = false
is_op _ = true

-- the number of references to a block, from words and from changes between their halves
unfoldable pub indegree : Geometry → (ℕ → ℕ → ℕ) → (Spot → ℕ) → (ℕ → ℕ) → ℕ → ℕ
indegree g class t l b = references_to g class t b + sum_below g.clients (λ c. one_if (l c == b))
