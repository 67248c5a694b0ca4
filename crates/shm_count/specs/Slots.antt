-- what a count step leaves of the memo, at each kind of slot
pub mod Parts
use Rattle.std.specs.Prelude.{◌≡◌, ◌≢◌, ℕ, ◌+◌, ◌^◌, ◌<◌, ◌≤◌, Bool, true, false, if◌then◌else◌, Result, Ok, Err, List, [], ◌∷◌, ◌++◌}
use Rattle.std.specs.List.{Contains, filter}
use Rattle.shm_graph.specs.declared.{spot.Spot.{Spot, TheVariants.{Home, Era, Root, Slot, Body}}, memo.Memo.Memo}
use Rattle.shm_graph.specs.declared.{memo.{Op.TheVariants.Nothing, Stored.Stored}, ask.Me.Me}
use Rattle.shm_graph.specs.{Reach.{learnt, is_named}, MemoAfterStore.{is_of, other_than, put, with_own}, Views.own_word}
use Rattle.shm_graph.specs.{Asks.{Trail, IsWithin}, Events.Event, Core.core}
use Rattle.shm_graph.specs.Events as event
use Rattle.kind_parts.specs.Reparting.{sight}
use Rattle.plans.specs.Grown.{Grows}
use Rattle.shm_count.specs.declared.{answer.UpFault.{UpFault, TheVariants.{EraSpent, CountFull}}, point.Aim.Aim}
use Rattle.shm_count.specs.declared.point.{Aim.TheVariants.{Up, Down, Change}, Half.TheVariants.First}
use Rattle.shm_count.specs.{declared.point.StepState.StepState, CountParts.IsStep, Roots.rest}
use Rattle.shm_count.specs.Step.{Control.{block_at, last_era, raises}, Parts.part_after, Asks.steps_of}
use Rattle.shm_count.specs.{Lasting.is_lasting, Tear.Memos.{is_slot_word, Knows}}

-- a slot that a step of c may put a block into: an own root, the own home, a slot of a queue from c, a word of a block
abbrev pub IsFilled : ℕ → Spot → Type 0
IsFilled c (Root d k) = d ≡ c
IsFilled c (Home d) = d ≡ c
IsFilled c (Slot s r k) = s ≡ c
IsFilled c (Body b i) = Unit {0}
IsFilled c p = ⊥

-- the memo with the word x at a slot that is an own word
abbrev pub slotted : Spot → ℕ → Memo → Memo
slotted (Root d k) x m = with_own m (Root d k) x
slotted (Home d) x m = with_own m (Home d) x
slotted p x m = m

-- what is known, with the word x at a slot that is a word of a block
abbrev pub known_at : Spot → ℕ → List Stored → List Stored
known_at (Body b i) x ks = learnt (Body b i) x ks
known_at p x ks = ks

-- the blocks that wait for a tail to be stored, with b in the slot at the tail
abbrev pub unsent_at : Spot → ℕ → List ℕ → List ℕ
unsent_at (Slot s r k) b us = put 0 us r b
unsent_at p b us = us

-- A step of c put b into the empty slot p: own words that last are what they were, but for the slot; a word of a block is known; a block in a queue waits for its tail; the partition is the one that the slot leads to; the own era is the next one, and nothing else of the memo changed but the redo record and rows, which grew
pub record Filled (c : ℕ) (p : Spot) (b : ℕ) (m r : Memo) : Type 0 where
  pub rest : core r ≡ core (record m { own = r.own; known = known_at p b m.known; unsent = unsent_at p b m.unsent; part = part_after c (sight c m) p b })
  pub own : (s : Spot) → is_lasting c s ≡ true → own_word r.own s ≡ own_word (slotted p b m).own s
  pub era : own_word r.own (Era c c) ≡ own_word m.own (Era c c) + 1
  pub rows : (j : ℕ) → own_word m.own (Era c j) ≤ own_word r.own (Era c j)

-- a slot that a step of c may take a block out of: an own root, a slot of a queue (the first of one to c where h is true, else the one at the tail of one from c), a word of a block
abbrev pub IsEmptied : ℕ → Spot → Bool → Type 0
IsEmptied c (Root d k) h = d ≡ c
IsEmptied c (Slot s r k) true = (r ≡ c) × (s ≢ c)
IsEmptied c (Slot s r k) false = (s ≡ c) × (r ≢ c)
IsEmptied c (Body b i) h = Unit {0}
IsEmptied c p h = ⊥

-- a slot in which a step of c may replace a block: an own root, a word of a block
abbrev pub IsReplaced : ℕ → Spot → Type 0
IsReplaced c (Root d k) = d ≡ c
IsReplaced c (Body b i) = Unit {0}
IsReplaced c p = ⊥

-- what a step that empties the slot p leaves of queues: the item of a first slot waits for its head to be stored, and what was known of that slot is forgotten; no block waits at a tail
abbrev pub emptied : Spot → Bool → ℕ → Memo → Memo
emptied (Slot s r k) true t m = record m { untaken = put 0 m.untaken s t; known = filter (λ x. other_than (Slot s r k) x.spot) m.known }
emptied (Slot s r k) false t m = record m { unsent = put 0 m.unsent r 0 }
emptied p h t m = m

-- What is left of what m knew, once t lost a reference: the looks are over; what is known of head slots stays, and of blocks that are named still, but for t where its count came to 0
pub record Sifts (c t : ℕ) (z : Bool) (m r : Memo) : Type 0 where
  pub looks : r.looks ≡ []
  pub slots : filter is_slot_word r.known ≡ filter is_slot_word m.known
  pub words : (b : ℕ) (p : Spot) (x : ℕ) → is_named c r b ≡ true → (z ≡ true → b ≢ t) → is_of b p ≡ true → Knows m p x → Knows r p x
  pub values : (b : ℕ) → is_named c r b ≡ true → Contains m.values b → Contains r.values b

-- A step of c took t out of the slot p, or put x into its place, and nothing else changed but what is known and has been read, the redo record, rows and the zero-count blocks; z says whether the count of t came to 0
pub record Took (c : ℕ) (p : Spot) (h : Bool) (t x : ℕ) (z : Bool) (m r : Memo) : Type 0 where
  pub rest : rest r ≡ rest (record (emptied p h t m) { part = part_after c (sight c m) p x })
  pub op : r.op ≡ Nothing
  pub own : (s : Spot) → is_lasting c s ≡ true → own_word r.own s ≡ own_word (slotted p x m).own s
  pub rows : (j : ℕ) → own_word m.own (Era c j) ≤ own_word r.own (Era c j)
  pub sifts : Sifts c t z (record (emptied p h t m) { known = known_at p x (emptied p h t m).known }) r

-- and t joins the zero-count blocks where its count came to 0
pub record Lost (c : ℕ) (p : Spot) (h : Bool) (t x : ℕ) (z : Bool) (m r : Memo) : Type 0 where
  pub took : Took c p h t x z m r
  pub dying : r.dying ≡ m.dying ++ (if z then t ∷ [] else [])

-- nothing of the memo changed but the redo record and rows, which grew
pub record Untouched (c : ℕ) (m r : Memo) : Type 0 where
  pub rest : core r ≡ core (record m { own = r.own })
  pub own : (s : Spot) → is_lasting c s ≡ true → own_word r.own s ≡ own_word m.own s
  pub rows : (j : ℕ) → own_word m.own (Era c j) ≤ own_word r.own (Era c j)

-- why nothing was done: the own era leaves no room for the step, or the block that was to be raised has the greatest count
abbrev pub StepCause : Me → Aim → Memo → UpFault → Type 0
StepCause me x m (EraSpent e) = (e ≡ own_word m.own (Era me.who me.who)) × (last_era x < e)
StepCause me x m (CountFull b n) = (n ≡ 1023) × (b ≡ block_at x First) × (raises x First ≡ true)

-- what a step did to the memo and to the graph, by its answer
abbrev pub StepDid : Me → Aim → Spot → Bool → Memo → Memo → List Event → Result Bool UpFault → Type 0
StepDid me (Up b) p h m r es (Ok z) = Filled me.who p b m r × (es ≡ event.Up me.who p b ∷ [])
StepDid me (Down b) p h m r es (Ok z) = Lost me.who p h b 0 z m r × (es ≡ event.Down me.who p b ∷ [])
StepDid me (Change a b) p h m r es (Ok z) = Lost me.who p h a b z m r × (es ≡ event.ChangeUp me.who p a b ∷ event.ChangeDown me.who a ∷ [])
StepDid me x p h m r es (Err f) = Untouched me.who m r × StepCause me x m f × (es ≡ [])

-- what a step leaves: it was done or refused; what was read of queues stays, and it took so many word steps at most
pub record StepLeft (me : Me) (x : Aim) (p : Spot) (h : Bool) (m r : Memo) (t : Trail) (es : List Event) (a : Result Bool UpFault) : Type 0 where
  pub did : StepDid me x p h m r es a
  pub status : r.status ≡ m.status
  pub grows : Grows true m r
  pub bound : IsWithin (steps_of me.geometry.wide x) t

-- a slot that the step may be made at; h tells the first slot of a queue from one at a tail
abbrev pub IsSlotFor : ℕ → Aim → Spot → Bool → Type 0
IsSlotFor c (Up b) p h = IsFilled c p
IsSlotFor c (Down b) p h = IsEmptied c p h
IsSlotFor c (Change a b) p h = IsReplaced c p

-- the step is made and may begin, at such a slot, and the own era is one of a held state
pub record MayStepAt (p : Spot) (h : Bool) (m : StepState) (r : Memo) : Type 0 where
  pub step : IsStep p m r
  pub at : IsSlotFor m.me.who m.aim p h
  pub era : own_word r.own (Era m.me.who m.me.who) + 1 < 2 ^ 47
