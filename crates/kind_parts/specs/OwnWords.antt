-- what the store of an own word needs of the memo of its identity
use Rattle.std.specs.{Prelude.{◌≡◌, ◌≢◌, ℕ, ◌+◌, ◌^◌, ◌<◌, ◌≤◌, true, ◌⊎◌, None, slice_index}, List.Contains}
use Rattle.shm_words.specs.{declared.{geometry.Geometry.Geometry, redo.Redo.Redo as ARedo}, Headers.header_of}
use Rattle.shm_words.specs.Redos.{redo_of, redo_first, redo_second, RedoFits}
use Rattle.shm_graph.specs.declared.spot.Spot.{TheVariants.{RedoMore, Era, Root}, Spot}
use Rattle.shm_graph.specs.declared.memo.{Fact.TheVariants.Header as HeaderRead, Op.{Op, TheVariants.Nothing}}
use Rattle.shm_graph.specs.{declared.memo.Memo.Memo, Views.{own_word, view}, Blocks.classes, Held.Names}
use Rattle.shm_graph.specs.{Reach.is_reached, MemoAfterStore.{op_closed, is_block_made, op_spelled}, Telling.word_told}
use Rattle.kind_laws.specs.OwnWords.{Closes, BeginNeeds}
use Rattle.kind_parts.specs.Conditions.{IsHere}

-- the row of another client may show the era x: it grows, and a header that was read shows that client with an era of at least x
pub record MayShow (c : ℕ) (m : Memo) (j x : ℕ) : Type 0 where
  pub here : IsHere m
  pub other : c ≢ j
  pub more : own_word m.own (Era c j) ≤ x
  pub read : (y : ℕ) × Contains m.facts (HeaderRead y) × ((header_of y).live ≡ true) × ((header_of y).client ≡ j) × (x ≤ (header_of y).era)

-- a block stands in the next slot of the queue to another of the n clients, and its tail isn't stored
pub record MaySend (n c : ℕ) (m : Memo) (r : ℕ) : Type 0 where
  pub here : IsHere m
  pub to : r < n
  pub other : c ≢ r
  pub idle : m.op ≡ Nothing
  pub some : slice_index m.unsent r ≢ 0

-- a block was taken out of the first slot of the queue from another of the n clients, and its head isn't stored
pub record MayReceive (n c : ℕ) (m : Memo) (s : ℕ) : Type 0 where
  pub here : IsHere m
  pub from : s < n
  pub other : s ≢ c
  pub idle : m.op ≡ Nothing
  pub some : slice_index m.untaken s ≢ 0

-- the step in progress has done all that an own era x is to close
pub record MayClose (m : Memo) (x : ℕ) : Type 0 where
  pub here : IsHere m
  pub op : Closes m.op (op_closed m.op x)

-- no latch is held, and x is 0 or one more than one of the n clients
pub record MayHold (n : ℕ) (m : Memo) (x : ℕ) : Type 0 where
  pub here : IsHere m
  pub none : m.latch ≡ None
  pub most : x ≤ n

-- root k is empty, and is to have a block that is prepared or in reach
pub record MayAdd (c : ℕ) (m : Memo) (k b : ℕ) : Type 0 where
  pub here : IsHere m
  pub idle : m.op ≡ Nothing
  pub root : k < 16
  pub empty : own_word m.own (Root c k) ≡ 0
  pub room : own_word m.own (Era c c) + 3 ≤ 2 ^ 47
  pub source : (is_block_made m.making b ≡ true) ⊎ (is_reached c m b ≡ true)

-- root k has block b, which is to go
pub record MayRemove (c : ℕ) (m : Memo) (k b : ℕ) : Type 0 where
  pub here : IsHere m
  pub idle : m.op ≡ Nothing
  pub some : b ≢ 0
  pub root : own_word m.own (Root c k) ≡ b
  pub room : own_word m.own (Era c c) + 3 ≤ 2 ^ 47

-- the step that the redo word x begins
abbrev pub op_begun : Geometry → ℕ → Memo → ℕ → Op
op_begun g c m x = op_spelled (word_told g c m) m.making (own_word m.own (Era c c)) (redo_of g.wide x (own_word m.own (RedoMore c)))

-- in format 2 the second word of this record is stored
abbrev pub SecondStored : Geometry → ℕ → Memo → ARedo → Type 0
SecondStored g c m red = g.wide ≡ true → own_word m.own (RedoMore c) ≡ redo_second true red

-- what a redo record needs that begins a step: it names blocks, and once its second word is stored its first word may be
pub record RedoMayBegin (g : Geometry) (w : Spot → ℕ) (r : ℕ → Memo) (c : ℕ) (red : ARedo) : Type 0 where
  pub fits : RedoFits g.wide red
  pub names : Names g (classes w) red
  pub needs : SecondStored g c (r c) red → BeginNeeds g w (view r) c (redo_first g.wide red) (op_begun g c (r c) (redo_first g.wide red))

-- in format 2, while no step is in progress, the second word of a redo record may be stored
pub record MayReady (g : Geometry) (m : Memo) : Type 0 where
  pub here : IsHere m
  pub wide : g.wide ≡ true
  pub idle : m.op ≡ Nothing
