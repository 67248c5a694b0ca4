-- Registers of a forest over the calls of its pool's one client: each has a version of an ordered map, whose tree's block a root names, or is empty.
use Rattle.std.specs.Prelude.{◌≡◌, ◌≢◌, ℕ, ◌<◌, ◌≤◌, ◌⊎◌, Bool, true, false, List, length, slice_index, slice_index_or, slice_set, nat_lt, if◌then◌else◌, Option, None, Some, Result, Ok, Err, IfErr}
use Rattle.std.specs.Option.{is_some}
use Rattle.shm_words.specs.Layout.{GeometryFits}
use Rattle.shm_graph.specs.{Agents.acts, Events.Event}
use Rattle.shm_plain.specs.{Calls.Did, Pools.{IsRun, Pool, memo_of}}
use Rattle.shm_count.specs.declared.answer.Made.{Made}
use Rattle.shm_tree.specs.declared.line.{TreeAnswer.TreeAnswer, TreeLine.TreeLine, TreeTurn.TreeTurn}
use Rattle.shm_tree.specs.declared.{hints.Hints.Hints, registers.Registers.Registers, remove.Removed.Removed}
use Rattle.shm_tree.specs.{declared.stop.Stop.Stop, Building.root_block, Causes.StopCause, Falling.AreFalling}
use Rattle.shm_tree.specs.{Standing.{IsTree, TreeStands, weight}, Trees.{Tree, Empty, found, inserted, removed}}
use Rattle.shm_tree.specs.Working.{AreSameRoots, IfAlive, IfRefused, IsOver, IsRooted, IsSameLatch, IsSpent, IsWorking, Went}
use Rattle.shm_tree.specs.declared.line.TreeAnswer.TheVariants as answers
use Rattle.shm_tree.specs.declared.line.TreeLine.TheVariants as lines
use Rattle.shm_tree.specs.declared.line.TreeTurn.TheVariants as turns
use Rattle.shm_tree.specs.declared.stop.Stop.TheVariants as stop

-- ---- registers and their versions

-- the root of a register; 16 where it is empty
abbrev pub root_at : Registers → ℕ → ℕ
root_at f r = slice_index f.roots r

-- the block that a root names; none, which is 0, at 16
abbrev pub block_in : Pool → ℕ → ℕ
block_in p k = if nat_lt k 16 then root_block p k else 0

-- the block of a register's tree, or 0
abbrev pub block_at : Registers → ℕ → ℕ
block_at f r = block_in f.pool (root_at f r)

-- a register has this version
abbrev pub HasVersion : Registers → ℕ → Tree → Type 0
HasVersion f r t = IsTree f.pool (block_at f r) t

-- the version of a register
abbrev pub version : List Tree → ℕ → Tree
version ts r = slice_index_or ts r Empty

-- the registers have these versions
pub record HasVersions (f : Registers) (ts : List Tree) : Type 0 where
  pub long : length ts ≡ 12
  pub each : (r : ℕ) → r < 12 → HasVersion f r (version ts r)

-- no register's tree is in this root
abbrev pub IsFree : List ℕ → ℕ → Type 0
IsFree ks k = (r : ℕ) → r < 12 → slice_index ks r ≢ k

-- each root in which no register's tree is, is empty
abbrev pub IsTidy : Registers → Type 0
IsTidy f = (k : ℕ) → k < 16 → IsFree f.roots k → root_block f.pool k ≡ 0

-- The registers between two lines: twelve of them, in roots of their own, which name blocks where trees stand; where they are told to be tidy they are
pub record IsForest (f : Registers) : Type 0 where
  pub working : IsWorking f.pool
  pub latch : (memo_of f.pool 0).latch ≡ None
  pub long : length f.roots ≡ 12
  pub low : (r : ℕ) → r < 12 → root_at f r ≤ 16
  pub apart : (r s : ℕ) → r < 12 → s < 12 → root_at f r < 16 → root_at f r ≡ root_at f s → r ≡ s
  pub some : (r : ℕ) → r < 12 → root_at f r < 16 → root_block f.pool (root_at f r) ≢ 0
  pub tidy : f.tidy ≡ true → IsTidy f
  pub versions : (ts : List Tree) × HasVersions f ts

-- the own era leaves room for a step down
abbrev pub IsUnspent : Registers → Type 0
IsUnspent f = IsSpent (memo_of f.pool 0) → ⊥

-- where it does they are told to be tidy
abbrev pub IsSwept : Registers → Type 0
IsSwept f = IsUnspent f → f.tidy ≡ true

-- ---- what calls keep

-- a root names the block that it named, and what stood there stands there, of the same blocks
pub record KeepsRoot (p q : Pool) (k : ℕ) : Type 0 where
  pub same : block_in q k ≡ block_in p k
  pub trees : (t : Tree) → TreeStands p (block_in p k) t → TreeStands q (block_in p k) t
  pub blocks : (f : ℕ → ℕ) (t : Tree) → TreeStands p (block_in p k) t → weight f q (block_in p k) t ≡ weight f p (block_in p k) t

-- each root of these does so
abbrev pub KeepsRoots : List ℕ → Pool → Pool → Type 0
KeepsRoots ks p q = (r : ℕ) → r < 12 → KeepsRoot p q (slice_index ks r)

-- each root but this one does so
abbrev pub KeepsOthers : ℕ → Pool → Pool → Type 0
KeepsOthers j p q = (k : ℕ) → (k < 16 → k ≢ j) → KeepsRoot p q k

-- each root that named a block does so
abbrev pub KeepsNamed : Pool → Pool → Type 0
KeepsNamed p q = (k : ℕ) → (k < 16 → root_block p k ≢ 0) → KeepsRoot p q k

-- each register has the version that it had
abbrev pub KeepsVersions : Registers → Registers → Type 0
KeepsVersions f g = (ts : List Tree) → HasVersions f ts → HasVersions g ts

-- each register names the block that it named, and what stood there stands there, of the same blocks
pub record KeepsRegisters (f g : Registers) : Type 0 where
  pub same : g.roots ≡ f.roots
  pub roots : KeepsRoots f.roots f.pool g.pool

-- a call between two moments was refused so, and the client came by itself from the first to the second
pub record CallStopped (hints : Hints) (p q : Pool) (e : Stop) : Type 0 where
  pub at : Pool
  pub run : IsRun at
  pub start : at.start ≡ p.start
  pub cause : StopCause hints p at e
  pub on : (es : List Event) × Did 0 at q es

-- a call on a pool: what it leaves of the pool p and x word steps is the pool q and y. Where word steps were left for it, refused or not, K is kept
pub record CallLeaves {T : Type 0} (hints : Hints) (K : Pool → Pool → Type 0) (r : Result T Stop) (p q : Pool) (x y : ℕ) : Type 0 where
  pub went : Went p q x y
  pub working : IfAlive r (IsWorking q)
  pub latch : IfAlive r (IsSameLatch p q)
  pub kept : IfAlive r (K p q)
  pub cause : IfErr r (λ e. CallStopped hints p q e)
  pub died : IfErr r (λ e. IsOver e y)

-- a part of a line: what it leaves of the registers f and x word steps is the registers g and y. Where it was refused each register has its version still, of the same blocks
pub record Moves {T : Type 0} (hints : Hints) (r : Result T Stop) (f g : Registers) (x y : ℕ) : Type 0 where
  pub went : Went f.pool g.pool x y
  pub forest : IfAlive r (IsForest g)
  pub kept : IfRefused r (KeepsRegisters f g)
  pub cause : IfErr r (λ e. CallStopped hints f.pool g.pool e)
  pub died : IfErr r (λ e. IsOver e y)

-- a root that no register has names a tree, or it is none
pub record IsSpare (f : Registers) (k : ℕ) : Type 0 where
  pub low : k ≤ 16
  pub free : k < 16 → IsFree f.roots k
  pub some : k < 16 → root_block f.pool k ≢ 0

-- a register has another version now: what tree stood at that root's block
abbrev pub IsPut : (r k : ℕ) → Registers → Registers → Type 0
IsPut r k f g = (ts : List Tree) (t : Tree) → HasVersions f ts → IsTree f.pool (block_in f.pool k) t → HasVersions g (slice_set ts r t)

-- a root that no register has is empty now, or no register had it, and it is as it was
abbrev pub IsLeft : Registers → Registers → ℕ → Type 0
IsLeft f g k = (root_block g.pool k ≡ 0) ⊎ (IsFree f.roots k × (root_block g.pool k ≡ root_block f.pool k))

-- ---- what a removal leaves of the tree of the root k, from which the key x is taken

-- it has no such key, and no root changed
pub record IsAbsent (x k : ℕ) (p q : Pool) : Type 0 where
  pub roots : AreSameRoots p q
  pub none : (t : Tree) → IsTree p (block_in p k) t → found x t ≡ None

-- nothing is left of it, and no root changed
pub record IsCleared (x k : ℕ) (p q : Pool) : Type 0 where
  pub roots : AreSameRoots p q
  pub had : (t : Tree) → IsTree p (block_in p k) t → is_some (found x t) ≡ true
  pub empty : (t : Tree) → IsTree p (block_in p k) t → removed x t ≡ Empty

-- a root that was empty names what is left of it
pub record IsLopped (x k : ℕ) (m : Made) (p q : Pool) : Type 0 where
  pub rooted : IsRooted m.root m.block p q
  pub some : m.block ≢ 0
  pub had : (t : Tree) → IsTree p (block_in p k) t → is_some (found x t) ≡ true
  pub tree : (t : Tree) → IsTree p (block_in p k) t → IsTree q m.block (removed x t)

abbrev pub IsTaken : (x k : ℕ) → Option Made → Pool → Pool → Type 0
IsTaken x k None p q = IsCleared x k p q
IsTaken x k (Some m) p q = IsLopped x k m p q

abbrev pub IsPruned : (x k : ℕ) → Option Removed → Pool → Pool → Type 0
IsPruned x k None p q = IsAbsent x k p q
IsPruned x k (Some r) p q = IsTaken x k r.tree p q

-- ---- lines

-- what a line makes of the versions that is answered by Ok
abbrev pub versions_after : TreeLine → List Tree → List Tree
versions_after (lines.Set to from k n) ts = slice_set ts to (inserted k n (version ts from))
versions_after (lines.Del to from k) ts = slice_set ts to (removed k (version ts from))
versions_after (lines.Get at k) ts = ts
versions_after (lines.Copy to from) ts = slice_set ts to (version ts from)
versions_after (lines.Clear at) ts = slice_set ts at Empty

-- what it leaves of them by its answer
abbrev pub versions_by : TreeLine → List Tree → TreeAnswer → List Tree
versions_by line ts answers.Ok = versions_after line ts
versions_by line ts answer = ts

-- it changes no register
abbrev pub IsReading : TreeLine → Type 0
IsReading (lines.Get at k) = Unit {0}
IsReading line = ⊥

-- a set, a copy or a clear may be done, and a removal where the key is there
abbrev pub MayBeDone : TreeLine → List Tree → Type 0
MayBeDone (lines.Get at k) ts = ⊥
MayBeDone (lines.Del to from k) ts = is_some (found k (version ts from)) ≡ true
MayBeDone line ts = Unit {0}

-- the key is asked for and has this number
abbrev pub IsValue : TreeLine → List Tree → ℕ → Type 0
IsValue (lines.Get at k) ts n = found k (version ts at) ≡ Some n
IsValue line ts n = ⊥

-- the key is asked for, or is to be removed, and isn't there
abbrev pub IsMissing : TreeLine → List Tree → Type 0
IsMissing (lines.Get at k) ts = found k (version ts at) ≡ None
IsMissing (lines.Del to from k) ts = found k (version ts from) ≡ None
IsMissing line ts = ⊥

-- which answers may come of a line on these versions: one that changes no register isn't refused
abbrev pub IsAnswered : TreeLine → List Tree → TreeAnswer → Type 0
IsAnswered line ts answers.Ok = MayBeDone line ts
IsAnswered line ts (answers.Value n) = IsValue line ts n
IsAnswered line ts answers.Missing = IsMissing line ts
IsAnswered line ts answer = IsReading line → ⊥

-- it isn't a refusal
abbrev pub IsOwn : TreeAnswer → Type 0
IsOwn answers.Ok = Unit {0}
IsOwn (answers.Value n) = Unit {0}
IsOwn answers.Missing = Unit {0}
IsOwn answer = ⊥

-- its registers are below 12
abbrev pub IsInRange : TreeLine → Type 0
IsInRange (lines.Set to from k n) = (to < 12) × (from < 12)
IsInRange (lines.Del to from k) = (to < 12) × (from < 12)
IsInRange (lines.Get at k) = at < 12
IsInRange (lines.Copy to from) = (to < 12) × (from < 12)
IsInRange (lines.Clear at) = at < 12

-- whichever versions the registers had, the answer is one of those that may come of the line, and they have what it leaves of them
abbrev pub DoesLine : TreeLine → Registers → Registers → TreeAnswer → Type 0
DoesLine line f g answer = (ts : List Tree) → HasVersions f ts → IsAnswered line ts answer × HasVersions g (versions_by line ts answer)

-- ---- a forest

-- a forest without where it lies in memory
pub record Forested : Type 0 where
  pub registers : Registers
  pub hints : Hints
  pub died : Bool

-- its pool after a death: turns led there, and the client acted
pub record IsLost (p : Pool) : Type 0 where
  pub run : IsRun p
  pub acts : acts (memo_of p 0) ≡ true
  pub one : p.start.geometry.clients ≡ 1
  pub geometry : GeometryFits p.start.geometry

-- its pool is one for single calls, with first eras 1, in which references of blocks fall; it is between two lines, or its client died
pub record IsSound (f : Forested) : Type 0 where
  pub single : f.registers.pool.start.tables ≡ false
  pub first : f.registers.pool.start.first_era ≡ 1
  pub falling : AreFalling f.registers.pool
  pub forest : f.died ≡ false → IsForest f.registers
  pub swept : f.died ≡ false → IsSwept f.registers
  pub lost : f.died ≡ true → IsLost f.registers.pool

-- no word step was left
abbrev pub is_over : Stop → Bool
is_over stop.Died = true
is_over (stop.Full s b) = false
is_over (stop.CountFull b c) = false
is_over (stop.EraSpent e) = false

-- what a line is answered by that stopped so
abbrev pub turn_of : Stop → TreeTurn
turn_of stop.Died = turns.Died
turn_of (stop.Full s b) = turns.Done (answers.Full s b)
turn_of (stop.CountFull b c) = turns.Done (answers.CountFull b c)
turn_of (stop.EraSpent e) = turns.Done (answers.EraSpent e)

abbrev pub turn_by : Result TreeAnswer Stop → TreeTurn
turn_by (Ok answer) = turns.Done answer
turn_by (Err e) = turn_of e

abbrev pub is_died : TreeTurn → Bool
is_died turns.Died = true
is_died (turns.Done answer) = false

-- what came of a line on registers
abbrev pub DoesTurn : TreeLine → Registers → Registers → TreeTurn → Type 0
DoesTurn line f g turns.Died = Unit {0}
DoesTurn line f g (turns.Done answer) = DoesLine line f g answer

-- it was refused, if it was, since a call was refused so
abbrev pub IsCaused : Hints → Pool → Pool → TreeTurn → Type 0
IsCaused hints p q (turns.Done (answers.Full s b)) = CallStopped hints p q (stop.Full s b)
IsCaused hints p q (turns.Done (answers.CountFull b c)) = CallStopped hints p q (stop.CountFull b c)
IsCaused hints p q (turns.Done (answers.EraSpent e)) = CallStopped hints p q (stop.EraSpent e)
IsCaused hints p q turn = Unit {0}
