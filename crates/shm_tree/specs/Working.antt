-- The one client of a forest's pool at work.
use Rattle.std.specs.Prelude.{◌≡◌, ◌≢◌, ℕ, ◌+◌, ◌-◌, ◌^◌, ◌<◌, ◌⊎◌, true, false, List, [], slice_index, Some, Result, Ok, Err}
use Rattle.shm_graph.specs.declared.{memo.Memo.Memo, spot.Spot.TheVariants.{Era, Home}}
use Rattle.shm_graph.specs.{Agents.{acts, recovers, steps_made}, Events.Event, Held.is_loose, Reach.is_reached}
use Rattle.shm_graph.specs.Views.{own_word}
use Rattle.shm_plain.specs.{Calls.{Did, IsAtWork}, Pools.{IsRun, Pool, memo_of}}
use Rattle.shm_count.specs.Roots.{AreRootsReached, root_word}
use Rattle.shm_tree.specs.{declared.stop.Stop.Stop, Falling.KeepsFalling, Standing.word_of}
use Rattle.shm_tree.specs.declared.stop.Stop.TheVariants as stop

-- the own era leaves no room for a step down
abbrev pub IsSpent : Memo → Type 0
IsSpent m = 2 ^ 47 - 3 < own_word m.own (Era 0 0)

-- the one client of a pool for single calls is between two calls, whether it holds its latch or not: what roots name is in reach, its home names nothing, nothing waits in its queues, and no count came to 0, or the own era is spent
pub record IsWorking (p : Pool) : Type 0 where
  pub work : IsAtWork 0 p
  pub run : IsRun p
  pub one : p.start.geometry.clients ≡ 1
  pub client : recovers (memo_of p 0) ≡ false
  pub reached : AreRootsReached 0 (memo_of p 0)
  pub home : word_of p (Home 0) ≡ 0
  pub loose : is_loose (memo_of p 0).part ≡ true
  pub dying : ((memo_of p 0).dying ≡ []) ⊎ IsSpent (memo_of p 0)
  pub unsent : (j : ℕ) → slice_index (memo_of p 0).unsent j ≡ 0
  pub untaken : (j : ℕ) → slice_index (memo_of p 0).untaken j ≡ 0

-- what any call of the client leaves, finished or not: it acts, its turns alone came to those of the pool, each word step of life that went, of x before it and y after it, was one of its own, and references of blocks fall where they did
pub record Went (p q : Pool) (x y : ℕ) : Type 0 where
  pub start : q.start ≡ p.start
  pub run : IsRun q
  pub acts : acts (memo_of q 0) ≡ true
  pub did : (es : List Event) × Did 0 p q es
  pub spent : y + steps_made (memo_of q 0) ≡ x + steps_made (memo_of p 0)
  pub falls : KeepsFalling p q

-- a call came to an end, done or refused: there were word steps for it
abbrev pub IfAlive : {T : Type 0} → Result T Stop → Type 0 → Type 0
IfAlive (Ok a) P = P
IfAlive (Err stop.Died) P = Unit {0}
IfAlive (Err (stop.Full s b)) P = P
IfAlive (Err (stop.CountFull b c)) P = P
IfAlive (Err (stop.EraSpent e)) P = P

-- a call was refused
abbrev pub IfRefused : {T : Type 0} → Result T Stop → Type 0 → Type 0
IfRefused (Ok a) P = Unit {0}
IfRefused (Err stop.Died) P = Unit {0}
IfRefused (Err (stop.Full s b)) P = P
IfRefused (Err (stop.CountFull b c)) P = P
IfRefused (Err (stop.EraSpent e)) P = P

-- no word step is left where a call stopped for want of one
abbrev pub IsOver : Stop → ℕ → Type 0
IsOver e y = e ≡ stop.Died → y ≡ 0

-- the client is in the midst of a call
abbrev pub IsInCall : Pool → Type 0
IsInCall p = (memo_of p 0).over ≡ false

-- what stopped is cut off in the midst of a call, or between two of them, where the client holds its latch, or no latch, as before
abbrev pub IsCutOff : Pool → Pool → Type 0
IsCutOff p q = IsInCall q ⊎ ((memo_of q 0).latch ≡ (memo_of p 0).latch)

-- where a call stopped for want of a word step none is left, and it is cut off so
abbrev pub DiedIn : Stop → Pool → Pool → ℕ → Type 0
DiedIn e p q y = e ≡ stop.Died → (y ≡ 0) × IsCutOff p q

-- the client is in the midst of a call, or holds its latch
abbrev pub IsUnderWay : Pool → Type 0
IsUnderWay p = IsInCall p ⊎ ((memo_of p 0).latch ≡ Some 0)

-- ---- roots

-- its roots are as they were
abbrev pub AreSameRoots : Pool → Pool → Type 0
AreSameRoots p q = (k : ℕ) → root_word 0 (memo_of q 0) k ≡ root_word 0 (memo_of p 0) k

-- where a drop of a root stopped for want of a word step it is in its midst; or there was none for it, and no root changed; or the own era is spent
abbrev pub DiedBegun : Stop → Pool → Pool → ℕ → Type 0
DiedBegun e p q x = e ≡ stop.Died → IsInCall q ⊎ (((x ≡ 0) × AreSameRoots p q) ⊎ IsSpent (memo_of q 0))

-- a root is empty
abbrev pub HasRoom : Pool → Type 0
HasRoom p = (k : ℕ) × (k < 16) × (root_word 0 (memo_of p 0) k ≡ 0)

-- a root is empty now, and the others are as they were
pub record IsEmptied (k : ℕ) (p q : Pool) : Type 0 where
  pub root : root_word 0 (memo_of q 0) k ≡ 0
  pub others : (j : ℕ) → j ≢ k → root_word 0 (memo_of q 0) j ≡ root_word 0 (memo_of p 0) j

-- a root was empty and names b now, and the others are as they were
pub record IsRooted (k b : ℕ) (p q : Pool) : Type 0 where
  pub low : k < 16
  pub empty : root_word 0 (memo_of p 0) k ≡ 0
  pub names : root_word 0 (memo_of q 0) k ≡ b
  pub others : (j : ℕ) → j ≢ k → root_word 0 (memo_of q 0) j ≡ root_word 0 (memo_of p 0) j

-- ---- the latch, and what is in reach

-- it holds its latch, or no latch, as before
abbrev pub IsSameLatch : Pool → Pool → Type 0
IsSameLatch p q = (memo_of q 0).latch ≡ (memo_of p 0).latch

-- a block is in reach, or it is none
abbrev pub IsReached : Pool → ℕ → Type 0
IsReached p b = b ≢ 0 → is_reached 0 (memo_of p 0) b ≡ true

-- what was in reach is so still
abbrev pub Reaches : Pool → Pool → Type 0
Reaches p q = (b : ℕ) → is_reached 0 (memo_of p 0) b ≡ true → is_reached 0 (memo_of q 0) b ≡ true
