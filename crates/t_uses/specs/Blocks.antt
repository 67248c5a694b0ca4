-- two blocks of a client, of which the first one refers to the second
use Rattle.std.specs.Prelude.{◌≡◌, ◌≢◌, ℕ, ◌<◌, false, None, Some}
use Rattle.shm_graph.specs.declared.{memo.Memo.Memo, spot.Spot.{Spot, TheVariants.{Body, Home, Root}}}
use Rattle.shm_graph.specs.{Agents.recovers, Spots.see}
use Rattle.shm_plain.specs.{Calls.IsAtWork, Pools.{IsRun, Pool, memo_of}}
use Rattle.shm_count.specs.{declared.answer.Made.Made, Roots.root_word, Tear.Memos.Knows}
use Rattle.shm_client.specs.Clear.{IsClear}
use Rattle.t_uses.specs.declared.memory.Pair.{Pair}

-- c is a client between two calls, in a pool for single calls; it holds no latch, no count came to 0, and nothing waits in its queues: each call may be made, and it may leave
pub record IsFree (c : ℕ) (p : Pool) : Type 0 where
  pub work : IsAtWork c p
  pub run : IsRun p
  pub client : recovers (memo_of p c) ≡ false
  pub clear : IsClear (memo_of p c)

-- the same, but that c holds its own latch, under which the words of its blocks are set
pub record IsHolding (c : ℕ) (p : Pool) : Type 0 where
  pub work : IsAtWork c p
  pub run : IsRun p
  pub client : recovers (memo_of p c) ≡ false
  pub latch : (memo_of p c).latch ≡ Some c
  pub clear : IsClear (record (memo_of p c) { latch = None })

-- the roots of c are as they were
abbrev pub AreSameRoots : ℕ → Memo → Memo → Type 0
AreSameRoots c m r = (k : ℕ) → root_word c r k ≡ root_word c m k

-- a root of c that was empty names the block, and the other roots are as they were
pub record IsMade (c : ℕ) (x : Made) (m r : Memo) : Type 0 where
  pub low : x.root < 16
  pub some : x.block ≢ 0
  pub empty : root_word c m x.root ≡ 0
  pub root : root_word c r x.root ≡ x.block
  pub others : (k : ℕ) → k ≢ x.root → root_word c r k ≡ root_word c m k

-- roots of c, two that differ, name the two blocks
pub record AreRooted (c : ℕ) (x : Pair) (m : Memo) : Type 0 where
  pub low : (x.parent.root < 16) × (x.child.root < 16)
  pub apart : x.parent.root ≢ x.child.root
  pub some : (x.parent.block ≢ 0) × (x.child.block ≢ 0)
  pub parent : root_word c m x.parent.root ≡ x.parent.block
  pub child : root_word c m x.child.root ≡ x.child.block

-- one of the roots of c names the parent, and the child is known to be what word 0 of it names
pub record Refers (c : ℕ) (x : Pair) (m : Memo) : Type 0 where
  pub low : x.parent.root < 16
  pub some : x.parent.block ≢ 0
  pub parent : root_word c m x.parent.root ≡ x.parent.block
  pub reference : Knows m (Body x.parent.block 0) x.child.block

-- the pool p became q by turns of c alone: its sizes and the memos of all others are what they were, and it is a pool to which its turns lead
pub record HasRun (c : ℕ) (p q : Pool) : Type 0 where
  pub start : q.start ≡ p.start
  pub others : (d : ℕ) → d ≢ c → memo_of q d ≡ memo_of p d
  pub run : IsRun q

-- the word of a pool at a spot
abbrev pub word_of : Pool → Spot → ℕ
word_of p s = see p.start.geometry p.words s

-- in the words of the pool a root and the home of c name the parent, and word 0 of it names the child
pub record IsPair (c : ℕ) (x : Pair) (p : Pool) : Type 0 where
  pub root : word_of p (Root c x.parent.root) ≡ x.parent.block
  pub home : word_of p (Home c) ≡ x.parent.block
  pub reference : word_of p (Body x.parent.block 0) ≡ x.child.block
