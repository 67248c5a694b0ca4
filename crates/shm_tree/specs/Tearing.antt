-- What a drop of a root tears down.
use Rattle.std.specs.{Prelude.{◌≡◌, ℕ, ◌+◌, ◌≤◌, ◌⊎◌, false, List, length}, List.{All, Contains}}
use Rattle.shm_graph.specs.Events.{Event}
use Rattle.shm_plain.specs.{Calls.Did, Pools.{Pool, memo_of}}
use Rattle.shm_count.specs.{Roots.root_word, Tear.Events.{Visit, frees}}
use Rattle.shm_tree.specs.{Keeping.is_live, Standing.{TreeStands, weight}, Trees.Tree}

-- a block isn't live, or is a zero-count block
abbrev pub IsGone : Pool → ℕ → Type 0
IsGone q b = (is_live q b ≡ false) ⊎ Contains (memo_of q 0).dying b

-- the client came from p to q by itself, freed blocks, and left others as zero-count blocks, n in all; of a tree that stood at root k these were at most its nodes that are gone
pub record HasTorn (k n : ℕ) (p q : Pool) : Type 0 where
  pub told : List Event
  pub did : Did 0 p q told
  pub left : List Visit
  pub dying : All (λ (v : Visit). Contains (memo_of q 0).dying v.block) left
  pub many : n ≡ frees told + length left
  pub nodes : (f : ℕ → ℕ) (t : Tree) → TreeStands p (root_word 0 (memo_of p 0) k) t → ((b : ℕ) → IsGone q b → f b ≡ 1) → n ≤ weight f p (root_word 0 (memo_of p 0) k) t
