-- How much the words of a pool hold.
use Rattle.std.specs.Prelude.{ℕ}
use Rattle.shm_graph.specs.References.{one_if, sum_below}
use Rattle.shm_plain.specs.Pools.{Pool}
use Rattle.shm_tree.specs.{Keeping.is_live, Standing.TreeStands, Trees.{Tree, IsSearch}}

-- a search tree stands at this block, or it is none
abbrev pub HasSearch : Pool → ℕ → Type 0
HasSearch p b = (t : Tree) × TreeStands p b t × IsSearch t

-- how many blocks that begin below an address are live
abbrev pub lives_below : Pool → ℕ → ℕ
lives_below p n = sum_below n (λ b. one_if (is_live p b))
