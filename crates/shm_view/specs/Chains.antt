-- the chains of a table
use Rattle.std.specs.Prelude.{ℕ, zero, suc, ◌+◌, max, ◌==◌, if◌then◌else◌, List, slice_index}
use Rattle.shm_graph.specs.References.{sum_below}

-- how many entries follow from an address on, which is 0 where there is none; at most so many are counted
abbrev pub chain_length : List ℕ → ℕ → ℕ → ℕ
chain_length ws zero entry = 0
chain_length ws (suc most) entry = if entry == 0 then 0 else chain_length ws most (slice_index ws (entry + 2)) + 1

-- how many entries the chain of a bucket of a directory has
abbrev pub bucket_length : List ℕ → ℕ → ℕ → ℕ → ℕ
bucket_length ws most home bucket = chain_length ws most (slice_index ws (home + (2 + bucket)))

-- the greatest of f 0, f 1, .., f (n - 1), and 0 where n is 0
abbrev pub greatest_below : ℕ → (ℕ → ℕ) → ℕ
greatest_below zero f = 0
greatest_below (suc n) f = max (greatest_below n f) (f n)

-- how many keys the table of a directory has, and none where its address is 0
unfoldable pub keys_in : List ℕ → ℕ → ℕ → ℕ
keys_in ws most home = if home == 0 then 0 else sum_below 16 (bucket_length ws most home)

-- how many entries its longest chain has
unfoldable pub longest_in : List ℕ → ℕ → ℕ → ℕ
longest_in ws most home = if home == 0 then 0 else greatest_below 16 (bucket_length ws most home)
