-- Live blocks that are all nodes of trees that roots name, and how many came to be live.
use Rattle.std.specs.{Prelude.{◌≡◌, ℕ, ◌<◌, ◌≤◌, ◌⊎◌, true, false, List, length}, List.Contains}
use Rattle.shm_plain.specs.Pools.{Pool, memo_of}
use Rattle.shm_tree.specs.{Building.root_block, Inserting.is_part, Keeping.{HasTree, is_live}, Standing.TreeStands}
use Rattle.shm_tree.specs.{Trees.Tree, Working.IsSpent}

-- a tree stands wherever a root names a block
abbrev pub AreRootsTrees : Pool → Type 0
AreRootsTrees p = (j : ℕ) → j < 16 → HasTree p (root_block p j)

-- each live block is a node of a tree that a root names
abbrev pub AreLivesNodes : Pool → Type 0
AreLivesNodes p = (b : ℕ) → is_live p b ≡ true → (j : ℕ) × (j < 16) × (t : Tree) × TreeStands p (root_block p j) t × (is_part p b (root_block p j) t ≡ true)

-- at most n blocks are live that weren't
abbrev pub AreFewNew : ℕ → Pool → Pool → Type 0
AreFewNew n p q = (xs : List ℕ) × (length xs ≤ n) × ((b : ℕ) → is_live q b ≡ true → is_live p b ≡ false → Contains xs b)

-- a tree stands at each live block
abbrev pub AreLivesTrees : Pool → Type 0
AreLivesTrees p = (b : ℕ) → is_live p b ≡ true → HasTree p b

-- Unless the own era is spent, a tree stands at each live block that wasn't live before or at which a tree stood
abbrev pub KeepsLives : Pool → Pool → Type 0
KeepsLives p q = (IsSpent (memo_of q 0) → ⊥) → (b : ℕ) → is_live q b ≡ true → (is_live p b ≡ false) ⊎ HasTree p b → HasTree q b
