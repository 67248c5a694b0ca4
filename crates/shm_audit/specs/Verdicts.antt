-- the verdict on the words of a pool
use Rattle.std.specs.Prelude.{◌≡◌, ℕ, Bool, not, ◌&&◌, ◌||◌, ◌==◌, if◌then◌else◌, Option, Some, None}
use Rattle.shm_words.specs.{declared.geometry.Geometry.Geometry, Layout.total_of}
use Rattle.shm_graph.specs.{declared.spot.Spot.{Spot, TheVariants.Status}, Blocks.{classes, headers}}
use Rattle.shm_graph.specs.References.{references, references_to, references_in_all, live_count}
use Rattle.shm_audit.specs.declared.verdict.Verdict.{Verdict, TheVariants.{Clean, WrongCount, Uncounted, Pending}}
use Rattle.shm_audit.specs.Faults.{least_below}

-- the status of an identity that is new or gone
abbrev pub is_settled : ℕ → Bool
is_settled status = (status == 0) || (status == 3)

-- an identity that is neither
abbrev pub is_pending : (Spot → ℕ) → ℕ → Bool
is_pending w c = not (is_settled (w (Status c)))

-- how many reference words name a block
abbrev pub found_at : Geometry → (Spot → ℕ) → ℕ → ℕ
found_at g w b = references_to g (classes w) (references g.wide w) b

-- a live block whose count is 0 or isn't the number of references to it
abbrev pub is_wrong : Geometry → (Spot → ℕ) → ℕ → Bool
is_wrong g w b = (headers w b).live && (((headers w b).count == 0) || not ((headers w b).count == found_at g w b))

-- what is wrong with such a block
abbrev pub block_verdict : Geometry → (Spot → ℕ) → ℕ → Verdict
block_verdict g w b = if (headers w b).count == 0 then Uncounted b else WrongCount b (headers w b).count (found_at g w b)

-- the verdict on a pool in which nothing is wrong: how many blocks are live, and how many words name one
abbrev pub clean_verdict : Geometry → (Spot → ℕ) → Verdict
clean_verdict g w = Clean (live_count g w) (references_in_all g (classes w) (references g.wide w))

-- the verdict by the first block that is wrong, if one is
abbrev pub by_block : Geometry → (Spot → ℕ) → Option ℕ → Verdict
by_block g w (Some b) = block_verdict g w b
by_block g w None = clean_verdict g w

-- the verdict by the first identity that is pending, if one is
abbrev pub by_client : Geometry → (Spot → ℕ) → Option ℕ → Verdict
by_client g w (Some c) = Pending c
by_client g w None = by_block g w (least_below (total_of g) (is_wrong g w))

-- the first verdict on the words of a pool: identities come first, and then blocks in order of address
abbrev pub verdict_of : Geometry → (Spot → ℕ) → Verdict
verdict_of g w = by_client g w (least_below g.clients (is_pending w))

-- a verdict without anything that is wrong
abbrev pub IsCleanVerdict : Verdict → Type 0
IsCleanVerdict v = (live refs : ℕ) × (v ≡ Clean live refs)
