-- the agents of a trace's scripts, by the numbers of their identities
use Rattle.std.specs.Prelude.{◌≡◌, ℕ, ◌+◌, ◌<◌, Option, Some, None, List, [], ◌∷◌, length, slice_get, slice_index_or}
use Rattle.shm_graph.specs.Runs.{account_at, first_account}
use Rattle.shm_count.specs.Roots.{member}
use Rattle.shm_plain.specs.Pools.{Pool}
use Rattle.shm_script.specs.Values.{Scripted, Traced}
use Rattle.shm_agents.specs.{Agents.{Playing, AgentsStand}, Turns.script_in, TurnsLeft.turns_by}

-- x are the agents of c, which has a script, and stand in the pool
pub record IsSeat (t : Traced) (p : Pool) (c : ℕ) (x : Playing) : Type 0 where
  pub me : x.me ≡ member p.start.geometry c
  pub script : Scripted
  pub is : script_in t.scripts c ≡ Some script
  pub at : slice_get t.scripts x.script ≡ Some script
  pub stands : AgentsStand p.start script x (account_at p.accounts c)

-- none where c has no script: then it has made no step
abbrev pub Seat : Traced → Pool → ℕ → Option Playing → Type 0
Seat t p c None = (script_in t.scripts c ≡ None) × (account_at p.accounts c ≡ first_account p.start c)
Seat t p c (Some x) = IsSeat t p c x

-- the agents of all identities, by number
pub record AreSeated (t : Traced) (p : Pool) (xs : List (Option Playing)) : Type 0 where
  pub clients : p.start.geometry.clients ≡ t.clients
  pub many : length xs ≡ t.clients
  pub seats : (c : ℕ) → c < t.clients → Seat t p c (slice_index_or xs c None)

-- ---- the turns that they have left at most

-- those of one identity, which has none where it has no script
abbrev pub turns_in : List Scripted → Option Playing → ℕ
turns_in ss None = 0
turns_in ss (Some x) = turns_by x (slice_get ss x.script)

-- and those of all
abbrev pub turns_left : List Scripted → List (Option Playing) → ℕ
turns_left ss [] = 0
turns_left ss (x ∷ xs) = turns_in ss x + turns_left ss xs
