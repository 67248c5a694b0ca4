-- what is rescued, by identity
use Rattle.std.specs.Prelude.{◌≡◌, ℕ, suc, Option, Some, None, MatchOption, List, [], ◌∷◌, length, slice_index_or}
use Rattle.std.specs.List.{Contains}
use Rattle.shm_pool.specs.Tokens.{Its}
use Rattle.shm_script.specs.Values.{Traced}
use Rattle.shm_team.specs.{declared.left.Left.Left, Dones.IsDone}
use Rattle.shm_morgue.specs.{declared.{rule.Taken.Taken, worker.Outcome.Outcome}, Dead.IsRescue, Entries.client_of}

-- the corpse of the identity c is among these, and this is what was left of it
pub record HasRescued (t : Traced) (p : Its) (xs : List Taken) (c : ℕ) (k : Left) : Type 0 where
  pub taken : Taken
  pub among : Contains xs taken
  pub client : client_of taken ≡ c
  pub rescue : IsRescue t p taken.corpse k

-- by identity what was left of the corpses that were taken: of each of them, and of no other
pub record AreRescued (t : Traced) (p : Its) (xs : List Taken) (slots : List (Option Left)) : Type 0 where
  pub many : length slots ≡ p.start.geometry.clients
  pub only : (c : ℕ) (k : Left) → slice_index_or slots c None ≡ Some k → HasRescued t p xs c k
  pub each : (x : Taken) → Contains xs x → (k : Left) × (slice_index_or slots (client_of x) None ≡ Some k)

-- the first one, or else the other
abbrev pub either : Option Left → Option Left → Option Left
either (Some k) o = Some k
either None o = o

-- all is done of the identity c, by what its worker left and what lies in its place where its corpse was put
abbrev pub IsEnough : Traced → Its → ℕ → Outcome → Option Left → Type 0
IsEnough t p c o slot = MatchOption o.left ((k : Left) × (slot ≡ Some k) × IsDone t p c (record { log = o.log; left = k })) (λ k. IsDone t p c (record { log = o.log; left = k }))

-- of the identities from c on, in order
abbrev pub AreEnough : Traced → Its → ℕ → List Outcome → List (Option Left) → Type 0
AreEnough t p c [] slots = Unit {0}
AreEnough t p c (o ∷ os) slots = IsEnough t p c o (slice_index_or slots c None) × AreEnough t p (suc c) os slots
