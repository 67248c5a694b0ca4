-- the closing of a morgue
use Rattle.std.specs.{Prelude.{◌≡◌, ℕ, ◌+◌, ◌<◌, List, [], ◌++◌, map}, List.{All, Sorted.IsPermutation}}
use Rattle.shm_morgue.specs.declared.{closing.MorgueCause.{MorgueCause, TheVariants.{Memory, Absent}}, rule.Desk.Desk}
use Rattle.shm_morgue.specs.{declared.rule.Taken.Taken, Entries.{Which, Puts, Takes, IsInOrder}, Hands.{Place, desk}}
use Rattle.shm_morgue.specs.Keeps.{on_desks, in_lists}

-- the pass is of this morgue, and nothing is out with it
abbrev pub IsPlaceOf : Which → Place → Type 0
IsPlaceOf w p = (p.table_id ≡ w.queue) × (p.me.1 ≡ [])

-- the desks of porters, and the lists of medics
abbrev pub desks_of : List Puts → List Desk
desks_of = map (λ (p : Puts). desk p.client p.entries)

abbrev pub lists_of : List Takes → List (List Taken)
lists_of = map (λ (m : Takes). m.entries)

-- what stands on the desks is what stands in the lists and what is left, each entry once, in the order of the puts
pub record IsEmptied (desks : List Desk) (lists : List (List Taken)) (left : List Taken) : Type 0 where
  pub once : IsPermutation (on_desks desks) (in_lists lists ++ left)
  pub order : All (λ (m : List Taken). IsInOrder (m ++ left)) lists

-- so many porters and medics are missing: that is why, if any are
abbrev pub IsCause : ℕ → ℕ → MorgueCause → Type 0
IsCause porters medics (Memory e) = (porters ≡ 0) × (medics ≡ 0)
IsCause porters medics (Absent p m) = (p ≡ porters) × (m ≡ medics) × (0 < porters + medics)
