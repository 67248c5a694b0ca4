-- the rule of the queue
use Rattle.std.specs.Prelude.{◌≡◌, ℕ, ◌<◌, ◌≤◌, ◌==◌, ◌⊎◌, false, List, [], ◌∷◌, ◌++◌, length, if◌then◌else◌}
use Rattle.std.specs.List.{All, flat_map, sum_by, Sorted.IsPermutation}
use Rattle.shm_pool.specs.Tokens.{Its}
use Rattle.shm_morgue.specs.declared.rule.{Desk.Desk, Hands.Hands, Taken.Taken}
use Rattle.shm_morgue.specs.Entries.{client_of, IsBefore, IsInOrder, IsOf, MayHold}
use Rattle.shm_morgue.specs.Hands.{newborn, put_first, take_first}

-- all that stands on desks, and in lists
abbrev pub on_desks : List Desk → List Taken
on_desks = flat_map (λ (d : Desk). d.entries)

abbrev pub in_lists : List (List Taken) → List Taken
in_lists = flat_map (λ (m : List Taken). m)

-- where the entry is of the desk's client, its number is below that of the desk's next entry
abbrev pub IsBelow : Desk → Taken → Type 0
IsBelow d x = client_of x ≡ d.client → x.number < length d.entries

-- 1 at the desk of this client
abbrev pub is_desk_of : ℕ → Desk → ℕ
is_desk_of c d = if d.client == c then 1 else 0

-- What the desks of all porters have is what the lists of all medics and the queue hold, each entry once. No client has two desks. What a medic took and what the queue holds stand in the order of the puts, and below the next number of their desks; and what the queue holds is of the pools
pub record MorgueHolds (pools : List Its) (items : List Taken) (desks : List Desk) (lists : List (List Taken)) : Type 0 where
  pub once : IsPermutation (on_desks desks) (in_lists lists ++ items)
  pub single : (c : ℕ) → sum_by (is_desk_of c) desks ≤ 1
  pub below : All (λ (d : Desk). All (λ (m : List Taken). All (IsBelow d) m) lists × All (IsBelow d) items) desks
  pub order : All (λ (m : List Taken). IsInOrder (m ++ items)) lists
  pub waits : IsInOrder items
  pub of : All (IsOf pools) items

-- the desks and the lists of all passes
abbrev pub all_desks : List Hands → List Desk
all_desks = flat_map (λ (v : Hands). v.porters)

abbrev pub all_lists : List Hands → List (List Taken)
all_lists = flat_map (λ (v : Hands). v.medics)

-- a pass that says how many porters and medics there are says the truth
abbrev pub Knows : ℕ → ℕ → Hands → Type 0
Knows clients doctors v = (v.fresh ≡ false) × (0 < v.clients → (v.clients ≡ clients) × (v.doctors ≡ doctors))

-- the morgue is made
pub record IsMade (pools : List Its) (items : List Taken) (views : List Hands) : Type 0 where
  pub clients : ℕ
  pub doctors : ℕ
  pub known : All (Knows clients doctors) views
  pub porters : length (all_desks views) ≡ clients
  pub medics : length (all_lists views) ≡ doctors
  pub holds : MorgueHolds pools items (all_desks views) (all_lists views)

-- the morgue isn't made yet, or is
abbrev pub MorgueKeeps : List Its → List Taken → List Hands → Type 0
MorgueKeeps pools items views = ((items ≡ []) × (views ≡ newborn ∷ [])) ⊎ IsMade pools items views

-- a put: x stands on the first desk
abbrev pub PutsOne : Hands → Taken → Hands → Type 0
PutsOne v x w = w ≡ record v { porters = put_first x v.porters }

-- a take: x stands in the first list, behind all that was taken of its client; it is of the pools
abbrev pub TakesOne : List Its → Hands → Taken → Hands → Type 0
TakesOne pools v x w = (w ≡ record v { medics = take_first x v.medics }) × IsOf pools x × All (λ (m : List Taken). All (λ (y : Taken). IsBefore y x) m) v.medics

-- what a pass that answers for all porters and medics knows of what the queue holds
abbrev pub KnowsAll : List Its → Hands → List Taken → Type 0
KnowsAll pools v items = 0 < v.clients → v.clients ≤ length v.porters → v.doctors ≤ length v.medics → MorgueHolds pools items v.porters v.medics

-- what the pass of a porter knows of it
abbrev pub MayWait : List Its → Hands → List Taken → Type 0
MayWait pools v items = All (λ (d : Desk). MayHold pools d.client (length d.entries) items) v.porters
