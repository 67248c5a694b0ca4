-- corpses that go through a morgue, as its porters and medics see them
use Rattle.std.specs.{Prelude.{◌≡◌, zero, suc, ℕ, ◌<◌, List, [], ◌∷◌, ◌++◌}, List.{All, Contains, flat_map}}
use Rattle.std.specs.List.Sorted.{IsPermutation}
use Rattle.atomic_table.specs.Seated.{TableId}
use Rattle.shm_pool.specs.Tokens.{Its, Token}
use Rattle.shm_morgue.specs.declared.rule.Taken.{Taken}

-- which morgue it is: its queue, and how many porters and medics it was made with
pub record Which : Type 0 where
  pub queue : TableId
  pub clients : ℕ
  pub medics : ℕ

-- a porter: of which morgue and of which client it is, and all that it has put, in order
pub record Puts : Type 0 where
  pub of : Which
  pub client : ℕ
  pub entries : List Taken

-- a medic: of which morgue it is, and all that it has taken, in order
pub record Takes : Type 0 where
  pub of : Which
  pub entries : List Taken

-- the corpse behind n others of its porter
abbrev pub entry : Token → ℕ → Taken
entry t n = record { corpse = t; number = n }

-- the client whose corpse it is
abbrev pub client_of : Taken → ℕ
client_of x = x.corpse.account.who

-- the corpse is of one of these pools
abbrev pub IsOf : List Its → Taken → Type 0
IsOf pools x = Contains pools x.corpse.of

-- where both are of one client, x was put before y
abbrev pub IsBefore : Taken → Taken → Type 0
IsBefore x y = client_of x ≡ client_of y → x.number < y.number

-- of each client, what stands here stands in the order in which it was put
abbrev pub IsInOrder : List Taken → Type 0
IsInOrder [] = Unit {0}
IsInOrder (x ∷ xs) = All (IsBefore x) xs × IsInOrder xs

-- these corpses are those of one client, numbered from n on
abbrev pub AreNumbered : ℕ → ℕ → List Taken → Type 0
AreNumbered client n [] = Unit {0}
AreNumbered client n (x ∷ xs) = (client_of x ≡ client) × (x.number ≡ n) × AreNumbered client (suc n) xs

-- what the queue of these pools may hold where the porter of a client has put n corpses: each is of one of the pools, those of one client stand in the order of their puts, and those of this client are among the n
pub record MayHold (pools : List Its) (client n : ℕ) (xs : List Taken) : Type 0 where
  pub of : All (IsOf pools) xs
  pub order : IsInOrder xs
  pub put : All (λ (x : Taken). client_of x ≡ client → x.number < n) xs

-- a porter of each client, in order, as a morgue is made
abbrev pub first_porters : Which → ℕ → ℕ → List Puts
first_porters w c zero = []
first_porters w c (suc n) = record { of = w; client = c; entries = [] } ∷ first_porters w (suc c) n

-- and its medics
abbrev pub first_medics : Which → ℕ → List Takes
first_medics w zero = []
first_medics w (suc n) = record { of = w; entries = [] } ∷ first_medics w n

-- all that porters have put
abbrev pub all_put : List Puts → List Taken
all_put = flat_map (λ (p : Puts). p.entries)

-- all that medics have taken
abbrev pub all_taken : List Takes → List Taken
all_taken = flat_map (λ (m : Takes). m.entries)

-- What these porters have put is what these medics have taken and what is left, each corpse exactly once and no other; of each client what a medic has taken stands in the order of the puts, and so does what is left, and what is left was put after what was taken
pub record IsCarried (porters : List Puts) (medics : List Takes) (left : List Taken) : Type 0 where
  pub once : IsPermutation (all_put porters) (all_taken medics ++ left)
  pub order : All (λ (m : Takes). IsInOrder (m.entries ++ left)) medics
