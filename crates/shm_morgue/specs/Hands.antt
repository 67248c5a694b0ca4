-- what a pass of the queue knows
use Rattle.std.specs.Prelude.{◌≡◌, zero, suc, ℕ, ◌<◌, true, false, List, [], ◌∷◌, ◌++◌, length}
use Rattle.crossbeam_queue.specs.Passes.{view, Pass}
use Rattle.shm_morgue.specs.{declared.rule.{Desk.Desk, Hands.Hands, Taken.Taken}, Entries.{Which, Puts, Takes}}

abbrev pub desk : ℕ → List Taken → Desk
desk client entries = record { client = client; entries = entries }

-- a pass that answers for these desks and lists, in a morgue of so many porters and medics
abbrev pub hands : List Desk → List (List Taken) → ℕ → ℕ → Hands
hands porters medics clients doctors = record { porters = porters; medics = medics; fresh = false; clients = clients; doctors = doctors }

-- the first pass, before the morgue is made
abbrev pub newborn : Hands
newborn = record { porters = []; medics = []; fresh = true; clients = 0; doctors = 0 }

-- a pass that answers for nothing
abbrev pub spent : Hands
spent = hands [] [] 0 0

-- n desks from client c on, on which nothing was put
abbrev pub blank_desks : ℕ → ℕ → List Desk
blank_desks c zero = []
blank_desks c (suc n) = desk c [] ∷ blank_desks (suc c) n

-- n lists in which nothing stands
abbrev pub blank_lists : ℕ → List (List Taken)
blank_lists zero = []
blank_lists (suc n) = [] ∷ blank_lists n

-- the pass of a whole morgue, as it is made
abbrev pub whole : ℕ → ℕ → Hands
whole clients doctors = hands (blank_desks 0 clients) (blank_lists doctors) clients doctors

-- x is put on the first desk
abbrev pub put_first : Taken → List Desk → List Desk
put_first x [] = []
put_first x (d ∷ ds) = record d { entries = d.entries ++ x ∷ [] } ∷ ds

-- x is written at the end of the first list
abbrev pub take_first : Taken → List (List Taken) → List (List Taken)
take_first x [] = []
take_first x (m ∷ ms) = (m ++ x ∷ []) ∷ ms

-- the entries of the first desk, and the first list
abbrev pub first_entries : List Desk → List Taken
first_entries [] = []
first_entries (d ∷ ds) = d.entries

abbrev pub first_list : List (List Taken) → List Taken
first_list [] = []
first_list (m ∷ ms) = m

abbrev pub Place : Type 0
Place = Pass Taken Hands

-- the morgue of a pass
abbrev pub which : Place → Which
which p = record { queue = p.table_id; clients = (view p).clients; medics = (view p).doctors }

abbrev pub puts_of : Place → ℕ → Puts
puts_of p client = record { of = which p; client = client; entries = first_entries (view p).porters }

abbrev pub takes_of : Place → Takes
takes_of p = record { of = which p; entries = first_list (view p).medics }

-- the pass answers for one porter, which has put n corpses, and for nothing else
pub record IsPorter (p : Place) (client n : ℕ) : Type 0 where
  pub view_is : view p ≡ hands (desk client (first_entries (view p).porters) ∷ []) [] (view p).clients (view p).doctors
  pub made : 0 < (view p).clients
  pub rest : p.me.1 ≡ []
  pub long : length (first_entries (view p).porters) ≡ n

-- it answers for one medic, and for nothing else
pub record IsMedic (p : Place) : Type 0 where
  pub view_is : view p ≡ hands [] (first_list (view p).medics ∷ []) (view p).clients (view p).doctors
  pub made : 0 < (view p).clients
  pub rest : p.me.1 ≡ []
