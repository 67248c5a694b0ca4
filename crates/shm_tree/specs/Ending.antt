-- The closing of a forest's pool: its one client leaves, or it is dead and is recovered.
use Rattle.std.specs.Prelude.{◌≡◌, ◌^◌, ◌≤◌, ◌⊎◌, Bool, true, false, List, Result}
use Rattle.shm_graph.specs.{declared.memo.Kind.TheVariants.Recoverer, Agents.{entered, steps_made}, Events.Event}
use Rattle.shm_plain.specs.{Calls.Did, Pools.{Pool, after_fall, memo_of}}
use Rattle.shm_count.specs.{declared.answer.EraSpent.EraSpent, Roots.member}
use Rattle.shm_recover.specs.{Leave.{Control.leaving, LeaveLeaves}, Recover.{Control.recovering, RecoverLeaves}}
use Rattle.shm_tree.specs.Working.{IsSpent}

-- its client has made few word steps, and began with era 1
pub record IsYoung (p : Pool) : Type 0 where
  pub first : p.start.first_era ≡ 1
  pub few : steps_made (memo_of p 0) ≤ 2 ^ 46

-- the client left, from p to q, with this answer
pub record HasParted (p q : Pool) (a : Result (Unit {0}) EraSpent) : Type 0 where
  pub told : List Event
  pub did : Did 0 p q told
  pub leaves : LeaveLeaves (leaving (member p.start.geometry 0)) (memo_of p 0) (memo_of q 0) (memo_of q 0).call told a

-- the client, which was dead in p, was recovered, from p to q, with this answer
pub record IsRevived (p q : Pool) (a : Result (Unit {0}) EraSpent) : Type 0 where
  pub told : List Event
  pub did : Did 0 p q told
  pub leaves : RecoverLeaves (recovering (member p.start.geometry 0)) (entered Recoverer (memo_of p 0)) (memo_of q 0) (memo_of q 0).call told a

-- where the client had died in a call, or its own era is spent, it is dead and was recovered; otherwise it left
abbrev pub HasEnded : Bool → Pool → Pool → Result (Unit {0}) EraSpent → Type 0
HasEnded died p q a = (((died ≡ true) ⊎ IsSpent (memo_of p 0)) × IsRevived (after_fall p 0) q a) ⊎ ((died ≡ false) × (IsSpent (memo_of p 0) → ⊥) × HasParted p q a)
