-- workers and medics: what they begin with, and what they leave
use Rattle.std.specs.Prelude.{◌≡◌, ℕ, suc, Option, Some, None, List, [], ◌∷◌}
use Rattle.shm_agents.specs.Turns.{script_in}
use Rattle.shm_pool.specs.Tokens.{Its, Token}
use Rattle.shm_script.specs.{Logged.Logged, Values.{Scripted, Traced}}
use Rattle.shm_team.specs.{declared.{jobs.Job.Job, left.Left.Left}, Dones.IsDone, Jobs.IsJob}
use Rattle.shm_morgue.specs.{declared.{rule.Taken.Taken, worker.Outcome.Outcome}, Dead.AreDead}
use Rattle.shm_morgue.specs.{Entries.{Puts, Takes, Which, entry}, Slots.AreRescued}

-- the job of an identity, and its porter, which has put nothing
abbrev pub IsTask : {A : Type 0} → Traced → Its → Which → Job A → Puts → Type 0
IsTask t p w j q = IsJob t p j.token.account.who j × (q ≡ record { of = w; client = j.token.account.who; entries = [] })

-- the client of the identity c died, and these entries are its corpse: behind it nobody has begun, and this is its log
pub record WasPut (t : Traced) (p : Its) (c : ℕ) (xs : List Taken) (o : Option Logged) : Type 0 where
  pub script : Scripted
  pub is : script_in t.scripts c ≡ Some script
  pub log : Logged
  pub logged : o ≡ Some log
  pub corpse : Token
  pub put : xs ≡ entry corpse 0 ∷ []
  pub dead : AreDead p script 1 log corpse

-- what a worker left of the identity c, and its porter's entries: all is done of it, and nothing was put; or its corpse was put
abbrev pub WasLeft : Traced → Its → ℕ → List Taken → Option Logged → Option Left → Type 0
WasLeft t p c xs l (Some k) = (xs ≡ []) × IsDone t p c (record { log = l; left = k })
WasLeft t p c xs l None = WasPut t p c xs l

abbrev pub HasWorked : Traced → Its → Which → ℕ → Puts → Outcome → Type 0
HasWorked t p w c q o = (q.of ≡ w) × WasLeft t p c q.entries o.log o.left

-- of the identities from c on, in order
abbrev pub HaveWorked : Traced → Its → Which → ℕ → List Puts → List Outcome → Type 0
HaveWorked t p w c [] [] = Unit {0}
HaveWorked t p w c (q ∷ qs) (o ∷ os) = HasWorked t p w c q o × HaveWorked t p w (suc c) qs os
HaveWorked t p w c qs os = ⊥

-- a medic of the morgue, with what it rescued of the corpses that it took
abbrev pub IsRound : Traced → Its → Which → Takes → List (Option Left) → Type 0
IsRound t p w m slots = (m.of ≡ w) × AreRescued t p m.entries slots
