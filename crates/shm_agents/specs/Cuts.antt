-- agents of a script that are given up with some of their life left
use Rattle.std.specs.Prelude.{◌≡◌, ℕ, ◌<◌, ◌≤◌, Bool, true, false, if◌then◌else◌, Some, List, [], ◌∷◌}
use Rattle.shm_graph.specs.declared.{memo.Status.TheVariants.New, run.Account.Account}
use Rattle.shm_graph.specs.{Agents.{acts, last_agent, steps_made}, Runs.{account_died, fell_by, told_left}}
use Rattle.shm_script.specs.{declared.log.End.TheVariants.Died, Values.Scripted}
use Rattle.shm_agents.specs.{Agents.{IsFold, IsSettled, Playing}, Courses.AreAgents, Turns.lives_of}

-- the account once the agent that acts is dead
abbrev pub account_cut : Account → Account
account_cut e = if acts e.memo then account_died e else e

-- the lives of so many agents, of which the last one may have been cut
abbrev pub AreCut : List ℕ → List ℕ → Type 0
AreCut (n ∷ all) (k ∷ []) = k ≤ n
AreCut (n ∷ all) (k ∷ j ∷ lives) = (k ≡ n) × AreCut all (j ∷ lives)
AreCut all lives = ⊥

-- none of them had begun, and the log says so
pub record IsUnbegun (x : Playing) (e : Account) : Type 0 where
  pub status : e.memo.status ≡ New
  pub agents : e.memo.agents ≡ []
  pub told : e.told ≡ []
  pub entries : x.entries ≡ []
  pub end : x.end ≡ Some (Died 0 false)
  pub fold : IsFold [] e.memo

-- some of them had: all that began died, each after the word steps of its life, but the last one after so many as it had made; and the log is settled
pub record IsCutOff (s : Scripted) (x : Playing) (e : Account) : Type 0 where
  pub settled : IsSettled s x e (told_left true e)
  pub fell : fell_by (last_agent e.memo.agents) ≡ true
  pub stepped : 0 < steps_made e.memo
  pub lives : List ℕ
  pub cut : AreCut (lives_of s.life) lives
  pub died : AreAgents s.lines lives e.memo.agents e.begun true

-- the agents x of the script were given up, and e is accounted for of them; `some` tells whether any of them had begun
abbrev pub IsCut : Bool → Scripted → Playing → Account → Type 0
IsCut false s x e = IsUnbegun x e
IsCut true s x e = IsCutOff s x e
