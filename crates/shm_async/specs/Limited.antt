-- what clients that are polled leave of a trace, each of which is cut after so many turns
use Rattle.std.specs.Prelude.{◌≡◌, ℕ, ◌+◌, ◌<◌, ◌≤◌, ◌⊎◌, Some, List, [], ◌∷◌, length, take}
use Rattle.shm_graph.specs.{declared.run.Account.Account, Agents.steps_of, Runs.account_at}
use Rattle.shm_plain.specs.Pools.{Pool}
use Rattle.shm_script.specs.{Logged.Logged, Values.{Scripted, Traced}}
use Rattle.shm_agents.specs.{Cuts.AreCut, Turns.lives_of, TurnsLeft.{deaths, turns_of}}
use Rattle.shm_team.specs.Rans.{HasAgents, IsTeamRun}

-- Of agents with all these lives those that came before a cut made so many word steps each, by so many turns, and one was left: the last of them acted; or it had died, and the next one had made no word step
abbrev pub AreGiven : List ℕ → List ℕ → ℕ → Type 0
AreGiven all lives turns = (turns + 1 ≡ turns_of lives) ⊎ ((turns ≡ turns_of lives) × (lives ≡ take (length lives) all) × (length lives < length all))

-- An identity of the script s that was cut after so many turns is one of the script r that was not cut: the agents up to the cut have for their lives the word steps that they made, so that the cut is the last one's death, and behind them comes one recoverer with 2^40
pub record IsCutTo (turns : ℕ) (s r : Scripted) : Type 0 where
  pub script : r ≡ record s { life = r.life }
  pub cut : AreCut (lives_of s.life) r.life
  pub given : AreGiven (lives_of s.life) r.life turns

-- the agents of the script, which was not cut, were given at most so many turns
pub record LimitedWithin (turns : ℕ) (s : Scripted) (e : Account) : Type 0 where
  pub agents : HasAgents (Some s) e
  pub few : steps_of agents.first + deaths agents.first ≤ turns

-- each script, and what it is where its identity was cut after so many turns: an identity is cut exactly where one of its agents is left after them
abbrev pub AreLimited : ℕ → List Account → List Scripted → List Scripted → Type 0
AreLimited turns es [] rs = rs ≡ []
AreLimited turns es (s ∷ ss) [] = ⊥
AreLimited turns es (s ∷ ss) (r ∷ rs) = (((r ≡ s) × LimitedWithin turns s (account_at es s.client)) ⊎ IsCutTo turns s r) × AreLimited turns es ss rs

-- The closed pool p is what polled clients leave of the trace, each of which was cut after so many turns where one of its agents was left, and these are its logs: it is what clients leave of the trace with the scripts as they were cut
pub record IsLimitedRun (t : Traced) (turns : ℕ) (p : Pool) (ls : List Logged) : Type 0 where
  pub scripts : List Scripted
  pub limited : AreLimited turns p.accounts t.scripts scripts
  pub run : IsTeamRun (record t { scripts = scripts }) p ls
