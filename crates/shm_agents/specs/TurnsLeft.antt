-- the turns that the agents of a script have left at most, and those that were given to them: one for each word step, and one for each death
use Rattle.std.specs.Prelude.{ℕ, ◌+◌, if◌then◌else◌, Option, Some, None, List, [], ◌∷◌, drop}
use Rattle.shm_graph.specs.{declared.{memo.Agent.Agent, run.Account.Account}, Agents.steps_made, Runs.is_dead}
use Rattle.shm_script.specs.Values.{Scripted}
use Rattle.shm_agents.specs.{declared.agents.Standing.{Standing, TheVariants.{AtWork, Gone, Dead}}, Agents.Playing}
use Rattle.shm_agents.specs.Turns.{lives_of}

-- those of agents with these lives
abbrev pub turns_of : List ℕ → ℕ
turns_of [] = 0
turns_of (n ∷ lives) = n + 1 + turns_of lives

-- so many, or none where no agent is at work
abbrev pub turns_at : Standing → ℕ → ℕ
turns_at AtWork n = n
turns_at Gone n = 0
turns_at Dead n = 0

-- those of the agent that acts or comes next, and of those behind it
abbrev pub turns_by : Playing → Option Scripted → ℕ
turns_by x None = 0
turns_by x (Some s) = turns_at x.standing (x.life.left + 1 + turns_of (drop (x.agent + 1) (lives_of s.life)))

-- how many of these agents died
abbrev pub deaths : List Agent → ℕ
deaths [] = 0
deaths (a ∷ others) = (if is_dead a.fate then 1 else 0) + deaths others

-- the turns that were given to the agents of an identity: their word steps and their deaths together
abbrev pub turns_given : Account → ℕ
turns_given e = steps_made e.memo + deaths e.memo.agents
