-- who worked for an identity in a run, by how its client ended
use Rattle.std.specs.{Prelude.{◌≡◌, ℕ, ◌≤◌, List, [], ◌∷◌, length, take, slice_index}, List.Contains}
use Rattle.shm_graph.specs.declared.{memo.{Agent.Agent, Fate.Fate, Kind.TheVariants.Client}, run.Account.Account}
use Rattle.shm_graph.specs.declared.memo.Fate.TheVariants as fate
use Rattle.shm_agents.specs.{Courses.client_lines, Turns.lives_of}
use Rattle.shm_queue.specs.Drain.Control.{drain_line}
use Rattle.shm_recover.specs.{Join.join_line, Leave.Control.leave_line}
use Rattle.shm_script.specs.{declared.log.End.{End, TheVariants.{Ended, Died}}, Logged.Logged, Values.Scripted}

-- a client that made so many word steps and ended so
abbrev pub client_by : ℕ → Fate → Agent
client_by n f = record { kind = Client; steps = n; fate = f }

-- what the client of a closing begins
abbrev pub closing_lines : List (List ℕ)
closing_lines = join_line ∷ drain_line ∷ leave_line ∷ []

-- the client of the script ended, with at most the word steps of its life, and began all its lines; behind it came the client of a closing, and nobody else
pub record ClientLeft (s : Scripted) (e : Account) : Type 0 where
  pub steps : ℕ
  pub few : steps ≤ slice_index (lives_of s.life) 0
  pub closing : ℕ
  pub agents : e.memo.agents ≡ client_by steps fate.Ended ∷ client_by closing fate.Ended ∷ []
  pub begun : e.begun ≡ client_lines s.lines ∷ closing_lines ∷ []

-- the client of the script died with the last word step of its life, and began a front of its lines
pub record ClientDied (s : Scripted) (e : Account) : Type 0 where
  pub others : List Agent
  pub agents : e.memo.agents ≡ client_by (slice_index (lives_of s.life) 0) fate.Died ∷ others
  pub lines : List (List ℕ)
  pub more : List (List (List ℕ))
  pub begun : e.begun ≡ lines ∷ more
  pub front : lines ≡ take (length lines) (client_lines s.lines)

-- as the end of its log says
abbrev pub ClientWent : Scripted → Account → End → Type 0
ClientWent s e Ended = ClientLeft s e
ClientWent s e (Died n done) = ClientDied s e

-- one of these logs is that of the script's client, and its end tells who worked for the identity
pub record HasCrew (s : Scripted) (e : Account) (ls : List Logged) : Type 0 where
  pub log : Logged
  pub is : Contains ls log
  pub client : log.client ≡ s.client
  pub went : ClientWent s e log.end

-- the client of a closing came, and nobody else
pub record IsCloserAlone (e : Account) : Type 0 where
  pub steps : ℕ
  pub agents : e.memo.agents ≡ client_by steps fate.Ended ∷ []
  pub begun : e.begun ≡ closing_lines ∷ []
