-- the turns that the agents of scripts take, in whatever order they come
use Rattle.std.specs.Prelude.{◌≡◌, ℕ, ◌<◌, Bool, false, Some, List}
use Rattle.shm_graph.specs.{Agents.acts, Runs.{account_at, first_account}}
use Rattle.shm_count.specs.Roots.{member}
use Rattle.shm_plain.specs.Pools.{IsRun, Pool, memo_of}
use Rattle.shm_script.specs.{Logged.Logged, Values.{Scripted, Traced}}
use Rattle.shm_agents.specs.{Courses.AreScriptAgents, Logs.AreLogs, Taken.HasTaken, Turns.script_in}
use Rattle.shm_replay.specs.{Closings.AreVisits, Replays.start_of, Turns.is_busy}

-- The closed pool p is what a run of the trace leaves in whatever order the turns came, and these are its logs: the turns of each identity that has a script are those of its script's agents, as many as these have word steps and lives, until none had anything left to do; and then each identity was visited
pub record IsInterleaved (t : Traced) (p : Pool) (ls : List Logged) : Type 0 where
  pub start : p.start ≡ start_of t
  pub played : Pool
  pub begins : played.start ≡ start_of t
  pub run : IsRun played
  pub turns : (s : Scripted) → script_in t.scripts s.client ≡ Some s → let e = account_at played.accounts s.client in (dead : Bool) × AreScriptAgents s e.memo.agents e.begun dead × HasTaken (member played.start.geometry s.client) s.lines (first_account played.start s.client) e
  pub rests : (c : ℕ) → c < t.clients → (acts (memo_of played c) ≡ false) × (is_busy t played c ≡ false)
  pub visits : AreVisits 0 t.clients played p
  pub logs : AreLogs p t.scripts ls
