-- the replay of a trace
use Rattle.std.specs.{Prelude.{◌≡◌, ℕ, ◌<◌, true, List}, List.AllByRecursion}
use Rattle.std.specs.FinMap as finmap
use Rattle.shm_graph.specs.{declared.{run.Start.Start, table.Entry.Entry}, Spots.see, Tables.{IsTable, map_of}}
use Rattle.shm_plain.specs.{Pools.{Pool, first_pool}, Closings.IsClosedRun}
use Rattle.shm_script.specs.{Logged.Logged, Values.Traced}
pub use Rattle.shm_script.specs.Logged.{fold_in}
use Rattle.shm_agents.specs.Logs.{AreLogs, AreUnspent}
use Rattle.shm_replay.specs.{Orders.IsGivenAll, Closings.AreVisits}

-- the pool of a trace: of its format and its sizes, made for tables, and its first eras are 1
abbrev pub start_of : Traced → Start
start_of t = record { geometry = record { clients = t.clients; segments = t.segments; wide = t.wide }; first_era = 1; tables = true }

-- The closed pool p is what the run of the trace leaves, and these are its logs: its turns are those that the trace gives, and then each identity is visited; no command was refused for a spent era; each map of the table that its words hold is the fold of the identity's log
pub record IsReplay (t : Traced) (p : Pool) (ls : List Logged) : Type 0 where
  pub start : p.start ≡ start_of t
  pub played : Pool
  pub given : IsGivenAll t (first_pool (start_of t)) played
  pub visits : AreVisits 0 t.clients played p
  pub closed : IsClosedRun p
  pub logs : AreLogs p t.scripts ls
  pub unspent : AllByRecursion (λ (l : Logged). AreUnspent l.entries) ls
  pub table : ℕ → ℕ → List Entry
  pub is : IsTable p.start.geometry (see p.start.geometry p.words) table
  pub fold : (c key : ℕ) → c < t.clients → map_of (table c) key ≡ finmap.get (fold_in ls c) key
