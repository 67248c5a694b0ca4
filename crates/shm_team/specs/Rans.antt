-- what clients leave of a trace, whether threads ran them, others recovered the dead, or they were polled
use Rattle.std.specs.Prelude.{◌≡◌, ℕ, ◌==◌, ◌<◌, Bool, false, if◌then◌else◌, Option, Some, None, List, [], ◌∷◌, ◌++◌, length, slice_index_or}
use Rattle.std.specs.List.{AllByRecursion}
use Rattle.std.specs.FinMap as finmap
use Rattle.shm_graph.specs.declared.{memo.Agent.Agent, run.{Account.Account, Start.Start}, table.Entry.Entry}
use Rattle.shm_graph.specs.{Agents.last_agent, Runs.{account_at, fell_by, first_account}, Spots.see}
use Rattle.shm_graph.specs.Tables.{IsTable, map_of}
use Rattle.shm_count.specs.Roots.{member}
use Rattle.shm_plain.specs.{Closings.IsClosedRun, Pools.Pool}
use Rattle.shm_pool.specs.Tokens.{End, Its, Token}
use Rattle.shm_pool.specs.Tokens as shared
use Rattle.shm_script.specs.{Logged.Logged, declared.log.Entry.Entry as LogEntry, Values.{Scripted, Traced}}
use Rattle.shm_agents.specs.{Courses.{AreCommandsTold, AreScriptAgents}, Logs.{AreLogs, AreUnspent}, Taken.HasTaken}
use Rattle.shm_agents.specs.Turns.{script_in}
use Rattle.shm_replay.specs.Replays.{fold_in, start_of}
use Rattle.shm_team.specs.{declared.done.Done.Done, Dones.{logs_done, logs_in}, Lefts.{account_in, is_corpse}}
use Rattle.shm_team.specs.Visits.{AreClosers, IsVisited}

-- the agents of an identity's script with what each of them began, as `dead` tells of the last one; none where it has no script
abbrev pub MayHaveBegun : Option Scripted → List Agent → List (List (List ℕ)) → Bool → Type 0
MayHaveBegun None agents begun dead = (agents ≡ []) × (begun ≡ []) × (dead ≡ false)
MayHaveBegun (Some s) agents begun dead = AreScriptAgents s agents begun dead

-- the agents of an identity, each with what it began, are those of its script, if it has one, and then those of a visit: where the last one of the script had died a recoverer, and then a client
pub record HasAgents (script : Option Scripted) (e : Account) : Type 0 where
  pub dead : Bool
  pub first : List Agent
  pub others : List Agent
  pub before : List (List (List ℕ))
  pub lines : List (List (List ℕ))
  pub agents : e.memo.agents ≡ first ++ others
  pub begun : e.begun ≡ before ++ lines
  pub own : MayHaveBegun script first before dead
  pub closers : AreClosers dead others lines

-- the turns of an account are those of the agents of an identity's script; where there is none nobody has joined
abbrev pub MayHaveTaken : Option Scripted → Start → ℕ → Account → Type 0
MayHaveTaken None start c e = e ≡ first_account start c
MayHaveTaken (Some s) start c e = HasTaken (member start.geometry c) s.lines (first_account start c) e

-- The turns of an identity are those of its script's agents, as many as these have word steps and lives, and then those of a visit; `left` is what is accounted for in between
pub record HasTurns (script : Option Scripted) (start : Start) (c : ℕ) (f : Account) : Type 0 where
  pub left : Account
  pub own : MayHaveTaken script start c left
  pub begun : MayHaveBegun script left.memo.agents left.begun (fell_by (last_agent left.memo.agents))
  pub visited : IsVisited (fell_by (last_agent left.memo.agents)) left f

-- the entries of the log of an identity; none where no log is of it
abbrev pub entries_in : List Logged → ℕ → List LogEntry
entries_in [] c = []
entries_in (l ∷ ls) c = if l.client == c then l.entries else entries_in ls c

-- the closed pool p is what clients leave of the trace, and these are its logs
pub record IsTeamRun (t : Traced) (p : Pool) (ls : List Logged) : Type 0 where
  -- it was made of the sizes and the format of the trace
  pub start : p.start ≡ start_of t
  -- its turns, in whatever lawful order they came, lead from the first state to its words and accounts, and it is closed
  pub closed : IsClosedRun p
  -- each log is that of its client
  pub logs : AreLogs p t.scripts ls
  -- no command was refused for a spent era
  pub unspent : AllByRecursion (λ (l : Logged). AreUnspent l.entries) ls
  -- the agents of each identity are those of its script, and then those of a visit
  pub agents : (c : ℕ) → c < t.clients → HasAgents (script_in t.scripts c) (account_at p.accounts c)
  -- their turns are those that its script gives, and then those of the visit
  pub turns : (c : ℕ) → c < t.clients → HasTurns (script_in t.scripts c) p.start c (account_at p.accounts c)
  -- what was told of its commands is the entries of its log, and besides no command but one that was cut without effect
  pub told : (c : ℕ) → c < t.clients → AreCommandsTold (member p.start.geometry c) (account_at p.accounts c).told (entries_in ls c)
  -- the words hold this table
  pub table : ℕ → ℕ → List Entry
  pub is : IsTable p.start.geometry (see p.start.geometry p.words) table
  -- and each map of it is the fold of the log of its identity
  pub fold : (c key : ℕ) → c < t.clients → map_of (table c) key ≡ finmap.get (fold_in ls c) key

-- the pool was closed with these tokens, one for each identity: what is accounted for of each is what its token had
pub record IsClosedBy (p : Its) (ts : List Token) (end : End) : Type 0 where
  pub start : end.start ≡ p.start
  pub run : shared.IsClosedRun end.start end.words end.accounts
  pub account : (c : ℕ) (t : Token) → c < p.start.geometry.clients → account_at end.accounts c ≡ (slice_index_or ts c t).account

-- The pool p was settled, where this was done of its identities: it is closed, by a run; each identity was visited behind what was done of it; and the logs are those that were given, in the order of the scripts
pub record HasSettled (t : Traced) (p : Its) (ds : List Done) (end : End) (ls : List Logged) : Type 0 where
  pub start : end.start ≡ p.start
  pub run : shared.IsClosedRun end.start end.words end.accounts
  pub visited : (c : ℕ) (d : Done) → c < length ds → IsVisited (is_corpse (slice_index_or ds c d).left) (account_in (slice_index_or ds c d).left) (account_at end.accounts c)
  pub logs : ls ≡ logs_in t.scripts (logs_done ds)
