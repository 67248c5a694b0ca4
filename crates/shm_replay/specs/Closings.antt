-- the closing of a pool after a trace
use Rattle.std.specs.Prelude.{◌≡◌, ◌≢◌, ℕ, zero, suc, ◌^◌, ◌≤◌, ◌⊎◌, Bool, true, false, Option, None, Some, List, [], ◌++◌, slice_index}
use Rattle.shm_graph.specs.declared.{memo.{Memo.Memo, Status.TheVariants.{Gone, New}}, run.Account.Account}
use Rattle.shm_graph.specs.{declared.run.LoggedLine.LoggedLine, Agents.{acts, last_agent, steps_made}, Held.is_loose}
use Rattle.shm_graph.specs.{Idle.IsIdle, Laws.Control, Runs.{fell_by, told_left}}
use Rattle.plans.specs.CallsControl.{calls_control, calls_of}
use Rattle.shm_count.specs.Roots.{member}
use Rattle.shm_plain.specs.{Calls.TookSteps, Pools.{IsRun, Pool, memo_of}}
use Rattle.shm_queue.specs.Drain.Control.{drain_parts, draining, drain_steered}
use Rattle.shm_recover.specs.{Join.{join_control, join_fresh}, Leave.Control.{leave_parts, leaving, leave_steered}}
use Rattle.shm_recover.specs.Recover.Control.{recover_parts, recovering, recover_steered}
use Rattle.kind_parts.specs.Reparting.{map_in}
pub use Rattle.shm_agents.specs.Agents.{is_standing_dead}
use Rattle.shm_agents.specs.Agents.{Playing}

-- ---- what a closing is

-- c ran the machine m from p to q until it had answered, by one word step or more, as a client that began where none acted; no other identity made a step meanwhile
pub record IsWhole {M A : Type 0} (k : Control M A) (c : ℕ) (p : Pool) (m : M) (q : Pool) : Type 0 where
  pub start : q.start ≡ p.start
  pub took : TookSteps k c p m q
  pub some : took.trail ≢ []
  pub over : (memo_of q c).over ≡ true
  pub run : IsRun q

-- where the last agent of c died, c is recovered, from p to q
abbrev pub IsRecovery : Bool → ℕ → Pool → Pool → Type 0
IsRecovery false c p q = q ≡ p
IsRecovery true c p q = IsWhole (calls_control recover_parts recover_steered) c p (calls_of recover_steered (recovering (member p.start.geometry c))) q

-- c was recovered where its last agent had died; then it joined, took all that waited for it, and left
pub record IsVisit (c : ℕ) (p q : Pool) : Type 0 where
  pub recovered : Pool
  pub joined : Pool
  pub drained : Pool
  pub recovery : IsRecovery (fell_by (last_agent (memo_of p c).agents)) c p recovered
  pub join : IsWhole join_control c recovered (join_fresh (member p.start.geometry c)) joined
  pub drain : IsWhole (calls_control drain_parts drain_steered) c joined (calls_of drain_steered (draining (member p.start.geometry c))) drained
  pub leave : IsWhole (calls_control leave_parts leave_steered) c drained (calls_of leave_steered (leaving (member p.start.geometry c))) q

-- the n identities from c on are visited from p to q, one after the other
abbrev pub AreVisits : ℕ → ℕ → Pool → Pool → Type 0
AreVisits c zero p q = q ≡ p
AreVisits c (suc n) p q = (r : Pool) × IsVisit c p r × AreVisits (suc c) n r q

-- what was running of an agent that died is told, and more behind it
abbrev pub HasTold : Account → Account → Type 0
HasTold e f = (more : List LoggedLine) × (f.told ≡ told_left true e ++ more)

-- ---- when it may begin

-- nobody has joined, or the last agent ended: a client may begin; the agents have made at most 2^42 word steps
pub record IsOut (m : Memo) : Type 0 where
  pub status : (m.status ≡ New) ⊎ (m.status ≡ Gone)
  pub none : acts m ≡ false
  pub whole : fell_by (last_agent m.agents) ≡ false
  pub few : steps_made m ≤ 2 ^ 42

-- the last agent died: a recoverer may begin; the agents have made at most 2^41 word steps
pub record IsDead (m : Memo) : Type 0 where
  pub fell : fell_by (last_agent m.agents) ≡ true
  pub few : steps_made m ≤ 2 ^ 41

-- in a pool for tables, where the last agent died or none did
abbrev pub MayVisit : Bool → Memo → Type 0
MayVisit false m = IsOut m
MayVisit true m = IsDead m

-- whether all agents of an identity died
abbrev pub is_dead : Option Playing → Bool
is_dead None = false
is_dead (Some x) = is_standing_dead x.standing

-- ---- on the way

-- a client of c is between two calls, holds no latch and has no zero-count block, and no queue waits for its tail or head
pub record IsIn (c : ℕ) (m : Memo) : Type 0 where
  pub idle : IsIdle c m
  pub acts : acts m ≡ true
  pub latch : m.latch ≡ None
  pub dying : m.dying ≡ []
  pub unsent : (i : ℕ) → slice_index m.unsent i ≡ 0
  pub untaken : (i : ℕ) → slice_index m.untaken i ≡ 0

-- the map of the table is the same, and the pool is for tables still or is not
pub record SameTable (m r : Memo) : Type 0 where
  pub map : (key : ℕ) → map_in r.part key ≡ map_in m.part key
  pub loose : is_loose r.part ≡ is_loose m.part
