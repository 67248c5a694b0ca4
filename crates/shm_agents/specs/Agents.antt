-- the agents of a script at work: what ties them to what a pool accounts for of their identity
use Rattle.std.specs.Prelude.{◌≡◌, ℕ, zero, suc, ◌+◌, ◌^◌, ◌==◌, ◌&&◌, ◌<◌, ◌≤◌, ◌⊎◌, Bool, true, false, if◌then◌else◌, Option, Some, None, List, [], ◌∷◌, ◌++◌, length, map, sum, take, slice_get, slice_index}
use Rattle.std.specs.FinMap as finmap
use Rattle.shm_words.specs.Layout.{GeometryFits}
use Rattle.shm_graph.specs.declared.{ask.{Life.Life, Me.Me}, memo.{Agent.Agent, Fate.{Fate, TheVariants.{Acts, Ended}}}}
use Rattle.shm_graph.specs.declared.{memo.{Kind.TheVariants.{Client, Recoverer}, Memo.Memo}, run.Account.Account}
use Rattle.shm_graph.specs.declared.run.{LoggedLine.LoggedLine, Start.Start}
use Rattle.shm_graph.specs.{Agents.{last_agent, recovers, steps_made, steps_of}, Asks.{Trail, call_before}}
use Rattle.shm_graph.specs.{Held.is_loose, Idle.IsIdle, Laws.GoneNow, Runs.{fell_by, first_account, told_left}}
use Rattle.shm_graph.specs.{Tells.after_all, Whole.fits_now}
use Rattle.shm_graph.specs.declared.memo.Status.TheVariants as status
use Rattle.plans.specs.{declared.or.Or.TheVariants.{First, Second}, Deciding.StillRuns}
use Rattle.kind_parts.specs.Reparting.{map_in}
use Rattle.shm_recover.specs.Recover.Control.{recover_line}
use Rattle.shm_script.specs.declared.{line.Line.Line, log.{Answer.Answer, End.End, Entry.Entry}}
use Rattle.shm_script.specs.{Logged.{Logged, folded}, Ranges.ScriptFits, Values.Scripted}
use Rattle.shm_script.specs.declared.log.End.TheVariants as end
use Rattle.shm_table.specs.Command.{command_effect}
use Rattle.shm_agents.specs.declared.agents.Standing.{Standing, TheVariants.{AtWork, Gone, Dead}}
use Rattle.shm_agents.specs.Courses.{AreAgents, AreCommandsTold, AreScriptAgents, client_lines}
use Rattle.shm_agents.specs.{Logs.{AreEntries, AreUnspent, IsLogOf, steps_first}, Taken.HasTaken, Turns.lives_of}
use Rattle.shm_agents.specs.Work.{Work, WorkAnswer, WorkFits, WorkGives, commanding, join_work, leave_work, recover_work, work_control}

-- what contracts see of the agents of a script: which script is theirs, the number of the agent that acts or comes next, what it runs or ran last, the word steps that it has left, the entries of the client, for how many there is room, how the client ended, and whether one of them is at work, the identity is gone, or all of them died
pub record Playing : Type 0 where
  pub me : Me
  pub script : ℕ
  pub agent : ℕ
  pub work : Work
  pub life : Life
  pub entries : List Entry
  pub room : ℕ
  pub end : Option End
  pub standing : Standing

-- the log of the client: how it ended is told once it has
abbrev pub end_or : Option End → End
end_or None = end.Ended
end_or (Some e) = e

abbrev pub logged : Playing → Logged
logged x = record { client = x.me.who; entries = x.entries; end = end_or x.end }

abbrev pub is_at_work : Standing → Bool
is_at_work AtWork = true
is_at_work standing = false

-- whether all of them died
abbrev pub is_standing_dead : Standing → Bool
is_standing_dead Dead = true
is_standing_dead standing = false

-- whether the client is at work
abbrev pub is_client : Playing → Bool
is_client x = is_at_work x.standing && (x.agent == 0)

-- a piece of work is a command
abbrev pub is_command : Work → Bool
is_command (First m) = false
is_command (Second (First m)) = true
is_command (Second (Second m)) = false

-- what a piece of work shows of its answer: a command does from its deciding step on
abbrev pub shown_by : Work → Option Answer
shown_by (First m) = None
shown_by (Second (First m)) = command_effect m
shown_by (Second (Second m)) = None

-- one of them has died: the next one comes, if there is one with so many word steps, and recovers the identity
abbrev pub follows : Option ℕ → Playing → Playing
follows None x = record x { agent = x.agent + 1; standing = Dead }
follows (Some n) x = record x { agent = x.agent + 1; work = recover_work x.me; life = record { left = n } }

-- what comes behind so many commands: the next one, and behind the last one the leaving
abbrev pub behind : Me → List Line → ℕ → Work
behind me [] k = leave_work me
behind me (line ∷ lines) zero = commanding me line
behind me (line ∷ lines) (suc k) = behind me lines k

-- the map of the memo is the fold of these entries
abbrev pub IsFold : List Entry → Memo → Type 0
IsFold es m = (key : ℕ) → map_in m.part key ≡ finmap.get (folded es finmap.empty) key

-- ---- the identity

-- A client of c between two calls, in a pool for tables, that holds no latch and has no zero-count block, and of whose queues none waits for a tail or a head: each command may begin, and the leaving. Its map is the fold of these entries
pub record IsReady (c : ℕ) (es : List Entry) (r : Memo) : Type 0 where
  pub idle : IsIdle c r
  pub client : recovers r ≡ false
  pub latch : r.latch ≡ None
  pub dying : r.dying ≡ []
  pub table : is_loose r.part ≡ false
  pub unsent : (i : ℕ) → slice_index r.unsent i ≡ 0
  pub untaken : (i : ℕ) → slice_index r.untaken i ≡ 0
  pub fold : IsFold es r

-- one agent began, a client, which made so many word steps
abbrev pub one_agent : ℕ → Fate → List Agent
one_agent n fate = record { kind = Client; steps = n; fate = fate } ∷ []

-- what was told of the identity is a join and these entries, and then the rest, and no other command was told
pub record AreTold (me : Me) (told : List LoggedLine) (es : List Entry) : Type 0 where
  pub join : LoggedLine
  pub behind : List LoggedLine
  pub is : told ≡ join ∷ behind
  pub entries : AreEntries me behind es
  pub only : AreCommandsTold me told es

-- ---- while the client is at work

-- no agent has begun
pub record IsFresh (start : Start) (s : Scripted) (x : Playing) (e : Account) : Type 0 where
  pub account : e ≡ first_account start x.me.who
  pub agent : x.agent ≡ 0
  pub work : x.work ≡ join_work x.me
  pub entries : x.entries ≡ []
  pub life : slice_get (lives_of s.life) 0 ≡ Some x.life.left
  pub end : x.end ≡ None
  pub here : x.standing ≡ AtWork

-- The client has joined, and is at what comes behind the commands that have answered, which it began at the memo `start`. Of the work it has asked what the call says; the work is over where that was the work before
pub record IsPlaying (s : Scripted) (x : Playing) (e : Account) : Type 0 where
  pub agent : x.agent ≡ 0
  pub end : x.end ≡ None
  pub here : x.standing ≡ AtWork
  pub steps : ℕ
  pub stepped : 0 < steps
  pub agents : e.memo.agents ≡ one_agent steps Acts
  pub life : slice_get (lives_of s.life) 0 ≡ Some (x.life.left + steps)
  pub few : length x.entries ≤ length s.lines
  pub commands : map (λ (y : Entry). y.line) x.entries ≡ take (length x.entries) s.lines
  pub unspent : AreUnspent x.entries
  pub start : Memo
  pub ready : IsReady x.me.who x.entries start
  pub me : work_control.me x.work ≡ x.me
  pub going : work_control.finished x.work ≡ false
  pub fits : fits_now work_control WorkFits x.work start e.memo
  pub gave : (r : Memo) (tr : Trail) (a : WorkAnswer) → WorkGives x.work start r tr a → WorkGives (behind x.me s.lines (length x.entries)) start r tr a
  pub line : work_control.line x.work ≡ work_control.line (behind x.me s.lines (length x.entries))
  pub course : after_all work_control (behind x.me s.lines (length x.entries)) (call_before (work_control.fresh x.work) e.memo.call) ≡ x.work
  pub runs : StillRuns work_control (behind x.me s.lines (length x.entries)) (call_before (work_control.fresh x.work) e.memo.call)
  pub over : e.memo.over ≡ work_control.fresh x.work
  pub begun : List (List ℕ)
  pub is_begun : e.begun ≡ begun ∷ []
  pub many : length begun ≡ (if work_control.fresh x.work then length x.entries + 1 else length x.entries + 2)
  pub lines : begun ≡ take (length begun) (client_lines s.lines)
  pub told : AreTold x.me e.told x.entries
  pub all_told : length e.told ≡ length x.entries + 1
  pub running : e.running ≡ (if work_control.fresh x.work then [] else work_control.line x.work)

-- the client has left: all its commands have answered, its agent has ended, and nothing of the identity is left to finish
pub record HasParted (s : Scripted) (x : Playing) (e : Account) : Type 0 where
  pub end : x.end ≡ Some end.Ended
  pub left : x.standing ≡ Gone
  pub steps : ℕ
  pub agents : e.memo.agents ≡ one_agent steps Ended
  pub life : slice_get (lives_of s.life) 0 ≡ Some (x.life.left + steps)
  pub commands : map (λ (y : Entry). y.line) x.entries ≡ s.lines
  pub unspent : AreUnspent x.entries
  pub status : e.memo.status ≡ status.Gone
  pub gone : GoneNow x.me.who e.memo
  pub fold : IsFold x.entries e.memo
  pub table : is_loose e.memo.part ≡ false
  pub done : e.memo.over ≡ true
  pub begun : e.begun ≡ client_lines s.lines ∷ []
  pub told : AreTold x.me e.told x.entries
  pub running : e.running ≡ []

-- ---- after the client's death

-- the log of the dead client, whose word steps are those that it made, by what is told of it, which tells no other command; none of its commands was refused for a spent era, and the map is the fold of its entries
pub record IsSettled (s : Scripted) (x : Playing) (e : Account) (told : List LoggedLine) : Type 0 where
  pub end : End
  pub ended : x.end ≡ Some end
  pub log : IsLogOf x.me s (steps_first e.memo.agents) e.memo.agents e.begun told (logged x)
  pub only : AreCommandsTold x.me told x.entries
  pub unspent : AreUnspent x.entries
  pub fold : IsFold x.entries e.memo
  pub table : is_loose e.memo.part ≡ false

-- So many agents began and died, each after the word steps of its life, the first a client and the others recoverers, and none acts. None comes where the lives are spent
pub record IsFallen (s : Scripted) (x : Playing) (e : Account) : Type 0 where
  pub lived : steps_first e.memo.agents ≡ slice_index (lives_of s.life) 0
  pub many : length e.memo.agents ≡ x.agent
  pub some : 0 < x.agent
  pub fell : fell_by (last_agent e.memo.agents) ≡ true
  pub died : AreAgents s.lines (take x.agent (lives_of s.life)) e.memo.agents e.begun true
  pub made : steps_made e.memo ≡ sum (take x.agent (lives_of s.life))
  pub next : ((x.standing ≡ Dead) × (slice_get (lives_of s.life) x.agent ≡ None)) ⊎ ((x.standing ≡ AtWork) × (slice_get (lives_of s.life) x.agent ≡ Some x.life.left) × (x.work ≡ recover_work x.me))

-- A recoverer acts behind agents that died, which began its recovery at the memo `start` and nothing else
pub record IsMending (s : Scripted) (x : Playing) (e : Account) : Type 0 where
  pub here : x.standing ≡ AtWork
  pub lived : steps_first e.memo.agents ≡ slice_index (lives_of s.life) 0
  pub before : List Agent
  pub steps : ℕ
  pub stepped : 0 < steps
  pub agents : e.memo.agents ≡ before ++ record { kind = Recoverer; steps = steps; fate = Acts } ∷ []
  pub many : length before ≡ x.agent
  pub some : 0 < x.agent
  pub life : slice_get (lives_of s.life) x.agent ≡ Some (x.life.left + steps)
  pub made : steps_of before ≡ sum (take x.agent (lives_of s.life))
  pub start : Memo
  pub recoverer : recovers start ≡ true
  pub me : work_control.me x.work ≡ x.me
  pub going : work_control.finished x.work ≡ false
  pub old : work_control.fresh x.work ≡ false
  pub fits : fits_now work_control WorkFits x.work start e.memo
  pub gave : (r : Memo) (tr : Trail) (a : WorkAnswer) → WorkGives x.work start r tr a → WorkGives (recover_work x.me) start r tr a
  pub line : work_control.line x.work ≡ work_control.line (recover_work x.me)
  pub course : after_all work_control (recover_work x.me) e.memo.call ≡ x.work
  pub over : e.memo.over ≡ false
  pub begun : List (List (List ℕ))
  pub is_begun : e.begun ≡ begun ++ (recover_line ∷ []) ∷ []
  pub died : AreAgents s.lines (take x.agent (lives_of s.life)) before begun true
  pub running : e.running ≡ recover_line

-- a recoverer has recovered the identity: it is gone, and nothing of it is left to finish
pub record IsMended (s : Scripted) (x : Playing) (e : Account) : Type 0 where
  pub recovered : x.standing ≡ Gone
  pub lived : steps_first e.memo.agents ≡ slice_index (lives_of s.life) 0
  pub before : List Agent
  pub steps : ℕ
  pub agents : e.memo.agents ≡ before ++ record { kind = Recoverer; steps = steps; fate = Ended } ∷ []
  pub all : AreScriptAgents s e.memo.agents e.begun false
  pub few : steps_made e.memo ≤ sum (lives_of s.life)
  pub status : e.memo.status ≡ status.Gone
  pub gone : GoneNow x.me.who e.memo
  pub done : e.memo.over ≡ true

-- ---- all

-- the agents of a pool that was made so, for tables and with a first era below 2^46, for a script in its ranges, with room for all its commands
pub record MayPlay (start : Start) (s : Scripted) (x : Playing) : Type 0 where
  pub geometry : GeometryFits start.geometry
  pub era : start.first_era < 2 ^ 46
  pub tables : start.tables ≡ true
  pub me : x.me.geometry ≡ start.geometry
  pub who : x.me.who < start.geometry.clients
  pub client : s.client ≡ x.me.who
  pub script : ScriptFits start.geometry.clients s
  pub room : length s.lines ≤ x.room

-- where they are, and once the client is dead that its log is settled: what was running of an agent that died is told once the next one begins
pub data Stage (start : Start) (s : Scripted) (x : Playing) (e : Account) : Type 0 where
  Fresh : IsFresh start s x e → Stage start s x e
  Plays : IsPlaying s x e → Stage start s x e
  Parted : HasParted s x e → Stage start s x e
  Fallen : IsFallen s x e → IsSettled s x e (told_left true e) → Stage start s x e
  Mending : IsMending s x e → IsSettled s x e e.told → Stage start s x e
  Mended : IsMended s x e → IsSettled s x e e.told → Stage start s x e

-- The agents x of a script stand in a pool that was made so and accounts for e of their identity, all of whose turns they took. Neither words nor another identity are spoken of, so that turns of others keep it
pub record AgentsStand (start : Start) (s : Scripted) (x : Playing) (e : Account) : Type 0 where
  pub may : MayPlay start s x
  pub stage : Stage start s x e
  pub taken : HasTaken x.me s.lines (first_account start x.me.who) e
