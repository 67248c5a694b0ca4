-- the turns of the agents of a script: which word step is made is told by the script and by what is accounted for of the identity
use Rattle.std.specs.Prelude.{ℕ, zero, suc, ◌-◌, ◌^◌, ◌==◌, Bool, true, false, min, if◌then◌else◌, Option, Some, None, List, [], ◌∷◌, ◌++◌, length, slice_get, slice_index}
use Rattle.std.specs.Option.{option_map}
use Rattle.shm_graph.specs.declared.{ask.Me.Me, memo.{Agent.Agent, Fate.{Fate, TheVariants.Ended}, Memo.Memo}}
use Rattle.shm_graph.specs.{declared.run.Account.Account, Agents.{acts, last_agent}, Tells.after_all}
use Rattle.shm_script.specs.Values.{Scripted}
use Rattle.shm_agents.specs.Work.{Work, join_work, recover_work, work_control, work_of}

-- ---- the agents of a script: its client, and recoverers, each of which begins where the one before it died

-- the word steps that each of them has, in order: the numbers of the life line, or else 2^40; and 2^40 for one recoverer more
abbrev pub lives_of : List ℕ → List ℕ
lives_of [] = 2 ^ 40 ∷ 2 ^ 40 ∷ []
lives_of (n ∷ life) = n ∷ life ++ 2 ^ 40 ∷ []

-- the number of the agent that acts, and where none does of the one that comes next
abbrev pub agent_of : Memo → ℕ
agent_of m = if acts m then length m.agents - 1 else length m.agents

-- the word steps that it has made
abbrev pub steps_by : Option Agent → ℕ
steps_by None = 0
steps_by (Some a) = a.steps

abbrev pub steps_of_agent : Memo → ℕ
steps_of_agent m = if acts m then steps_by (last_agent m.agents) else 0

-- the word steps that it has left
abbrev pub life_of : Scripted → Memo → ℕ
life_of s m = slice_index (lives_of s.life) (agent_of m) - steps_of_agent m

-- whether the last agent has ended: the identity is gone, and no other agent comes
abbrev pub is_ended : Fate → Bool
is_ended Ended = true
is_ended fate = false

abbrev pub ended_by : Option Agent → Bool
ended_by None = false
ended_by (Some a) = is_ended a.fate

-- ---- what an agent has to do next

-- how many pieces of work the last agent has begun
abbrev pub begun_last : List (List (List ℕ)) → ℕ
begun_last [] = 0
begun_last (lines ∷ []) = length lines
begun_last (lines ∷ more ∷ agents) = begun_last (more ∷ agents)

-- where an agent that acts is in its work: at the next piece of it where the last one is over, otherwise within the last one, as far as its call tells
abbrev pub work_at : List Work → Account → Option Work
work_at work e =
    if e.memo.over then slice_get work (begun_last e.begun)
    else option_map (λ m. after_all work_control m e.memo.call) (slice_get work (begun_last e.begun - 1))

-- what the agent with this number begins with
abbrev pub first_of : Me → ℕ → Work
first_of me zero = join_work me
first_of me (suc n) = recover_work me

-- what is to be done next by the agent that acts, or else by the next one; none where the last one has ended, or no more come
abbrev pub next_by : Me → Scripted → Account → Option Work
next_by me s e =
    if acts e.memo then work_at (work_of me s.lines (agent_of e.memo)) e
    else if ended_by (last_agent e.memo.agents) then None
    else option_map (λ life. first_of me (agent_of e.memo)) (slice_get (lives_of s.life) (agent_of e.memo))

-- ---- scripts

-- the script of an identity; none where it has none
abbrev pub script_in : List Scripted → ℕ → Option Scripted
script_in [] c = None
script_in (s ∷ ss) c = if s.client == c then Some s else script_in ss c

-- ---- answers

-- how many pieces of its work are over, of the client that acts
abbrev pub over_first : Account → ℕ
over_first e = if e.memo.over then begun_last e.begun else begun_last e.begun - 1

-- how many commands of the identity's client have answered, while it acts
abbrev pub answered_of : Option Scripted → Account → ℕ
answered_of None e = 0
answered_of (Some s) e = min (over_first e - 1) (length s.lines)
