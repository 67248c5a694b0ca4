-- the agents of an identity, and its status
use Rattle.std.specs.Prelude.{ℕ, ◌+◌, Bool, true, false, ◌==◌, if◌then◌else◌, Option, Some, None, List, [], ◌∷◌, ◌++◌}
use Rattle.shm_graph.specs.declared.memo.{Status.Status as AStatus, Agent.Agent, Kind.Kind}
use Rattle.shm_graph.specs.declared.memo.{Kind.TheVariants.{Client, Recoverer}, Fate.Fate}
use Rattle.shm_graph.specs.declared.memo.{Fate.TheVariants.{Acts, Ended, Died}, Memo.Memo}
use Rattle.shm_graph.specs.declared.memo.Status.TheVariants as status

-- ---- agents

-- the agent that acts, or acted last
abbrev pub last_agent : List Agent → Option Agent
last_agent [] = None
last_agent (a ∷ []) = Some a
last_agent (a ∷ b ∷ others) = last_agent (b ∷ others)

-- the agents with the last one changed
abbrev pub with_last : (Agent → Agent) → List Agent → List Agent
with_last f [] = []
with_last f (a ∷ []) = f a ∷ []
with_last f (a ∷ b ∷ others) = a ∷ with_last f (b ∷ others)

abbrev pub is_acting : Fate → Bool
is_acting Acts = true
is_acting _ = false

abbrev pub acts_by : Option Agent → Bool
acts_by None = false
acts_by (Some a) = is_acting a.fate

-- whether an agent of the identity acts
abbrev pub acts : Memo → Bool
acts m = acts_by (last_agent m.agents)

abbrev pub is_recoverer : Kind → Bool
is_recoverer Recoverer = true
is_recoverer Client = false

abbrev pub recovers_by : Option Agent → Bool
recovers_by None = false
recovers_by (Some a) = is_recoverer a.kind

-- whether the agent is a recoverer
abbrev pub recovers : Memo → Bool
recovers m = recovers_by (last_agent m.agents)

abbrev pub stepped : Agent → Agent
stepped a = record { kind = a.kind; steps = a.steps + 1; fate = a.fate }

abbrev pub ended : Agent → Agent
ended a = record { kind = a.kind; steps = a.steps; fate = Ended }

abbrev pub fallen : Agent → Agent
fallen a = record { kind = a.kind; steps = a.steps; fate = Died }

-- the word steps of all these agents, and those of an identity's
abbrev pub steps_of : List Agent → ℕ
steps_of [] = 0
steps_of (a ∷ others) = a.steps + steps_of others

abbrev pub steps_made : Memo → ℕ
steps_made m = steps_of m.agents

-- the death of an agent, and the beginning of one
abbrev pub died : Memo → Memo
died m = record m { agents = with_last fallen m.agents }

abbrev pub entered : Kind → Memo → Memo
entered k m = record m { agents = m.agents ++ record { kind = k; steps = 0; fate = Acts } ∷ [] }

-- ---- statuses

abbrev pub status_of : ℕ → AStatus
status_of v = if v == 1 then status.Live else if v == 2 then status.Dead else if v == 3 then status.Gone else status.New

abbrev pub is_gone : AStatus → Bool
is_gone status.Gone = true
is_gone _ = false

-- a status was stored: a recoverer's first step empties what the dead agent prepared and knew
abbrev pub with_status : Memo → ℕ → Memo
with_status m v =
    if v == 2 then record m { status = status_of v; making = None; known = []; values = [] }
    else record m { status = status_of v }
