-- the turns that the agents of a script take
use Rattle.std.specs.Prelude.{◌≡◌, true, false, if◌then◌else◌, Option, Some, None, List, [], ◌∷◌}
use Rattle.shm_graph.specs.declared.{ask.Me.Me, memo.Step.Step, run.{Account.Account, Move.Move}}
use Rattle.shm_graph.specs.{declared.run.Move.TheVariants.{Word, Dies, Begins}, Agents.{acts, last_agent}, Laws.step_of}
use Rattle.shm_graph.specs.Runs.{account_after, account_along, account_died, account_entered}
use Rattle.shm_plain.specs.Tracks.{kind_next}
use Rattle.shm_script.specs.declared.line.Line.{Line}
use Rattle.shm_agents.specs.{Turns.{agent_of, ended_by, first_of, work_at}, Work.{Work, work_control, work_of}}

-- what the agent that acts has to do next, or else the one that comes next, whatever word steps it has; none where the last one has ended
abbrev pub work_next : Me → List Line → Account → Option Work
work_next me lines e =
    if acts e.memo then work_at (work_of me lines (agent_of e.memo)) e
    else if ended_by (last_agent e.memo.agents) then None
    else Some (first_of me (agent_of e.memo))

-- the word step is that of what is to be done next
abbrev pub IsNext : Me → List Line → Account → Step → Type 0
IsNext me lines e t = (w : Work) × (work_next me lines e ≡ Some w) × (t ≡ step_of work_control w t.seen)

-- The agents of a script with these lines take these turns, from where this is accounted for of their identity on: each word step is that of what they have to do next; and where none of them acts the next one begins before it
abbrev pub AreTaken : Me → List Line → Account → List Move → Type 0
AreTaken me lines e [] = Unit {0}
AreTaken me lines e (Word t ∷ ms) = (acts e.memo ≡ true) × IsNext me lines e t × AreTaken me lines (account_after e t) ms
AreTaken me lines e (Dies c ∷ ms) = (acts e.memo ≡ true) × AreTaken me lines (account_died e) ms
AreTaken me lines e (Begins c k ∷ Word t ∷ ms) = (acts e.memo ≡ false) × (k ≡ kind_next e.memo) × IsNext me lines e t × AreTaken me lines (account_after (account_entered k e) t) ms
AreTaken me lines e (Begins c k ∷ ms) = ⊥

-- the turns of the account e are such ones from the account `first` on, and made it what it is
pub record HasTaken (me : Me) (lines : List Line) (first e : Account) : Type 0 where
  pub turns : AreTaken me lines first e.turns
  pub made : account_along first e.turns ≡ e
