-- what agents are at once a piece of work has answered; and their turns in a pool in a vector, one after the other
use Rattle.std.specs.{Prelude.{◌≡◌, ℕ, zero, suc, ◌<◌, List, [], ◌∷◌, ◌++◌, Some, length, slice_get}, Result.IsOk}
use Rattle.shm_graph.specs.{Laws.step_of, Runs.account_at}
use Rattle.shm_plain.specs.{Pools.{IsRun, Pool, after_fall}, Turned.IsTurned}
use Rattle.plans.specs.declared.or.Or.TheVariants.{First, Second}
use Rattle.shm_script.specs.{declared.line.Line.Line, Values.Scripted}
use Rattle.shm_script.specs.declared.log.End.TheVariants as end
use Rattle.shm_agents.specs.{declared.agents.Standing.TheVariants.{AtWork, Gone}, Agents.{AgentsStand, Playing, behind}}
use Rattle.shm_agents.specs.Work.{WorkAnswer, work_control}

-- their work may have answered so: no own era was spent, and for the answer of a command there is a line and room
abbrev pub MayGoOn : List Line → WorkAnswer → Playing → Type 0
MayGoOn lines (First (First a)) x = Unit {0}
MayGoOn lines (First (Second a)) x = IsOk a
MayGoOn lines (Second (First a)) x = (line : Line) × (slice_get lines (length x.entries) ≡ Some line) × (length x.entries < x.room)
MayGoOn lines (Second (Second a)) x = IsOk a

-- of these lines, what their work has answered, and the agents before that and after it: one more command has answered, what comes behind has begun, or the identity is gone
abbrev pub HasGoneOn : List Line → WorkAnswer → Playing → Playing → Type 0
HasGoneOn lines (First (First a)) x y = y ≡ record x { work = behind x.me lines (length x.entries) }
HasGoneOn lines (First (Second a)) x y = y ≡ record x { standing = Gone }
HasGoneOn lines (Second (First a)) x y =
    (line : Line) → slice_get lines (length x.entries) ≡ Some line
    → y ≡ record x { entries = x.entries ++ record { line = line; answer = a } ∷ []; work = behind x.me lines (length (x.entries ++ record { line = line; answer = a } ∷ [])) }
HasGoneOn lines (Second (Second a)) x y = y ≡ record x { end = Some end.Ended; standing = Gone }

-- one turn of agents of this script that stood in the pool p, after which they stand in q: a word step, or where none was left a death
pub record OneTurn (s : Scripted) (p : Pool) (x : Playing) (q : Pool) (y : Playing) : Type 0 where
  pub here : x.standing ≡ AtWork
  pub start : q.start ≡ p.start
  pub run : IsRun q
  pub stepped : 0 < x.life.left → (n : ℕ) × IsTurned p (step_of work_control x.work n) q
  pub fell : x.life.left ≡ 0 → q ≡ after_fall p x.me.who
  pub me : y.me ≡ x.me
  pub script : y.script ≡ x.script
  pub stands : AgentsStand q.start s y (account_at q.accounts x.me.who)

-- so many of them, one after the other
abbrev pub AreTurns : Scripted → ℕ → Pool → Playing → Pool → Playing → Type 0
AreTurns s zero p x q y = (q ≡ p) × (y ≡ x)
AreTurns s (suc n) p x q y = (r : Pool) × (z : Playing) × OneTurn s p x r z × AreTurns s n r z q y
