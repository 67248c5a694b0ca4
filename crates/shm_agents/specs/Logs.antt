-- the logs of a trace's clients, by what a pool accounts for of them
use Rattle.std.specs.Prelude.{◌≡◌, ℕ, ◌+◌, Bool, true, false, Option, Some, None, List, [], ◌∷◌, ◌++◌, length, map, take, slice_get, slice_index}
use Rattle.std.specs.{Option.is_some, List.AllByRecursion}
use Rattle.shm_graph.specs.declared.{ask.Me.Me, memo.{Agent.Agent, Fate.Fate, Kind.TheVariants.Client}}
use Rattle.shm_graph.specs.{declared.run.LoggedLine.LoggedLine, Asks.Trail, Laws.Control, Runs.account_at}
use Rattle.shm_graph.specs.Tells.{after_all}
use Rattle.shm_graph.specs.declared.memo.Fate.TheVariants as fate
use Rattle.shm_count.specs.Roots.{member}
use Rattle.shm_plain.specs.Pools.{Pool}
use Rattle.shm_script.specs.declared.{line.Line.Line, log.{Answer.{Answer, TheVariants.EraSpent}, End.End}}
use Rattle.shm_script.specs.{declared.log.{End.TheVariants.{Ended, Died}, Entry.Entry}, Logged.Logged, Values.Scripted}
use Rattle.shm_script.specs.Text.{line_spelled}
use Rattle.shm_table.specs.Command.{command_control, command_effect, command_of}
use Rattle.shm_agents.specs.Turns.{lives_of}

-- ---- finished commands

-- what a machine answers at the last of these pairs
abbrev pub answer_along : {S A : Type 0} → Control S A → S → Trail → Option A
answer_along k m [] = None
answer_along k m (x ∷ []) = k.turns m x.word
answer_along k m (x ∷ y ∷ tr) = answer_along k (k.after m x.word) (y ∷ tr)

-- an entry of a log is one of what was told of the identity: the command whose text that is, with the answer that its trail gives
pub record IsEntry (me : Me) (x : LoggedLine) (e : Entry) : Type 0 where
  pub line : x.line ≡ line_spelled e.line
  pub whole : x.finished ≡ true
  pub answer : answer_along command_control (command_of me e.line) x.trail ≡ Some e.answer

-- entries and what was told, one by one, and then the rest of what was told
abbrev pub AreEntries : Me → List LoggedLine → List Entry → Type 0
AreEntries me told [] = Unit {0}
AreEntries me [] (e ∷ es) = ⊥
AreEntries me (x ∷ told) (e ∷ es) = IsEntry me x e × AreEntries me told es

-- the answer isn't that the own era was spent
abbrev pub IsUnspent : Answer → Type 0
IsUnspent (EraSpent e) = ⊥
IsUnspent a = Unit {0}

-- no command of these entries was refused for a spent own era
abbrev pub AreUnspent : List Entry → Type 0
AreUnspent = AllByRecursion (λ (e : Entry). IsUnspent e.answer)

-- ---- the death of a client

-- what the machine of a command shows of its answer after this trail, which tells whether its deciding step was made
abbrev pub effect_along : Me → Line → Trail → Option Answer
effect_along me line tr = command_effect (after_all command_control (command_of me line) tr)

-- the entries with the command in which the client died, where that had its effect
abbrev pub with_effect : List Entry → Line → Option Answer → List Entry
with_effect es line None = es
with_effect es line (Some a) = es ++ record { line = line; answer = a } ∷ []

-- Where a client was that died when these commands were finished, by how many pieces of work it had begun and by what was told behind them: between two pieces; in the next command, which is an entry too and `done` where it had its effect; or in its leaving
pub data Was (me : Me) (lines : List Line) (begun : ℕ) (behind : List LoggedLine) (finished entries : List Entry) (done : Bool) : Type 0 where
  Between : (count : begun ≡ length finished + 1) (same : entries ≡ finished) (undone : done ≡ false) → Was me lines begun behind finished entries done
  InCommand : (line : Line) (x : LoggedLine) (count : begun ≡ length finished + 2) (next : slice_get lines (length finished) ≡ Some line) (at : slice_get behind (length finished) ≡ Some x) (text : x.line ≡ line_spelled line) (cut : x.finished ≡ false) (same : entries ≡ with_effect finished line (effect_along me line x.trail)) (shown : done ≡ is_some (effect_along me line x.trail)) → Was me lines begun behind finished entries done
  InLeaving : (x : LoggedLine) (count : begun ≡ length finished + 2) (all : slice_get lines (length finished) ≡ None) (at : slice_get behind (length finished) ≡ Some x) (cut : x.finished ≡ false) (same : entries ≡ finished) (undone : done ≡ false) → Was me lines begun behind finished entries done

-- the first agent was a client, which made so many word steps and ended so
abbrev pub BeganWith : List Agent → ℕ → Fate → Type 0
BeganWith agents n f = (others : List Agent) × (agents ≡ record { kind = Client; steps = n; fate = f } ∷ others)

-- how many word steps the first agent made
abbrev pub steps_first : List Agent → ℕ
steps_first [] = 0
steps_first (a ∷ agents) = a.steps

-- how many pieces of work the first agent began
abbrev pub begun_first : List (List (List ℕ)) → ℕ
begun_first [] = 0
begun_first (lines ∷ agents) = length lines

-- ---- logs

-- how the client of a script ended that has so many word steps: it left when all commands were finished; or it died, after these word steps, with so many finished
abbrev pub HasEnd : Me → Scripted → ℕ → List Agent → List (List (List ℕ)) → List LoggedLine → List Entry → List Entry → End → Type 0
HasEnd me s life agents begun behind finished entries Ended = (entries ≡ finished) × (length finished ≡ length s.lines) × ((n : ℕ) × BeganWith agents n fate.Ended)
HasEnd me s life agents begun behind finished entries (Died n done) = (n ≡ length finished) × BeganWith agents life fate.Died × Was me s.lines (begun_first begun) behind finished entries done

-- The log of the client of a script that has so many word steps, by the agents of its identity, the lines that they began and what was told: its entries are the first commands of the script, in order, the finished ones as they were told behind its join
pub record IsLogOf (me : Me) (s : Scripted) (life : ℕ) (agents : List Agent) (begun : List (List (List ℕ))) (told : List LoggedLine) (l : Logged) : Type 0 where
  pub client : l.client ≡ s.client
  pub lines : map (λ (e : Entry). e.line) l.entries ≡ take (length l.entries) s.lines
  pub join : LoggedLine
  pub behind : List LoggedLine
  pub is : told ≡ join ∷ behind
  pub finished : List Entry
  pub entries : AreEntries me behind finished
  pub end : HasEnd me s life agents begun behind finished l.entries l.end

-- the log of the client of a script, whose word steps are those of its life, by what the pool accounts for of its identity
abbrev pub IsLog : Pool → Scripted → Logged → Type 0
IsLog p s l = let e = account_at p.accounts s.client in IsLogOf (member p.start.geometry s.client) s (slice_index (lives_of s.life) 0) e.memo.agents e.begun e.told l

-- a log for each script, in the order of the scripts
abbrev pub AreLogs : Pool → List Scripted → List Logged → Type 0
AreLogs p [] ls = ls ≡ []
AreLogs p (s ∷ ss) [] = ⊥
AreLogs p (s ∷ ss) (l ∷ ls) = IsLog p s l × AreLogs p ss ls
