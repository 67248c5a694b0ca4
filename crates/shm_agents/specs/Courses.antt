-- the agents of a script with what each of them began, and what was told of its commands
use Rattle.std.specs.Prelude.{◌≡◌, ℕ, ◌≤◌, ◌⊎◌, Bool, true, false, Option, Some, None, List, [], ◌∷◌, ◌++◌, length, map, take}
use Rattle.shm_graph.specs.declared.{ask.Me.Me, memo.{Agent.Agent, Fate.{Fate, TheVariants.{Ended, Died}}}}
use Rattle.shm_graph.specs.declared.{memo.Kind.TheVariants.{Client, Recoverer}, run.LoggedLine.LoggedLine}
use Rattle.shm_graph.specs.Runs.{is_dead}
use Rattle.shm_queue.specs.Drain.Control.{drain_line}
use Rattle.shm_recover.specs.{Join.join_line, Leave.Control.leave_line, Recover.Control.recover_line}
use Rattle.shm_script.specs.{declared.{line.Line.Line, log.{Answer.Answer, Entry.Entry}}, Text.line_spelled}
use Rattle.shm_script.specs.Values.{Scripted}
use Rattle.shm_agents.specs.{Logs.{IsEntry, effect_along}, Turns.lives_of}

-- ---- agents, and what each of them began

-- what the client of these commands begins, in order
abbrev pub client_lines : List Line → List (List ℕ)
client_lines lines = join_line ∷ map line_spelled lines ++ leave_line ∷ []

-- an agent with a life of n word steps made all of them and died, or ended with at most n
abbrev pub HasLived : ℕ → Agent → Type 0
HasLived n a = ((a.fate ≡ Died) × (a.steps ≡ n)) ⊎ ((a.fate ≡ Ended) × (a.steps ≤ n))

-- the client of these commands began all its lines where it ended, and a front of them where it died
abbrev pub HasBegun : List Line → Fate → List (List ℕ) → Type 0
HasBegun lines Ended b = b ≡ client_lines lines
HasBegun lines fate b = b ≡ take (length b) (client_lines lines)

-- recoverers with these lives, one after the other, each of which began its recovery and nothing else, behind an agent that died, as `died` says of the first one. In the end `dead` tells whether the last agent died; where it did, the lives are spent
abbrev pub AreRecoverers : Bool → List ℕ → List Agent → List (List (List ℕ)) → Bool → Type 0
AreRecoverers false lives [] [] dead = dead ≡ false
AreRecoverers true [] [] [] dead = dead ≡ true
AreRecoverers true (n ∷ lives) (a ∷ agents) (b ∷ begun) dead = (a.kind ≡ Recoverer) × HasLived n a × (b ≡ recover_line ∷ []) × AreRecoverers (is_dead a.fate) lives agents begun dead
AreRecoverers died lives agents begun dead = ⊥

-- a client of these commands with the first of the lives, and recoverers with the further ones
abbrev pub AreAgents : List Line → List ℕ → List Agent → List (List (List ℕ)) → Bool → Type 0
AreAgents lines (n ∷ lives) (a ∷ agents) (b ∷ begun) dead = (a.kind ≡ Client) × HasLived n a × HasBegun lines a.fate b × AreRecoverers (is_dead a.fate) lives agents begun dead
AreAgents lines lives agents begun dead = ⊥

-- the agents of a script with the lines that each of them began: one that ended is the last one, `dead` tells whether the last one died, and where it did no other one comes
abbrev pub AreScriptAgents : Scripted → List Agent → List (List (List ℕ)) → Bool → Type 0
AreScriptAgents s = AreAgents s.lines (lives_of s.life)

-- ---- what was told

-- the line is no command's
abbrev pub IsAside : List ℕ → Type 0
IsAside line = (line ≡ join_line) ⊎ ((line ≡ leave_line) ⊎ ((line ≡ drain_line) ⊎ (line ≡ recover_line)))

-- a command that was cut, and what its trail shows of its answer
pub record IsCut (me : Me) (x : LoggedLine) (line : Line) (shown : Option Answer) : Type 0 where
  pub text : x.line ≡ line_spelled line
  pub cut : x.finished ≡ false
  pub shows : effect_along me line x.trail ≡ shown

-- it is an entry: a finished command with the answer of its trail, or one that was cut with the answer that its trail shows
abbrev pub TellsEntry : Me → LoggedLine → Entry → Type 0
TellsEntry me x e = IsEntry me x e ⊎ IsCut me x e.line (Some e.answer)

-- it is none: no command, or one that was cut without effect
abbrev pub TellsNone : Me → LoggedLine → Type 0
TellsNone me x = IsAside x.line ⊎ ((line : Line) × IsCut me x line None)

-- these entries are the commands that were told, one by one and in order, and no other command was told but those that were cut without effect
abbrev pub AreCommandsTold : Me → List LoggedLine → List Entry → Type 0
AreCommandsTold me [] es = es ≡ []
AreCommandsTold me (x ∷ told) [] = TellsNone me x × AreCommandsTold me told []
AreCommandsTold me (x ∷ told) (e ∷ es) = (TellsNone me x × AreCommandsTold me told (e ∷ es)) ⊎ (TellsEntry me x e × AreCommandsTold me told es)
