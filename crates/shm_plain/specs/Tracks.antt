-- what the seat of a pool knows, and how a turn changes it
use Rattle.std.specs.Prelude.{ℕ, List, [], ◌∷◌, ◌++◌, if◌then◌else◌}
use Rattle.shm_graph.specs.declared.memo.{Kind.{Kind, TheVariants.{Client, Recoverer}}, Memo.Memo, Step.Step}
use Rattle.shm_graph.specs.declared.run.{Start.Start, Account.Account, Move.{Move, TheVariants.{Word, Dies, Begins}}}
use Rattle.shm_graph.specs.Agents.{acts, last_agent}
use Rattle.shm_graph.specs.Runs.{accounts_from, accounts_after, account_died, account_entered, changed, fell_by, memos_of}
use Rattle.shm_plain.specs.declared.track.Track.{Track}

-- the first accounts, and no turn
abbrev pub first_track : Start → Track
first_track s = record { accounts = accounts_from s 0 s.geometry.clients; turns = [] }

-- who begins where no agent acts: a recoverer after a death, and otherwise a client
abbrev pub kind_next : Memo → Kind
kind_next m = if fell_by (last_agent m.agents) then Recoverer else Client

-- an identity of which no agent acts begins one before its next word step
abbrev pub ready_accounts : List Account → ℕ → List Account
ready_accounts es c = if acts (memos_of es c) then es else changed (account_entered (kind_next (memos_of es c))) es c

abbrev pub ready_turns : List Account → List Move → ℕ → List Move
ready_turns es ts c = if acts (memos_of es c) then ts else ts ++ Begins c (kind_next (memos_of es c)) ∷ []

-- the step of c is one more turn, and changes the account of c
abbrev pub noted_at : ℕ → Step → Track → Track
noted_at c t k = record { accounts = accounts_after (ready_accounts k.accounts c) t; turns = ready_turns k.accounts k.turns c ++ Word t ∷ [] }

abbrev pub noted : Step → Track → Track
noted t k = noted_at t.me.who t k

-- an acting agent of c dies
abbrev pub fall_accounts : List Account → ℕ → List Account
fall_accounts es c = if acts (memos_of es c) then changed account_died es c else es

abbrev pub fall_turns : List Account → List Move → ℕ → List Move
fall_turns es ts c = if acts (memos_of es c) then ts ++ Dies c ∷ [] else ts

abbrev pub fallen : ℕ → Track → Track
fallen c k = record { accounts = fall_accounts k.accounts c; turns = fall_turns k.accounts k.turns c }
