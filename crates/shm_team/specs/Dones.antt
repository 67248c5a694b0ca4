-- what is done of the identities of a trace, whoever did it
use Rattle.std.specs.Prelude.{◌≡◌, ℕ, suc, false, Option, Some, None, List, [], ◌∷◌, ◌++◌, slice_index, slice_index_or}
use Rattle.shm_graph.specs.{declared.memo.Status.TheVariants.Gone, Held.is_loose, Runs.{first_account, told_left}}
use Rattle.shm_count.specs.Roots.{member}
use Rattle.shm_agents.specs.{Agents.IsFold, Courses.{AreCommandsTold, AreScriptAgents}, Logs.{AreUnspent, IsLogOf}}
use Rattle.shm_agents.specs.{Taken.HasTaken, Turns.{lives_of, script_in}}
use Rattle.shm_pool.specs.Tokens.{Its, token_first}
use Rattle.shm_script.specs.{Logged.Logged, Values.{Scripted, Traced}}
use Rattle.shm_team.specs.declared.{done.Done.Done, left.Left.{Left, TheVariants.Vacant}}
use Rattle.shm_team.specs.Lefts.{IsGivenBack, account_in, is_corpse}

-- The agents of the script s have nothing left to do in the pool p. The log is that of its client, by what is told of the identity; the agents are those of the script, and where the last one died the token is a corpse; no other command was told, and none was refused for a spent era; the identity's map is the fold of the log; where the token is vacant the identity is gone; and all its turns are those of the script's agents
pub record IsFinished (p : Its) (s : Scripted) (l : Logged) (k : Left) : Type 0 where
  pub token : IsGivenBack p k
  pub who : (account_in k).who ≡ s.client
  pub log : IsLogOf (member p.start.geometry s.client) s (slice_index (lives_of s.life) 0) (account_in k).memo.agents (account_in k).begun (told_left (is_corpse k) (account_in k)) l
  pub agents : AreScriptAgents s (account_in k).memo.agents (account_in k).begun (is_corpse k)
  pub only : AreCommandsTold (member p.start.geometry s.client) (told_left (is_corpse k) (account_in k)) l.entries
  pub unspent : AreUnspent l.entries
  pub fold : IsFold l.entries (account_in k).memo
  pub table : is_loose (account_in k).memo.part ≡ false
  pub gone : is_corpse k ≡ false → (account_in k).memo.status ≡ Gone
  pub taken : HasTaken (member p.start.geometry s.client) s.lines (first_account p.start s.client) (account_in k)

-- the log and the token of an identity that has this script; where it has none there is no log, and nobody has joined it
abbrev pub IsDoneBy : Option Scripted → Its → ℕ → Option Logged → Left → Type 0
IsDoneBy None p c l k = (l ≡ None) × (k ≡ Vacant (token_first p c))
IsDoneBy (Some s) p c l k = (x : Logged) × (l ≡ Some x) × IsFinished p s x k

-- all is done of the identity c that its script gives, if it has one
pub record IsDone (t : Traced) (p : Its) (c : ℕ) (d : Done) : Type 0 where
  pub left : IsGivenBack p d.left
  pub who : (account_in d.left).who ≡ c
  pub by : IsDoneBy (script_in t.scripts c) p c d.log d.left

-- of each identity from c on, in order
abbrev pub AreDones : Traced → Its → ℕ → List Done → Type 0
AreDones t p c [] = Unit {0}
AreDones t p c (d ∷ ds) = IsDone t p c d × AreDones t p (suc c) ds

-- the tokens of the identities from c on, in order
abbrev pub AreGivenBack : Its → ℕ → List Done → Type 0
AreGivenBack p c [] = Unit {0}
AreGivenBack p c (d ∷ ds) = IsGivenBack p d.left × ((account_in d.left).who ≡ c) × AreGivenBack p (suc c) ds

-- ---- logs

abbrev pub logs_done : List Done → List (Option Logged)
logs_done [] = []
logs_done (d ∷ ds) = d.log ∷ logs_done ds

abbrev pub log_of : Option Logged → List Logged
log_of None = []
log_of (Some l) = l ∷ []

-- of the logs of the identities those of the scripts' clients, in the order of the scripts
abbrev pub logs_in : List Scripted → List (Option Logged) → List Logged
logs_in [] ls = []
logs_in (s ∷ ss) ls = log_of (slice_index_or ls s.client None) ++ logs_in ss ls
