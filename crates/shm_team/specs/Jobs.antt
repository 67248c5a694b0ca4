-- what workers begin with, and what they leave
use Rattle.std.specs.Prelude.{◌≡◌, ℕ, suc, ◌<◌, Option, Some, None, List, [], ◌∷◌, length, slice_get, slice_index_or}
use Rattle.shm_graph.specs.{declared.run.{Account.Account, Start.Start}, Runs.first_account}
use Rattle.shm_count.specs.Roots.{member}
use Rattle.shm_agents.specs.{Agents.{Playing, AgentsStand}, Turns.script_in}
use Rattle.shm_pool.specs.Tokens.{Its, Token}
use Rattle.shm_script.specs.Values.{Scripted, Traced}
use Rattle.shm_team.specs.{declared.{done.Done.Done, jobs.Job.Job}, Dones.IsDone}

-- x are the agents of the identity c, which has a script, and stand where e is accounted for of it
pub record AreAgentsOf (t : Traced) (start : Start) (c : ℕ) (e : Account) (x : Playing) : Type 0 where
  pub me : x.me ≡ member start.geometry c
  pub script : Scripted
  pub is : script_in t.scripts c ≡ Some script
  pub at : slice_get t.scripts x.script ≡ Some script
  pub stands : AgentsStand start script x e

-- none where c has no script: then nobody has joined it
abbrev pub MayHaveAgents : Traced → Start → ℕ → Account → Option Playing → Type 0
MayHaveAgents t start c e None = (script_in t.scripts c ≡ None) × (e ≡ first_account start c)
MayHaveAgents t start c e (Some x) = AreAgentsOf t start c e x

-- the job of the identity c: the first token of it, and its agents before their first word step
pub record IsJob {A : Type 0} (t : Traced) (p : Its) (c : ℕ) (j : Job A) : Type 0 where
  pub of : j.token.of ≡ p
  pub first : j.token.account ≡ first_account p.start c
  pub agents : MayHaveAgents t p.start c j.token.account j.agents

-- the jobs of the identities from c on, in order
abbrev pub AreJobs : {A : Type 0} → Traced → Its → ℕ → List (Job A) → Type 0
AreJobs t p c [] = Unit {0}
AreJobs t p c (j ∷ js) = (j.token.account.who ≡ c) × IsJob t p c j × AreJobs t p (suc c) js

-- they are done, in order
pub record AreDone {A : Type 0} (t : Traced) (p : Its) (js : List (Job A)) (ds : List Done) : Type 0 where
  pub many : length ds ≡ length js
  pub each : (i : ℕ) (j : Job A) (d : Done) → i < length js → IsDone t p (slice_index_or js i j).token.account.who (slice_index_or ds i d)

-- the tokens of all identities of the pool, in order
pub record AreTokens (p : Its) (ts : List Token) : Type 0 where
  pub many : length ts ≡ p.start.geometry.clients
  pub of : (i : ℕ) (t : Token) → i < length ts → (slice_index_or ts i t).of ≡ p
  pub who : (i : ℕ) (t : Token) → i < length ts → (slice_index_or ts i t).account.who ≡ i
