-- the dead of a script, and what is left where they are recovered
use Rattle.std.specs.Prelude.{◌≡◌, ◌≢◌, ℕ, ◌⊎◌, if◌then◌else◌, Some, false, true, take, slice_index}
use Rattle.shm_graph.specs.{declared.run.Account.Account, Agents.acts, Held.is_loose}
use Rattle.shm_graph.specs.Runs.{account_died, first_account, told_left}
use Rattle.shm_count.specs.Roots.{member}
use Rattle.shm_agents.specs.{declared.agents.Standing.TheVariants.AtWork, Agents.{IsFallen, IsFold, IsSettled, Playing}}
use Rattle.shm_agents.specs.{Courses.{AreAgents, AreCommandsTold}, Logs.{AreUnspent, IsLogOf}, Taken.HasTaken}
use Rattle.shm_agents.specs.Turns.{lives_of, script_in}
use Rattle.shm_pool.specs.{Rescues.Rescuing, Tokens.{Its, Token}}
use Rattle.shm_script.specs.{Logged.Logged, Ranges.ScriptFits, Values.{Scripted, Traced}}
use Rattle.shm_team.specs.{declared.left.Left.{Left, TheVariants.{Vacant, Corpse}}, Dones.IsFinished}

-- none of the agents of the script s has anything left to do; or the client died, and nobody began behind it
abbrev pub HasParted : Scripted → Playing → Account → Type 0
HasParted s x e = (x.standing ≢ AtWork) ⊎ ((x.agent ≡ 1) × IsFallen s x e × IsSettled s x e (told_left true e))

-- The first n agents of the script s died in the pool p, each after the word steps of its life, and the token is the corpse of the last one. The log is that of the script's client, by what is told of the identity; no other command was told, and none was refused for a spent era; the identity's map is the fold of the log; and all its turns, the death of the last one too, are those of the script's agents
pub record AreDead (p : Its) (s : Scripted) (n : ℕ) (l : Logged) (t : Token) : Type 0 where
  pub fits : ScriptFits p.start.geometry.clients s
  pub of : t.of ≡ p
  pub who : t.account.who ≡ s.client
  pub acts : acts t.account.memo ≡ true
  pub died : AreAgents s.lines (take n (lives_of s.life)) (account_died t.account).memo.agents t.account.begun true
  pub log : IsLogOf (member p.start.geometry s.client) s (slice_index (lives_of s.life) 0) (account_died t.account).memo.agents t.account.begun (told_left true t.account) l
  pub only : AreCommandsTold (member p.start.geometry s.client) (told_left true t.account) l.entries
  pub unspent : AreUnspent l.entries
  pub fold : IsFold l.entries t.account.memo
  pub table : is_loose t.account.memo.part ≡ false
  pub taken : HasTaken (member p.start.geometry s.client) s.lines (first_account p.start s.client) (account_died t.account)

-- the next agent of the script, behind n others, has nothing left to do; or it died too
abbrev pub IsNext : Its → Scripted → ℕ → Logged → Left → Type 0
IsNext p s n l (Vacant t) = IsFinished p s l (Vacant t)
IsNext p s n l (Corpse t) = AreDead p s n l t

-- where the token was the corpse of a client with a script, all is done of the identity that the script gives
abbrev pub IsRescue : Traced → Its → Token → Left → Type 0
IsRescue t p c k = (s : Scripted) (l : Logged) → script_in t.scripts c.account.who ≡ Some s → AreDead p s 1 l c → IsFinished p s l k

-- the token of a recovery: vacant where it has answered Ok
abbrev pub left_by : Rescuing → Left
left_by r = if r.done then Vacant (record { of = r.of; account = r.seat }) else Corpse (record { of = r.of; account = r.seat })
