-- what is given where the agents of a script are given up
use Rattle.std.specs.Prelude.{◌≡◌, ℕ, ◌<◌, Bool, true, false, Option, Some, None, List, []}
use Rattle.shm_graph.specs.{declared.run.Account.Account, Agents.steps_made, Held.is_loose}
use Rattle.shm_graph.specs.Runs.{first_account, told_left}
use Rattle.shm_count.specs.Roots.{member}
use Rattle.shm_script.specs.{declared.log.End.TheVariants.Died, Logged.Logged, Values.Scripted}
use Rattle.shm_agents.specs.{Agents.IsFold, Courses.{AreAgents, AreCommandsTold}, Cuts.{AreCut, account_cut}}
use Rattle.shm_agents.specs.{Logs.{AreUnspent, IsLogOf, steps_first}, Taken.HasTaken, Turns.lives_of}
use Rattle.shm_agents.specs.TurnsLeft.{turns_given}
use Rattle.shm_pool.specs.Tokens.{Its}
use Rattle.shm_team.specs.{declared.done.Finish.Finish, Lefts.{IsGivenBack, account_in, is_corpse}}
use Rattle.shm_async.specs.{Limited.AreGiven, Polled.AtPost}

-- The log of a client that was cut after so many turns, by what is accounted for of the identity: where it had ended or died before the cut it is what it was, and otherwise it died after the word steps that it had made; all its turns are those of the script's agents
pub record IsCutLog (p : Its) (s : Scripted) (turns : ℕ) (e : Account) (l : Logged) : Type 0 where
  pub log : IsLogOf (member p.start.geometry s.client) s (steps_first e.memo.agents) e.memo.agents e.begun (told_left true e) l
  pub only : AreCommandsTold (member p.start.geometry s.client) (told_left true e) l.entries
  pub lives : List ℕ
  pub cut : AreCut (lives_of s.life) lives
  pub agents : AreAgents s.lines lives e.memo.agents e.begun true
  pub given : AreGiven (lives_of s.life) lives turns
  pub taken : HasTaken (member p.start.geometry s.client) s.lines (first_account p.start s.client) e

-- and where nobody had begun
abbrev pub LogFits : Bool → Its → Scripted → ℕ → Account → Logged → Type 0
LogFits true p s turns e l = IsCutLog p s turns e l
LogFits false p s turns e l = (turns ≡ 0) × (l ≡ record { client = s.client; entries = []; end = Died 0 false })

-- whether agents that have made so many word steps leave a corpse
abbrev pub IsCorpseBy : ℕ → Bool → Type 0
IsCorpseBy n true = 0 < n
IsCorpseBy n false = n ≡ 0

-- The agents of the script s were given up in the pool p, where e was accounted for of them. No word step was made: the agent that acted is dead, and nothing else has changed. The token is a corpse where a word step had been made. The log fits the script at that cut, by the turns that were given, none of its commands was refused for a spent era, and the identity's map is its fold
pub record HasCancelled (p : Its) (s : Scripted) (e : Account) (x : Finish) : Type 0 where
  pub token : IsGivenBack p x.token
  pub account : account_in x.token ≡ account_cut e
  pub who : e.who ≡ s.client
  pub corpse : IsCorpseBy (steps_made e.memo) (is_corpse x.token)
  pub log : LogFits (is_corpse x.token) p s (turns_given e) (account_cut e) x.log
  pub unspent : AreUnspent x.log.entries
  pub fold : IsFold x.log.entries (account_cut e).memo
  pub table : is_loose (account_cut e).memo.part ≡ false

-- none where a poll was ready
abbrev pub IsCancelled : Scripted → Option AtPost → Option Finish → Type 0
IsCancelled s None r = r ≡ None
IsCancelled s (Some w) r = (x : Finish) × (r ≡ Some x) × HasCancelled w.post.of s w.post.account x
