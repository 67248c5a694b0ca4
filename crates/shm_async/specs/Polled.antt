-- the agents of an identity that are polled, and what a poll leaves
use Rattle.std.specs.Prelude.{◌≡◌, ℕ, ◌+◌, ◌<◌, ◌≤◌, Option, Some, None, MatchOption}
use Rattle.futures.specs.declared.task.Poll.{Poll, TheVariants.{Ready, Pending}}
use Rattle.shm_agents.specs.{declared.agents.Standing.TheVariants.AtWork, Agents.{Playing, AgentsStand}}
use Rattle.shm_agents.specs.TurnsLeft.{turns_by, turns_given}
use Rattle.shm_pool.specs.{Posts.IsPosted, Tokens.Token}
use Rattle.shm_script.specs.Values.{Scripted}
use Rattle.shm_team.specs.{declared.done.Finish.Finish, Lefts.account_in}
use Rattle.shm_async.specs.Finished.{HasFinished}

-- agents at their post
pub record AtPost : Type 0 where
  pub agents : Playing
  pub post : Token

-- what contracts see of a future: the script, how many turns each poll gives, and the agents at their post, none once a poll was ready
pub record Course : Type 0 where
  pub script : Scripted
  pub quota : ℕ
  pub site : Option AtPost

abbrev pub course_of : Scripted → ℕ → Option AtPost → Course
course_of s q w = record { script = s; quota = q; site = w }

-- the agents of this script stand at their post
pub record StandAt (s : Scripted) (w : AtPost) : Type 0 where
  pub posted : IsPosted w.post w.agents.me.who
  pub stands : AgentsStand w.post.of.start s w.agents w.post.account

-- and one of them is left
abbrev pub AreLeft : Scripted → Option AtPost → Type 0
AreLeft s None = Unit {0}
AreLeft s (Some w) = StandAt s w × (w.agents.standing ≡ AtWork)

abbrev pub IsCourse : Course → Type 0
IsCourse f = (1 ≤ f.quota) × AreLeft f.script f.site

-- what a poll has given: nothing where it is pending
abbrev pub given_by : {A : Type 0} → Poll A → Option A
given_by (Ready x) = Some x
given_by Pending = None

-- what it may give: nothing once a poll was ready
abbrev pub MayGive : Course → Finish → Type 0
MayGive f x = MatchOption f.site ⊥ (λ w. HasFinished w.post.of f.script x)

-- the agents of the script are at the post of this token, before their first turn
pub record IsNew (t : Token) (s : Scripted) (q : ℕ) (f : Course) : Type 0 where
  pub script : f.script ≡ s
  pub quota : f.quota ≡ q
  pub agents : Playing
  pub site : f.site ≡ Some (record { agents = agents; post = t })

-- v are the agents w after some turns, at the same post
pub record WentOn (w v : AtPost) : Type 0 where
  pub of : v.post.of ≡ w.post.of
  pub who : v.post.account.who ≡ w.post.account.who
  pub me : v.agents.me ≡ w.agents.me

-- v are the agents w of the script after some turns, q at most, and fewer only where none of them is left
pub record HasGiven (q : ℕ) (s : Scripted) (w v : AtPost) : Type 0 where
  pub went : WentOn w v
  pub stand : StandAt s v
  pub turns : ℕ
  pub some : 0 < turns
  pub few : turns ≤ q
  pub all : v.agents.standing ≡ AtWork → turns ≡ q
  pub given : turns_given v.post.account ≡ turns_given w.post.account + turns
  pub less : turns_by v.agents (Some s) < turns_by w.agents (Some s)

-- A poll of q turns. Where an earlier one was ready nothing is given and nothing changes. It is pending where an agent is left after q turns, each of them a word step or a death, and fewer are left at most. Otherwise it is ready, after at most q of them
abbrev pub HasTurned : ℕ → Scripted → Option AtPost → Option Finish → Option AtPost → Type 0
HasTurned q s None r b = (r ≡ None) × (b ≡ None)
HasTurned q s (Some w) None b = (v : AtPost) × (b ≡ Some v) × WentOn w v × (turns_given v.post.account ≡ turns_given w.post.account + q) × (turns_by v.agents (Some s) < turns_by w.agents (Some s))
HasTurned q s (Some w) (Some x) b = (b ≡ None) × HasFinished w.post.of s x × ((n : ℕ) × (0 < n) × (n ≤ q) × (turns_given (account_in x.token) ≡ turns_given w.post.account + n))

pub record IsPolled (f : Course) (r : Option Finish) (g : Course) : Type 0 where
  pub script : g.script ≡ f.script
  pub quota : g.quota ≡ f.quota
  pub turned : HasTurned f.quota f.script f.site r g.site
