-- the identities of a trace under a limit, each of which is polled so many times at most, and then cut, and recovered
use Rattle.std.specs.Prelude.{◌≡◌, ℕ, ◌+◌, ◌*◌, ◌-◌, ◌^◌, ◌<◌, ◌≤◌, ◌⊎◌, true, false, Option, Some, None, Result, Ok, Err, List, length, slice_index_or}
use Rattle.shm_graph.specs.{declared.run.Account.Account, Agents.acts, Held.is_loose, Runs.account_died}
use Rattle.shm_agents.specs.{Agents.IsFold, Logs.AreUnspent, Turns.script_in, TurnsLeft.turns_given}
use Rattle.shm_pool.specs.{declared.token.Stopped.Stopped, Rescues.Rescuing, Tokens.{Its, Token}}
use Rattle.shm_script.specs.{Logged.Logged, Values.{Scripted, Traced}}
use Rattle.shm_team.specs.declared.{done.Done.Done, jobs.Job.Job, left.Left.{Left, TheVariants.{Vacant, Corpse}}}
use Rattle.shm_team.specs.{Dones.IsDoneBy, Jobs.IsJob, Lefts.{IsGivenBack, account_in}}
use Rattle.shm_async.specs.declared.limited.{Cut.Cut, LimitedMember.LimitedMember}
use Rattle.shm_async.specs.declared.limited.LimitedMember.TheVariants.{Works, Recovers, Finished}
use Rattle.shm_async.specs.{declared.limits.LimitedMembers.LimitedMembers, Cancelled.IsCutLog, Limited.IsCutTo}
use Rattle.shm_async.specs.{Each.EachFrom, Members.MemberAtWork, Polled.Course, Rescued.{HasStepped, rescuing_first}}

-- the own era of an identity has room for so many turns more, and for a recovery behind them
abbrev pub HasRoom : Its → ℕ → Type 0
HasRoom p turns = p.start.first_era + turns ≤ 2 ^ 46

-- the agents of the script of the identity c have so many polls left, with which they come to so many turns
pub record IsDue (t : Traced) (p : Its) (c turns left : ℕ) (f : Course) : Type 0 where
  pub work : MemberAtWork t p c f
  pub quota : 1 ≤ f.quota
  pub some : 0 < left
  pub due : turns_given work.site.post.account + f.quota * left ≡ turns
  pub room : HasRoom p turns

-- they have had so many turns, and one of them is left
pub record IsSpent (t : Traced) (p : Its) (c turns : ℕ) (f : Course) : Type 0 where
  pub work : MemberAtWork t p c f
  pub all : turns_given work.site.post.account ≡ turns
  pub some : 0 < turns
  pub room : HasRoom p turns

-- they were pending at the first of so many polls: others are left, or they have had all their turns
pub record IsPending (t : Traced) (p : Its) (c turns left : ℕ) (f : Course) : Type 0 where
  pub due : 1 < left → IsDue t p c turns (left - 1) f
  pub spent : left ≤ 1 → IsSpent t p c turns f

-- The identity c was cut after so many turns, and k is the corpse that this left. The log l of its client fits its script at that cut
pub record WasCut (t : Traced) (p : Its) (c turns : ℕ) (l : Logged) (k : Token) : Type 0 where
  pub script : Scripted
  pub is : script_in t.scripts c ≡ Some script
  pub of : k.of ≡ p
  pub acts : acts k.account.memo ≡ true
  pub who : k.account.who ≡ c
  pub log : IsCutLog p script turns (account_died k.account) l
  pub unspent : AreUnspent l.entries
  pub fold : IsFold l.entries (account_died k.account).memo
  pub table : is_loose (account_died k.account).memo.part ≡ false

-- it is recovered behind that corpse, with a life of 2^40 word steps
pub record IsMending (t : Traced) (p : Its) (c turns : ℕ) (k : Cut) : Type 0 where
  pub corpse : Token
  pub cut : WasCut t p c turns k.log corpse
  pub rescuer : Rescuing
  pub is : k.recovery.rescuer ≡ Some rescuer
  pub quota : 1 ≤ k.recovery.quota
  pub steps : ℕ
  pub stepped : HasStepped false steps (rescuing_first corpse) rescuer (record { left = 2 ^ 40 }) k.recovery.life
  pub room : HasRoom p turns

-- the script r of an identity that has the script s, whose agents were given at most so many turns, or were cut after them
abbrev pub LimitedBy : ℕ → Account → Option Scripted → Option Scripted → Type 0
LimitedBy turns e None r = r ≡ None
LimitedBy turns e (Some s) None = ⊥
LimitedBy turns e (Some s) (Some r) = ((r ≡ s) × (turns_given e ≤ turns)) ⊎ IsCutTo turns s r

-- all is done of the identity c, whose script is what it is under the limit
pub record IsLimitedDone (t : Traced) (p : Its) (c turns : ℕ) (d : Done) : Type 0 where
  pub left : IsGivenBack p d.left
  pub who : (account_in d.left).who ≡ c
  pub script : Option Scripted
  pub limited : LimitedBy turns (account_in d.left) (script_in t.scripts c) script
  pub by : IsDoneBy script p c d.log d.left

abbrev pub IsLimitedMember : {A : Type 0} → Traced → Its → ℕ → ℕ → ℕ → LimitedMember A → Type 0
IsLimitedMember t p c turns left (Works f) = IsDue t p c turns left f
IsLimitedMember t p c turns left (Recovers k) = IsMending t p c turns k
IsLimitedMember t p c turns left (Finished d) = IsLimitedDone t p c turns d

-- none of them is out
abbrev pub IsLimitedHere : {A : Type 0} → Traced → Its → ℕ → ℕ → ℕ → Option (LimitedMember A) → Type 0
IsLimitedHere t p c turns left None = ⊥
IsLimitedHere t p c turns left (Some m) = IsLimitedMember t p c turns left m

-- the token that is left by what a recovery gave
abbrev pub left_of : Result Token Stopped → Left
left_of (Ok t) = Vacant t
left_of (Err s) = Corpse s.corpse

-- identities that are all here, by number
abbrev pub AreLimitedHere : {A : Type 0} → Traced → Its → ℕ → ℕ → List (Option (LimitedMember A)) → Type 0
AreLimitedHere t p turns left ms = (c : ℕ) → c < length ms → IsLimitedHere t p c turns left (slice_index_or ms c None)

-- how many polls it takes at most, where its agents have so many left
abbrev pub polls_left : {A : Type 0} → ℕ → LimitedMember A → ℕ
polls_left left (Works f) = left + 2 ^ 40 + 1
polls_left left (Recovers k) = k.recovery.life.left + 1
polls_left left (Finished d) = 0

-- all identities of the trace, by number
pub record AreLimited {A : Type 0} (t : Traced) (p : Its) (turns : ℕ) (x : LimitedMembers A) : Type 0 where
  pub pool : x.pool.now ≡ p
  pub quota : 1 ≤ x.q
  pub many : length x.members.items ≡ t.clients
  pub here : AreLimitedHere t p turns x.left x.members.items

-- the job of the identity c, whose own era has room for so many polls of q turns
pub record MayStart {A : Type 0} (t : Traced) (p : Its) (q limit c : ℕ) (j : Job A) : Type 0 where
  pub turns : 1 ≤ q
  pub polls : 1 ≤ limit
  pub room : HasRoom p (q * limit)
  pub who : j.token.account.who ≡ c
  pub job : IsJob t p c j

-- all is done of the identities from c on, in order
abbrev pub AreLimitedDones : Traced → Its → ℕ → ℕ → List Done → Type 0
AreLimitedDones t p c turns ds = EachFrom (λ (k : ℕ) (d : Done). IsLimitedDone t p k turns d) c ds
