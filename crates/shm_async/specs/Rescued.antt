-- the recovery of an identity that is polled, and what a poll of it leaves
use Rattle.std.specs.Prelude.{◌≡◌, ℕ, ◌+◌, ◌-◌, ◌^◌, ◌<◌, ◌≤◌, ◌⊎◌, Bool, true, false, Option, Some, None, MatchOption, IfOk, Result, Ok, Err, List, ◌++◌}
use Rattle.plans.specs.{CallsControl.calls_of, CallsFit.{CallsFits, CallsGives}}
use Rattle.shm_graph.specs.declared.{ask.Life.Life, memo.{Memo.Memo, Status.TheVariants.Gone, Step.Step}}
use Rattle.shm_graph.specs.{declared.{run.Account.Account, spot.Spot.TheVariants.Era}, Agents.steps_made}
use Rattle.shm_graph.specs.{Views.own_word, Whole.{fits_now, gives_now}}
use Rattle.shm_pool.specs.{declared.token.{Cause.Cause, Stopped.Stopped}, Calls.{CallSteps, IsDriven, Ongoing, shown}}
use Rattle.shm_pool.specs.{Endings.spent, Rescues.{RecoverMachine, Rescuing, account_of}, Tokens.{Its, Token, me_of}}
use Rattle.shm_pool.specs.declared.token.Cause.TheVariants as cause
use Rattle.shm_recover.specs.{Machines.Recovering.recover, Recover.Control.{recover_parts, recovering, recover_steered}}
use Rattle.shm_recover.specs.Recover.{recover_plan}
use Rattle.shm_replay.specs.Closings.{SameTable}
use Rattle.shm_async.specs.declared.recovery.Over.{Over, TheVariants.{Recovered, Stopped as StoppedBy}}

-- what contracts see of it: its pool, how many turns each poll gives, what is left of the recoverer's life, and the identity that is recovered, none once a poll was ready
pub record Rescue : Type 0 where
  pub pool : Its
  pub quota : ℕ
  pub life : Life
  pub rescuer : Option Rescuing

abbrev pub rescue_of : Its → ℕ → Life → Option Rescuing → Rescue
rescue_of p q life r = record { pool = p; quota = q; life = life; rescuer = r }

-- the recoverer's account
abbrev pub account_by : Rescuing → Account
account_by r = account_of r.begun r.seat

-- the recovery goes on in this pool
pub record GoesOn (p : Its) (r : Rescuing) : Type 0 where
  pub of : r.of ≡ p
  pub undone : r.done ≡ false
  pub going : recover.finished r.machine ≡ false
  pub me : recover.me r.machine ≡ me_of r.of r.seat
  pub start : Memo
  pub fits : fits_now recover (CallsFits recover_parts recover_plan) r.machine start (account_by r).memo

abbrev pub MayGoOn : Its → Option Rescuing → Type 0
MayGoOn p None = Unit {0}
MayGoOn p (Some r) = GoesOn p r

abbrev pub IsRescue : Rescue → Type 0
IsRescue f = (1 ≤ f.quota) × MayGoOn f.pool f.rescuer

-- a recovery of the corpse t before its first word step
abbrev pub rescuing_first : Token → Rescuing
rescuing_first t = record { of = t.of; seat = t.account; begun = false; machine = calls_of recover_steered (recovering (me_of t.of t.account)); done = false }

-- it is that of the corpse t, with a life of n word steps, before the first of them
pub record IsStarted (t : Token) (q n : ℕ) (f : Rescue) : Type 0 where
  pub pool : f.pool ≡ t.of
  pub quota : f.quota ≡ q
  pub life : f.life.left ≡ n
  pub rescuer : f.rescuer ≡ Some (rescuing_first t)

-- the steps of the recoverer that took u to v are those of its one call, which goes on, or is `over` with the last of them
abbrev pub CallsOn : Bool → Rescuing → Rescuing → ℕ → ℕ → Type 0
CallsOn false u v before left = Ongoing (shown recover u.machine) (account_by u) (shown recover v.machine) (account_by v) before left
CallsOn true u v before left = CallSteps (shown recover u.machine) (account_by u) (account_by v) true before left

-- these steps
abbrev pub made_steps : (over : Bool) (u v : Rescuing) (before left : ℕ) → CallsOn over u v before left → List Step
made_steps false u v before left c = c.steps
made_steps true u v before left c = c.steps ++ c.last

-- v is the recovery u after n word steps, with the last of which its machine has answered where it is `over`: each was one turn that the machine asked for, with the event that it tells; the map of the identity's table is what it was
pub record HasStepped (over : Bool) (n : ℕ) (u v : Rescuing) (before left : Life) : Type 0 where
  pub of : v.of ≡ u.of
  pub who : v.seat.who ≡ u.seat.who
  pub life : before.left ≡ left.left + n
  pub steps : steps_made (account_by v).memo ≡ steps_made (account_by u).memo + n
  pub begun : (u.begun ≡ true) ⊎ (0 < n) → v.begun ≡ true
  pub call : CallsOn over u v before.left left.left
  pub driven : IsDriven recover (CallsFits recover_parts recover_plan) u.machine v.machine (account_by u) (account_by v) (made_steps over u v before.left left.left call)
  pub table : SameTable (account_by u).memo (account_by v).memo

-- the machine answered that the own era left no room: it read n, which is above 2^47 - 3, and the identity's own era is that at least
pub record HasSpent (e : Account) (n : ℕ) : Type 0 where
  pub machine : RecoverMachine
  pub start : Memo
  pub gave : gives_now (CallsGives recover_parts recover_plan) machine start e.memo (Err (spent n))
  pub high : 2 ^ 47 - 3 < n
  pub own : n ≤ own_word e.memo.own (Era e.who e.who)

-- why the recovery v stopped, after n of q turns at most: the last of them was the death of a recoverer with no word step left; or its machine answered
abbrev pub StopsBy : Cause → ℕ → ℕ → Rescuing → Life → Type 0
StopsBy cause.Died q n v left = (n < q) × (left.left ≡ 0)
StopsBy (cause.EraSpent era) q n v left = (n ≤ q) × HasSpent v.seat era

-- whether its machine had answered
abbrev pub is_answer : Cause → Bool
is_answer cause.Died = false
is_answer (cause.EraSpent era) = true

-- whether it has ended so
abbrev pub is_recovered : Over → Bool
is_recovered Recovered = true
is_recovered (StoppedBy c) = false

-- whether its machine has answered
abbrev pub has_answered : Option Over → Bool
has_answered None = false
has_answered (Some Recovered) = true
has_answered (Some (StoppedBy c)) = is_answer c

-- how it stands after n of q word steps: it goes on after all of them; or it has recovered the identity; or it stopped
abbrev pub MadeBy : ℕ → Its → ℕ → Option Over → Rescuing → Life → Type 0
MadeBy q p n None v left = (n ≡ q) × GoesOn p v
MadeBy q p n (Some Recovered) v left = (n ≤ q) × (v.done ≡ true) × (v.seat.memo.status ≡ Gone)
MadeBy q p n (Some (StoppedBy c)) v left = (v.done ≡ false) × StopsBy c q n v left

pub record HasMade (q : ℕ) (p : Its) (u : Rescuing) (before : Life) (r : Option Over) (v : Rescuing) (left : Life) : Type 0 where
  pub n : ℕ
  pub stepped : HasStepped (has_answered r) n u v before left
  pub by : MadeBy q p n r v left

-- the token of v
abbrev pub token_by : Rescuing → Token
token_by v = record { of = v.of; account = v.seat }

-- the token is given back as the recovery ended
abbrev pub EndsAs : Rescuing → Over → Result Token Stopped → Type 0
EndsAs v Recovered (Ok t) = t ≡ token_by v
EndsAs v (StoppedBy c) (Err s) = (s.corpse ≡ token_by v) × (s.cause ≡ c)
EndsAs v over r = ⊥

-- the token of v, where it is recovered: the identity is gone; or where it stopped
abbrev pub IsOver : ℕ → ℕ → Rescuing → Life → Result Token Stopped → Type 0
IsOver q n v left (Ok t) = (n ≤ q) × (t ≡ token_by v) × (t.account.memo.status ≡ Gone)
IsOver q n v left (Err s) = (s.corpse ≡ token_by v) × StopsBy s.cause q n v left

-- whether its machine had answered where this is given
abbrev pub answered_by : Result Token Stopped → Bool
answered_by (Ok t) = true
answered_by (Err s) = is_answer s.cause

-- A poll of q turns. Where an earlier one was ready nothing is given and nothing changes. It is pending where the recovery goes on after q word steps. Otherwise it is ready, after at most q turns
abbrev pub HasPolled : ℕ → Option Rescuing → Life → Option (Result Token Stopped) → Option Rescuing → Life → Type 0
HasPolled q None before r b left = (r ≡ None) × (b ≡ None) × (left ≡ before)
HasPolled q (Some u) before None b left = (v : Rescuing) × (b ≡ Some v) × HasStepped false q u v before left
HasPolled q (Some u) before (Some x) b left = (b ≡ None) × ((n : ℕ) × (v : Rescuing) × HasStepped (answered_by x) n u v before left × IsOver q n v left x)

pub record HasRescued (f : Rescue) (r : Option (Result Token Stopped)) (g : Rescue) : Type 0 where
  pub pool : g.pool ≡ f.pool
  pub quota : g.quota ≡ f.quota
  pub polled : HasPolled f.quota f.rescuer f.life r g.rescuer g.life

-- what it may give: where it hasn't stopped the identity, which is gone; nothing once a poll was ready
abbrev pub MayRescue : Rescue → Result Token Stopped → Type 0
MayRescue f r = MatchOption f.rescuer ⊥ (λ u. IfOk r (λ t. (t.of ≡ u.of) × (t.account.memo.status ≡ Gone)))

-- a recovery that is given up leaves the corpse: none where a poll was ready
abbrev pub IsGivenUp : Option Rescuing → Option Token → Type 0
IsGivenUp None r = r ≡ None
IsGivenUp (Some u) r = r ≡ Some (token_by u)
