-- what the calls of a client leave, each of which runs one operation
use Rattle.std.specs.Prelude.{◌≡◌, ◌<◌, ℕ, true, false, List, ◌++◌, length, take, Result, Option}
use Rattle.shm_words.specs.Layout.{GeometryFits}
use Rattle.shm_graph.specs.{declared.{ask.Me.Me, memo.Memo.Memo, run.Account.Account}, Agents.recovers}
use Rattle.shm_graph.specs.{Reach.is_reached, Asks.Trail, Events.Event, Laws.Control}
use Rattle.shm_alloc.specs.declared.{alloc.AllocFault.AllocFault, point.AllocPoint.TheVariants.Era}
use Rattle.shm_alloc.specs.{declared.{point.AllocState.AllocState, request.Near.Near}, Alloc.AsPart.AllocLeaves}
use Rattle.shm_alloc.specs.Alloc.{Control.alloc_control, Events.alloc_event}
use Rattle.plans.specs.{CallsControl.{calls_control, calls_does, calls_of}, Plans.Planned, Tasks.CallsLeave}
use Rattle.shm_count.specs.{declared.answer.Made.Made, Roots.root_word}
use Rattle.shm_script.specs.declared.{line.Line.Line, log.Answer.Answer}
use Rattle.shm_table.specs.Command.{command_control, command_effect, command_of, Maps.MapSoFar, Operates.CommandLeaves}
use Rattle.shm_table.specs.Command.Sends.{SentSoFar}
use Rattle.shm_pool.specs.{declared.reply.Reply.Reply, Calls.{CallSteps, IsBetween, shown}, Doing.{HasAsked, HasDone}}
use Rattle.shm_pool.specs.{Replies.{IfReply, IsLost}, Tokens.{Acting, has_left, me_of}}

-- the client t of which no call has died is this identity, in a pool that there may be
pub record IsAlive (t : Acting) (me : Me) : Type 0 where
  pub alive : t.dead ≡ false
  pub is : me ≡ me_of t.of t.account
  pub fits : GeometryFits me.geometry
  pub who : me.who < me.geometry.clients
  pub kind : recovers t.account.memo ≡ false

-- where no call of the client has died, it is between two calls, and hasn't left
pub record Rests (t : Acting) : Type 0 where
  pub between : t.dead ≡ false → IsBetween t.account
  pub here : t.dead ≡ false → has_left t.account.memo ≡ false

-- a client ran the machine of the plan p; what a command showed that died before stays
pub record HasCalled {P C B A : Type 0} (k : Control C B) (q : Planned P C B A) (p : P) (t t' : Acting) (before left : ℕ) (o : Reply A) : Type 0 where
  pub done : HasDone (calls_control k q.steered) (calls_does k q) (CallsLeave q) (λ m a. Unit {0}) (calls_of q.steered p) t t' before left o
  pub rests : Rests t'
  pub effect : t'.effect ≡ t.effect

-- an allocation of this identity, before its first step, of a block with n reference words and the plain words xs, whose search begins near a place
pub record IsAsked (me : Me) (n : ℕ) (xs : List ℕ) (near : Near) (m : AllocState) : Type 0 where
  pub of : m.me ≡ me
  pub point : m.point ≡ Era
  pub refs : m.request.refs ≡ n
  pub count : m.request.count ≡ length xs
  pub plain : take (length xs) m.request.plain ≡ xs
  pub hint : m.request.near ≡ near

-- a client ran such an allocation
pub record HasAllocatedNear (n : ℕ) (xs : List ℕ) (near : Near) (t t' : Acting) (before left : ℕ) (o : Reply (Result Made AllocFault)) : Type 0 where
  pub machine : AllocState
  pub asked : IsAsked (me_of t.of t.account) n xs near machine
  pub done : HasDone alloc_control alloc_event AllocLeaves (λ m a. Unit {0}) machine t t' before left o
  pub rests : Rests t'
  pub effect : t'.effect ≡ t.effect

-- the same, where the search has no hint
abbrev pub HasAllocated : ℕ → List ℕ → Acting → Acting → ℕ → ℕ → Reply (Result Made AllocFault) → Type 0
HasAllocated n xs t t' before left o = HasAllocatedNear n xs (record { segment = 0; page = 0; index = 0 }) t t' before left o

module _ {M : Type 0} (k : Control M Answer) (shows : M → Option Answer) (made : Me → Line → M) where
  -- The command of a line of this identity was cut off: its machine asked for these steps and isn't finished. What it shows is what it was going to answer where its deciding step was made, and otherwise none; the own map, and what was sent, are as after that answer
  pub record HasShown (me : Me) (l : Line) (e e' : Account) (before left : ℕ) (a : Option Answer) : Type 0 where
    pub machine : M
    pub call : CallSteps (shown k (made me l)) e e' false before left
    pub asked : HasAsked k (made me l) machine e (call.steps ++ call.last)
    pub going : k.finished machine ≡ false
    pub effect : a ≡ shows machine
    pub map : MapSoFar l a e.memo e'.memo
    pub sent : SentSoFar l a e.memo e'.memo

  -- A client ran the command of a line; it keeps what that showed where it died in it. `does` has the event of each step that the command made (`done.events`), so that what is left is told by the events that happened
  pub record HasRun (leaves : M → Memo → Memo → Trail → List Event → Answer → Type 0) (l : Line) (t t' : Acting) (before left : ℕ) (o : Reply Answer) : Type 0 where
    pub does : M → ℕ → Event
    pub done : HasDone k does leaves (λ m a. Unit {0}) (made (me_of t.of t.account) l) t t' before left o
    pub rests : Rests t'
    pub answered : IfReply o (λ a. t'.effect ≡ t.effect)
    pub cut : t.dead ≡ false → IsLost o → HasShown (me_of t.of t.account) l t.account t'.account before left t'.effect

-- the same of the machine of a command
abbrev pub HasEffect : Me → Line → Account → Account → ℕ → ℕ → Option Answer → Type 0
HasEffect = HasShown command_control command_effect command_of

abbrev pub HasCommanded : Line → Acting → Acting → ℕ → ℕ → Reply Answer → Type 0
HasCommanded = HasRun command_control command_effect command_of CommandLeaves

-- a root of the client names the block, which is in reach
pub record HasRoot (x : Made) (t : Acting) : Type 0 where
  pub low : x.root < 16
  pub named : root_word t.account.who t.account.memo x.root ≡ x.block
  pub reached : is_reached t.account.who t.account.memo x.block ≡ true
