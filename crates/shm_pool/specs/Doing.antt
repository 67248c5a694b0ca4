-- what a call of a client leaves
use Rattle.std.specs.Prelude.{◌≡◌, ◌↔◌, ℕ, true, false, List, ◌++◌}
use Rattle.shm_graph.specs.{declared.{memo.{Memo.Memo, Step.Step}, run.Account.Account}, Asks.Trail}
use Rattle.shm_graph.specs.{CallEvents.events_of, Events.Event, Laws.Control, Runs.Stood}
use Rattle.shm_graph.specs.Tells.{after_all, happens_along, machine_steps, tells_along}
use Rattle.shm_pool.specs.{declared.reply.Reply.Reply, Calls.{AreMade, CallSteps, IsBetween, TellsLine, pairs, shown}}
use Rattle.shm_pool.specs.{Replies.{IfReply, IsLost, is_reply}, Tokens.Acting}

-- m asked for these steps of the account e, each of which was a turn, and is m' then
pub record HasAsked {M A : Type 0} (k : Control M A) (m m' : M) (e : Account) (ts : List Step) : Type 0 where
  pub steps : ts ≡ machine_steps k m (pairs ts)
  pub machine : m' ≡ after_all k m (pairs ts)
  pub made : AreMade e ts

module _ {M A : Type 0} (k : Control M A) (does : M → ℕ → Event) where
  -- m asked for these steps of the account e, each of which was a turn, and tells their events
  pub record AreTold (m : M) (e : Account) (ts : List Step) : Type 0 where
    pub steps : ts ≡ machine_steps k m (pairs ts)
    pub made : AreMade e ts
    pub events : events_of e.memo ts ≡ tells_along k does m (pairs ts)

module _ {M A : Type 0} (k : Control M A) (does : M → ℕ → Event) (leaves : M → Memo → Memo → Trail → List Event → A → Type 0) (ends : M → A → Type 0) where
  -- what is left of the account e, which is e' then, by what was asked and by its events
  abbrev pub LeftOf : M → Account → Account → A → Type 0
  LeftOf m e e' a = leaves m e.memo e'.memo e'.memo.call (happens_along k does m e'.memo.call) a

  -- What the client c became by a call of the operation m that had `before` word steps left, of which `left` are left, and gave o. It is the same identity, in a state that holds. It is dead exactly where no answer came; then no life was left, or it was dead before, and nothing changed. What it made were steps of m, each a turn of the pool, with the events that it tells; and where an answer came they are its call, it told its line, left what it leaves, and is between two calls again where it rests
  pub record HasDone (m : M) (c c' : Acting) (before left : ℕ) (o : Reply A) : Type 0 where
    pub same : (c'.of ≡ c.of) × (c'.account.who ≡ c.account.who)
    pub stood : Stood c'.of.start c'.account
    pub died : IsLost o ↔ (c'.dead ≡ true)
    pub again : c.dead ≡ true → IsLost o × (c' ≡ c) × (left ≡ before)
    pub spent : c.dead ≡ false → IsLost o → left ≡ 0
    pub call : c.dead ≡ false → CallSteps (shown k m) c.account c'.account (is_reply o) before left
    pub events : (alive : c.dead ≡ false) → AreTold k does m c.account ((call alive).steps ++ (call alive).last)
    pub asked : (alive : c.dead ≡ false) → IfReply o (λ _. c'.account.memo.call ≡ pairs ((call alive).steps ++ (call alive).last))
    pub told : IfReply o (λ _. TellsLine (k.line m) c.account c'.account)
    pub left_so : IfReply o (LeftOf m c.account c'.account)
    pub between : IfReply o (λ a. ends m a → IsBetween c'.account)
