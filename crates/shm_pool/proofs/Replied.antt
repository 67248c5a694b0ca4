-- what an operation of a client leaves, by what the driving of its machine says
use Rattle.std.proofs.Common.{◌≡◌, ℕ, ◌<◌, Bool, true, false, List, refl, sym, ap, subst}
use Rattle.shm_graph.specs.{declared.{ask.Me.Me, memo.Memo.Memo, run.Account.Account}, Asks.{Trail, call_before}}
use Rattle.shm_graph.specs.{Events.Event, Idle.IsIdle, Laws.Control, Operations.{IsReady, OperationLaws}}
use Rattle.shm_graph.specs.{Runs.{Stood, memos_of}, Spots.see, Tells.happens_along, Whole.{fits_now, gives_now}}
use Rattle.shm_pool.specs.{declared.reply.Reply.{Reply, TheVariants.{Done, Died}}, Calls.{IsBetween, TellsLine}}
use Rattle.shm_pool.specs.{Replies.{IfReply, IsLost}, Tokens.{Its, me_of}}

-- an identity whose account stood is ready where it is idle
pub ready : (p : Its) (e : Account) → Stood p.start e → IsIdle e.who e.memo → (me : Me) → me ≡ me_of p e → IsReady me e.memo
ready p e x idle me is =
    subst (λ (z : Me). IsReady z e.memo) (sym is) (record {
      geometry = x.held.at.fits;
      who = subst (λ (n : ℕ). e.who < n) x.held.accounts x.here.0;
      held = (see p.start.geometry x.words, memos_of x.accounts, x.held.at, ap (λ (a : Account). a.memo) x.here.1);
      idle = idle;
    })

-- the operation m of a client with the account e, which has the account q then
module _ {M A : Type 0} (k : Control M A) (fits : M → Memo → Memo → Trail → Type 0) (gives : M → Memo → Memo → Trail → A → Type 0) (may : M → Memo → Type 0) (does : M → ℕ → Event) (leaves : M → Memo → Memo → Trail → List Event → A → Type 0) (ends : M → A → Type 0) (l : OperationLaws k fits gives may does leaves ends) (m : M) (e q : Account) (dead : Bool) (is : dead ≡ false → IsReady (k.me m) e.memo) (fit : dead ≡ false → may m e.memo) where
  -- what it leaves, where it answered
  abbrev Left : A → Type 0
  Left a = leaves m e.memo q.memo q.memo.call (happens_along k does m q.memo.call) a

  -- it fits before its first word step
  pub begun : dead ≡ false → fits_now k fits m e.memo e.memo
  begun d = subst (λ (b : Bool). fits m e.memo e.memo (call_before b e.memo.call)) (sym (l.fresh m e.memo (fit d))) (l.begins m e.memo (is d) (fit d))

  left : dead ≡ false → (a : A) → gives_now gives m e.memo q.memo a → Left a
  left d a g = l.leads m e.memo q.memo q.memo.call a (is d) (fit d) g

  idle : dead ≡ false → (a : A) → ends m a → Left a → IsIdle (k.me m).who q.memo
  idle d a en h = l.rests m e.memo q.memo q.memo.call (happens_along k does m q.memo.call) a (is d) (fit d) h en

  -- what is so of each answer of a client that lives is so of the reply
  of_living : (P : A → Type 0) (o : Reply A) → (dead ≡ true → IsLost o) → (dead ≡ false → IfReply o P) → IfReply o P
  of_living P Died h f = tt
  of_living P (Done a) h f = by dead refl
    where
      by : (b : Bool) → dead ≡ b → P a
      by true d = absurd (h d)
      by false d = f d

  pub replied : (o : Reply A) → (dead ≡ true → IsLost o) → IfReply o (gives_now gives m e.memo q.memo) → IfReply o Left
  replied Died h g = tt
  replied (Done a) h g = of_living Left (Done a) h (λ d. left d a g)

  pub told : (o : Reply A) → (dead ≡ true → IsLost o) → (k.fresh m ≡ true → IfReply o (λ _. TellsLine (k.line m) e q)) → IfReply o (λ _. TellsLine (k.line m) e q)
  told o h t = of_living (λ _. TellsLine (k.line m) e q) o h (λ d. t (l.fresh m e.memo (fit d)))

  pub rested : (o : Reply A) → (dead ≡ true → IsLost o) → IfReply o Left → IfReply o (λ _. TellsLine (k.line m) e q) → (k.me m).who ≡ q.who → IfReply o (λ a. ends m a → IsBetween q)
  rested Died h g t w = tt
  rested (Done a) h g t w = by dead refl
    where
      by : (b : Bool) → dead ≡ b → ends m a → IsBetween q
      by true d en = absurd (h d)
      by false d en = record { idle = subst (λ (c : ℕ). IsIdle c q.memo) w (idle d a en g); over = t.over }
