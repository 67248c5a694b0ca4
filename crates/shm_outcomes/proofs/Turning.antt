-- the steps of a call as turns, and what is left by their events
use Rattle.std.proofs.Common.{◌≡◌, ℕ, Bool, false, true, List, [], ◌∷◌, ◌++◌, sym, subst}
use Rattle.std.specs.{Prelude.{Err, Ok}, List.filter}
use Rattle.plans.specs.{CallsControl.{calls_control, calls_does, calls_of}, CallsFit.{CallsFits, CallsGives}}
use Rattle.plans.specs.Plans.{Planned}
use Rattle.shm_graph.specs.{declared.{ask.Life.Life, memo.{Memo.Memo, Step.Step}, run.Account.Account}, Asks.Trail}
use Rattle.shm_graph.specs.{Events.Event, Laws.Control, Runs.account_after, Tells.{happens_along, is_event}}
use Rattle.shm_graph.specs.Whole.{gives_now}
use Rattle.shm_pool.specs.{declared.{reply.Reply.Reply, token.Cause.Cause}, Doing.{AreTold, HasDone}, Rules.IsMade}
use Rattle.shm_pool.specs.Calls.{AreMade, CallSteps, Shown, accounts_by, pairs}
use Rattle.shm_pool.specs.{Endings.{Answer, EndIsTold, HasAnswered, StopIsTold, spent}, Rescues.Rescuing}
use Rattle.shm_pool.specs.Tokens.{Acting, Its, Token}
use Rattle.shm_pool.specs.declared.token.Cause.TheVariants as cause
use Rattle.shm_async.specs.Rescued.{HasStepped, account_by}
use Rattle.shm_outcomes.specs.{Happened.HasMadeSo, Turning.AreTurns}

-- ---- turns

made_in : (e : Account) (first behind : List Step) (t : Step) → AreMade e (first ++ t ∷ behind) → IsMade (accounts_by e first) t
made_in e [] behind t h = h.0
made_in e (u ∷ us) behind t h = made_in (account_after e u) us behind t h.1

pub turns_of : (s : Shown) (e e' : Account) (over : Bool) (before left : ℕ) (c : CallSteps s e e' over before left) → AreMade e (c.steps ++ c.last) → AreTurns e e' before left
turns_of s e e' over before left c made =
    record { steps = c.steps ++ c.last; account = c.account; life = c.life; turns = λ first behind t is. made_in e first behind t (subst (AreMade e) is made) }

module _ {M A : Type 0} (k : Control M A) (does : M → ℕ → Event) (leaves : M → Memo → Memo → Trail → List Event → A → Type 0) (ends : M → A → Type 0) where
  pub done_turns : (m : M) (t t' : Acting) (before left : ℕ) (o : Reply A) → HasDone k does leaves ends m t t' before left o → t.dead ≡ false → AreTurns t.account t'.account before left
  done_turns m t t' before left o h alive = turns_of _ t.account t'.account _ before left (h.call alive) (h.events alive).made

module _ {M : Type 0} (k : Control M Answer) (fits : M → Memo → Memo → Trail → Type 0) (gives : M → Memo → Memo → Answer → Type 0) (does : M → ℕ → Event) (m : M) (p : Its) (e : Account) (before left : ℕ) where
  pub end_turns : (t : Token) → EndIsTold k fits gives does m p e before left t → AreTurns e t.account before left
  end_turns t h = turns_of _ e t.account _ before left h.answered.call h.events.made

  pub stop_turns : (x : Cause) (t : Token) → StopIsTold k fits gives does m p e before left x t → AreTurns e t.account before left
  stop_turns cause.Died t h = turns_of _ e t.account _ before left h.by.call h.events.made
  stop_turns (cause.EraSpent n) t h = turns_of _ e t.account _ before left h.by.call h.events.made

pub stepped_turns : (over : Bool) (n : ℕ) (u v : Rescuing) (before left : Life) → HasStepped over n u v before left → AreTurns (account_by u) (account_by v) before.left left.left
stepped_turns false n u v before left h =
    record { steps = h.call.steps; account = h.call.account; life = h.call.life; turns = λ first behind t is. made_in (account_by u) first behind t (subst (AreMade (account_by u)) is h.driven.made) }
stepped_turns true n u v before left h = turns_of _ (account_by u) (account_by v) true before.left left.left h.call h.driven.made

-- ---- what is left

module _ {P C B : Type 0} (k : Control C B) (q : Planned P C B Answer) (s : P) (same : q.steered.start s ≡ s) (first : (calls_control k q.steered).fresh (calls_of q.steered s) ≡ true) (p : Its) (e : Account) (before left : ℕ) where
  abbrev Whole : Answer → Account → Type 0
  Whole = HasAnswered (calls_control k q.steered) (CallsFits k q) (gives_now (CallsGives k q)) (calls_of q.steered s) p e before left

  made_so : (a : Answer) (e' : Account) (h : Whole a e') → AreTold (calls_control k q.steered) (calls_does k q) (calls_of q.steered s) e (h.call.steps ++ h.call.last) → HasMadeSo (q.leaves s) e e' a
  made_so a e' h told =
      let ts : List Step = h.call.steps ++ h.call.last in
      let asked : e'.memo.call ≡ pairs ts = h.asked first in
      let so = subst (λ (x : P). q.leaves x e.memo e'.memo e'.memo.call (happens_along (calls_control k q.steered) (calls_does k q) (calls_of q.steered x) e'.memo.call) a) same h.gave.leaves in
      record {
        steps = ts;
        account = h.call.account;
        call = asked;
        left = subst (λ (es : List Event). q.leaves s e.memo e'.memo (pairs ts) (filter is_event es) a) (sym told.events)
            (subst (λ (tr : Trail). q.leaves s e.memo e'.memo tr (happens_along (calls_control k q.steered) (calls_does k q) (calls_of q.steered s) tr) a) asked so);
      }

  pub end_so : (t : Token) → EndIsTold (calls_control k q.steered) (CallsFits k q) (gives_now (CallsGives k q)) (calls_does k q) (calls_of q.steered s) p e before left t → HasMadeSo (q.leaves s) e t.account (Ok tt)
  end_so t h = made_so (Ok tt) t.account h.answered h.events

  pub spent_so : (n : ℕ) (t : Token) → StopIsTold (calls_control k q.steered) (CallsFits k q) (gives_now (CallsGives k q)) (calls_does k q) (calls_of q.steered s) p e before left (cause.EraSpent n) t → HasMadeSo (q.leaves s) e t.account (Err (spent n))
  spent_so n t h = made_so (Err (spent n)) t.account h.by h.events
