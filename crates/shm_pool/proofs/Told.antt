-- the events of a last machine are those that it tells
use Rattle.std.proofs.Common.{ℕ, List, ◌++◌}
use Rattle.shm_graph.specs.{declared.{memo.{Memo.Memo, Step.Step}, run.Account.Account}, Asks.Trail, Events.Event}
use Rattle.shm_graph.specs.{Laws.Control, Tells.Tells}
use Rattle.shm_pool.specs.{declared.token.Cause.{Cause, TheVariants.{Died, EraSpent}}, Calls.IsDriven, Doing.AreTold}
use Rattle.shm_pool.specs.Endings.{Answer, EndIsTold, HasEnded, HasStopped, StopIsTold, StopsBy, stopped_steps}
use Rattle.shm_pool.specs.Tokens.{Its, Token}

module _ {M : Type 0} (k : Control M Answer) (fits : M → Memo → Memo → Trail → Type 0) (gives : M → Memo → Memo → Answer → Type 0) (does : M → ℕ → Event) (tells : Tells k fits does) (m : M) (p : Its) (e : Account) (before left : ℕ) where
  driven_told : (m' : M) (e' : Account) (ts : List Step) → IsDriven k fits m m' e e' ts → AreTold k does m e ts
  driven_told m' e' ts d = record { steps = d.steps; made = d.made; events = d.events does tells }

  pub end_told : (t : Token) → HasEnded k fits gives m p e before left t → EndIsTold k fits gives does m p e before left t
  end_told t h = let a = h.answered in record { same = h.same; gone = h.gone; answered = a; events = driven_told a.machine t.account (a.call.steps ++ a.call.last) a.driven }

  stopped_told : (x : Cause) (e' : Account) (h : StopsBy k fits gives m p e before left x e') → AreTold k does m e (stopped_steps k fits gives m p e before left x e' h)
  stopped_told Died e' h = driven_told h.machine e' (h.call.steps ++ h.call.last) h.driven
  stopped_told (EraSpent n) e' h = driven_told h.machine e' (h.call.steps ++ h.call.last) h.driven

  pub stop_told : (x : Cause) (t : Token) → HasStopped k fits gives m p e before left x t → StopIsTold k fits gives does m p e before left x t
  stop_told x t h = record { same = h.same; by = h.by; events = stopped_told x t.account h.by }
