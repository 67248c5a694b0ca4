-- what machines make of a state is a run
use Rattle.std.proofs.Common.{◌≡◌, ◌<◌, List, [], ◌∷◌, sym, ap, ◌∙◌, subst}
use Rattle.std.specs.Prelude.{slice_index}
use Rattle.shm_words.specs.declared.geometry.Geometry.{Geometry}
use Rattle.shm_graph.specs.declared.{ask.Me.Me, memo.{Memo.Memo, Step.Step}, run.Move.Move}
use Rattle.shm_graph.specs.{declared.run.Move.TheVariants.{Word, Dies, Begins}, Asks.{Trail, at_of, seen_of}}
use Rattle.shm_graph.specs.{Laws.{Control, step_of}, Runs.{Held, Leads, State, Turned, memos_of, moved}}
use Rattle.shm_graph.specs.Whole.{WholeKeeps, fits_now, gives_now}
use Rattle.shm_graph.proofs.Runs.Running.{turned-dies, turned-begins}
use Rattle.shm_headline.specs.MachineRuns.{AreMade, IsMade, IsOfMachine}

module _ {S A : Type 0} (k : Control S A) (fits : S → Memo → Memo → Trail → Type 0) (gives : S → Memo → Memo → Trail → A → Type 0) (keeps : WholeKeeps k (fits_now k fits) (gives_now gives)) (g : Geometry) where
  turned_word : (s : State) (t : Step) → Held g s.words s.accounts → IsOfMachine k fits g s t → Turned g s (Word t)
  turned_word s t held h =
      let m = h.machine in
      let pool : (k.me m).geometry ≡ g = ap (λ x. x.geometry) h.me ∙ h.pool in
      let here : Held (k.me m).geometry s.words s.accounts = subst (λ (y : Geometry). Held y s.words s.accounts) (sym pool) held in
      let low : (k.me m).who < (k.me m).geometry.clients = subst (λ (x : Me). x.who < x.geometry.clients) (sym h.me) (subst (λ (y : Geometry). t.me.who < y.clients) (sym h.pool) h.low) in
      let fit : fits_now k fits m h.before (memos_of s.accounts (k.me m).who) = subst (λ (x : Me). fits_now k fits m h.before (memos_of s.accounts x.who)) (sym h.me) h.fit in
      let x = keeps m s.words s.accounts h.before here low fit h.runs in
      subst (λ (y : Step). Turned g s (Word y)) (sym h.is) (subst (λ (y : Geometry). Turned y s (Word (step_of k m (seen_of (k.asks m) (slice_index s.words (at_of (k.asks m))))))) pool x.turned)

  turned : (s : State) (m : Move) → Held g s.words s.accounts → IsMade k fits g s m → Turned g s m
  turned s (Word t) held h = turned_word s t held h
  turned s (Dies c) held h = turned-dies g s c held h
  turned s (Begins c kind) held h = turned-begins g s c kind held h

  pub made_leads : (a : State) (ms : List Move) (b : State) → Held g a.words a.accounts → AreMade k fits g a ms b → Leads g a ms b
  made_leads a [] b held made = made
  made_leads a (m ∷ ms) b held made = let t = turned a m held made.1 in (made.0, t, made_leads (moved a m) ms b t.held made.2)
