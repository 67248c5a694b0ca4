-- a run goes on by a step of a machine that keeps its law, by a death and by a beginning
use Rattle.std.proofs.Common.{◌≡◌, ◌≢◌, ℕ, ◌<◌, List, [], ◌∷◌, ◌++◌, length, refl, sym, ap, ◌∙◌, subst, true, false, inl, inr}
use Rattle.std.proofs.lemmas.{List.get_or_past, Bool.{cases_lt, false≢true}}
use Rattle.std.specs.Prelude.{slice_index, Some, None}
use Rattle.shm_words.specs.{declared.geometry.Geometry.Geometry, Layout.total_of}
use Rattle.shm_graph.specs.declared.{ask.Me.Me, memo.{Status.TheVariants.Gone, Memo.Memo, Step.Step}}
use Rattle.shm_graph.specs.{declared.run.{Account.Account, Move.{Move, TheVariants.Word}}, Asks.{Trail, at_of, seen_of}}
use Rattle.shm_graph.specs.{Agents.acts, Changes.asked_spot, Laws.{Control, Steady, Outcome, Back, step_of, is_some}}
use Rattle.shm_graph.specs.Runs.{Held, State, state, moved, Turned, Leads, memos_of, account_at, account_after, accounts_after}
use Rattle.shm_graph.specs.Whole.{gives_now, WholeInside, WholeKeeps, WholeKept, Learns}
use Rattle.shm_graph.proofs.{Runs.{Lists.account_here, Running.Leads-more}, Memos.MemoSteps.{acts-on, acts-here}}

-- ---- deaths and beginnings

-- an identity of which an agent acts has an account
pub acts_within : (es : List Account) (c : ℕ) → acts (memos_of es c) ≡ true → c < length es
acts_within es c e =
    elim (cases_lt c (length es)) [
      | inl l ↦ l
      | inr o ↦ absurd (false≢true (sym (ap (λ (x : Account). acts x.memo) (get_or_past es c _ o)) ∙ e))
    ]

-- ---- a machine, one step on

module _ {S A : Type 0} (k : Control S A) (steady : Steady k) where
  pub me_on : (m : S) (n : ℕ) (me : Me) → k.finished m ≡ false → k.me m ≡ me → k.me (k.after m n) ≡ me
  me_on m n me going e = (steady m n going).same_me ∙ e

  pub line_on : (m : S) (n : ℕ) (line : List ℕ) → k.finished m ≡ false → k.line m ≡ line → k.line (k.after m n) ≡ line
  line_on m n line going e = (steady m n going).same_line ∙ e

  -- it goes on where it doesn't answer, and is finished where it does
  pub going_on : (m : S) (n : ℕ) → k.finished m ≡ false → k.turns m n ≡ None → k.finished (k.after m n) ≡ false
  going_on m n going e = (steady m n going).ends ∙ ap is_some e

  pub done_on : (m : S) (n : ℕ) (a : A) → k.finished m ≡ false → k.turns m n ≡ Some a → k.finished (k.after m n) ≡ true
  done_on m n a going e = (steady m n going).ends ∙ ap is_some e

-- where the machine goes on, where it doesn't leave the status gone, and where it ends and does
pub account_acts-on : (e : Account) (t : Step) → t.ends ≡ false → acts (account_after e t).memo ≡ acts e.memo
account_acts-on e t going = acts-on e.memo t ((asked_spot e.memo t)) going

pub account_acts-here : (e : Account) (t : Step) → (account_after e t).memo.status ≢ Gone → acts (account_after e t).memo ≡ acts e.memo
account_acts-here e t n = acts-here e.memo t ((asked_spot e.memo t)) n

-- what an answer says of the machine one step on, it says of the machine
pub whole_back : {S A : Type 0} (k : Control S A) (gives : S → Memo → Memo → Trail → A → Type 0) → Back k gives → (m : S) (n : ℕ) → k.finished m ≡ false → k.turns m n ≡ None → (r0 r : Memo) (a : A) → gives_now gives (k.after m n) r0 r a → gives_now gives m r0 r a
whole_back k gives back m n going e r0 r a h = back m n going e r0 r r.call a h

module _ {S A : Type 0} (k : Control S A) (fits : S → Memo → Memo → Type 0) (gives : S → Memo → Memo → A → Type 0) where
  -- the step of the machine on these words
  abbrev pub step_on : List ℕ → S → Step
  step_on ws m = step_of k m (seen_of (k.asks m) (slice_index ws (at_of (k.asks m))))

  -- the machine is of the identity c of the pool, and not finished
  pub record Is (g : Geometry) (c : ℕ) (m : S) : Type 0 where
    pub me : k.me m ≡ record { geometry = g; who = c }
    pub below : c < g.clients
    pub going : k.finished m ≡ false

  pub still : Steady k → (g : Geometry) (c : ℕ) (m : S) (n : ℕ) → Is g c m → k.turns m n ≡ None → Is g c (k.after m n)
  still steady g c m n is e = record { me = me_on k steady m n _ is.going is.me; below = is.below; going = going_on k steady m n is.going e }

  pub asks_within : WholeInside k fits gives → (g : Geometry) (ws : List ℕ) (es : List Account) (c : ℕ) (m : S) (r0 : Memo) → Held g ws es → Is g c m → fits m r0 (memos_of es c) → at_of (k.asks m) < length ws
  asks_within inside g ws es c m r0 h is fit =
      let l : (k.me m).who < (k.me m).geometry.clients = subst (λ (z : Me). z.who < z.geometry.clients) (sym is.me) is.below in
      let within : at_of (k.asks m) < total_of (k.me m).geometry = inside m r0 (memos_of es c) l fit is.going in
      subst (λ (z : ℕ). at_of (k.asks m) < z) (sym h.words) (subst (λ (z : Me). at_of (k.asks m) < total_of z.geometry) is.me within)

  -- the law, where the machine is of the identity c of the pool
  kept_on : WholeKeeps k fits gives → (g : Geometry) (ws : List ℕ) (es : List Account) (c : ℕ) (m : S) (r0 : Memo) → Held g ws es → Is g c m → fits m r0 (memos_of es c) → WholeKept k fits gives m ws es r0 (step_on ws m).seen
  kept_on keeps g ws es c m r0 h is fit =
      keeps m ws es r0
      (subst (λ (z : Me). Held z.geometry ws es) (sym is.me) h)
      (subst (λ (z : Me). z.who < z.geometry.clients) (sym is.me) is.below)
      (subst (λ (z : Me). fits m r0 (memos_of es z.who)) (sym is.me) fit)
      is.going

  pub turned-step : WholeKeeps k fits gives → (g : Geometry) (ws : List ℕ) (es : List Account) (c : ℕ) (m : S) (r0 : Memo) → Held g ws es → Is g c m → fits m r0 (memos_of es c) → Turned g (state ws es) (Word (step_on ws m))
  turned-step keeps g ws es c m r0 h is fit = subst (λ (z : Me). Turned z.geometry (state ws es) (Word (step_on ws m))) is.me (kept_on keeps g ws es c m r0 h is fit).turned

  -- the run goes on
  pub run-step : WholeKeeps k fits gives → (g : Geometry) (a : State) (ms : List Move) (ws : List ℕ) (es : List Account) (c : ℕ) (m : S) (r0 : Memo) → Held g ws es → Leads g a ms (state ws es) → acts (memos_of es c) ≡ true → Is g c m → fits m r0 (memos_of es c) → Leads g a (ms ++ Word (step_on ws m) ∷ []) (moved (state ws es) (Word (step_on ws m)))
  run-step keeps g a ms ws es c m r0 h run e is fit =
      Leads-more g a ms (state ws es) (Word (step_on ws m)) run (refl, subst (λ (z : Me). acts (memos_of es z.who) ≡ true) (sym is.me) e) (turned-step keeps g ws es c m r0 h is fit)

  -- the account of c after it, and what the machine has learnt
  pub account-step : (g : Geometry) (ws : List ℕ) (es : List Account) (c : ℕ) (m : S) → Held g ws es → Is g c m → account_at (accounts_after es (step_on ws m)) c ≡ account_after (account_at es c) (step_on ws m)
  account-step g ws es c m h is =
      let t : Step = step_on ws m in
      let who : t.me.who ≡ c = ap (λ (z : Me). z.who) is.me in
      let long : c < length es = subst (λ (z : ℕ). c < z) (sym h.accounts) is.below in
      subst (λ (z : ℕ). account_at (accounts_after es t) z ≡ account_after (account_at es z) t) who (account_here es t.me.who (account_after (account_at es t.me.who) t) (subst (λ (z : ℕ). z < length es) (sym who) long))

  -- an agent of c acts as before where the machine goes on, and where it doesn't leave the status gone
  pub acts-step : Steady k → (g : Geometry) (ws : List ℕ) (es : List Account) (c : ℕ) (m : S) → Held g ws es → Is g c m → k.turns m (step_on ws m).seen ≡ None → acts (memos_of (accounts_after es (step_on ws m)) c) ≡ acts (memos_of es c)
  acts-step steady g ws es c m h is e =
      let t : Step = step_on ws m in
      ap (λ (x : Account). acts x.memo) (account-step g ws es c m h is) ∙ account_acts-on (account_at es c) t (going_on k steady m t.seen is.going e)

  pub acts-answer : (g : Geometry) (ws : List ℕ) (es : List Account) (c : ℕ) (m : S) → Held g ws es → Is g c m → (account_after (account_at es c) (step_on ws m)).memo.status ≢ Gone → acts (memos_of (accounts_after es (step_on ws m)) c) ≡ acts (memos_of es c)
  acts-answer g ws es c m h is n =
      ap (λ (x : Account). acts x.memo) (account-step g ws es c m h is) ∙ account_acts-here (account_at es c) (step_on ws m) n

  pub learns-step : WholeKeeps k fits gives → (g : Geometry) (ws : List ℕ) (es : List Account) (c : ℕ) (m : S) → Held g ws es → Is g c m → Learns k fits gives m (step_on ws m).seen (memos_of es c) (account_after (account_at es c) (step_on ws m)).memo
  learns-step keeps g ws es c m h is r0 fit =
      let t : Step = step_on ws m in
      subst (λ (z : Me). Outcome (k.turns m t.seen) (fits (k.after m t.seen) r0 (account_after (account_at es z.who) t).memo) (gives m r0 (account_after (account_at es z.who) t).memo)) is.me (kept_on keeps g ws es c m r0 h is fit).learns
