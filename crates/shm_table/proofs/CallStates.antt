-- a call in a run: where its machine makes its word steps, and that it fits between them
use Rattle.std.proofs.Common.{◌≡◌, ℕ, ◌<◌, refl, sym, ap, ◌∙◌, subst, false, append_assoc, List, [], ◌∷◌, ◌++◌, length, inl, inr}
use Rattle.std.proofs.lemmas.Bool.{cases_eq, cond-false, cond-true, eq-eqb, ne_eqb}
use Rattle.std.specs.Prelude.{None, slice_index}
use Rattle.shm_words.specs.declared.geometry.Geometry.{Geometry}
use Rattle.shm_graph.specs.declared.{ask.Me.Me, memo.{Memo.Memo, Seen.Seen, Step.Step}, run.Move.Move}
use Rattle.shm_graph.specs.{declared.run.Move.TheVariants.{Word, Dies, Begins}, Asks.{Trail, at_of, seen_of}}
use Rattle.shm_graph.specs.{CallEvents.{IsUnbroken, steps_in}, Changes.memo_after, Laws.{Control, Laws, step_of}}
use Rattle.shm_graph.specs.Runs.{Held, IsMove, Leads, State, Turned, account_after, account_at, account_died, account_entered, memos_of, moved}
use Rattle.shm_graph.specs.{Tells.{GoesOn, after_all, machine_steps}, Whole.fits_now}
use Rattle.shm_graph.proofs.Machines.{Composing.outcome_none, Wholes.whole_keeps}
use Rattle.shm_graph.proofs.Runs.{CallEventsOf.{memo_here, memo_other}, Lists.length-accounts_after}
use Rattle.shm_graph.proofs.Runs.Running.{Leads-append, Leads-split}

-- the identity of a pool
abbrev pub me_of : Geometry → ℕ → Me
me_of g c = record { geometry = g; who = c }

-- lists that are the same begin with the same step, and go on in the same way
first_same : (t u : Step) (ts us : List Step) → t ∷ ts ≡ u ∷ us → t ≡ u
first_same t u ts us e = cc

rest_same : (t u : Step) (ts us : List Step) → t ∷ ts ≡ u ∷ us → ts ≡ us
rest_same t u ts us e = cc

-- ---- the turns of a run

-- the first step of c among these turns, and those before it and after it
abbrev IsSplit : ℕ → List Move → Step → List Step → Type 0
IsSplit c ms s ss = (before : List Move) × (after : List Move) × (ms ≡ before ++ Word s ∷ after) × (steps_in c before ≡ []) × IsUnbroken c before × (s.me.who ≡ c) × (steps_in c after ≡ ss) × IsUnbroken c after

first_step : (c : ℕ) (ms : List Move) (s : Step) (ss : List Step) → steps_in c ms ≡ s ∷ ss → IsUnbroken c ms → IsSplit c ms s ss
first_step c [] s ss e un = cc
first_step c (Word t ∷ ms) s ss e un =
    elim (cases_eq t.me.who c) [
      | inl own ↦ here (sym (cond-true _ (t ∷ steps_in c ms) (steps_in c ms) (eq-eqb t.me.who c own)) ∙ e) own
      | inr n ↦ other n (first_step c ms s ss (sym (cond-false _ (t ∷ steps_in c ms) (steps_in c ms) (ne_eqb t.me.who c n)) ∙ e) un)
    ]
  where
    here : t ∷ steps_in c ms ≡ s ∷ ss → t.me.who ≡ c → IsSplit c (Word t ∷ ms) s ss
    here same own = let is = first_same t s (steps_in c ms) ss same in ([], ms, ap (λ z. Word z ∷ ms) is, refl, tt, subst (λ (z : Step). z.me.who ≡ c) is own, rest_same t s (steps_in c ms) ss same, un)

    other : (t.me.who ≡ c → ⊥) → IsSplit c ms s ss → IsSplit c (Word t ∷ ms) s ss
    other n (before, after, split, none, un, own, rest, unb) = (Word t ∷ before, after, ap (λ ys. Word t ∷ ys) split, cond-false _ (t ∷ steps_in c before) (steps_in c before) (ne_eqb t.me.who c n) ∙ none, un, own, rest, unb)
first_step c (Dies d ∷ ms) s ss e un = other (first_step c ms s ss e un.1)
  where
    other : IsSplit c ms s ss → IsSplit c (Dies d ∷ ms) s ss
    other (before, after, split, none, unb, own, rest, una) = (Dies d ∷ before, after, ap (λ ys. Dies d ∷ ys) split, none, (un.0, unb), own, rest, una)
first_step c (Begins d kind ∷ ms) s ss e un = other (first_step c ms s ss e un.1)
  where
    other : IsSplit c ms s ss → IsSplit c (Begins d kind ∷ ms) s ss
    other (before, after, split, none, unb, own, rest, una) = (Begins d kind ∷ before, after, ap (λ ys. Begins d kind ∷ ys) split, none, (un.0, unb), own, rest, una)

-- while c doesn't step its memo stays, and what each turn keeps lasts
module _ (g : Geometry) (c : ℕ) (r : Memo) (Q : State → Type 0) (keep : (q : State) (x : Move) → Held g q.words q.accounts → memos_of q.accounts c ≡ r → IsMove q x → Turned g q x → Q q → Q (moved q x)) where
  abbrev IsQuiet : State → Type 0
  IsQuiet s = (memos_of s.accounts c ≡ r) × Q s × Held g s.words s.accounts

  quiet : (a : State) (ms : List Move) (s : State) → steps_in c ms ≡ [] → IsUnbroken c ms → Leads g a ms s → IsQuiet a → IsQuiet s
  quiet a [] s none un run h = subst IsQuiet run h
  quiet a (Word t ∷ ms) s none un run h =
      elim (cases_eq t.me.who c) [
        | inl own ↦ absurd (some (sym (cond-true _ (t ∷ steps_in c ms) (steps_in c ms) (eq-eqb t.me.who c own)) ∙ none))
        | inr n ↦ quiet (moved a (Word t)) ms s (sym (cond-false _ (t ∷ steps_in c ms) (steps_in c ms) (ne_eqb t.me.who c n)) ∙ none) un run.2
            (memo_other a.accounts c t.me.who (account_after (account_at a.accounts t.me.who) t) (λ e. n (sym e)) ∙ h.0, keep a (Word t) h.2 h.0 run.0 run.1 h.1, run.1.held)
      ]
    where
      some : t ∷ steps_in c ms ≡ [] → ⊥
      some e = cc
  quiet a (Dies d ∷ ms) s none un run h = quiet (moved a (Dies d)) ms s none un.1 run.2 (memo_other a.accounts c d (account_died (account_at a.accounts d)) un.0 ∙ h.0, keep a (Dies d) h.2 h.0 run.0 run.1 h.1, run.1.held)
  quiet a (Begins d kind ∷ ms) s none un run h = quiet (moved a (Begins d kind)) ms s none un.1 run.2 (memo_other a.accounts c d (account_entered kind (account_at a.accounts d)) un.0 ∙ h.0, keep a (Begins d kind) h.2 h.0 run.0 run.1 h.1, run.1.held)

module _ {S A : Type 0} (k : Control S A) (fits : S → Memo → Memo → Trail → Type 0) (gives : S → Memo → Memo → Trail → A → Type 0) (laws : Laws k fits gives) (g : Geometry) (c : ℕ) (low : c < g.clients) (b : State) (r0 : Memo) where
  -- ---- between two word steps

  -- in a the machine fits, and in the run of these turns to b it asks for these and no other agent of its identity steps
  pub record IsCalled (a : State) (ms : List Move) (m : S) (tr : Trail) : Type 0 where
    pub long : c < length a.accounts
    pub held : Held g a.words a.accounts
    pub unbroken : IsUnbroken c ms
    pub run : Leads g a ms b
    pub me : k.me m ≡ me_of g c
    pub fit : fits_now k fits m r0 (memos_of a.accounts c)
    pub goes : GoesOn k m tr
    pub steps : steps_in c ms ≡ machine_steps k m tr

  -- where it goes on after its first step
  goes_next : (m : S) (y : Seen) (t : Trail) (x : Seen) (u : Trail) → GoesOn k m (y ∷ (t ++ x ∷ u)) → (k.finished m ≡ false) × ((k.turns m y.word ≡ None) × GoesOn k (k.after m y.word) (t ++ x ∷ u))
  goes_next m y [] x u on = on
  goes_next m y (z ∷ t) x u on = on

  -- it fits after its step
  fit_after : (a : State) (m : S) (n : ℕ) → Held g a.words a.accounts → k.me m ≡ me_of g c → fits_now k fits m r0 (memos_of a.accounts c) → k.finished m ≡ false → n ≡ seen_of (k.asks m) (slice_index a.words (at_of (k.asks m))) → k.turns m n ≡ None → fits_now k fits (k.after m n) r0 (memo_after (memos_of a.accounts c) (step_of k m n))
  fit_after a m n held me fit going found more =
      let x : ℕ = seen_of (k.asks m) (slice_index a.words (at_of (k.asks m))) in
      let here : Held (k.me m).geometry a.words a.accounts = subst (λ (z : Me). Held z.geometry a.words a.accounts) (sym me) held in
      let who : (k.me m).who < (k.me m).geometry.clients = subst (λ (z : Me). z.who < z.geometry.clients) (sym me) low in
      let fit_here : fits_now k fits m r0 (memos_of a.accounts (k.me m).who) = subst (λ (z : Me). fits_now k fits m r0 (memos_of a.accounts z.who)) (sym me) fit in
      let kept = whole_keeps k fits gives laws m a.words a.accounts r0 here who fit_here going in
      let after : fits_now k fits (k.after m x) r0 (memo_after (memos_of a.accounts (k.me m).who) (step_of k m x)) = outcome_none (k.turns m x) _ _ (ap (k.turns m) (sym found) ∙ more) kept.learns in
      subst (λ (z : Me). fits_now k fits (k.after m n) r0 (memo_after (memos_of a.accounts z.who) (step_of k m n))) me
      (subst (λ (z : ℕ). fits_now k fits (k.after m z) r0 (memo_after (memos_of a.accounts (k.me m).who) (step_of k m z))) (sym found) after)

  -- ---- the next word step

  -- In s the machine m makes its step t, which finds this, and then it asks for these; from a to s no agent of its identity steps, and Q lasts
  pub record IsNext (Q : State → Type 0) (a : State) (ms : List Move) (m : S) (y : Seen) (tr : Trail) : Type 0 where
    pub before : List Move
    pub s : State
    pub t : Step
    pub after : List Move
    pub split : ms ≡ before ++ Word t ∷ after
    pub to : Leads g a before s
    pub held : Held g s.words s.accounts
    pub same : memos_of s.accounts c ≡ memos_of a.accounts c
    pub lasts : Q s
    pub step : t ≡ step_of k m y.word
    pub move : IsMove s (Word t)
    pub turned : Turned g s (Word t)
    pub called : IsCalled (moved s (Word t)) after (k.after m y.word) tr

  pub next_step : (Q : State → Type 0) → (r : Memo) → ((q : State) (x : Move) → Held g q.words q.accounts → memos_of q.accounts c ≡ r → IsMove q x → Turned g q x → Q q → Q (moved q x)) → (m : S) (y : Seen) (t : Trail) (x : Seen) (u : Trail) (a : State) (ms : List Move) → memos_of a.accounts c ≡ r → Q a → IsCalled a ms m (y ∷ (t ++ x ∷ u))
      → IsNext Q a ms m y (t ++ x ∷ u)
  next_step Q r keep m y t x u a ms memo first h =
      let goes = goes_next m y t x u h.goes in
      let st : Step = step_of k m y.word in
      let (before, after, split, none, un, own, rest, una) = first_step c ms st (machine_steps k (k.after m y.word) (t ++ x ∷ u)) h.steps h.unbroken in
      let (s, to, from) = Leads-split g a before (Word st ∷ after) b (subst (λ (ys : List Move). Leads g a ys b) split h.run) in
      let (same, lasts, held) = quiet g c r Q keep a before s none un to (memo, first, h.held) in
      let fit : fits_now k fits m r0 (memos_of s.accounts c) = subst (fits_now k fits m r0) (memo ∙ sym same) h.fit in
      let long : c < length s.accounts = subst (λ n. c < n) (sym held.accounts) low in
      record {
        before = before;
        s = s;
        t = st;
        after = after;
        split = split;
        to = to;
        held = held;
        same = same ∙ sym memo;
        lasts = lasts;
        step = refl;
        move = from.0;
        turned = from.1;
        called = record {
          long = subst (λ n. c < n) (sym (length-accounts_after s.accounts st)) long;
          held = from.1.held;
          unbroken = una;
          run = from.2;
          me = (laws.steady m y.word goes.0).same_me ∙ h.me;
          fit = subst (fits_now k fits (k.after m y.word) r0) (sym (memo_here s.accounts st c own long)) (fit_after s m y.word held h.me fit goes.0 from.0.0 goes.1.0);
          goes = goes.1.1;
          steps = rest;
        };
      }

  -- ---- after some of its word steps

  -- in the run there is a state in which the machine has asked for the first ones
  abbrev pub Comes : State → List Move → S → Trail → Trail → Type 0
  Comes a ms m t u = (before : List Move) × (s : State) × (after : List Move) × (ms ≡ before ++ after) × Leads g a before s × IsCalled s after (after_all k m t) u

  pub comes : (t : Trail) (a : State) (ms : List Move) (m : S) (x : Seen) (u : Trail) → IsCalled a ms m (t ++ x ∷ u) → Comes a ms m t (x ∷ u)
  comes [] a ms m x u h = ([], a, ms, refl, refl, h)
  comes (y ∷ t) a ms m x u h =
      let n = next_step (λ q. Unit {0}) (memos_of a.accounts c) (λ q z held memo may turned before. tt) m y t x u a ms refl tt h in
      let (before, s, after, split, to, called) = comes t (moved n.s (Word n.t)) n.after (k.after m y.word) x u n.called in (
        n.before ++ Word n.t ∷ before,
        s,
        after,
        n.split ∙ (ap (λ (ys : List Move). n.before ++ Word n.t ∷ ys) split ∙ sym (append_assoc n.before (Word n.t ∷ before) after)),
        Leads-append g a n.before n.s (Word n.t ∷ before) s n.to (n.move, n.turned, to),
        called,
      )
