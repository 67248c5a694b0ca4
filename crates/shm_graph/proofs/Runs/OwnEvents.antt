-- the events of a call of a machine that runs by itself are those that it tells
use Rattle.std.proofs.Common.{◌≡◌, ℕ, ◌<◌, List, [], ◌∷◌, length, refl, sym, ap, ◌∙◌, subst, false, inl, inr}
use Rattle.std.proofs.lemmas.Bool.{cases_eq, eq-eqb, ne_eqb, cond-true, cond-false}
use Rattle.std.specs.Prelude.{None, slice_index}
use Rattle.shm_words.specs.declared.geometry.Geometry.{Geometry}
use Rattle.shm_graph.specs.declared.{spot.Spot.Spot, ask.{Ask.Ask, Me.Me}, memo.{Memo.Memo, Seen.Seen, Step.Step}}
use Rattle.shm_graph.specs.declared.run.{Account.Account, Move.{Move, TheVariants.{Word, Dies, Begins}}}
use Rattle.shm_graph.specs.{Spots.{spot_at, classes_in, see}, Asks.{Trail, at_of, seen_of, call_before}}
use Rattle.shm_graph.specs.{Changes.memo_after, Events.Event}
use Rattle.shm_graph.specs.Laws.{Control, Laws, Frame, Stands, frame_of, framed, step_of, event_on}
use Rattle.shm_graph.specs.Runs.{Held, State, moved, memos_of, account_at, account_after, account_died, account_entered, Leads}
use Rattle.shm_graph.specs.{CallEvents.{steps_in, events_in, IsUnbroken}, Whole.fits_now}
use Rattle.shm_graph.specs.Tells.{Tells, GoesOn, machine_steps, tells_along}
use Rattle.shm_graph.proofs.{Spots.Seeing.{classes-see, see-spot}, Runs.Lists.{length-accounts_after, length-changed}}
use Rattle.shm_graph.proofs.{Runs.CallEventsOf.{memo_other, memo_here}, Machines.Composing.outcome_none}
use Rattle.shm_graph.proofs.Machines.Wholes.{whole_inside, whole_keeps}

-- the identity of a pool
abbrev me_of : Geometry → ℕ → Me
me_of g c = record { geometry = g; who = c }

-- where an identity takes no step, it has no event
no_events : (g : Geometry) (c : ℕ) (a : State) (ms : List Move) → steps_in c ms ≡ [] → events_in g c a ms ≡ []
no_events g c a [] none = refl
no_events g c a (Word t ∷ ms) none =
    elim (cases_eq t.me.who c) [
      | inl e ↦ (let some : t ∷ steps_in c ms ≡ [] = sym (cond-true _ (t ∷ steps_in c ms) (steps_in c ms) (eq-eqb t.me.who c e)) ∙ none in absurd (full (steps_in c ms) some))
      | inr n ↦ rw (ne_eqb t.me.who c n) (no_events g c (moved a (Word t)) ms (sym (cond-false _ (t ∷ steps_in c ms) (steps_in c ms) (ne_eqb t.me.who c n)) ∙ none))
    ]
  where
    full : (ts : List Step) → t ∷ ts ≡ [] → ⊥
    full ts e = cc
no_events g c a (Dies d ∷ ms) none = no_events g c (moved a (Dies d)) ms none
no_events g c a (Begins d k ∷ ms) none = no_events g c (moved a (Begins d k)) ms none

-- lists that are the same begin with the same step
first_same : (t u : Step) (ts us : List Step) → t ∷ ts ≡ u ∷ us → t ≡ u
first_same t u ts us e = cc

-- and go on in the same way
rest_same : (t u : Step) (ts us : List Step) → t ∷ ts ≡ u ∷ us → ts ≡ us
rest_same t u ts us e = cc

module _ {S A : Type 0} (k : Control S A) (fits : S → Memo → Memo → Trail → Type 0) (gives : S → Memo → Memo → Trail → A → Type 0) (laws : Laws k fits gives) (does : S → ℕ → Event) (tells : Tells k fits does) where
  -- what the machine finds in these words
  abbrev found : S → List ℕ → ℕ
  found m ws = seen_of (k.asks m) (slice_index ws (at_of (k.asks m)))

  -- the event of its step on lists
  found_event : (m : S) (ws : List ℕ) (es : List Account) (r0 : Memo) → let me : Me = k.me m in Held me.geometry ws es → me.who < me.geometry.clients → fits_now k fits m r0 (memos_of es me.who) → k.finished m ≡ false
      → event_on (memos_of es me.who) (step_of k m (found m ws)) (spot_at me.geometry (classes_in me.geometry ws) (at_of (k.asks m))) ≡ does m (found m ws)
  found_event m ws es r0 h l fit going =
      let me : Me = k.me m in
      let g : Geometry = me.geometry in
      let a : Ask = k.asks m in
      let w : Spot → ℕ = see g ws in
      let r : ℕ → Memo = memos_of es in
      let tr : Trail = call_before (k.fresh m) (r me.who).call in
      let f : Frame = frame_of k m (found m ws) in
      let p : Spot = spot_at g (classes_in g ws) (at_of a) in
      let e : w p ≡ slice_index ws (at_of a) = see-spot g ws (at_of a) (whole_inside k fits gives laws m r0 (r me.who) l fit going) in
      let stands : Stands me w r f tr = record { held = h.at; who = l; call = ([], refl) } in
      let x : event_on (r me.who) (framed me a f (seen_of a (w p))) p ≡ does m (seen_of a (w p)) =
      subst (λ (class : ℕ → ℕ → ℕ). let q : Spot = spot_at g class (at_of a) in event_on (r me.who) (framed me a f (seen_of a (w q))) q ≡ does m (seen_of a (w q))) (classes-see g ws h.at.fits) (tells m r0 tr w r f going stands fit) in
      subst (λ (z : ℕ). event_on (r me.who) (framed me a f (seen_of a z)) p ≡ does m (seen_of a z)) e x

  -- a step of c in a state is the one that the machine takes
  record Steps (g : Geometry) (c : ℕ) (a : State) (m : S) (r0 : Memo) (t : Step) (n : ℕ) : Type 0 where
    pub me : k.me m ≡ me_of g c
    pub who : c < g.clients
    pub held : Held g a.words a.accounts
    pub fit : fits_now k fits m r0 (memos_of a.accounts c)
    pub going : k.finished m ≡ false
    pub step : t ≡ step_of k m n
    pub finds : t.seen ≡ seen_of t.ask (slice_index a.words (at_of t.ask))

  -- what is known there, by what the machine says of itself
  held_by : (g : Geometry) (c : ℕ) (a : State) (m : S) (r0 : Memo) (t : Step) (n : ℕ) → Steps g c a m r0 t n → Held (k.me m).geometry a.words a.accounts
  held_by g c a m r0 t n s = subst (λ (z : Me). Held z.geometry a.words a.accounts) (sym s.me) s.held

  -- its identity is one of the pool
  who_by : (g : Geometry) (c : ℕ) (a : State) (m : S) (r0 : Memo) (t : Step) (n : ℕ) → Steps g c a m r0 t n → (k.me m).who < (k.me m).geometry.clients
  who_by g c a m r0 t n s = subst (λ (z : Me). z.who < z.geometry.clients) (sym s.me) s.who

  -- it fits the memo of its identity
  fit_by : (g : Geometry) (c : ℕ) (a : State) (m : S) (r0 : Memo) (t : Step) (n : ℕ) → Steps g c a m r0 t n → fits_now k fits m r0 (memos_of a.accounts (k.me m).who)
  fit_by g c a m r0 t n s = subst (λ (z : Me). fits_now k fits m r0 (memos_of a.accounts z.who)) (sym s.me) s.fit

  -- it finds the word that is there
  same_word : (g : Geometry) (c : ℕ) (a : State) (m : S) (r0 : Memo) (t : Step) (n : ℕ) → Steps g c a m r0 t n → found m a.words ≡ n
  same_word g c a m r0 t n s = sym (subst (λ (u : Step). u.seen ≡ seen_of u.ask (slice_index a.words (at_of u.ask))) s.step s.finds)

  -- its event
  own_event : (g : Geometry) (c : ℕ) (a : State) (m : S) (r0 : Memo) (t : Step) (n : ℕ) → Steps g c a m r0 t n → event_on (memos_of a.accounts c) t (spot_at g (classes_in g a.words) (at_of t.ask)) ≡ does m n
  own_event g c a m r0 t n s =
      let here = found_event m a.words a.accounts r0 (held_by g c a m r0 t n s) (who_by g c a m r0 t n s) (fit_by g c a m r0 t n s) s.going in
      let named : event_on (memos_of a.accounts c) (step_of k m (found m a.words)) (spot_at g (classes_in g a.words) (at_of (k.asks m))) ≡ does m (found m a.words) =
      subst (λ (z : Me). event_on (memos_of a.accounts z.who) (step_of k m (found m a.words)) (spot_at z.geometry (classes_in z.geometry a.words) (at_of (k.asks m))) ≡ does m (found m a.words)) s.me here in
      let told : event_on (memos_of a.accounts c) (step_of k m n) (spot_at g (classes_in g a.words) (at_of (k.asks m))) ≡ does m n =
      subst (λ (z : ℕ). event_on (memos_of a.accounts c) (step_of k m z) (spot_at g (classes_in g a.words) (at_of (k.asks m))) ≡ does m z) (same_word g c a m r0 t n s) named in
      subst (λ (u : Step). event_on (memos_of a.accounts c) u (spot_at g (classes_in g a.words) (at_of u.ask)) ≡ does m n) (sym s.step) told

  -- where it goes on, it fits after the step
  own_fit : (g : Geometry) (c : ℕ) (a : State) (m : S) (r0 : Memo) (t : Step) (n : ℕ) → Steps g c a m r0 t n → k.turns m n ≡ None → fits_now k fits (k.after m n) r0 (memo_after (memos_of a.accounts c) t)
  own_fit g c a m r0 t n s more =
      let same : found m a.words ≡ n = same_word g c a m r0 t n s in
      let kept = whole_keeps k fits gives laws m a.words a.accounts r0 (held_by g c a m r0 t n s) (who_by g c a m r0 t n s) (fit_by g c a m r0 t n s) s.going in
      let here : fits_now k fits (k.after m (found m a.words)) r0 (memo_after (memos_of a.accounts (k.me m).who) (step_of k m (found m a.words))) = outcome_none (k.turns m (found m a.words)) _ _ (ap (k.turns m) same ∙ more) kept.learns in
      let named : fits_now k fits (k.after m (found m a.words)) r0 (memo_after (memos_of a.accounts c) (step_of k m (found m a.words))) =
      subst (λ (z : Me). fits_now k fits (k.after m (found m a.words)) r0 (memo_after (memos_of a.accounts z.who) (step_of k m (found m a.words)))) s.me here in
      let told : fits_now k fits (k.after m n) r0 (memo_after (memos_of a.accounts c) (step_of k m n)) = subst (λ (z : ℕ). fits_now k fits (k.after m z) r0 (memo_after (memos_of a.accounts c) (step_of k m z))) same named in
      subst (λ (u : Step). fits_now k fits (k.after m n) r0 (memo_after (memos_of a.accounts c) u)) (sym s.step) told

  -- in these turns the events of c are those that it tells, from any machine that fits
  abbrev Told : Geometry → ℕ → State → List Move → Type 0
  Told g c a ms = (m : S) (r0 : Memo) (tr : Trail) → k.me m ≡ me_of g c → fits_now k fits m r0 (memos_of a.accounts c) → GoesOn k m tr → steps_in c ms ≡ machine_steps k m tr → events_in g c a ms ≡ tells_along k does m tr

  -- it isn't finished where it takes a step
  going_first : (m : S) (x : Seen) (tr : Trail) → GoesOn k m (x ∷ tr) → k.finished m ≡ false
  going_first m x [] on = on
  going_first m x (y ∷ tr) on = on.0

  -- after its step
  told_after : (g : Geometry) (c : ℕ) (a : State) (t : Step) (ms : List Move) (m : S) (r0 : Memo) (x : Seen) (tr : Trail) → t.me.who ≡ c → c < length a.accounts → Told g c (moved a (Word t)) ms → Steps g c a m r0 t x.word → GoesOn k m (x ∷ tr) → steps_in c ms ≡ machine_steps k (k.after m x.word) tr
      → events_in g c (moved a (Word t)) ms ≡ tells_along k does (k.after m x.word) tr
  told_after g c a t ms m r0 x [] e l rest s on steps = no_events g c (moved a (Word t)) ms steps
  told_after g c a t ms m r0 x (y ∷ tr) e l rest s on steps =
      rest (k.after m x.word) r0 (y ∷ tr) ((laws.steady m x.word s.going).same_me ∙ s.me)
      (subst (fits_now k fits (k.after m x.word) r0) (sym (memo_here a.accounts t c e l)) (own_fit g c a m r0 t x.word s on.1.0))
      on.1.1 steps

  -- from its step on
  told_step : (g : Geometry) (c : ℕ) (a : State) (t : Step) (ms : List Move) (m : S) (r0 : Memo) (tr : Trail) → t.me.who ≡ c → c < g.clients → c < length a.accounts → Held g a.words a.accounts → t.seen ≡ seen_of t.ask (slice_index a.words (at_of t.ask)) → Told g c (moved a (Word t)) ms
      → k.me m ≡ me_of g c → fits_now k fits m r0 (memos_of a.accounts c) → GoesOn k m tr → t ∷ steps_in c ms ≡ machine_steps k m tr
      → event_on (memos_of a.accounts c) t (spot_at g (classes_in g a.words) (at_of t.ask)) ∷ events_in g c (moved a (Word t)) ms ≡ tells_along k does m tr
  told_step g c a t ms m r0 [] e l long h finds rest me fit on steps = cc
  told_step g c a t ms m r0 (x ∷ tr) e l long h finds rest me fit on steps =
      let s : Steps g c a m r0 t x.word =
      record {
        me = me;
        who = l;
        held = h;
        fit = fit;
        going = going_first m x tr on;
        step = first_same t (step_of k m x.word) (steps_in c ms) (machine_steps k (k.after m x.word) tr) steps;
        finds = finds;
      } in
      ap (λ (z : Event). z ∷ events_in g c (moved a (Word t)) ms) (own_event g c a m r0 t x.word s)
      ∙ ap (λ (zs : List Event). does m x.word ∷ zs) (told_after g c a t ms m r0 x tr e long rest s on (rest_same t (step_of k m x.word) (steps_in c ms) (machine_steps k (k.after m x.word) tr) steps))

  -- where c's memo stays
  told_other : (g : Geometry) (c : ℕ) (a : State) (next : State) (ms : List Move) → memos_of next.accounts c ≡ memos_of a.accounts c → Told g c next ms → (m : S) (r0 : Memo) (tr : Trail) → k.me m ≡ me_of g c → fits_now k fits m r0 (memos_of a.accounts c) → GoesOn k m tr → steps_in c ms ≡ machine_steps k m tr
      → events_in g c next ms ≡ tells_along k does m tr
  told_other g c a next ms same rest m r0 tr me fit on steps = rest m r0 tr me (subst (fits_now k fits m r0) (sym same) fit) on steps

  -- in a run
  told_run : (g : Geometry) (c : ℕ) (a : State) (ms : List Move) (b : State) → c < g.clients → c < length a.accounts → Held g a.words a.accounts → IsUnbroken c ms → Leads g a ms b → Told g c a ms
  told_run g c a [] b l long h u run m r0 [] me fit on steps = refl
  told_run g c a [] b l long h u run m r0 (x ∷ tr) me fit on steps = cc
  told_run g c a (Word t ∷ ms) b l long h u run m r0 tr me fit on steps =
      let next : State = moved a (Word t) in
      let rest : Told g c next ms = told_run g c next ms b l (subst (λ n. c < n) (sym (length-accounts_after a.accounts t)) long) run.1.held u run.2 in
      elim (cases_eq t.me.who c) [
        | inl e ↦ rw (eq-eqb t.me.who c e) (told_step g c a t ms m r0 tr e l long h run.0.0 rest me fit on (sym (cond-true _ (t ∷ steps_in c ms) (steps_in c ms) (eq-eqb t.me.who c e)) ∙ steps))
        | inr n ↦ rw (ne_eqb t.me.who c n)
            (told_other g c a next ms (memo_other a.accounts c t.me.who (account_after (account_at a.accounts t.me.who) t) (λ e. n (sym e))) rest m r0 tr me fit on (sym (cond-false _ (t ∷ steps_in c ms) (steps_in c ms) (ne_eqb t.me.who c n)) ∙ steps))
      ]
  told_run g c a (Dies d ∷ ms) b l long h u run m r0 tr me fit on steps =
      let next : State = moved a (Dies d) in
      told_other g c a next ms (memo_other a.accounts c d (account_died (account_at a.accounts d)) u.0) (told_run g c next ms b l (subst (λ n. c < n) (sym (length-changed account_died a.accounts d)) long) run.1.held u.1 run.2) m r0 tr me fit on steps
  told_run g c a (Begins d kind ∷ ms) b l long h u run m r0 tr me fit on steps =
      let next : State = moved a (Begins d kind) in
      told_other g c a next ms (memo_other a.accounts c d (account_entered kind (account_at a.accounts d)) u.0) (told_run g c next ms b l (subst (λ n. c < n) (sym (length-changed (account_entered kind) a.accounts d)) long) run.1.held u.1 run.2) m r0 tr me fit on steps

-- of any machine
pub own_told : {S A : Type 0} (k : Control S A) (fits : S → Memo → Memo → Trail → Type 0) (gives : S → Memo → Memo → Trail → A → Type 0) → Laws k fits gives → (does : S → ℕ → Event) → Tells k fits does → (g : Geometry) (c : ℕ) (a : State) (ms : List Move) (b : State) (m : S) (r0 : Memo) (tr : Trail)
    → k.me m ≡ me_of g c → c < g.clients → c < length a.accounts → Held g a.words a.accounts → IsUnbroken c ms → Leads g a ms b → fits_now k fits m r0 (memos_of a.accounts c) → GoesOn k m tr → steps_in c ms ≡ machine_steps k m tr → events_in g c a ms ≡ tells_along k does m tr
own_told k fits gives laws does tells g c a ms b m r0 tr me l long h u run fit on steps = told_run k fits gives laws does tells g c a ms b l long h u run m r0 tr me fit on steps
