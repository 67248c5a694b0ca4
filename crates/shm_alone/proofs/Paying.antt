-- a machine that works alone has at most so many word steps left as its control and the graph of references say
use Rattle.std.proofs.Common.{◌≡◌, ℕ, ◌+◌, ◌*◌, ◌<◌, ◌≤◌, List, [], ◌∷◌, length, refl, sym, ◌∙◌, subst, arith, false}
use Rattle.std.specs.Prelude.{None, slice_index}
use Rattle.shm_words.specs.declared.geometry.Geometry.{Geometry}
use Rattle.shm_graph.specs.declared.{spot.Spot.Spot, ask.{Ask.Ask, Me.Me}, memo.{Memo.Memo, Step.Step}}
use Rattle.shm_graph.specs.declared.run.{Account.Account, Move.TheVariants.Word}
use Rattle.shm_graph.specs.Asks.{Trail, at_of, seen_of, call_before, words_after, words_set}
use Rattle.shm_graph.specs.Events.{Event, Graph, graph_of, Happens}
use Rattle.shm_graph.specs.Laws.{Control, Laws, Frame, Stands, frame_of, framed, step_of, event_on}
use Rattle.shm_graph.specs.{Runs.{Held, Leads, State, state, moved, memos_of}, Spots.{spot_at, classes_in, see}}
use Rattle.shm_graph.specs.{Tells.{Tells, GoesOn, machine_steps}, Views.view, Whole.fits_now}
use Rattle.shm_graph.proofs.Machines.{Composing.outcome_none, Wholes.{whole_inside, whole_keeps}}
use Rattle.shm_graph.proofs.{Runs.{CallEventsOf.memo_here, Lists.see-words_set}, Spots.Seeing.{classes-see, see-spot}}
use Rattle.shm_plain.specs.Calls.{words}
use Rattle.shm_alone.specs.{Alone.{pay, weight, IsPaid, EndsAlone}, Size.{size_of, IsHeldWithin}}
use Rattle.shm_alone.proofs.Falling.{size_falls, among_on}

-- the identity of a pool
abbrev pub me_of : Geometry → ℕ → Me
me_of g c = record { geometry = g; who = c }

-- the graph of references of a state
abbrev pub graph_in : Geometry → State → Graph
graph_in g s = graph_of g (see g s.words) (view (memos_of s.accounts))

-- what is left where a step was paid for and the graph shrank
still_left : (l l' s s' x : ℕ) → l' < l + pay * x → s' + x ≤ s → l' + pay * s' + 1 ≤ l + pay * s
still_left l l' s s' x a b = omega arith

module _ {S A : Type 0} (k : Control S A) (fits : S → Memo → Memo → Trail → Type 0) (gives : S → Memo → Memo → Trail → A → Type 0) (laws : Laws k fits gives) (does : S → ℕ → Event) (tells : Tells k fits does)
    (alone : S → (Spot → ℕ) → Type 0) (left : S → ℕ) (saved : A → ℕ) (ends : EndsAlone k does alone left saved fits) where
  -- what the machine finds in these words
  abbrev found : S → List ℕ → ℕ
  found m ws = seen_of (k.asks m) (slice_index ws (at_of (k.asks m)))

  -- the step of m that found n is paid for, the graph shrinks by it, and where m goes on it fits
  record Goes (me : Me) (a : State) (m : S) (r0 : Memo) (n : ℕ) : Type 0 where
    pub paid : IsPaid k does alone left saved m n (see me.geometry (moved a (Word (step_of k m n))).words)
    pub falls : size_of me.geometry.wide (graph_in me.geometry (moved a (Word (step_of k m n)))) + weight (does m n) ≤ size_of me.geometry.wide (graph_in me.geometry a)
    pub fit : k.turns m n ≡ None → fits_now k fits (k.after m n) r0 (memos_of (moved a (Word (step_of k m n))).accounts me.who)

  -- on lists
  goes_here : (m : S) (ws : List ℕ) (es : List Account) (r0 : Memo) → let me : Me = k.me m in Held me.geometry ws es → me.who < me.geometry.clients → fits_now k fits m r0 (memos_of es me.who) → k.finished m ≡ false → alone m (see me.geometry ws)
      → Goes me (state ws es) m r0 (found m ws)
  goes_here m ws es r0 h l fit going knows =
      let me : Me = k.me m in
      let g : Geometry = me.geometry in
      let a : Ask = k.asks m in
      let w : Spot → ℕ = see g ws in
      let r : ℕ → Memo = memos_of es in
      let tr : Trail = call_before (k.fresh m) (r me.who).call in
      let n : ℕ = found m ws in
      let t : Step = step_of k m n in
      let f : Frame = frame_of k m n in
      let p : Spot = spot_at g (classes_in g ws) (at_of a) in
      let within = whole_inside k fits gives laws m r0 (r me.who) l fit going in
      let e : w p ≡ slice_index ws (at_of a) = see-spot g ws (at_of a) within in
      let stands : Stands me w r f tr = record { held = h.at; who = l; call = ([], refl) } in
      let x : IsPaid k does alone left saved m (seen_of a (w p)) (words_after w a p) =
      subst (λ (class : ℕ → ℕ → ℕ). let q : Spot = spot_at g class (at_of a) in IsPaid k does alone left saved m (seen_of a (w q)) (words_after w a q)) (classes-see g ws h.at.fits) (ends m r0 tr w r f going stands fit knows) in
      let y : event_on (r me.who) (framed me a f (seen_of a (w p))) p ≡ does m (seen_of a (w p)) =
      subst (λ (class : ℕ → ℕ → ℕ). let q : Spot = spot_at g class (at_of a) in event_on (r me.who) (framed me a f (seen_of a (w q))) q ≡ does m (seen_of a (w q))) (classes-see g ws h.at.fits) (tells m r0 tr w r f going stands fit) in
      let x' : IsPaid k does alone left saved m n (words_after w a p) = subst (λ (z : ℕ). IsPaid k does alone left saved m (seen_of a z) (words_after w a p)) e x in
      let y' : event_on (r me.who) t p ≡ does m n = subst (λ (z : ℕ). event_on (r me.who) (framed me a f (seen_of a z)) p ≡ does m (seen_of a z)) e y in
      let kept = whole_keeps k fits gives laws m ws es r0 h l fit going in
      let one = kept.turned.event.one_event in
      let seen : words_after w a p ≡ see g (words_set a ws) = sym (see-words_set g ws (view r) me.who a p h.at h.words within refl one.allowed) in
      let happens : Happens g w (does m n) (graph_in g (state ws es)) (graph_in g (moved (state ws es) (Word t))) = subst (λ (z : Event). Happens g w z (graph_in g (state ws es)) (graph_in g (moved (state ws es) (Word t)))) y' one.event in
      record {
        paid = subst (λ (v : Spot → ℕ). IsPaid k does alone left saved m n v) seen x';
        falls = size_falls g w (view r) h.at (does m n) (graph_in g (moved (state ws es) (Word t))) (subst (IsHeldWithin g.clients) y' (among_on g.clients (r me.who) t p l)) x'.loss happens;
        fit = λ more. subst (λ (z : Memo). fits_now k fits (k.after m n) r0 z) (sym (memo_here es t me.who refl (subst (λ (z : ℕ). me.who < z) (sym h.accounts) l))) (outcome_none (k.turns m n) _ _ more kept.learns);
      }

  -- as an identity of a pool
  goes_as : (me : Me) (a : State) (m : S) (r0 : Memo) (n : ℕ) → k.me m ≡ me → Held me.geometry a.words a.accounts → me.who < me.geometry.clients → fits_now k fits m r0 (memos_of a.accounts me.who) → k.finished m ≡ false → alone m (see me.geometry a.words) → found m a.words ≡ n → Goes me a m r0 n
  goes_as me a m r0 n e h l fit going knows finds =
      subst (λ (z : ℕ). Goes me a m r0 z) finds
      (subst (λ (z : Me). Held z.geometry a.words a.accounts → z.who < z.geometry.clients → fits_now k fits m r0 (memos_of a.accounts z.who) → alone m (see z.geometry a.words) → Goes z a m r0 (found m a.words)) e
      (λ h' l' fit' knows'. goes_here m a.words a.accounts r0 h' l' fit' going knows') h l fit knows)

  -- in a run of its steps alone
  pub at_most : (g : Geometry) (c : ℕ) (a : State) (m : S) (r0 : Memo) (tr : Trail) (b : State) → k.me m ≡ me_of g c → c < g.clients → Held g a.words a.accounts → Leads g a (words (machine_steps k m tr)) b → fits_now k fits m r0 (memos_of a.accounts c) → GoesOn k m tr → alone m (see g a.words)
      → length tr ≤ left m + pay * size_of g.wide (graph_in g a) + 1
  at_most g c a m r0 [] b me l h run fit on knows = omega arith
  at_most g c a m r0 (x ∷ []) b me l h run fit on knows = omega arith
  at_most g c a m r0 (x ∷ y ∷ tr) b me l h run fit on knows =
      let n : ℕ = x.word in
      let next : State = moved a (Word (step_of k m n)) in
      let more : k.turns m n ≡ None = on.1.0 in
      let goes : Goes (me_of g c) a m r0 n = goes_as (me_of g c) a m r0 n me h l fit on.0 knows (sym run.0.0) in
      let knows' : alone (k.after m n) (see g next.words) = outcome_none (k.turns m n) _ _ more goes.paid.alone in
      let less : left (k.after m n) < left m + pay * weight (does m n) = outcome_none (k.turns m n) _ _ more goes.paid.paid in
      let rest : length (y ∷ tr) ≤ left (k.after m n) + pay * size_of g.wide (graph_in g next) + 1 =
      at_most g c next (k.after m n) r0 (y ∷ tr) b ((laws.steady m n on.0).same_me ∙ me) l run.1.held run.2 (goes.fit more) on.1.1 knows' in
      let enough = still_left (left m) (left (k.after m n)) (size_of g.wide (graph_in g a)) (size_of g.wide (graph_in g next)) (weight (does m n)) less goes.falls in
      omega arith
