-- machines that are made of others end alone where those do: a machine of calls, one of two machines, one word step, and a machine whose answers are told otherwise: what is proved of it
use Rattle.std.proofs.Common.{◌≡◌, ℕ, ◌+◌, ◌*◌, ◌<◌, ◌≤◌, Bool, false, refl, sym, ◌∙◌, subst, arith, append_assoc, List, [], ◌∷◌, ◌++◌}
use Rattle.std.specs.Prelude.{Option, Some, None}
use Rattle.shm_graph.specs.{declared.{ask.{Ask.Ask, Me.Me}, spot.Spot.Spot, memo.Memo.Memo}, Spots.spot_at}
use Rattle.shm_graph.specs.{Blocks.classes, Asks.{Trail, at_of, call_before, pair, seen_of, words_after}}
use Rattle.shm_graph.specs.{Agents.recovers, Changes.memo_on, Events.Event}
use Rattle.shm_graph.specs.{Laws.{Control, Ends, Frame, KeptAt, Outcome, Stands, Then, framed}, Mapped.OnTheWay}
use Rattle.shm_graph.specs.{Tells.happens_along, Views.at1}
use Rattle.shm_graph.proofs.{Memos.MemoSteps.recovers_on, Runs.Lists.at1_here, StepKinds.KindKeeping.not_fresh}
use Rattle.plans.specs.declared.{calls.Calls.Calls, or.Or.{Or, TheVariants.{First, Second}}}
use Rattle.plans.specs.{CallsControl.{answered, called_on, calls_control, calls_does, planned}, CallsFit.CallsFits}
use Rattle.plans.specs.{Either.{OrFits, or_control, or_does}, Proved.Either.told_outcome}
use Rattle.plans.specs.{EventWords.{EventFits, event_does}, Parts.IsHeld, Placed.MayStand, Plans.{PlanLaws, Planned}}
use Rattle.plans.specs.Words.{WordFits, word_control, word_does}
use Rattle.shm_alone.specs.Alone.{EndsAlone, IsLoss, IsPaid, pay, weight}
use Rattle.shm_alone.specs.Lifting.{calls_alone, calls_left, anything, or_alone, or_left, or_saved, word_left, word_saved}

-- ---- sums

-- what is added on both sides
add_both : (a b c d : ℕ) → a < b + d → a + c < b + c + d
add_both a b c d h = omega arith

-- what an answer has over pays for what is left then
paid_by : (a s l r d : ℕ) → a ≤ r + s → s < l + d → a < l + r + d
paid_by a s l r d h i = omega arith

module _ {P C B A : Type 0} (k : Control C B) (q : Planned P C B A) (alone : C → (Spot → ℕ) → Type 0) (left : C → ℕ) (saved : B → ℕ) (stands : P → (Spot → ℕ) → Type 0) (rest : P → ℕ) (saved' : A → ℕ) where
  -- what the answer of a call has over pays for what the plan does next
  abbrev pub Pays : P → B → Type 0
  Pays p b = Outcome (q.steered.turns p b) (left (q.steered.call (q.steered.after p b)) + rest (q.steered.after p b) ≤ rest p + saved b) (λ x. saved' x ≤ rest p + saved b)

  -- and what the plan knows of the words holds then
  abbrev pub GoesOn : P → B → (Spot → ℕ) → Type 0
  GoesOn p b w = Outcome (q.steered.turns p b) (stands (q.steered.after p b) w × (left (q.steered.call (q.steered.after p b)) + rest (q.steered.after p b) ≤ rest p + saved b)) (λ x. saved' x ≤ rest p + saved b)

  -- What is owed of a plan whose calls end alone: that its parts do, that a call begins with what it knows of the words, and from each held state that fits, that the step keeps what the plan knows, and that what the answer of the call has over pays for what the plan does next
  pub record PlanEnds : Type 0 where
    pub parts : (p : P) → EndsAlone k (q.part p).does alone left saved (q.part p).fits
    pub begins : (p : P) (w : Spot → ℕ) → stands p w → alone (q.steered.call p) w
    pub follows : (m : Calls P C) (r0 : Memo) (tr : Trail) (w : Spot → ℕ) (r : ℕ → Memo) (f : Frame) → k.finished m.call ≡ false → Stands (q.steered.me m.plan) w r f tr → CallsFits k q m r0 (r (q.steered.me m.plan).who) tr → calls_alone alone stands m w
        → let a = k.asks m.call in
        let p = spot_at (q.steered.me m.plan).geometry (classes w) (at_of a) in
        let n = seen_of a (w p) in
        Outcome (k.turns m.call n) (stands m.plan (words_after w a p)) (λ b. GoesOn m.plan b (words_after w a p))

-- ---- where the call of a machine stands

-- the end of an end is an end
ends_more : (call u t : Trail) → Ends call (u ++ t) → Ends call t
ends_more call u t (before, e) = (before ++ u, e ∙ sym (append_assoc before u t))

module _ {P C B A : Type 0} (k : Control C B) (q : Planned P C B A) (m : Calls P C) (r0 : Memo) (tr : Trail) (w : Spot → ℕ) (r : ℕ → Memo) (f : Frame) (s : Stands (q.steered.me m.plan) w r f tr) (fit : CallsFits k q m r0 (r (q.steered.me m.plan).who) tr) where
  -- the call stands where the whole does
  call_stands : Stands (k.me m.call) w r f fit.t
  call_stands =
      subst (λ (me : Me). Stands me w r f fit.t) (sym fit.me)
      (record { held = s.held; who = s.who; call = ends_more (call_before f.fresh (r (q.steered.me m.plan).who).call) fit.before fit.t (subst (Ends (call_before f.fresh (r (q.steered.me m.plan).who).call)) fit.split s.call) })

  -- the call fits where the whole does
  call_fits : (q.part m.plan).fits m.call fit.rs (r (k.me m.call).who) fit.t
  call_fits = subst (λ (me : Me). (q.part m.plan).fits m.call fit.rs (r me.who) fit.t) (sym fit.me) fit.fits

  -- and it may stand there
  call_may : MayStand (q.steered.first m.plan) f
  call_may e = not_fresh (q.steered.me m.plan) w r f tr s (λ z. fit.later e (front_none fit.before fit.t (sym fit.split ∙ z)))
    where
      front_none : (u t : Trail) → u ++ t ≡ [] → u ≡ []
      front_none [] t e = refl
      front_none (y ∷ u) t e = absurd (cc)

module _ {P C B A : Type 0} (k : Control C B) (q : Planned P C B A) (alone : C → (Spot → ℕ) → Type 0) (left : C → ℕ) (saved : B → ℕ) (stands : P → (Spot → ℕ) → Type 0) (rest : P → ℕ) (saved' : A → ℕ) (d : PlanEnds k q alone left saved stands rest saved') where
  -- what the machine knows after the step
  known : (p : P) (c : C) (o : Option B) (w : Spot → ℕ) → Outcome o (alone c w) (λ b. Unit {0}) → Outcome o (stands p w) (λ b. GoesOn k q alone left saved stands rest saved' p b w)
      → Outcome (answered k q.steered p o) (calls_alone alone stands (called_on k q.steered p c o) w) (λ x. Unit {0})
  known p c None w h i = (h, i)
  known p c (Some b) w h i = go (q.steered.turns p b) i
    where
      go : (u : Option A) → Outcome u (stands (q.steered.after p b) w × (left (q.steered.call (q.steered.after p b)) + rest (q.steered.after p b) ≤ rest p + saved b)) (λ x. saved' x ≤ rest p + saved b)
          → Outcome u (calls_alone alone stands (planned k q.steered c (q.steered.after p b) u) w) (λ x. Unit {0})
      go None y = (d.begins (q.steered.after p b) w y.0, y.0)
      go (Some x) y = tt

  -- it is paid for
  covered : (p : P) (c : C) (o : Option B) (w : Spot → ℕ) (l e : ℕ) → Outcome o (left c < l + e) (λ b. saved b < l + e) → Outcome o (stands p w) (λ b. GoesOn k q alone left saved stands rest saved' p b w)
      → Outcome (answered k q.steered p o) (calls_left left rest (called_on k q.steered p c o) < l + rest p + e) (λ x. saved' x < l + rest p + e)
  covered p c None w l e h i = add_both (left c) l (rest p) e h
  covered p c (Some b) w l e h i = go (q.steered.turns p b) i
    where
      go : (u : Option A) → Outcome u (stands (q.steered.after p b) w × (left (q.steered.call (q.steered.after p b)) + rest (q.steered.after p b) ≤ rest p + saved b)) (λ x. saved' x ≤ rest p + saved b)
          → Outcome u (calls_left left rest (planned k q.steered c (q.steered.after p b) u) < l + rest p + e) (λ x. saved' x < l + rest p + e)
      go None y = paid_by (left (q.steered.call (q.steered.after p b)) + rest (q.steered.after p b)) (saved b) l (rest p) e y.1 h
      go (Some x) y = paid_by (saved' x) (saved b) l (rest p) e y h

  -- a machine of calls ends alone where its plan owes that
  pub calls_end : EndsAlone (calls_control k q.steered) (calls_does k q) (calls_alone alone stands) (calls_left left rest) saved' (CallsFits k q)
  calls_end m r0 tr w r f going s fit knows =
      let a : Ask = k.asks m.call in
      let at : Spot = spot_at (q.steered.me m.plan).geometry (classes w) (at_of a) in
      let n : ℕ = seen_of a (w at) in
      let w' : Spot → ℕ = words_after w a at in
      let one : IsPaid k (q.part m.plan).does alone left saved m.call n w' =
      subst (λ (me : Me). let p = spot_at me.geometry (classes w) (at_of a) in IsPaid k (q.part m.plan).does alone left saved m.call (seen_of a (w p)) (words_after w a p)) fit.me
      (d.parts m.plan m.call fit.rs fit.t w r f going (call_stands k q m r0 tr w r f s fit) (call_fits k q m r0 tr w r f s fit) knows.0) in
      let next = d.follows m r0 tr w r f going s fit knows in
      record {
        loss = one.loss;
        alone = known m.plan (k.after m.call n) (k.turns m.call n) w' one.alone next;
        paid = covered m.plan (k.after m.call n) (k.turns m.call n) w' (left m.call) (pay * weight ((q.part m.plan).does m.call n)) one.paid next;
      }

-- ---- plans that know nothing of the words

-- what follows of an answer
of_answer : {A : Type 0} (o : Option A) (P : Type 0) (Q R : A → Type 0) → ((a : A) → Q a → R a) → Outcome o P Q → Outcome o (Unit {0}) R
of_answer None P Q R then h = tt
of_answer (Some a) P Q R then h = then a h

-- with nothing known of the words
with_nothing : {A : Type 0} (o : Option A) (P : Type 0) (Q : A → Type 0) → Outcome o P Q → Outcome o (Unit {0} × P) Q
with_nothing None P Q h = (tt, h)
with_nothing (Some a) P Q h = h

-- what is so of each answer
each_answer : {A : Type 0} (o : Option A) (Q : A → Type 0) → ((a : A) → Q a) → Outcome o (Unit {0}) Q
each_answer None Q h = tt
each_answer (Some a) Q h = h a

module _ {P C B A : Type 0} (k : Control C B) (q : Planned P C B A) (alone : C → (Spot → ℕ) → Type 0) (left : C → ℕ) (saved : B → ℕ) (rest : P → ℕ) (saved' : A → ℕ) where
  -- What is owed of a plan that knows nothing of the words: where what is known before a call is so, and the call left what it says, what its answer has over pays for what comes next
  pub record PlainEnds : Type 0 where
    pub parts : (p : P) → EndsAlone k (q.part p).does alone left saved (q.part p).fits
    pub begins : (p : P) (w : Spot → ℕ) → alone (q.steered.call p) w
    pub pays : (p : P) (r0 rs r : Memo) (tr t : Trail) (es ds : List Event) (b : B) → q.knows p r0 rs tr es → (q.part p).leaves (q.steered.call p) rs r t ds b → IsHeld (q.steered.me p) r → recovers r ≡ recovers rs → Pays k q alone left saved anything rest saved' p b

  -- or whatever is known and left
  pub record BareEnds : Type 0 where
    pub parts : (p : P) → EndsAlone k (q.part p).does alone left saved (q.part p).fits
    pub begins : (p : P) (w : Spot → ℕ) → alone (q.steered.call p) w
    pub pays : (p : P) (b : B) → Pays k q alone left saved anything rest saved' p b

  -- what the plan owes then
  goes_on : (p : P) (b : B) (w : Spot → ℕ) → Pays k q alone left saved anything rest saved' p b → GoesOn k q alone left saved anything rest saved' p b w
  goes_on p b w h = with_nothing (q.steered.turns p b) (left (q.steered.call (q.steered.after p b)) + rest (q.steered.after p b) ≤ rest p + saved b) (λ x. saved' x ≤ rest p + saved b) h

  -- a machine of calls ends alone where that is so of each answer
  pub bare_calls_end : BareEnds → EndsAlone (calls_control k q.steered) (calls_does k q) (calls_alone alone anything) (calls_left left rest) saved' (CallsFits k q)
  bare_calls_end d =
      calls_end k q alone left saved anything rest saved'
      (record {
        parts = d.parts;
        begins = λ p w h. d.begins p w;
        follows = λ m r0 tr w r f going s fit knows.
            let a = k.asks m.call in
            let at = spot_at (q.steered.me m.plan).geometry (classes w) (at_of a) in
            each_answer (k.turns m.call (seen_of a (w at))) (λ b. GoesOn k q alone left saved anything rest saved' m.plan b (words_after w a at)) (λ b. goes_on m.plan b (words_after w a at) (d.pays m.plan b));
      })

  module _ (l : PlanLaws k q) (d : PlainEnds) where
    -- what a call left, where it has answered: it is what is asked of the plan
    plain_follows : (m : Calls P C) (r0 : Memo) (tr : Trail) (w : Spot → ℕ) (r : ℕ → Memo) (f : Frame) → k.finished m.call ≡ false → Stands (q.steered.me m.plan) w r f tr → CallsFits k q m r0 (r (q.steered.me m.plan).who) tr
        → let a = k.asks m.call in
        let p = spot_at (q.steered.me m.plan).geometry (classes w) (at_of a) in
        let n = seen_of a (w p) in
        Outcome (k.turns m.call n) (Unit {0}) (λ b. GoesOn k q alone left saved anything rest saved' m.plan b (words_after w a p))
    plain_follows m r0 tr w r f going s fit =
        let c : C = m.call in
        let me : Me = q.steered.me m.plan in
        let a : Ask = k.asks c in
        let p : Spot = spot_at me.geometry (classes w) (at_of a) in
        let n : ℕ = seen_of a (w p) in
        let x : Memo = memo_on (r me.who) (framed me a f n) p in
        let t2 : Trail = fit.t ++ pair a n ∷ [] in
        let part : ℕ → Memo → Type 0 = Then k (q.part m.plan).fits (q.part m.plan).gives c fit.rs fit.t in
        let kept : KeptAt me w r a f part p =
        subst (λ (me : Me). KeptAt me w r a f part (spot_at me.geometry (classes w) (at_of a))) fit.me
        ((l.parts m.plan).placed.keeps c fit.rs fit.t w r f going (call_stands k q m r0 tr w r f s fit) (call_may k q m r0 tr w r f s fit) (call_fits k q m r0 tr w r f s fit)) in
        let held : IsHeld me x = (words_after w a p, at1 r me.who x, kept.step.held, at1_here r me.who x) in
        let there : IsHeld (k.me (q.steered.call m.plan)) x = subst (λ (me : Me). IsHeld me x) (sym (l.calls m.plan).me) held in
        let agent : recovers x ≡ recovers fit.rs = recovers_on (r me.who) (framed me a f n) p ∙ fit.agent in
        let needed : (q.part m.plan).needs (q.steered.call m.plan) fit.rs = l.opens m.plan r0 fit.rs fit.before fit.es fit.knows in
        of_answer (k.turns c n) ((q.part m.plan).fits (k.after c n) fit.rs x t2) ((q.part m.plan).gives c fit.rs x t2) (λ b. GoesOn k q alone left saved anything rest saved' m.plan b (words_after w a p))
        (λ b h. goes_on m.plan b (words_after w a p)
        (d.pays m.plan r0 fit.rs x fit.before t2 fit.es (happens_along k (q.part m.plan).does (q.steered.call m.plan) t2) b fit.knows ((l.parts m.plan).ends (q.steered.call m.plan) fit.rs x t2 b needed (fit.gave x t2 b h) there agent) held agent))
        kept.fits

    -- a machine of calls ends alone where its plan, which knows nothing of the words, owes that
    pub plain_calls_end : EndsAlone (calls_control k q.steered) (calls_does k q) (calls_alone alone anything) (calls_left left rest) saved' (CallsFits k q)
    plain_calls_end =
        calls_end k q alone left saved anything rest saved'
        (record { parts = d.parts; begins = λ p w h. d.begins p w; follows = λ m r0 tr w r f going s fit knows. plain_follows m r0 tr w r f going s fit })

-- ---- one of two machines

-- of two machines that end alone one of the two does
pub or_ends : {S T A B : Type 0} (j : Control S A) (k : Control T B) (fits : OnTheWay S) (fits' : OnTheWay T) (does : S → ℕ → Event) (does' : T → ℕ → Event) (alone : S → (Spot → ℕ) → Type 0) (alone' : T → (Spot → ℕ) → Type 0) (left : S → ℕ) (left' : T → ℕ) (saved : A → ℕ) (saved' : B → ℕ)
    → EndsAlone j does alone left saved fits → EndsAlone k does' alone' left' saved' fits' → EndsAlone (or_control j k) (or_does does does') (or_alone alone alone') (or_left left left') (or_saved saved saved') (OrFits fits fits')
or_ends {S} {T} {A} {B} j k fits fits' does does' alone alone' left left' saved saved' h i = go
  where
    go : EndsAlone (or_control j k) (or_does does does') (or_alone alone alone') (or_left left left') (or_saved saved saved') (OrFits fits fits')
    go (First m) r0 tr w r f going s fit knows =
        let a : Ask = j.asks m in
        let p : Spot = spot_at (j.me m).geometry (classes w) (at_of a) in
        let n : ℕ = seen_of a (w p) in
        let x = h m r0 tr w r f going s fit knows in
        record {
          loss = x.loss;
          alone = told_outcome {B = Or A B} First (j.turns m n) (alone (j.after m n) (words_after w a p)) (λ b. Unit {0}) (λ b. Unit {0}) (λ b y. y) x.alone;
          paid = told_outcome {B = Or A B} First (j.turns m n) (left (j.after m n) < left m + pay * weight (does m n)) (λ b. saved b < left m + pay * weight (does m n)) (λ b. or_saved saved saved' b < left m + pay * weight (does m n)) (λ b y. y) x.paid;
        }
    go (Second m) r0 tr w r f going s fit knows =
        let a : Ask = k.asks m in
        let p : Spot = spot_at (k.me m).geometry (classes w) (at_of a) in
        let n : ℕ = seen_of a (w p) in
        let x = i m r0 tr w r f going s fit knows in
        record {
          loss = x.loss;
          alone = told_outcome {B = Or A B} Second (k.turns m n) (alone' (k.after m n) (words_after w a p)) (λ b. Unit {0}) (λ b. Unit {0}) (λ b y. y) x.alone;
          paid = told_outcome {B = Or A B} Second (k.turns m n) (left' (k.after m n) < left' m + pay * weight (does' m n)) (λ b. saved' b < left' m + pay * weight (does' m n)) (λ b. or_saved saved saved' b < left' m + pay * weight (does' m n)) (λ b y. y) x.paid;
        }

-- ---- one word step

-- one word step ends alone
pub word_ends : (first : Bool) → EndsAlone word_control word_does anything word_left word_saved (WordFits first)
word_ends first m r0 tr w r f going s fit knows = record { loss = tt; alone = tt; paid = omega arith }

-- and so does one that may be an event, where it is a loss whatever is found
pub event_ends : (first : Bool) (does : ℕ → Event) → ((n : ℕ) → IsLoss (does n)) → EndsAlone word_control (event_does does) anything word_left word_saved (EventFits first does)
event_ends first does loss m r0 tr w r f going s fit knows = record { loss = loss _; alone = tt; paid = omega arith }

-- ---- a machine as another one has it

-- a machine that fits less often ends alone where it does
pub fewer_end : {S A : Type 0} (k : Control S A) (fits fits' : OnTheWay S) (does : S → ℕ → Event) (alone : S → (Spot → ℕ) → Type 0) (left : S → ℕ) (saved : A → ℕ) → ((m : S) (r0 r : Memo) (tr : Trail) → fits' m r0 r tr → fits m r0 r tr)
    → EndsAlone k does alone left saved fits → EndsAlone k does alone left saved fits'
fewer_end k fits fits' does alone left saved less h m r0 tr w r f going s fit knows = h m r0 tr w r f going s (less m r0 (r (k.me m).who) tr fit) knows
