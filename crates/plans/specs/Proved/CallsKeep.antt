-- the law of a machine that makes the calls of a plan: it follows from what the plan owes
use Rattle.std.proofs.Common.{◌≡◌, ◌≢◌, ℕ, zero, suc, Bool, true, false, refl, sym, ap, ◌∙◌, subst, append_assoc, append-nil, List, [], ◌∷◌, ◌++◌}
use Rattle.std.specs.{Prelude.{◌<◌, Option, Some, None, ◌&&◌}, List.filter}
use Rattle.shm_words.specs.Layout.{total_of}
use Rattle.shm_graph.specs.{declared.{ask.{Ask.Ask, Me.Me}, spot.Spot.Spot, memo.{Memo.Memo, Seen.Seen}}, Spots.spot_at}
use Rattle.shm_graph.specs.{Blocks.classes, Asks.{Trail, at_of, seen_of, words_after, pair, call_before}}
use Rattle.shm_graph.specs.{Agents.recovers, Changes.memo_on, Events.Event}
use Rattle.shm_graph.specs.Laws.{Control, Ends, Frame, framed, KeptAt, Stands, Steady, Inside, Back, EachStepKeeps, Then, Laws, Outcome, is_some, event_on}
use Rattle.shm_graph.specs.{Tells.{is_event, after_all, happens_along, Tells}, Views.at1}
use Rattle.shm_graph.proofs.{StepKinds.KindKeeping.not_fresh, Runs.Lists.at1_here}
use Rattle.shm_graph.proofs.{Machines.TellsAlong.{after_all-append, happens_along-append}, Memos.MemoSteps.recovers_on}
use Rattle.plans.specs.{declared.calls.Calls.Calls, Placed.MayStand, Parts.IsHeld}
use Rattle.plans.specs.Plans.{Planned, PlanLaws, calls_asked, go_on, plan_trail}
use Rattle.plans.specs.CallsControl.{calls_control, calls_of, calls_does, calls_start, planned, called_on, answered}
use Rattle.plans.specs.CallsFit.{CallsFits, CallsGives, PlanGives, call_events, events_so_far}

-- ---- lists and bits

ends_in : (tr : Trail) (s : Seen) → (tr ++ s ∷ []) ≢ []
ends_in [] s e = absurd (cc)
ends_in (x ∷ tr) s e = absurd (cc)

some_before : (u t : Trail) → t ≢ [] → (u ++ t) ≢ []
some_before [] t n = n
some_before (x ∷ u) t n = λ e. absurd (cc)

-- the end of an end is an end
ends_more : (call u t : Trail) → Ends call (u ++ t) → Ends call t
ends_more call u t (before, e) = (before ++ u, e ∙ sym (append_assoc before u t))

right_false : (a b : Bool) → b ≡ false → (a && b) ≡ false
right_false true b e = e
right_false false b e = refl

left_false : (a b : Bool) → a ≡ false → (a && b) ≡ false
left_false true b e = absurd (cc)
left_false false b e = refl

-- what follows of the memo after a step, which is one of a held state
after_held : (me : Me) (w : Spot → ℕ) (r : ℕ → Memo) (a : Ask) (f : Frame) (after after' : ℕ → Memo → Type 0) (p : Spot) → ((n : ℕ) (m : Memo) → IsHeld me m → recovers m ≡ recovers (r me.who) → after n m → after' n m) → KeptAt me w r a f after p → KeptAt me w r a f after' p
after_held me w r a f after after' p then k =
    let m : Memo = memo_on (r me.who) (framed me a f (seen_of a (w p))) p in
    record { told = k.told; step = k.step; fits = then _ _ (words_after w a p, at1 r me.who m, k.step.held, at1_here r me.who m) (recovers_on (r me.who) (framed me a f (seen_of a (w p))) p) k.fits }

module _ {P C B A : Type 0} (k : Control C B) (q : Planned P C B A) (l : PlanLaws k q) where
  abbrev whole : Control (Calls P C) A
  whole = calls_control k q.steered

  -- ---- its control

  -- what is so of the plan stays so, whatever the call answers
  plan_stays : {T : Type 0} (f : P → T) (p : P) (c : C) (o : Option B) → ((b : B) → f (q.steered.after p b) ≡ f p) → f (called_on k q.steered p c o).plan ≡ f p
  plan_stays f p c None same = refl
  plan_stays f p c (Some b) same = go (q.steered.turns p b)
    where
      go : (u : Option A) → f (planned k q.steered c (q.steered.after p b) u).plan ≡ f p
      go None = same b
      go (Some a) = same b

  same_start : (p : P) (c : C) (o : Option B) → q.steered.start (called_on k q.steered p c o).plan ≡ q.steered.start p
  same_start p c o = plan_stays q.steered.start p c o (λ b. (l.stays p b).same_start)

  -- it has made a step, and is finished once it has answered
  moves : (p : P) (c : C) (o : Option B) → k.fresh c ≡ false → k.finished c ≡ is_some o
      → ((q.steered.first (called_on k q.steered p c o).plan && k.fresh (called_on k q.steered p c o).call) ≡ false) × (k.finished (called_on k q.steered p c o).call ≡ is_some (answered k q.steered p o))
  moves p c None fresh ends = (right_false (q.steered.first p) (k.fresh c) fresh, ends)
  moves p c (Some b) fresh ends = go (q.steered.turns p b) (l.stays p b).started
    where
      go : (u : Option A) → (u ≡ None → q.steered.first (q.steered.after p b) ≡ false)
          → ((q.steered.first (planned k q.steered c (q.steered.after p b) u).plan && k.fresh (planned k q.steered c (q.steered.after p b) u).call) ≡ false) × (k.finished (planned k q.steered c (q.steered.after p b) u).call ≡ is_some u)
      go None later = (left_false (q.steered.first (q.steered.after p b)) (k.fresh (q.steered.call (q.steered.after p b))) (later refl), (l.calls (q.steered.after p b)).asks)
      go (Some a) later = (right_false (q.steered.first (q.steered.after p b)) (k.fresh c) fresh, ends)

  calls_steady : Steady whole
  calls_steady m n going =
      let s = (l.parts m.plan).placed.steady m.call n going in
      let y = moves m.plan (k.after m.call n) (k.turns m.call n) s.started s.ends in
      record {
        same_me = plan_stays q.steered.me m.plan (k.after m.call n) (k.turns m.call n) (λ b. (l.stays m.plan b).same_me);
        same_line = plan_stays q.steered.line m.plan (k.after m.call n) (k.turns m.call n) (λ b. (l.stays m.plan b).same_line);
        started = y.0;
        ends = y.1;
      }

  calls_inside : Inside whole (CallsFits k q)
  calls_inside m r0 r tr who fit going =
      let i = (l.parts m.plan).placed.inside m.call fit.rs r fit.t (subst (λ (me : Me). me.who < me.geometry.clients) (sym fit.me) who) fit.fits going in
      subst (λ (me : Me). at_of (k.asks m.call) < total_of me.geometry) fit.me i

  calls_back : Back whole (CallsGives k q)
  calls_back m n going goes r0 r tr a g = subst (λ (s : P). PlanGives k q s r0 r tr a) (same_start m.plan (k.after m.call n) (k.turns m.call n)) g

  -- ---- what stands

  -- the events of one more pair
  events_more : (m : Calls P C) (r0 r : Memo) (tr : Trail) (n : ℕ) (fit : CallsFits k q m r0 r tr) → let x : Seen = pair (k.asks m.call) n in events_so_far k q m (tr ++ x ∷ []) ≡ fit.es ++ call_events k q m.plan (fit.t ++ x ∷ [])
  events_more m r0 r tr n fit =
      let x : Seen = pair (k.asks m.call) n in
      let one : Calls P C → List Event = λ y. filter is_event (calls_does k q y n ∷ []) in
      let part : C → List Event = λ y. filter is_event ((q.part m.plan).does y n ∷ []) in
      happens_along-append whole (calls_does k q) (calls_start k q.steered m) tr x
      ∙ (ap (λ y. y ++ one (after_all whole (calls_start k q.steered m) tr)) fit.events
      ∙ (ap (λ y. (fit.es ++ call_events k q m.plan fit.t) ++ one y) fit.course
      ∙ (append_assoc fit.es (call_events k q m.plan fit.t) (one m)
      ∙ ap (λ y. fit.es ++ y) (sym (happens_along-append k (q.part m.plan).does (q.steered.call m.plan) fit.t x ∙ ap (λ y. call_events k q m.plan fit.t ++ part y) fit.there)))))

  -- where it is after one more pair
  course_more : (m : Calls P C) (r0 r : Memo) (tr : Trail) (n : ℕ) (fit : CallsFits k q m r0 r tr) → after_all whole (calls_start k q.steered m) (tr ++ pair (k.asks m.call) n ∷ []) ≡ whole.after m n
  course_more m r0 r tr n fit = after_all-append whole (calls_start k q.steered m) tr (pair (k.asks m.call) n) ∙ ap (λ (y : Calls P C). whole.after y n) fit.course

  -- the trail with one more pair
  split_more : (m : Calls P C) (r0 r : Memo) (tr : Trail) (n : ℕ) (fit : CallsFits k q m r0 r tr) → tr ++ pair (k.asks m.call) n ∷ [] ≡ fit.before ++ (fit.t ++ pair (k.asks m.call) n ∷ [])
  split_more m r0 r tr n fit = ap (λ (y : Trail). y ++ pair (k.asks m.call) n ∷ []) fit.split ∙ append_assoc fit.before fit.t (pair (k.asks m.call) n ∷ [])

  -- what is asked after a call that has answered comes after that call
  trail_more : (p : P) (t rest : Trail) (b : B) (a : A) (n : ℕ) → (q.part p).asks (q.steered.call p) t b → go_on q (calls_asked q n) (q.steered.after p b) (q.steered.turns p b) rest a → plan_trail q p (t ++ rest) a
  trail_more p t rest b a n asked next = (suc n, (t, (rest, b, refl, asked, next)))

  -- what the call in progress needed
  needed : (m : Calls P C) (r0 r : Memo) (tr : Trail) (fit : CallsFits k q m r0 r tr) → (q.part m.plan).needs (q.steered.call m.plan) fit.rs
  needed m r0 r tr fit = l.opens m.plan r0 fit.rs fit.before fit.es fit.knows

  -- ---- after a step

  module _ (m : Calls P C) (r0 r : Memo) (tr : Trail) (n : ℕ) (fit : CallsFits k q m r0 r tr) (going : k.finished m.call ≡ false) (x : Memo) (held : IsHeld (q.steered.me m.plan) x) (same : recovers x ≡ recovers r) where
    abbrev one : Trail
    one = pair (k.asks m.call) n ∷ []

    abbrev t2 : Trail
    t2 = fit.t ++ one

    -- the call goes on
    goes : k.turns m.call n ≡ None → (q.part m.plan).fits (k.after m.call n) fit.rs x t2 → CallsFits k q (record { plan = m.plan; call = k.after m.call n }) r0 x (tr ++ one)
    goes e h =
        record {
          rs = fit.rs;
          before = fit.before;
          t = t2;
          es = fit.es;
          split = split_more m r0 r tr n fit;
          later = fit.later;
          me = ((l.parts m.plan).placed.steady m.call n going).same_me ∙ fit.me;
          agent = same ∙ fit.agent;
          knows = fit.knows;
          fits = h;
          gave = λ r2 u b g. fit.gave r2 u b ((l.parts m.plan).placed.back m.call n going e fit.rs r2 u b g);
          trail = fit.trail;
          there = after_all-append k (q.steered.call m.plan) fit.t (pair (k.asks m.call) n) ∙ ap (λ y. k.after y n) fit.there;
          course = course_more m r0 r tr n fit ∙ ap (called_on k q.steered m.plan (k.after m.call n)) e;
          events = events_more m r0 r tr n fit;
        }

    module _ (b : B) (told : k.turns m.call n ≡ Some b) (g : (q.part m.plan).gives (q.steered.call m.plan) fit.rs x t2 b) where
      abbrev p2 : P
      p2 = q.steered.after m.plan b

      abbrev tr2 : Trail
      tr2 = fit.before ++ t2

      abbrev es2 : List Event
      es2 = fit.es ++ call_events k q m.plan t2

      asked : (q.part m.plan).asks (q.steered.call m.plan) t2 b
      asked = (l.parts m.plan).asked (q.steered.call m.plan) fit.rs x t2 b (needed m r0 r tr fit) g

      -- the next call begins
      next_call : q.steered.turns m.plan b ≡ None → q.knows p2 r0 x tr2 es2 → CallsFits k q (calls_of q.steered p2) r0 x (tr ++ one)
      next_call e h =
          let s : q.steered.start p2 ≡ q.steered.start m.plan = (l.stays m.plan b).same_start in
          record {
            rs = x;
            before = tr2;
            t = [];
            es = es2;
            split = split_more m r0 r tr n fit ∙ sym (append-nil tr2);
            later = λ _. some_before fit.before t2 (ends_in fit.t (pair (k.asks m.call) n));
            me = (l.calls p2).me;
            agent = refl;
            knows = h;
            fits = (l.parts p2).begins (q.steered.call p2) x (l.opens p2 r0 x tr2 es2 h);
            gave = λ r2 u b2 y. y;
            trail = λ rest a y. subst (λ (z : P). plan_trail q z (tr2 ++ rest) a) (sym s)
                (subst (λ (z : Trail). plan_trail q (q.steered.start m.plan) z a) (sym (append_assoc fit.before t2 rest))
                (fit.trail (t2 ++ rest) a (trail_more m.plan t2 rest b a y.0 asked (subst (λ (u : Option A). go_on q (calls_asked q y.0) p2 u rest a) (sym e) y.1))));
            there = refl;
            course = subst (λ (z : P). after_all whole (calls_of q.steered z) (tr ++ one) ≡ calls_of q.steered p2) (sym s)
                (course_more m r0 r tr n fit ∙ (ap (called_on k q.steered m.plan (k.after m.call n)) told ∙ ap (planned k q.steered (k.after m.call n) p2) e));
            events = subst (λ (z : P). happens_along whole (calls_does k q) (calls_of q.steered z) (tr ++ one) ≡ es2 ++ []) (sym s) (events_more m r0 r tr n fit ∙ sym (append-nil es2));
          }

      -- the plan has answered
      ends : (a : A) → q.steered.turns m.plan b ≡ Some a → q.leaves (q.steered.start m.plan) r0 x tr2 es2 a → CallsGives k q m r0 x (tr ++ one) a
      ends a e h =
          record {
            leaves = subst (λ (z : Trail). q.leaves (q.steered.start m.plan) r0 x z (events_so_far k q m (tr ++ one)) a) (sym (split_more m r0 r tr n fit))
                (subst (λ (z : List Event). q.leaves (q.steered.start m.plan) r0 x tr2 z a) (sym (events_more m r0 r tr n fit)) h);
            trail = subst (λ (z : Trail). plan_trail q (q.steered.start m.plan) z a) (sym (split_more m r0 r tr n fit))
                (fit.trail t2 a (subst (λ (z : Trail). plan_trail q m.plan z a) (append-nil t2)
                (trail_more m.plan t2 [] b a zero asked (subst (λ (u : Option A). go_on q (calls_asked q zero) p2 u [] a) (sym e) (refl, refl)))));
          }

      follows : (u : Option A) → q.steered.turns m.plan b ≡ u → Outcome u (q.knows p2 r0 x tr2 es2) (q.leaves (q.steered.start m.plan) r0 x tr2 es2)
          → Outcome u (CallsFits k q (planned k q.steered (k.after m.call n) p2 u) r0 x (tr ++ one)) (CallsGives k q m r0 x (tr ++ one))
      follows None e h = next_call e h
      follows (Some a) e h = ends a e h

    then_calls : (o : Option B) → k.turns m.call n ≡ o → Outcome o ((q.part m.plan).fits (k.after m.call n) fit.rs x t2) ((q.part m.plan).gives m.call fit.rs x t2)
        → Outcome (answered k q.steered m.plan o) (CallsFits k q (called_on k q.steered m.plan (k.after m.call n) o) r0 x (tr ++ one)) (CallsGives k q m r0 x (tr ++ one))
    then_calls None e h = goes e h
    then_calls (Some b) e h =
        let g = fit.gave x t2 b h in
        let agent = same ∙ fit.agent in
        let there : IsHeld (k.me (q.steered.call m.plan)) x = subst (λ (me : Me). IsHeld me x) (sym (l.calls m.plan).me) held in
        let left = (l.parts m.plan).ends (q.steered.call m.plan) fit.rs x t2 b (needed m r0 r tr fit) g there agent in
        follows b e g (q.steered.turns m.plan b) refl (l.leads m.plan r0 fit.rs x fit.before t2 fit.es (call_events k q m.plan t2) b fit.knows left held agent)

  -- ---- its steps

  module _ (m : Calls P C) (r0 : Memo) (tr : Trail) (w : Spot → ℕ) (r : ℕ → Memo) (f : Frame) (s : Stands (q.steered.me m.plan) w r f tr) (fit : CallsFits k q m r0 (r (q.steered.me m.plan).who) tr) where
    -- the call stands where the whole does
    call_stands : Stands (k.me m.call) w r f fit.t
    call_stands =
        subst (λ (me : Me). Stands me w r f fit.t) (sym fit.me)
        (record { held = s.held; who = s.who; call = ends_more (call_before f.fresh (r (q.steered.me m.plan).who).call) fit.before fit.t (subst (Ends (call_before f.fresh (r (q.steered.me m.plan).who).call)) fit.split s.call) })

    call_may : MayStand (q.steered.first m.plan) f
    call_may e = not_fresh (q.steered.me m.plan) w r f tr s (λ z. fit.later e (front_none fit.before fit.t (sym fit.split ∙ z)))
      where
        front_none : (u t : Trail) → u ++ t ≡ [] → u ≡ []
        front_none [] t e = refl
        front_none (y ∷ u) t e = absurd (cc)

    call_fits : (q.part m.plan).fits m.call fit.rs (r (k.me m.call).who) fit.t
    call_fits = subst (λ (me : Me). (q.part m.plan).fits m.call fit.rs (r me.who) fit.t) (sym fit.me) fit.fits

  calls_keeps : EachStepKeeps whole (CallsFits k q) (CallsGives k q)
  calls_keeps m r0 tr going w r f s fit =
      let c = m.call in
      let part : ℕ → Memo → Type 0 = Then k (q.part m.plan).fits (q.part m.plan).gives c fit.rs fit.t in
      let kept = (l.parts m.plan).placed.keeps c fit.rs fit.t w r f going (call_stands m r0 tr w r f s fit) (call_may m r0 tr w r f s fit) (call_fits m r0 tr w r f s fit) in
      after_held (q.steered.me m.plan) w r (k.asks c) f part (Then whole (CallsFits k q) (CallsGives k q) m r0 tr) _
      (λ n x held same h. then_calls m r0 (r (q.steered.me m.plan).who) tr n fit going x held same (k.turns c n) refl h)
      (subst (λ (me : Me). KeptAt me w r (k.asks c) f part (spot_at me.geometry (classes w) (at_of (k.asks c)))) fit.me kept)

  -- the laws of the machine
  pub calls_laws : Laws whole (CallsFits k q) (CallsGives k q)
  calls_laws = record { steady = calls_steady; inside = calls_inside; back = calls_back; keeps = calls_keeps }

  -- the events are those that it tells
  pub calls_tells : Tells whole (CallsFits k q) (calls_does k q)
  calls_tells m r0 tr w r f going s fit =
      let c = m.call in
      subst (λ (me : Me). let p = spot_at me.geometry (classes w) (at_of (k.asks c)) in let n = seen_of (k.asks c) (w p) in event_on (r me.who) (framed me (k.asks c) f n) p ≡ (q.part m.plan).does c n) fit.me
      ((l.parts m.plan).tells c fit.rs fit.t w r f going (call_stands m r0 tr w r f s fit) (call_fits m r0 tr w r f s fit))

  -- before its first word step it fits where what is known before the first call is so
  pub calls_begin : (p : P) (r : Memo) → q.steered.first p ≡ true → q.steered.start p ≡ p → q.knows p r r [] [] → CallsFits k q (calls_of q.steered p) r r []
  calls_begin p r first same h =
      record {
        rs = r;
        before = [];
        t = [];
        es = [];
        split = refl;
        later = λ e. absurd (cc);
        me = (l.calls p).me;
        agent = refl;
        knows = h;
        fits = (l.parts p).begins (q.steered.call p) r (l.opens p r r [] [] h);
        gave = λ r2 u b y. y;
        trail = λ rest a y. subst (λ (z : P). plan_trail q z rest a) (sym same) y;
        there = refl;
        course = ap (calls_of q.steered) same;
        events = refl;
      }
