-- many word steps of a machine: where they may be made, and as those of a session that has it
use Rattle.std.proofs.Common.{◌≡◌, ℕ, zero, suc, ◌≤◌, Bool, true, false, ◌⊎◌, inl, inr, refl, sym, subst, ap, ◌∙◌, arith}
use Rattle.std.specs.{Prelude.{Option, Some, None}, Option.{ForSome, option_map}}
use Rattle.shm_graph.specs.declared.ask.{Ask.Ask, Turn.{Turn, TheVariants.{More, Done, Died}}}
use Rattle.shm_graph.specs.{Laws.{Control, Outcome, Steady, is_some}, ManySteps.{Stop, MayRun, HasRun}}
use Rattle.shm_graph.proofs.Machines.Composing.{outcome_then}
use Rattle.shm_session.specs.declared.said.{Said.Said, Stage.Stage}
use Rattle.shm_session.specs.Sessions.{Operations, Turned, goes_on, kept, next_said, said_by, stage_by, told}
use Rattle.shm_session.specs.Working.{SessionStop, RunsTo, OnOrOver, Worked, HasWorked, asking}

-- ---- a machine that is finished once it has answered

-- what a machine told at the end, as an answer
abbrev pub answered : {A : Type 0} → Turn A → Option A
answered More = None
answered (Done a) = Some a
answered Died = None

abbrev pub as_worked : {S A W : Type 0} → Stop S W A → Worked S W A
as_worked z = record { left = z.left; machine = z.machine; words = z.words; answer = answered z.turn }

going_on : {A : Type 0} (o : Option A) (f : Bool) (P : Type 0) → f ≡ is_some o → (f ≡ false → P) → Outcome o P (λ a. Unit {0})
going_on None f P e h = h e
going_on (Some a) f P e h = tt

by_answer : {A : Type 0} (o : Option A) (f : Bool) (P P' : Type 0) (Q : A → Type 0) (Q' : Option A → Type 0) → f ≡ is_some o → (f ≡ false → P → P') → ((a : A) → Q a → Q' (Some a)) → Outcome o P Q → OnOrOver o f P' Q'
by_answer None false P P' Q Q' e g h x = g refl x
by_answer None true P P' Q Q' e g h x = cc
by_answer (Some a) f P P' Q Q' e g h x = h a x

module _ {S A W : Type 0} (k : Control S A) (steady : Steady k) (may : W → Ask → Type 0) (made : W → Ask → W → Type 0) (seen : W → Ask → W → ℕ) where
  -- where any word step may be made, any number of them may be
  pub may_run : ((w : W) (a : Ask) → may w a) → (n : ℕ) (m : S) (w : W) → k.finished m ≡ false → MayRun k may made seen n m w
  may_run free zero m w going = tt
  may_run free (suc n) m w going = (
    going,
    free w (k.asks m),
    λ u h. let x : ℕ = seen w (k.asks m) u in going_on (k.turns m x) (k.finished (k.after m x)) (MayRun k may made seen n (k.after m x) u) (steady m x going).ends (may_run free n (k.after m x) u),
  )

  pub worked : (n : ℕ) (m : S) (w : W) (z : Stop S W A) → k.finished m ≡ false → HasRun k made seen n m w z → HasWorked k made seen n m w (as_worked z)
  worked zero m w z going h = ap as_worked h
  worked (suc n) m w z going h =
      let x : ℕ = seen w (k.asks m) h.0 in
      let next : S = k.after m x in (
        h.0,
        h.1,
        by_answer (k.turns m x) (k.finished next) (HasRun k made seen n next h.0 z) (HasWorked k made seen n next h.0 (as_worked z)) (λ a. z ≡ record { left = n; machine = next; words = h.0; turn = Done a }) (λ o. as_worked z ≡ record { left = n; machine = next; words = h.0; answer = o })
            (steady m x going).ends (λ g. worked n next h.0 z g) (λ a e. ap as_worked e) h.2,
      )

  pub worked_so : (n : ℕ) (m : S) (w : W) (z : Stop S W A) (a : A) → z.turn ≡ Done a → k.finished m ≡ false → HasRun k made seen n m w z → HasWorked k made seen n m w (record { left = z.left; machine = z.machine; words = z.words; answer = Some a })
  worked_so n m w z a e going h = subst (λ (t : Turn A). HasWorked k made seen n m w (record { left = z.left; machine = z.machine; words = z.words; answer = answered t })) e (worked n m w z going h)

  pub worked_on : (n : ℕ) (m : S) (w : W) (z : Stop S W A) → (z.turn ≡ More) ⊎ (z.turn ≡ Died) → k.finished m ≡ false → HasRun k made seen n m w z → HasWorked k made seen n m w (record { left = z.left; machine = z.machine; words = z.words; answer = None })
  worked_on n m w z (inl e) going h = subst (λ (t : Turn A). HasWorked k made seen n m w (record { left = z.left; machine = z.machine; words = z.words; answer = answered t })) e (worked n m w z going h)
  worked_on n m w z (inr e) going h = subst (λ (t : Turn A). HasWorked k made seen n m w (record { left = z.left; machine = z.machine; words = z.words; answer = answered t })) e (worked n m w z going h)

-- ---- a machine that is a part of another one

-- the whole asks, goes on and answers as this part of it does
pub record IsPart {S T A B : Type 0} (k : Control S A) (j : Control T B) (i : S → T) (f : A → B) : Type 0 where
  pub asks : (m : S) → j.asks (i m) ≡ k.asks m
  pub after : (m : S) (n : ℕ) → j.after (i m) n ≡ i (k.after m n)
  pub turns : (m : S) (n : ℕ) → j.turns (i m) n ≡ option_map f (k.turns m n)
  pub finished : (m : S) → j.finished (i m) ≡ k.finished m

abbrev pub as_whole : {S T A B W : Type 0} → (S → T) → (A → B) → Worked S W A → Worked T W B
as_whole i f z = record { left = z.left; machine = i z.machine; words = z.words; answer = option_map f z.answer }

part_ends : {A B : Type 0} (f : A → B) (o : Option A) (t : Bool) (P P' : Type 0) (Q : Option A → Type 0) (Q' : Option B → Type 0) → (P → P') → ((r : Option A) → Q r → Q' (option_map f r)) → OnOrOver o t P Q → OnOrOver (option_map f o) t P' Q'
part_ends f None false P P' Q Q' g h x = g x
part_ends f None true P P' Q Q' g h x = h None x
part_ends f (Some a) t P P' Q Q' g h x = h (Some a) x

module _ {S T A B W : Type 0} (k : Control S A) (j : Control T B) (i : S → T) (f : A → B) (part : IsPart k j i f) (made : W → Ask → W → Type 0) (seen : W → Ask → W → ℕ) where
  abbrev whole : Worked S W A → Worked T W B
  whole = as_whole i f

  pub part_worked : (n : ℕ) (m : S) (w : W) (z : Worked S W A) → HasWorked k made seen n m w z → HasWorked j made seen n (i m) w (whole z)
  part_worked zero m w z h = ap whole h
  part_worked (suc n) m w z h =
      let a : Ask = k.asks m in
      let x : ℕ = seen w a h.0 in
      let next : S = k.after m x in
      let Here : Ask → T → Option B → Bool → Type 0 = λ a p o t. made w a h.0 × OnOrOver o t (HasWorked j made seen n p h.0 (whole z)) (λ r. whole z ≡ record { left = n; machine = p; words = h.0; answer = r }) in
      let there : Here a (i next) (option_map f (k.turns m x)) (k.finished next) = (
        h.1,
        part_ends f (k.turns m x) (k.finished next) (HasWorked k made seen n next h.0 z) (HasWorked j made seen n (i next) h.0 (whole z)) (λ r. z ≡ record { left = n; machine = next; words = h.0; answer = r }) (λ r. whole z ≡ record { left = n; machine = i next; words = h.0; answer = r })
            (part_worked n next h.0 z) (λ r e. ap whole e) h.2,
      ) in
      let At : Ask → Type 0 = λ b. let y : ℕ = seen w b h.0 in Here b (j.after (i m) y) (j.turns (i m) y) (j.finished (j.after (i m) y)) in
      let here : At a =
      subst (λ (p : T). Here a p (j.turns (i m) x) (j.finished p)) (sym (part.after m x))
      (subst (λ (t : Bool). Here a (i next) (j.turns (i m) x) t) (sym (part.finished next)) (subst (λ (o : Option B). Here a (i next) o (k.finished next)) (sym (part.turns m x)) there)) in
      let both : At (j.asks (i m)) = subst At (sym (part.asks m)) here in
      (h.0, both.0, both.1)

-- ---- between two word steps

module _ {S A W : Type 0} (k : Control S A) (made : W → Ask → W → Type 0) (seen : W → Ask → W → ℕ) where
  -- more word steps are made, and with those all are made from the first one on
  pub record Working (n : ℕ) (m : S) (w : W) (left : ℕ) (p : S) (v : W) : Type 0 where
    pub going : k.finished p ≡ false
    pub rest : (z : Worked S W A) → HasWorked k made seen left p v z → HasWorked k made seen n m w z

  pub begun : (n : ℕ) (m : S) (w : W) → k.finished m ≡ false → Working n m w n m w
  begun n m w going = record { going = going; rest = λ z h. h }

  -- no more is to be made
  pub none_left : (n : ℕ) (m : S) (w : W) (left : ℕ) (p : S) (v : W) → Working n m w left p v → left ≡ 0 → HasWorked k made seen n m w (record { left = left; machine = p; words = v; answer = None })
  none_left n m w left p v r e = r.rest _ (subst (λ (i : ℕ). HasWorked k made seen i p v (record { left = i; machine = p; words = v; answer = None })) (sym e) refl)

  module _ (n : ℕ) (m : S) (w : W) (left l : ℕ) (p : S) (v : W) (r : Working n m w left p v) (e : left ≡ suc l) (u : W) (h : made v (k.asks p) u) where
    abbrev found : ℕ
    found = seen v (k.asks p) u

    abbrev Next : Worked S W A → S → Option A → Bool → Type 0
    Next z q o t = OnOrOver o t (HasWorked k made seen l q u z) (λ a. z ≡ record { left = l; machine = q; words = u; answer = a })

    one_made : (z : Worked S W A) → Next z (k.after p found) (k.turns p found) (k.finished (k.after p found)) → HasWorked k made seen n m w z
    one_made z g = (subst (λ (i : ℕ). HasWorked k made seen i p v z → HasWorked k made seen n m w z) e (r.rest z)) (u, h, g)

    -- one was made, and the machine goes on
    pub one_more : (q : S) → q ≡ k.after p found → k.turns p found ≡ None → k.finished q ≡ false → Working n m w l q u
    one_more q is none going =
        let same : k.finished (k.after p found) ≡ false = ap k.finished (sym is) ∙ going in
        record {
          going = going;
          rest = λ z g. one_made z (subst (λ (t : Bool). Next z (k.after p found) (k.turns p found) t) (sym same) (subst (λ (o : Option A). Next z (k.after p found) o false) (sym none) (subst (λ (s : S). HasWorked k made seen l s u z) is g)));
        }

    over : (z : Worked S W A) (q : S) (o : Option A) (t : Bool) → (is_some o ≡ true) ⊎ (t ≡ true) → z ≡ record { left = l; machine = q; words = u; answer = o } → Next z q o t
    over z q None true d g = g
    over z q None false (inl d) g = cc
    over z q None false (inr d) g = cc
    over z q (Some a) t d g = g

    -- one was made, and it has answered, or is finished
    pub no_more : (q : S) → q ≡ k.after p found → (o : Option A) → o ≡ k.turns p found → (is_some o ≡ true) ⊎ (k.finished q ≡ true) → HasWorked k made seen n m w (record { left = l; machine = q; words = u; answer = o })
    no_more q is o same d =
        let z : Worked S W A = record { left = l; machine = q; words = u; answer = o } in
        one_made z (subst (λ (s : S). Next z s (k.turns p found) (k.finished s)) is (subst (λ (a : Option A). Next z q a (k.finished q)) same (over z q o (k.finished q) d refl)))

  -- the same by what the machine asked for, found and answered
  module _ (n : ℕ) (m : S) (w : W) (left l : ℕ) (p : S) (v : W) (r : Working n m w left p v) (e : left ≡ suc l) (u : W) (a : Ask) (ask : a ≡ k.asks p) (h : made v a u) (x : ℕ) (is : x ≡ seen v a u) (q : S) (next : q ≡ k.after p x) (o : Option A) (turn : o ≡ k.turns p x) where
    at : made v (k.asks p) u
    at = subst (λ (b : Ask). made v b u) ask h

    same : x ≡ seen v (k.asks p) u
    same = is ∙ ap (λ (b : Ask). seen v b u) ask

    pub goes : o ≡ None → k.finished q ≡ false → Working n m w l q u
    goes none going = one_more n m w left l p v r e u at q (next ∙ ap (k.after p) same) (sym (turn ∙ ap (k.turns p) same) ∙ none) going

    pub stops : (b : Option A) → o ≡ b → (is_some b ≡ true) ⊎ (k.finished q ≡ true) → HasWorked k made seen n m w (record { left = l; machine = q; words = u; answer = b })
    stops b ob d = no_more n m w left l p v r e u at q (next ∙ ap (k.after p) same) b (sym ob ∙ (turn ∙ ap (k.turns p) same)) d

-- ---- of a session

module _ {S A W : Type 0} (o : Operations S A) (made : W → Ask → W → Type 0) (seen : W → Ask → W → ℕ) where
  abbrev k : Control S A
  k = o.control

  -- the session after them
  abbrev pub turned_by : Option A → Bool → S → Stage → Turned S
  turned_by None t m g = asking o g (kept o t m)
  turned_by (Some a) t m g = record { said = (o.replies a g).said; stage = (o.replies a g).stage; work = None }

  abbrev pub as_ran : Stage → Worked S W A → SessionStop S W
  as_ran g z = record { left = z.left; turned = turned_by z.answer (k.finished z.machine) z.machine g; words = z.words }

  -- nothing is in progress
  rests : (n : ℕ) (t : Turned S) (w : W) (r : SessionStop S W) → t.work ≡ None → r ≡ record { left = n; turned = t; words = w } → RunsTo o made seen n t w r
  rests zero t w r none is = is
  rests (suc n) t w r none is = subst (λ (x : Option S). Outcome x (r ≡ record { left = suc n; turned = t; words = w }) (λ m. (u : W) × made w (k.asks m) u × RunsTo o made seen n (told o t.stage (Some m) (seen w (k.asks m) u)) u r)) (sym none) is

  -- a word step was made, and found x
  after_told : (n : ℕ) (g : Stage) (m next : S) (u : W) (z : Worked S W A) (a : Option A) (t : Bool) → k.finished next ≡ t → (t ≡ false → HasWorked k made seen n next u z → RunsTo o made seen n (asking o g (Some next)) u (as_ran g z))
      → OnOrOver a t (HasWorked k made seen n next u z) (λ b. z ≡ record { left = n; machine = next; words = u; answer = b })
      → let work : Option S = goes_on o next a in RunsTo o made seen n (record { said = said_by o a g work; stage = stage_by o a g; work = work }) u (as_ran g z)
  after_told n g m next u z None false e more h = subst (λ (t : Bool). RunsTo o made seen n (asking o g (kept o t next)) u (as_ran g z)) (sym e) (more refl h)
  after_told n g m next u z None true e more h =
      subst (λ (t : Bool). RunsTo o made seen n (asking o g (kept o t next)) u (as_ran g z)) (sym e)
      (rests n (asking o g None) u (as_ran g z) refl (ap (as_ran g) h ∙ ap (λ (t : Bool). let r : SessionStop S W = record { left = n; turned = asking o g (kept o t next); words = u } in r) e))
  after_told n g m next u z (Some b) t e more h = rests n _ u (as_ran g z) refl (ap (as_ran g) h)

  -- no more can be left than there were
  pub fewer_left : (n : ℕ) (t : Turned S) (w : W) (r : SessionStop S W) → RunsTo o made seen n t w r → r.left ≤ n
  fewer_left zero t w r h = let e : r.left ≡ 0 = ap (λ (x : SessionStop S W). x.left) h in omega arith
  fewer_left (suc n) t w r h =
      outcome_then (λ _. r.left ≤ suc n) t.work (r ≡ record { left = suc n; turned = t; words = w }) (λ m. (u : W) × made w (k.asks m) u × RunsTo o made seen n (told o t.stage (Some m) (seen w (k.asks m) u)) u r)
      (λ e. let l : r.left ≡ suc n = ap (λ (x : SessionStop S W). x.left) e in omega arith)
      (λ m x. let l : r.left ≤ n = fewer_left n (told o t.stage (Some m) (seen w (k.asks m) x.0)) x.0 r x.2 in omega arith) h

  pub session_ran : (n : ℕ) (g : Stage) (m : S) (w : W) (z : Worked S W A) → k.finished m ≡ false → HasWorked k made seen n m w z → RunsTo o made seen n (asking o g (Some m)) w (as_ran g z)
  session_ran zero g m w z going h = ap (as_ran g) h ∙ ap (λ (t : Bool). let r : SessionStop S W = record { left = 0; turned = asking o g (kept o t m); words = w } in r) going
  session_ran (suc n) g m w z going h =
      let x : ℕ = seen w (k.asks m) h.0 in
      let next : S = k.after m x in
      (h.0, h.1, after_told n g m next h.0 z (k.turns m x) (k.finished next) refl (λ f. session_ran n g next h.0 z f) h.2)

  ready_goes : (v : Option S) (m : S) → v ≡ Some m → ForSome v (λ p. k.finished p ≡ false) → k.finished m ≡ false
  ready_goes v m e h = h m e

  module _ (n : ℕ) (g : Stage) (v : Option S) (m : S) (w : W) (z : Worked S W A) (has : v ≡ Some m) (ready : ForSome v (λ p. k.finished p ≡ false)) (h : HasWorked k made seen n m w z) where
    -- the session is what these made of it
    pub ran_to : (t : Turned S) → turned_by z.answer (k.finished z.machine) z.machine g ≡ t → RunsTo o made seen n (asking o g v) w (record { left = z.left; turned = t; words = z.words })
    ran_to t is =
        let ran : RunsTo o made seen n (asking o g (Some m)) w (as_ran g z) = session_ran n g m w z (ready_goes v m has ready) h in
        subst (λ (x : Option S). RunsTo o made seen n (asking o g x) w (record { left = z.left; turned = t; words = z.words })) (sym has)
        (subst (λ (x : Turned S). RunsTo o made seen n (asking o g (Some m)) w (record { left = z.left; turned = x; words = z.words })) is ran)

    pub none_more : z.left ≤ n
    none_more = fewer_left n (asking o g v) w _ (ran_to _ refl)

    -- it has answered
    pub has_answered : (a : A) (r : Said) (t : Stage) (x : Option S) → z.answer ≡ Some a → r ≡ (o.replies a g).said → t ≡ (o.replies a g).stage → x ≡ None
        → RunsTo o made seen n (asking o g v) w (record { left = z.left; turned = record { said = r; stage = t; work = x }; words = z.words })
    has_answered a r t x is said stage work = ran_to _ (ap (λ (b : Option A). turned_by b (k.finished z.machine) z.machine g) is ∙ (λ i. record { said = sym said i; stage = sym stage i; work = sym work i }))

    -- it hasn't, and goes on or not
    pub has_gone : (f : Bool) (r : Said) → z.answer ≡ None → k.finished z.machine ≡ f → r ≡ next_said o (kept o f z.machine)
        → RunsTo o made seen n (asking o g v) w (record { left = z.left; turned = record { said = r; stage = g; work = kept o f z.machine }; words = z.words })
    has_gone f r is over said =
        ran_to _ (ap (λ (b : Option A). turned_by b (k.finished z.machine) z.machine g) is ∙ ap (λ (t : Bool). asking o g (kept o t z.machine)) over ∙ (λ i. record { said = sym said i; stage = g; work = kept o f z.machine }))
