-- many word steps of one of two machines, and of a machine that makes the calls of a plan
use Rattle.std.proofs.Common.{◌≡◌, ℕ, zero, suc, ◌<◌, refl, sym, ap, ◌∙◌, subst, arith}
use Rattle.std.specs.{Prelude.{Option, Some, None}}
use Rattle.shm_graph.specs.declared.ask.{Ask.Ask, Turn.{Turn, TheVariants.{More, Done, Died}}}
use Rattle.shm_graph.specs.{Laws.{Control, Outcome}, Mapped.told_turn, ManySteps.{Stop, MayRun, HasRun}}
use Rattle.shm_graph.proofs.{Machines.ManySteps.{Running, told_on, told_stop, untold}, Machines.Composing.outcome_none}
use Rattle.plans.specs.declared.{calls.Calls.Calls, or.Or.{Or, TheVariants.{First, Second}}}
use Rattle.plans.specs.{CallsControl.{answered, called_on, calls_control, calls_of, planned}, Either.or_control, Steering.Steered}

-- ---- one of two machines

module _ {S T A B W : Type 0} (j : Control S A) (k : Control T B) (may : W → Ask → Type 0) (made : W → Ask → W → Type 0) (seen : W → Ask → W → ℕ) where
  first_may : (n : ℕ) (m : S) (w : W) → MayRun (or_control j k) may made seen n (First m) w → MayRun j may made seen n m w
  first_may zero m w h = tt
  first_may (suc n) m w h =
      (h.0, h.1, λ u e. let x : ℕ = seen w (j.asks m) u in untold First (j.turns m x) (MayRun j may made seen n (j.after m x) u) (MayRun (or_control j k) may made seen n (First (j.after m x)) u) (first_may n (j.after m x) u) (h.2 u e))

  second_may : (n : ℕ) (m : T) (w : W) → MayRun (or_control j k) may made seen n (Second m) w → MayRun k may made seen n m w
  second_may zero m w h = tt
  second_may (suc n) m w h =
      (h.0, h.1, λ u e. let x : ℕ = seen w (k.asks m) u in untold Second (k.turns m x) (MayRun k may made seen n (k.after m x) u) (MayRun (or_control j k) may made seen n (Second (k.after m x)) u) (second_may n (k.after m x) u) (h.2 u e))

  first_ran : (n : ℕ) (m : S) (w : W) (z : Stop S W A) → HasRun j made seen n m w z → HasRun (or_control j k) made seen n (First m) w (told_stop First First z)
  first_ran zero m w z e = let t : Stop S W A → Stop (Or S T) W (Or A B) = told_stop First First in ap t e
  first_ran (suc n) m w z r =
      let x : ℕ = seen w (j.asks m) r.0 in
      let t : Stop S W A → Stop (Or S T) W (Or A B) = told_stop First First in (
        r.0,
        r.1,
        told_on First (j.turns m x) (HasRun j made seen n (j.after m x) r.0 z) (HasRun (or_control j k) made seen n (First (j.after m x)) r.0 (t z)) (λ a. z ≡ record { left = n; machine = j.after m x; words = r.0; turn = Done a }) (λ b. t z ≡ record { left = n; machine = First (j.after m x); words = r.0; turn = Done b })
            (first_ran n (j.after m x) r.0 z) (λ a e. ap t e) r.2,
      )

  -- the same, of a machine that is one of the two and of what it tells
  pub first_goes : (n : ℕ) (y : Or S T) (m : S) (w : W) → y ≡ First m → MayRun (or_control j k) may made seen n y w → MayRun j may made seen n m w
  first_goes n y m w e h = first_may n m w (subst (λ (x : Or S T). MayRun (or_control j k) may made seen n x w) e h)

  pub first_runs : (n : ℕ) (y : Or S T) (m : S) (w : W) → y ≡ First m → (z : Stop S W A) → HasRun j made seen n m w z → (t : Turn (Or A B)) → t ≡ told_turn First z.turn → HasRun (or_control j k) made seen n y w (record { left = z.left; machine = First z.machine; words = z.words; turn = t })
  first_runs n y m w e z r t f =
      let end : Turn (Or A B) → Stop (Or S T) W (Or A B) = λ u. record { left = z.left; machine = First z.machine; words = z.words; turn = u } in
      subst (λ (x : Or S T). HasRun (or_control j k) made seen n x w (end t)) (sym e) (subst (λ (u : Turn (Or A B)). HasRun (or_control j k) made seen n (First m) w (end u)) (sym f) (first_ran n m w z r))

  second_ran : (n : ℕ) (m : T) (w : W) (z : Stop T W B) → HasRun k made seen n m w z → HasRun (or_control j k) made seen n (Second m) w (told_stop Second Second z)
  second_ran zero m w z e = let t : Stop T W B → Stop (Or S T) W (Or A B) = told_stop Second Second in ap t e
  second_ran (suc n) m w z r =
      let x : ℕ = seen w (k.asks m) r.0 in
      let t : Stop T W B → Stop (Or S T) W (Or A B) = told_stop Second Second in (
        r.0,
        r.1,
        told_on Second (k.turns m x) (HasRun k made seen n (k.after m x) r.0 z) (HasRun (or_control j k) made seen n (Second (k.after m x)) r.0 (t z)) (λ a. z ≡ record { left = n; machine = k.after m x; words = r.0; turn = Done a }) (λ b. t z ≡ record { left = n; machine = Second (k.after m x); words = r.0; turn = Done b })
            (second_ran n (k.after m x) r.0 z) (λ a e. ap t e) r.2,
      )

  pub second_goes : (n : ℕ) (y : Or S T) (m : T) (w : W) → y ≡ Second m → MayRun (or_control j k) may made seen n y w → MayRun k may made seen n m w
  second_goes n y m w e h = second_may n m w (subst (λ (x : Or S T). MayRun (or_control j k) may made seen n x w) e h)

  pub second_runs : (n : ℕ) (y : Or S T) (m : T) (w : W) → y ≡ Second m → (z : Stop T W B) → HasRun k made seen n m w z → (t : Turn (Or A B)) → t ≡ told_turn Second z.turn → HasRun (or_control j k) made seen n y w (record { left = z.left; machine = Second z.machine; words = z.words; turn = t })
  second_runs n y m w e z r t f =
      let end : Turn (Or A B) → Stop (Or S T) W (Or A B) = λ u. record { left = z.left; machine = Second z.machine; words = z.words; turn = u } in
      subst (λ (x : Or S T). HasRun (or_control j k) made seen n x w (end t)) (sym e) (subst (λ (u : Turn (Or A B)). HasRun (or_control j k) made seen n (Second m) w (end u)) (sym f) (second_ran n m w z r))

-- ---- the calls of a plan

module _ {P C B A W : Type 0} (k : Control C B) (q : Steered P C B A) (may : W → Ask → Type 0) (made : W → Ask → W → Type 0) (seen : W → Ask → W → ℕ) where
  abbrev whole : Control (Calls P C) A
  whole = calls_control k q

  abbrev mid : P → C → Calls P C
  mid p c = record { plan = p; call = c }

  -- the word steps that the machine may make, its call may make
  call_goes : (n : ℕ) (p : P) (c : C) (o : Option B) (u : W) → (MayRun whole may made seen n (mid p c) u → MayRun k may made seen n c u) → Outcome (answered k q p o) (MayRun whole may made seen n (called_on k q p c o) u) (λ a. Unit {0}) → Outcome o (MayRun k may made seen n c u) (λ b. Unit {0})
  call_goes n p c None u f h = f h
  call_goes n p c (Some b) u f h = tt

  pub call_may : (n : ℕ) (p : P) (c : C) (w : W) → MayRun whole may made seen n (mid p c) w → MayRun k may made seen n c w
  call_may zero p c w h = tt
  call_may (suc n) p c w h = (h.0, h.1, λ u e. let x : ℕ = seen w (k.asks c) u in call_goes n p (k.after c x) (k.turns c x) u (call_may n p (k.after c x) u) (h.2 u e))

  -- its call has answered b: some life was spent, and what the plan goes on with is what the machine goes on with
  pub record Answered (n : ℕ) (p : P) (c : C) (w : W) (l : ℕ) (c' : C) (v : W) (b : B) : Type 0 where
    pub less : l < n
    pub may_go : MayRun whole may made seen n (mid p c) w → Outcome (q.turns p b) (MayRun whole may made seen l (calls_of q (q.after p b)) v) (λ a. Unit {0})
    pub rest : (z : Stop (Calls P C) W A) → Outcome (q.turns p b) (HasRun whole made seen l (calls_of q (q.after p b)) v z) (λ a. z ≡ record { left = l; machine = mid (q.after p b) c'; words = v; turn = Done a }) → HasRun whole made seen n (mid p c) w z

  -- by how its call ended
  abbrev Went : ℕ → P → C → W → ℕ → C → W → Turn B → Type 0
  Went n p c w l c' v (Done b) = Answered n p c w l c' v b
  Went n p c w l c' v Died = HasRun whole made seen n (mid p c) w (record { left = l; machine = mid p c'; words = v; turn = Died })
  Went n p c w l c' v More = ⊥

  abbrev WentTo : ℕ → P → C → W → Stop C W B → Type 0
  WentTo n p c w z = Went n p c w z.left z.machine z.words z.turn

  -- an answer of the plan's, or its next call
  next_may : (n : ℕ) (d : C) (p : P) (o : Option A) (u : W) → Outcome o (MayRun whole may made seen n (planned k q d p o) u) (λ a. Unit {0}) → Outcome o (MayRun whole may made seen n (calls_of q p) u) (λ a. Unit {0})
  next_may n d p None u h = h
  next_may n d p (Some a) u h = tt

  next_ran : (n : ℕ) (d : C) (p : P) (o : Option A) (u : W) (z : Stop (Calls P C) W A) → Outcome o (HasRun whole made seen n (calls_of q p) u z) (λ a. z ≡ record { left = n; machine = mid p d; words = u; turn = Done a })
      → Outcome o (HasRun whole made seen n (planned k q d p o) u z) (λ a. z ≡ record { left = n; machine = planned k q d p o; words = u; turn = Done a })
  next_ran n d p None u z h = h
  next_ran n d p (Some a) u z h = h

  -- a word step before one after which it went so: of that step is known what may follow it, and what follows of it
  one_before : (n : ℕ) (p : P) (c d : C) (w u : W) (l : ℕ) (c' : C) (v : W) (t : Turn B) → (MayRun whole may made seen (suc n) (mid p c) w → MayRun whole may made seen n (mid p d) u)
      → ((z : Stop (Calls P C) W A) → HasRun whole made seen n (mid p d) u z → HasRun whole made seen (suc n) (mid p c) w z) → Went n p d u l c' v t → Went (suc n) p c w l c' v t
  one_before n p c d w u l c' v (Done b) y r g = record { less = let s : l < n = g.less in omega arith; may_go = λ h. g.may_go (y h); rest = λ z h. r z (g.rest z h) }
  one_before n p c d w u l c' v Died y r g = r _ g
  one_before n p c d w u l c' v More y r g = absurd g

  -- a word step that found what makes of the call d with the turn o
  by_turn : (n : ℕ) (p : P) (c d : C) (w u : W) (o : Option B) (z : Stop C W B)
      → (MayRun whole may made seen (suc n) (mid p c) w → Outcome (answered k q p o) (MayRun whole may made seen n (called_on k q p d o) u) (λ a. Unit {0}))
      → ((y : Stop (Calls P C) W A) → Outcome (answered k q p o) (HasRun whole made seen n (called_on k q p d o) u y) (λ a. y ≡ record { left = n; machine = called_on k q p d o; words = u; turn = Done a }) → HasRun whole made seen (suc n) (mid p c) w y)
      → (HasRun k made seen n d u z → WentTo n p d u z) → Outcome o (HasRun k made seen n d u z) (λ b. z ≡ record { left = n; machine = d; words = u; turn = Done b }) → WentTo (suc n) p c w z
  by_turn n p c d w u None z y r f g = one_before n p c d w u z.left z.machine z.words z.turn y r (f g)
  by_turn n p c d w u (Some b) z y r f e =
      let it : Answered (suc n) p c w n d u b =
      record {
        less = let s : n ≡ n = refl in omega arith;
        may_go = λ h. next_may n d (q.after p b) (q.turns p b) u (y h);
        rest = λ x h. r x (next_ran n d (q.after p b) (q.turns p b) u x h);
      } in
      subst (λ (x : Stop C W B). WentTo (suc n) p c w x) (sym e) it

  pub went : (n : ℕ) (p : P) (c : C) (w : W) (z : Stop C W B) → HasRun k made seen n c w z → WentTo n p c w z
  went zero p c w z e = subst (λ (x : Stop C W B). WentTo zero p c w x) (sym e) refl
  went (suc n) p c w z r =
      let x : ℕ = seen w (k.asks c) r.0 in
      by_turn n p c (k.after c x) w r.0 (k.turns c x) z (λ h. h.2 r.0 r.1) (λ y h. (r.0, r.1, h)) (went n p (k.after c x) r.0 z) r.2

  -- ---- between two calls

  -- how a run of the call ended that told t
  ended : (n : ℕ) (p : P) (c : C) (w : W) (l : ℕ) (c' : C) (v : W) (t t' : Turn B) → HasRun k made seen n c w (record { left = l; machine = c'; words = v; turn = t }) → t ≡ t' → Went n p c w l c' v t'
  ended n p c w l c' v t t' r e = subst (λ (s : Turn B). Went n p c w l c' v s) e (went n p c w _ r)

  pub spends : (n : ℕ) (p : P) (c : C) (w : W) (l : ℕ) (c' : C) (v : W) (t : Turn B) (b : B) → HasRun k made seen n c w (record { left = l; machine = c'; words = v; turn = t }) → t ≡ Done b → l < n
  spends n p c w l c' v t b r e = (ended n p c w l c' v t (Done b) r e).less

  pub begun_as : (m : Calls P C) (p : P) → m.plan ≡ p → m.call ≡ q.call p → m ≡ calls_of q p
  begun_as m p e f =
      let a : P → Calls P C = λ s. mid s m.call in
      let b : C → Calls P C = λ d. mid p d in
      ap a e ∙ ap b f

  -- the plan's next call begins
  pub goes_on : (n0 : ℕ) (m0 : Calls P C) (w0 : W) → (n : ℕ) (m : Calls P C) (w : W) → Running whole may made seen n0 m0 w0 n m w → (l : ℕ) (c' : C) (v : W) (t : Turn B) (b : B) → HasRun k made seen n m.call w (record { left = l; machine = c'; words = v; turn = t }) → t ≡ Done b
      → q.turns m.plan b ≡ None → (p : P) → p ≡ q.after m.plan b → (m' : Calls P C) → m' ≡ calls_of q p → Running whole may made seen n0 m0 w0 l m' v
  goes_on n0 m0 w0 n m w i l c' v t b r e none p is m' so =
      let a : Answered n m.plan m.call w l c' v b = ended n m.plan m.call w l c' v t (Done b) r e in
      let f : P → Type 0 = λ s. Running whole may made seen n0 m0 w0 l (calls_of q s) v in
      let it : f (q.after m.plan b) =
      record {
        may_go = outcome_none (q.turns m.plan b) (MayRun whole may made seen l (calls_of q (q.after m.plan b)) v) (λ a. Unit {0}) none (a.may_go i.may_go);
        rest = λ z h. i.rest z (a.rest z (subst (λ (o : Option A). Outcome o (HasRun whole made seen l (calls_of q (q.after m.plan b)) v z) (λ a. z ≡ record { left = l; machine = mid (q.after m.plan b) c'; words = v; turn = Done a })) (sym none) h));
      } in
      subst (λ (s : Calls P C). Running whole may made seen n0 m0 w0 l s v) (sym so) (subst f (sym is) it)

  -- the plan has answered
  pub is_over : (n0 : ℕ) (m0 : Calls P C) (w0 : W) → (n : ℕ) (m : Calls P C) (w : W) → Running whole may made seen n0 m0 w0 n m w → (l : ℕ) (c' : C) (v : W) (t : Turn B) (b : B) → HasRun k made seen n m.call w (record { left = l; machine = c'; words = v; turn = t }) → t ≡ Done b
      → (a : A) → q.turns m.plan b ≡ Some a → (p : P) → p ≡ q.after m.plan b → HasRun whole made seen n0 m0 w0 (record { left = l; machine = mid p c'; words = v; turn = Done a })
  is_over n0 m0 w0 n m w i l c' v t b r e a some p is =
      let end : P → Stop (Calls P C) W A = λ s. record { left = l; machine = mid s c'; words = v; turn = Done a } in
      i.rest (end p) ((ended n m.plan m.call w l c' v t (Done b) r e).rest (end p) (subst (λ (o : Option A). Outcome o (HasRun whole made seen l (calls_of q (q.after m.plan b)) v (end p)) (λ x. end p ≡ record { left = l; machine = mid (q.after m.plan b) c'; words = v; turn = Done x })) (sym some) (ap end is)))

  -- no life is left
  pub is_cut : (n0 : ℕ) (m0 : Calls P C) (w0 : W) → (n : ℕ) (m : Calls P C) (w : W) → Running whole may made seen n0 m0 w0 n m w → (l : ℕ) (c' : C) (v : W) (t : Turn B) → HasRun k made seen n m.call w (record { left = l; machine = c'; words = v; turn = t }) → t ≡ Died
      → HasRun whole made seen n0 m0 w0 (record { left = l; machine = mid m.plan c'; words = v; turn = Died })
  is_cut n0 m0 w0 n m w i l c' v t r e = i.rest _ (ended n m.plan m.call w l c' v t Died r e)

  pub tells_end : (n : ℕ) (p : P) (c : C) (w : W) (l : ℕ) (c' : C) (v : W) (t : Turn B) → HasRun k made seen n c w (record { left = l; machine = c'; words = v; turn = t }) → t ≡ More → ⊥
  tells_end n p c w l c' v t r e = ended n p c w l c' v t More r e
