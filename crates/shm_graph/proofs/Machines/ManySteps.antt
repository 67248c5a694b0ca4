-- many word steps of a machine: what is known between two of them
use Rattle.std.proofs.Common.{◌≡◌, ℕ, zero, suc, ◌+◌, false, [], ◌∷◌, length, refl, sym, subst, ap, ◌∙◌, arith}
use Rattle.std.specs.{Prelude.{Option, Some, None}, Option.option_map}
use Rattle.shm_graph.specs.declared.ask.{Ask.Ask, Turn.{Turn, TheVariants.{More, Done, Died}}}
use Rattle.shm_graph.specs.{Asks.pair, Laws.{Control, Outcome, turn_of}, Mapped.{mapped, told_turn}, ManySteps.{Stop, MayRun, HasRun, IsAlong, answer_along, ended_so, or_later}}
use Rattle.shm_graph.proofs.Machines.Composing.{none_of, outcome_none, some_of}

-- what a machine tells in a turn is what it has answered, and never that it died
pub tells_none : {A : Type 0} (o : Option A) (t : Turn A) → t ≡ turn_of o → t ≡ More → o ≡ None
tells_none o t is more = none_of o (sym is ∙ more)

pub tells_some : {A : Type 0} (o : Option A) (t : Turn A) (a : A) → t ≡ turn_of o → t ≡ Done a → o ≡ Some a
tells_some o t a is done = some_of o a (sym is ∙ done)

no_death : {A : Type 0} (o : Option A) → turn_of o ≡ Died → ⊥
no_death None e = cc
no_death (Some a) e = cc

pub not_died : {A : Type 0} (o : Option A) (t : Turn A) → t ≡ turn_of o → t ≡ Died → ⊥
not_died o t is died = no_death o (sym is ∙ died)

module _ {S A W : Type 0} (k : Control S A) (may : W → Ask → Type 0) (made : W → Ask → W → Type 0) (seen : W → Ask → W → ℕ) where
  -- more word steps may be made, and where those are made, all are made from the first one on
  pub record Running (n : ℕ) (m : S) (w : W) (left : ℕ) (p : S) (v : W) : Type 0 where
    pub may_go : MayRun k may made seen left p v
    pub rest : (z : Stop S W A) → HasRun k made seen left p v z → HasRun k made seen n m w z

  pub begun : (n : ℕ) (m : S) (w : W) → MayRun k may made seen n m w → Running n m w n m w
  begun n m w h = record { may_go = h; rest = λ z r. r }

  -- the next one may be made, where some life is left
  pub next_may : (n : ℕ) (m : S) (w : W) (left l : ℕ) (p : S) (v : W) → Running n m w left p v → left ≡ suc l → (k.finished p ≡ false) × may v (k.asks p)
  next_may n m w left l p v r e = let h = subst (λ (i : ℕ). MayRun k may made seen i p v) e r.may_go in (h.0, h.1)

  -- it was made, and the machine goes on
  pub one_more : (n : ℕ) (m : S) (w : W) (left l : ℕ) (p : S) (v : W) → Running n m w left p v → left ≡ suc l → (u : W) → made v (k.asks p) u → (p' : S) → p' ≡ k.after p (seen v (k.asks p) u)
      → k.turns p (seen v (k.asks p) u) ≡ None → Running n m w l p' u
  one_more n m w left l p v r e u h p' is none =
      let x : ℕ = seen v (k.asks p) u in
      let here : Running n m w (suc l) p v = subst (λ (i : ℕ). Running n m w i p v) e r in
      subst (λ (s : S). Running n m w l s u) (sym is)
      (record {
        may_go = outcome_none (k.turns p x) (MayRun k may made seen l (k.after p x) u) (λ a. Unit {0}) none (here.may_go.2 u h);
        rest = λ z g. here.rest z (u, h, subst (λ (o : Option A). Outcome o (HasRun k made seen l (k.after p x) u z) (λ a. z ≡ record { left = l; machine = k.after p x; words = u; turn = Done a })) (sym none) g);
      })

  -- it was made, and the machine has answered
  pub answered_so : (n : ℕ) (m : S) (w : W) (left l : ℕ) (p : S) (v : W) → Running n m w left p v → left ≡ suc l → (u : W) → made v (k.asks p) u → (p' : S) → p' ≡ k.after p (seen v (k.asks p) u) → (a : A)
      → k.turns p (seen v (k.asks p) u) ≡ Some a → HasRun k made seen n m w (record { left = l; machine = p'; words = u; turn = Done a })
  answered_so n m w left l p v r e u h p' is a some =
      let x : ℕ = seen v (k.asks p) u in
      let here : Running n m w (suc l) p v = subst (λ (i : ℕ). Running n m w i p v) e r in
      let end : S → Stop S W A = λ s. record { left = l; machine = s; words = u; turn = Done a } in
      here.rest (end p') (u, h, subst (λ (o : Option A). Outcome o (HasRun k made seen l (k.after p x) u (end p')) (λ b. end p' ≡ record { left = l; machine = k.after p x; words = u; turn = Done b })) (sym some) (ap end is))

  -- no life is left
  pub none_left : (n : ℕ) (m : S) (w : W) (left : ℕ) (p : S) (v : W) → Running n m w left p v → left ≡ 0 → HasRun k made seen n m w (record { left = left; machine = p; words = v; turn = Died })
  none_left n m w left p v r e = r.rest _ (subst (λ (i : ℕ). HasRun k made seen i p v (record { left = i; machine = p; words = v; turn = Died })) (sym e) refl)

-- ---- a machine whose answers are told by those of another one

-- how many word steps end, of another machine and with other answers
abbrev pub told_stop : {S T W A B : Type 0} → (S → T) → (A → B) → Stop S W A → Stop T W B
told_stop i f z = record { left = z.left; machine = i z.machine; words = z.words; turn = told_turn f z.turn }

-- what holds where it goes on, and of its answer as it is told
pub told_on : {A B : Type 0} (f : A → B) (o : Option A) (P P' : Type 0) (Q : A → Type 0) (R : B → Type 0) → (P → P') → ((a : A) → Q a → R (f a)) → Outcome o P Q → Outcome (option_map f o) P' R
told_on f None P P' Q R g h x = g x
told_on f (Some a) P P' Q R g h x = h a x

pub untold : {A B : Type 0} (f : A → B) (o : Option A) (P P' : Type 0) → (P' → P) → Outcome (option_map f o) P' (λ b. Unit {0}) → Outcome o P (λ a. Unit {0})
untold f None P P' g x = g x
untold f (Some a) P P' g x = tt

module _ {S A B W : Type 0} (f : A → B) (k : Control S A) (may : W → Ask → Type 0) (made : W → Ask → W → Type 0) (seen : W → Ask → W → ℕ) where
  mapped_may : (n : ℕ) (m : S) (w : W) → MayRun (mapped f k) may made seen n m w → MayRun k may made seen n m w
  mapped_may zero m w h = tt
  mapped_may (suc n) m w h =
      (h.0, h.1, λ u e. let x : ℕ = seen w (k.asks m) u in untold f (k.turns m x) (MayRun k may made seen n (k.after m x) u) (MayRun (mapped f k) may made seen n (k.after m x) u) (mapped_may n (k.after m x) u) (h.2 u e))

  mapped_ran : (n : ℕ) (m : S) (w : W) (z : Stop S W A) → HasRun k made seen n m w z → HasRun (mapped f k) made seen n m w (told_stop (λ s. s) f z)
  mapped_ran zero m w z e = let t : Stop S W A → Stop S W B = told_stop (λ s. s) f in ap t e
  mapped_ran (suc n) m w z r =
      let x : ℕ = seen w (k.asks m) r.0 in
      let t : Stop S W A → Stop S W B = told_stop (λ s. s) f in (
        r.0,
        r.1,
        told_on f (k.turns m x) (HasRun k made seen n (k.after m x) r.0 z) (HasRun (mapped f k) made seen n (k.after m x) r.0 (t z)) (λ a. z ≡ record { left = n; machine = k.after m x; words = r.0; turn = Done a }) (λ b. t z ≡ record { left = n; machine = k.after m x; words = r.0; turn = Done b })
            (mapped_ran n (k.after m x) r.0 z) (λ a e. ap t e) r.2,
      )

  -- the same, where the machine and what is told are known by equations
  pub mapped_goes : (n : ℕ) (m m' : S) (w : W) → m' ≡ m → MayRun (mapped f k) may made seen n m w → MayRun k may made seen n m' w
  mapped_goes n m m' w e h = subst (λ (x : S). MayRun k may made seen n x w) (sym e) (mapped_may n m w h)

  pub mapped_runs : (n : ℕ) (m m' : S) (w : W) → m' ≡ m → (z : Stop S W A) → HasRun k made seen n m' w z → (t : Turn B) → t ≡ told_turn f z.turn → HasRun (mapped f k) made seen n m w (record { left = z.left; machine = z.machine; words = z.words; turn = t })
  mapped_runs n m m' w e z r t g =
      let end : Turn B → Stop S W B = λ u. record { left = z.left; machine = z.machine; words = z.words; turn = u } in
      subst (λ (x : S). HasRun (mapped f k) made seen n x w (end t)) e (subst (λ (u : Turn B). HasRun (mapped f k) made seen n m' w (end u)) (sym g) (mapped_ran n m' w z r))

-- ---- the trail of many word steps

module _ {S A W : Type 0} (k : Control S A) (made : W → Ask → W → Type 0) (seen : W → Ask → W → ℕ) where
  -- a word step, and the trail behind it
  along_more : (n : ℕ) (m : S) (w u : W) (z : Stop S W A) → made w (k.asks m) u → let x : ℕ = seen w (k.asks m) u in k.turns m x ≡ None → IsAlong k made seen n (k.after m x) u z → IsAlong k made seen (suc n) m w z
  along_more n m w u z h none t =
      let x : ℕ = seen w (k.asks m) u in
      let later : Option A = answer_along k (k.after m x) t.tr in
      let same : later ≡ or_later (k.turns m x) later = ap (λ (o : Option A). or_later o later) (sym none) in
      record {
        tr = pair (k.asks m) x ∷ t.tr;
        along = (u, h, refl, t.along);
        machine = t.machine;
        life = let l : length t.tr + z.left ≡ n = t.life in omega arith;
        turn = t.turn ∙ ap ended_so same;
        spent = λ e. t.spent (same ∙ e);
      }

  -- a word step that answers
  along_last : (n : ℕ) (m : S) (w u : W) (z : Stop S W A) (a : A) → made w (k.asks m) u → let x : ℕ = seen w (k.asks m) u in k.turns m x ≡ Some a → z ≡ record { left = n; machine = k.after m x; words = u; turn = Done a } → IsAlong k made seen (suc n) m w z
  along_last n m w u z a h some e =
      let x : ℕ = seen w (k.asks m) u in
      let same : Some a ≡ or_later (k.turns m x) None = ap (λ (o : Option A). or_later o None) (sym some) in
      let it : IsAlong k made seen (suc n) m w (record { left = n; machine = k.after m x; words = u; turn = Done a }) =
      record {
        tr = pair (k.asks m) x ∷ [];
        along = (u, h, refl, refl);
        machine = refl;
        life = omega arith;
        turn = ap ended_so same;
        spent = λ none. cc;
      } in
      subst (IsAlong k made seen (suc n) m w) (sym e) it

  by_answer : (n : ℕ) (m : S) (w u : W) (z : Stop S W A) (o : Option A) → made w (k.asks m) u → let x : ℕ = seen w (k.asks m) u in k.turns m x ≡ o → (HasRun k made seen n (k.after m x) u z → IsAlong k made seen n (k.after m x) u z)
      → Outcome o (HasRun k made seen n (k.after m x) u z) (λ a. z ≡ record { left = n; machine = k.after m x; words = u; turn = Done a }) → IsAlong k made seen (suc n) m w z
  by_answer n m w u z None h e f r = along_more n m w u z h e (f r)
  by_answer n m w u z (Some a) h e f r = along_last n m w u z a h e r

  pub as_trail : (n : ℕ) (m : S) (w : W) (z : Stop S W A) → HasRun k made seen n m w z → IsAlong k made seen n m w z
  as_trail zero m w z e =
      let it : IsAlong k made seen zero m w (record { left = 0; machine = m; words = w; turn = Died }) = record { tr = []; along = refl; machine = refl; life = refl; turn = refl; spent = λ e. refl } in
      subst (IsAlong k made seen zero m w) (sym e) it
  as_trail (suc n) m w z r = let x : ℕ = seen w (k.asks m) r.0 in by_answer n m w r.0 z (k.turns m x) r.1 refl (as_trail n (k.after m x) r.0 z) r.2
