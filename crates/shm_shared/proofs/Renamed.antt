-- a machine whose states are those of another one by a name, and whose answers are: its laws are those of that one
use Rattle.std.proofs.Common.{◌≡◌, ℕ, ◌<◌, false, refl, sym, ap, ◌∙◌, subst, [], ◌∷◌, ◌++◌}
use Rattle.std.specs.{Prelude.{Option, Some, None}, Option.option_map}
use Rattle.shm_words.specs.Layout.{total_of}
use Rattle.shm_graph.specs.{declared.{ask.{Ask.Ask, Me.Me}, memo.Memo.Memo}, Asks.{Trail, at_of, pair}}
use Rattle.shm_graph.specs.Laws.{Back, Control, EachStepKeeps, Inside, Laws, Outcome, Steady, StepKeeps, Then, is_some}
use Rattle.shm_graph.specs.Mapped.{AtTheEnd, OnTheWay}
use Rattle.plans.specs.Proved.Either.{after_step}

-- the state of j is a state of k by `to`, and its answers are those of k by f
pub record IsNamed {S A T B : Type 0} (j : Control S A) (k : Control T B) (to : S → T) (f : A → B) : Type 0 where
  pub me : (m : S) → k.me (to m) ≡ j.me m
  pub line : (m : S) → k.line (to m) ≡ j.line m
  pub fresh : (m : S) → k.fresh (to m) ≡ j.fresh m
  pub finished : (m : S) → k.finished (to m) ≡ j.finished m
  pub asks : (m : S) → k.asks (to m) ≡ j.asks m
  pub after : (m : S) (n : ℕ) → k.after (to m) n ≡ to (j.after m n)
  pub turns : (m : S) (n : ℕ) → k.turns (to m) n ≡ option_map f (j.turns m n)

-- it fits and gives what that one does
abbrev pub NamedFits : {S T : Type 0} → (S → T) → OnTheWay T → OnTheWay S
NamedFits to fits m = fits (to m)

abbrev pub NamedGives : {S T A B : Type 0} → (S → T) → (A → B) → AtTheEnd T B → AtTheEnd S A
NamedGives to f gives m r0 r tr a = gives (to m) r0 r tr (f a)

some_named : {A B : Type 0} (f : A → B) (o : Option A) → is_some (option_map f o) ≡ is_some o
some_named f None = refl
some_named f (Some a) = refl

outcome_named : {A B : Type 0} (f : A → B) (o : Option A) (P : Type 0) (Q : B → Type 0) → Outcome (option_map f o) P Q → Outcome o P (λ a. Q (f a))
outcome_named f None P Q h = h
outcome_named f (Some a) P Q h = h

module _ {S A T B : Type 0} (j : Control S A) (k : Control T B) (to : S → T) (f : A → B) (is : IsNamed j k to f) (fits : OnTheWay T) (gives : AtTheEnd T B) (laws : Laws k fits gives) where
  abbrev F : OnTheWay S
  F = NamedFits to fits

  abbrev G : AtTheEnd S A
  G = NamedGives to f gives

  going_on : (m : S) → j.finished m ≡ false → k.finished (to m) ≡ false
  going_on m going = is.finished m ∙ going

  steady : Steady j
  steady m n going =
      let s = laws.steady (to m) n (going_on m going) in
      record {
        same_me = sym (is.me (j.after m n)) ∙ (ap k.me (sym (is.after m n)) ∙ (s.same_me ∙ is.me m));
        same_line = sym (is.line (j.after m n)) ∙ (ap k.line (sym (is.after m n)) ∙ (s.same_line ∙ is.line m));
        started = sym (is.fresh (j.after m n)) ∙ (ap k.fresh (sym (is.after m n)) ∙ s.started);
        ends = sym (is.finished (j.after m n)) ∙ (ap k.finished (sym (is.after m n)) ∙ (s.ends ∙ (ap is_some (is.turns m n) ∙ some_named f (j.turns m n))));
      }

  inside : Inside j F
  inside m r0 r tr who fit going =
      let i = laws.inside (to m) r0 r tr (subst (λ (me : Me). me.who < me.geometry.clients) (sym (is.me m)) who) fit (going_on m going) in
      subst (λ (me : Me). at_of (j.asks m) < total_of me.geometry) (is.me m) (subst (λ (a : Ask). at_of a < total_of (k.me (to m)).geometry) (is.asks m) i)

  back : Back j G
  back m n going goes r0 r tr a g =
      laws.back (to m) n (going_on m going) (is.turns m n ∙ ap (option_map f) goes) r0 r tr (f a) (subst (λ (x : T). gives x r0 r tr (f a)) (sym (is.after m n)) g)

  -- what holds after a step, by the names
  then : (m : S) (r0 : Memo) (tr : Trail) (n : ℕ) (r : Memo) → Then k fits gives (to m) r0 tr n r → Then j F G m r0 tr n r
  then m r0 tr n r h =
      let fit : (x : T) (a : Ask) → Type 0 = λ x a. fits x r0 r (tr ++ pair a n ∷ []) in
      let end : (a : Ask) (b : B) → Type 0 = λ a b. gives (to m) r0 r (tr ++ pair a n ∷ []) b in
      subst (λ (a : Ask). Outcome (j.turns m n) (fit (to (j.after m n)) a) (λ (b : A). end a (f b))) (is.asks m)
      (subst (λ (x : T). Outcome (j.turns m n) (fit x (k.asks (to m))) (λ (b : A). end (k.asks (to m)) (f b))) (is.after m n)
      (outcome_named f (j.turns m n) (fit (k.after (to m) n) (k.asks (to m))) (end (k.asks (to m)))
      (subst (λ (o : Option B). Outcome o (fit (k.after (to m) n) (k.asks (to m))) (end (k.asks (to m)))) (is.turns m n) h)))

  keeps : EachStepKeeps j F G
  keeps m r0 tr going =
      let before : Memo → Type 0 = λ r. fits (to m) r0 r tr in
      let after : ℕ → Memo → Type 0 = Then j F G m r0 tr in
      let kept : StepKeeps (k.me (to m)) (k.asks (to m)) tr before after =
      λ w r frame s fit. after_step (k.me (to m)) w r (k.asks (to m)) frame (Then k fits gives (to m) r0 tr) after _ (λ n x h. then m r0 tr n x h) (laws.keeps (to m) r0 tr (going_on m going) w r frame s fit) in
      subst (λ (a : Ask). StepKeeps (j.me m) a tr before after) (is.asks m) (subst (λ (me : Me). StepKeeps me (k.asks (to m)) tr before after) (is.me m) kept)

  pub named_laws : Laws j F G
  named_laws = record { steady = steady; inside = inside; back = back; keeps = keeps }
