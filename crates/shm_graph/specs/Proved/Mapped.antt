-- a control whose answers are told by those of another one, and its laws: what is proved of it
use Rattle.std.proofs.Common.{◌≡◌, ℕ, refl, ◌∙◌}
use Rattle.std.specs.{Prelude.{Option, Some, None, ◌∷◌, [], ◌++◌}, Option.option_map}
use Rattle.shm_graph.specs.{declared.{memo.Memo.Memo, ask.{Ask.Ask, Me.Me}, spot.Spot.Spot}, Asks.pair}
use Rattle.shm_graph.specs.Laws.{Control, Frame, KeptAt, Laws, Steady, Inside, Back, EachStepKeeps, Then, Outcome, is_some}
use Rattle.shm_graph.specs.Mapped.{OnTheWay, AtTheEnd, mapped, MappedGives, SomeFits, SomeGives, AmongFits, AmongGives}

-- what follows of the memo after a step
followed : (me : Me) (w : Spot → ℕ) (r : ℕ → Memo) (a : Ask) (f : Frame) (after after' : ℕ → Memo → Type 0) (p : Spot) → ((n : ℕ) (m : Memo) → after n m → after' n m) → KeptAt me w r a f after p → KeptAt me w r a f after' p
followed me w r a f after after' p then k = record { told = k.told; step = k.step; fits = then _ _ k.fits }

-- ---- answers that are told by f

-- there is an answer where there is one that tells it
some_told : {A B : Type 0} (f : A → B) (o : Option A) → is_some o ≡ is_some (option_map f o)
some_told f None = refl
some_told f (Some a) = refl

none_told : {A B : Type 0} (f : A → B) (o : Option A) → option_map f o ≡ None → o ≡ None
none_told f None e = refl
none_told f (Some a) e = cc

-- what holds after a step, where it holds of each answer that is told what it says
outcome_told : {A B : Type 0} (f : A → B) (o : Option A) (P : Type 0) (Q : A → Type 0) → Outcome o P Q → Outcome (option_map f o) P (λ b. (a : A) × (f a ≡ b) × Q a)
outcome_told f None P Q h = h
outcome_told f (Some a) P Q h = (a, refl, h)

module _ {S A B : Type 0} (f : A → B) (k : Control S A) (fits : OnTheWay S) (gives : AtTheEnd S A) where
  -- it is steady where the other one is
  pub mapped_steady : Steady k → Steady (mapped f k)
  mapped_steady h m n going = let s = h m n going in record { same_me = s.same_me; same_line = s.same_line; started = s.started; ends = s.ends ∙ some_told f (k.turns m n) }

  -- it asks for words of the pool where the other one does
  pub mapped_inside : Inside k fits → Inside (mapped f k) fits
  mapped_inside h m r0 r tr l fit going = h m r0 r tr l fit going

  -- what its answer says, it says of the machine before a step
  pub mapped_back : Back k gives → Back (mapped f k) (MappedGives f gives)
  mapped_back h m n going goes r0 r tr b g = (g.0, g.1, h m n going (none_told f (k.turns m n) goes) r0 r tr g.0 g.2)

  -- its steps keep the invariant where those of the other one do
  pub mapped_keeps : EachStepKeeps k fits gives → EachStepKeeps (mapped f k) fits (MappedGives f gives)
  mapped_keeps h m r0 tr going w r frame s fit =
      followed (k.me m) w r (k.asks m) frame (Then k fits gives m r0 tr) (Then (mapped f k) fits (MappedGives f gives) m r0 tr) _
      (λ n x. outcome_told f (k.turns m n) (fits (k.after m n) r0 x (tr ++ pair (k.asks m) n ∷ [])) (gives m r0 x (tr ++ pair (k.asks m) n ∷ [])))
      (h m r0 tr going w r frame s fit)

  -- the laws of a control are those of one whose answers it tells
  pub mapped_laws : Laws k fits gives → Laws (mapped f k) fits (MappedGives f gives)
  mapped_laws h = record { steady = mapped_steady h.steady; inside = mapped_inside h.inside; back = mapped_back h.back; keeps = mapped_keeps h.keeps }

-- ---- what holds for one of many

-- what holds after a step, where more follows of each way
outcome_more : {A : Type 0} (o : Option A) (P P' : Type 0) (Q Q' : A → Type 0) → (P → P') → ((a : A) → Q a → Q' a) → Outcome o P Q → Outcome o P' Q'
outcome_more None P P' Q Q' f g h = f h
outcome_more (Some a) P P' Q Q' f g h = g a h

module _ {S A X : Type 0} (k : Control S A) (fits : X → OnTheWay S) (gives : X → AtTheEnd S A) where
  -- steps keep the invariant for some x where they do for each
  some_keeps : ((x : X) → EachStepKeeps k (fits x) (gives x)) → EachStepKeeps k (SomeFits fits) (SomeGives gives)
  some_keeps h m r0 tr going w r frame s fit =
      followed (k.me m) w r (k.asks m) frame (Then k (fits fit.0) (gives fit.0) m r0 tr) (Then k (SomeFits fits) (SomeGives gives) m r0 tr) _
      (λ n z. outcome_more (k.turns m n) _ _ (gives fit.0 m r0 z (tr ++ pair (k.asks m) n ∷ [])) (SomeGives gives m r0 z (tr ++ pair (k.asks m) n ∷ [])) (λ q. (fit.0, q)) (λ a q. (fit.0, q)))
      (h fit.0 m r0 tr going w r frame s fit.1)

  -- the laws for each x are laws for some x
  pub some_laws : Steady k → ((x : X) → Inside k (fits x)) → ((x : X) → Back k (gives x)) → ((x : X) → EachStepKeeps k (fits x) (gives x)) → Laws k (SomeFits fits) (SomeGives gives)
  some_laws steady inside back keeps =
      record {
        steady = steady;
        inside = λ m r0 r tr l fit going. inside fit.0 m r0 r tr l fit.1 going;
        back = λ m n going goes r0 r tr a g. (g.0, back g.0 m n going goes r0 r tr a g.1);
        keeps = some_keeps keeps;
      }

-- ---- what holds of states that a control doesn't leave

module _ {S A : Type 0} (k : Control S A) (fits : OnTheWay S) (gives : AtTheEnd S A) (Q : S → Type 0) where
  -- steps keep the invariant among the states Q
  among_keeps : ((m : S) (n : ℕ) → Q m → Q (k.after m n)) → EachStepKeeps k fits gives → EachStepKeeps k (AmongFits Q fits) (AmongGives Q gives)
  among_keeps stays h m r0 tr going w r frame s fit =
      followed (k.me m) w r (k.asks m) frame (Then k fits gives m r0 tr) (Then k (AmongFits Q fits) (AmongGives Q gives) m r0 tr) _
      (λ n z. outcome_more (k.turns m n) _ _ (gives m r0 z (tr ++ pair (k.asks m) n ∷ [])) (AmongGives Q gives m r0 z (tr ++ pair (k.asks m) n ∷ [])) (λ q. (stays m n fit.0, q)) (λ a q. (fit.0, q)))
      (h m r0 tr going w r frame s fit.1)

  -- laws stay laws among states that no step enters or leaves
  pub among_laws : ((m : S) (n : ℕ) → Q m → Q (k.after m n)) → ((m : S) (n : ℕ) → Q (k.after m n) → Q m) → Laws k fits gives → Laws k (AmongFits Q fits) (AmongGives Q gives)
  among_laws stays came h =
      record {
        steady = h.steady;
        inside = λ m r0 r tr l fit going. h.inside m r0 r tr l fit.1 going;
        back = λ m n going goes r0 r tr a g. (came m n g.0, h.back m n going goes r0 r tr a g.1);
        keeps = among_keeps stays h.keeps;
      }
