-- one of two machines: its control, when it fits, what it gives, and its laws: what is proved of it
use Rattle.std.proofs.Common.{◌≡◌, ℕ, Bool, true, refl, sym, ap, ◌∙◌, subst}
use Rattle.std.specs.{Prelude.{Option, Some, None, List, [], ◌∷◌, ◌++◌}, List.filter, Option.option_map}
use Rattle.shm_graph.specs.{declared.{ask.{Ask.Ask, Me.Me}, spot.Spot.Spot, memo.Memo.Memo}, Agents.recovers}
use Rattle.shm_graph.specs.{Asks.{Trail, pair}, Events.Event}
use Rattle.shm_graph.specs.Laws.{Control, Frame, KeptAt, Steady, Inside, Back, Then, Laws, Outcome, is_some}
use Rattle.shm_graph.specs.{Mapped.{OnTheWay, AtTheEnd}, Tells.{Tells, happens_along, is_event, tells_along}}
use Rattle.plans.specs.{declared.or.Or.{Or, TheVariants.{First, Second}}, Parts.{IsHeld, Part, PartLaws}}
use Rattle.plans.specs.{Placed.{PlacedKeeps, PlacedLaws}, Proved.Placed.{placed, from_placed}}
use Rattle.plans.specs.Either.{or_me, or_control, OrFits, OrGives, or_does, OrNeeds, OrLeaves, OrAsks, or_part}

-- an answer is none where it is told in another way
told_some : {A B : Type 0} (f : A → B) (o : Option A) → is_some o ≡ is_some (option_map f o)
told_some f None = refl
told_some f (Some a) = refl

told_none : {A B : Type 0} (f : A → B) (o : Option A) → option_map f o ≡ None → o ≡ None
told_none f None e = refl
told_none f (Some a) e = cc

-- what holds after a step holds of the answer as it is told
pub told_outcome : {A B : Type 0} (f : A → B) (o : Option A) (P : Type 0) (Q : A → Type 0) (R : B → Type 0) → ((a : A) → Q a → R (f a)) → Outcome o P Q → Outcome (option_map f o) P R
told_outcome f None P Q R then h = h
told_outcome f (Some a) P Q R then h = then a h

-- what follows of the memo after a step
pub after_step : (me : Me) (w : Spot → ℕ) (r : ℕ → Memo) (a : Ask) (f : Frame) (after after' : ℕ → Memo → Type 0) (p : Spot) → ((n : ℕ) (m : Memo) → after n m → after' n m) → KeptAt me w r a f after p → KeptAt me w r a f after' p
after_step me w r a f after after' p then k = record { told = k.told; step = k.step; fits = then _ _ k.fits }

module _ {S T A B : Type 0} (j : Control S A) (k : Control T B) (fits : OnTheWay S) (gives : AtTheEnd S A) (fits' : OnTheWay T) (gives' : AtTheEnd T B) where
  or_steady : Steady j → Steady k → Steady (or_control j k)
  or_steady h i (First m) n going = let s = h m n going in record { same_me = s.same_me; same_line = s.same_line; started = s.started; ends = s.ends ∙ told_some First (j.turns m n) }
  or_steady h i (Second m) n going = let s = i m n going in record { same_me = s.same_me; same_line = s.same_line; started = s.started; ends = s.ends ∙ told_some Second (k.turns m n) }

  or_inside : Inside j fits → Inside k fits' → Inside (or_control j k) (OrFits fits fits')
  or_inside h i (First m) = h m
  or_inside h i (Second m) = i m

  or_back : Back j gives → Back k gives' → Back (or_control j k) (OrGives gives gives')
  or_back h i (First m) n going goes r0 r tr (First a) g = h m n going (told_none First (j.turns m n) goes) r0 r tr a g
  or_back h i (First m) n going goes r0 r tr (Second a) g = absurd g
  or_back h i (Second m) n going goes r0 r tr (First a) g = absurd g
  or_back h i (Second m) n going goes r0 r tr (Second a) g = i m n going (told_none Second (k.turns m n) goes) r0 r tr a g

  or_keeps : (first : Bool) → PlacedKeeps first j fits gives → PlacedKeeps first k fits' gives' → PlacedKeeps first (or_control j k) (OrFits fits fits') (OrGives gives gives')
  or_keeps first h i (First m) r0 tr w r f going s may fit =
      after_step (j.me m) w r (j.asks m) f (Then j fits gives m r0 tr) (Then (or_control j k) (OrFits fits fits') (OrGives gives gives') (First m) r0 tr) _
      (λ n x. told_outcome First (j.turns m n) (fits (j.after m n) r0 x (tr ++ pair (j.asks m) n ∷ [])) (gives m r0 x (tr ++ pair (j.asks m) n ∷ [])) (OrGives gives gives' (First m) r0 x (tr ++ pair (j.asks m) n ∷ [])) (λ a g. g))
      (h m r0 tr w r f going s may fit)
  or_keeps first h i (Second m) r0 tr w r f going s may fit =
      after_step (k.me m) w r (k.asks m) f (Then k fits' gives' m r0 tr) (Then (or_control j k) (OrFits fits fits') (OrGives gives gives') (Second m) r0 tr) _
      (λ n x. told_outcome Second (k.turns m n) (fits' (k.after m n) r0 x (tr ++ pair (k.asks m) n ∷ [])) (gives' m r0 x (tr ++ pair (k.asks m) n ∷ [])) (OrGives gives gives' (Second m) r0 x (tr ++ pair (k.asks m) n ∷ [])) (λ a g. g))
      (i m r0 tr w r f going s may fit)

  -- two parts make a part
  pub or_placed : (first : Bool) → PlacedLaws first j fits gives → PlacedLaws first k fits' gives' → PlacedLaws first (or_control j k) (OrFits fits fits') (OrGives gives gives')
  or_placed first h i = record { steady = or_steady h.steady i.steady; inside = or_inside h.inside i.inside; back = or_back h.back i.back; keeps = or_keeps first h.keeps i.keeps }

  -- two machines make a machine
  pub or_laws : Laws j fits gives → Laws k fits' gives' → Laws (or_control j k) (OrFits fits fits') (OrGives gives gives')
  or_laws h i = from_placed (or_control j k) (OrFits fits fits') (OrGives gives gives') (or_placed true (placed true j fits gives h) (placed true k fits' gives' i))

-- what each tells is what happens
pub or_tells : {S T A B : Type 0} (j : Control S A) (k : Control T B) (fits : OnTheWay S) (fits' : OnTheWay T) (does : S → ℕ → Event) (does' : T → ℕ → Event) → Tells j fits does → Tells k fits' does' → Tells (or_control j k) (OrFits fits fits') (or_does does does')
or_tells j k fits fits' does does' h i (First m) r0 tr w r f going s fit = h m r0 tr w r f going s fit
or_tells j k fits fits' does does' h i (Second m) r0 tr w r f going s fit = i m r0 tr w r f going s fit

-- ---- as parts

-- they tell of their own events
module _ {S T A B : Type 0} (j : Control S A) (k : Control T B) (f : S → ℕ → Event) (g : T → ℕ → Event) where
  tells_first : (m : S) (tr : Trail) → tells_along (or_control j k) (or_does f g) (First m) tr ≡ tells_along j f m tr
  tells_first m [] = refl
  tells_first m (x ∷ tr) = ap (λ (es : List Event). f m x.word ∷ es) (tells_first (j.after m x.word) tr)

  tells_second : (m : T) (tr : Trail) → tells_along (or_control j k) (or_does f g) (Second m) tr ≡ tells_along k g m tr
  tells_second m [] = refl
  tells_second m (x ∷ tr) = ap (λ (es : List Event). g m x.word ∷ es) (tells_second (k.after m x.word) tr)

module _ {S T A B : Type 0} (first : Bool) (j : Control S A) (k : Control T B) (p : Part S A) (q : Part T B) (h : PartLaws first j p) (i : PartLaws first k q) where
  begin_of : (m : Or S T) (r : Memo) → OrNeeds p.needs q.needs m r → OrFits p.fits q.fits m r r []
  begin_of (First m) r n = h.begins m r n
  begin_of (Second m) r n = i.begins m r n

  end_of : (m : Or S T) (rs r : Memo) (t : Trail) (a : Or A B) → OrNeeds p.needs q.needs m rs → OrGives p.gives q.gives m rs r t a → IsHeld (or_me j k m) r → recovers r ≡ recovers rs
      → OrLeaves p.leaves q.leaves m rs r t (happens_along (or_control j k) (or_does p.does q.does) m t) a
  end_of (First m) rs r t (First a) n g held same = subst (λ (es : List Event). p.leaves m rs r t (filter is_event es) a) (sym (tells_first j k p.does q.does m t)) (h.ends m rs r t a n g held same)
  end_of (Second m) rs r t (Second b) n g held same = subst (λ (es : List Event). q.leaves m rs r t (filter is_event es) b) (sym (tells_second j k p.does q.does m t)) (i.ends m rs r t b n g held same)
  end_of (First m) rs r t (Second b) n g held same = absurd g
  end_of (Second m) rs r t (First a) n g held same = absurd g

  asked_of : (m : Or S T) (rs r : Memo) (t : Trail) (a : Or A B) → OrNeeds p.needs q.needs m rs → OrGives p.gives q.gives m rs r t a → OrAsks p.asks q.asks m t a
  asked_of (First m) rs r t (First a) n g = h.asked m rs r t a n g
  asked_of (Second m) rs r t (Second b) n g = i.asked m rs r t b n g
  asked_of (First m) rs r t (Second b) n g = absurd g
  asked_of (Second m) rs r t (First a) n g = absurd g

  -- two parts make a part
  pub or_part_laws : PartLaws first (or_control j k) (or_part p q)
  or_part_laws =
      record {
        placed = or_placed j k p.fits p.gives q.fits q.gives first h.placed i.placed;
        tells = or_tells j k p.fits q.fits p.does q.does h.tells i.tells;
        begins = begin_of;
        ends = end_of;
        asked = asked_of;
      }
