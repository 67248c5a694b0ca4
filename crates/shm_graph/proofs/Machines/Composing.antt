-- a machine that runs another one as its part
use Rattle.std.proofs.Common.{◌≡◌, ℕ, refl, subst}
use Rattle.std.specs.Prelude.{Option, Some, None}
use Rattle.shm_graph.specs.declared.{spot.Spot.Spot, ask.{Me.Me, Ask.Ask, Turn.TheVariants.{More, Done}}}
use Rattle.shm_graph.specs.{declared.memo.Memo.Memo, Laws.{Frame, KeptAt, Outcome, turn_of}}

-- what follows from what holds after the part's step
pub kept_then : (me : Me) (w : Spot → ℕ) (r : ℕ → Memo) (a : Ask) (f : Frame) (after after' : ℕ → Memo → Type 0) (p : Spot) → ((n : ℕ) (m : Memo) → after n m → after' n m) → KeptAt me w r a f after p → KeptAt me w r a f after' p
kept_then me w r a f after after' p then k = record { told = k.told; step = k.step; fits = then _ _ k.fits }

-- by cases on whether the part is done
pub outcome_then : {A : Type 0} (X : Option A → Type 0) (t : Option A) (P : Type 0) (Q : A → Type 0) → (P → X None) → ((a : A) → Q a → X (Some a)) → Outcome t P Q → X t
outcome_then X None P Q f g h = f h
outcome_then X (Some a) P Q f g h = g a h

-- what holds where the part goes on, and where it is done
pub outcome_none : {A : Type 0} (t : Option A) (P : Type 0) (Q : A → Type 0) → t ≡ None → Outcome t P Q → P
outcome_none t P Q e h = subst (λ o. Outcome o P Q) e h

-- from the turn that a machine makes of what it answers
pub none_of : {A : Type 0} (o : Option A) → turn_of o ≡ More → o ≡ None
none_of None e = refl
none_of (Some a) e = cc

pub some_of : {A : Type 0} (o : Option A) (a : A) → turn_of o ≡ Done a → o ≡ Some a
some_of None a e = cc
some_of (Some b) a e = cc
