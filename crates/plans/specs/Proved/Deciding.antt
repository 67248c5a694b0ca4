-- deciding steps: after the one step of a machine that decides, its state shows what it will answer; by its control and the words found, and no memo: what is proved of it
use Rattle.std.proofs.Common.{◌≡◌, ℕ, Bool, true, false, refl, sym, ap, ◌∙◌}
use Rattle.std.specs.{Prelude.{◌||◌, ◌&&◌, Option, Some, None, [], ◌∷◌}, Option.option_map}
use Rattle.shm_graph.specs.{Asks.Trail, Laws.{Control, is_some}, Mapped.mapped, Tells.after_all}
use Rattle.plans.specs.{declared.or.Or.{Or, TheVariants.{First, Second}}, Either.or_control}
use Rattle.plans.specs.Deciding.{Decides, Foretells, either, StillRuns, is_decided_along}

-- ---- machines in which the step isn't made

-- a machine that isn't the one with the deciding step: whether it was made stays as it was
pub keeps_decided : {S A : Type 0} (k : Control S A) (z : Bool) → Decides k (λ m. z) (λ m n. false) (λ a. z)
keeps_decided k true = record { goes = λ m n e. refl; ends = λ m n a e. refl }
keeps_decided k false = record { goes = λ m n e. refl; ends = λ m n a e. refl }

-- a machine whose deciding step counts where z is so
pub decides_where : {S A : Type 0} (k : Control S A) (z : Bool) (decided : S → Bool) (deciding : S → ℕ → Bool) (says : A → Bool) → Decides k decided deciding says → Decides k (λ m. z && decided m) (λ m n. z && deciding m n) (λ a. z && says a)
decides_where k true decided deciding says h = record { goes = λ m n e. h.goes m n e; ends = λ m n a e. h.ends m n a e }
decides_where k false decided deciding says h = record { goes = λ m n e. refl; ends = λ m n a e. refl }

-- a machine whose answers tell it in another way
pub decides_told : {S A : Type 0} (k : Control S A) (decided : S → Bool) (deciding : S → ℕ → Bool) (says says' : A → Bool) → ((a : A) → says' a ≡ says a) → Decides k decided deciding says → Decides k decided deciding says'
decides_told k decided deciding says says' same h = record { goes = λ m n e. h.goes m n e; ends = λ m n a e. same a ∙ h.ends m n a e }

-- ---- answers that are told by f

untold_none : {A B : Type 0} (f : A → B) (o : Option A) → option_map f o ≡ None → o ≡ None
untold_none f None e = refl
untold_none f (Some a) e = cc

-- the answer that is told by b
untold_some : {A B : Type 0} (f : A → B) (o : Option A) (b : B) → option_map f o ≡ Some b → (a : A) × (o ≡ Some a) × (f a ≡ b)
untold_some f None b e = cc
untold_some f (Some a) b e = (a, refl, cc)

pub mapped_decides : {S A B : Type 0} (f : A → B) (k : Control S A) (decided : S → Bool) (deciding : S → ℕ → Bool) (says : B → Bool) → Decides k decided deciding (λ a. says (f a)) → Decides (mapped f k) decided deciding says
mapped_decides f k decided deciding says h =
    record {
      goes = λ m n e. h.goes m n (untold_none f (k.turns m n) e);
      ends = λ m n b e. let u = untold_some f (k.turns m n) b e in sym (ap says u.2) ∙ h.ends m n u.0 u.1;
    }

pub mapped_foretells : {S A B X : Type 0} (f : A → B) (k : Control S A) (told : B → X) (effect : S → Option X) (deciding : S → ℕ → Bool) → Foretells k (λ a. told (f a)) effect deciding → Foretells (mapped f k) told effect deciding
mapped_foretells f k told effect deciding h =
    record {
      goes = λ m n e. h.goes m n (untold_none f (k.turns m n) e);
      stays = λ m n x i e. h.stays m n x i (untold_none f (k.turns m n) e);
      answers = λ m n x b i e. let u = untold_some f (k.turns m n) b e in sym (ap told u.2) ∙ h.answers m n x u.0 i u.1;
    }

-- ---- one of two machines

pub or_decides : {S T A B : Type 0} (j : Control S A) (k : Control T B) (decided : S → Bool) (decided' : T → Bool) (deciding : S → ℕ → Bool) (deciding' : T → ℕ → Bool) (says : A → Bool) (says' : B → Bool) → Decides j decided deciding says → Decides k decided' deciding' says'
    → Decides (or_control j k) (either decided decided') (either deciding deciding') (either says says')
or_decides {S} {T} {A} {B} j k decided decided' deciding deciding' says says' h i = record { goes = goes; ends = ends }
  where
    goes : (m : Or S T) (n : ℕ) → (or_control j k).turns m n ≡ None → either decided decided' ((or_control j k).after m n) ≡ (either decided decided' m || either deciding deciding' m n)
    goes (First m) n e = h.goes m n (untold_none First (j.turns m n) e)
    goes (Second m) n e = i.goes m n (untold_none Second (k.turns m n) e)

    ends : (m : Or S T) (n : ℕ) (a : Or A B) → (or_control j k).turns m n ≡ Some a → either says says' a ≡ (either decided decided' m || either deciding deciding' m n)
    ends (First m) n a e = let u = untold_some First (j.turns m n) a e in sym (ap (either says says') u.2) ∙ h.ends m n u.0 u.1
    ends (Second m) n a e = let u = untold_some Second (k.turns m n) a e in sym (ap (either says says') u.2) ∙ i.ends m n u.0 u.1

pub or_foretells : {S T A B X : Type 0} (j : Control S A) (k : Control T B) (told : A → X) (told' : B → X) (effect : S → Option X) (effect' : T → Option X) (deciding : S → ℕ → Bool) (deciding' : T → ℕ → Bool) → Foretells j told effect deciding → Foretells k told' effect' deciding'
    → Foretells (or_control j k) (either told told') (either effect effect') (either deciding deciding')
or_foretells {S} {T} {A} {B} {X} j k told told' effect effect' deciding deciding' h i = record { goes = goes; stays = stays; answers = answers }
  where
    goes : (m : Or S T) (n : ℕ) → (or_control j k).turns m n ≡ None → is_some (either effect effect' ((or_control j k).after m n)) ≡ (is_some (either effect effect' m) || either deciding deciding' m n)
    goes (First m) n e = h.goes m n (untold_none First (j.turns m n) e)
    goes (Second m) n e = i.goes m n (untold_none Second (k.turns m n) e)

    stays : (m : Or S T) (n : ℕ) (x : X) → either effect effect' m ≡ Some x → (or_control j k).turns m n ≡ None → either effect effect' ((or_control j k).after m n) ≡ Some x
    stays (First m) n x s e = h.stays m n x s (untold_none First (j.turns m n) e)
    stays (Second m) n x s e = i.stays m n x s (untold_none Second (k.turns m n) e)

    answers : (m : Or S T) (n : ℕ) (x : X) (a : Or A B) → either effect effect' m ≡ Some x → (or_control j k).turns m n ≡ Some a → either told told' a ≡ x
    answers (First m) n x a s e = let u = untold_some First (j.turns m n) a e in sym (ap (either told told') u.2) ∙ h.answers m n x u.0 s u.1
    answers (Second m) n x a s e = let u = untold_some Second (k.turns m n) a e in sym (ap (either told told') u.2) ∙ i.answers m n x u.0 s u.1

-- ---- along what is asked

or_none : (a : Bool) → (a || false) ≡ a
or_none true = refl
or_none false = refl

or_three : (a b c : Bool) → ((a || b) || c) ≡ (a || (b || c))
or_three true b c = refl
or_three false b c = refl

module _ {S A X : Type 0} (k : Control S A) (told : A → X) (effect : S → Option X) (deciding : S → ℕ → Bool) (h : Foretells k told effect deciding) where
  -- a state shows what will be answered exactly where a step before it was the deciding one
  pub shown_along : (m : S) (tr : Trail) → StillRuns k m tr → is_some (effect (after_all k m tr)) ≡ (is_some (effect m) || is_decided_along k deciding m tr)
  shown_along m [] g = sym (or_none (is_some (effect m)))
  shown_along m (x ∷ tr) g = shown_along (k.after m x.word) tr g.1 ∙ (ap (λ z. z || is_decided_along k deciding (k.after m x.word) tr) (h.goes m x.word g.0) ∙ or_three (is_some (effect m)) (deciding m x.word) (is_decided_along k deciding (k.after m x.word) tr))

  -- and what a state shows, each later state shows
  pub stays_along : (m : S) (tr : Trail) (x : X) → StillRuns k m tr → effect m ≡ Some x → effect (after_all k m tr) ≡ Some x
  stays_along m [] x g e = e
  stays_along m (y ∷ tr) x g e = stays_along (k.after m y.word) tr x g.1 (h.stays m y.word x e g.0)

  -- so the answer is what any state on the way showed
  pub answers_along : (m : S) (tr : Trail) (n : ℕ) (x : X) (a : A) → StillRuns k m tr → effect m ≡ Some x → k.turns (after_all k m tr) n ≡ Some a → told a ≡ x
  answers_along m tr n x a g e t = h.answers (after_all k m tr) n x a (stays_along m tr x g e) t
