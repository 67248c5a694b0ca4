-- deciding steps: after the one step of a machine that decides, its state shows what it will answer; by its control and the words found, and no memo
use Rattle.std.proofs.Common.{◌≡◌, ℕ, Bool, true, false, refl, sym, ap, ◌∙◌}
use Rattle.std.specs.Prelude.{◌||◌, Option, Some, None, [], ◌∷◌}
use Rattle.shm_graph.specs.{Asks.Trail, Laws.{Control, is_some}}
use Rattle.plans.specs.declared.{calls.Calls.Calls, or.Or.{Or, TheVariants.{First, Second}}}
use Rattle.plans.specs.{CallsControl.{answered, called_on, calls_control, planned}, Plans.Planned}

-- Of a state whether the deciding step was made, of a step that finds a word whether it is the deciding one, and of an answer whether it tells that the step was made: after a step it was made where it was before, or by this step
pub record Decides {S A : Type 0} (k : Control S A) (decided : S → Bool) (deciding : S → ℕ → Bool) (says : A → Bool) : Type 0 where
  pub goes : (m : S) (n : ℕ) → k.turns m n ≡ None → decided (k.after m n) ≡ (decided m || deciding m n)
  pub ends : (m : S) (n : ℕ) (a : A) → k.turns m n ≡ Some a → says a ≡ (decided m || deciding m n)

-- Of a state what will be answered, where the deciding step was made: it comes to be shown by that step and no other, from then on each state shows the same whatever words are found, and this is what the answer tells
pub record Foretells {S A X : Type 0} (k : Control S A) (told : A → X) (effect : S → Option X) (deciding : S → ℕ → Bool) : Type 0 where
  pub goes : (m : S) (n : ℕ) → k.turns m n ≡ None → is_some (effect (k.after m n)) ≡ (is_some (effect m) || deciding m n)
  pub stays : (m : S) (n : ℕ) (x : X) → effect m ≡ Some x → k.turns m n ≡ None → effect (k.after m n) ≡ Some x
  pub answers : (m : S) (n : ℕ) (x : X) (a : A) → effect m ≡ Some x → k.turns m n ≡ Some a → told a ≡ x

-- by cases of one of two
abbrev pub either : {S T Z : Type 0} → (S → Z) → (T → Z) → Or S T → Z
either f g (First m) = f m
either f g (Second m) = g m

-- what is shown by whether the deciding step was made
abbrev pub where_decided : {X : Type 0} → Bool → X → Option X
where_decided true x = Some x
where_decided false x = None

-- ---- the machine of a plan: by the plan and its call in progress

module _ {P C B A : Type 0} (k : Control C B) (q : Planned P C B A) (decided : P → C → Bool) (deciding : P → C → ℕ → Bool) (says : P → B → Bool) where
  abbrev pub calls_decided : Calls P C → Bool
  calls_decided m = decided m.plan m.call

  abbrev pub calls_deciding : Calls P C → ℕ → Bool
  calls_deciding m n = deciding m.plan m.call n

  -- the calls tell of the step, and what an answer of a call told, the next call shows before its first word step
  pub record PlanDecides : Type 0 where
    pub calls : (p : P) → Decides k (decided p) (deciding p) (says p)
    pub goes : (p : P) (b : B) → q.steered.turns p b ≡ None → decided (q.steered.after p b) (q.steered.call (q.steered.after p b)) ≡ says p b

  -- after a step that goes on
  decided_on : PlanDecides → (m : Calls P C) (n : ℕ) → answered k q.steered m.plan (k.turns m.call n) ≡ None → calls_decided (called_on k q.steered m.plan (k.after m.call n) (k.turns m.call n)) ≡ (calls_decided m || calls_deciding m n)
  decided_on h m n e = go (k.turns m.call n) refl e
    where
      go : (o : Option B) → k.turns m.call n ≡ o → answered k q.steered m.plan o ≡ None → calls_decided (called_on k q.steered m.plan (k.after m.call n) o) ≡ (calls_decided m || calls_deciding m n)
      go None e i = (h.calls m.plan).goes m.call n e
      go (Some b) e i = ap (λ (o : Option A). calls_decided (planned k q.steered (k.after m.call n) (q.steered.after m.plan b) o)) i ∙ (h.goes m.plan b i ∙ (h.calls m.plan).ends m.call n b e)

  -- the answer of the call that the machine's answer is made of
  answer_of_call : (p : P) (o : Option B) (a : A) → answered k q.steered p o ≡ Some a → (b : B) × (o ≡ Some b) × (q.steered.turns p b ≡ Some a)
  answer_of_call p None a e = cc
  answer_of_call p (Some b) a e = (b, refl, e)

  -- what it answers tells it too
  pub calls_decides : (tells : A → Bool) → PlanDecides → ((p : P) (b : B) (a : A) → q.steered.turns p b ≡ Some a → tells a ≡ says p b) → Decides (calls_control k q.steered) calls_decided calls_deciding tells
  calls_decides tells h ends =
      record {
        goes = decided_on h;
        ends = λ m n a e. let u = answer_of_call m.plan (k.turns m.call n) a e in ends m.plan u.0 a u.2 ∙ (h.calls m.plan).ends m.call n u.0 u.1;
      }

  -- what a plan will answer, where the deciding step was made
  abbrev pub calls_effect : {X : Type 0} → (P → X) → Calls P C → Option X
  calls_effect will m = where_decided (calls_decided m) (will m.plan)

  -- what it will answer stays, and is what it answers
  pub record PlanForetells (X : Type 0) (told : A → X) (will : P → X) : Type 0 where
    pub decides : PlanDecides
    pub same : (p : P) (b : B) → says p b ≡ true → q.steered.turns p b ≡ None → will (q.steered.after p b) ≡ will p
    pub ends : (p : P) (b : B) (a : A) → says p b ≡ true → q.steered.turns p b ≡ Some a → told a ≡ will p

  some_where : {X : Type 0} (z : Bool) (x : X) → is_some (where_decided z x) ≡ z
  some_where true x = refl
  some_where false x = refl

  shown : {X : Type 0} (z : Bool) (x y : X) → where_decided z x ≡ Some y → (z ≡ true) × (x ≡ y)
  shown true x y e = (refl, cc)
  shown false x y e = cc

  pub calls_foretell : {X : Type 0} (told : A → X) (will : P → X) → PlanForetells X told will → Foretells (calls_control k q.steered) told (calls_effect will) calls_deciding
  calls_foretell {X} told will h =
      record {
        goes = λ m n e. some_where (calls_decided ((calls_control k q.steered).after m n)) (will ((calls_control k q.steered).after m n).plan) ∙ (decided_on h.decides m n e ∙ ap (λ z. z || calls_deciding m n) (sym (some_where (calls_decided m) (will m.plan))));
        stays = λ m n x s e. stays m n x (shown (calls_decided m) (will m.plan) x s) e;
        answers = λ m n x a s e. let v = shown (calls_decided m) (will m.plan) x s in let u = answer_of_call m.plan (k.turns m.call n) a e in h.ends m.plan u.0 a (said m n u.0 v.0 u.1) u.2 ∙ v.1;
      }
    where
      -- what the call answers tells of the step, which was made
      said : (m : Calls P C) (n : ℕ) (b : B) → calls_decided m ≡ true → k.turns m.call n ≡ Some b → says m.plan b ≡ true
      said m n b d e = (h.decides.calls m.plan).ends m.call n b e ∙ ap (λ z. z || calls_deciding m n) d

      will_on : (m : Calls P C) (n : ℕ) (o : Option B) → calls_decided m ≡ true → k.turns m.call n ≡ o → answered k q.steered m.plan o ≡ None → will (called_on k q.steered m.plan (k.after m.call n) o).plan ≡ will m.plan
      will_on m n None d e i = refl
      will_on m n (Some b) d e i = ap (λ (o : Option A). will (planned k q.steered (k.after m.call n) (q.steered.after m.plan b) o).plan) i ∙ h.same m.plan b (said m n b d e) i

      stays : (m : Calls P C) (n : ℕ) (x : X) → (calls_decided m ≡ true) × (will m.plan ≡ x) → (calls_control k q.steered).turns m n ≡ None → calls_effect will ((calls_control k q.steered).after m n) ≡ Some x
      stays m n x (d, w) e =
          let next : Calls P C = (calls_control k q.steered).after m n in
          let on : calls_decided next ≡ true = decided_on h.decides m n e ∙ ap (λ z. z || calls_deciding m n) d in
          ap (λ z. where_decided z (will next.plan)) on ∙ ap (λ (y : X). Some y) (will_on m n (k.turns m.call n) d refl e ∙ w)

-- ---- along what is asked

-- it has answered at none of these pairs
abbrev pub StillRuns : {S A : Type 0} → Control S A → S → Trail → Type 0
StillRuns k m [] = Unit {0}
StillRuns k m (x ∷ tr) = (k.turns m x.word ≡ None) × StillRuns k (k.after m x.word) tr

-- one of these pairs is the deciding step
abbrev pub is_decided_along : {S A : Type 0} → Control S A → (S → ℕ → Bool) → S → Trail → Bool
is_decided_along k deciding m [] = false
is_decided_along k deciding m (x ∷ tr) = deciding m x.word || is_decided_along k deciding (k.after m x.word) tr
