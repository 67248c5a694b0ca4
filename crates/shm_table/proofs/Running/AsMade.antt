-- the call in progress, by the call as it was made: one of two machines stays the one that it was, and a plan and a count step keep what they were made with
use Rattle.std.proofs.Common.{◌≡◌, ℕ, refl, ◌∙◌, subst, [], ◌∷◌}
use Rattle.shm_graph.specs.{Asks.Trail, Laws.Control, Tells.after_all}
use Rattle.plans.specs.declared.{calls.Calls.Calls, or.Or.{Or, TheVariants.{First, Second}}}
use Rattle.plans.specs.{CallsControl.{calls_control, calls_of}, Either.or_control, Plans.{PlanLaws, Planned}}
use Rattle.plans.specs.Proved.PlanKept.{kept_along, plan_kept}
use Rattle.shm_count.specs.declared.point.StepState.{StepState}

-- ---- one of two machines

first_along : {S T A B : Type 0} (j : Control S A) (k : Control T B) (m : S) (t : Trail) → First (after_all j m t) ≡ after_all (or_control j k) (First m) t
first_along j k m [] = refl
first_along j k m (x ∷ t) = first_along j k (j.after m x.word) t

second_along : {S T A B : Type 0} (j : Control S A) (k : Control T B) (m : T) (t : Trail) → Second (after_all k m t) ≡ after_all (or_control j k) (Second m) t
second_along j k m [] = refl
second_along j k m (x ∷ t) = second_along j k (k.after m x.word) t

-- what holds of the one, where it began as it was made, holds of the call in progress
pub at_first : {S T A B : Type 0} (j : Control S A) (k : Control T B) (Q : Or S T → Type 0) (m : S) (t : Trail) {c : Or S T} → after_all (or_control j k) (First m) t ≡ c → Q (First (after_all j m t)) → Q c
at_first j k Q m t there h = subst Q (first_along j k m t ∙ there) h

pub at_second : {S T A B : Type 0} (j : Control S A) (k : Control T B) (Q : Or S T → Type 0) (m : T) (t : Trail) {c : Or S T} → after_all (or_control j k) (Second m) t ≡ c → Q (Second (after_all k m t)) → Q c
at_second j k Q m t there h = subst Q (second_along j k m t ∙ there) h

pub at_second_first : {R S T A B C : Type 0} (i : Control R A) (j : Control S B) (k : Control T C) (Q : Or R (Or S T) → Type 0) (m : S) (t : Trail) {c : Or R (Or S T)} → after_all (or_control i (or_control j k)) (Second (First m)) t ≡ c → Q (Second (First (after_all j m t))) → Q c
at_second_first i j k Q m t there h = at_second i (or_control j k) Q (First m) t there (at_first j k (λ x. Q (Second x)) m t refl h)

pub at_second_second : {R S T A B C : Type 0} (i : Control R A) (j : Control S B) (k : Control T C) (Q : Or R (Or S T) → Type 0) (m : T) (t : Trail) {c : Or R (Or S T)} → after_all (or_control i (or_control j k)) (Second (Second m)) t ≡ c → Q (Second (Second (after_all k m t))) → Q c
at_second_second i j k Q m t there h = at_second i (or_control j k) Q (Second m) t there (at_second j k (λ x. Q (Second x)) m t refl h)

-- ---- machines that are made with something

-- the machine of a plan is still one of the plan as it was made, after a word step and along any
pub start_kept : {P C B A : Type 0} (k : Control C B) (q : Planned P C B A) → PlanLaws k q → (p : P) (m : Calls P C) (n : ℕ) → q.steered.start m.plan ≡ p → q.steered.start ((calls_control k q.steered).after m n).plan ≡ p
start_kept k q l p m n h = plan_kept k q (λ s. q.steered.start s ≡ p) (λ s b e. (l.stays s b).same_start ∙ e) m n h

pub made_so : {P C B A : Type 0} (k : Control C B) (q : Planned P C B A) → PlanLaws k q → (p : P) (t : Trail) → q.steered.start p ≡ p → q.steered.start (after_all (calls_control k q.steered) (calls_of q.steered p) t).plan ≡ p
made_so k q l p t own = kept_along (calls_control k q.steered) (λ m. q.steered.start m.plan ≡ p) (start_kept k q l p) (calls_of q.steered p) t own

-- a count step has the identity and the aim that it was made with
abbrev pub KeepsAim : {A : Type 0} → Control StepState A → Type 0
KeepsAim k = (s : StepState) (n : ℕ) → ((k.after s n).me ≡ s.me) × ((k.after s n).aim ≡ s.aim)

pub aimed_so : {A : Type 0} (k : Control StepState A) → KeepsAim k → (s : StepState) (t : Trail) → ((after_all k s t).me ≡ s.me) × ((after_all k s t).aim ≡ s.aim)
aimed_so k keep s t = kept_along k (λ x. (x.me ≡ s.me) × (x.aim ≡ s.aim)) (λ x n h. ((keep x n).0 ∙ h.0, (keep x n).1 ∙ h.1)) s t (refl, refl)
