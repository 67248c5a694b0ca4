-- what a step or a plan keeps, all that is asked keeps
use Rattle.std.proofs.Common.{ℕ, [], ◌∷◌}
use Rattle.std.specs.Prelude.{Option, Some, None}
use Rattle.shm_graph.specs.{Asks.Trail, Laws.Control, Tells.after_all}
use Rattle.plans.specs.{declared.calls.Calls.Calls, CallsControl.{called_on, calls_control, planned}, Plans.Planned}

-- what a step keeps, all that is asked keeps
pub kept_along : {S A : Type 0} (k : Control S A) (Q : S → Type 0) → ((m : S) (n : ℕ) → Q m → Q (k.after m n)) → (m : S) (tr : Trail) → Q m → Q (after_all k m tr)
kept_along k Q h m [] q = q
kept_along k Q h m (x ∷ tr) q = kept_along k Q h (k.after m x.word) tr (h m x.word q)

-- what a plan keeps from call to call, the machine that makes its calls keeps
pub plan_kept : {P C B A : Type 0} (k : Control C B) (q : Planned P C B A) (R : P → Type 0) → ((p : P) (b : B) → R p → R (q.steered.after p b)) → (m : Calls P C) (n : ℕ) → R m.plan → R ((calls_control k q.steered).after m n).plan
plan_kept {P} {C} {B} {A} k q R h m n r = go (k.turns m.call n)
  where
    last : (b : B) (o : Option A) → R (planned k q.steered (k.after m.call n) (q.steered.after m.plan b) o).plan
    last b None = h m.plan b r
    last b (Some a) = h m.plan b r

    go : (o : Option B) → R (called_on k q.steered m.plan (k.after m.call n) o).plan
    go None = r
    go (Some b) = last b (q.steered.turns m.plan b)
