-- what a plan may do and has left, by the plan as it was made
use Rattle.std.proofs.Common.{◌≡◌, ℕ, Option, None, Some, IfSome, refl, sym, ap, ◌∙◌, subst}
use Rattle.shm_graph.specs.{declared.{ask.Me.Me, memo.Memo.Memo}, Laws.Control}
use Rattle.shm_plain.specs.Pools.{Pool, memo_of}
use Rattle.plans.specs.{CallsControl.calls_of, Plans.Planned}
use Rattle.shm_client.proofs.Running.{MachineLeft, PlanLeft, Said}
use Rattle.t_calls.specs.Running.{HasRun, PlanLeaves}

-- what its machine leaves the plan leaves
pub plan_leaves : {P C B A : Type 0} (k : Control C B) (q : Planned P C B A) (s : P) (c : ℕ) (p r : Pool) (o : Option A) → MachineLeft k q (calls_of q.steered s) c p r o → IfSome o (PlanLeaves q s c p r)
plan_leaves k q s c p r None h = tt
plan_leaves k q s c p r (Some a) h = (_, h.0, h.1)

-- the plan e was made for the identity x, which is me
module _ {P : Type 0} (plan : Me → P) (me x : Me) (e : P) (is : x ≡ me) (planned : e ≡ plan x) where
  same : e ≡ plan me
  same = planned ∙ ap plan is

  -- it may begin where that for me may
  pub may_begin : (may : P → Memo → Type 0) (r : Memo) → may (plan me) r → may e r
  may_begin may r h = subst (λ z. may z r) (sym same) h

  -- and leaves what that leaves
  pub has_left : {C B A : Type 0} (q : Planned P C B A) (c : ℕ) (p r : Pool) (i j : ℕ) (o : Option A) → HasRun q (λ s a. Unit {0}) e c p r i j o → Said (PlanLeft q (plan me) c p r) c p r i j o
  has_left q c p r i j o h =
      let g = subst (λ z. HasRun q (λ s a. Unit {0}) z c p r i j o) same h in
      record { ran = g.ran; work = g.work; left = g.left }
