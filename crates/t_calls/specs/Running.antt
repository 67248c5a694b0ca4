-- plans that a client runs on a pool
use Rattle.std.specs.{Prelude.{ℕ, true, List, Option, IfSome}, Option.is_some}
use Rattle.shm_graph.specs.Events.{Event}
use Rattle.shm_plain.specs.{Calls.{Did, IsAtWork, Ran}, Pools.{Pool, memo_of}}
use Rattle.plans.specs.Plans.{Planned}

-- the pool p became q by turns of c alone, of whose events the plan s leaves this where it answers a
abbrev pub PlanLeaves : {P C B A : Type 0} → Planned P C B A → P → ℕ → Pool → Pool → A → Type 0
PlanLeaves k s c p q a = let m = memo_of q c in (es : List Event) × Did c p q es × k.leaves s (memo_of p c) m m.call es a

-- a run of the plan s by c led from the pool p with x word steps left to q with y left, and gave o
pub record HasRun {P C B A : Type 0} (k : Planned P C B A) (rests : P → A → Type 0) (s : P) (c : ℕ) (p q : Pool) (x y : ℕ) (o : Option A) : Type 0 where
  pub ran : Ran c true (is_some o) p q x y
  pub work : IfSome o (λ a. rests s a → IsAtWork c q)
  pub left : IfSome o (PlanLeaves k s c p q)
