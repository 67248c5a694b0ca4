-- what a plan does: which call comes next, where it goes by what that call answered, and what it answers
use Rattle.std.specs.Prelude.{ℕ, Bool, Option, List}
use Rattle.shm_graph.specs.declared.ask.Me.{Me}

-- What a plan of a machine that is made of calls does: P are the plan's states between two calls, C those of the calls, B what calls answer, and A its answers
pub record Steered (P C B A : Type 0) : Type 0 where
  -- its identity, its line, whether no call has answered yet, what it was then, and the call that comes next
  pub me : P → Me
  pub line : P → List ℕ
  pub first : P → Bool
  pub start : P → P
  pub call : P → C
  -- by what the call answered: where it goes, and what it answers
  pub after : P → B → P
  pub turns : P → B → Option A
