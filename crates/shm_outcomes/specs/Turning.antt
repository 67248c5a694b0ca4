-- the steps of a call of a shared pool as turns
use Rattle.std.specs.Prelude.{◌≡◌, ℕ, ◌+◌, List, ◌∷◌, ◌++◌, length}
use Rattle.shm_graph.specs.declared.{memo.Step.Step, run.Account.Account}
use Rattle.shm_pool.specs.{Calls.accounts_by, Rules.IsMade}

-- The account e became e' by these steps, which are those that a life of `before` word steps has lost of which `left` are left. Each of them was one turn of the pool in a state that is held, of the account that the steps before it had left
pub record AreTurns (e e' : Account) (before left : ℕ) : Type 0 where
  pub steps : List Step
  pub account : e' ≡ accounts_by e steps
  pub life : left + length steps ≡ before
  pub turns : (first behind : List Step) (t : Step) → steps ≡ first ++ t ∷ behind → IsMade (accounts_by e first) t
