-- what queues and a recovery cost, by clauses, since each format has its own factor
use Rattle.std.proofs.Common.{◌≡◌, ℕ, ◌+◌, ◌*◌, ◌-◌, ◌<◌, ◌≤◌, arith, Bool, true, false}
use Rattle.shm_graph.specs.Bounds.{redo_steps}

pub redo_some : (wide : Bool) → 1 ≤ redo_steps wide
redo_some false = omega arith
redo_some true = omega arith

pub backs_more : (wide : Bool) (p : ℕ) → (10 + redo_steps wide) * (p + 1) ≡ (10 + redo_steps wide) * p + (10 + redo_steps wide)
backs_more false p = omega arith
backs_more true p = omega arith

pub backs_most : (wide : Bool) (p n : ℕ) → p + 1 ≤ n → (10 + redo_steps wide) * p + (10 + redo_steps wide) ≤ (10 + redo_steps wide) * n
backs_most false p n l = omega arith
backs_most true p n l = omega arith

-- in a pool of 16 clients at most
pub recovery_most : (wide : Bool) (n : ℕ) → n ≤ 16 → 0 < n → n + 141 + 17 * redo_steps wide + (10 + redo_steps wide) * (n - 1) + 4 * (n - 1) + 1 ≤ 368 + 32 * redo_steps wide
recovery_most false n l some = omega arith
recovery_most true n l some = omega arith
