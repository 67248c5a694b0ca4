-- what a drain and a tear-down cost for so many items and blocks is a sum: by clauses, since each format has its own factor
use Rattle.std.proofs.Common.{◌≡◌, ℕ, ◌+◌, ◌*◌, arith, Bool, true, false}
use Rattle.shm_graph.specs.Bounds.{redo_steps, tear_steps}

pub tear_sum : (wide : Bool) (a b c : ℕ) → a ≡ b + c → tear_steps wide a ≡ tear_steps wide b + tear_steps wide c
tear_sum false a b c e = omega arith
tear_sum true a b c e = omega arith

pub items_sum : (wide : Bool) (a b c : ℕ) → a ≡ b + c → (11 + redo_steps wide) * a ≡ (11 + redo_steps wide) * b + (11 + redo_steps wide) * c
items_sum false a b c e = omega arith
items_sum true a b c e = omega arith
