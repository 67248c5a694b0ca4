-- what drops of roots and a tear-down cost for so many roots and blocks is a sum: by clauses, since each format has its own factor
use Rattle.std.proofs.Common.{◌≡◌, ℕ, ◌+◌, ◌*◌, ◌<◌, ◌≤◌, arith, Bool, true, false}
use Rattle.shm_graph.specs.Bounds.{redo_steps, tear_steps}

pub tear_sum : (wide : Bool) (a b c : ℕ) → a ≡ b + c → tear_steps wide a ≡ tear_steps wide b + tear_steps wide c
tear_sum false a b c e = omega arith
tear_sum true a b c e = omega arith

pub drops_more : (wide : Bool) (n : ℕ) → (8 + redo_steps wide) * (n + 1) ≡ (8 + redo_steps wide) * n + (8 + redo_steps wide)
drops_more false n = omega arith
drops_more true n = omega arith

pub drops_most : (wide : Bool) (n : ℕ) → n < 16 → (8 + redo_steps wide) * n + (8 + redo_steps wide) ≤ (8 + redo_steps wide) * 16
drops_most false n l = omega arith
drops_most true n l = omega arith
