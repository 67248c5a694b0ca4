-- what a tear-down costs for so many blocks is a sum: by clauses, since each format has its own factor
use Rattle.std.proofs.Common.{◌≡◌, ℕ, ◌+◌, ap, arith, Bool, true, false}
use Rattle.shm_graph.specs.Bounds.{tear_steps}

pub tear_sum : (wide : Bool) (a b c : ℕ) → a ≡ b + c → tear_steps wide a ≡ tear_steps wide b + tear_steps wide c
tear_sum false a b c e = omega arith
tear_sum true a b c e = omega arith

pub tear_same : (wide : Bool) (a b : ℕ) → a ≡ b → tear_steps wide a ≡ tear_steps wide b
tear_same wide a b e = ap (tear_steps wide) e
