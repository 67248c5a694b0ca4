-- the sizes that a pool may have: their bounds, and the pool that has them
use Rattle.std.proofs.Common.{◌≡◌, ℕ, ◌≤◌, Bool, true, if◌then◌else◌, sym, ap, ◌∙◌, arith}
use Rattle.std.proofs.lemmas.Bool.Decides.{nat_tests}
use Rattle.std.specs.Prelude.{Option, Some, None}
use Rattle.shm_words.specs.{declared.geometry.Geometry.Geometry, Layout.segments_most}
use Rattle.shm_session.specs.Pools.{are_sizes, sized}

pub sizes_bounded : (wide : Bool) (c s : ℕ) → are_sizes wide c s ≡ true → (1 ≤ c) × (c ≤ 16) × (1 ≤ s) × (s ≤ segments_most wide)
sizes_bounded wide c s h = grind (arith, nat_tests)

pub sized_as : (wide : Bool) (c s : ℕ) (g : Geometry) → are_sizes wide c s ≡ true → g.clients ≡ c → g.segments ≡ s → g.wide ≡ wide → Some g ≡ sized wide c s
sized_as wide c s g h a b d =
    let f : Bool → Option Geometry = λ t. if t then Some (record { clients = c; segments = s; wide = wide }) else None in
    (λ i. Some (record { clients = a i; segments = b i; wide = d i })) ∙ ap f (sym h)
