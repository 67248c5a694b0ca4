-- the regions of a pool: what place_at answers in each of them
use Rattle.std.proofs.{Common.{◌≡◌, ℕ, ◌+◌, ◌-◌, ◌*◌, ◌<◌, arith}, lemmas.Nat.{div-mul-add, mod-mul-add, mul-add-lt}}
use Rattle.std.proofs.lemmas.Bool.Decides.{nat_tests}
use Rattle.shm_words.specs.declared.{place.Place.TheVariants.{Era, Root, Page, Body}, geometry.Geometry.Geometry}
use Rattle.shm_words.specs.Layout.{place_at, eras, roots, queues, pages, bodies, queue_place}

pub era_at : (g : Geometry) (i j : ℕ) → i < g.clients → j < g.clients → place_at g (eras g + i * g.clients + j) ≡ Era i j
unfolding place_at
era_at g i j p q =
    let l = mul-add-lt i g.clients j g.clients p q in
    let d = div-mul-add i g.clients j q in
    let m = mod-mul-add i g.clients j q in
    let s : (eras g + i * g.clients + j) - eras g ≡ i * g.clients + j = omega arith in
    grind (arith, nat_tests)

pub root_at : (g : Geometry) (c k : ℕ) → c < g.clients → k < 16 → place_at g (roots g + 16 * c + k) ≡ Root c k
unfolding place_at
root_at g c k p q = grind (arith, nat_tests)

pub queue_at : (g : Geometry) (s r k : ℕ) → s < g.clients → r < g.clients → k < 10 → place_at g (queues g + 10 * (s * g.clients + r) + k) ≡ queue_place s r k
unfolding place_at
queue_at g s r k p q b =
    let l = mul-add-lt s g.clients r g.clients p q in
    let d = div-mul-add s g.clients r q in
    let m = mod-mul-add s g.clients r q in
    let t : (queues g + 10 * (s * g.clients + r) + k) - queues g ≡ 10 * (s * g.clients + r) + k = omega arith in
    grind (arith, nat_tests)

pub page_at : (g : Geometry) (s p : ℕ) → s < g.segments → p < 16 → place_at g (pages g + 16 * s + p) ≡ Page s p
unfolding place_at
page_at g s p l m = grind (arith, nat_tests)

pub body_at : (g : Geometry) (s p k : ℕ) → s < g.segments → p < 16 → k < 128 → place_at g (bodies g + 2048 * s + 128 * p + k) ≡ Body s p k
unfolding place_at
body_at g s p k l m n = grind (arith, nat_tests)
