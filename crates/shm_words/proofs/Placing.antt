-- places and addresses are inverse, and every address is small
use Rattle.std.proofs.Common.{◌≡◌, ℕ, ◌+◌, ◌-◌, ◌*◌, ◌/◌, ◌%◌, ◌<◌, ◌≤◌, sym, ap, ◌∙◌, arith, true, false}
use Rattle.std.proofs.lemmas.{Nat.{mul-add-lt, mul-le, div_below, mod_below}, Bool.Decides.nat_tests}
use Rattle.shm_words.specs.declared.place.Place.{Place}
use Rattle.shm_words.specs.declared.place.Place.TheVariants.{Spare, Status, Redo, RedoMore, Hold, Latch, Home, Era, Root, Tail, Head, Slot, Segment, Page, Body}
use Rattle.shm_words.specs.declared.geometry.Geometry.{Geometry}
use Rattle.shm_words.specs.Layout.{GeometryFits, address, is_in, place_at, eras, roots, queues, segments, total_of, queue_place, place_limit, address_limit}
use Rattle.shm_words.proofs.Regions.{era_at, root_at, queue_at, page_at, body_at}

-- the place of the address of a place that the pool has
pub place-address : (g : Geometry) (p : Place) → is_in g p ≡ true → place_at g (address g p) ≡ p
unfolding place_at address
place-address g Spare h = grind (arith, nat_tests)
place-address g (Status c) h = grind (arith, nat_tests)
place-address g (Redo c) h = grind (arith, nat_tests)
place-address g (RedoMore c) h = grind (arith, nat_tests)
place-address g (Hold c) h = grind (arith, nat_tests)
place-address g (Latch c) h = grind (arith, nat_tests)
place-address g (Home c) h = grind (arith, nat_tests)
place-address g (Era i j) h =
    let t : (i < g.clients) × (j < g.clients) = grind (arith, nat_tests) in
    era_at g i j t.0 t.1
place-address g (Root c k) h =
    let t : (c < g.clients) × (k < 16) = grind (arith, nat_tests) in
    root_at g c k t.0 t.1
place-address g (Tail s r) h =
    let t : (s < g.clients) × (r < g.clients) = grind (arith, nat_tests) in
    let e : queues g + 10 * (s * g.clients + r) ≡ queues g + 10 * (s * g.clients + r) + 0 = omega arith in
    ap (place_at g) e ∙ queue_at g s r 0 t.0 t.1 (omega arith)
place-address g (Head s r) h =
    let t : (s < g.clients) × (r < g.clients) = grind (arith, nat_tests) in
    queue_at g s r 1 t.0 t.1 (omega arith)
place-address g (Slot s r k) h =
    let t : (s < g.clients) × (r < g.clients) × (k < 8) = grind (arith, nat_tests) in
    let e : queues g + 10 * (s * g.clients + r) + 2 + k ≡ queues g + 10 * (s * g.clients + r) + (k + 2) = omega arith in
    let q : queue_place s r (k + 2) ≡ Slot s r k = grind (arith, nat_tests) in
    ap (place_at g) e ∙ (queue_at g s r (k + 2) t.0 t.1 (omega arith) ∙ q)
place-address g (Segment s) h = grind (arith, nat_tests)
place-address g (Page s p) h =
    let t : (s < g.segments) × (p < 16) = grind (arith, nat_tests) in
    page_at g s p t.0 t.1
place-address g (Body s p k) h =
    let t : (s < g.segments) × (p < 16) × (k < 128) = grind (arith, nat_tests) in
    body_at g s p k t.0 t.1 t.2

pub address_below : (g : Geometry) (p : Place) → is_in g p ≡ true → GeometryFits g → address g p < total_of g
unfolding address
address_below g Spare h f = grind (arith, nat_tests)
address_below g (Status c) h f = grind (arith, nat_tests)
address_below g (Redo c) h f = grind (arith, nat_tests)
address_below g (RedoMore c) h f = grind (arith, nat_tests)
address_below g (Hold c) h f = grind (arith, nat_tests)
address_below g (Latch c) h f = grind (arith, nat_tests)
address_below g (Home c) h f = grind (arith, nat_tests)
address_below g (Era i j) h f =
    let t : (i < g.clients) × (j < g.clients) = grind (arith, nat_tests) in
    let l = mul-add-lt i g.clients j g.clients t.0 t.1 in
    omega arith
address_below g (Root c k) h f = grind (arith, nat_tests)
address_below g (Tail s r) h f =
    let t : (s < g.clients) × (r < g.clients) = grind (arith, nat_tests) in
    let l = mul-add-lt s g.clients r g.clients t.0 t.1 in
    omega arith
address_below g (Head s r) h f =
    let t : (s < g.clients) × (r < g.clients) = grind (arith, nat_tests) in
    let l = mul-add-lt s g.clients r g.clients t.0 t.1 in
    omega arith
address_below g (Slot s r k) h f =
    let t : (s < g.clients) × (r < g.clients) × (k < 8) = grind (arith, nat_tests) in
    let l = mul-add-lt s g.clients r g.clients t.0 t.1 in
    omega arith
address_below g (Segment s) h f = grind (arith, nat_tests)
address_below g (Page s p) h f = grind (arith, nat_tests)
address_below g (Body s p k) h f = grind (arith, nat_tests)

queue_back : (g : Geometry) (s r i : ℕ) → i < 10 → address g (queue_place s r i) ≡ queues g + 10 * (s * g.clients + r) + i
unfolding address
queue_back g s r i l = grind (arith, nat_tests)

-- the address of the place of an address
pub address-place : (g : Geometry) (a : ℕ) → a < total_of g → address g (place_at g a) ≡ a
unfolding place_at address
address-place g a l = grind (arith, nat_tests, queue_back)

queue_in : (g : Geometry) (s r i : ℕ) → i < 10 → s < g.clients → r < g.clients → is_in g (queue_place s r i) ≡ true
queue_in g s r i l p q = grind (arith, nat_tests)

-- row and column in a square
in_square : (x n : ℕ) → 0 < n → x < n * n → (x / n < n) × (x % n < n)
in_square x n p l = (div_below x n n p l, mod_below x n p)

-- the pool has the place of each address
pub in_place : (g : Geometry) (a : ℕ) → GeometryFits g → a < total_of g → is_in g (place_at g a) ≡ true
unfolding place_at
in_place g a f l =
    let era : (eras g ≤ a → a < roots g → ((a - eras g) / g.clients < g.clients) × ((a - eras g) % g.clients < g.clients)) =
    λ p q. in_square (a - eras g) g.clients (omega arith) (omega arith) in
    let queue : (queues g ≤ a → a < segments g → ((a - queues g) / 10 / g.clients < g.clients) × ((a - queues g) / 10 % g.clients < g.clients)) =
    λ p q. in_square ((a - queues g) / 10) g.clients (omega arith) (omega arith) in
    grind (arith, nat_tests, queue_in)

-- an address has one place and a place one address
pub same_address : (g : Geometry) (p q : Place) → is_in g p ≡ true → is_in g q ≡ true → address g p ≡ address g q → p ≡ q
same_address g p q h k e = sym (place-address g p h) ∙ (ap (place_at g) e ∙ place-address g q k)

pub same_place : (g : Geometry) (a b : ℕ) → a < total_of g → b < total_of g → place_at g a ≡ place_at g b → a ≡ b
same_place g a b p q e = sym (address-place g a p) ∙ (ap (address g) e ∙ address-place g b q)

-- the greatest pool of format 1 has 16 clients and 256 segments
pub total_most : (g : Geometry) → GeometryFits g → g.wide ≡ false → total_of g ≤ 531793
total_most g f e = let s = mul-le g.clients g.clients 16 16 f.clients f.clients in grind (arith)

-- that of format 2 has 16 clients and 8,000 segments
pub total_most_wide : (g : Geometry) → GeometryFits g → total_of g ≤ 16523169
total_most_wide g f = let s = mul-le g.clients g.clients 16 16 f.clients f.clients in grind (arith)

pub total_in_format : (g : Geometry) → GeometryFits g → total_of g < place_limit g.wide
total_in_format g f = let s = mul-le g.clients g.clients 16 16 f.clients f.clients in grind (arith)

pub total_small : (g : Geometry) → GeometryFits g → total_of g < address_limit
total_small g f = let m = total_most_wide g f in omega arith

pub address_small : (g : Geometry) (p : Place) → is_in g p ≡ true → GeometryFits g → address g p < address_limit
address_small g p h f = let l = address_below g p h f in let m = total_most_wide g f in omega arith

-- no pool has more segments than this
pub segments_few : (g : Geometry) → GeometryFits g → g.segments ≤ 8000
segments_few g f = grind (arith)
