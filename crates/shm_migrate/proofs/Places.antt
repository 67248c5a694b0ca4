-- where the words of a pool of format 1 stand in format 2: behind the redo records each stands further on, by one for each client
use Rattle.std.proofs.Common.{◌≡◌, ℕ, ◌+◌, ◌-◌, ◌*◌, ◌<◌, ◌≤◌, Bool, true, false, refl, sym, ap, subst, ◌∙◌, arith}
use Rattle.std.proofs.lemmas.Bool.Decides.{nat_tests}
use Rattle.shm_words.specs.declared.{geometry.Geometry.Geometry, place.Place.Place}
use Rattle.shm_words.specs.Layout.{address, place_at, total_of, eras, roots, queues, segments, pages, bodies, redo_place}
use Rattle.shm_words.specs.declared.place.Place.TheVariants as place
use Rattle.shm_words.proofs.Placing.{address-place}
use Rattle.shm_graph.specs.declared.spot.Spot.{Spot}
use Rattle.shm_graph.specs.declared.spot.Spot.TheVariants.{Spare, Status, Redo, RedoMore, Unused, Head, Tag, Body}
use Rattle.shm_graph.specs.Spots.{block_spot, spot_of, spot_at}
use Rattle.shm_graph.proofs.Spots.WordsAt.{body_after}
use Rattle.shm_migrate.specs.Widened.{wide_of}

-- the sizes of a pool of format 1
abbrev pub narrow : ℕ → ℕ → Geometry
narrow n s = record { clients = n; segments = s; wide = false }

abbrev pub wide : ℕ → ℕ → Geometry
wide n s = wide_of (narrow n s)

-- how many words stand before those that stand further on in format 2: the spare word, statuses and redo records
abbrev pub front : ℕ → ℕ
front n = 1 + 2 * n

pub place_further : (n s a : ℕ) → front n ≤ a → place_at (wide n s) (a + n) ≡ place_at (narrow n s) a
unfolding place_at
place_further n s a l =
    let e : a + n - eras (wide n s) ≡ a - eras (narrow n s) = omega arith in
    let r : a + n - roots (wide n s) ≡ a - roots (narrow n s) = omega arith in
    let q : a + n - queues (wide n s) ≡ a - queues (narrow n s) = omega arith in
    let g : a + n - segments (wide n s) ≡ a - segments (narrow n s) = omega arith in
    let p : a + n - pages (wide n s) ≡ a - pages (narrow n s) = omega arith in
    let b : a + n - bodies (wide n s) ≡ a - bodies (narrow n s) = omega arith in
    grind (arith, nat_tests)

-- what stands before these
pub status_place : (g : Geometry) (a : ℕ) → 0 < a → a ≤ g.clients → place_at g a ≡ place.Status (a - 1)
unfolding place_at
status_place g a p l = grind (arith, nat_tests)

pub redo_place_at : (n s a : ℕ) → n < a → a ≤ 3 * n → place_at (wide n s) a ≡ redo_place true (a - (1 + n))
unfolding place_at
redo_place_at n s a p l = grind (arith, nat_tests)

-- ---- spots

-- a spot of a page's body stands further on, and another has its name from what it is for
abbrev pub further : ℕ → Spot → Spot
further n (Unused a) = Unused (a + n)
further n (Head b) = Head (b + n)
further n (Tag b) = Tag (b + n)
further n (Body b i) = Body (b + n) i
further n p = p

block_further : (n k a i : ℕ) → 0 < a → i ≤ a → block_spot k (a + n) i ≡ further n (block_spot k a i)
block_further n k a i p l = grind (arith, nat_tests)

of_further : (n : ℕ) (class : ℕ → ℕ → ℕ) (a : ℕ) (q : Place) → 0 < a → ((s p i : ℕ) → q ≡ place.Body s p i → i ≤ a) → spot_of class (a + n) q ≡ further n (spot_of class a q)
of_further n class a place.Spare p h = refl
of_further n class a (place.Status c) p h = refl
of_further n class a (place.Redo c) p h = refl
of_further n class a (place.RedoMore c) p h = refl
of_further n class a (place.Hold c) p h = refl
of_further n class a (place.Latch c) p h = refl
of_further n class a (place.Home c) p h = refl
of_further n class a (place.Era i j) p h = refl
of_further n class a (place.Root c k) p h = refl
of_further n class a (place.Tail s r) p h = refl
of_further n class a (place.Head s r) p h = refl
of_further n class a (place.Slot s r k) p h = refl
of_further n class a (place.Segment s) p h = refl
of_further n class a (place.Page s t) p h = refl
of_further n class a (place.Body s t i) p h = block_further n (class s t) a i p (h s t i refl)

pub spot_further : (n s : ℕ) (class : ℕ → ℕ → ℕ) (a : ℕ) → front n ≤ a → a < total_of (narrow n s) → spot_at (wide n s) class (a + n) ≡ further n (spot_at (narrow n s) class a)
unfolding spot_at
spot_further n s class a l m =
    ap (spot_of class (a + n)) (place_further n s a l)
    ∙ of_further n class a (place_at (narrow n s) a) (omega arith) (λ t p i e. body_after (narrow n s) t p i a (ap (address (narrow n s)) (sym e) ∙ address-place (narrow n s) a m))

-- the words of format 2 before these: the spare word, statuses and redo records
abbrev pub is_front : Spot → Bool
is_front Spare = true
is_front (Status c) = true
is_front (Redo c) = true
is_front (RedoMore c) = true
is_front _ = false

pub front_spot : (n s : ℕ) (class : ℕ → ℕ → ℕ) (a : ℕ) → a < front n + n → is_front (spot_at (wide n s) class a) ≡ true
unfolding spot_at place_at
front_spot n s class a l = grind (arith, nat_tests)

pub front_spot_narrow : (n s : ℕ) (class : ℕ → ℕ → ℕ) (a : ℕ) → a < front n → is_front (spot_at (narrow n s) class a) ≡ true
unfolding spot_at place_at
front_spot_narrow n s class a l = grind (arith, nat_tests)

pub total_further : (n s : ℕ) → total_of (wide n s) ≡ total_of (narrow n s) + n
total_further n s = omega arith

-- ---- a pool whose format is known

narrow_same : (g : Geometry) → g.wide ≡ false → narrow g.clients g.segments ≡ g
narrow_same g o = λ i. record { clients = g.clients; segments = g.segments; wide = (sym o) i }

-- what holds of all sizes of format 1 holds of those of a pool of that format
pub of_format : (P : Geometry → Type 0) → ((n s : ℕ) → P (narrow n s)) → (g : Geometry) → g.wide ≡ false → P g
of_format P h g o = subst P (narrow_same g o) (h g.clients g.segments)
