-- the places of spots, and the spots of places
use Rattle.std.proofs.Common.{◌≡◌, ◌≢◌, ℕ, ◌+◌, ◌*◌, ◌%◌, ◌<◌, ◌≤◌, true, Bool, refl, sym, ap, subst, arith, inl, inr}
use Rattle.std.proofs.lemmas.Bool.{cases_lt, Decides.nat_tests}
use Rattle.shm_words.specs.declared.{geometry.Geometry.Geometry, place.Place.Place}
use Rattle.shm_words.specs.declared.place.Place.TheVariants as place
use Rattle.shm_words.specs.Layout as layout
use Rattle.shm_words.proofs.{Placing.{place-address, in_place}, Regions.body_at}
use Rattle.shm_graph.specs.declared.spot.Spot.{Spot}
use Rattle.shm_graph.specs.declared.spot.Spot.TheVariants.{Status, Redo, RedoMore, Hold, Latch, Home, Era, Root, Tail, QueueHead, Slot, Segment, Page, Head}
use Rattle.shm_graph.specs.Spots.{block_spot, spot_of, spot_at, spot_address, IsAt}

-- ---- places of addresses

place_past : (g : Geometry) (a : ℕ) → layout.total_of g ≤ a → layout.place_at g a ≡ place.Spare
unfolding layout.place_at
place_past g a l = grind (arith, nat_tests)

-- the pool has the place of any address
pub place_in : (g : Geometry) (a : ℕ) → layout.GeometryFits g → layout.is_in g (layout.place_at g a) ≡ true
place_in g a f =
    elim (cases_lt a (layout.total_of g)) [
      | inl l ↦ in_place g a f l
      | inr l ↦ subst (λ (q : Place). layout.is_in g q ≡ true) (sym (place_past g a l)) refl
    ]

-- ---- from spots to places

-- whether the pool has the spot, where it is in no page
abbrev pub spot_in : Geometry → Spot → Bool
spot_in g (Status c) = layout.is_in g (place.Status c)
spot_in g (Redo c) = layout.is_in g (place.Redo c)
spot_in g (RedoMore c) = layout.is_in g (place.RedoMore c)
spot_in g (Hold c) = layout.is_in g (place.Hold c)
spot_in g (Latch c) = layout.is_in g (place.Latch c)
spot_in g (Home c) = layout.is_in g (place.Home c)
spot_in g (Era i j) = layout.is_in g (place.Era i j)
spot_in g (Root c k) = layout.is_in g (place.Root c k)
spot_in g (Tail s r) = layout.is_in g (place.Tail s r)
spot_in g (QueueHead s r) = layout.is_in g (place.Head s r)
spot_in g (Slot s r k) = layout.is_in g (place.Slot s r k)
spot_in g (Segment s) = layout.is_in g (place.Segment s)
spot_in g (Page s p) = layout.is_in g (place.Page s p)
spot_in g _ = true

block_in : (g : Geometry) (k a i : ℕ) → spot_in g (block_spot k a i) ≡ true
block_in g k a i = grind (arith, nat_tests)

in_from_place : (g : Geometry) (class : ℕ → ℕ → ℕ) (a : ℕ) (q : Place) → layout.is_in g q ≡ true → spot_in g (spot_of class a q) ≡ true
in_from_place g class a (place.Body s p i) e = block_in g (class s p) a i
in_from_place g class a place.Spare e = refl
in_from_place g class a _ e = e

-- the pool has the spot of each address
pub spot_is_in : (g : Geometry) (class : ℕ → ℕ → ℕ) (a : ℕ) → layout.GeometryFits g → spot_in g (spot_at g class a) ≡ true
unfolding spot_at
spot_is_in g class a f = in_from_place g class a (layout.place_at g a) (place_in g a f)

pub at_is_in : (g : Geometry) (class : ℕ → ℕ → ℕ) (p : Spot) → layout.GeometryFits g → IsAt g class p → spot_in g p ≡ true
at_is_in g class p f at = subst (λ (q : Spot). spot_in g q ≡ true) at (spot_is_in g class (spot_address g p) f)

-- where a header lies
pub head_block : (class : ℕ → ℕ → ℕ) (s p a b i : ℕ) → block_spot (class s p) a i ≡ Head b → (class s p ≢ 0) × (i % class s p ≡ 0) × (a ≡ b)
head_block class s p a b i e = (grind (arith, nat_tests), grind (arith, nat_tests), grind (arith, nat_tests))

pub head_place : (class : ℕ → ℕ → ℕ) (a b : ℕ) (q : Place) → spot_of class a q ≡ Head b → (s p i : ℕ) × (q ≡ place.Body s p i) × (class s p ≢ 0) × (i % class s p ≡ 0) × (a ≡ b)
head_place class a b (place.Body s p i) e = let t = head_block class s p a b i e in (s, p, i, refl, t.0, t.1, t.2)
head_place class a b q e = absurd (cc)

-- ---- from places to spots

pub spot-place : (g : Geometry) (class : ℕ → ℕ → ℕ) (q : Place) → layout.is_in g q ≡ true → spot_at g class (layout.address g q) ≡ spot_of class (layout.address g q) q
unfolding spot_at
spot-place g class q h = ap (spot_of class (layout.address g q)) (place-address g q h)

pub status_at : (g : Geometry) (class : ℕ → ℕ → ℕ) (c : ℕ) → layout.is_in g (place.Status c) ≡ true → IsAt g class (Status c)
unfolding spot_address
status_at g class c h = spot-place g class (place.Status c) h

pub home_at : (g : Geometry) (class : ℕ → ℕ → ℕ) (c : ℕ) → layout.is_in g (place.Home c) ≡ true → IsAt g class (Home c)
unfolding spot_address
home_at g class c h = spot-place g class (place.Home c) h

-- the spot of word i of a page
pub body_spot_at : (g : Geometry) (class : ℕ → ℕ → ℕ) (s p i : ℕ) → s < g.segments → p < 16 → i < 128 → spot_at g class (layout.bodies g + 2048 * s + 128 * p + i) ≡ block_spot (class s p) (layout.bodies g + 2048 * s + 128 * p + i) i
unfolding spot_at
body_spot_at g class s p i l m n = ap (spot_of class (layout.bodies g + 2048 * s + 128 * p + i)) (body_at g s p i l m n)
