-- the spots that don't depend on the classes of pages
use Rattle.std.proofs.Common.{◌≡◌, ℕ, sym, ap, ◌∙◌, true, false, refl, inl, inr, subst}
use Rattle.std.proofs.lemmas.Bool.{cases_lt, true≢false}
use Rattle.shm_words.specs.declared.{geometry.Geometry.Geometry, place.Place.Place}
use Rattle.shm_words.specs.Layout.{GeometryFits, total_of, place_at, is_in}
use Rattle.shm_words.specs.declared.place.Place.TheVariants as place
use Rattle.shm_words.proofs.Placing.{place-address, in_place}
use Rattle.shm_graph.specs.declared.spot.Spot.{Spot}
use Rattle.shm_graph.specs.declared.spot.Spot.TheVariants.{Spare, Status, Redo, RedoMore, Hold, Latch, Home, Era, Root, Tail, QueueHead, Slot, Segment, Page}
use Rattle.shm_graph.specs.Spots.{spot_of, spot_at, spot_address, IsAt, is_in_body}
use Rattle.shm_graph.proofs.Spots.Spotting.{block_in_body, spot_past}

-- the place of a spot of no body
abbrev pub place_of : Spot → Place
place_of (Status c) = place.Status c
place_of (Redo c) = place.Redo c
place_of (RedoMore c) = place.RedoMore c
place_of (Hold c) = place.Hold c
place_of (Latch c) = place.Latch c
place_of (Home c) = place.Home c
place_of (Era i j) = place.Era i j
place_of (Root c k) = place.Root c k
place_of (Tail s r) = place.Tail s r
place_of (QueueHead s r) = place.Head s r
place_of (Slot s r k) = place.Slot s r k
place_of (Segment s) = place.Segment s
place_of (Page s p) = place.Page s p
place_of _ = place.Spare

pub place-spot : (class : ℕ → ℕ → ℕ) (a : ℕ) (p : Place) → is_in_body (spot_of class a p) ≡ false → place_of (spot_of class a p) ≡ p
place-spot class a (place.Body s p i) n = absurd (true≢false (sym (block_in_body (class s p) a i) ∙ n))
place-spot class a _ n = refl

-- the pool has the spot of a place that it has
pub fixed_is_at : (g : Geometry) (class : ℕ → ℕ → ℕ) (p : Spot) → is_in_body p ≡ false → is_in g (place_of p) ≡ true → IsAt g class p
unfolding spot_at spot_address
fixed_is_at g class Spare n h = ap (spot_of class _) (place-address g place.Spare h)
fixed_is_at g class (Status c) n h = ap (spot_of class _) (place-address g (place.Status c) h)
fixed_is_at g class (Redo c) n h = ap (spot_of class _) (place-address g (place.Redo c) h)
fixed_is_at g class (RedoMore c) n h = ap (spot_of class _) (place-address g (place.RedoMore c) h)
fixed_is_at g class (Hold c) n h = ap (spot_of class _) (place-address g (place.Hold c) h)
fixed_is_at g class (Latch c) n h = ap (spot_of class _) (place-address g (place.Latch c) h)
fixed_is_at g class (Home c) n h = ap (spot_of class _) (place-address g (place.Home c) h)
fixed_is_at g class (Era i j) n h = ap (spot_of class _) (place-address g (place.Era i j) h)
fixed_is_at g class (Root c k) n h = ap (spot_of class _) (place-address g (place.Root c k) h)
fixed_is_at g class (Tail s r) n h = ap (spot_of class _) (place-address g (place.Tail s r) h)
fixed_is_at g class (QueueHead s r) n h = ap (spot_of class _) (place-address g (place.Head s r) h)
fixed_is_at g class (Slot s r k) n h = ap (spot_of class _) (place-address g (place.Slot s r k) h)
fixed_is_at g class (Segment s) n h = ap (spot_of class _) (place-address g (place.Segment s) h)
fixed_is_at g class (Page s p) n h = ap (spot_of class _) (place-address g (place.Page s p) h)
fixed_is_at g class _ n h = absurd (true≢false n)

-- and the place of a spot of no body that it has
pub fixed_place : (g : Geometry) (class : ℕ → ℕ → ℕ) (a : ℕ) (p : Spot) → spot_at g class a ≡ p → is_in_body p ≡ false → place_at g a ≡ place_of p
unfolding spot_at
fixed_place g class a p e n = sym (place-spot class a (place_at g a) (ap is_in_body e ∙ n)) ∙ ap place_of e

pub fixed_in : (g : Geometry) (class : ℕ → ℕ → ℕ) (p : Spot) → GeometryFits g → is_in_body p ≡ false → IsAt g class p → is_in g (place_of p) ≡ true
fixed_in g class p f n e =
    elim (cases_lt (spot_address g p) (total_of g)) [
      | inl l ↦ ap (is_in g) (sym (fixed_place g class (spot_address g p) p e n)) ∙ in_place g (spot_address g p) f l
      | inr o ↦ (let s : Spare ≡ p = sym (spot_past g class (spot_address g p) o) ∙ e in subst (λ q. is_in g (place_of q) ≡ true) s refl)
    ]
