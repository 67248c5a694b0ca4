-- how big a graph of references is: what an event that makes nothing takes away from
use Rattle.std.specs.Prelude.{ℕ, ◌+◌, ◌^◌, ◌<◌, Bool, true, false, ◌==◌, if◌then◌else◌}
use Rattle.shm_words.specs.Layout.{place_limit}
use Rattle.shm_graph.specs.declared.spot.Spot.{Spot, TheVariants.{Home, Root, Slot, Body}}
use Rattle.shm_graph.specs.{Events.{Graph, Event, ChangeDown}, References.{sum_below, one_if}}

-- how many identities a pool has at most
unfoldable pub identities : ℕ
identities = 16

-- how many roots an identity has, how many items a queue, and how many reference words a block, at most
unfoldable pub places : ℕ
places = 16

-- how many addresses a pool of a format has at most
unfoldable pub addresses : Bool → ℕ
addresses wide = place_limit wide

-- one where it names a block
abbrev pub named : ℕ → ℕ
named x = if x == 0 then 0 else 1

-- how many homes, roots, words of queues, and reference words of blocks name a block
abbrev pub homes_named : (Spot → ℕ) → ℕ
homes_named t = sum_below identities (λ c. named (t (Home c)))

abbrev pub roots_named : (Spot → ℕ) → ℕ
roots_named t = sum_below identities (λ c. sum_below places (λ k. named (t (Root c k))))

abbrev pub slots_named : (Spot → ℕ) → ℕ
slots_named t = sum_below identities (λ s. sum_below identities (λ r. sum_below places (λ k. named (t (Slot s r k)))))

abbrev pub bodies_named : Bool → (Spot → ℕ) → ℕ
bodies_named wide t = sum_below (addresses wide) (λ b. sum_below places (λ i. named (t (Body b i))))

-- the references from words, those held over, and the live blocks
unfoldable pub size_of : Bool → Graph → ℕ
size_of wide a = homes_named a.target + roots_named a.target + slots_named a.target + bodies_named wide a.target + sum_below identities (λ c. named (a.held_over c)) + sum_below (addresses wide) (λ b. one_if (a.live b))

-- how great that is at most
abbrev pub size_limit : Bool → ℕ
size_limit false = 2 ^ 25
size_limit true = 2 ^ 29

-- a spot that is counted
abbrev pub IsCounted : Bool → Spot → Type 0
IsCounted wide (Home c) = c < identities
IsCounted wide (Root c k) = (c < identities) × (k < places)
IsCounted wide (Slot s r k) = (s < identities) × (r < identities) × (k < places)
IsCounted wide (Body b i) = (b < addresses wide) × (i < places)
IsCounted wide _ = ⊥

-- the identity whose reference is held over is one of n
abbrev pub IsHeldWithin : ℕ → Event → Type 0
IsHeldWithin n (ChangeDown c a) = c < n
IsHeldWithin n _ = Unit {0}
