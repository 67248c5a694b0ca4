-- the event by which a key goes
use Rattle.std.specs.Prelude.{◌≡◌, ◌⊎◌, ℕ}
use Rattle.shm_graph.specs.{declared.spot.Spot.TheVariants.Body, Events.Event}
use Rattle.shm_graph.specs.Events as event

-- word i of block d, which led to the entry e, loses it: it comes to be empty, or to name the next entry
abbrev pub Cuts : (c d i e : ℕ) → Event → Type 0
Cuts c d i e v = (v ≡ event.Down c (Body d i) e) ⊎ ((next : ℕ) × (v ≡ event.ChangeUp c (Body d i) e next))
