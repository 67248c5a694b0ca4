-- parts that leave the map of their identity's table as it was, at each point on their way
use Rattle.std.specs.Prelude.{◌≡◌, false}
use Rattle.shm_graph.specs.{declared.memo.Memo.Memo, Asks.Trail, Held.is_loose, Laws.Control}
use Rattle.kind_parts.specs.Reparting.{map_in}
use Rattle.plans.specs.Parts.{Part}

-- the map of the table, and whether the pool is for tables, are what they were
abbrev pub SameMap : Memo → Memo → Type 0
SameMap r0 r = (map_in r.part ≡ map_in r0.part) × (is_loose r.part ≡ is_loose r0.part)

-- so it is wherever a machine that is not finished fits
abbrev pub IsSteady : {S A : Type 0} → Control S A → Part S A → Type 0
IsSteady {S} {A} k p = (m : S) (r0 r : Memo) (tr : Trail) → k.finished m ≡ false → p.fits m r0 r tr → SameMap r0 r
