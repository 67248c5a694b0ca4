-- what a builder makes, and what it refuses
use Rattle.std.specs.Prelude.{◌≡◌, ℕ, ◌<◌, ◌≤◌, ◌⊎◌, Bool, true, false}
use Rattle.shm_graph.specs.declared.run.Start.{Start}
use Rattle.shm_script.specs.Ranges.{segments_limit}
use Rattle.lojarnek.specs.declared.{builder.Builder.Builder, error.Bound.Bound}
use Rattle.lojarnek.specs.declared.error.{Bound.TheVariants.{Clients, Segments, WideSegments}, Error.Error}
use Rattle.lojarnek.specs.declared.error.Error.TheVariants.{OutOfRange}

-- what the pool is made of
abbrev pub start_of : Builder → Start
start_of b = record { geometry = record { clients = b.clients; segments = b.segments; wide = b.wide }; first_era = 1; tables = b.tables }

-- there can be such a pool
pub record MayBe (b : Builder) : Type 0 where
  pub some : 1 ≤ b.clients
  pub few : b.clients ≤ 16
  pub room : 1 ≤ b.segments
  pub small : b.segments ≤ segments_limit b.wide

-- the bound of the number of segments
abbrev pub segments_bound : Bool → Bound
segments_bound true = WideSegments
segments_bound false = Segments

-- a number that is out of range, and its bound: that of clients first
abbrev pub IsOutOfRange : Builder → ℕ → Bound → Type 0
IsOutOfRange b n Clients = (n ≡ b.clients) × ((b.clients < 1) ⊎ (16 < b.clients))
IsOutOfRange b n x = (x ≡ segments_bound b.wide) × (n ≡ b.segments) × (1 ≤ b.clients) × (b.clients ≤ 16) × ((b.segments < 1) ⊎ (segments_limit b.wide < b.segments))

-- the builder's pool is refused for it
abbrev pub IsRefused : Builder → Error → Type 0
IsRefused b (OutOfRange n x) = IsOutOfRange b n x
IsRefused b e = ⊥
