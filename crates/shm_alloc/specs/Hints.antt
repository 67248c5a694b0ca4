-- what a client remembers of its allocations of a class: where the next search begins
use Rattle.std.specs.Prelude.{ℕ, ◌+◌, ◌-◌, ◌*◌, ◌/◌, ◌%◌, ◌<◌, ◌≤◌, nat_lt, if◌then◌else◌}
use Rattle.shm_words.specs.{declared.geometry.Geometry.Geometry, Classes.IsClass, Layout.{GeometryFits, bodies}}
use Rattle.shm_alloc.specs.declared.request.Near.{Near}

-- a hint for blocks of a class in a pool of these sizes, as callers see it
pub record Hinted : Type 0 where
  pub geometry : Geometry
  pub class : ℕ
  pub next : Near

-- a place in the pool: a segment, a page of it and a block of this
pub record IsPlace (g : Geometry) (k : ℕ) (n : Near) : Type 0 where
  pub segment : n.segment < g.segments
  pub page : n.page < 16
  pub index : n.index < 128 / k

-- what holds of all that is kept: the hint lies in the pool, the farthest block too, and no more segments lie before it than there are
pub record IsHint (g : Geometry) (k : ℕ) (n : Near) (far earlier : ℕ) : Type 0 where
  pub geometry : GeometryFits g
  pub class : IsClass k
  pub place : IsPlace g k n
  pub farthest : far < 2048 * g.segments
  pub before : earlier ≤ far / 2048

-- no hint: the pool's first block
abbrev pub no_hint : Near
no_hint = record { segment = 0; page = 0; index = 0 }

-- the place behind the block that begins at word a of all blocks: in its page, in the next page, in the next segment, or the first of all
abbrev pub behind_at : Geometry → ℕ → ℕ → Near
behind_at g k a =
    if nat_lt (a % 128 / k + 1) (128 / k) then record { segment = a / 2048; page = a / 128 % 16; index = a % 128 / k + 1 }
    else if nat_lt (a / 128 % 16) 15 then record { segment = a / 2048; page = a / 128 % 16 + 1; index = 0 }
    else if nat_lt (a / 2048 + 1) g.segments then record { segment = a / 2048 + 1; page = 0; index = 0 }
    else no_hint

-- the place behind the block at an address
abbrev pub near_behind : Geometry → ℕ → ℕ → Near
near_behind g k b = behind_at g k (b - bodies g)
