-- the sizes of a pool as numbers, and the words of a new one
use Rattle.std.specs.Prelude.{ℕ, ◌+◌, ◌==◌, nat_lt, if◌then◌else◌, Bool, true, false, Option, Some, None}
use Rattle.std.specs.Option.{is_some}
use Rattle.shm_words.specs.declared.{geometry.Geometry.Geometry, place.Place.Place}
use Rattle.shm_words.specs.Layout.{address, place_at, segments_most, total_of}
use Rattle.shm_words.specs.declared.place.Place.TheVariants as place
use Rattle.shm_graph.specs.declared.ask.Me.{Me}
use Rattle.shm_session.specs.Sessions.{stage_found}

-- whether a pool of format 2 (`true`) or 1 may have so many clients and segments: 1 to 16, and 1 to as many as the format allows
abbrev pub are_sizes : Bool → ℕ → ℕ → Bool
are_sizes wide c s = if nat_lt 0 c then (if nat_lt c 17 then (if nat_lt 0 s then nat_lt s (segments_most wide + 1) else false) else false) else false

-- the pool of these sizes; none where there is no such pool
abbrev pub sized : Bool → ℕ → ℕ → Option Geometry
sized wide c s = if are_sizes wide c s then Some (record { clients = c; segments = s; wide = wide }) else None

-- the pool of a format, 1 or 2, with so many clients and segments; none where there is no such pool
abbrev pub geometry_of : ℕ → ℕ → ℕ → Option Geometry
geometry_of f c s = if f == 1 then sized false c s else if f == 2 then sized true c s else None

-- an identity of a pool, by its number; none where the pool hasn't it
abbrev pub member_of : Geometry → ℕ → Option Me
member_of g w = if nat_lt w g.clients then Some (record { geometry = g; who = w }) else None

-- where its status lies
abbrev pub status_at : Geometry → ℕ → Option ℕ
status_at g w = if nat_lt w g.clients then Some (address g (place.Status w)) else None

-- what a place holds at first: each identity's own era, and else nothing
abbrev pub first_of : ℕ → Place → ℕ
first_of e (place.Era i j) = if i == j then e else 0
first_of e _ = 0

-- the word at an address
abbrev pub first_word : Geometry → ℕ → ℕ → ℕ
first_word g e at = first_of e (place_at g at)

-- ---- for callers that know numbers alone: 0 where there is no such pool, address or identity

abbrev pub total_or : Option Geometry → ℕ
total_or None = 0
total_or (Some g) = total_of g

abbrev pub word_or : Option Geometry → ℕ → ℕ → ℕ
word_or None e at = 0
word_or (Some g) e at = if nat_lt at (total_of g) then first_word g e at else 0

abbrev pub address_or : Option ℕ → ℕ
address_or None = 0
address_or (Some a) = a

abbrev pub status_or : Option Geometry → ℕ → ℕ
status_or None w = 0
status_or (Some g) w = address_or (status_at g w)

-- whether an identity whose status word is this can have a session: there are such a pool, such an identity and such a status
abbrev pub may_open : Option Geometry → ℕ → ℕ → Bool
may_open None w n = false
may_open (Some g) w n = if nat_lt w g.clients then is_some (stage_found n) else false
