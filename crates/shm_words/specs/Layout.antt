-- the layout of a pool: which word lies where
use Rattle.std.specs.Prelude.{ℕ, ◌+◌, ◌-◌, ◌*◌, ◌/◌, ◌%◌, ◌^◌, ◌≤◌, Bool, true, false, ◌&&◌, ◌==◌, nat_lt, if◌then◌else◌}
use Rattle.shm_words.specs.declared.place.Place.{Place}
use Rattle.shm_words.specs.declared.place.Place.TheVariants.{Spare, Status, Redo, RedoMore, Hold, Latch, Home, Era, Root, Tail, Head, Slot, Segment, Page, Body}
use Rattle.shm_words.specs.declared.geometry.Geometry.{Geometry}

-- how many segments a pool may have, in format 2 or in format 1
abbrev pub segments_most : Bool → ℕ
segments_most true = 8000
segments_most false = 256

-- 1 to 16 clients, and 1 to 256 segments or in format 2 1 to 8,000
pub record GeometryFits (g : Geometry) : Type 0 where
  pub client : 1 ≤ g.clients
  pub clients : g.clients ≤ 16
  pub segment : 1 ≤ g.segments
  pub segments : g.segments ≤ segments_most g.wide

-- the addresses of a pool of this format are below this number: so many bits a redo record and a tag have for one
abbrev pub place_limit : Bool → ℕ
place_limit true = 2 ^ 24
place_limit false = 2 ^ 20

-- the addresses of every pool are below this number
abbrev pub address_limit : ℕ
address_limit = 2 ^ 24

-- how many second words of redo records there are
abbrev pub more_of : Bool → ℕ → ℕ
more_of true n = n
more_of false n = 0

abbrev pub more : Geometry → ℕ
more g = more_of g.wide g.clients

-- where the regions of several words for a client or a segment begin
abbrev pub eras : Geometry → ℕ
eras g = 1 + 5 * g.clients + more g

abbrev pub roots : Geometry → ℕ
roots g = 1 + 5 * g.clients + more g + g.clients * g.clients

abbrev pub queues : Geometry → ℕ
queues g = 1 + 21 * g.clients + more g + g.clients * g.clients

abbrev pub segments : Geometry → ℕ
segments g = 1 + 21 * g.clients + more g + 11 * (g.clients * g.clients)

abbrev pub pages : Geometry → ℕ
pages g = 1 + 21 * g.clients + more g + 11 * (g.clients * g.clients) + g.segments

abbrev pub bodies : Geometry → ℕ
bodies g = 1 + 21 * g.clients + more g + 11 * (g.clients * g.clients) + 17 * g.segments

-- how many words a pool has
abbrev pub total_of : Geometry → ℕ
total_of g = bodies g + 2048 * g.segments

-- the address of a place
unfoldable pub address : Geometry → Place → ℕ
address g Spare = 0
address g (Status c) = 1 + c
address g (Redo c) = 1 + g.clients + c + more_of g.wide c
address g (RedoMore c) = 2 + g.clients + 2 * c
address g (Hold c) = 1 + 2 * g.clients + more g + c
address g (Latch c) = 1 + 3 * g.clients + more g + c
address g (Home c) = 1 + 4 * g.clients + more g + c
address g (Era i j) = eras g + i * g.clients + j
address g (Root c k) = roots g + 16 * c + k
address g (Tail s r) = queues g + 10 * (s * g.clients + r)
address g (Head s r) = queues g + 10 * (s * g.clients + r) + 1
address g (Slot s r k) = queues g + 10 * (s * g.clients + r) + 2 + k
address g (Segment s) = segments g + s
address g (Page s p) = pages g + 16 * s + p
address g (Body s p k) = bodies g + 2048 * s + 128 * p + k

-- whether the pool has the place
abbrev pub is_in : Geometry → Place → Bool
is_in g Spare = true
is_in g (Status c) = nat_lt c g.clients
is_in g (Redo c) = nat_lt c g.clients
is_in g (RedoMore c) = g.wide && nat_lt c g.clients
is_in g (Hold c) = nat_lt c g.clients
is_in g (Latch c) = nat_lt c g.clients
is_in g (Home c) = nat_lt c g.clients
is_in g (Era i j) = nat_lt i g.clients && nat_lt j g.clients
is_in g (Root c k) = nat_lt c g.clients && nat_lt k 16
is_in g (Tail s r) = nat_lt s g.clients && nat_lt r g.clients
is_in g (Head s r) = nat_lt s g.clients && nat_lt r g.clients
is_in g (Slot s r k) = (nat_lt s g.clients && nat_lt r g.clients) && nat_lt k 8
is_in g (Segment s) = nat_lt s g.segments
is_in g (Page s p) = nat_lt s g.segments && nat_lt p 16
is_in g (Body s p k) = (nat_lt s g.segments && nat_lt p 16) && nat_lt k 128

-- the place i of the queue from s to r
abbrev pub queue_place : ℕ → ℕ → ℕ → Place
queue_place s r i = if i == 0 then Tail s r else if i == 1 then Head s r else Slot s r (i - 2)

-- the place of word i of the redo records
abbrev pub redo_place : Bool → ℕ → Place
redo_place false i = Redo i
redo_place true i = if i % 2 == 0 then Redo (i / 2) else RedoMore (i / 2)

-- the place of an address; past the end it is Spare
unfoldable pub place_at : Geometry → ℕ → Place
place_at g a =
    if a == 0 then Spare
    else if nat_lt a (1 + g.clients) then Status (a - 1)
    else if nat_lt a (1 + 2 * g.clients + more g) then redo_place g.wide (a - (1 + g.clients))
    else if nat_lt a (1 + 3 * g.clients + more g) then Hold (a - (1 + 2 * g.clients + more g))
    else if nat_lt a (1 + 4 * g.clients + more g) then Latch (a - (1 + 3 * g.clients + more g))
    else if nat_lt a (eras g) then Home (a - (1 + 4 * g.clients + more g))
    else if nat_lt a (roots g) then Era ((a - eras g) / g.clients) ((a - eras g) % g.clients)
    else if nat_lt a (queues g) then Root ((a - roots g) / 16) ((a - roots g) % 16)
    else if nat_lt a (segments g) then queue_place ((a - queues g) / 10 / g.clients) ((a - queues g) / 10 % g.clients) ((a - queues g) % 10)
    else if nat_lt a (pages g) then Segment (a - segments g)
    else if nat_lt a (bodies g) then Page ((a - pages g) / 16) ((a - pages g) % 16)
    else if nat_lt a (total_of g) then Body ((a - bodies g) / 2048) ((a - bodies g) / 128 % 16) ((a - bodies g) % 128)
    else Spare
