-- the figures of a pool
use Rattle.std.specs.Prelude.{◌≡◌, ℕ, ◌*◌, ◌<◌, ◌==◌, if◌then◌else◌, List, length, slice_index, slice_index_or, None}
use Rattle.shm_words.specs.declared.geometry.Geometry.{Geometry}
use Rattle.shm_words.specs.declared.place.Place.TheVariants.{Status, Hold, Latch, Home, Root, Slot}
use Rattle.shm_words.specs.Layout.{address, total_of}
use Rattle.shm_graph.specs.{References.sum_below, Spots.see}
use Rattle.shm_audit.specs.{Images.{geometry_in, words_in}, Faults.image_fault_of, Verdicts.verdict_of}
use Rattle.shm_view.specs.declared.{census.Census.Census, identity.Identity.Identity, stats.Stats.Stats}
use Rattle.shm_view.specs.{Chains.{keys_in, longest_in}, Sums.AreSums}
use Rattle.shm_view.specs.Kinds.{owner_kind, page_kind, live_kind, free_kind, count_kind}

-- 1 where a word isn't 0
abbrev pub one_where_set : ℕ → ℕ
one_where_set word = if word == 0 then 0 else 1

-- how many roots of an identity name a block
abbrev pub roots_set : Geometry → List ℕ → ℕ → ℕ
roots_set g ws c = sum_below 16 (λ k. one_where_set (slice_index ws (address g (Root c k))))

-- how many references wait in the queue from s to r
abbrev pub waiting_in : Geometry → List ℕ → ℕ → ℕ → ℕ
waiting_in g ws s r = sum_below 8 (λ k. one_where_set (slice_index ws (address g (Slot s r k))))

-- how many wait for r in all its queues
abbrev pub waiting_for : Geometry → List ℕ → ℕ → ℕ
waiting_for g ws r = sum_below g.clients (λ s. waiting_in g ws s r)

-- how many entries there is room for in a pool
abbrev pub entries_most : Geometry → ℕ
entries_most g = 256 * g.segments

-- what the words of a pool say of an identity
pub record IsIdentity (g : Geometry) (ws : List ℕ) (c : ℕ) (i : Identity) : Type 0 where
  pub status : i.status ≡ slice_index ws (address g (Status c))
  pub hold : i.hold ≡ slice_index ws (address g (Hold c))
  pub latch : i.latch ≡ slice_index ws (address g (Latch c))
  pub home : i.home ≡ slice_index ws (address g (Home c))
  pub roots : i.roots ≡ roots_set g ws c
  pub waiting : i.waiting ≡ waiting_for g ws c
  pub keys : i.keys ≡ keys_in ws (entries_most g) i.home
  pub longest : i.longest ≡ longest_in ws (entries_most g) i.home

-- an identity of which nothing is said
abbrev pub nobody : Identity
nobody = record { status = 0; hold = 0; latch = 0; home = 0; roots = 0; waiting = 0; keys = 0; longest = 0 }

-- what the words of a pool say of all its identities, in order
pub record AreIdentities (g : Geometry) (ws : List ℕ) (is : List Identity) : Type 0 where
  pub count : length is ≡ g.clients
  pub each : (c : ℕ) → c < length is → IsIdentity g ws c (slice_index_or is c nobody)

-- how many segments each client owns, how many pages have each class, how many live and free blocks each class has, and how many live
-- blocks have each count
pub record IsCensus (g : Geometry) (ws : List ℕ) (c : Census) : Type 0 where
  pub owners : AreSums (owner_kind g ws) g.segments c.owners.sums.items
  pub pages : AreSums (page_kind g ws) (16 * g.segments) c.pages.sums.items
  pub live : AreSums (live_kind g ws) (total_of g) c.live.sums.items
  pub free : AreSums (free_kind g ws) (total_of g) c.free.sums.items
  pub counts : AreSums (count_kind g ws) (total_of g) c.counts.sums.items

-- there is a sum for nobody and each client, for each number up to the largest class, and for each count
pub record IsWhole (g : Geometry) (c : Census) : Type 0 where
  pub owners : length c.owners.sums.items ≡ 17
  pub pages : length c.pages.sums.items ≡ 33
  pub live : length c.live.sums.items ≡ 33
  pub free : length c.free.sums.items ≡ 33
  pub counts : length c.counts.sums.items ≡ 1024

-- the figures of an image without a fault
pub record AreStats (image : List ℕ) (s : Stats) : Type 0 where
  pub none : image_fault_of image ≡ None
  pub sizes : s.geometry ≡ geometry_in image
  pub words : s.words ≡ total_of s.geometry
  pub census : IsCensus s.geometry (words_in image) s.census
  pub whole : IsWhole s.geometry s.census
  pub identities : AreIdentities s.geometry (words_in image) s.identities.items
  pub verdict : s.verdict ≡ verdict_of s.geometry (see s.geometry (words_in image))
