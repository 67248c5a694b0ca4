-- what an allocation asks, and what it answers
use Rattle.std.specs.Prelude.{ℕ, zero, suc, ◌+◌, ◌-◌, ◌*◌, ◌/◌, ◌^◌, ◌==◌, nat_lt, Result, Ok, Err, slice_index}
use Rattle.shm_words.specs.{Layout.address, Redos.{first_word, second_word}}
use Rattle.shm_words.specs.declared.place.Place.TheVariants as place
use Rattle.shm_graph.specs.{declared.ask.{Ask.TheVariants.{Load, Store, Exchange}, Me.Me}, Asks.Trail}
use Rattle.shm_graph.specs.Trails.{Answers, Asked, Chosen}
use Rattle.shm_count.specs.declared.answer.Made.{Made}
use Rattle.shm_alloc.specs.declared.alloc.AllocFault.{AllocFault, TheVariants.{EraSpent, RootsFull, Full}}
use Rattle.shm_alloc.specs.declared.request.Request.{Request}
use Rattle.shm_alloc.specs.Alloc.Control.{class_asked, tag_asked, header_made, redo_asked, segment_at, page_at, index_at}

-- the trails of an allocation, each with its answer
abbrev pub AllocTrails : Type 1
AllocTrails = Trail → Result Made AllocFault → Type 0

module _ (me : Me) (q : Request) where
  -- ---- a free block is found: it is prepared and made live, and named by the root

  -- the own era
  abbrev pub close_trail : ℕ → ℕ → ℕ → AllocTrails
  close_trail e k b = Asked (Store (address me.geometry (place.Era me.who me.who)) (e + 1)) (λ _. Answers (Ok (record { root = k; block = b })))

  -- the root, and what follows
  abbrev pub slot_trail : ℕ → ℕ → ℕ → AllocTrails
  slot_trail e k b = Asked (Store (address me.geometry (place.Root me.who k)) b) (λ _. close_trail e k b)

  -- the header, and what follows
  abbrev pub commit_trail : ℕ → ℕ → ℕ → AllocTrails
  commit_trail e k b = Asked (Exchange b 0 (header_made me.who e)) (λ _. slot_trail e k b)

  -- the redo record, and what follows
  abbrev pub live_trail : ℕ → ℕ → ℕ → AllocTrails
  live_trail e k b = Asked (Store (address me.geometry (place.Redo me.who)) (first_word me.geometry.wide (redo_asked me k b))) (λ _. commit_trail e k b)

  -- in format 2 its second word is stored before
  abbrev pub more_trail : ℕ → ℕ → ℕ → AllocTrails
  more_trail e k b = Asked (Store (address me.geometry (place.RedoMore me.who)) (second_word me.geometry.wide (redo_asked me k b))) (λ _. live_trail e k b)

  abbrev pub first_trail : ℕ → ℕ → ℕ → AllocTrails
  first_trail e k b = Chosen me.geometry.wide (more_trail e k b) (live_trail e k b)

  -- n plain words from the one at i on
  abbrev pub plain_trail : ℕ → ℕ → ℕ → ℕ → ℕ → AllocTrails
  plain_trail zero i e k b = first_trail e k b
  plain_trail (suc n) i e k b = Asked (Store (b + 2 + q.refs + i) (slice_index q.plain i)) (λ _. plain_trail n (i + 1) e k b)

  -- n reference words from the one at i on
  abbrev pub reference_trail : ℕ → ℕ → ℕ → ℕ → ℕ → AllocTrails
  reference_trail zero i e k b = plain_trail q.count 0 e k b
  reference_trail (suc n) i e k b = Asked (Store (b + 2 + i) 0) (λ _. reference_trail n (i + 1) e k b)

  -- the tag, and what follows
  abbrev pub block_trail : ℕ → ℕ → ℕ → AllocTrails
  block_trail e k b = Asked (Store (b + 1) (tag_asked me.geometry.wide q me.who)) (λ _. reference_trail q.refs 0 e k b)

  -- ---- a free block is looked for; `rest` follows where there is none, by how many headers were read. Segments, pages and blocks are counted from the hint on

  -- n headers of the page at `at` from the one that is number i on
  abbrev pub header_trail : ℕ → ℕ → ℕ → ℕ → ℕ → ℕ → (ℕ → AllocTrails) → AllocTrails
  header_trail zero i at e k used rest = rest used
  header_trail (suc n) i at e k used rest =
      Asked (Load (at + class_asked q * index_at q i)) (λ x.
      Chosen (x == 0) (block_trail e k (at + class_asked q * index_at q i)) (header_trail n (i + 1) at e k (used + 1) rest))

  -- all headers of a page
  abbrev pub headers_trail : ℕ → ℕ → ℕ → ℕ → ℕ → (ℕ → AllocTrails) → AllocTrails
  headers_trail s p e k used rest = header_trail (128 / class_asked q) 0 (address me.geometry (place.Body s p 0)) e k used rest

  -- a page gets its class, and its headers are read
  abbrev pub class_trail : ℕ → ℕ → ℕ → ℕ → ℕ → (ℕ → AllocTrails) → AllocTrails
  class_trail s p e k used rest = Asked (Store (address me.geometry (place.Page s p)) (class_asked q)) (λ _. headers_trail s p e k used rest)

  -- n pages of the own segment s from the one that is number p on
  abbrev pub page_trail : ℕ → ℕ → ℕ → ℕ → ℕ → ℕ → (ℕ → AllocTrails) → AllocTrails
  page_trail zero p s e k used rest = rest used
  page_trail (suc n) p s e k used rest =
      Asked (Load (address me.geometry (place.Page s (page_at q p)))) (λ x.
      Chosen (x == 0) (class_trail s (page_at q p) e k used (λ u. page_trail n (p + 1) s e k u rest))
      (Chosen (x == class_asked q) (headers_trail s (page_at q p) e k used (λ u. page_trail n (p + 1) s e k u rest)) (page_trail n (p + 1) s e k used rest)))

  -- n segments from the one that is number s on
  abbrev pub segment_trail : ℕ → ℕ → ℕ → ℕ → ℕ → ℕ → AllocTrails
  segment_trail zero s e k taken used = Answers (Err (Full taken used))
  segment_trail (suc n) s e k taken used =
      Asked (Load (address me.geometry (place.Segment (segment_at me q s)))) (λ x.
      Chosen (x == 0)
      (Asked (Exchange (address me.geometry (place.Segment (segment_at me q s))) 0 (me.who + 1)) (λ y.
      Chosen (y == 0) (page_trail 16 0 (segment_at me q s) e k used (λ u. segment_trail n (s + 1) e k taken u)) (segment_trail n (s + 1) e k (taken + 1) used)))
      (Chosen (x == me.who + 1) (page_trail 16 0 (segment_at me q s) e k used (λ u. segment_trail n (s + 1) e k taken u)) (segment_trail n (s + 1) e k (taken + 1) used)))

  -- ---- the own era and the roots come first

  -- n roots from root k on
  abbrev pub root_trail : ℕ → ℕ → ℕ → AllocTrails
  root_trail zero k e = Answers (Err RootsFull)
  root_trail (suc n) k e =
      Asked (Load (address me.geometry (place.Root me.who k))) (λ x.
      Chosen (x == 0) (segment_trail me.geometry.segments 0 e k 0 0) (root_trail n (k + 1) e))

  -- all that an allocation asks
  abbrev pub alloc_trail : AllocTrails
  alloc_trail = Asked (Load (address me.geometry (place.Era me.who me.who))) (λ e. Chosen (nat_lt (2 ^ 47 - 3) e) (Answers (Err (EraSpent e))) (root_trail 16 0 e))
