-- stores of words that nothing counts: of a free block that is prepared, and of the link of a dying block
use Rattle.std.specs.{Prelude.{◌≡◌, ◌≢◌, ℕ, ◌+◌, ◌^◌, ◌<◌, Option, Some, None, List, [], ◌∷◌}, List.{Contains, filter}}
use Rattle.shm_words.specs.{declared.geometry.Geometry.Geometry, Tags.{tag_refs, tag_limit, tag_shape}}
use Rattle.shm_graph.specs.declared.{spot.Spot.{Spot, TheVariants.{Segment, Page, Head, Tag, Body}}, memo.Stored.Stored}
use Rattle.shm_graph.specs.{declared.memo.{Making.Making, Op.TheVariants.Nothing}, Spots.{IsAt, class_at, segment_of}}
use Rattle.shm_graph.specs.{Blocks.IsBlock, Views.{View, at1}, Reach.learnt, MemoAfterStore.{not_block, not_of}}
use Rattle.shm_graph.specs.declared.memo.Status.TheVariants as status

-- ---- the store of a word of a free block

-- the tag, or a word of the body
abbrev pub IsOf : ℕ → ℕ → Spot → Type 0
IsOf b k (Tag d) = d ≡ b
IsOf b k (Body d i) = (d ≡ b) × (i + 2 < k)
IsOf b k _ = ⊥

-- no block is prepared, or this one
abbrev pub IsMaking : ℕ → Option Making → Type 0
IsMaking b None = Unit {0}
IsMaking b (Some m) = m.block ≡ b

-- c, which isn't new or gone, stores a word of a free block in a segment of its own; it prepares no other block
pub record PrepareNeeds (g : Geometry) (w : Spot → ℕ) (v : View) (c b k : ℕ) (p : Spot) (x : ℕ) : Type 0 where
  pub inside : c < g.clients
  pub acts : v.status c ≢ status.New
  pub here : v.status c ≢ status.Gone
  pub word : IsOf b k p
  pub place : IsAt g (λ s q. w (Page s q)) p
  pub block : IsBlock g (λ s q. w (Page s q)) b
  pub free : w (Head b) ≡ 0
  pub mine : w (Segment (segment_of g b)) ≡ c + 1
  pub sized : class_at g (λ s q. w (Page s q)) b ≡ k
  pub small : x < 2 ^ 64
  pub making : IsMaking b (v.making c)

-- the words that were stored, with one that is stored now
abbrev pub words_with : Spot → ℕ → Option Making → List Stored
words_with p x None = record { spot = p; value = x } ∷ []
words_with p x (Some m) = learnt p x m.words

-- the block is prepared, and the word is among those that were stored; no commit test is open
abbrev pub prepare_view : View → ℕ → ℕ → ℕ → Spot → ℕ → View
prepare_view v c b k p x =
    record v {
      making = at1 v.making c (Some (record { block = b; class = k; words = words_with p x (v.making c) }));
      test = at1 v.test c None;
    }

-- ---- the store of the link of a dying block

-- c, which isn't new or gone, stores the tag of a dying block of its own with another link
pub record LinkNeeds (g : Geometry) (w : Spot → ℕ) (v : View) (c b x : ℕ) : Type 0 where
  pub inside : c < g.clients
  pub acts : v.status c ≢ status.New
  pub here : v.status c ≢ status.Gone
  pub dying : Contains (v.dying c) b
  pub place : IsAt g (λ s q. w (Page s q)) (Tag b)
  pub small : x < tag_limit g.wide
  -- the numbers of words and the author stay
  pub shape : tag_shape g.wide x ≡ tag_shape g.wide (w (Tag b))

-- the tag is known; no commit test is open
abbrev pub link_view : View → ℕ → ℕ → ℕ → View
link_view v c b x =
    record v {
      known = at1 v.known c (learnt (Tag b) x (v.known c));
      test = at1 v.test c None;
    }

-- ---- the store that frees a dying block

pub record FreeNeeds (g : Geometry) (v : View) (c b tag : ℕ) : Type 0 where
  pub inside : c < g.clients
  pub acts : v.status c ≢ status.New
  pub here : v.status c ≢ status.Gone
  pub op : v.op c ≡ Nothing
  pub dying : Contains (v.dying c) b
  pub tagged : Contains (v.known c) (record { spot = Tag b; value = tag })
  pub zeros : (i : ℕ) → i < tag_refs g.wide tag → Contains (v.known c) (record { spot = Body b i; value = 0 })

abbrev pub free_view : View → ℕ → ℕ → View
free_view v c b =
    record v {
      dying = at1 v.dying c (filter (not_block b) (v.dying c));
      known = at1 v.known c (filter (not_of b) (v.known c));
      test = at1 v.test c None;
    }
