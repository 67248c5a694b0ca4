-- what the steps that prepare and give up segments, pages and blocks, and that take a latch, need of the memo of their identity
use Rattle.std.specs.{Prelude.{Bool, ◌≡◌, ◌≢◌, ℕ, ◌+◌, ◌^◌, ◌<◌, ◌≤◌, true, ◌⊎◌, Some, None}, List.Contains}
use Rattle.shm_words.specs.{declared.geometry.Geometry.Geometry, Headers.header_of}
use Rattle.shm_words.specs.Tags.{tag_refs, tag_plain, tag_author, tag_link, tag_limit, tag_shape}
use Rattle.shm_words.specs.Classes.{IsClass, class_for}
use Rattle.shm_graph.specs.declared.spot.Spot.TheVariants.{Hold, Root, Page, Head, Tag, Body}
use Rattle.shm_graph.specs.declared.memo.{First.TheVariants.Begun, Op.TheVariants.{Nothing, Alloc}, Making.Making}
use Rattle.shm_graph.specs.{declared.memo.Memo.Memo, Views.own_word, MemoAfterStore.class_told}
use Rattle.shm_graph.specs.declared.memo.Status.TheVariants as status
use Rattle.kind_parts.specs.Conditions.{IsHere}

-- ---- segments and pages

-- the segment is the identity's, and no block is prepared, which could stand in it
pub record MayGive (m : Memo) (s : ℕ) : Type 0 where
  pub here : IsHere m
  pub idle : m.making ≡ None
  pub owned : Contains m.owned s

-- the identity is live, the page of an own segment was read as 0, and k is a class
pub record MayClass (m : Memo) (s q k : ℕ) : Type 0 where
  pub live : m.status ≡ status.Live
  pub read : Contains m.zeros (Page s q)
  pub class : IsClass k

-- ---- latches

-- no step is in progress and no latch is held, and the own hold word names the latch of a
pub record MayLatch (c : ℕ) (m : Memo) (a : ℕ) : Type 0 where
  pub here : IsHere m
  pub idle : m.op ≡ Nothing
  pub none : m.latch ≡ None
  pub wants : own_word m.own (Hold c) ≡ a + 1

-- ---- a free block that is prepared

-- no block is prepared, the header of b was read as 0, and the class of its page was read too, which isn't 0
pub record MayStart (g : Geometry) (m : Memo) (b : ℕ) : Type 0 where
  pub none : m.making ≡ None
  pub read : Contains m.zeros (Head b)
  pub told : class_told g m.facts b ≢ 0

-- no step is in progress, and b is the block that is prepared
pub record MayPrepare (m : Memo) (b x : ℕ) (k : Making) : Type 0 where
  pub here : IsHere m
  pub idle : m.op ≡ Nothing
  pub making : m.making ≡ Some k
  pub of : k.block ≡ b
  pub small : x < 2 ^ 64

-- no step is in progress, and b may be prepared from here on
pub record MayPrepareNew (g : Geometry) (m : Memo) (b x : ℕ) : Type 0 where
  pub here : IsHere m
  pub idle : m.op ≡ Nothing
  pub begin : MayStart g m b
  pub small : x < 2 ^ 64

-- the tag of b may be stored
abbrev pub MayTag : Geometry → Memo → ℕ → ℕ → Type 0
MayTag g m b x = ((k : Making) × MayPrepare m b x k) ⊎ MayPrepareNew g m b x

-- word i after the tag of b may be stored
abbrev pub MayBody : Memo → ℕ → ℕ → ℕ → Type 0
MayBody m b i x = (k : Making) × MayPrepare m b x k × (i + 2 < k.class)

-- the begun step is to make block b, which is prepared as k, live in root i at era e: the tag's fields are a tag's and fit the class, the reference words are 0, and `to` is the new header
pub record MayAlloc (wide : Bool) (c : ℕ) (m : Memo) (i b e to tag : ℕ) (k : Making) : Type 0 where
  pub live : m.status ≡ status.Live
  pub op : m.op ≡ Alloc Begun (Root c i) b e
  pub making : m.making ≡ Some k
  pub of : k.block ≡ b
  pub small : to < 2 ^ 64
  pub new : header_of to ≡ record { live = true; client = c; count = 1; era = e }
  pub tagged : Contains k.words (record { spot = Tag b; value = tag })
  pub small_tag : tag < tag_limit wide
  pub refs : tag_refs wide tag ≤ 16
  pub plain : tag_plain wide tag ≤ 8
  pub author : tag_author wide tag ≡ c
  pub link : tag_link wide tag ≡ 0
  pub fits : class_for (tag_refs wide tag) (tag_plain wide tag) ≡ k.class
  pub zeros : (j : ℕ) → j < tag_refs wide tag → Contains k.words (record { spot = Body b j; value = 0 })

-- ---- zero-count blocks

-- no step is in progress, and the tag of the zero-count block b is known
pub record KnowsDying (m : Memo) (b tag : ℕ) : Type 0 where
  pub here : IsHere m
  pub idle : m.op ≡ Nothing
  pub dying : Contains m.dying b
  pub tagged : Contains m.known (record { spot = Tag b; value = tag })

-- the zero-count block b may be freed: all its reference words are known as 0
pub record MayFree (wide : Bool) (m : Memo) (b tag : ℕ) : Type 0 where
  pub knows : KnowsDying m b tag
  pub zeros : (i : ℕ) → i < tag_refs wide tag → Contains m.known (record { spot = Body b i; value = 0 })

-- x may be stored as the tag of the zero-count block b: it is that tag with another link
pub record MayLink (wide : Bool) (m : Memo) (b tag x : ℕ) : Type 0 where
  pub knows : KnowsDying m b tag
  pub shape : tag_shape wide x ≡ tag_shape wide tag
  pub small : x < tag_limit wide
