-- what a tear-down needs of a memo, and what it leaves of it
use Rattle.std.specs.Prelude.{◌≡◌, ◌≢◌, ℕ, ◌+◌, ◌^◌, ◌<◌, ◌≤◌, Bool, true, ◌==◌, if◌then◌else◌, [], ◌∷◌, ◌++◌, ◌⊎◌}
use Rattle.std.specs.List.{Contains, filter}
use Rattle.shm_words.specs.{declared.tag.Tag.Tag as ATag, Tags.{tag_word, TagFits}, Layout.total_of}
use Rattle.shm_graph.specs.{Core.core, declared.{ask.Me.Me, spot.Spot.{Spot, TheVariants.{Home, Era, Tag, Body}}}}
use Rattle.shm_graph.specs.{declared.memo.{Memo.Memo, Stored.Stored}, Held.is_slot, Views.own_word}
use Rattle.shm_graph.specs.{Reach.{shown, is_named}, MemoAfterStore.is_of, Chains.part_set}
use Rattle.shm_count.specs.{Step.Control.IsInside, Lasting.is_lasting}

-- ---- what stays

-- nothing of the identity changed but its zero-count blocks, what it knows and has read, its redo record and its row, which grew
pub record TearStays (c : ℕ) (m r : Memo) : Type 0 where
  pub rest : core r ≡ core (record m { own = r.own; dying = r.dying; known = r.known; looks = r.looks; values = r.values })
  pub own : (p : Spot) → is_lasting c p ≡ true → own_word r.own p ≡ own_word m.own p
  pub rows : (j : ℕ) → own_word m.own (Era c j) ≤ own_word r.own (Era c j)

-- ---- what is known of zero-count blocks

-- the word at a spot is known to be x
abbrev pub Knows : Memo → Spot → ℕ → Type 0
Knows m p x = Contains m.known (record { spot = p; value = x })

-- a word that is known of a head slot
abbrev pub is_slot_word : Stored → Bool
is_slot_word s = is_slot s.spot

-- What stays known: head slots, and the words and the value blocks of blocks that the own roots, the own home and known head slots name. The looks are what they were, or there are none
pub record Retains (c : ℕ) (m r : Memo) : Type 0 where
  pub looks : (r.looks ≡ m.looks) ⊎ (r.looks ≡ [])
  pub slots : filter is_slot_word r.known ≡ filter is_slot_word m.known
  pub words : (b : ℕ) (p : Spot) (x : ℕ) → is_named c m b ≡ true → is_of b p ≡ true → Knows m p x → Knows r p x
  pub values : (b : ℕ) → is_named c m b ≡ true → Contains m.values b → Contains r.values b

-- The same of blocks that are named still, where own reference words may have come to be empty
pub record Remains (c : ℕ) (m r : Memo) : Type 0 where
  pub looks : (r.looks ≡ m.looks) ⊎ (r.looks ≡ [])
  pub slots : filter is_slot_word r.known ≡ filter is_slot_word m.known
  pub words : (b : ℕ) (p : Spot) (x : ℕ) → is_named c r b ≡ true → is_of b p ≡ true → Knows m p x → Knows r p x
  pub values : (b : ℕ) → is_named c r b ≡ true → Contains m.values b → Contains r.values b

-- the tag of block b is known to be g, whose reference words lie in the pool
pub record IsTagged (me : Me) (m : Memo) (b : ℕ) (g : ATag) : Type 0 where
  pub fits : TagFits me.geometry.wide g
  pub tag : Knows m (Tag b) (tag_word me.geometry.wide g)
  pub room : b + 2 + g.refs ≤ total_of me.geometry

-- a reference to block t was read from word i of a zero-count block b: t is a counted block of the pool, and no partition is read from the word; the own era is one that a header has room for
pub record IsFound (me : Me) (m : Memo) (b i t : ℕ) : Type 0 where
  pub some : t ≢ 0
  pub inside : IsInside me t
  pub room : t + 2 ≤ total_of me.geometry
  pub counted : Contains m.dying t → ⊥
  pub word : Knows m (Body b i) t
  pub era : own_word m.own (Era me.who me.who) < 2 ^ 47
  pub part : part_set m.known me.who (shown m (Home me.who)) (Body b i) 0 m.part ≡ m.part

-- What a step down that is done leaves, where its slot is word i of a zero-count block d and names t: t joins the zero-count blocks where its count came to 0; what was known of the others stays known, but that the word is 0 now. The looks are over, and what is known of head slots and of other blocks that are named stays
pub record Lowered (c d i t : ℕ) (z : Bool) (m r : Memo) : Type 0 where
  pub stays : TearStays c m r
  pub dying : r.dying ≡ m.dying ++ (if z then t ∷ [] else [])
  pub known : (b : ℕ) → Contains m.dying b → b ≢ t → (p : Spot) (x : ℕ) → is_of b p ≡ true → p ≢ Body d i → Knows m p x → Knows r p x
  pub cleared : Knows r (Body d i) 0
  pub looks : r.looks ≡ []
  pub slots : filter is_slot_word r.known ≡ filter is_slot_word m.known
  pub words : (b : ℕ) (p : Spot) (x : ℕ) → is_named c m b ≡ true → b ≢ d → (z ≡ true → b ≢ t) → is_of b p ≡ true → Knows m p x → Knows r p x
  pub values : (b : ℕ) → is_named c m b ≡ true → Contains m.values b → Contains r.values b
