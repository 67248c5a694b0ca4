-- reference words, and how many of them name a block
use Rattle.std.specs.Prelude.{ℕ, zero, suc, ◌+◌, Bool, true, false, ◌==◌, nat_lt, if◌then◌else◌}
use Rattle.shm_words.specs.{declared.geometry.Geometry.Geometry, Headers.header_of, Tags.tag_refs, Layout.total_of}
use Rattle.shm_graph.specs.{declared.spot.Spot.{Spot, TheVariants.{Home, Root, Slot, Head, Tag, Body}}, Spots.spot_at}

-- f 0 + f 1 + .. + f (n - 1)
abbrev pub sum_below : ℕ → (ℕ → ℕ) → ℕ
sum_below zero f = 0
sum_below (suc n) f = sum_below n f + f n

abbrev pub one_if : Bool → ℕ
one_if true = 1
one_if false = 0

-- the words that may be reference words, and how many of a block's words are: the first words after the tag of a live block
pub record Words : Type 0 where
  pub home : ℕ → ℕ
  pub root : ℕ → ℕ → ℕ
  pub slot : ℕ → ℕ → ℕ → ℕ
  pub body : ℕ → ℕ → ℕ
  pub refs : ℕ → ℕ

-- how many reference words a block with this tag has
abbrev pub refs_of : Bool → Bool → ℕ → ℕ
refs_of wide live t = if live then tag_refs wide t else 0

abbrev pub words_of : Bool → (Spot → ℕ) → Words
words_of wide w =
    record {
      home = λ c. w (Home c);
      root = λ c k. w (Root c k);
      slot = λ s r k. w (Slot s r k);
      body = λ b i. w (Body b i);
      refs = λ b. refs_of wide (header_of (w (Head b))).live (w (Tag b));
    }

-- what a reference word names, a block or 0; another word names nothing
abbrev pub reference : Words → Spot → ℕ
reference x (Home c) = x.home c
reference x (Root c k) = x.root c k
reference x (Slot s r k) = x.slot s r k
reference x (Body b i) = if nat_lt i (x.refs b) then x.body b i else 0
reference x _ = 0

abbrev pub references : Bool → (Spot → ℕ) → Spot → ℕ
references wide w = reference (words_of wide w)

-- the number of references to a block: how many words of the pool have it as their target
unfoldable pub references_to : Geometry → (ℕ → ℕ → ℕ) → (Spot → ℕ) → ℕ → ℕ
references_to g class t b = sum_below (total_of g) (λ a. one_if (t (spot_at g class a) == b))

-- how many words of the pool name a block
unfoldable pub references_in_all : Geometry → (ℕ → ℕ → ℕ) → (Spot → ℕ) → ℕ
references_in_all g class t = sum_below (total_of g) (λ a. if t (spot_at g class a) == 0 then 0 else 1)

-- how many blocks are live
unfoldable pub live_count : Geometry → (Spot → ℕ) → ℕ
live_count g w = sum_below (total_of g) (λ b. one_if (header_of (w (Head b))).live)

-- how many homes are set
unfoldable pub homes_in_all : Geometry → (Spot → ℕ) → ℕ
homes_in_all g w = sum_below g.clients (λ c. if w (Home c) == 0 then 0 else 1)
