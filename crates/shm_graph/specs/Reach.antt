-- what a memo shows of reach: which blocks its identity names, and what stays of looks and of known words
use Rattle.std.specs.Prelude.{ℕ, zero, suc, Bool, true, false, not, ◌&&◌, ◌||◌, ◌==◌, nat_le, if◌then◌else◌, eqb, List, [], ◌∷◌, ◌++◌, map, Option, Some, None}
use Rattle.std.specs.List.{filter, list_any}
use Rattle.shm_words.specs.Tags.{tag_refs, tag_author}
use Rattle.shm_graph.specs.declared.{spot.Spot.{Spot, TheVariants.{Home, Root, Slot, Tag, Body}}, memo.Stored.Stored}
use Rattle.shm_graph.specs.{declared.memo.{Look.Look, Memo.Memo}, Spots.same_spot, Ops.{cover_of, cover}}
use Rattle.shm_graph.specs.Views.{own_word}

-- ---- lists of words

abbrev pub is_at : Spot → Stored → Bool
is_at p s = same_spot p s.spot

abbrev pub not_at : Spot → Stored → Bool
not_at p s = not (is_at p s)

-- the words with the one at a spot read or stored anew
abbrev pub learnt : Spot → ℕ → List Stored → List Stored
learnt p x known = record { spot = p; value = x } ∷ filter (not_at p) known

-- what is known of a word, or none
abbrev pub known_at : Spot → List Stored → Option ℕ
known_at p [] = None
known_at p (s ∷ ss) = if is_at p s then Some s.value else known_at p ss

-- ---- what is named

-- what an own reference word names, a block or 0
abbrev pub shown : Memo → Spot → ℕ
shown m p = cover (cover_of m.op) p (own_word m.own p)

abbrev pub roots_below : ℕ → Memo → ℕ → List ℕ
roots_below c m zero = []
roots_below c m (suc k) = shown m (Root c k) ∷ roots_below c m k

-- the block of a known head slot
abbrev pub in_slot : Spot → ℕ → List ℕ
in_slot (Slot s r k) x = x ∷ []
in_slot p x = []

abbrev pub in_slots : List Stored → List ℕ
in_slots [] = []
in_slots (s ∷ ss) = in_slot s.spot s.value ++ in_slots ss

abbrev pub not_zero : ℕ → Bool
not_zero b = not (b == 0)

-- the blocks that the own roots, the own home and known head slots name
abbrev pub named_blocks : ℕ → Memo → List ℕ
named_blocks c m = filter not_zero (roots_below c m 16 ++ shown m (Home c) ∷ in_slots m.known)

-- the blocks in reach: those and the blocks of the looks
abbrev pub reached_blocks : ℕ → Memo → List ℕ
reached_blocks c m = named_blocks c m ++ map (λ (k : Look). k.block) m.looks

abbrev pub is_named : ℕ → Memo → ℕ → Bool
is_named c m b = list_any (eqb b) (named_blocks c m)

abbrev pub is_reached : ℕ → Memo → ℕ → Bool
is_reached c m b = list_any (eqb b) (reached_blocks c m)

abbrev pub is_dying : Memo → ℕ → Bool
is_dying m b = list_any (eqb b) m.dying

-- ---- what binds still

-- a word of a block binds while the block is in reach or is a zero-count block of the identity
abbrev pub binds : ℕ → Memo → Spot → Bool
binds c m (Tag b) = is_reached c m b || is_dying m b
binds c m (Body b i) = is_reached c m b || is_dying m b
binds c m p = true

-- the memo without the words and the value blocks that bind no more
abbrev pub sifted : ℕ → Memo → Memo
sifted c m = record m { known = filter (λ s. binds c m s.spot) m.known; values = filter (is_reached c m) m.values }

-- Without its author's latch a word of a block binds where it is a plain word or the block is the identity's own: by its tag, or because it is a value block
abbrev pub is_free_of_latch : Bool → ℕ → Memo → ℕ → ℕ → Option ℕ → Bool
is_free_of_latch wide c m b i None = list_any (eqb b) m.values
is_free_of_latch wide c m b i (Some t) = nat_le (tag_refs wide t) i || (tag_author wide t == c)

abbrev pub is_latch_of : ℕ → Option ℕ → Bool
is_latch_of a None = false
is_latch_of a (Some b) = b == a

-- where the latch that is given back was the identity's own, words of other authors' blocks that are known are plain
abbrev pub binds_unlatched : Bool → Bool → ℕ → Memo → Spot → Bool
binds_unlatched wide own c m (Body b i) = is_dying m b || (is_reached c m b && (own || is_free_of_latch wide c m b i (known_at (Tag b) m.known)))
binds_unlatched wide own c m p = binds c m p

-- a latch is given back: the looks are over
abbrev pub unlatched : Bool → ℕ → Memo → Memo
unlatched wide c m =
    let n : Memo = record m { latch = None; looks = [] } in
    record n { known = filter (λ s. binds_unlatched wide (is_latch_of c m.latch) c n s.spot) m.known; values = filter (is_reached c n) m.values }

-- ---- what stays of the looks

abbrev pub is_look_of : ℕ → Look → Bool
is_look_of b k = k.block == b

-- the looks up to the first one of this block
abbrev pub upto : ℕ → List Look → List Look
upto b [] = []
upto b (k ∷ ks) = k ∷ (if is_look_of b k then [] else upto b ks)

-- whether a look was read from this word
abbrev pub is_look_from : Spot → Look → Bool
is_look_from p k = same_spot p k.from

-- a down or a change is committed: where its slot is a reference word of a block that only the looks name, those up to that block stay, unless one of them was read from the slot
abbrev pub cut_looks : ℕ → Memo → Spot → List Look
cut_looks c m (Body b i) =
    if not (is_named c m b) && (list_any (is_look_of b) m.looks && not (list_any (is_look_from (Body b i)) (upto b m.looks))) then upto b m.looks
    else []
cut_looks c m p = []
