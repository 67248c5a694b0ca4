-- what the words of a pool say at an address: headers, tags, references, pages
use Rattle.std.proofs.Common.{◌≡◌, ℕ, ◌+◌, ◌<◌, ◌≤◌, List, get_or, sym, ap, ◌∙◌, ltb, true, false, refl, inl, inr, arith}
use Rattle.std.proofs.lemmas.Bool.{cond-true, cond-false, lt-ltb, le-ltb, cases_lt, Decides.nat_tests}
use Rattle.std.specs.Prelude.{Option, Some, None}
use Rattle.shm_words.specs.declared.{geometry.Geometry.Geometry, place.Place.Place}
use Rattle.shm_words.specs.{Layout.{total_of, address, is_in, place_at}, Headers.header_of, Tags.tag_refs}
use Rattle.shm_words.specs.declared.place.Place.TheVariants as place
use Rattle.shm_graph.specs.declared.spot.Spot.{Spot, TheVariants.{Home, Root, Slot, Head, Tag, Body}}
use Rattle.shm_graph.specs.{Spots.{spot_at, spot_address, classes_in, see}, Blocks.IsBlock}
use Rattle.shm_graph.specs.References.{Words, reference, references, words_of}
use Rattle.shm_graph.proofs.Spots.{Spotting.{head_at, is_below, body_block, block_within}, Seeing.{see_at, see_absent}}

-- a block's header
pub head_word : (g : Geometry) (ws : List ℕ) (a b : ℕ) → spot_at g (classes_in g ws) a ≡ Head b → see g ws (Head a) ≡ get_or ws b 0
head_word g ws a b e =
    let h = head_at g (classes_in g ws) a b e in
    let l = is_below g (classes_in g ws) a (Head b) e (λ z. cc) in
    ap (λ n. see g ws (Head n)) h ∙ (see_at g ws a (Head b) l e ∙ ap (λ n. get_or ws n 0) h)

-- where no block begins there is no header word
pub no_head : (g : Geometry) (ws : List ℕ) (a : ℕ) → ((b : ℕ) → spot_at g (classes_in g ws) a ≡ Head b → ⊥) → see g ws (Head a) ≡ 0
unfolding spot_address
no_head g ws a n = see_absent g ws (Head a) (n a)

-- the header and the tag of a block
pub block_header : (g : Geometry) (ws : List ℕ) (b : ℕ) → IsBlock g (classes_in g ws) b → see g ws (Head b) ≡ get_or ws b 0
block_header g ws b is = see_at g ws b (Head b) (block_within g (classes_in g ws) b is).1 is

pub block_tag : (g : Geometry) (ws : List ℕ) (b : ℕ) → spot_at g (classes_in g ws) (b + 1) ≡ Tag b → see g ws (Tag b) ≡ get_or ws (b + 1) 0
block_tag g ws b t = see_at g ws (b + 1) (Tag b) (is_below g (classes_in g ws) (b + 1) (Tag b) t (λ z. cc)) t

-- a block that isn't live has no references
pub refs_dead : (g : Geometry) (ws : List ℕ) (b : ℕ) → IsBlock g (classes_in g ws) b → (header_of (get_or ws b 0)).live ≡ false → (words_of g.wide (see g ws)).refs b ≡ 0
refs_dead g ws b is dead = cond-false (header_of (see g ws (Head b))).live (tag_refs g.wide (see g ws (Tag b))) 0 (ap (λ w. (header_of w).live) (block_header g ws b is) ∙ dead)

-- the reference words
pub body_reference : (g : Geometry) (ws : List ℕ) (a b i n : ℕ) → spot_at g (classes_in g ws) a ≡ Body b i → (words_of g.wide (see g ws)).refs b ≡ n → i < n → references g.wide (see g ws) (Body b i) ≡ get_or ws a 0
body_reference g ws a b i n e r l =
    let below = (body_block g (classes_in g ws) a b i e).3 in
    cond-true (ltb i ((words_of g.wide (see g ws)).refs b)) (see g ws (Body b i)) 0 (ap (ltb i) r ∙ lt-ltb i n l) ∙ see_at g ws a (Body b i) below e

pub body_plain : (g : Geometry) (ws : List ℕ) (b i n : ℕ) → (words_of g.wide (see g ws)).refs b ≡ n → n ≤ i → references g.wide (see g ws) (Body b i) ≡ 0
body_plain g ws b i n r l = cond-false (ltb i ((words_of g.wide (see g ws)).refs b)) (see g ws (Body b i)) 0 (ap (ltb i) r ∙ le-ltb i n l)

pub other_reference : (x : Words) (p : Spot) → ((c : ℕ) → p ≡ Home c → ⊥) → ((c k : ℕ) → p ≡ Root c k → ⊥) → ((s r k : ℕ) → p ≡ Slot s r k → ⊥) → ((b i : ℕ) → p ≡ Body b i → ⊥) → reference x p ≡ 0
other_reference x (Home c) h r s b = absurd (h c refl)
other_reference x (Root c k) h r s b = absurd (r c k refl)
other_reference x (Slot t u k) h r s b = absurd (s t u k refl)
other_reference x (Body d i) h r s b = absurd (b d i refl)
other_reference x _ h r s b = refl

-- ---- places

pub body_in : (g : Geometry) (s p k : ℕ) → is_in g (place.Body s p k) ≡ true → (s < g.segments) × (p < 16) × (k < 128)
body_in g s p k h = grind (arith, nat_tests)

pub page_in : (g : Geometry) (s p : ℕ) → s < g.segments → p < 16 → is_in g (place.Page s p) ≡ true
page_in g s p l m = grind (arith, nat_tests)

pub body_after : (g : Geometry) (s p k a : ℕ) → address g (place.Body s p k) ≡ a → k ≤ a
unfolding address
body_after g s p k a e = omega arith

pub page_class : (g : Geometry) (ws : List ℕ) (s p : ℕ) → s < g.segments → p < 16 → classes_in g ws s p ≡ get_or ws (address g (place.Page s p)) 0
page_class g ws s p l m = cond-true (is_in g (place.Page s p)) (get_or ws (address g (place.Page s p)) 0) 0 (page_in g s p l m)

-- what `place` says of an address
pub place_inside : (g : Geometry) (a : ℕ) (r : Option Place) (p : Place) → (a < total_of g → r ≡ Some (place_at g a)) → (total_of g ≤ a → r ≡ None) → r ≡ Some p → (a < total_of g) × (p ≡ place_at g a)
place_inside g a r p inside outside e =
    elim (cases_lt a (total_of g)) [
      | inl l ↦ (l, let x : Some p ≡ Some (place_at g a) = sym e ∙ inside l in cc)
      | inr h ↦ (let x : Some p ≡ None = sym e ∙ outside h in cc)
    ]

pub place_outside : (g : Geometry) (a : ℕ) (r : Option Place) → (a < total_of g → r ≡ Some (place_at g a)) → r ≡ None → total_of g ≤ a
place_outside g a r inside e =
    elim (cases_lt a (total_of g)) [
      | inl l ↦ (let x : None ≡ Some (place_at g a) = sym e ∙ inside l in cc)
      | inr h ↦ h
    ]
