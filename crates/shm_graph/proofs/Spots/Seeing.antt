-- the words at the spots of a pool
use Rattle.std.proofs.Common.{◌≡◌, ◌≢◌, ℕ, ◌<◌, List, get_or, sym, ap, ◌∙◌, true, false, refl, inl, inr, subst}
use Rattle.std.proofs.lemmas.Bool.{cases_Bool, cond-true, cond-false, false≢true, true≢false}
use Rattle.shm_words.specs.declared.{geometry.Geometry.Geometry, place.Place.Place}
use Rattle.shm_words.specs.Layout.{GeometryFits, total_of, place_at, is_in}
use Rattle.shm_words.specs.declared.place.Place.TheVariants as place
use Rattle.shm_words.specs.Layout as layout
use Rattle.shm_words.proofs.Placing.{place-address, in_place}
use Rattle.shm_graph.specs.declared.spot.Spot.{Spot, TheVariants.Page}
use Rattle.shm_graph.specs.Spots.{same_spot, spot_of, spot_at, spot_address, IsAt, classes_in, see, is_in_body}
use Rattle.shm_graph.specs.Blocks.{classes}
use Rattle.shm_graph.proofs.Spots.Spotting.{same_spot_self, same_spot_is, same_spot_not, address-spot, spot_is_at, block_in_body, is_below}

-- a spot that is there holds the word at its address, and another holds 0
pub see_there : (g : Geometry) (ws : List ℕ) (p : Spot) → IsAt g (classes_in g ws) p → see g ws p ≡ get_or ws (spot_address g p) 0
unfolding see
see_there g ws p e = cond-true (same_spot (spot_at g (classes_in g ws) (spot_address g p)) p) (get_or ws (spot_address g p) 0) 0 (ap (λ q. same_spot q p) e ∙ same_spot_self p)

pub see_absent : (g : Geometry) (ws : List ℕ) (p : Spot) → (IsAt g (classes_in g ws) p → ⊥) → see g ws p ≡ 0
unfolding see
see_absent g ws p n = cond-false (same_spot (spot_at g (classes_in g ws) (spot_address g p)) p) (get_or ws (spot_address g p) 0) 0 (same_spot_not _ p n)

pub seen_is_at : (g : Geometry) (ws : List ℕ) (p : Spot) → see g ws p ≢ 0 → IsAt g (classes_in g ws) p
seen_is_at g ws p n =
    elim (cases_Bool (same_spot (spot_at g (classes_in g ws) (spot_address g p)) p)) [
      | inl e ↦ same_spot_is _ p e
      | inr e ↦ absurd (n (see_absent g ws p (λ is. absurd (false≢true (sym e ∙ (ap (λ q. same_spot q p) is ∙ same_spot_self p))))))
    ]

-- the word at an address
pub see-spot : (g : Geometry) (ws : List ℕ) (a : ℕ) → a < total_of g → see g ws (spot_at g (classes_in g ws) a) ≡ get_or ws a 0
see-spot g ws a l = see_there g ws (spot_at g (classes_in g ws) a) (spot_is_at g (classes_in g ws) a l) ∙ ap (λ n. get_or ws n 0) (address-spot g (classes_in g ws) a l)

pub see_at : (g : Geometry) (ws : List ℕ) (a : ℕ) (p : Spot) → a < total_of g → spot_at g (classes_in g ws) a ≡ p → see g ws p ≡ get_or ws a 0
see_at g ws a p l e = ap (see g ws) (sym e) ∙ see-spot g ws a l

-- ---- the classes of pages

page_spot : (g : Geometry) (class : ℕ → ℕ → ℕ) (s p : ℕ) → is_in g (place.Page s p) ≡ true → IsAt g class (Page s p)
unfolding spot_at spot_address
page_spot g class s p h = ap (spot_of class _) (place-address g (place.Page s p) h)

page_of_spot : (class : ℕ → ℕ → ℕ) (a s p : ℕ) (q : Place) → spot_of class a q ≡ Page s p → q ≡ place.Page s p
page_of_spot class a s p (place.Body t u i) e = absurd (true≢false (sym (block_in_body (class t u) a i) ∙ ap is_in_body e))
page_of_spot class a s p _ e = cc

-- what a pool's words say of a page is what is seen at it
no_page : (g : Geometry) (class : ℕ → ℕ → ℕ) (s p : ℕ) → GeometryFits g → is_in g (place.Page s p) ≡ false → IsAt g class (Page s p) → ⊥
unfolding spot_at
no_page g class s p f h e =
    let l = is_below g class (spot_address g (Page s p)) (Page s p) e (λ z. cc) in
    let q = page_of_spot class (spot_address g (Page s p)) s p (place_at g (spot_address g (Page s p))) e in
    false≢true (sym h ∙ (ap (is_in g) (sym q) ∙ in_place g (spot_address g (Page s p)) f l))

page_address : (g : Geometry) (s p : ℕ) → spot_address g (Page s p) ≡ layout.address g (place.Page s p)
unfolding spot_address
page_address g s p = refl

pub see_page : (g : Geometry) (ws : List ℕ) → GeometryFits g → (s p : ℕ) → classes (see g ws) s p ≡ classes_in g ws s p
see_page g ws f s p =
    elim (cases_Bool (is_in g (place.Page s p))) [
      | inl h ↦ see_there g ws (Page s p) (page_spot g (classes_in g ws) s p h) ∙ (ap (λ n. get_or ws n 0) (page_address g s p) ∙ sym (cond-true (is_in g (place.Page s p)) (get_or ws (layout.address g (place.Page s p)) 0) 0 h))
      | inr h ↦ see_absent g ws (Page s p) (no_page g (classes_in g ws) s p f h) ∙ sym (cond-false (is_in g (place.Page s p)) (get_or ws (layout.address g (place.Page s p)) 0) 0 h)
    ]

pub classes-see : (g : Geometry) (ws : List ℕ) → GeometryFits g → classes (see g ws) ≡ classes_in g ws
classes-see g ws f = λ i s p. see_page g ws f s p i

-- a word that is not 0 stands in the pool, by the classes that are seen
pub seen_stands : (g : Geometry) (ws : List ℕ) (p : Spot) → GeometryFits g → see g ws p ≢ 0 → IsAt g (classes (see g ws)) p
seen_stands g ws p f n =
    let P : (ℕ → ℕ → ℕ) → Type 0 = λ c. IsAt g c p in
    subst P (sym (classes-see g ws f)) (seen_is_at g ws p n)
