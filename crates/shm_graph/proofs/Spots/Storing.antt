-- a store to the list of words is one at a spot
use Rattle.std.proofs.Common.{◌≡◌, ◌≢◌, ℕ, ◌<◌, List, length, get_or, sym, ap, ◌∙◌, true, false, Bool, cond, inl, inr, arith}
use Rattle.std.proofs.{Math.{ListN.set, Path.fun_ext}, lemmas.List.{get_or-set_same, get_or-set_other}}
use Rattle.std.proofs.lemmas.Bool.{cases_Bool, cond-true, cond-false, true≢false, false≢true}
use Rattle.shm_words.specs.{declared.geometry.Geometry.Geometry, Layout.{total_of, place_at, is_in}}
use Rattle.shm_words.specs.declared.place.Place.TheVariants as place
use Rattle.shm_words.specs.Layout as layout
use Rattle.shm_words.proofs.Placing.{place-address}
use Rattle.shm_graph.specs.declared.spot.Spot.{Spot, TheVariants.Page}
use Rattle.shm_graph.specs.Spots.{same_spot, spot_of, spot_at, spot_address, upd, classes_in, see}
use Rattle.shm_graph.proofs.Spots.Spotting.{same_spot_self, same_spot_is, address-spot, spot_is_at}

-- the word at a spot by classes that need not be those of the list
abbrev pub see_by : Geometry → (ℕ → ℕ → ℕ) → List ℕ → Spot → ℕ
see_by g class ws p = cond (same_spot (spot_at g class (spot_address g p)) p) (get_or ws (spot_address g p) 0) 0

see_by-spot : (g : Geometry) (class : ℕ → ℕ → ℕ) (ws : List ℕ) (a : ℕ) → a < total_of g → see_by g class ws (spot_at g class a) ≡ get_or ws a 0
see_by-spot g class ws a l = cond-true _ _ _ (ap (λ q. same_spot q (spot_at g class a)) (spot_is_at g class a l) ∙ same_spot_self (spot_at g class a)) ∙ ap (λ n. get_or ws n 0) (address-spot g class a l)

-- another spot that is there has another address
see_by_other : (g : Geometry) (class : ℕ → ℕ → ℕ) (ws : List ℕ) (a x : ℕ) (p : Spot) → same_spot (spot_at g class a) p ≡ false → see_by g class (set ws a x) p ≡ see_by g class ws p
see_by_other g class ws a x p n =
    elim (cases_Bool (same_spot (spot_at g class (spot_address g p)) p)) [
      | inr e ↦ cond-false _ _ _ e ∙ sym (cond-false _ _ _ e)
      | inl e ↦ rw e (get_or-set_other ws a (spot_address g p) x 0 (λ z. false≢true (sym n ∙ (ap (λ b. same_spot (spot_at g class b) p) (sym z) ∙ e))))
    ]

pub see_by-set : (g : Geometry) (class : ℕ → ℕ → ℕ) (ws : List ℕ) (a x : ℕ) (p : Spot) → length ws ≡ total_of g → a < total_of g → see_by g class (set ws a x) p ≡ upd (see_by g class ws) (spot_at g class a) x p
see_by-set g class ws a x p all l =
    elim (cases_Bool (same_spot (spot_at g class a) p)) [
      | inl e ↦ ap (see_by g class (set ws a x)) (sym (same_spot_is (spot_at g class a) p e)) ∙ (see_by-spot g class (set ws a x) a l ∙ (get_or-set_same ws a x 0 (omega arith) ∙ sym (cond-true _ _ _ e)))
      | inr e ↦ see_by_other g class ws a x p e ∙ sym (cond-false _ _ _ e)
    ]

-- ---- a store that is to no page's class

abbrev pub is_page : Spot → Bool
is_page (Page s p) = true
is_page _ = false

no_page_of : (g : Geometry) (class : ℕ → ℕ → ℕ) (a : ℕ) (p : Spot) (s q : ℕ) → spot_at g class a ≡ p → is_page p ≡ false → is_in g (place.Page s q) ≡ true → layout.address g (place.Page s q) ≢ a
unfolding spot_at
no_page_of g class a p s q e n h z =
    let o : place_at g a ≡ place.Page s q = ap (place_at g) (sym z) ∙ place-address g (place.Page s q) h in
    let t : Page s q ≡ p = sym (ap (spot_of class a) o) ∙ e in
    true≢false (ap is_page t ∙ n)

classes_set_at : (g : Geometry) (ws : List ℕ) (a x : ℕ) (p : Spot) (s q : ℕ) → spot_at g (classes_in g ws) a ≡ p → is_page p ≡ false → classes_in g (set ws a x) s q ≡ classes_in g ws s q
classes_set_at g ws a x p s q e n =
    elim (cases_Bool (is_in g (place.Page s q))) [
      | inr h ↦ cond-false _ _ _ h ∙ sym (cond-false _ _ _ h)
      | inl h ↦ cond-true _ _ _ h ∙ (get_or-set_other ws a (layout.address g (place.Page s q)) x 0 (no_page_of g (classes_in g ws) a p s q e n h) ∙ sym (cond-true _ _ _ h))
    ]

-- the classes stay
pub classes_in-set : (g : Geometry) (ws : List ℕ) (a x : ℕ) (p : Spot) → spot_at g (classes_in g ws) a ≡ p → is_page p ≡ false → classes_in g (set ws a x) ≡ classes_in g ws
classes_in-set g ws a x p e n = λ i s q. classes_set_at g ws a x p s q e n i

see_set_at : (g : Geometry) (ws : List ℕ) (a x : ℕ) (p q : Spot) → length ws ≡ total_of g → a < total_of g → spot_at g (classes_in g ws) a ≡ p → is_page p ≡ false → see g (set ws a x) q ≡ upd (see g ws) p x q
unfolding see
see_set_at g ws a x p q all l e n =
    ap (λ c. see_by g c (set ws a x) q) (classes_in-set g ws a x p e n) ∙ (see_by-set g (classes_in g ws) ws a x q all l ∙ ap (λ r. upd (see_by g (classes_in g ws) ws) r x q) e)

-- what is seen after the store
pub see-set : (g : Geometry) (ws : List ℕ) (a x : ℕ) (p : Spot) → length ws ≡ total_of g → a < total_of g → spot_at g (classes_in g ws) a ≡ p → is_page p ≡ false → see g (set ws a x) ≡ upd (see g ws) p x
see-set g ws a x p all l e n = fun_ext (λ q. see_set_at g ws a x p q all l e n)
