-- the store of a page's class: the spots of its blocks are there from then on
use Rattle.std.proofs.Common.{◌≡◌, ◌≢◌, Bool, ◌&&◌, eqb, ℕ, ◌<◌, List, length, get_or, sym, ap, ◌∙◌, true, false, refl, inl, inr, cond, arith}
use Rattle.std.proofs.{Math.{ListN.set, Path.fun_ext}, lemmas.List.{get_or-set_same, get_or-set_other}}
use Rattle.std.proofs.lemmas.Bool.{cases_Bool, cond-true, cond-false, false≢true, and_from, eq-eqb, and_parts, eqb-true}
use Rattle.shm_words.specs.declared.geometry.Geometry.{Geometry}
use Rattle.shm_words.specs.Layout.{GeometryFits, total_of, bodies, place_at, is_in}
use Rattle.shm_words.specs.declared.place.Place.TheVariants as place
use Rattle.shm_words.specs.Layout as layout
use Rattle.shm_words.proofs.Placing.{place-address, address-place, in_place}
use Rattle.shm_graph.specs.declared.spot.Spot.{Spot, TheVariants.{Page, Unused}}
use Rattle.shm_graph.specs.Spots.{same_spot, spot_at, spot_address, upd, classes_in, see}
use Rattle.shm_graph.proofs.Spots.{Fixed.fixed_place, Seeing.{see_at, see_page}}
use Rattle.shm_graph.proofs.Spots.PageSpots.{IsOfPage, class_with, page_spot, fixed_stays}
use Rattle.shm_graph.proofs.Spots.Storing.{see_by, see_by-set, is_page, see-set}

-- ---- the classes after it

class_stored : (g : Geometry) (ws : List ℕ) (a k s q : ℕ) → length ws ≡ total_of g → a < total_of g → place_at g a ≡ place.Page s q → is_in g (place.Page s q) ≡ true → classes_in g (set ws a k) s q ≡ k
class_stored g ws a k s q all l e h =
    let z : layout.address g (place.Page s q) ≡ a = ap (layout.address g) (sym e) ∙ address-place g a l in
    cond-true _ _ _ h ∙ (ap (λ n. get_or (set ws a k) n 0) z ∙ get_or-set_same ws a k 0 (omega arith))

other_page : (g : Geometry) (a s q h p : ℕ) → place_at g a ≡ place.Page s q → (eqb s h && eqb q p) ≡ false → is_in g (place.Page h p) ≡ true → layout.address g (place.Page h p) ≢ a
other_page g a s q h p e n i z =
    let o : place.Page s q ≡ place.Page h p = sym e ∙ (ap (place_at g) (sym z) ∙ place-address g (place.Page h p) i) in
    let x : s ≡ h = cc in
    let y : q ≡ p = cc in
    false≢true (sym n ∙ and_from _ _ (eq-eqb s h x) (eq-eqb q p y))

class_kept : (g : Geometry) (ws : List ℕ) (a k s q h p : ℕ) → place_at g a ≡ place.Page s q → (eqb s h && eqb q p) ≡ false → classes_in g (set ws a k) h p ≡ classes_in g ws h p
class_kept g ws a k s q h p e n =
    elim (cases_Bool (is_in g (place.Page h p))) [
      | inr i ↦ cond-false _ _ _ i ∙ sym (cond-false _ _ _ i)
      | inl i ↦ cond-true _ _ _ i ∙ (get_or-set_other ws a (layout.address g (place.Page h p)) k 0 (other_page g a s q h p e n i) ∙ sym (cond-true _ _ _ i))
    ]

class_set_at : (g : Geometry) (ws : List ℕ) (a k s q h p : ℕ) → GeometryFits g → length ws ≡ total_of g → a < total_of g → place_at g a ≡ place.Page s q → classes_in g (set ws a k) h p ≡ class_with (classes_in g ws) s q k h p
class_set_at g ws a k s q h p f all l e =
    elim (cases_Bool (eqb s h && eqb q p)) [
      | inr n ↦ class_kept g ws a k s q h p e n ∙ sym (cond-false _ _ _ n)
      | inl t ↦ (let u = and_parts (eqb s h) (eqb q p) t in
          let x : s ≡ h = eqb-true s h u.0 in
          let y : q ≡ p = eqb-true q p u.1 in
          let o : place_at g a ≡ place.Page h p = e ∙ (ap (λ i. place.Page i q) x ∙ ap (place.Page h) y) in
          class_stored g ws a k h p all l o (ap (is_in g) (sym o) ∙ in_place g a f l) ∙ sym (cond-true _ _ _ t))
    ]

pub classes_in-set_class : (g : Geometry) (ws : List ℕ) (a k s q : ℕ) → GeometryFits g → length ws ≡ total_of g → a < total_of g → spot_at g (classes_in g ws) a ≡ Page s q → classes_in g (set ws a k) ≡ class_with (classes_in g ws) s q k
classes_in-set_class g ws a k s q f all l e = λ i h p. class_set_at g ws a k s q h p f all l (fixed_place g (classes_in g ws) a (Page s q) e refl) i

-- ---- what is seen after it

zero_either : (b d : Bool) (x : ℕ) → x ≡ 0 → cond b x 0 ≡ cond d x 0
zero_either true true x z = refl
zero_either true false x z = z
zero_either false true x z = sym z
zero_either false false x z = refl

-- the words of a page without a class are 0
abbrev pub IsEmptyPage : Geometry → List ℕ → ℕ → ℕ → Type 0
IsEmptyPage g ws s q = (b : ℕ) → IsOfPage g (classes_in g ws) s q b → get_or ws b 0 ≡ 0

see_by_class : (g : Geometry) (ws : List ℕ) (k s q : ℕ) (p : Spot) → classes_in g ws s q ≡ 0 → IsEmptyPage g ws s q → see_by g (class_with (classes_in g ws) s q k) ws p ≡ see_by g (classes_in g ws) ws p
see_by_class g ws k s q p none zeros =
    elim (page_spot g (classes_in g ws) s q k (spot_address g p) none) [
      | inl e ↦ ap (λ r. cond (same_spot r p) (get_or ws (spot_address g p) 0) 0) e
      | inr h ↦ zero_either _ _ (get_or ws (spot_address g p) 0) (zeros (spot_address g p) h)
    ]

see_class_at : (g : Geometry) (ws : List ℕ) (a k s q : ℕ) (p : Spot) → GeometryFits g → length ws ≡ total_of g → a < total_of g → spot_at g (classes_in g ws) a ≡ Page s q → classes_in g ws s q ≡ 0 → IsEmptyPage g ws s q → see g (set ws a k) p ≡ upd (see g ws) (Page s q) k p
unfolding see
see_class_at g ws a k s q p f all l e none zeros =
    let class = class_with (classes_in g ws) s q k in
    ap (λ c. see_by g c (set ws a k) p) (classes_in-set_class g ws a k s q f all l e)
    ∙ (see_by-set g class ws a k p all l
    ∙ (ap (λ r. upd (see_by g class ws) r k p) (fixed_stays g (classes_in g ws) class a (Page s q) e refl)
    ∙ ap (λ x. cond (same_spot (Page s q) p) k x) (see_by_class g ws k s q p none zeros)))

see_class_set : (g : Geometry) (ws : List ℕ) (a k s q : ℕ) → GeometryFits g → length ws ≡ total_of g → a < total_of g → spot_at g (classes_in g ws) a ≡ Page s q → classes_in g ws s q ≡ 0 → IsEmptyPage g ws s q → see g (set ws a k) ≡ upd (see g ws) (Page s q) k
see_class_set g ws a k s q f all l e none zeros = fun_ext (λ p. see_class_at g ws a k s q p f all l e none zeros)

-- where each word in a page without a class is seen as 0
pub see-set_class : (g : Geometry) (ws : List ℕ) (a k s q : ℕ) → GeometryFits g → length ws ≡ total_of g → a < total_of g → spot_at g (classes_in g ws) a ≡ Page s q → see g ws (Page s q) ≡ 0 → ((b : ℕ) → see g ws (Unused b) ≡ 0) → see g (set ws a k) ≡ upd (see g ws) (Page s q) k
see-set_class g ws a k s q f all l e none zeros = see_class_set g ws a k s q f all l e (sym (see_page g ws f s q) ∙ none) (λ b h. sym (see_at g ws b (Unused b) h.2 h.0) ∙ zeros b)

-- ---- a store at any spot

-- a page gets a class once, and each word in a page without a class is seen as 0
pub see-set_any : (g : Geometry) (ws : List ℕ) (a x : ℕ) (p : Spot) → GeometryFits g → length ws ≡ total_of g → a < total_of g → spot_at g (classes_in g ws) a ≡ p → (is_page p ≡ true → see g ws p ≡ 0) → ((b : ℕ) → see g ws (Unused b) ≡ 0) → see g (set ws a x) ≡ upd (see g ws) p x
see-set_any g ws a x (Page s q) f all l e once zeros = see-set_class g ws a x s q f all l e (once refl) zeros
see-set_any g ws a x p f all l e once zeros = see-set g ws a x p all l e refl
