-- a page gets its class: which spots stay and which are new
use Rattle.std.proofs.Common.{◌≡◌, Bool, ◌&&◌, eqb, ℕ, ◌-◌, ◌/◌, ◌%◌, ◌<◌, ◌≤◌, sym, ap, ◌∙◌, true, false, refl, inl, inr, ◌⊎◌, cond, subst}
use Rattle.std.proofs.lemmas.Bool.{cases_lt, cases_Bool, and_parts, eqb-true, true≢false}
use Rattle.shm_words.specs.declared.{geometry.Geometry.Geometry, place.Place.Place}
use Rattle.shm_words.specs.Layout.{total_of, bodies, place_at}
use Rattle.shm_words.specs.declared.place.Place.TheVariants as place
use Rattle.shm_graph.specs.declared.spot.Spot.{Spot, TheVariants.Unused}
use Rattle.shm_graph.specs.{Spots.{spot_of, spot_at, class_at, is_in_body}, Blocks.IsBlock}
use Rattle.shm_graph.proofs.Spots.Spotting.{block_in_body, spot_past, spot_in_bodies, spot_before_bodies, block_within}

abbrev pub is_unused : Spot → Bool
is_unused (Unused a) = true
is_unused _ = false

-- the classes once page q of segment s has class k
abbrev pub class_with : (ℕ → ℕ → ℕ) → ℕ → ℕ → ℕ → ℕ → ℕ → ℕ
class_with class s q k h p = cond (eqb s h && eqb q p) k (class h p)

pub same_page : (class : ℕ → ℕ → ℕ) (s q h p : ℕ) → (eqb s h && eqb q p) ≡ true → class s q ≡ 0 → (class h p ≡ 0) × (h ≡ s) × (p ≡ q)
same_page class s q h p e none =
    let t = and_parts (eqb s h) (eqb q p) e in
    let x : s ≡ h = eqb-true s h t.0 in
    let y : q ≡ p = eqb-true q p t.1 in
    (subst (λ i. class i p ≡ 0) x (subst (λ j. class s j ≡ 0) y none), sym x, sym y)

-- no spot before the bodies depends on the classes
fixed_same : (class other : ℕ → ℕ → ℕ) (a : ℕ) (p : Place) → is_in_body (spot_of class a p) ≡ false → spot_of other a p ≡ spot_of class a p
fixed_same class other a (place.Body s p i) n = absurd (true≢false (sym (block_in_body (class s p) a i) ∙ n))
fixed_same class other a _ n = refl

pub fixed_stays : (g : Geometry) (class other : ℕ → ℕ → ℕ) (a : ℕ) (p : Spot) → spot_at g class a ≡ p → is_in_body p ≡ false → spot_at g other a ≡ p
unfolding spot_at
fixed_stays g class other a p e n = fixed_same class other a (place_at g a) (ap is_in_body e ∙ n) ∙ e

-- a word of the page, or a word whose spot stays
abbrev pub IsOfPage : Geometry → (ℕ → ℕ → ℕ) → ℕ → ℕ → ℕ → Type 0
IsOfPage g class s q a = (spot_at g class a ≡ Unused a) × (bodies g ≤ a) × (a < total_of g) × ((a - bodies g) / 2048 ≡ s) × ((a - bodies g) / 128 % 16 ≡ q)

pub page_spot : (g : Geometry) (class : ℕ → ℕ → ℕ) (s q k a : ℕ) → class s q ≡ 0 → (spot_at g (class_with class s q k) a ≡ spot_at g class a) ⊎ IsOfPage g class s q a
page_spot g class s q k a none =
    elim (cases_lt a (bodies g)) [
      | inl f ↦ inl (fixed_stays g class (class_with class s q k) a (spot_at g class a) refl (spot_before_bodies g class a f))
      | inr b ↦ elim (cases_lt a (total_of g)) [
        | inr o ↦ inl (spot_past g (class_with class s q k) a o ∙ sym (spot_past g class a o))
        | inl l ↦ elim (cases_Bool (eqb s ((a - bodies g) / 2048) && eqb q ((a - bodies g) / 128 % 16))) [
          | inr m ↦ inl (spot_in_bodies g (class_with class s q k) a b l ∙ (rw m (sym (spot_in_bodies g class a b l))))
          | inl e ↦ (let t = same_page class s q ((a - bodies g) / 2048) ((a - bodies g) / 128 % 16) e none in
              inr (spot_in_bodies g class a b l ∙ rw t.0 refl, b, l, t.1, t.2))
        ]
      ]
    ]

-- what is there stays there
pub stays_at : (g : Geometry) (class : ℕ → ℕ → ℕ) (s q k a : ℕ) (p : Spot) → class s q ≡ 0 → is_unused p ≡ false → spot_at g class a ≡ p → spot_at g (class_with class s q k) a ≡ p
stays_at g class s q k a p none used e =
    elim (page_spot g class s q k a none) [
      | inl h ↦ h ∙ e
      | inr h ↦ (let x : Unused a ≡ p = sym h.0 ∙ e in absurd (true≢false (ap is_unused x ∙ used)))
    ]

-- a block of the page was none
pub page_of_block : (g : Geometry) (class : ℕ → ℕ → ℕ) (s q k b : ℕ) → class s q ≡ 0 → IsBlock g class b → class_at g (class_with class s q k) b ≡ class_at g class b
page_of_block g class s q k b none is =
    elim (cases_Bool (eqb s ((b - bodies g) / 2048) && eqb q ((b - bodies g) / 128 % 16))) [
      | inr m ↦ rw m refl
      | inl e ↦ absurd ((block_within g class b is).2 (same_page class s q ((b - bodies g) / 2048) ((b - bodies g) / 128 % 16) e none).0)
    ]
