-- what is seen in the first words of a pool
use Rattle.std.proofs.Common.{◌≡◌, ℕ, ◌<◌, List, get_or, sym, ap, ◌∙◌, true, false, Bool, ◌&&◌, cond, eqb, ltb, refl, inl, inr, ◌⊎◌}
use Rattle.std.proofs.Math.Path.{fun_ext}
use Rattle.std.proofs.lemmas.Bool.{cases_Bool, cases_eq, cond-true, and_parts, and_from, eqb-true, false≢true}
use Rattle.std.specs.Prelude.{◌==◌, nat_lt, if◌then◌else◌}
use Rattle.shm_words.specs.declared.{geometry.Geometry.Geometry, place.Place.Place}
use Rattle.shm_words.specs.Layout.{GeometryFits, total_of, place_at}
use Rattle.shm_words.specs.declared.place.Place.TheVariants as place
use Rattle.shm_graph.specs.declared.spot.Spot.{Spot}
use Rattle.shm_graph.specs.declared.spot.Spot.TheVariants.{Spare, Status, Redo, RedoMore, Hold, Latch, Home, Era, Root, Tail, QueueHead, Slot, Segment, Page, Unused, Head, Tag, Body}
use Rattle.shm_graph.specs.{Runs.first_word, Spots.{spot_of, spot_at, spot_address, IsAt, classes_in, see, is_in_body}}
use Rattle.shm_graph.proofs.Spots.{Spotting.at_below, Fixed.{place_of, fixed_place, fixed_is_at, fixed_in}}
use Rattle.shm_graph.proofs.Spots.Seeing.{see_there, see_absent, seen_is_at}

-- the first words by spot: all are 0, but the own eras
abbrev pub first_words : Geometry → ℕ → Spot → ℕ
first_words g era (Era i j) = if (i == j) && nat_lt i g.clients then era else 0
first_words g era _ = 0

abbrev pub IsFirst : Geometry → ℕ → List ℕ → Type 0
IsFirst g era ws = (a : ℕ) → a < total_of g → get_or ws a 0 ≡ first_word era (place_at g a)

see_zero : (g : Geometry) (ws : List ℕ) (p : Spot) → (IsAt g (classes_in g ws) p → see g ws p ≡ 0) → see g ws p ≡ 0
see_zero g ws p h = elim (cases_eq (see g ws p) 0) [ inl z ↦ z | inr n ↦ h (seen_is_at g ws p n) ]

-- ---- a spot of a body

body_zero : (class : ℕ → ℕ → ℕ) (a era : ℕ) (q : Place) → is_in_body (spot_of class a q) ≡ true → first_word era q ≡ 0
body_zero class a era (place.Era i j) e = absurd (false≢true e)
body_zero class a era _ e = refl

body_first : (g : Geometry) (class : ℕ → ℕ → ℕ) (a era : ℕ) → is_in_body (spot_at g class a) ≡ true → first_word era (place_at g a) ≡ 0
unfolding spot_at
body_first g class a era e = body_zero class a era (place_at g a) e

see_body : (g : Geometry) (ws : List ℕ) (era : ℕ) (p : Spot) → IsFirst g era ws → is_in_body p ≡ true → see g ws p ≡ 0
see_body g ws era p h b = see_zero g ws p (λ at. see_there g ws p at ∙ (h (spot_address g p) (at_below g _ p at) ∙ body_first g (classes_in g ws) (spot_address g p) era (ap is_in_body at ∙ b)))

-- ---- another spot

see_fixed : (g : Geometry) (ws : List ℕ) (era : ℕ) (p : Spot) → IsFirst g era ws → is_in_body p ≡ false → IsAt g (classes_in g ws) p → see g ws p ≡ first_word era (place_of p)
see_fixed g ws era p h b at = see_there g ws p at ∙ (h (spot_address g p) (at_below g _ p at) ∙ ap (first_word era) (fixed_place g (classes_in g ws) (spot_address g p) p at b))

see_plain : (g : Geometry) (ws : List ℕ) (era : ℕ) (p : Spot) → IsFirst g era ws → is_in_body p ≡ false → first_word era (place_of p) ≡ 0 → see g ws p ≡ 0
see_plain g ws era p h b z = see_zero g ws p (λ at. see_fixed g ws era p h b at ∙ z)

see_era : (g : Geometry) (ws : List ℕ) (era i j : ℕ) → GeometryFits g → IsFirst g era ws → see g ws (Era i j) ≡ first_words g era (Era i j)
see_era g ws era i j f h =
    elim (cases_Bool (ltb i g.clients && ltb j g.clients)) [
      | inl t ↦ see_fixed g ws era (Era i j) h refl (fixed_is_at g (classes_in g ws) (Era i j) refl t) ∙ with_true (eqb i j) (ltb i g.clients) (and_parts (ltb i g.clients) (ltb j g.clients) t).0
      | inr n ↦ see_absent g ws (Era i j) (λ at. false≢true (sym n ∙ fixed_in g (classes_in g ws) (Era i j) f refl at)) ∙ sym (outside (cases_Bool (eqb i j && ltb i g.clients)) n)
    ]
  where
    with_true : (b d : Bool) → d ≡ true → cond b era 0 ≡ cond (b && d) era 0
    with_true true d z = sym (cond-true d era 0 z)
    with_true false d z = refl

    outside : ((eqb i j && ltb i g.clients) ≡ true) ⊎ ((eqb i j && ltb i g.clients) ≡ false) → (ltb i g.clients && ltb j g.clients) ≡ false → cond (eqb i j && ltb i g.clients) era 0 ≡ 0
    outside (inr z) n = rw z refl
    outside (inl t) n =
        let u = and_parts (eqb i j) (ltb i g.clients) t in
        let l : ltb j g.clients ≡ true = ap (λ x. ltb x g.clients) (sym (eqb-true i j u.0)) ∙ u.1 in
        absurd (false≢true (sym n ∙ and_from _ _ u.1 l))

pub see_first : (g : Geometry) (ws : List ℕ) (era : ℕ) (p : Spot) → GeometryFits g → IsFirst g era ws → see g ws p ≡ first_words g era p
see_first g ws era Spare f h = see_plain g ws era Spare h refl refl
see_first g ws era (Status c) f h = see_plain g ws era (Status c) h refl refl
see_first g ws era (Redo c) f h = see_plain g ws era (Redo c) h refl refl
see_first g ws era (RedoMore c) f h = see_plain g ws era (RedoMore c) h refl refl
see_first g ws era (Hold c) f h = see_plain g ws era (Hold c) h refl refl
see_first g ws era (Latch c) f h = see_plain g ws era (Latch c) h refl refl
see_first g ws era (Home c) f h = see_plain g ws era (Home c) h refl refl
see_first g ws era (Era i j) f h = see_era g ws era i j f h
see_first g ws era (Root c k) f h = see_plain g ws era (Root c k) h refl refl
see_first g ws era (Tail s r) f h = see_plain g ws era (Tail s r) h refl refl
see_first g ws era (QueueHead s r) f h = see_plain g ws era (QueueHead s r) h refl refl
see_first g ws era (Slot s r k) f h = see_plain g ws era (Slot s r k) h refl refl
see_first g ws era (Segment s) f h = see_plain g ws era (Segment s) h refl refl
see_first g ws era (Page s p) f h = see_plain g ws era (Page s p) h refl refl
see_first g ws era (Unused a) f h = see_body g ws era (Unused a) h refl
see_first g ws era (Head b) f h = see_body g ws era (Head b) h refl
see_first g ws era (Tag b) f h = see_body g ws era (Tag b) h refl
see_first g ws era (Body b i) f h = see_body g ws era (Body b i) h refl

-- the words of a pool of which all are 0 but the own eras
pub see-first : (g : Geometry) (ws : List ℕ) (era : ℕ) → GeometryFits g → IsFirst g era ws → see g ws ≡ first_words g era
see-first g ws era f h = fun_ext (λ p. see_first g ws era p f h)
