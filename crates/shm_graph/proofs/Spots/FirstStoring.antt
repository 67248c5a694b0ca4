-- how the first words are stored
use Rattle.std.proofs.Common.{◌≡◌, ℕ, ◌+◌, ◌<◌, refl, sym, ap, ◌∙◌, arith, subst, inl, inr, List, length, get_or, set, replicate, length-set, true, lt-ltb}
use Rattle.std.proofs.lemmas.List.{ext_get_or, get_or-set_same, get_or-set_other, get_or-replicate, length-replicate}
use Rattle.std.proofs.lemmas.Bool.{cases_eq, ne_eqb, and_from, Decides.nat_tests}
use Rattle.std.specs.Prelude.{◌==◌, ◌&&◌, nat_lt, if◌then◌else◌}
use Rattle.shm_words.specs.declared.{place.Place.{Place, TheVariants.Era}, geometry.Geometry.Geometry}
use Rattle.shm_words.specs.Layout.{GeometryFits, place_at, address, is_in, total_of}
use Rattle.shm_words.proofs.Placing.{place-address, address_below, address-place, in_place}
use Rattle.shm_graph.specs.{declared.run.Start.Start, Runs.{first_word, first_words, words_from}}
use Rattle.shm_graph.proofs.States.FirstHeld.{length-words_from, at-words_from}

-- all words are 0, but the own eras of the identities below n
abbrev pub first_below : ℕ → ℕ → Place → ℕ
first_below era n (Era i j) = if (i == j) && nat_lt i n then era else 0
first_below era n _ = 0

abbrev pub word_below : Geometry → ℕ → ℕ → ℕ → ℕ
word_below g era n a = first_below era n (place_at g a)

abbrev pub words_below : Geometry → ℕ → ℕ → List ℕ
words_below g era n = words_from (word_below g era n) 0 (total_of g)

pub length-words_below : (g : Geometry) (era n : ℕ) → length (words_below g era n) ≡ total_of g
length-words_below g era n = length-words_from (word_below g era n) 0 (total_of g)

at_below : (g : Geometry) (era n i : ℕ) → i < total_of g → get_or (words_below g era n) i 0 ≡ word_below g era n i
at_below g era n i l = let z : 0 + i ≡ i = omega arith in at-words_from (word_below g era n) 0 (total_of g) i l ∙ ap (word_below g era n) z

-- ---- no own era is stored

nothing : (era : ℕ) (p : Place) → first_below era 0 p ≡ 0
nothing era (Era i j) = grind (arith, nat_tests)
nothing era _ = refl

pub none_below : (g : Geometry) (era : ℕ) → replicate (total_of g) 0 ≡ words_below g era 0
none_below g era = ext_get_or 0 (replicate (total_of g) 0) (words_below g era 0) (length-replicate (total_of g) 0 ∙ sym (length-words_below g era 0))
    (λ i h. let l : i < total_of g = subst (λ (z : ℕ). i < z) (length-replicate (total_of g) 0) h in get_or-replicate (total_of g) i 0 0 l ∙ sym (at_below g era 0 i l ∙ nothing era (place_at g i)))

-- ---- one more is

pub own_in : (g : Geometry) (c : ℕ) → c < g.clients → is_in g (Era c c) ≡ true
own_in g c l = and_from _ _ (lt-ltb c g.clients l) (lt-ltb c g.clients l)

here : (era c : ℕ) → first_below era (c + 1) (Era c c) ≡ era
here era c = grind (arith, nat_tests)

there : (era c : ℕ) (p : Place) → (p ≡ Era c c → ⊥) → first_below era (c + 1) p ≡ first_below era c p
there era c (Era i j) n =
    elim (cases_eq i j) [
      | inl e ↦ elim (cases_eq i c) [
        | inl q ↦ absurd (n cc)
        | inr m ↦ grind (arith, nat_tests)
      ]
      | inr m ↦ rw (ne_eqb i j m) refl
    ]
there era c _ n = refl

pub one_more : (g : Geometry) (era c : ℕ) → GeometryFits g → c < g.clients → set (words_below g era c) (address g (Era c c)) era ≡ words_below g era (c + 1)
one_more g era c fits l =
    let a : ℕ = address g (Era c c) in
    let ws : List ℕ = words_below g era c in
    let long : length ws ≡ total_of g = length-words_below g era c in
    let p : place_at g a ≡ Era c c = place-address g (Era c c) (own_in g c l) in
    let below : a < total_of g = address_below g (Era c c) (own_in g c l) fits in
    ext_get_or 0 (set ws a era) (words_below g era (c + 1)) (length-set ws a era ∙ (long ∙ sym (length-words_below g era (c + 1))))
    (λ i h. let q : i < total_of g = subst (λ (z : ℕ). i < z) (length-set ws a era ∙ long) h in
    elim (cases_eq i a) [
      | inl e ↦ ap (λ (x : ℕ). get_or (set ws a era) x 0) e ∙ (get_or-set_same ws a era 0 (subst (λ (x : ℕ). a < x) (sym long) below) ∙ sym (at_below g era (c + 1) i q ∙ (ap (word_below g era (c + 1)) e ∙ (ap (first_below era (c + 1)) p ∙ here era c))))
      | inr m ↦ get_or-set_other ws a i era 0 m ∙ (at_below g era c i q ∙ sym (at_below g era (c + 1) i q ∙ there era c (place_at g i) (λ s. m (sym (address-place g i q) ∙ ap (address g) s))))
    ])

-- ---- all are

every : (g : Geometry) (era : ℕ) (p : Place) → is_in g p ≡ true → first_below era g.clients p ≡ first_word era p
every g era (Era i j) h = grind (arith, nat_tests)
every g era _ h = refl

pub all_below : (s : Start) → GeometryFits s.geometry → words_below s.geometry s.first_era s.geometry.clients ≡ first_words s
all_below s fits =
    let g : Geometry = s.geometry in
    let e : ℕ = s.first_era in
    let f : (ℕ → ℕ) = λ a. first_word e (place_at g a) in
    ext_get_or 0 (words_below g e g.clients) (first_words s) (length-words_below g e g.clients ∙ sym (length-words_from f 0 (total_of g)))
    (λ i h. let l : i < total_of g = subst (λ (z : ℕ). i < z) (length-words_below g e g.clients) h in let z : 0 + i ≡ i = omega arith in
    at_below g e g.clients i l ∙ (every g e (place_at g i) (in_place g i fits l) ∙ sym (at-words_from f 0 (total_of g) i l ∙ ap f z)))
