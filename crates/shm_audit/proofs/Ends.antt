-- what was found in all words says of faults and of the verdict
use Rattle.std.proofs.Common.{◌≡◌, ◌≢◌, ℕ, ◌+◌, ◌-◌, ◌/◌, ◌<◌, ◌≤◌, Bool, true, false, not, ◌&&◌, ◌||◌, eqb, ltb, cond, List, get_or, refl, sym, ap, subst, ◌∙◌, arith, inl, inr}
use Rattle.std.proofs.lemmas.Bool.{cases_Bool, cases_eq, cases_lt, cond-true, cond-false, ne_eqb, eq-eqb, eqb-true, lt-ltb, le-ltb, ltb-true, and_parts, false≢true, true≢false}
use Rattle.std.specs.Prelude.{Option, Some, None, MatchOption}
use Rattle.shm_words.specs.declared.{geometry.Geometry.Geometry, header.Header.Header}
use Rattle.shm_words.specs.Layout.{GeometryFits, total_of, bodies, pages}
use Rattle.shm_graph.specs.declared.spot.Spot.{Spot, TheVariants.{Home, Root, Slot, Body}}
use Rattle.shm_graph.specs.{Spots.{see, spot_at, classes_in}, Blocks.{IsLive, classes, headers}}
use Rattle.shm_graph.specs.References.{live_count, one_if, references, references_in_all, references_to, sum_below, words_of}
use Rattle.shm_graph.proofs.{Spots.{Seeing.{classes-see, see-spot}, Spotting.block_within}, States.Reading.live_block}
use Rattle.shm_audit.specs.declared.{tally.{Found.Found, Reference.Reference, Tally.Tally}, verdict.Verdict.Verdict}
use Rattle.shm_audit.specs.declared.verdict.Verdict.TheVariants.{Clean, Uncounted, WrongCount}
use Rattle.shm_audit.specs.{Faults.{is_counted, least_below}, Verdicts.{block_verdict, by_block, found_at, is_wrong}}
use Rattle.shm_audit.specs.Tallies.{ArePages, IsFirstBad, IsFound, IsLeast, NoneBelow, Tallied, bad_at, count_in, counts, earlier, is_bad_place, is_place, named, names, place_address, place_verdict, places_in, strays, unseen}
use Rattle.shm_audit.proofs.Blocks.{block_place, page_is_class, page_word, place_number, place_there}
use Rattle.shm_audit.proofs.Judging.{count_verdict, empty_verdict, judged, right_count, right_dead, wrong_count, wrong_empty}
use Rattle.shm_audit.proofs.{Least.none_below, Tallying.{due_below, ones_none}}

-- ---- words that name something

word_named : (wide : Bool) (w : Spot → ℕ) (p : Spot) → references wide w p ≢ 0 → references wide w p ≡ w p
word_named wide w (Home c) n = refl
word_named wide w (Root c k) n = refl
word_named wide w (Slot s r k) n = refl
word_named wide w (Body b i) n = either (ltb i ((words_of wide w).refs b)) refl
  where
    either : (x : Bool) → ltb i ((words_of wide w).refs b) ≡ x → references wide w (Body b i) ≡ w (Body b i)
    either true e = cond-true (ltb i ((words_of wide w).refs b)) (w (Body b i)) 0 e
    either false e = absurd (n (cond-false (ltb i ((words_of wide w).refs b)) (w (Body b i)) 0 e))
word_named wide w _ n = absurd (n refl)

pub named_word : (g : Geometry) (ws : List ℕ) (a : ℕ) → a < total_of g → named g ws a ≢ 0 → named g ws a ≡ get_or ws a 0
named_word g ws a l n = word_named g.wide (see g ws) (spot_at g (classes_in g ws) a) n ∙ see-spot g ws a l

-- ---- live blocks begin at places

module _ (g : Geometry) (ws : List ℕ) (f : GeometryFits g) (pages_are : ArePages g ws) where
  pub live_place : (b : ℕ) → IsLive (headers (see g ws)) b → is_place g b ≡ true
  live_place b l =
      let is = live_block g ws b l in
      let w = block_within g (classes_in g ws) b is in
      let low = w.0 in
      let high = w.1 in
      let e = page_word g ws b f w.0 w.1 in
      let h = pages_are (pages g + (b - bodies g) / 128) (omega arith) (omega arith) in
      let k = page_is_class (get_or ws (pages g + (b - bodies g) / 128) 0) h (λ z. w.2 (e ∙ z)) in
      block_place g ws b (get_or ws (pages g + (b - bodies g) / 128) 0) (record { is = is; class = e; sized = k })

  counted_place : (b : ℕ) → is_counted (see g ws) b ≡ true → is_place g b ≡ true
  counted_place b c = live_place b (and_parts (headers (see g ws) b).live _ c).0

  stray_uncounted : (b : ℕ) → is_place g b ≡ false → is_counted (see g ws) b ≡ false
  stray_uncounted b e =
      elim (cases_Bool (is_counted (see g ws) b)) [
        | inl c ↦ absurd (true≢false (sym (counted_place b c) ∙ e))
        | inr c ↦ c
      ]

-- ---- the first word that passes a test

module _ (g : Geometry) (ws : List ℕ) where
  abbrev pub IsFirstIn : (ℕ → Bool) → Option Reference → Type 0
  IsFirstIn test o = MatchOption o (NoneBelow test (total_of g)) (λ r. IsLeast test (total_of g) r.at × (r.target ≡ named g ws r.at))

  first_same : (test other : ℕ → Bool) (o : Option Reference) → ((a : ℕ) → a < total_of g → other a ≡ test a) → IsFirstIn test o → IsFirstIn other o
  first_same test other None e h = λ a l. e a l ∙ h a l
  first_same test other (Some r) e (h, t) =
      let l = h.below in (
        record { below = l; passes = e r.at l ∙ h.passes; least = λ b m. e b (omega arith) ∙ h.least b m },
        t,
      )

  -- the words that pass another test too
  first_more : (test hits other : ℕ → Bool) (o : Option Reference) (at target : ℕ) → ((a : ℕ) → a < total_of g → other a ≡ (test a || hits a)) → IsLeast hits (total_of g) at → target ≡ named g ws at
      → IsFirstIn test o → IsFirstIn other (earlier o at target)
  first_more test hits other None at target e first t h =
      let l = first.below in (
        record {
          below = l;
          passes = e at l ∙ either (test at) (hits at) first.passes;
          least = λ b m. e b (omega arith) ∙ neither (test b) (hits b) (h b (omega arith)) (first.least b m);
        },
        t,
      )
    where
      either : (x y : Bool) → y ≡ true → (x || y) ≡ true
      either true y q = refl
      either false y q = q

      neither : (x y : Bool) → x ≡ false → y ≡ false → (x || y) ≡ false
      neither x y p q = ap (λ z. z || y) p ∙ q
  first_more test hits other (Some r) at target e first t (h, u) =
      let l = first.below in
      let k = h.below in
      elim (cases_lt r.at at) [
        | inl m ↦ subst (IsFirstIn other) (sym (cond-true (ltb r.at at) (Some r) (Some (record { at = at; target = target })) (lt-ltb _ _ m))) (
          record {
            below = k;
            passes = e r.at k ∙ ap (λ z. z || hits r.at) h.passes;
            least = λ b n. e b (omega arith) ∙ neither (test b) (hits b) (h.least b n) (first.least b (omega (arith, m, n)));
          },
          u,
        )
        | inr m ↦ subst (IsFirstIn other) (sym (cond-false (ltb r.at at) (Some r) (Some (record { at = at; target = target })) (le-ltb _ _ m))) (
          record {
            below = l;
            passes = e at l ∙ either (test at) (hits at) first.passes;
            least = λ b n. e b (omega arith) ∙ neither (test b) (hits b) (h.least b (omega (arith, m, n))) (first.least b n);
          },
          t,
        )
      ]
    where
      either : (x y : Bool) → y ≡ true → (x || y) ≡ true
      either true y q = refl
      either false y q = q

      neither : (x y : Bool) → x ≡ false → y ≡ false → (x || y) ≡ false
      neither x y p q = ap (λ z. z || y) p ∙ q

-- ---- references

-- a word that names something: no place, or a place below an address that no block with a count above 0 is at
abbrev pub fails : Bool → Bool → Bool → Bool → Bool
fails none place below counted = not none && (not place || (below && not counted))

module _ (g : Geometry) (ws : List ℕ) where
  abbrev pub bad_below : ℕ → ℕ → Bool
  bad_below b a = fails (eqb (named g ws a) 0) (is_place g (named g ws a)) (ltb (named g ws a) b) (is_counted (see g ws) (named g ws a))

  first_strays : (a : ℕ) → bad_below (bodies g) a ≡ strays g ws a
  first_strays a = under (eqb (named g ws a) 0) (is_place g (named g ws a)) refl
    where
      under : (x y : Bool) → is_place g (named g ws a) ≡ y → fails x y (ltb (named g ws a) (bodies g)) (is_counted (see g ws) (named g ws a)) ≡ (not x && not y)
      under true y e = refl
      under false false e = refl
      under false true e =
          let p = place_number g (named g ws a) e in
          let d = p.2 in
          ap (λ l. l && not (is_counted (see g ws) (named g ws a))) (le-ltb (named g ws a) (bodies g) (omega arith))

  pub bad_start : (o : Option Reference) → IsFirstIn g ws (strays g ws) o → IsFirstIn g ws (bad_below (bodies g)) o
  bad_start o h = first_same g ws (strays g ws) (bad_below (bodies g)) o (λ a l. first_strays a) h

  -- the next place
  module _ (q : ℕ) (f : Found) (l : q < places_in g) (h : IsFound g ws (total_of g) (place_address g q) f) where
    counts_here : counts f.count ≡ is_counted (see g ws) (place_address g q)
    counts_here = ap counts (h.count ∙ due_below g ws (total_of g) (place_address g q) (omega arith)) ∙ of (headers (see g ws) (place_address g q))
      where
        of : (x : Header) → counts (count_in x) ≡ (x.live && ltb 0 x.count)
        of x = under x.live refl
          where
            under : (b : Bool) → x.live ≡ b → counts (cond b (Some x.count) None) ≡ (b && ltb 0 x.count)
            under true e = refl
            under false e = refl

    -- what a word says that doesn't name it
    elsewhere : (a : ℕ) → named g ws a ≢ place_address g q → bad_below (place_address g q + 4) a ≡ bad_below (place_address g q) a
    elsewhere a d = under (is_place g (named g ws a)) refl
      where
        under : (y : Bool) → is_place g (named g ws a) ≡ y → fails (eqb (named g ws a) 0) y (ltb (named g ws a) (place_address g q + 4)) (is_counted (see g ws) (named g ws a)) ≡ fails (eqb (named g ws a) 0) y (ltb (named g ws a) (place_address g q)) (is_counted (see g ws) (named g ws a))
        under false e = refl
        under true e =
            let p = place_number g (named g ws a) e in
            let is = p.2 in
            ap (λ x. fails (eqb (named g ws a) 0) true x (is_counted (see g ws) (named g ws a))) (elim (cases_lt (named g ws a) (place_address g q)) [
              | inl m ↦ lt-ltb _ _ (omega arith) ∙ sym (lt-ltb _ _ m)
              | inr m ↦ le-ltb _ _ (omega (arith, is, m, d)) ∙ sym (le-ltb _ _ m)
            ])

    -- and what one says that does
    here_before : (a : ℕ) → named g ws a ≡ place_address g q → bad_below (place_address g q) a ≡ false
    here_before a e =
        ap (λ x. fails (eqb (named g ws a) 0) x (ltb (named g ws a) (place_address g q)) (is_counted (see g ws) (named g ws a))) (ap (is_place g) e ∙ place_there g q l)
        ∙ (ap (λ x. fails (eqb (named g ws a) 0) true x (is_counted (see g ws) (named g ws a))) (le-ltb (named g ws a) (place_address g q) (omega arith))
        ∙ no (eqb (named g ws a) 0))
      where
        no : (x : Bool) → (not x && false) ≡ false
        no true = refl
        no false = refl

    here_after : (a : ℕ) → named g ws a ≡ place_address g q → bad_below (place_address g q + 4) a ≡ not (is_counted (see g ws) (place_address g q))
    here_after a e =
        ap (λ x. fails x (is_place g (named g ws a)) (ltb (named g ws a) (place_address g q + 4)) (is_counted (see g ws) (named g ws a))) (ne_eqb (named g ws a) 0 (λ z. omega (arith, e, z)))
        ∙ (ap (λ x. fails false x (ltb (named g ws a) (place_address g q + 4)) (is_counted (see g ws) (named g ws a))) (ap (is_place g) e ∙ place_there g q l)
        ∙ (ap (λ x. fails false true x (is_counted (see g ws) (named g ws a))) (lt-ltb (named g ws a) (place_address g q + 4) (omega arith))
        ∙ ap (λ n. not (is_counted (see g ws) n)) e))

    pub bad_more : (o : Option Reference) (target : ℕ) → is_bad_place f.times f.count ≡ true → target ≡ place_address g q → IsFirstIn g ws (bad_below (place_address g q)) o → IsFirstIn g ws (bad_below (place_address g q + 4)) (earlier o f.namer target)
    bad_more o target bad is h' =
        let p = and_parts (ltb 0 f.times) (not (counts f.count)) bad in
        let first = h.namer (ltb-true 0 f.times p.0) in
        let uncounted : not (is_counted (see g ws) (place_address g q)) ≡ true = ap not (sym counts_here) ∙ p.1 in
        first_more g ws (bad_below (place_address g q)) (names g ws (place_address g q)) (bad_below (place_address g q + 4)) o f.namer target
        (λ a m. elim (cases_eq (named g ws a) (place_address g q)) [
          | inl e ↦ here_after a e ∙ (uncounted ∙ sym (ap (λ x. bad_below (place_address g q) a || x) (eq-eqb _ _ e) ∙ or_true (bad_below (place_address g q) a)))
          | inr d ↦ elsewhere a d ∙ sym (ap (λ x. bad_below (place_address g q) a || x) (ne_eqb _ _ d) ∙ or_false (bad_below (place_address g q) a))
        ])
        first (is ∙ sym (eqb-true _ _ first.passes)) h'
      where
        or_true : (x : Bool) → (x || true) ≡ true
        or_true true = refl
        or_true false = refl

        or_false : (x : Bool) → (x || false) ≡ x
        or_false true = refl
        or_false false = refl

    pub bad_same : (o : Option Reference) → is_bad_place f.times f.count ≡ false → IsFirstIn g ws (bad_below (place_address g q)) o → IsFirstIn g ws (bad_below (place_address g q + 4)) o
    bad_same o good h' =
        first_same g ws (bad_below (place_address g q)) (bad_below (place_address g q + 4)) o
        (λ a m. elim (cases_eq (named g ws a) (place_address g q)) [
          | inl e ↦ here_after a e ∙ (ap not (counted a m e) ∙ sym (here_before a e))
          | inr d ↦ elsewhere a d
        ]) h'
      where
        counted : (a : ℕ) → a < total_of g → named g ws a ≡ place_address g q → is_counted (see g ws) (place_address g q) ≡ true
        counted a m e =
            let some : 0 < f.times = elim (cases_eq f.times 0) [
              | inl z ↦ absurd (true≢false (sym (eq-eqb _ _ e) ∙ ones_none (names g ws (place_address g q)) (total_of g) (sym h.times ∙ z) a m))
              | inr n ↦ omega (arith, n)
            ] in
            sym counts_here ∙ of (ltb 0 f.times) (counts f.count) (lt-ltb 0 f.times some) good
          where
            of : (x y : Bool) → x ≡ true → (x && not y) ≡ false → y ≡ true
            of x true p q' = refl
            of x false p q' = absurd (true≢false (sym (ap (λ z. z && true) p) ∙ q'))

  -- all places
  module _ (fits : GeometryFits g) (pages_are : ArePages g ws) where
    all_bad : (a : ℕ) → bad_at g ws a ≡ bad_below (total_of g) a
    all_bad a = under (is_place g (named g ws a)) refl
      where
        under : (y : Bool) → is_place g (named g ws a) ≡ y → (not (eqb (named g ws a) 0) && not (is_counted (see g ws) (named g ws a))) ≡ fails (eqb (named g ws a) 0) y (ltb (named g ws a) (total_of g)) (is_counted (see g ws) (named g ws a))
        under false e = ap (λ c. not (eqb (named g ws a) 0) && not c) (stray_uncounted g ws fits pages_are (named g ws a) e)
        under true e =
            let p = place_number g (named g ws a) e in
            let is = p.2 in
            let m = p.1 in
            sym (ap (λ x. fails (eqb (named g ws a) 0) true x (is_counted (see g ws) (named g ws a))) (lt-ltb (named g ws a) (total_of g) (omega arith)))

    first_word : (o : Option Reference) → IsFirstIn g ws (bad_at g ws) o → IsFirstBad g ws o
    first_word None h = h
    first_word (Some r) (h, t) =
        let p = and_parts (not (eqb (named g ws r.at) 0)) (not (is_counted (see g ws) (named g ws r.at))) h.passes in
        (h, t ∙ named_word g ws r.at h.below (λ z. false≢true (sym (ap not (eq-eqb _ _ z)) ∙ p.0)))

    pub bad_end : (o : Option Reference) (b : ℕ) → b ≡ total_of g → IsFirstIn g ws (bad_below b) o → IsFirstBad g ws o
    bad_end o b e h = first_word o (first_same g ws (bad_below (total_of g)) (bad_at g ws) o (λ a l. all_bad a) (subst (λ n. IsFirstIn g ws (bad_below n) o) e h))

-- ---- the verdict

abbrev pub Judges : Geometry → (Spot → ℕ) → ℕ → Option Verdict → Type 0
Judges g w b o = MatchOption o (is_wrong g w b ≡ false) (λ v. (is_wrong g w b ≡ true) × (v ≡ block_verdict g w b))

pub place_judged : (g : Geometry) (w : Spot → ℕ) (b times : ℕ) (count : Option ℕ) → count ≡ count_in (headers w b) → times ≡ found_at g w b → Judges g w b (place_verdict times count b)
place_judged g w b times count e t =
    elim (cases_Bool (headers w b).live) [
      | inl live ↦
          let c = (headers w b).count in
          let is : count ≡ Some c = e ∙ cond-true (headers w b).live (Some c) None live in
          subst (λ o. Judges g w b (place_verdict times o b)) (sym is) (elim (cases_eq c 0) [
            | inl z ↦ subst (Judges g w b) (sym (cond-true (eqb c 0) (Some (Uncounted b)) (cond (eqb c times) None (Some (WrongCount b c times))) (eq-eqb _ _ z))) (wrong_empty g w b live z, sym (empty_verdict g w b z))
            | inr n ↦ subst (Judges g w b) (sym (cond-false (eqb c 0) (Some (Uncounted b)) (cond (eqb c times) None (Some (WrongCount b c times))) (ne_eqb _ _ n))) (elim (cases_eq c times) [
              | inl s ↦ subst (Judges g w b) (sym (cond-true (eqb c times) None (Some (WrongCount b c times)) (eq-eqb _ _ s))) (right_count g w b live n (s ∙ t))
              | inr d ↦ subst (Judges g w b) (sym (cond-false (eqb c times) None (Some (WrongCount b c times)) (ne_eqb _ _ d))) (wrong_count g w b live n (λ z. d (z ∙ sym t)), ap (WrongCount b c) t ∙ sym (count_verdict g w b n))
            ])
          ])
      | inr dead ↦
          let is : count ≡ None = e ∙ cond-false (headers w b).live (Some (headers w b).count) None dead in
          subst (λ o. Judges g w b (place_verdict times o b)) (sym is) (right_dead g w b dead)
    ]

module _ (g : Geometry) (ws : List ℕ) (t : Tally) (f : GeometryFits g) (pages_are : ArePages g ws) (h : Tallied g ws (total_of g) t) where
  found_is : (b : ℕ) → found_at g (see g ws) b ≡ sum_below (total_of g) (λ a. one_if (names g ws b a))
  unfolding references_to
  found_is b = ap (λ c. sum_below (total_of g) (λ a. one_if (eqb (references g.wide (see g ws) (spot_at g c a)) b))) (classes-see g ws f)

  pub judges : (q : ℕ) → q < places_in g → let x = get_or t.places.items q unseen in Judges g (see g ws) (place_address g q) (place_verdict x.times x.count (place_address g q))
  judges q l =
      let x = h.found q l in
      place_judged g (see g ws) (place_address g q) _ _ (x.count ∙ due_below g ws (total_of g) (place_address g q) (omega arith)) (x.times ∙ sym (found_is (place_address g q)))

  right_before : (i : ℕ) → i ≤ places_in g → ((q : ℕ) → q < i → is_wrong g (see g ws) (place_address g q) ≡ false) → (a : ℕ) → a < place_address g i → is_wrong g (see g ws) a ≡ false
  right_before i l right a m =
      elim (cases_Bool (headers (see g ws) a).live) [
        | inl live ↦ (let p = place_number g a (live_place g ws f pages_are a live) in let e = p.2 in ap (is_wrong g (see g ws)) e ∙ right p.0 (omega arith))
        | inr dead ↦ right_dead g (see g ws) a dead
      ]

  pub judge_wrong : (i b : ℕ) (v : Verdict) → b ≡ place_address g i → i < places_in g → ((q : ℕ) → q < i → is_wrong g (see g ws) (place_address g q) ≡ false) → is_wrong g (see g ws) b ≡ true → v ≡ block_verdict g (see g ws) b
      → v ≡ by_block g (see g ws) (least_below (total_of g) (is_wrong g (see g ws)))
  judge_wrong i b v e l right wrong is =
      is ∙ sym (judged g (see g ws) b (omega arith) wrong (λ a m. right_before i (omega arith) right a (omega arith)))

  alive_is : t.live ≡ live_count g (see g ws)
  unfolding live_count
  alive_is = h.live

  refs_are : t.refs ≡ references_in_all g (classes (see g ws)) (references g.wide (see g ws))
  unfolding references_in_all
  refs_are = h.refs ∙ ap (λ c. sum_below (total_of g) (λ a. cond (eqb (references g.wide (see g ws) (spot_at g c a)) 0) 0 1)) (sym (classes-see g ws f))

  pub judge_clean : (i : ℕ) → i ≡ places_in g → ((q : ℕ) → q < i → is_wrong g (see g ws) (place_address g q) ≡ false) → Clean t.live t.refs ≡ by_block g (see g ws) (least_below (total_of g) (is_wrong g (see g ws)))
  judge_clean i e right =
      ap (λ n. Clean n t.refs) alive_is
      ∙ (ap (Clean (live_count g (see g ws))) refs_are
      ∙ sym (ap (by_block g (see g ws)) (none_below (total_of g) (is_wrong g (see g ws)) (λ a l. right_before i (omega arith) right a (omega arith)))))
