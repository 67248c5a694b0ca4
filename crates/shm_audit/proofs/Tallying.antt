-- what is found word by word
use Rattle.std.proofs.Common.{◌≡◌, ◌≢◌, ℕ, zero, suc, ◌+◌, ◌%◌, ◌^◌, ◌<◌, ◌≤◌, Bool, true, false, not, ◌&&◌, eqb, ltb, cond, List, length, get_or, set, length-set, get_or-set_same, get_or-set_other, below_more, refl, sym, ap, subst, ◌∙◌, arith, inl, inr}
use Rattle.std.proofs.lemmas.Bool.{cases_Bool, cases_eq, cases_lt, cond-true, cond-false, ne_eqb, eq-eqb, lt-ltb, le-ltb, and_from, true≢false}
use Rattle.std.specs.Prelude.{Option, Some, None}
use Rattle.shm_words.specs.{declared.geometry.Geometry.Geometry, Layout.{GeometryFits, total_of, bodies}}
use Rattle.shm_words.specs.Headers.{header_of}
use Rattle.shm_words.proofs.Placing.{total_small}
use Rattle.shm_graph.specs.{Spots.see, Blocks.headers, References.{sum_below, one_if}}
use Rattle.shm_graph.proofs.Spots.Summing.{sum_below-one_more}
use Rattle.shm_audit.specs.declared.tally.{Found.Found, Reference.Reference, Tally.Tally}
use Rattle.shm_audit.specs.Tallies.{IsFound, IsHead, IsLeast, IsNaming, IsQuiet, IsStray, NoneBelow, Tallied, count_in, is_place, named, names, place_address, places_in, strays, unseen}
use Rattle.shm_audit.proofs.Blocks.{IsNothing, place_there}

-- ---- least numbers, and sums of ones

pub least_on : (test : ℕ → Bool) (n m a : ℕ) → n ≤ m → IsLeast test n a → IsLeast test m a
least_on test n m a l h = record { below = (let b = h.below in omega arith); passes = h.passes; least = h.least }

pub ones_most : (f : ℕ → Bool) (n : ℕ) → sum_below n (λ a. one_if (f a)) ≤ n
ones_most f zero = omega arith
ones_most f (suc n) =
    let i = ones_most f n in
    elim (cases_Bool (f n)) [
      | inl e ↦ (let x = ap one_if e in omega arith)
      | inr e ↦ (let x = ap one_if e in omega arith)
    ]

-- where the sum is 0 none passes
pub ones_none : (f : ℕ → Bool) (n : ℕ) → sum_below n (λ a. one_if (f a)) ≡ 0 → NoneBelow f n
ones_none f zero e = λ a l. absurd (omega arith)
ones_none f (suc n) e =
    let i : sum_below n (λ a. one_if (f a)) ≡ 0 = omega arith in
    let o : one_if (f n) ≡ 0 = omega arith in
    λ a l. elim (cases_eq a n) [
      | inl d ↦ ap f d ∙ elim (cases_Bool (f n)) [
        | inl t ↦ (let x = ap one_if t in absurd (omega arith))
        | inr z ↦ z
      ]
      | inr d ↦ ones_none f n i a (omega (arith, d))
    ]

somes_most : (f : ℕ → ℕ) (n : ℕ) → sum_below n (λ a. cond (eqb (f a) 0) 0 1) ≤ n
somes_most f zero = omega arith
somes_most f (suc n) =
    let i = somes_most f n in
    elim (cases_eq (f n) 0) [
      | inl e ↦ (let x : ◌≡◌ {A = ℕ} (cond (eqb (f n) 0) 0 1) 0 = cond-true (eqb (f n) 0) 0 1 (eq-eqb _ _ e) in omega arith)
      | inr e ↦ (let x : ◌≡◌ {A = ℕ} (cond (eqb (f n) 0) 0 1) 1 = cond-false (eqb (f n) 0) 0 1 (ne_eqb _ _ e) in omega arith)
    ]

wrapped : (x y : ℕ) → y ≡ (x + 1) % 2 ^ 32 → x + 1 < 2 ^ 32 → y ≡ x + 1
wrapped x y e l = omega arith

module _ (g : Geometry) (ws : List ℕ) where
  -- ---- one place

  -- the count of the block at an address, if it is below n
  abbrev pub due : ℕ → ℕ → Option ℕ
  due n b = cond (ltb b n) (count_in (headers (see g ws) b)) None

  pub due_below : (n b : ℕ) → b < n → due n b ≡ count_in (headers (see g ws) b)
  due_below n b l = cond-true (ltb b n) _ None (lt-ltb _ _ l)

  due_above : (n b : ℕ) → n ≤ b → due n b ≡ None
  due_above n b l = cond-false (ltb b n) (count_in (headers (see g ws) b)) None (le-ltb _ _ l)

  due_other : (n b : ℕ) → b ≢ n → due (n + 1) b ≡ due n b
  due_other n b d =
      elim (cases_lt b n) [
        | inl l ↦ due_below (n + 1) b (omega arith) ∙ sym (due_below n b l)
        | inr m ↦ due_above (n + 1) b (omega (arith, m, d)) ∙ sym (due_above n b m)
      ]

  -- where no live block begins
  due_dead : (n b : ℕ) → (headers (see g ws) n).live ≡ false → due (n + 1) b ≡ due n b
  due_dead n b z =
      elim (cases_eq b n) [
        | inl e ↦ due_below (n + 1) b (omega arith) ∙ (ap (λ a. count_in (headers (see g ws) a)) e ∙ (cond-false (headers (see g ws) n).live (Some (headers (see g ws) n).count) None z ∙ sym (due_above n b (omega arith))))
        | inr d ↦ due_other n b d
      ]

  times_other : (n b : ℕ) → named g ws n ≢ b → sum_below (n + 1) (λ a. one_if (names g ws b a)) ≡ sum_below n (λ a. one_if (names g ws b a))
  times_other n b d =
      let m = sum_below-one_more (λ a. one_if (names g ws b a)) n in
      let o : one_if (names g ws b n) ≡ 0 = ap one_if (ne_eqb _ _ d) in
      omega arith

  -- a word that names something else
  found_other : (n b : ℕ) (f : Found) → IsFound g ws n b f → named g ws n ≢ b → due (n + 1) b ≡ due n b → IsFound g ws (n + 1) b f
  found_other n b f h d e =
      record {
        times = h.times ∙ sym (times_other n b d);
        namer = λ some. least_on (names g ws b) n (n + 1) f.namer (omega arith) (h.namer some);
        count = h.count ∙ sym e;
      }

  -- a word that names the place
  found_named : (n b : ℕ) (f next : Found) → IsFound g ws n b f → n + 1 < 2 ^ 32 → named g ws n ≡ b → due (n + 1) b ≡ due n b
      → next.times ≡ (f.times + 1) % 2 ^ 32 → next.namer ≡ cond (eqb f.times 0) n f.namer → next.count ≡ f.count → IsFound g ws (n + 1) b next
  found_named n b f next h small is e times namer count =
      let m = sum_below-one_more (λ a. one_if (names g ws b a)) n in
      let o : one_if (names g ws b n) ≡ 1 = ap one_if (eq-eqb _ _ is) in
      let t = h.times in
      let k = ones_most (names g ws b) n in
      let w : next.times ≡ f.times + 1 = wrapped f.times next.times times (omega arith) in
      record {
        times = omega arith;
        namer = λ some. elim (cases_eq f.times 0) [
          | inl z ↦ (let x : next.namer ≡ n = namer ∙ cond-true (eqb f.times 0) n f.namer (eq-eqb _ _ z) in
              let first : IsLeast (names g ws b) (n + 1) n = record { below = omega arith; passes = eq-eqb _ _ is; least = ones_none (names g ws b) n (sym t ∙ z) } in
              subst (IsLeast (names g ws b) (n + 1)) (sym x) first)
          | inr s ↦ (let x : next.namer ≡ f.namer = namer ∙ cond-false (eqb f.times 0) n f.namer (ne_eqb _ _ s) in
              subst (IsLeast (names g ws b) (n + 1)) (sym x) (least_on (names g ws b) n (n + 1) f.namer (omega arith) (h.namer (omega arith))))
        ];
        count = count ∙ (h.count ∙ sym e);
      }

  -- the live block that begins there
  found_head : (n b c : ℕ) (f next : Found) → IsFound g ws n b f → b ≡ n → named g ws n ≢ b → (headers (see g ws) n).live ≡ true → (headers (see g ws) n).count ≡ c
      → next.times ≡ f.times → next.namer ≡ f.namer → next.count ≡ Some c → IsFound g ws (n + 1) b next
  found_head n b c f next h is d live count times namer now =
      record {
        times = times ∙ (h.times ∙ sym (times_other n b d));
        namer = λ some. subst (IsLeast (names g ws b) (n + 1)) (sym namer) (least_on (names g ws b) n (n + 1) f.namer (omega arith) (h.namer (omega arith)));
        count = now ∙ (sym (ap Some count) ∙ (sym (cond-true (headers (see g ws) n).live (Some (headers (see g ws) n).count) None live) ∙ (sym (ap (λ a. count_in (headers (see g ws) a)) is) ∙ sym (due_below (n + 1) b (omega arith)))));
      }

  -- ---- words that stray

  stray_none : (n : ℕ) (s : Option Reference) → IsStray g ws n s → strays g ws n ≡ false → IsStray g ws (n + 1) s
  stray_none n None h e = below_more _ _ h e
  stray_none n (Some r) h e = (least_on (strays g ws) n (n + 1) r.at (omega arith) h.0, h.1)

  stray_more : (n : ℕ) (s next : Option Reference) (r : Reference) → IsStray g ws n s → strays g ws n ≡ true → r.at ≡ n → r.target ≡ named g ws n → (s ≡ None → next ≡ Some r) → (s ≢ None → next ≡ s) → IsStray g ws (n + 1) next
  stray_more n None next r h e at target none some =
      let first : IsLeast (strays g ws) (n + 1) n = record { below = omega arith; passes = e; least = h } in
      subst (IsStray g ws (n + 1)) (sym (none refl)) (subst (IsLeast (strays g ws) (n + 1)) (sym at) first, target ∙ ap (named g ws) (sym at))
  stray_more n (Some x) next r h e at target none some =
      subst (IsStray g ws (n + 1)) (sym (some (λ z. cc))) (least_on (strays g ws) n (n + 1) x.at (omega arith) h.0, h.1)

  names_nothing : (n : ℕ) → named g ws n ≡ 0 → strays g ws n ≡ false
  names_nothing n z = ap (λ b. not b && not (is_place g (named g ws n))) (eq-eqb _ _ z)

  names_place : (n : ℕ) → is_place g (named g ws n) ≡ true → strays g ws n ≡ false
  names_place n p = under (eqb (named g ws n) 0) (is_place g (named g ws n)) p
    where
      under : (x y : Bool) → y ≡ true → (not x && not y) ≡ false
      under true y e = refl
      under false y e = ap not e

  -- ---- one word

  -- 0 isn't a place
  not_place : (q : ℕ) → 0 ≢ place_address g q
  not_place q e = omega arith

  dead : (n : ℕ) → IsQuiet g ws n → (headers (see g ws) n).live ≡ false
  unfolding header_of
  dead n q = ap (λ w. (header_of w).live) q.header

  same_live : (n : ℕ) (x : ℕ) → (headers (see g ws) n).live ≡ false → x ≡ sum_below n (λ b. one_if (headers (see g ws) b).live) → x ≡ sum_below (n + 1) (λ b. one_if (headers (see g ws) b).live)
  same_live n x d e = let m = sum_below-one_more (λ b. one_if (headers (see g ws) b).live) n in let o : one_if (headers (see g ws) n).live ≡ 0 = ap one_if d in omega arith

  same_refs : (n : ℕ) (x : ℕ) → named g ws n ≡ 0 → x ≡ sum_below n (λ a. cond (eqb (named g ws a) 0) 0 1) → x ≡ sum_below (n + 1) (λ a. cond (eqb (named g ws a) 0) 0 1)
  same_refs n x z e =
      let m = sum_below-one_more (λ a. cond (eqb (named g ws a) 0) 0 1) n in
      let o : ◌≡◌ {A = ℕ} (cond (eqb (named g ws n) 0) 0 1) 0 = cond-true (eqb (named g ws n) 0) 0 1 (eq-eqb _ _ z) in
      omega arith

  more_refs : (n : ℕ) (x y : ℕ) → n + 1 < 2 ^ 32 → named g ws n ≢ 0 → x ≡ sum_below n (λ a. cond (eqb (named g ws a) 0) 0 1) → y ≡ (x + 1) % 2 ^ 32 → y ≡ sum_below (n + 1) (λ a. cond (eqb (named g ws a) 0) 0 1)
  more_refs n x y small some e now =
      let m = sum_below-one_more (λ a. cond (eqb (named g ws a) 0) 0 1) n in
      let o : ◌≡◌ {A = ℕ} (cond (eqb (named g ws n) 0) 0 1) 1 = cond-false (eqb (named g ws n) 0) 0 1 (ne_eqb _ _ some) in
      let k = somes_most (named g ws) n in
      let w = wrapped x y now (omega arith) in
      omega arith

  -- nothing
  pub tally_nothing : (n : ℕ) (t : Tally) → IsNothing g ws n → Tallied g ws n t → Tallied g ws (n + 1) t
  tally_nothing n t (quiet, none) h =
      record {
        start = h.start;
        places = h.places;
        found = λ q l. found_other n (place_address g q) (get_or t.places.items q unseen) (h.found q l) (λ e. not_place q (sym none ∙ e)) (due_dead n (place_address g q) (dead n quiet));
        live = same_live n t.live (dead n quiet) h.live;
        refs = same_refs n t.refs none h.refs;
        stray = stray_none n t.stray h.stray (names_nothing n none);
      }

  pub tally_nothing_to : (m n : ℕ) (t : Tally) → ((j : ℕ) → j < m → IsNothing g ws (n + j)) → Tallied g ws n t → Tallied g ws (n + m) t
  tally_nothing_to zero n t h x = let e : n ≡ n + 0 = omega arith in subst (λ k. Tallied g ws k t) e x
  tally_nothing_to (suc m) n t h x =
      let e : n + m + 1 ≡ n + suc m = omega arith in
      subst (λ k. Tallied g ws k t) e (tally_nothing (n + m) t (h m (omega arith)) (tally_nothing_to m n t (λ j l. h j (omega arith)) x))

  -- a word that names a place
  pub tally_named : (n target p : ℕ) (t next : Tally) (f : Found) → GeometryFits g → n < total_of g → IsNaming g ws n target → p < places_in g → target ≡ place_address g p → Tallied g ws n t
      → next.start ≡ t.start → next.places.items ≡ set t.places.items p f
      → f.times ≡ ((get_or t.places.items p unseen).times + 1) % 2 ^ 32 → f.namer ≡ cond (eqb (get_or t.places.items p unseen).times 0) n (get_or t.places.items p unseen).namer → f.count ≡ (get_or t.places.items p unseen).count
      → next.live ≡ t.live → next.refs ≡ (t.refs + 1) % 2 ^ 32 → next.stray ≡ t.stray → Tallied g ws (n + 1) next
  tally_named n target p t next f fits l naming k is h start now times namer count live refs stray =
      let s = total_small g fits in
      let here : named g ws n ≡ place_address g p = naming.names ∙ is in
      let small : n + 1 < 2 ^ 32 = omega arith in
      let within : p < length t.places.items = (let e = h.places in omega arith) in
      let quiet = dead n naming.quiet in
      record {
        start = start ∙ h.start;
        places = ap length now ∙ (length-set t.places.items p f ∙ h.places);
        found = λ q m. elim (cases_eq q p) [
          | inl e ↦ (
              let x : get_or next.places.items q unseen ≡ f = ap (λ xs. get_or xs q unseen) now ∙ (ap (λ i. get_or (set t.places.items p f) i unseen) e ∙ get_or-set_same t.places.items p f unseen within) in
              let y : IsFound g ws (n + 1) (place_address g p) f = found_named n (place_address g p) (get_or t.places.items p unseen) f (h.found p k) small here (due_dead n (place_address g p) quiet) times namer count in
              subst (IsFound g ws (n + 1) (place_address g q)) (sym x) (subst (λ i. IsFound g ws (n + 1) (place_address g i) f) (sym e) y))
          | inr d ↦ (
              let x : get_or next.places.items q unseen ≡ get_or t.places.items q unseen = ap (λ xs. get_or xs q unseen) now ∙ get_or-set_other t.places.items p q f unseen d in
              let apart : named g ws n ≢ place_address g q = λ z. d (omega (arith, here, z)) in
              subst (IsFound g ws (n + 1) (place_address g q)) (sym x) (found_other n (place_address g q) (get_or t.places.items q unseen) (h.found q m) apart (due_dead n (place_address g q) quiet)))
        ];
        live = same_live n next.live quiet (live ∙ h.live);
        refs = more_refs n t.refs next.refs small (λ z. not_place p (sym z ∙ here)) h.refs refs;
        stray = subst (IsStray g ws (n + 1)) (sym stray) (stray_none n t.stray h.stray (names_place n (ap (is_place g) here ∙ place_there g p k)));
      }

  -- a word that names something that isn't a place
  pub tally_strayed : (n target : ℕ) (t next : Tally) (r : Reference) → GeometryFits g → n < total_of g → IsNaming g ws n target → target ≢ 0 → is_place g target ≡ false → Tallied g ws n t
      → next.start ≡ t.start → next.places.items ≡ t.places.items → next.live ≡ t.live → next.refs ≡ (t.refs + 1) % 2 ^ 32
      → r.at ≡ n → r.target ≡ target → (t.stray ≡ None → next.stray ≡ Some r) → (t.stray ≢ None → next.stray ≡ t.stray) → Tallied g ws (n + 1) next
  tally_strayed n target t next r fits l naming some apart h start now live refs at to none known =
      let s = total_small g fits in
      let small : n + 1 < 2 ^ 32 = omega arith in
      let quiet = dead n naming.quiet in
      let other : (q : ℕ) → q < places_in g → named g ws n ≢ place_address g q = λ q m z. true≢false (sym (place_there g q m) ∙ (ap (is_place g) (sym z ∙ naming.names) ∙ apart)) in
      let ne : named g ws n ≢ 0 = λ z. some (sym naming.names ∙ z) in
      record {
        start = start ∙ h.start;
        places = ap length now ∙ h.places;
        found = λ q m.
            let x : get_or next.places.items q unseen ≡ get_or t.places.items q unseen = ap (λ xs. get_or xs q unseen) now in
            subst (IsFound g ws (n + 1) (place_address g q)) (sym x) (found_other n (place_address g q) (get_or t.places.items q unseen) (h.found q m) (other q m) (due_dead n (place_address g q) quiet));
        live = same_live n next.live quiet (live ∙ h.live);
        refs = more_refs n t.refs next.refs small ne h.refs refs;
        stray = stray_more n t.stray next.stray r h.stray (and_from _ _ (ap not (ne_eqb _ _ ne)) (ap not (ap (is_place g) naming.names ∙ apart))) at (to ∙ sym naming.names) none known;
      }

  -- the header of a live block
  pub tally_head : (n p c : ℕ) (t next : Tally) (f : Found) → GeometryFits g → n < total_of g → IsHead g ws n c → p < places_in g → n ≡ place_address g p → Tallied g ws n t
      → next.start ≡ t.start → next.places.items ≡ set t.places.items p f
      → f.times ≡ (get_or t.places.items p unseen).times → f.namer ≡ (get_or t.places.items p unseen).namer → f.count ≡ Some c
      → next.live ≡ (t.live + 1) % 2 ^ 32 → next.refs ≡ t.refs → next.stray ≡ t.stray → Tallied g ws (n + 1) next
  tally_head n p c t next f fits l head k is h start now times namer count live refs stray =
      let s = total_small g fits in
      let small : n + 1 < 2 ^ 32 = omega arith in
      let within : p < length t.places.items = (let e = h.places in omega arith) in
      let m = sum_below-one_more (λ b. one_if (headers (see g ws) b).live) n in
      let o : one_if (headers (see g ws) n).live ≡ 1 = ap one_if head.live in
      let few = ones_most (λ b. (headers (see g ws) b).live) n in
      let before = h.live in
      let w : next.live ≡ t.live + 1 = wrapped t.live next.live live (omega arith) in
      record {
        start = start ∙ h.start;
        places = ap length now ∙ (length-set t.places.items p f ∙ h.places);
        found = λ q m. elim (cases_eq q p) [
          | inl e ↦ (
              let x : get_or next.places.items q unseen ≡ f = ap (λ xs. get_or xs q unseen) now ∙ (ap (λ i. get_or (set t.places.items p f) i unseen) e ∙ get_or-set_same t.places.items p f unseen within) in
              let y : IsFound g ws (n + 1) (place_address g p) f = found_head n (place_address g p) c (get_or t.places.items p unseen) f (h.found p k) (sym is) (λ z. not_place p (sym head.names ∙ z)) head.live head.count times namer count in
              subst (IsFound g ws (n + 1) (place_address g q)) (sym x) (subst (λ i. IsFound g ws (n + 1) (place_address g i) f) (sym e) y))
          | inr d ↦ (
              let x : get_or next.places.items q unseen ≡ get_or t.places.items q unseen = ap (λ xs. get_or xs q unseen) now ∙ get_or-set_other t.places.items p q f unseen d in
              subst (IsFound g ws (n + 1) (place_address g q)) (sym x) (found_other n (place_address g q) (get_or t.places.items q unseen) (h.found q m) (λ z. not_place q (sym head.names ∙ z)) (due_other n (place_address g q) (λ z. d (omega (arith, is, z))))))
        ];
        live = omega arith;
        refs = same_refs n next.refs head.names (refs ∙ h.refs);
        stray = subst (IsStray g ws (n + 1)) (sym stray) (stray_none n t.stray h.stray (names_nothing n head.names));
      }

  -- before the first word
  pub tally_none : (t : Tally) → t.start ≡ bodies g → length t.places.items ≡ places_in g → ((q : ℕ) → q < places_in g → get_or t.places.items q unseen ≡ unseen) → t.live ≡ 0 → t.refs ≡ 0 → t.stray ≡ None → Tallied g ws 0 t
  tally_none t start len zeros live refs stray =
      record {
        start = start;
        places = len;
        found = λ q l. subst (IsFound g ws 0 (place_address g q)) (sym (zeros q l)) (record { times = refl; namer = λ some. absurd (omega arith); count = sym (due_above 0 (place_address g q) (omega arith)) });
        live = live;
        refs = refs;
        stray = subst (IsStray g ws 0) (sym stray) (λ a l. absurd (omega arith));
      }
