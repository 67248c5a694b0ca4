-- What roots name, and live blocks, page by page, as the words of a pool say it.
use Rattle.std.proofs.Common.{◌≡◌, ◌≢◌, ℕ, zero, suc, ◌+◌, ◌*◌, ◌-◌, ◌/◌, ◌%◌, ◌<◌, ◌≤◌, Bool, true, false, cond, eqb, get_or, refl, sym, ap, subst, ◌∙◌, arith, inl, inr}
use Rattle.std.proofs.lemmas.Bool.{and_from, cases_eq, cond-true, cond-false, eq-eqb, lt-ltb, ne_eqb, true≢false}
use Rattle.std.specs.Prelude.{slice_index}
use Rattle.shm_words.specs.{declared.geometry.Geometry.Geometry, Headers.header_of}
use Rattle.shm_words.specs.Layout.{address, bodies, pages, total_of}
use Rattle.shm_words.specs.declared.place.Place.TheVariants as place
use Rattle.shm_graph.specs.declared.spot.Spot.TheVariants.{Body, Head, Root, Tag, Unused}
use Rattle.shm_graph.specs.References.{live_count, one_if, sum_below}
use Rattle.shm_graph.specs.Spots.{IsAt, block_spot, classes_in, is_in_body, see, spot_address, spot_at}
use Rattle.shm_graph.proofs.Spots.{Fixed.fixed_is_at, Seeing.see_there, SpotPlaces.body_spot_at}
use Rattle.shm_graph.proofs.Spots.{Spotting.{at_below, spot_before_bodies}, WordsAt.{block_header, no_head, page_class}}
use Rattle.shm_plain.specs.Pools.{IsRun, Pool}
use Rattle.shm_tree.specs.{Building.root_block, Holding.lives_below, Keeping.is_live}

-- ---- sums

sum_none : (n : ℕ) (f : ℕ → ℕ) → ((a : ℕ) → a < n → f a ≡ 0) → sum_below n f ≡ 0
sum_none zero f e = refl
sum_none (suc n) f e = let i = sum_none n f (λ a l. e a (omega (arith, l))) in let j = e n (omega arith) in omega (arith, i, j)

pub one_most : (b : Bool) → one_if b ≤ 1
one_most = elim [ true ↦ omega arith | false ↦ omega arith ]

pub lives_few : (p : Pool) (n : ℕ) → lives_below p n ≤ n
lives_few p zero = omega arith
lives_few p (suc n) = let i = lives_few p n in let j = one_most (is_live p n) in omega (arith, i, j)

pub lives_next : (p : Pool) (n : ℕ) → lives_below p (n + 1) ≡ lives_below p n + one_if (is_live p n)
lives_next p n = let e : n + 1 ≡ suc n = omega arith in ap (lives_below p) e

-- ---- one word

no_live : (w : ℕ) → w ≡ 0 → (header_of w).live ≡ false
unfolding header_of
no_live w z = ap (λ x. (header_of x).live) z

module _ (p : Pool) where
  abbrev g : Geometry
  g = p.start.geometry

  none_live : (a : ℕ) → ((b : ℕ) → spot_at g (classes_in g p.words) a ≡ Head b → ⊥) → is_live p a ≡ false
  none_live a other = no_live (see g p.words (Head a)) (no_head g p.words a other)

  module _ (class a i : ℕ) (spot : spot_at g (classes_in g p.words) a ≡ block_spot class a i) where
    -- in a page that has no blocks
    pub free_live : class ≡ 0 → is_live p a ≡ false
    free_live z =
        let s : spot_at g (classes_in g p.words) a ≡ Unused a = spot ∙ cond-true (eqb class 0) _ _ (eq-eqb _ _ z) in
        none_live a (λ b e. (let x : Unused a ≡ Head b = sym s ∙ e in cc))

    used : class ≢ 0 → spot_at g (classes_in g p.words) a ≡ cond (eqb (i % class) 0) (Head a) (cond (eqb (i % class) 1) (Tag (a - 1)) (Body (a - i % class) (i % class - 2)))
    used some = spot ∙ cond-false (eqb class 0) _ _ (ne_eqb _ _ some)

    -- within a block
    pub inner_live : class ≢ 0 → i % class ≢ 0 → is_live p a ≡ false
    inner_live some ne =
        let s : spot_at g (classes_in g p.words) a ≡ cond (eqb (i % class) 1) (Tag (a - 1)) (Body (a - i % class) (i % class - 2)) = used some ∙ cond-false (eqb (i % class) 0) _ _ (ne_eqb _ _ ne) in
        none_live a (elim (cases_eq (i % class) 1) [
          | inl y ↦ (let t : spot_at g (classes_in g p.words) a ≡ Tag (a - 1) = s ∙ cond-true (eqb (i % class) 1) _ _ (eq-eqb _ _ y) in λ b e. (let x : Tag (a - 1) ≡ Head b = sym t ∙ e in cc))
          | inr n ↦ (let t : spot_at g (classes_in g p.words) a ≡ Body (a - i % class) (i % class - 2) = s ∙ cond-false (eqb (i % class) 1) _ _ (ne_eqb _ _ n) in λ b e. (let x : Body (a - i % class) (i % class - 2) ≡ Head b = sym t ∙ e in cc))
        ])

    -- where a block begins
    pub head_live : class ≢ 0 → i % class ≡ 0 → is_live p a ≡ (header_of (get_or p.words a 0)).live
    head_live some z =
        let s : spot_at g (classes_in g p.words) a ≡ Head a = used some ∙ cond-true (eqb (i % class) 0) _ _ (eq-eqb _ _ z) in
        ap (λ w. (header_of w).live) (block_header g p.words a s)

  -- ---- pages

  -- what a word of a page is for
  pub page_spot : (n i class : ℕ) → n < 16 * g.segments → i < 128 → class ≡ get_or p.words (pages g + n) 0 → spot_at g (classes_in g p.words) (bodies g + 128 * n + i) ≡ block_spot class (bodies g + 128 * n + i) i
  unfolding address
  page_spot n i class low within is =
      let s : n / 16 < g.segments = omega arith in
      let m : n % 16 < 16 = omega arith in
      let x : pages g + 16 * (n / 16) + n % 16 ≡ pages g + n = omega arith in
      let k : classes_in g p.words (n / 16) (n % 16) ≡ class = page_class g p.words (n / 16) (n % 16) s m ∙ (ap (λ y. get_or p.words y 0) x ∙ sym is) in
      let at : bodies g + 2048 * (n / 16) + 128 * (n % 16) + i ≡ bodies g + 128 * n + i = omega arith in
      let here = body_spot_at g (classes_in g p.words) (n / 16) (n % 16) i s m within in
      let there : spot_at g (classes_in g p.words) (bodies g + 128 * n + i) ≡ block_spot (classes_in g p.words (n / 16) (n % 16)) (bodies g + 128 * n + i) i = subst (λ (y : ℕ). spot_at g (classes_in g p.words) y ≡ block_spot (classes_in g p.words (n / 16) (n % 16)) y i) at here in
      there ∙ ap (λ (y : ℕ). block_spot y (bodies g + 128 * n + i) i) k

  pub page_inside : (n i : ℕ) → n < 16 * g.segments → i < 128 → (pages g + n < total_of g) × (bodies g + 128 * n + i < total_of g)
  page_inside n i low within = (omega arith, omega arith)

  pub page_within : (n i x : ℕ) → n < 16 * g.segments → i < 128 → x ≡ bodies g → x + 128 * n + i < total_of g
  page_within n i x low within e = let w = page_inside n i low within in omega (arith, w.1, e)

  -- before the pages' words no block begins
  pub lives_first : lives_below p (bodies g) ≡ 0
  lives_first = sum_none (bodies g) (λ b. one_if (is_live p b)) (λ a l. ap one_if (none_live a (λ b e. true≢false (sym (ap is_in_body e) ∙ spot_before_bodies g (classes_in g p.words) a l))))

  pub lives_all : (n : ℕ) → n ≡ total_of g → lives_below p n ≡ live_count g (see g p.words)
  unfolding live_count
  lives_all n e = ap (lives_below p) e

-- ---- the layout

pub page_start : (g h : Geometry) (x : ℕ) → h ≡ g → x ≡ address h (place.Page 0 0) → x ≡ pages g
unfolding address
page_start g h x e is = let f : address g (place.Page 0 0) ≡ pages g = omega arith in is ∙ (ap (λ (z : Geometry). address z (place.Page 0 0)) e ∙ f)

pub body_start : (g h : Geometry) (x : ℕ) → h ≡ g → x ≡ address h (place.Body 0 0 0) → x ≡ bodies g
unfolding address
body_start g h x e is = let f : address g (place.Body 0 0 0) ≡ bodies g = omega arith in is ∙ (ap (λ (z : Geometry). address z (place.Body 0 0 0)) e ∙ f)

-- ---- roots

module _ (p : Pool) (k : ℕ) (one : p.start.geometry.clients ≡ 1) (low : k < 16) where
  root_there : IsAt p.start.geometry (classes_in p.start.geometry p.words) (Root 0 k)
  root_there =
      let first : 0 < p.start.geometry.clients = omega (arith, one) in
      fixed_is_at p.start.geometry (classes_in p.start.geometry p.words) (Root 0 k) refl (and_from _ _ (lt-ltb 0 p.start.geometry.clients first) (lt-ltb k 16 low))

  pub root_below : address p.start.geometry (place.Root 0 k) < total_of p.start.geometry
  unfolding spot_address
  root_below = at_below p.start.geometry (classes_in p.start.geometry p.words) (Root 0 k) root_there

  pub root_read : IsRun p → root_block p k ≡ slice_index p.words (address p.start.geometry (place.Root 0 k))
  unfolding spot_address
  root_read run =
      let first : 0 < p.start.geometry.clients = omega (arith, one) in
      run.held.at.mine 0 first (Root 0 k) refl ∙ see_there p.start.geometry p.words (Root 0 k) root_there
