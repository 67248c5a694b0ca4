-- what the words of a page are
use Rattle.std.proofs.Common.{◌≡◌, ◌≢◌, ℕ, ◌+◌, ◌-◌, ◌*◌, ◌/◌, ◌%◌, ◌<◌, ◌≤◌, true, false, not, ◌&&◌, eqb, ltb, leb, List, get_or, refl, sym, ap, subst, ◌∙◌, arith, inl, inr}
use Rattle.std.proofs.lemmas.Bool.{cases_eq, cond-true, ne_eqb, eq-eqb, and_parts, and_from, false≢true}
use Rattle.std.proofs.lemmas.Bool.Decides.{nat_tests}
use Rattle.std.specs.Prelude.{Option, Some, None}
use Rattle.shm_words.specs.declared.{geometry.Geometry.Geometry, tag.Tag.Tag as ATag}
use Rattle.shm_words.specs.{Layout.{GeometryFits, total_of, pages, bodies, address}, Classes.IsClass, Headers.header_of}
use Rattle.shm_words.specs.Tags.{tag_of, tag_refs}
use Rattle.shm_words.proofs.Words.{tag_fields}
use Rattle.shm_graph.specs.declared.spot.Spot.{Spot, TheVariants.{Unused, Head, Tag, Body}}
use Rattle.shm_graph.specs.{Spots.{see, spot_at, classes_in, class_at}, Blocks.{headers, classes}}
use Rattle.shm_graph.specs.References.{references, words_of}
use Rattle.shm_graph.proofs.Spots.Spotting.{head_at, spot_in_bodies, block_within, tag_spot, body_spot}
use Rattle.shm_graph.proofs.Spots.WordsAt.{no_head, block_header, block_tag, page_class, refs_dead, body_reference, body_plain}
use Rattle.shm_audit.specs.Faults.{is_bad_header, is_bad_tag, is_page_word, tag_suits}
use Rattle.shm_audit.specs.Tallies.{HasBlock, IsNaming, IsQuiet, is_place, named, places_in, place_address}
use Rattle.shm_audit.proofs.Tested.{tag_test, test_at}

-- ---- the pages

pub page_word : (g : Geometry) (ws : List ℕ) (a : ℕ) → GeometryFits g → bodies g ≤ a → a < total_of g → class_at g (classes_in g ws) a ≡ get_or ws (pages g + (a - bodies g) / 128) 0
unfolding address
page_word g ws a f l m =
    let s : (a - bodies g) / 2048 < g.segments = omega arith in
    let e = page_class g ws ((a - bodies g) / 2048) ((a - bodies g) / 128 % 16) s (omega arith) in
    let x : pages g + 16 * ((a - bodies g) / 2048) + (a - bodies g) / 128 % 16 ≡ pages g + (a - bodies g) / 128 = omega arith in
    e ∙ ap (λ n. get_or ws n 0) x

-- the class of a page's words
pub class_of_page : (g : Geometry) (ws : List ℕ) (p a : ℕ) → GeometryFits g → p < 16 * g.segments → bodies g + 128 * p ≤ a → a < bodies g + 128 * p + 128 → class_at g (classes_in g ws) a ≡ get_or ws (pages g + p) 0
class_of_page g ws p a f l low high =
    let e : (a - bodies g) / 128 ≡ p = omega arith in
    page_word g ws a f (omega arith) (omega arith) ∙ ap (λ n. get_or ws (pages g + n) 0) e

pub page_is_class : (k : ℕ) → is_page_word k ≡ true → k ≢ 0 → IsClass k
page_is_class k h n = grind (arith, nat_tests)

-- the next block of a page, or its end
pub next_block : (x k : ℕ) → IsClass k → x % k ≡ 0 → x < 128 → ((x + k) % k ≡ 0) × (x + k ≤ 128)
next_block x k (inl e) h l = let P : ℕ → Type 0 = λ n. x % n ≡ 0 → ((x + n) % n ≡ 0) × (x + n ≤ 128) in subst P (sym e) (λ z. (omega arith, omega arith)) h
next_block x k (inr (inl e)) h l = let P : ℕ → Type 0 = λ n. x % n ≡ 0 → ((x + n) % n ≡ 0) × (x + n ≤ 128) in subst P (sym e) (λ z. (omega arith, omega arith)) h
next_block x k (inr (inr (inl e))) h l = let P : ℕ → Type 0 = λ n. x % n ≡ 0 → ((x + n) % n ≡ 0) × (x + n ≤ 128) in subst P (sym e) (λ z. (omega arith, omega arith)) h
next_block x k (inr (inr (inr e))) h l = let P : ℕ → Type 0 = λ n. x % n ≡ 0 → ((x + n) % n ≡ 0) × (x + n ≤ 128) in subst P (sym e) (λ z. (omega arith, omega arith)) h

same_page : (x y : ℕ) → x % 128 ≡ 0 → x ≤ y → y < x + 128 → (y / 2048 ≡ x / 2048) × (y / 128 % 16 ≡ x / 128 % 16) × (y % 128 ≡ y - x)
same_page x y z l m = (omega arith, omega arith, omega arith)

-- blocks begin at places
four_divides : (x k : ℕ) → IsClass k → x % 128 % k ≡ 0 → x % 4 ≡ 0
four_divides x k (inl e) h = let P : ℕ → Type 0 = λ n. x % 128 % n ≡ 0 → x % 4 ≡ 0 in subst P (sym e) (λ z. omega arith) h
four_divides x k (inr (inl e)) h = let P : ℕ → Type 0 = λ n. x % 128 % n ≡ 0 → x % 4 ≡ 0 in subst P (sym e) (λ z. omega arith) h
four_divides x k (inr (inr (inl e))) h = let P : ℕ → Type 0 = λ n. x % 128 % n ≡ 0 → x % 4 ≡ 0 in subst P (sym e) (λ z. omega arith) h
four_divides x k (inr (inr (inr e))) h = let P : ℕ → Type 0 = λ n. x % 128 % n ≡ 0 → x % 4 ≡ 0 in subst P (sym e) (λ z. omega arith) h

pub class_above : (k : ℕ) → IsClass k → 1 < k
class_above k is = grind (arith, nat_tests)

module _ (g : Geometry) (ws : List ℕ) (first at k : ℕ) (start : bodies g ≤ first) (end : first + 128 ≤ total_of g) (page : (first - bodies g) % 128 ≡ 0) (class : class_at g (classes_in g ws) first ≡ k) (low : first ≤ at) (high : at < first + 128) where
  pub class_in_page : class_at g (classes_in g ws) at ≡ k
  class_in_page =
      let s = same_page (first - bodies g) (at - bodies g) page (omega arith) (omega arith) in
      (rw (s.0, s.1) refl) ∙ class

  pub block_in_page : IsClass k → (at - first) % k ≡ 0 → HasBlock g ws at k
  block_in_page is h =
      let s = same_page (first - bodies g) (at - bodies g) page (omega arith) (omega arith) in
      let x : (at - bodies g) % 128 ≡ at - first = omega arith in
      let n : k ≢ 0 = λ z. (let a = class_above k is in omega arith) in
      record {
        is = spot_in_bodies g (classes_in g ws) at (omega arith) (omega arith)
            ∙ (rw (class_in_page, x, h, ne_eqb k 0 n) refl);
        class = class_in_page;
        sized = is;
      }

-- ---- places

pub place_there : (g : Geometry) (q : ℕ) → q < places_in g → is_place g (place_address g q) ≡ true
place_there g q l =
    let e : place_address g q - bodies g ≡ 4 * q = omega arith in
    let m : (place_address g q - bodies g) % 4 ≡ 0 = omega arith in
    let d : (place_address g q - bodies g) / 4 < places_in g = omega arith in
    let s : bodies g ≤ place_address g q = omega arith in
    and_from (leb (bodies g) (place_address g q)) _ (grind (arith, nat_tests)) (and_from _ (ltb ((place_address g q - bodies g) / 4) (places_in g)) (eq-eqb _ 0 m) (grind (arith, nat_tests)))

pub place_number : (g : Geometry) (b : ℕ) → is_place g b ≡ true → (q : ℕ) × (q < places_in g) × (b ≡ place_address g q)
place_number g b e =
    let p = and_parts (leb (bodies g) b) _ e in
    let r = and_parts (eqb ((b - bodies g) % 4) 0) (ltb ((b - bodies g) / 4) (places_in g)) p.1 in
    let s : bodies g ≤ b = (let x = p.0 in grind (arith, nat_tests)) in
    let m : (b - bodies g) % 4 ≡ 0 = (let x = r.0 in grind (arith, nat_tests)) in
    let d : (b - bodies g) / 4 < places_in g = (let x = r.1 in grind (arith, nat_tests)) in
    ((b - bodies g) / 4, d, omega arith)

-- ---- spots without a header

module _ (g : Geometry) (ws : List ℕ) (a : ℕ) (p : Spot) (s : spot_at g (classes_in g ws) a ≡ p) where
  pub quiet_spot : ((b : ℕ) → p ≡ Head b → ⊥) → is_bad_tag g (see g ws) p ≡ false → IsQuiet g ws a
  quiet_spot other good = record { header = no_head g ws a (λ b e. other b (sym s ∙ e)); tag = ap (is_bad_tag g (see g ws)) s ∙ good }

  pub named_spot : (x : ℕ) → references g.wide (see g ws) p ≡ x → named g ws a ≡ x
  named_spot x e = ap (references g.wide (see g ws)) s ∙ e

-- a header other than 0 stands where a header is at fault
pub quiet_header : (g : Geometry) (ws : List ℕ) (a : ℕ) → see g ws (Head a) ≡ 0 → test_at is_bad_header g ws a ≡ false
quiet_header g ws a z = at (spot_at g (classes_in g ws) a) refl
  where
    at : (p : Spot) → spot_at g (classes_in g ws) a ≡ p → is_bad_header g (see g ws) p ≡ false
    at (Head b) e =
        let d = head_at g (classes_in g ws) a b e in
        ap (λ w. not (eqb w 0) && not ((header_of w).live && ltb (header_of w).client g.clients)) (ap (λ n. see g ws (Head n)) (sym d) ∙ z)
    at _ e = refl

-- there is nothing at this address
abbrev pub IsNothing : Geometry → List ℕ → ℕ → Type 0
IsNothing g ws a = IsQuiet g ws a × (named g ws a ≡ 0)

-- a page without a class
pub nothing_unused : (g : Geometry) (ws : List ℕ) (a : ℕ) → bodies g ≤ a → a < total_of g → class_at g (classes_in g ws) a ≡ 0 → IsNothing g ws a
nothing_unused g ws a l m z =
    let s : spot_at g (classes_in g ws) a ≡ Unused a = spot_in_bodies g (classes_in g ws) a l m ∙ cond-true (eqb (class_at g (classes_in g ws) a) 0) _ _ (eq-eqb _ _ z) in
    (quiet_spot g ws a (Unused a) s (λ b e. cc) refl, named_spot g ws a (Unused a) s 0 refl)

-- ---- blocks

module _ (g : Geometry) (ws : List ℕ) (b k : ℕ) (h : HasBlock g ws b k) where
  block_class : IsClass (class_at g (classes_in g ws) b)
  block_class = let P : ℕ → Type 0 = λ n. IsClass n in subst P (sym h.class) h.sized

  pub tag_here : spot_at g (classes_in g ws) (b + 1) ≡ Tag b
  tag_here = tag_spot g (classes_in g ws) b h.is block_class

  body_here : (i : ℕ) → 2 + i < k → spot_at g (classes_in g ws) (b + 2 + i) ≡ Body b i
  body_here i l = let e = h.class in body_spot g (classes_in g ws) b i h.is block_class (omega arith)

  pub block_end : b + k ≤ total_of g
  block_end =
      let w = block_within g (classes_in g ws) b h.is in
      let e : (b - bodies g) % 128 % k ≡ 0 = ap (λ c. (b - bodies g) % 128 % c) (sym h.class) ∙ w.3 in
      let m = (next_block ((b - bodies g) % 128) k h.sized e (omega arith)).1 in
      let l = w.0 in
      let u = w.1 in
      omega arith

  pub block_place : is_place g b ≡ true
  block_place =
      let w = block_within g (classes_in g ws) b h.is in
      let e : (b - bodies g) % 128 % k ≡ 0 = ap (λ c. (b - bodies g) % 128 % c) (sym h.class) ∙ w.3 in
      let m = four_divides (b - bodies g) k h.sized e in
      let l = w.0 in
      let u = w.1 in
      let x : place_address g ((b - bodies g) / 4) ≡ b = omega arith in
      ap (is_place g) (sym x) ∙ place_there g ((b - bodies g) / 4) (omega arith)

  pub head_named : named g ws b ≡ 0
  head_named = named_spot g ws b (Head b) h.is 0 refl

  pub head_tag : test_at is_bad_tag g ws b ≡ false
  head_tag = ap (is_bad_tag g (see g ws)) h.is

  pub nothing_tag : test_at is_bad_tag g ws (b + 1) ≡ false → IsNothing g ws (b + 1)
  nothing_tag good = (quiet_spot g ws (b + 1) (Tag b) tag_here (λ d e. cc) (ap (is_bad_tag g (see g ws)) (sym tag_here) ∙ good), named_spot g ws (b + 1) (Tag b) tag_here 0 refl)

  pub quiet_body : (i : ℕ) → 2 + i < k → IsQuiet g ws (b + 2 + i)
  quiet_body i l = quiet_spot g ws (b + 2 + i) (Body b i) (body_here i l) (λ d e. cc) refl

  nothing_plain : (i r : ℕ) → 2 + i < k → (words_of g.wide (see g ws)).refs b ≡ r → r ≤ i → IsNothing g ws (b + 2 + i)
  nothing_plain i r l e m = (quiet_body i l, named_spot g ws (b + 2 + i) (Body b i) (body_here i l) 0 (body_plain g ws b i r e m))

  -- behind the tag and the references there is nothing
  nothing_behind : (r j : ℕ) → (words_of g.wide (see g ws)).refs b ≡ r → 2 + r + j < k → IsNothing g ws (b + (2 + r) + j)
  nothing_behind r j e l =
      let x : b + 2 + (r + j) ≡ b + (2 + r) + j = omega arith in
      subst (IsNothing g ws) x (nothing_plain (r + j) r (omega arith) e (omega arith))

  -- no header is at fault behind that of the block
  pub behind_head : (j : ℕ) → 0 < j → j < k → test_at is_bad_header g ws (b + j) ≡ false
  behind_head j some l =
      elim (cases_eq j 1) [
        | inl o ↦ ap (λ n. test_at is_bad_header g ws (b + n)) o ∙ ap (is_bad_header g (see g ws)) tag_here
        | inr m ↦ (let e : b + j ≡ b + 2 + (j - 2) = omega (arith, some, m) in ap (test_at is_bad_header g ws) e ∙ ap (is_bad_header g (see g ws)) (body_here (j - 2) (omega (arith, some, m))))
      ]

  -- nor a tag behind its tag
  pub behind_tag : (j : ℕ) → 1 < j → j < k → test_at is_bad_tag g ws (b + j) ≡ false
  behind_tag j some l =
      let e : b + j ≡ b + 2 + (j - 2) = omega arith in
      ap (test_at is_bad_tag g ws) e ∙ ap (is_bad_tag g (see g ws)) (body_here (j - 2) (omega arith))

  -- ---- a free block

  module _ (free : get_or ws b 0 ≡ 0) where
    free_dead : (header_of (get_or ws b 0)).live ≡ false
    unfolding header_of
    free_dead = ap (λ w. (header_of w).live) free

    free_tag : test_at is_bad_tag g ws (b + 1) ≡ false
    free_tag =
        let d : (headers (see g ws) b).live ≡ false = ap (λ w. (header_of w).live) (block_header g ws b h.is) ∙ free_dead in
        ap (is_bad_tag g (see g ws)) tag_here
        ∙ ap (λ l. l && not (tag_suits g.clients (class_at g (classes (see g ws)) b) (tag_of g.wide (see g ws (Tag b))))) d

    free_head : IsNothing g ws b
    free_head = (record { header = block_header g ws b h.is ∙ free; tag = head_tag }, head_named)

    pub free_block : (j : ℕ) → j < k → IsNothing g ws (b + j)
    free_block j l =
        elim (cases_eq j 0) [
          | inl z ↦ (let e : b ≡ b + j = omega arith in subst (IsNothing g ws) e free_head)
          | inr n ↦ elim (cases_eq j 1) [
            | inl o ↦ (let e : b + 1 ≡ b + j = omega arith in subst (IsNothing g ws) e (nothing_tag free_tag))
            | inr m ↦ (let e : b + 2 + (j - 2) ≡ b + j = omega (arith, n, m) in subst (IsNothing g ws) e (nothing_plain (j - 2) 0 (omega (arith, n, m)) (refs_dead g ws b h.is free_dead) (omega arith)))
          ]
        ]

  -- ---- a live one, and its tag

  module _ (f : GeometryFits g) (alive : (header_of (get_or ws b 0)).live ≡ true) where
    pub live_head : (headers (see g ws) b).live ≡ true
    live_head = ap (λ w. (header_of w).live) (block_header g ws b h.is) ∙ alive

    pub live_tag : test_at is_bad_tag g ws (b + 1) ≡ not (tag_suits g.clients k (tag_of g.wide (get_or ws (b + 1) 0)))
    live_tag =
        tag_test g ws (b + 1) b f tag_here
        ∙ (ap (λ z. z && not (tag_suits g.clients (class_at g (classes_in g ws) b) (tag_of g.wide (get_or ws (b + 1) 0)))) alive
        ∙ ap (λ n. not (tag_suits g.clients n (tag_of g.wide (get_or ws (b + 1) 0)))) h.class)

    module _ (suited : tag_suits g.clients k (tag_of g.wide (get_or ws (b + 1) 0)) ≡ true) where
      refs_fit : (o : Option ATag) → tag_of g.wide (get_or ws (b + 1) 0) ≡ o → tag_suits g.clients k o ≡ true → 2 + tag_refs g.wide (get_or ws (b + 1) 0) ≤ k
      refs_fit None e s = absurd (false≢true s)
      refs_fit (Some t) e s =
          let p = (and_parts (leb (2 + t.refs + t.plain) k) (ltb t.author g.clients) s).0 in
          let r = (tag_fields g.wide (get_or ws (b + 1) 0) t e).1 in
          let q : 2 + t.refs + t.plain ≤ k = grind (arith, nat_tests) in
          omega arith

      pub refs_room : 2 + tag_refs g.wide (get_or ws (b + 1) 0) ≤ k
      refs_room = refs_fit _ refl suited

      pub good_tag : test_at is_bad_tag g ws (b + 1) ≡ false
      good_tag = live_tag ∙ ap not suited

      refs_are : (words_of g.wide (see g ws)).refs b ≡ tag_refs g.wide (get_or ws (b + 1) 0)
      refs_are =
          cond-true (header_of (see g ws (Head b))).live (tag_refs g.wide (see g ws (Tag b))) 0 live_head
          ∙ ap (tag_refs g.wide) (block_tag g ws b tag_here)

      naming_body : (i : ℕ) → i < tag_refs g.wide (get_or ws (b + 1) 0) → IsNaming g ws (b + 2 + i) (get_or ws (b + 2 + i) 0)
      naming_body i l =
          let m : 2 + i < k = (let r = refs_room in omega arith) in
          record { quiet = quiet_body i m; names = named_spot g ws (b + 2 + i) (Body b i) (body_here i m) _ (body_reference g ws (b + 2 + i) b i (tag_refs g.wide (get_or ws (b + 1) 0)) (body_here i m) refs_are l) }

      pub live_naming : (a : ℕ) → b + 2 ≤ a → a < b + 2 + tag_refs g.wide (get_or ws (b + 1) 0) → IsNaming g ws a (get_or ws a 0)
      live_naming a l m =
          let e : b + 2 + (a - (b + 2)) ≡ a = omega arith in
          subst (λ n. IsNaming g ws n (get_or ws n 0)) e (naming_body (a - (b + 2)) (omega arith))

      pub live_behind : (j : ℕ) → j < k - (2 + tag_refs g.wide (get_or ws (b + 1) 0)) → IsNothing g ws (b + (2 + tag_refs g.wide (get_or ws (b + 1) 0)) + j)
      live_behind j l = nothing_behind (tag_refs g.wide (get_or ws (b + 1) 0)) j refs_are (let r = refs_room in omega arith)
