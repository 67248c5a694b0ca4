-- counting the blocks that are live, and the words that name one, by pages
use Rattle.std.proofs.Common.{◌≡◌, ◌≢◌, ℕ, zero, suc, ◌+◌, ◌-◌, ◌*◌, ◌/◌, ◌%◌, ◌<◌, ◌≤◌, Bool, eqb, cond, List, get_or, refl, sym, ap, subst, ◌∙◌, arith, inl, inr, ◌⊎◌, min, true}
use Rattle.std.proofs.{Math.Nat.mod-add-div', lemmas.Nat.mod-mul-add}
use Rattle.std.proofs.lemmas.Bool.{cases_Bool, cases_eq, cases_lt, cond-true, cond-false, ne_eqb, eq-eqb, true≢false}
use Rattle.std.proofs.lemmas.Bool.Decides.{nat_tests}
use Rattle.shm_words.specs.{declared.geometry.Geometry.Geometry, Layout.{GeometryFits, pages, bodies, address}}
use Rattle.shm_words.specs.{Classes.IsClass, Headers.header_of, Tags.tag_refs}
use Rattle.shm_graph.specs.declared.spot.Spot.{Spot, TheVariants.{Unused, Head, Tag, Body}}
use Rattle.shm_graph.specs.{Spots.{see, spot_at, classes_in, class_at, is_in_body}, Blocks.{IsBlock, headers}}
use Rattle.shm_graph.specs.References.{sum_below, one_if, references, words_of}
use Rattle.shm_graph.proofs.Spots.Spotting.{spot_in_bodies, spot_before_bodies, head_at, block_within, tag_spot, body_spot}
use Rattle.shm_graph.proofs.Spots.{Summing.sum_below-one_more, Seeing.classes-see}
use Rattle.shm_graph.proofs.Spots.WordsAt.{no_head, block_header, body_reference, body_plain, page_class}
use Rattle.shm_graph.proofs.States.Reading.{live_room}
use Rattle.shm_report.specs.{PoolWords.IsCleanPool, Counts.{names_one, Counted, IsEndOf, IsPage}}

-- ---- sums

-- f adds nothing from n on below k
sum_flat : (f : ℕ → ℕ) (n k : ℕ) → n ≤ k → ((a : ℕ) → n ≤ a → a < k → f a ≡ 0) → sum_below k f ≡ sum_below n f
sum_flat f n zero l h = let e : zero ≡ n = omega arith in ap (λ x. sum_below x f) e
sum_flat f n (suc k) l h =
    elim (cases_eq n (suc k)) [
      | inl e ↦ ap (λ x. sum_below x f) (sym e)
      | inr d ↦ (let i = sum_flat f n k (omega (arith, d)) (λ a p q. h a p (omega arith)) in let z = h k (omega (arith, d)) (omega arith) in omega arith)
    ]

-- from n on f is h
sum_after : (f h : ℕ → ℕ) (n m : ℕ) → ((i : ℕ) → i < m → f (n + i) ≡ h i) → sum_below (n + m) f ≡ sum_below n f + sum_below m h
sum_after f h n zero e = let x : n + zero ≡ n = omega arith in let y = ap (λ k. sum_below k f) x in omega arith
sum_after f h n (suc m) e =
    let x : n + suc m ≡ suc (n + m) = omega arith in
    let y = ap (λ k. sum_below k f) x in
    let i = sum_after f h n m (λ j l. e j (omega arith)) in
    let z = e m (omega arith) in
    omega arith

some_most : (x : ℕ) → cond (eqb x 0) 0 1 ≤ 1
some_most x = grind (arith, nat_tests)

pub somes_most : (f : ℕ → ℕ) (n : ℕ) → sum_below n (λ a. cond (eqb (f a) 0) 0 1) ≤ n
somes_most f zero = omega arith
somes_most f (suc n) = let i = somes_most f n in let x = some_most (f n) in omega arith

-- ---- words that are no header and name nothing

no_live : (w : ℕ) → w ≡ 0 → one_if (header_of w).live ≡ 0
unfolding header_of
no_live w z = ap (λ x. one_if (header_of x).live) z

pub one_most : (b : Bool) → one_if b ≤ 1
one_most b = grind (arith, nat_tests)

pub not_body : (g : Geometry) (class : ℕ → ℕ → ℕ) (a : ℕ) (p : Spot) → a < bodies g → is_in_body p ≡ true → spot_at g class a ≡ p → ⊥
not_body g class a p l is e = true≢false (sym is ∙ (sym (ap is_in_body e) ∙ spot_before_bodies g class a l))

module _ (g : Geometry) (ws : List ℕ) where
  abbrev live_one : ℕ → ℕ
  live_one b = one_if (headers (see g ws) b).live

  -- a word before the bodies
  pub counted_word : (n alive found a f : ℕ) → Counted g ws n alive found → n < bodies g → a ≡ alive → f ≡ found + names_one g ws n → Counted g ws (n + 1) a f
  counted_word n alive found a f c l same more =
      let z = no_live _ (no_head g ws n (λ b e. not_body g (classes_in g ws) n (Head b) l refl e)) in
      let x = sum_below-one_more live_one n in
      let y = sum_below-one_more (names_one g ws) n in
      let most = some_most (references g.wide (see g ws) (spot_at g (classes_in g ws) n)) in
      let room = c.room in
      record {
        live = let h = c.live in omega arith;
        refs = λ pool. (let h = c.refs pool in omega arith);
        room = (omega arith, omega arith);
      }

  -- words of which none is a header or names a block
  pub counted_flat : (n k alive found : ℕ) → n ≤ k → ((a : ℕ) → n ≤ a → a < k → (see g ws (Head a) ≡ 0) × (names_one g ws a ≡ 0)) → Counted g ws n alive found → Counted g ws k alive found
  counted_flat n k alive found l h c =
      let x = sum_flat live_one n k l (λ a p q. no_live _ (h a p q).0) in
      let y = sum_flat (names_one g ws) n k l (λ a p q. (h a p q).1) in
      let room = c.room in
      record {
        live = c.live ∙ sym x;
        refs = λ pool. c.refs pool ∙ sym y;
        room = (omega arith, omega arith);
      }

  pub names_none : (a : ℕ) (p : Spot) → spot_at g (classes_in g ws) a ≡ p → references g.wide (see g ws) p ≡ 0 → names_one g ws a ≡ 0
  names_none a p e z = ap (λ q. cond (eqb (references g.wide (see g ws) q) 0) 0 1) e ∙ cond-true (eqb (references g.wide (see g ws) p) 0) 0 1 (eq-eqb _ _ z)

-- ---- pages

module _ (g : Geometry) (ws : List ℕ) where
  -- the class of the page of a word
  pub class_of_page : (p a : ℕ) → p < 16 * g.segments → bodies g + 128 * p ≤ a → a < bodies g + 128 * p + 128 → class_at g (classes_in g ws) a ≡ get_or ws (pages g + p) 0
  unfolding address
  class_of_page p a l low high =
      let s : (a - bodies g) / 2048 < g.segments = omega arith in
      let e = page_class g ws ((a - bodies g) / 2048) ((a - bodies g) / 128 % 16) s (omega arith) in
      let x : pages g + 16 * ((a - bodies g) / 2048) + (a - bodies g) / 128 % 16 ≡ pages g + p = omega arith in
      e ∙ ap (λ n. get_or ws n 0) x

  -- a page without a class
  pub unused_word : (p a : ℕ) → p < 16 * g.segments → get_or ws (pages g + p) 0 ≡ 0 → bodies g + 128 * p ≤ a → a < bodies g + 128 * p + 128 → (see g ws (Head a) ≡ 0) × (names_one g ws a ≡ 0)
  unused_word p a l z low high =
      let s : spot_at g (classes_in g ws) a ≡ Unused a = spot_in_bodies g (classes_in g ws) a (omega arith) (omega arith) ∙ cond-true (eqb (class_at g (classes_in g ws) a) 0) _ _ (eq-eqb _ _ (class_of_page p a l low high ∙ z)) in
      (no_head g ws a (λ b e. (let x : Unused a ≡ Head b = sym s ∙ e in cc)), names_none g ws a (Unused a) s refl)

  -- a page of a class, whose blocks stand so many words behind one another, and where that is more than a page, only one is there
  pub is_page : (p k step : ℕ) → p < 16 * g.segments → k ≡ get_or ws (pages g + p) 0 → k ≢ 0 → step ≡ min k 128 → IsPage g ws (bodies g + 128 * p) step
  is_page p k step l is some least =
      let class = class_of_page p (bodies g + 128 * p) l (omega arith) (omega arith) ∙ sym is in
      record {
        start = omega arith;
        end = omega arith;
        page = omega arith;
        some = (omega (arith, least, some), omega (arith, least));
        class = elim (cases_lt k 128) [
          | inl m ↦ (let e : step ≡ k = omega (arith, least, m) in inl (class ∙ sym e))
          | inr m ↦ (let e : step ≡ 128 = omega (arith, least, m) in inr (e, omega (arith, class, m)))
        ];
      }

-- in a page whose blocks stand so many words behind one another
stride : (x j k s : ℕ) → (k ≡ s) ⊎ ((s ≡ 128) × (128 ≤ k)) → x % s ≡ 0 → x < 128 → j < s → (x + j) % k ≡ j
stride x j k s (inl e) z l m =
    let d = mod-add-div' x s in
    let y : x + j ≡ x / s * s + j = omega arith in
    ap (λ n. (x + j) % n) e ∙ (ap (λ n. n % s) y ∙ mod-mul-add (x / s) s j m)
stride x j k s (inr e) z l m =
    let w : x % 128 ≡ 0 = ap (λ n. x % n) (sym e.0) ∙ z in
    let y : x + j ≡ 0 * k + j = omega arith in
    ap (λ n. n % k) y ∙ mod-mul-add 0 k j (omega (arith, e.0, e.1))

class_below : (k : ℕ) → IsClass k → (1 < k) × (k ≤ 32)
class_below k is = (grind (arith, nat_tests), grind (arith, nat_tests))

same_page : (x y : ℕ) → x % 128 ≡ 0 → x ≤ y → y < x + 128 → (y / 2048 ≡ x / 2048) × (y / 128 % 16 ≡ x / 128 % 16) × (y % 128 ≡ y - x)
same_page x y z l m = (omega arith, omega arith, omega arith)

whole_blocks : (x k : ℕ) → IsClass k → x % k ≡ 0 → x < 128 → x + k ≤ 128
whole_blocks x k (inl e) h l = let P : ℕ → Type 0 = λ n. x % n ≡ 0 → x + n ≤ 128 in subst P (sym e) (λ z. omega arith) h
whole_blocks x k (inr (inl e)) h l = let P : ℕ → Type 0 = λ n. x % n ≡ 0 → x + n ≤ 128 in subst P (sym e) (λ z. omega arith) h
whole_blocks x k (inr (inr (inl e))) h l = let P : ℕ → Type 0 = λ n. x % n ≡ 0 → x + n ≤ 128 in subst P (sym e) (λ z. omega arith) h
whole_blocks x k (inr (inr (inr e))) h l = let P : ℕ → Type 0 = λ n. x % n ≡ 0 → x + n ≤ 128 in subst P (sym e) (λ z. omega arith) h

module _ (g : Geometry) (ws : List ℕ) (first step at : ℕ) (p : IsPage g ws first step) (low : first ≤ at) (high : at < first + 128) (block : (at - first) % step ≡ 0) where
  abbrev class_now : ℕ
  class_now = class_at g (classes_in g ws) first

  -- an address before the next block: its class, and its place in its block
  class_behind : (a : ℕ) → at ≤ a → a < at + step → a < first + 128 → (class_at g (classes_in g ws) a ≡ class_now) × ((a - bodies g) % 128 % class_now ≡ a - at)
  class_behind a l m n =
      let start = p.start in
      let s = same_page (first - bodies g) (a - bodies g) p.page (omega arith) (omega arith) in
      let x : (a - bodies g) % 128 ≡ at - first + (a - at) = omega arith in
      ((rw (s.0, s.1) refl), ap (λ n. n % class_now) x ∙ stride (at - first) (a - at) class_now step p.class block (omega arith) (omega arith))

  class_here : (class_at g (classes_in g ws) at ≡ class_now) × ((at - bodies g) % 128 % class_now ≡ 0)
  class_here = let s = p.some in let c = class_behind at (omega arith) (omega arith) high in (c.0, omega (arith, c.1))

  some_class : class_now ≢ 0
  some_class z = let s = p.some in elim p.class [
    | inl e ↦ omega (arith, e, z)
    | inr e ↦ omega (arith, z, e.1)
  ]

  pub page_block : IsBlock g (classes_in g ws) at
  page_block =
      let start = p.start in
      let end = p.end in
      let c = class_here in
      spot_in_bodies g (classes_in g ws) at (omega arith) (omega arith) ∙ (rw (c.0, c.1, ne_eqb class_now 0 some_class) refl)

  no_block : (a : ℕ) → at < a → a < at + step → a < first + 128 → see g ws (Head a) ≡ 0
  no_block a l m n =
      let c = class_behind a (omega arith) m n in
      no_head g ws a (λ b h. (
      let w = (block_within g (classes_in g ws) a (h ∙ ap Head (sym (head_at g (classes_in g ws) a b h)))).3 in
      let e = ap (λ k. (a - bodies g) % 128 % k) c.0 in
      omega (arith, w, e, c.1)))

  -- the next block, or the end of the page
  pub page_end : (n : ℕ) → at < n → n ≤ at + step → n ≤ first + 128 → (at + step ≤ first + 128 → n ≡ at + step) → IsEndOf g ws at n
  page_end n l m o e =
      let start = p.start in
      let c = class_here.0 in
      record {
        above = l;
        alone = λ a q r. no_block a q (omega arith) (omega arith);
        whole = λ k. elim p.class [
          | inl h ↦ (
              let is : IsClass step = (let P : ℕ → Type 0 = λ x. IsClass x in subst P (c ∙ h) k) in
              let w = whole_blocks (at - first) step is block (omega arith) in
              let d = c ∙ h in
              let r = e (omega arith) in
              omega arith)
          | inr h ↦ (let w = (class_below (class_at g (classes_in g ws) at) k).1 in let q = h.1 in absurd (omega arith))
        ];
      }

-- ---- blocks

module _ (g : Geometry) (ws : List ℕ) (b n : ℕ) (f : GeometryFits g) (is : IsBlock g (classes_in g ws) b) (end : IsEndOf g ws b n) where
  block_live : sum_below n (live_one g ws) ≡ sum_below b (live_one g ws) + one_if (header_of (get_or ws b 0)).live
  block_live =
      let a = end.above in
      let x = sum_flat (live_one g ws) (b + 1) n (omega arith) (λ a p q. no_live _ (end.alone a (omega arith) q)) in
      let y = sum_below-one_more (live_one g ws) b in
      let z = ap (λ w. one_if (header_of w).live) (block_header g ws b is) in
      omega arith

  -- in a clean pool a block has a class, and its references fit in it
  module _ (pool : IsCleanPool g ws) where
    clean_class : IsClass (class_at g (classes_in g ws) b)
    clean_class = elim (pool.clean.pages _ _) [
      | inl z ↦ absurd ((block_within g (classes_in g ws) b is).2 (sym (ap (λ c. class_at g c b) (classes-see g ws f)) ∙ z))
      | inr k ↦ (let P : (ℕ → ℕ → ℕ) → Type 0 = λ c. IsClass (class_at g c b) in subst P (classes-see g ws f) k)
    ]

    refs_room : 2 + (words_of g.wide (see g ws)).refs b ≤ class_at g (classes_in g ws) b
    refs_room = elim (cases_Bool (headers (see g ws) b).live) [
      | inl live ↦ (let e = cond-true (headers (see g ws) b).live (tag_refs g.wide (see g ws (Tag b))) 0 live in let r = live_room g ws b f pool.clean live in omega arith)
      | inr dead ↦ (let e = cond-false (headers (see g ws) b).live (tag_refs g.wide (see g ws (Tag b))) 0 dead in let k = (class_below _ clean_class).0 in omega arith)
    ]

    block_refs : (r : ℕ) → r ≡ (words_of g.wide (see g ws)).refs b → sum_below n (names_one g ws) ≡ sum_below b (names_one g ws) + sum_below r (λ i. cond (eqb (get_or ws (b + 2 + i) 0) 0) 0 1)
    block_refs r e =
        let k = class_at g (classes_in g ws) b in
        let room = refs_room in
        let w = end.whole clean_class in
        let body_at : (i : ℕ) → 2 + i < k → spot_at g (classes_in g ws) (b + 2 + i) ≡ Body b i = λ i l. body_spot g (classes_in g ws) b i is clean_class l in
        let head = names_none g ws b (Head b) is refl in
        let tag = names_none g ws (b + 1) (Tag b) (tag_spot g (classes_in g ws) b is clean_class) refl in
        let x = sum_below-one_more (names_one g ws) b in
        let y = sum_below-one_more (names_one g ws) (b + 1) in
        let two : b + 1 + 1 ≡ b + 2 = omega arith in
        let z = ap (λ m. sum_below m (names_one g ws)) two in
        let u = sum_after (names_one g ws) (λ i. cond (eqb (get_or ws (b + 2 + i) 0) 0) 0 1) (b + 2) r (λ i l. ap (λ v. cond (eqb v 0) 0 1) (ap (references g.wide (see g ws)) (body_at i (omega arith)) ∙ body_reference g ws (b + 2 + i) b i r (body_at i (omega arith)) (sym e) l)) in
        let v = sum_flat (names_one g ws) (b + 2 + r) n (omega arith) (λ a p q. (
        let s : b + 2 + (a - (b + 2)) ≡ a = omega arith in
        subst (λ m. names_one g ws m ≡ 0) s (names_none g ws (b + 2 + (a - (b + 2))) (Body b (a - (b + 2))) (body_at (a - (b + 2)) (omega arith)) (body_plain g ws b (a - (b + 2)) r (sym e) (omega arith))))) in
        omega arith

  pub counted_block : (r alive found a s : ℕ) → Counted g ws b alive found → (IsCleanPool g ws → r ≡ (words_of g.wide (see g ws)).refs b) → r ≤ 255
      → a ≡ alive + one_if (header_of (get_or ws b 0)).live → s ≡ found + sum_below r (λ i. cond (eqb (get_or ws (b + 2 + i) 0) 0) 0 1) → Counted g ws n a s
  counted_block r alive found a s c refs small live more =
      let above = end.above in
      let room = c.room in
      let one = one_most (header_of (get_or ws b 0)).live in
      let most = somes_most (λ i. get_or ws (b + 2 + i) 0) r in
      record {
        live = let h = c.live in let x = block_live in omega arith;
        refs = λ pool. (let h = c.refs pool in let x = block_refs pool r (refs pool) in omega arith);
        room = (omega arith, omega arith);
      }
